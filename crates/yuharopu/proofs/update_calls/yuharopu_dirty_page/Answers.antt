-- `update_calls::yuharopu_dirty_page` meets its contract.
use mathlib.Core.Path.{sym, ◌∙◌}
use Rattle.std.specs.Prelude.{Ok}
use Rattle.encoding.specs.Called.{given_none, given_some, exported_told}
use Rattle.yuharopu.specs.StoreCalls.{dirty_done, dirty_frames, dirty_short}
use Rattle.yuharopu.proofs.update_calls.yuharopu_dirty_page.Goals as goal

pub returns-in_default : goal.returns-in_default
returns-in_default c =
    let a = c.args in
    rw c.number.ensures (dirty_short a.state.now a.answer.now a.frames.now a.numbers.now a.page a.dst.now (given_none a.state.now a.answer.now c.in_default.ensures.state))

pub returns-then-frames_are_short : goal.returns-then-frames_are_short
returns-then-frames_are_short c =
    let a = c.args in
    let known = given_some a.state.now a.answer.now _ c.in-Some.ensures.state in
    rw c.number-then-frames_are_short.ensures (dirty_frames a.state.now a.answer.now a.frames.now a.numbers.now a.page a.dst.now _ known.0 known.1 (sym c.frames_are_short.ensures ∙ c.if-frames_are_short.true))

pub returns : goal.returns
returns c =
    let a = c.args in
    let known = given_some a.state.now a.answer.now _ c.in-Some.ensures.state in
    rw c.copy.ensures
    (dirty_done a.state.now a.answer.now a.frames.now a.numbers.now a.page a.dst.now _ known.0 known.1 _ _ _ (sym c.frames_are_short.ensures ∙ c.if-frames_are_short.false) c.dirty_page-bytes.ensures (λ st. c.tell.ensures st ∙ exported_told st a.answer.now (Ok _)))
