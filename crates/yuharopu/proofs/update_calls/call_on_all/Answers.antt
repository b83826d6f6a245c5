-- What is shown is what the call of the closure left.
use Rattle.std.proofs.Common.{sym, ◌∙◌}
use Rattle.update.specs.Laid.{bufs}
use Rattle.transfer.specs.OnMemory.{lent}
use Rattle.encoding.specs.Called.{called, call_none, call_some}
use Rattle.yuharopu.proofs.update_calls.call_on_all.Goals as goal

pub returns-in_default : goal.returns-in_default
returns-in_default g c =
    let a = c.args in
    let l = lent a.mem.now (bufs a.frames.now a.numbers.now a.clean.now a.«record».now) a.work.now in
    λ call is.
    (λ i. called (c.number.ensures i) a.state.now l a.answer.now (sym is.fills i))
    ∙ call_none a.state.now a.answer.now c.in_default.ensures.state l call

pub returns : goal.returns
returns g c =
    let a = c.args in
    λ call is. call_some a.state.now a.answer.now _ c.in-Some.ensures.state _ _ call _ (is.does _ _ _ c.apply-answered.ensures) c.show.ensures
