-- `update_calls::yuharopu_read_at` meets its contract.
use Rattle.update.specs.Laid.{bufs}
use Rattle.store.specs.Calls.{read}
use Rattle.transfer.specs.OnMemory.{lent}
use Rattle.encoding.specs.Called.{call_none, call_some}
use Rattle.yuharopu.proofs.update_calls.yuharopu_read_at.Goals as goal

pub returns-in_default : goal.returns-in_default
returns-in_default c =
    let a = c.args in
    λ w. rw c.number.ensures (call_none a.state.now a.answer.now c.in_default.ensures.state (lent a.mem.now (bufs a.frames.now a.numbers.now a.clean.now a.«record».now) w) (read a.offset a.dst.now))

pub returns : goal.returns
returns c =
    let a = c.args in
    λ w. call_some a.state.now a.answer.now _ c.in-Some.ensures.state _ _ (read a.offset a.dst.now) _ (c.read_at-answered.ensures w) c.show.ensures
