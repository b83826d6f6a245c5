-- `update_calls::yuharopu_rollback_update` meets its contract.
use Rattle.update.specs.Laid.{bufs}
use Rattle.store.specs.Calls.{rollback}
use Rattle.transfer.specs.OnMemory.{lent}
use Rattle.encoding.specs.Called.{call_none, call_some}
use Rattle.yuharopu.proofs.update_calls.yuharopu_rollback_update.Goals as goal

pub returns-in_default : goal.returns-in_default
returns-in_default c =
    let a = c.args in
    λ m w. rw c.number.ensures (call_none a.state.now a.answer.now c.in_default.ensures.state (lent m (bufs a.frames.now a.numbers.now a.clean.now a.«record».now) w) rollback)

pub returns : goal.returns
returns c =
    let a = c.args in
    λ m w. call_some a.state.now a.answer.now _ c.in-Some.ensures.state _ _ rollback _ (c.rollback_update-answered.ensures m w) c.show.ensures
