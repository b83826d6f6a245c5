-- `transfer_calls::yuharopu_checksum` meets its contract.
use mathlib.Core.Path.{◌∙◌}
use Rattle.store.specs.Calls.{checksum}
use Rattle.transfer.specs.OnMemory.{lent}
use Rattle.encoding.specs.Called.{ask_none, ask_some, checksum_told}
use Rattle.yuharopu.proofs.transfer_calls.yuharopu_checksum.Goals as goal

pub returns-in_default : goal.returns-in_default
returns-in_default c =
    let a = c.args in
    λ b w. rw c.number.ensures (ask_none a.state.now a.answer.now c.in_default.ensures.state (lent a.mem.now b w) checksum)

pub returns : goal.returns
returns c =
    let a = c.args in
    λ b w. ask_some a.state.now a.answer.now _ c.in-Some.ensures.state _ _ checksum _ (c.checksum.ensures b w) (c.tell.ensures a.state.now ∙ checksum_told a.state.now a.answer.now c.checksum.result)
