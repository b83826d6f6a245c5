-- `update_calls::yuharopu_file_size` meets its contract.
use Rattle.store.specs.Calls.{file_size}
use Rattle.encoding.specs.Called.{ask_none, ask_some}
use Rattle.yuharopu.proofs.update_calls.yuharopu_file_size.Goals as goal

pub returns-in_default : goal.returns-in_default
returns-in_default c =
    let a = c.args in
    λ l. rw c.number.ensures (ask_none a.state.now a.answer.now c.in_default.ensures.state l file_size)

pub returns : goal.returns
returns c =
    let a = c.args in
    λ l. ask_some a.state.now a.answer.now _ c.in-Some.ensures.state _ _ file_size _ (c.file_size.ensures l) (c.tell.ensures a.state.now)
