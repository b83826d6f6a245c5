-- `update_calls::yuharopu_begin_update` meets its contract.
use Rattle.store.specs.Calls.{begin}
use Rattle.encoding.specs.Called.{call_none, call_some}
use Rattle.yuharopu.specs.StoreCalls.{is_set}
use Rattle.yuharopu.proofs.update_calls.yuharopu_begin_update.Goals as goal

pub returns-in_default : goal.returns-in_default
returns-in_default c =
    let a = c.args in
    λ l. rw c.number.ensures (call_none a.state.now a.answer.now c.in_default.ensures.state l (begin (is_set a.limited) a.max_pages a.max_bytes))

pub returns : goal.returns
returns c =
    let a = c.args in
    λ l. call_some a.state.now a.answer.now _ c.in-Some.ensures.state _ _ (begin (is_set a.limited) a.max_pages a.max_bytes) _ (c.begin_update-answered.ensures l) c.show.ensures
