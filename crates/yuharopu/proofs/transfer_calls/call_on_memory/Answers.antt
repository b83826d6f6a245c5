-- What is shown is what the call of the closure left.
use Rattle.std.proofs.Common.{sym, ◌∙◌}
use Rattle.transfer.specs.OnMemory.{lent}
use Rattle.encoding.specs.Called.{called, call_none, call_some, open_none, open_some}
use Rattle.yuharopu.proofs.ClosureLaws.{shown_alike}
use Rattle.yuharopu.proofs.transfer_calls.call_on_memory.Goals as goal

pub returns-in_default-clause-calls : goal.returns-in_default-clause-calls
returns-in_default-clause-calls g c =
    let a = c.args in
    λ call is b w.
    (λ i. called (c.number.ensures i) a.state.now (lent a.mem.now b w) a.answer.now (sym is.fills i))
    ∙ call_none a.state.now a.answer.now c.in_default.ensures.state (lent a.mem.now b w) call

pub returns-in_default-clause-opens : goal.returns-in_default-clause-opens
returns-in_default-clause-opens g c =
    let a = c.args in
    λ n is. rw c.number.ensures (open_none a.state.now a.answer.now c.in_default.ensures.state a.mem.now n)

pub returns-clause-calls : goal.returns-clause-calls
returns-clause-calls g c =
    let a = c.args in
    λ call is b w.
    let x = is.does _ _ _ c.apply-answered.ensures in
    call_some a.state.now a.answer.now _ c.in-Some.ensures.state _ _ call _ (x.made b w) (c.show.ensures ∙ shown_alike a.state.now a.answer.now _ _ _ x.alike)

pub returns-clause-opens : goal.returns-clause-opens
returns-clause-opens g c =
    let a = c.args in
    λ n is. open_some a.state.now a.answer.now _ c.in-Some.ensures.state _ _ n _ (is _ _ _ c.apply-answered.ensures) c.show.ensures
