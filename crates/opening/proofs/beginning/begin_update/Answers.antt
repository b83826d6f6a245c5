use Rattle.std.proofs.Common.{sym, ap, ◌∙◌, []}
use Rattle.update.specs.declared.Overlay.{Overlay}
use Rattle.update.specs.declared.Budget.{Budget}
use Rattle.update.specs.Update.{fresh}
use Rattle.update.specs.Buffers.{overlay_of}
use Rattle.store.specs.Answers.{Size}
use Rattle.store.specs.Calls.{out}
use Rattle.store.specs.Store.{working}
use Rattle.opening.specs.BeginCases.{begin_importing, begin_again, begin_done}
use Rattle.opening.proofs.beginning.begin_update.Goals as goal

pub returns-then-is_importing : goal.returns-then-is_importing
returns-then-is_importing c =
    let a = c.args in
    λ l. sym (begin_importing a.s.now l a.limited a.max_pages a.max_bytes (sym c.is_importing.ensures ∙ c.if-is_importing.true))

pub returns-then-s : goal.returns-then-s
returns-then-s c =
    let a = c.args in
    λ l. sym (begin_again a.s.now l a.limited a.max_pages a.max_bytes (sym c.is_importing.ensures ∙ c.if-is_importing.false) c.if-s.true)

pub returns : goal.returns
returns c =
    let a = c.args in
    λ l. ap (λ (v : Overlay). out (working a.s.now.count.0 a.s.now.block v) l (Size a.s.now.block.db_size) [])
    (c.new-s.ensures ∙ ap (λ (g : Budget). overlay_of 16384 8 a.s.now.block.db_size (fresh 16384 a.s.now.block.db_size g)) c.budget_of-budget.ensures)
    ∙ sym (begin_done a.s.now l a.limited a.max_pages a.max_bytes (sym c.is_importing.ensures ∙ c.if-is_importing.false) c.if-s.false)
