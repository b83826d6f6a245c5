-- `imports::cancel_import` meets its contract.
use Rattle.std.proofs.Common.{refl, sym, ap, ◌∙◌}
use Rattle.std.proofs.lemmas.Result.{err_from_is_err_and}
use Rattle.meta.specs.declared.superblock.Superblock.{Superblock}
use Rattle.store.specs.Answers.{Done}
use Rattle.store.specs.Calls.{import_cancel}
use Rattle.transfer.specs.Steps.{restore_to}
use Rattle.transfer.specs.StoreCases.{closed_exit, opened, admitted, stored_as, answered_with, cancel_none, cancel_done}
use Rattle.imports.proofs.cancel_import.Goals as goal

pub returns-in_err-admit : goal.returns-in_err-admit
returns-in_err-admit c =
    let a = c.args in
    let p = err_from_is_err_and c.from_residual.result c.from_residual.ensures.1 in
    closed_exit a.s.now a.mem.now import_cancel refl (λ b w. cancel_none a.s.now a.mem.now b w) c.from_residual.result _ _ p.1 p.2 (sym c.admit.ensures ∙ c.in_err-admit.was)

pub returns : goal.returns
returns c =
    let a = c.args in
    let o = opened a.s.now a.mem.now (sym c.admit.ensures ∙ c.in_ok-admit.was) in
    λ b w. answered_with c.restore.new.s c.restore.new.mem Done b w _ _
    (stored_as a.s.now c.restore.new.s a.mem.now c.restore.new.mem _ Done c.restore.ensures ∙ ap (λ (k : Superblock). restore_to a.s.now a.mem.now k Done) c.after_import_cancel.ensures)
    (admitted a.s.now a.mem.now import_cancel refl b w o.0 ∙ cancel_done a.s.now a.mem.now b w o.1)
