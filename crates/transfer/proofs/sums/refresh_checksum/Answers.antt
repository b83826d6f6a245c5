-- `transfer::sums::refresh_checksum` meets its contract.
use Rattle.std.proofs.Common.{refl, sym, ap, ◌∙◌, ℕ}
use Rattle.std.proofs.lemmas.Result.{err_from_is_err_and}
use Rattle.meta.specs.declared.superblock.Superblock.{Superblock}
use Rattle.store.specs.Answers.{Checksum}
use Rattle.store.specs.Calls.{refresh}
use Rattle.transfer.specs.Steps.{restore_to}
use Rattle.transfer.specs.StoreCases.{refused_exit, admitted, stored_as, answered_with, refresh_done}
use Rattle.transfer.proofs.sums.refresh_checksum.Goals as goal

pub returns-in_err-admit : goal.returns-in_err-admit
returns-in_err-admit c =
    let a = c.args in
    let p = err_from_is_err_and c.from_residual.result c.from_residual.ensures.1 in
    refused_exit a.s.now a.mem.now refresh refl (λ x. Checksum x) c.from_residual.result _ _ p.1 p.2 (sym c.admit.ensures ∙ c.in_err-admit.was)

pub returns : goal.returns
returns c =
    let a = c.args in
    let sum : ℕ = c.sum_of-sum.result in
    λ b w. answered_with c.restore.new.s c.restore.new.mem (Checksum sum) b w _ _
    (stored_as a.s.now c.restore.new.s a.mem.now c.restore.new.mem _ (Checksum sum) c.restore.ensures ∙ ap (λ (k : Superblock). restore_to a.s.now a.mem.now k (Checksum sum)) c.after_refresh.ensures)
    (admitted a.s.now a.mem.now refresh refl b w (sym c.admit.ensures ∙ c.in_ok-admit.was) ∙ refresh_done a.s.now a.mem.now b w sum c.sum_of-sum.ensures)
