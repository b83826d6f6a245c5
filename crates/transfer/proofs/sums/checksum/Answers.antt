-- `transfer::sums::checksum` meets its contract.
use Rattle.std.proofs.Common.{refl, sym, ap, ◌∙◌, [], ℕ}
use Rattle.std.proofs.lemmas.Result.{err_from_is_err_and}
use Rattle.store.specs.Answers.{Checksum}
use Rattle.store.specs.Calls.{checksum, out}
use Rattle.transfer.specs.OnMemory.{lent}
use Rattle.transfer.specs.StoreCases.{refused_exit, admitted, checksum_done}
use Rattle.transfer.proofs.sums.checksum.Goals as goal

pub returns-in_err-admit : goal.returns-in_err-admit
returns-in_err-admit c =
    let a = c.args in
    let p = err_from_is_err_and c.from_residual.result c.from_residual.ensures.1 in
    refused_exit a.s.now a.mem.now checksum refl (λ x. Checksum x) c.from_residual.result _ _ p.1 p.2 (sym c.admit.ensures ∙ c.in_err-admit.was)

pub returns : goal.returns
returns c =
    let a = c.args in
    λ b w. ap (λ (x : ℕ). out a.s.now (lent a.mem.now b w) (Checksum x) []) c.sum_of.ensures
    ∙ sym (admitted a.s.now a.mem.now checksum refl b w (sym c.admit.ensures ∙ c.in_ok-admit.was) ∙ checksum_done a.s.now a.mem.now b w)
