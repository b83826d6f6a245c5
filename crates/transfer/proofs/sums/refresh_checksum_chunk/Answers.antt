-- `transfer::sums::refresh_checksum_chunk` meets its contract.
use Rattle.std.proofs.Common.{refl, sym, ◌∙◌}
use Rattle.std.proofs.lemmas.Result.{err_from_is_err_and}
use Rattle.store.specs.Answers.{Refreshed}
use Rattle.store.specs.Calls.{refresh_step}
use Rattle.transfer.specs.StoreCases.{refused_exit, admitted, answered_with, step_empty, step_importing, step_done}
use Rattle.transfer.proofs.sums.refresh_checksum_chunk.Goals as goal

pub returns-in_err-admit : goal.returns-in_err-admit
returns-in_err-admit c =
    let a = c.args in
    let p = err_from_is_err_and c.from_residual.result c.from_residual.ensures.1 in
    refused_exit a.s.now a.mem.now (refresh_step a.n) refl (λ x. Refreshed x) c.from_residual.result _ _ p.1 p.2 (sym c.admit.ensures ∙ c.in_err-admit.was)

pub returns-then-n-eq0 : goal.returns-then-n-eq0
returns-then-n-eq0 c =
    let a = c.args in
    λ b w. sym (admitted a.s.now a.mem.now (refresh_step a.n) refl b w (sym c.admit.ensures ∙ c.in_ok-admit.was) ∙ step_empty a.s.now a.mem.now b w a.n c.if-n-eq0.true)

pub returns-then-is_importing : goal.returns-then-is_importing
returns-then-is_importing c =
    let a = c.args in
    λ b w. sym (admitted a.s.now a.mem.now (refresh_step a.n) refl b w (sym c.admit.ensures ∙ c.in_ok-admit.was)
    ∙ step_importing a.s.now a.mem.now b w a.n c.if-n-eq0.false (sym c.is_importing.ensures ∙ c.if-is_importing.true))

pub returns : goal.returns
returns c =
    let a = c.args in
    λ b w. answered_with _ _ (Refreshed c.refresh_step.result) b w _ _ c.refresh_step.ensures
    (admitted a.s.now a.mem.now (refresh_step a.n) refl b w (sym c.admit.ensures ∙ c.in_ok-admit.was)
    ∙ step_done a.s.now a.mem.now b w a.n c.if-n-eq0.false (sym c.is_importing.ensures ∙ c.if-is_importing.false))
