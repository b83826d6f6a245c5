-- `commit::page_end` meets its contract.
use Rattle.std.proofs.Common.{◌≡◌, sym, ap, ◌∙◌, arith, ℕ, ◌+◌, ◌*◌, ◌<◌}
use Rattle.std.proofs.lemmas.Grind.{common_steps}
use Rattle.commit.specs.Reach.{reach, reach_over, sum_reach}
use Rattle.commit.proofs.page_end.Goals as goal

pub returns-in_err-checked_add : goal.returns-in_err-checked_add
returns-in_err-checked_add c = c.from_residual.ensures ∙ sym (reach_over _ (omega (arith, c.in_err-checked_add.ensures)))

pub returns-in_err-length : goal.returns-in_err-length
returns-in_err-length c =
    let over : 18446744073709551615 < (c.args.page + 1) * 16384 = grind (arith, common_steps) in
    c.from_residual-in_err-length.ensures ∙ sym (reach_over _ (omega (arith, over)))

pub returns : goal.returns
returns c =
    let length : c.in_ok-length.length ≡ (c.args.page + 1) * 16384 = grind (arith, common_steps) in
    sum_reach _ _ c.checked_add-2.ensures ∙ ap (λ (n : ℕ). reach (c.args.base + n)) length
