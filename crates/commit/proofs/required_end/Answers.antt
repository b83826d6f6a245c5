-- `commit::required_end` meets its contract.
use Rattle.std.proofs.Common.{◌≡◌, sym, ◌∙◌, arith, ◌+◌, rules}
use Rattle.config.specs.Pages.{count}
use Rattle.extents.specs.Plan.{below}
use Rattle.store.specs.Plan.{required}
use Rattle.commit.specs.Reach.{reach, reach_over, required_least}
use Rattle.commit.proofs.Tried.{tried}
use Rattle.commit.proofs.required_end.Goals as goal

pub returns-in_err-end : goal.returns-in_err-end
returns-in_err-end c =
    let a = c.args in
    c.from_residual.ensures ∙ sym (reach_over _ (omega (arith, c.in_err-end.ensures, required_least 16384 a.base (below (count 16384 a.size) a.numbers.now) (a.base + a.size))))

pub returns : goal.returns
returns c =
    let a = c.args in
    let e : c.in_ok-end.end ≡ a.base + a.size = c.in_ok-end.ensures.1 in
    tried _ _ _ 16384 a.base (count 16384 a.size) (λ e x r q h. search rules) _ _ c.in_ok-end.end _ (omega (arith, e, c.in_ok-end.ensures.0)) c.try_fold.ensures.ran
    ∙ (λ i. reach (required 16384 a.base (below (count 16384 a.size) (c.iter.ensures.rest i)) (e i)))
