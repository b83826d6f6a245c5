use Rattle.std.proofs.Common.{ℕ, ◌≡◌, ◌∙◌, ltb, count_by, rules}
use Rattle.extents.specs.PlanLaws.{below_counted}
use Rattle.extents.proofs.count_below.Goals as goal

pub returns : goal.returns
returns c =
    let a = c.args in
    let counted : c.count.result ≡ count_by (λ (p : ℕ). ltb p a.end) a.dirty.now = search rules in
    counted ∙ below_counted a.end a.dirty.now
