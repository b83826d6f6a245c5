use Rattle.std.proofs.Common.{refl, arith}
use Rattle.extents.specs.PlanLaws.{within_kept, within_not}
use Rattle.extents.proofs.add_within.Goals as goal

pub returns-then-limit-len-clause-added : goal.returns-then-limit-len-clause-added
returns-then-limit-len-clause-added c =
    let s = c.args.set.now in
    (refl, within_not _ s.count _ _ _ _ c.requires c.add.ensures.runs (omega (arith, c.len.ensures, c.if-limit-len.true)))

pub returns-clause-added : goal.returns-clause-added
returns-clause-added c =
    let s = c.args.set.now in
    within_kept _ s.count _ _ _ _ c.requires c.add.ensures.runs (omega (arith, c.len.ensures, c.if-limit-len.false))
