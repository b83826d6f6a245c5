use Rattle.std.proofs.Common.{subst, arith}
use Rattle.runs.specs.Flat.{runs_in}
use Rattle.extents.specs.Plan.{Answer}
use Rattle.extents.specs.Steps.{Stepped}
use Rattle.extents.specs.PlanLaws.{resized_one}
use Rattle.extents.proofs.add_resized.Goals as goal

pub returns-clause-added : goal.returns-clause-added
returns-clause-added c =
    let a = c.args in
    let s = a.set.now in
    let d = c.add_within in
    let t = d.new.set in
    subst (λ (x : Answer). Stepped a.limit d.result t.count t.work.now x)
    (resized_one 16384 a.limit a.old a.new _ _ _ _ (runs_in s.count s.work.now) (omega arith) c.page_count_for_size-was.ensures c.page_count_for_size-is.ensures c.min.ensures c.max.ensures)
    d.ensures.added
