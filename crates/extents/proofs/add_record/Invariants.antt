use Rattle.std.proofs.Common.{◌≡◌, ◌≤◌, drop}
use Rattle.runs.specs.Flat.{runs_in}
use Rattle.page_sets.specs.Lent.{IsSameList}
use Rattle.extents.specs.Plan.{kept, add_each}
use Rattle.extents.specs.Steps.{norm}
use Rattle.extents.proofs.add_record.Given as goal

abbrev pub invariant-loop-x : goal.invariant-loop-x
invariant-loop-x g l =
    let left = drop l.x-iterator.next (g.L.RunList.runs l.x-iterator.list) in
    let first = l.initial.set in
    IsSameList first.work l.set.work × (l.set.count ≤ l.limit)
    × (norm (add_each l.limit left (kept (runs_in l.set.count l.set.work.now))) ≡ norm (add_each l.limit (g.L.RunList.runs l.fn.«record») (kept (runs_in first.count first.work.now))))
