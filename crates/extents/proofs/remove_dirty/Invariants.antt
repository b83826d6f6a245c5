use Rattle.std.proofs.Common.{◌≡◌, ◌+◌, ◌≤◌, length, drop}
use Rattle.runs.specs.Sets.{maximal}
use Rattle.runs.specs.Flat.{runs_in}
use Rattle.page_sets.specs.Lent.{IsSameList}
use Rattle.extents.specs.Plan.{below, remove_each}
use Rattle.extents.proofs.remove_dirty.Given as goal

abbrev pub invariant-loop-page : goal.invariant-loop-page
invariant-loop-page l =
    (l.page-index ≤ length l.dirty) × IsSameList l.initial.set.work l.set.work × (l.set.count ≤ l.initial.set.count + l.page-index)
    × (maximal (remove_each (below l.end (drop l.page-index l.dirty)) (runs_in l.set.count l.set.work.now)) ≡ maximal (remove_each (below l.end l.dirty) (runs_in l.initial.set.count l.initial.set.work.now)))
