use Rattle.std.proofs.Common.{◌≡◌, ◌≤◌, ◌+◌, ◌++◌, length, drop}
use Rattle.runs.specs.Sets.{maximal}
use Rattle.runs.specs.Flat.{runs_in}
use Rattle.page_sets.specs.Lent.{IsSameList}
use Rattle.page_sets.proofs.RunSet.gather.Given as goal

abbrev pub invariant-loop-x : goal.invariant-loop-x
invariant-loop-x g l =
    let left = drop l.x-iterator.next (g.L.RunList.runs l.x-iterator.list) in
    let all = g.L.RunList.runs l.fn.list in
    IsSameList l.initial.set.work l.set.work × (l.set.count + length left ≤ length all) × (maximal (left ++ runs_in l.set.count l.set.work.now) ≡ maximal all)
