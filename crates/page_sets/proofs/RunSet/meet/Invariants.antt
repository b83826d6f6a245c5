use Rattle.std.proofs.Common.{◌≡◌, ◌≤◌}
use Rattle.runs.specs.Sets.{merge}
use Rattle.runs.specs.Flat.{upto}
use Rattle.page_sets.proofs.RunSet.meet.Given as goal

abbrev pub invariant-loop-next : goal.invariant-loop-next
invariant-loop-next l =
    (l.next ≤ l.self.count) × (merge l.fn.x (upto l.self.work.now l.i l.self.count) ≡ merge l.run (upto l.self.work.now l.next l.self.count))
