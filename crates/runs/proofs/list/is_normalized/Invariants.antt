use Rattle.std.proofs.Common.{◌≡◌, drop}
use Rattle.meta.specs.Runs.{normalized}
use Rattle.runs.proofs.list.is_normalized.Given as goal

abbrev pub invariant-loop-i : goal.invariant-loop-i
invariant-loop-i g l = normalized (drop l.i (g.L.RunList.runs l.list)) ≡ normalized (g.L.RunList.runs l.list)
