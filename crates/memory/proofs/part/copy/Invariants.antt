use mathlib.Core.Path.{◌≡◌}
use Prim.Native.Nat.{◌-◌, ◌≤◌, min}
use lib.ListN.{length, take}
use Rattle.memory.specs.Bytes.{overwrite}
use Rattle.memory.proofs.part.copy.Given as goal

abbrev pub invariant-loop-done : goal.invariant-loop-done
invariant-loop-done l = (l.done ≤ l.n) × ((l.n ≡ min (length l.src) (length l.initial.dst)) × ((length l.dst ≡ length l.initial.dst) × (l.dst ≡ overwrite 0 (take l.done l.src) l.initial.dst)))

abbrev pub decreases-loop-done : goal.decreases-loop-done
decreases-loop-done l = l.n - l.done
