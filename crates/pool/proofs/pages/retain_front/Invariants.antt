use mathlib.Core.Path.{◌≡◌}
use Prim.Native.Nat.{ℕ, ◌-◌, ◌≤◌}
use mathlib.Core.Bool.{Bool}
use lib.ListN.{length}
use Rattle.pool.specs.Pool.{Answers, retained_front}
use Rattle.pool.proofs.pages.retain_front.Given as goal

abbrev pub invariant-loop-i : goal.invariant-loop-i
invariant-loop-i g l =
    (l.to ≤ l.i) × (length l.numbers ≡ length l.initial.numbers) × (length l.frames ≡ length l.initial.frames)
    × ((p : ℕ → Bool) → Answers (goal.F-post g l.keep) p → retained_front 16384 p (l.count - l.i) l.numbers l.frames l.i l.to ≡ retained_front 16384 p l.count l.initial.numbers l.initial.frames 0 0)
