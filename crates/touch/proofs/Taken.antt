-- A frame taken for one more dirty page.
use mathlib.Core.Path.{◌≡◌, sym}
use Prim.Native.Nat.{ℕ, ◌+◌, ◌*◌, ◌/◌, ◌≤◌, ◌<◌, min}
use native.Mathlib.Omega.{arith}
use mathlib.Core.List.{List}
use Rattle.std.specs.Prelude.{Ok}
use lib.ListN.{length}
use Rattle.update.specs.declared.Budget.{Budget}
use Rattle.update.specs.Verdict.{Verdict}
use Rattle.update.specs.Admit.{admission, admitted}
use Rattle.update.specs.Buffers.{frame_count}
use Rattle.update.specs.Laid.{bufs}
use Rattle.update.specs.TouchLaws.{free_frame}

module _ (f n : List ℕ) (dirty : ℕ) (b g : Budget) where
  -- the answer, whatever else is lent
  pub asked : (c r : List ℕ) (x : Verdict) → admission g x ≡ admitted 16384 (min (length f / 16384) (length n)) dirty b
      → admitted 16384 (frame_count 16384 (bufs f n c r)) dirty b ≡ admission g x
  unfolding frame_count
  asked c r x e = sym e

  -- the frame lies in the pool
  pub room : (at : ℕ) → at ≡ dirty → admission g (Ok tt) ≡ admitted 16384 (min (length f / 16384) (length n)) dirty b → at * 16384 + 16384 ≤ length f
  room at a e = let h : dirty < min (length f / 16384) (length n) = free_frame 16384 (min (length f / 16384) (length n)) dirty b g (sym e) in omega arith
