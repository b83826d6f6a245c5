-- 35 in the store's definition, for the tests that calls begin with: one law for each way out.
use Rattle.std.specs.Prelude.{◌≡◌, ℕ, ◌+◌, ◌*◌, ◌/◌, ◌≤◌, ◌<◌, min, Bool, true, false, ◌||◌, List, length}
use Rattle.std.proofs.Math.Path.{refl, sym, ap}
use Rattle.std.proofs.Common.{◌∙◌, arith, lt-ltb, le-ltb, ltb-true, ltb-false}
use Rattle.std.proofs.Math.Dec.{ltb}
use Rattle.extents.specs.Outcome.{room}
use Rattle.update.specs.Buffers.{Buffers, frame_count, short_buffers}
use Rattle.store.specs.declared.State.{State}
use Rattle.store.specs.Calls.{commit, mode_if, mode_of, buffers_short, short}
use Rattle.transfer.specs.OnMemory.{lent}

module _ (s : State) (b : Buffers) where
  pub buffers_updating : s.updating ≡ true → buffers_short 16384 65536 8 1024 (mode_of s) b ≡ short_buffers 16384 8 s.overlay b
  buffers_updating e = ap (λ (t : Bool). buffers_short 16384 65536 8 1024 (mode_if t s.overlay) b) e

  pub buffers_idle : s.updating ≡ false → buffers_short 16384 65536 8 1024 (mode_of s) b ≡ ltb (length b.clean) 131072
  buffers_idle e = ap (λ (t : Bool). buffers_short 16384 65536 8 1024 (mode_if t s.overlay) b) e

half : (x y : ℕ) (t : Bool) → ltb (x / 2) y ≡ t → t ≡ ltb x (y * 2)
half x y true e = sym (lt-ltb x (y * 2) (omega (arith, ltb-true (x / 2) y e)))
half x y false e = sym (le-ltb x (y * 2) (omega (arith, ltb-false (x / 2) y e)))

pub either_true : (t u : Bool) → t ≡ true → t || u ≡ true
either_true t u e = ap (λ (x : Bool). x || u) e

pub neither : (t u : Bool) → t ≡ false → t || u ≡ u
neither t u e = ap (λ (x : Bool). x || u) e

module _ (s : State) (m : List ℕ) (b : Buffers) (w : List ℕ) where
  any_is : short 16384 65536 8 1024 s (lent m b w) commit
      ≡ (ltb (length m) (s.count.0 * 65536) || (buffers_short 16384 65536 8 1024 (mode_of s) b || ltb (length w) ((1024 + 1 + 2 * frame_count 16384 b) * 2)))
  unfolding short
  any_is = refl

  pub any_memory : length m < s.count.0 * 65536 → short 16384 65536 8 1024 s (lent m b w) commit ≡ true
  any_memory h = any_is ∙ either_true _ _ (lt-ltb _ _ h)

  module _ (h : s.count.0 * 65536 ≤ length m) where
    pub any_buffers : buffers_short 16384 65536 8 1024 (mode_of s) b ≡ true → short 16384 65536 8 1024 s (lent m b w) commit ≡ true
    any_buffers g = any_is ∙ neither _ _ (le-ltb _ _ h) ∙ either_true _ _ g

    pub any_work : buffers_short 16384 65536 8 1024 (mode_of s) b ≡ false → (n : ℕ) → n ≡ min (length b.frames / 16384) (length b.numbers)
        → short 16384 65536 8 1024 s (lent m b w) commit ≡ ltb (length w / 2) (1025 + 2 * n)
    unfolding frame_count
    any_work g n e =
        any_is ∙ neither _ _ (le-ltb _ _ h) ∙ neither _ _ g
        ∙ ap (λ (x : ℕ). ltb (length w) ((1025 + 2 * x) * 2)) (sym e)
        ∙ sym (half (length w) (1025 + 2 * n) (ltb (length w / 2) (1025 + 2 * n)) refl)

    -- the same by the numbers of a work list for n frames
    pub any_room : buffers_short 16384 65536 8 1024 (mode_of s) b ≡ false → (n : ℕ) → n ≡ min (length b.frames / 16384) (length b.numbers)
        → short 16384 65536 8 1024 s (lent m b w) commit ≡ ltb (length w) (room n)
    unfolding frame_count
    any_room g n e =
        any_is ∙ neither _ _ (le-ltb _ _ h) ∙ neither _ _ g
        ∙ ap (λ (x : ℕ). ltb (length w) ((1025 + 2 * x) * 2)) (sym e)
        ∙ ap (ltb (length w)) {x = (1025 + 2 * n) * 2} {y = room n} (omega arith)
