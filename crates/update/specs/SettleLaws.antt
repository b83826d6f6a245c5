-- Any overlay counts as its settled one, and slices that are not short hold it.
use Rattle.std.specs.Prelude.{◌≡◌, false, ltb}
use Rattle.std.proofs.Common.{sym, ◌∙◌, ltb-false}
use Rattle.std.proofs.Math.Path.{ap}
use Prim.Native.Nat.{ℕ, ◌*◌, ◌≤◌, min}
use native.Mathlib.Omega.{arith}
use mathlib.Core.List.{List}
use Rattle.std.proofs.Math.ListN.{length, take, length-take}
use Rattle.memory.specs.Bytes.{resize}
use Rattle.memory.specs.Laws.{split, take-resize}
use Rattle.update.specs.declared.Overlay.{Overlay}
use Rattle.update.specs.declared.CleanCache.{CleanCache}
use Rattle.update.specs.ListLaws.{clash}
use Rattle.update.specs.Pages.{flat, pages_in}
use Rattle.update.specs.Lists.{refill}
use Rattle.update.specs.Update.{Tried, left}
use Rattle.update.specs.Buffers.{Buffers, frame_count, cached, settled, short_buffers, view, overlay_of, put_back}
use Rattle.update.specs.Laid.{laid, bufs, verdict_of, leave, Fits, settle}

module _ (P C : ℕ) where
  pub cached_settled : (c : CleanCache) → cached P C (settled P C c) ≡ cached P C c
  unfolding cached settled
  cached_settled c =
      let l : List ℕ = take (min c.count C) c.pages in
      let n : length l ≤ C = omega (arith, length-take (min c.count C) c.pages) in
      let e : min (length l) C ≡ length l = omega arith in
      ap (λ (k : ℕ). take k (resize C l)) e ∙ take-resize C l n

  pub settled_settled : (c : CleanCache) → settled P C c ≡ settled P C (settled P C c)
  unfolding settled
  settled_settled c = ap (λ (x : List ℕ). record { pages = resize C x; count = length x }) (sym (cached_settled c))

  module _ (v : Overlay) (l : Buffers) where
    pub settle_view : view P C (settle P C v) l ≡ view P C v l
    unfolding view settle
    settle_view = λ i. record {
      size = v.size;
      dirty = (view P C v l).dirty;
      recorded = (view P C v l).recorded;
      cache = pages_in P (cached_settled v.cache i) l.clean;
      budget = v.budget;
    }

    pub settle_leave : (n : ℕ) (t : Tried) → leave P C (settle P C v) l n t ≡ leave P C v l n t
    unfolding leave put_back settle
    settle_leave n t = λ i. laid
        (overlay_of P C v.base_size (left t))
        (bufs (put_back P C v n (left t) l).frames (put_back P C v n (left t) l).numbers (refill (length (cached_settled v.cache i) * P) (flat (left t).cache) l.clean) (put_back P C v n (left t) l).recs)
        (verdict_of t)

    pub settle_fits : short_buffers P C v l ≡ false → Fits P C (settle P C v) l
    unfolding short_buffers settle
    settle_fits h = split (ltb (frame_count P l) v.dirty)
        (λ t. clash (rw t) h)
        (λ f. split (ltb (length l.recs) (v.recorded * 2))
        (λ t. clash (rw (f, t)) h)
        (λ g. (ltb-false _ _ f, (ltb-false _ _ g, (ltb-false _ _ (rw (f, g) at h), settled_settled v.cache)))))
