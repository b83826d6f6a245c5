-- An update that is put back into the lent slices is read off them again, and only the places in use count.
use Rattle.std.specs.Prelude.{◌≡◌, get_or}
use Rattle.std.proofs.Math.Path.{refl, sym, ap, subst}
use Rattle.std.proofs.Common.{◌∙◌, le-div_iff_mul-le, length-take-le}
use Prim.Native.Nat.{ℕ, ◌-◌, ◌*◌, ◌≤◌, ◌<◌, max, min}
use native.Mathlib.Omega.{arith}
use mathlib.Core.List.{List, [], ◌++◌}
use Rattle.std.proofs.Math.ListN.{length, take, drop, length-take}
use Rattle.memory.specs.Bytes.{zeros, resize}
use Rattle.memory.specs.Laws.{length-zeros, zeros_at, length-resize, resize_alike, take-resize}
use Rattle.meta.specs.declared.ZeroExtent.{ZeroExtent}
use Rattle.meta.specs.Runs.{runs_of, numbers_of}
use Rattle.runs.specs.Flat.{runs_in}
use Rattle.runs.specs.FlatLaws.{length-numbers, runs_numbers, numbers_runs}
use Rattle.update.specs.declared.Overlay.{Overlay}
use Rattle.update.specs.declared.CleanCache.{CleanCache}
use Rattle.update.specs.Lists.{refill}
use Rattle.update.specs.ListLaws.{resize_seam, refill_freed, refill_past, refill_keeps, take-alike}
use Rattle.update.specs.Pages.{Page, page_numbers, flat, pages_in}
use Rattle.update.specs.PageLaws.{Sized, pages_in-flat, pages_in-alike, numbers-length, flat-length}
use Rattle.update.specs.Update.{Over}
use Rattle.update.specs.Buffers.{Buffers, frame_count, entry_count, wiped, cached, view, overlay_of, put_back, settled}

-- ## The record as numbers

runs_alike : (n : ℕ) (a b : List ℕ) → n * 2 ≤ length a → n * 2 ≤ length b → ((i : ℕ) → i < n * 2 → get_or a i 0 ≡ get_or b i 0) → runs_in n a ≡ runs_in n b
unfolding runs_in
runs_alike n a b p q h = ap runs_of (take-alike (n * 2) a b p q h)

pub numbers-runs_in : (n : ℕ) (w : List ℕ) → n * 2 ≤ length w → numbers_of (runs_in n w) ≡ take (n * 2) w
unfolding runs_in
numbers-runs_in n w h = numbers_runs (take (n * 2) w) n (length-take-le (n * 2) w h)

-- ## Room in the slices

-- page size
module _ (P : ℕ) (n : ℕ) (l : Buffers) where
  pub frames_fit : 0 < P → n ≤ frame_count P l → n * P ≤ length l.frames
  unfolding frame_count
  frames_fit pos h = (le-div_iff_mul-le {x = n} pos).0 (omega arith)

  pub numbers_fit : n ≤ frame_count P l → n ≤ length l.numbers
  unfolding frame_count
  numbers_fit h = omega arith

module _ (n : ℕ) (l : Buffers) where
  pub entries_fit : n ≤ entry_count l → n * 2 ≤ length l.recs
  unfolding entry_count
  entries_fit h = omega arith

  pub fit_entries : n * 2 ≤ length l.recs → n ≤ entry_count l
  unfolding entry_count
  fit_entries h = omega arith

-- page size, cache pages
module _ (P C : ℕ) where
  pub cached_few : (c : CleanCache) → length (cached P C c) ≤ C
  unfolding cached
  cached_few c = omega (arith, length-take (min c.count C) c.pages)

  pub view_size : (v : Overlay) (l : Buffers) → (view P C v l).size ≡ v.size
  unfolding view
  view_size v l = refl

  -- the cached pages' numbers are read again
  pub cached_put : (begun : ℕ) (w : Over) → length w.cache ≤ C → cached P C (overlay_of P C begun w).cache ≡ page_numbers w.cache
  unfolding cached overlay_of
  cached_put begun w h =
      let e : min (length w.cache) C ≡ length w.cache = omega arith in
      rw e (rw (numbers-length w.cache) at (take-resize C (page_numbers w.cache) (omega (arith, numbers-length w.cache))))

  pub length-cached_put : (begun : ℕ) (w : Over) → length w.cache ≤ C → length (cached P C (overlay_of P C begun w).cache) ≡ length w.cache
  length-cached_put begun w h = ap length (cached_put begun w h) ∙ numbers-length w.cache

  pub settled_put : (begun : ℕ) (w : Over) → length w.cache ≤ C → (overlay_of P C begun w).cache ≡ settled P C (overlay_of P C begun w).cache
  unfolding settled overlay_of
  settled_put begun w h = λ i. record { pages = resize C (sym (cached_put begun w h) i); count = sym (length-cached_put begun w h) i }

  pub view_put : (begun : ℕ) (v : Overlay) (k : ℕ) (w : Over) (l : Buffers) → Sized P w.dirty → Sized P w.cache → length w.cache ≤ C
      → view P C (overlay_of P C begun w) (put_back P C v k w l) ≡ w
  unfolding view overlay_of put_back refill runs_in cached
  view_put begun v j w l s c few =
      let n : resize (length w.dirty) (refill j (page_numbers w.dirty) l.numbers) ≡ page_numbers w.dirty =
      subst (λ (x : ℕ). resize x (refill j (page_numbers w.dirty) l.numbers) ≡ page_numbers w.dirty) (numbers-length w.dirty) (resize_seam (page_numbers w.dirty) _) in
      let d : pages_in P (resize (length w.dirty) (refill j (page_numbers w.dirty) l.numbers)) (refill (j * P) (flat w.dirty) l.frames) ≡ w.dirty =
      rw n (pages_in-flat P w.dirty _ s) in
      let q : take (min (length w.cache) C) (resize C (page_numbers w.cache)) ≡ page_numbers w.cache = cached_put begun w few in
      let k : ℕ = length (take (min v.cache.count C) v.cache.pages) * P in
      let x : pages_in P (take (min (length w.cache) C) (resize C (page_numbers w.cache))) (refill k (flat w.cache) l.clean) ≡ w.cache = rw q (pages_in-flat P w.cache _ c) in
      λ i. record {
        size = w.size;
        dirty = d i;
        recorded = runs_numbers w.recorded (zeros (v.recorded * 2 - length (numbers_of w.recorded)) ++ drop (max (v.recorded * 2) (length (numbers_of w.recorded))) l.recs) i;
        cache = x i;
        budget = w.budget;
      }

  -- an update that has just begun is empty, whatever the slices hold
  pub view_fresh : (z : ℕ) (w : Over) (l : Buffers) → w.dirty ≡ [] → w.recorded ≡ [] → w.cache ≡ [] → view P C (overlay_of P C z w) l ≡ w
  unfolding view overlay_of runs_in cached resize
  view_fresh z w l d r c = let e : min 0 C ≡ 0 = omega arith in λ i. record {
    size = w.size;
    dirty = (ap (λ (x : List Page). pages_in P (resize (length x) l.numbers) l.frames) d ∙ sym d) i;
    recorded = (ap (λ (x : List ZeroExtent). runs_of (take (length x * 2) l.recs)) r ∙ sym r) i;
    cache = (ap (λ (x : List Page). pages_in P (take (min (length x) C) (resize C (page_numbers x))) l.clean) c ∙ ap (λ (n : ℕ). pages_in P (take n (resize C [])) l.clean) e ∙ sym c) i;
    budget = w.budget;
  }

  pub view_alike : (v : Overlay) (a b : Buffers) → v.recorded * 2 ≤ length a.recs → v.recorded * 2 ≤ length b.recs
      → ((i : ℕ) → i < v.dirty → get_or a.numbers i 0 ≡ get_or b.numbers i 0)
      → ((i : ℕ) → i < v.dirty * P → get_or a.frames i 0 ≡ get_or b.frames i 0)
      → ((i : ℕ) → i < v.recorded * 2 → get_or a.recs i 0 ≡ get_or b.recs i 0)
      → ((i : ℕ) → i < length (cached P C v.cache) * P → get_or a.clean i 0 ≡ get_or b.clean i 0)
      → view P C v a ≡ view P C v b
  unfolding view
  view_alike v a b ra rb n f r c =
      let ns : resize v.dirty a.numbers ≡ resize v.dirty b.numbers = resize_alike v.dirty a.numbers b.numbers n in
      let d : pages_in P (resize v.dirty a.numbers) a.frames ≡ pages_in P (resize v.dirty b.numbers) b.frames =
      pages_in-alike P (resize v.dirty a.numbers) a.frames b.frames (λ i h. f i (rw length-resize at h))
      ∙ ap (λ (l : List ℕ). pages_in P l b.frames) ns in
      λ i. record {
        size = v.size;
        dirty = d i;
        recorded = runs_alike v.recorded a.recs b.recs ra rb r i;
        cache = pages_in-alike P (cached P C v.cache) a.clean b.clean c i;
        budget = v.budget;
      }

  -- ## What is given back

  -- an update that the lent slices have room for
  pub record Roomy (v : Overlay) (n : ℕ) (w : Over) (l : Buffers) : Type 0 where
    pub sized : Sized P w.dirty
    pub clean : Sized P w.cache
    pub was : n * P ≤ length l.frames
    pub was_numbers : n ≤ length l.numbers
    pub was_recs : v.recorded * 2 ≤ length l.recs
    pub was_clean : length (cached P C v.cache) * P ≤ length l.clean
    pub frames : length w.dirty * P ≤ length l.frames
    pub numbers : length w.dirty ≤ length l.numbers
    pub recs : length w.recorded * 2 ≤ length l.recs
    pub cache : length w.cache * P ≤ length l.clean

  -- every slice keeps its length, freed places are zeros, and places never used stay
  pub record GivenBack (v : Overlay) (n : ℕ) (w : Over) (l x : Buffers) : Type 0 where
    pub frames : length x.frames ≡ length l.frames
    pub numbers : length x.numbers ≡ length l.numbers
    pub recs : length x.recs ≡ length l.recs
    pub clean : length x.clean ≡ length l.clean
    pub freed : (i : ℕ) → length w.dirty * P ≤ i → i < n * P → get_or x.frames i 0 ≡ 0
    pub freed_numbers : (i : ℕ) → length w.dirty ≤ i → i < n → get_or x.numbers i 0 ≡ 0
    pub freed_clean : (i : ℕ) → length w.cache * P ≤ i → i < length (cached P C v.cache) * P → get_or x.clean i 0 ≡ 0
    pub unused : (i : ℕ) → length w.dirty * P ≤ i → n * P ≤ i → get_or x.frames i 0 ≡ get_or l.frames i 0

  pub given_back : (v : Overlay) (n : ℕ) (w : Over) (l : Buffers) → Roomy v n w l → GivenBack v n w l (put_back P C v n w l)
  unfolding put_back
  given_back v n w l r =
      let f : length (flat w.dirty) ≡ length w.dirty * P = flat-length P w.dirty r.sized in
      let c : length (flat w.cache) ≡ length w.cache * P = flat-length P w.cache r.clean in
      record {
        frames = refill_keeps (n * P) (flat w.dirty) l.frames r.was (omega (arith, r.frames));
        numbers = refill_keeps n (page_numbers w.dirty) l.numbers r.was_numbers (omega (arith, numbers-length w.dirty, r.numbers));
        recs = refill_keeps (v.recorded * 2) (numbers_of w.recorded) l.recs r.was_recs (omega (arith, length-numbers w.recorded, r.recs));
        clean = refill_keeps (length (cached P C v.cache) * P) (flat w.cache) l.clean r.was_clean (omega (arith, r.cache));
        freed = λ i h k. refill_freed (n * P) (flat w.dirty) l.frames i (omega arith) k;
        freed_numbers = λ i h k. refill_freed n (page_numbers w.dirty) l.numbers i (omega (arith, numbers-length w.dirty)) k;
        freed_clean = λ i h k. refill_freed (length (cached P C v.cache) * P) (flat w.cache) l.clean i (omega arith) k;
        unused = λ i h k. refill_past (n * P) (flat w.dirty) l.frames i (omega arith) k;
      }

-- 01: "its frames, page numbers, clean frames and record, whole, become zeros": each is as long as it was, and every element is 0
abbrev Blank : List ℕ → List ℕ → Type 0
Blank was now = (length now ≡ length was) × ((i : ℕ) → get_or now i 0 ≡ 0)

pub wiped_blank : (l : Buffers) → Blank l.frames (wiped l).frames × Blank l.numbers (wiped l).numbers × Blank l.clean (wiped l).clean × Blank l.recs (wiped l).recs
unfolding wiped
wiped_blank l = (blank l.frames, blank l.numbers, blank l.clean, blank l.recs)
  where
    blank : (xs : List ℕ) → Blank xs (zeros (length xs))
    blank xs = (length-zeros (length xs), zeros_at (length xs))
