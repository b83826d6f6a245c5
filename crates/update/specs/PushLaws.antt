-- A run pushed on the record in the lent slices, and the growth or the cut that it belongs to.
use Rattle.std.specs.Prelude.{◌≡◌, refl, ℕ, ◌+◌, ◌*◌, ◌/◌, ◌≤◌, ◌<◌, cond, ◌&&◌, take, Ok, Err}
use Rattle.std.proofs.Math.Path.{sym, ap}
use Rattle.std.proofs.Common.{◌∙◌, arith, length-append, le-leb}
use Rattle.std.proofs.Math.Bool.{true, false}
use mathlib.Core.List.{List, [], ◌∷◌, ◌++◌}
use Rattle.std.proofs.Math.Dec.{ltb, leb}
use Rattle.std.proofs.Math.ListN.{length}
use Rattle.config.specs.Pages.{count}
use Rattle.config.specs.declared.refusal.Refusal.{Refusal}
use Rattle.config.specs.declared.refusal.Refusal.TheVariants.{RecordFull}
use Rattle.memory.specs.Bytes.{overwrite, resize}
use Rattle.memory.specs.Laws.{split, below}
use Rattle.meta.specs.declared.ZeroExtent.{ZeroExtent}
use Rattle.meta.specs.Runs.{run, numbers_of}
use Rattle.runs.specs.Flat.{runs_in}
use Rattle.runs.specs.FlatLaws.{length-runs_in}
use Rattle.update.specs.declared.Overlay.{Overlay}
use Rattle.update.specs.declared.Image.{Image}
use Rattle.update.specs.Lists.{refill}
use Rattle.update.specs.ListLaws.{clash, refill_same, refill_more, resize-take}
use Rattle.update.specs.Pages.{Page, page_numbers, flat, keep_below, pages_in}
use Rattle.update.specs.Image.{image_in}
use Rattle.update.specs.Update.{Over, push_run, stretch, chop, Tried, accepted, refused, and_then, try_grow, try_chop, try_patch, try_finish}
use Rattle.update.specs.Rooms.{Room, then_left, stretch_room, try_patch_lem, try_finish_lem}
use Rattle.update.specs.Buffers.{Buffers, frame_count, entry_count, cached, clean_pages, view, overlay_of, put_back}
use Rattle.update.specs.Frames.{relaid, cache_laid}
use Rattle.update.specs.Laid.{laid, bufs, leave, Fits, Dropped, below_count, ended, grown, chopped}
use Rattle.update.specs.LeaveLaws.{view_room}
use Rattle.update.specs.StepLaws.{then_more, patch_more, finish_more, next_more}
use Rattle.update.specs.TouchLaws.{overlay_view, put_view, few_numbers}
use Rattle.update.specs.BufferLaws.{numbers-runs_in, view_size}

numbers_append : (a b : List ZeroExtent) → numbers_of (a ++ b) ≡ numbers_of a ++ numbers_of b
numbers_append [] b = refl
numbers_append (x ∷ a) b = ap (λ (l : List ℕ). x.start ∷ x.end ∷ l) (numbers_append a b)

-- the record's list after a push behind n runs
unfoldable pub pushed_recs : ℕ → ℕ → ℕ → List ℕ → List ℕ
pushed_recs n a e w = cond (ltb a e) (overwrite (n * 2) (a ∷ e ∷ []) w) w

unfoldable pub pushed_count : ℕ → ℕ → ℕ → ℕ
pushed_count n a e = cond (ltb a e) (n + 1) n

-- a run that is to be recorded finds a free entry
abbrev pub Free : ℕ → ℕ → ℕ → List ℕ → Type 0
Free n a e w = (ltb a e && leb (length w / 2) n) ≡ false

module _ (n a e : ℕ) (w : List ℕ) (fit : n * 2 ≤ length w) (free : Free n a e w) where
  pub push_recs : refill (n * 2) (numbers_of (push_run a e (runs_in n w))) w ≡ pushed_recs n a e w
  unfolding push_run pushed_recs
  push_recs = split (ltb a e)
      (λ t. let k : length w / 2 ≤ n → ⊥ = λ h. clash (le-leb (length w / 2) n h) (rw t at free) in
      let m : n * 2 + 2 ≤ length w = below n (length w / 2) (λ h. omega arith) (λ h. absurd (k h)) in
      rw (t, numbers_append (runs_in n w) (run a e ∷ []), numbers-runs_in n w fit) (refill_more (n * 2) (a ∷ e ∷ []) w m))
      (λ f. rw (f, numbers-runs_in n w fit) (refill_same (n * 2) w fit))

  pub push_count : length (push_run a e (runs_in n w)) ≡ pushed_count n a e
  unfolding push_run pushed_count
  push_count = split (ltb a e)
      (λ t. rw t (length-append (runs_in n w) (run a e ∷ []) ∙ omega (arith, length-runs_in w n fit)))
      (λ f. rw f (length-runs_in w n fit))

module _ (P C : ℕ) (pos : 0 < P) (v : Overlay) (l : Buffers) (fits : Fits P C v l) (n : ℕ) where
  -- the overlay's numbers with another size and record
  abbrev pub recording : ℕ → ℕ → Overlay
  recording a e = record { base_size = v.base_size; size = n; dirty = v.dirty; recorded = pushed_count v.recorded a e; cache = v.cache; budget = v.budget }

  -- growth as far as its record
  pub stretched : Free v.recorded (count P v.size) (count P n) l.recs
      → leave P C v l v.dirty (accepted (stretch P n (view P C v l)))
      ≡ laid (recording (count P v.size) (count P n)) (bufs l.frames l.numbers l.clean (pushed_recs v.recorded (count P v.size) (count P n) l.recs)) (Ok tt)
  unfolding leave stretch view overlay_of put_back
  stretched free = λ k. laid
      record {
        base_size = v.base_size;
        size = n;
        dirty = ap (λ (x : Overlay). x.dirty) (overlay_view P C pos v l fits) k;
        recorded = push_count v.recorded (count P v.size) (count P n) l.recs fits.1.0 free k;
        cache = ap (λ (x : Overlay). x.cache) (overlay_view P C pos v l fits) k;
        budget = v.budget;
      }
      (bufs
      (ap (λ (x : Buffers). x.frames) (put_view P C pos v l fits) k)
      (ap (λ (x : Buffers). x.numbers) (put_view P C pos v l fits) k)
      (ap (λ (x : Buffers). x.clean) (put_view P C pos v l fits) k)
      (push_recs v.recorded (count P v.size) (count P n) l.recs fits.1.0 free k))
      (Ok tt)

  view_recs : length (view P C v l).recorded ≡ v.recorded
  unfolding view
  view_recs = length-runs_in l.recs v.recorded fits.1.0

  -- whether a run finds a free entry, of the update and of the list
  pub full_is : (a e : ℕ) → (ltb a e && leb (entry_count l) (length (view P C v l).recorded)) ≡ (ltb a e && leb (length l.recs / 2) v.recorded)
  unfolding entry_count
  full_is a e = ap (λ (x : ℕ). ltb a e && leb (length l.recs / 2) x) view_recs

  pub refused_same : (r : Refusal) → leave P C v l v.dirty (refused r (view P C v l)) ≡ laid v l (Err r)
  unfolding leave
  refused_same r = λ k. laid (overlay_view P C pos v l fits k) (put_view P C pos v l fits k) (Err r)

  pub accepted_same : leave P C v l v.dirty (accepted (view P C v l)) ≡ laid v l (Ok tt)
  unfolding leave
  accepted_same = λ k. laid (overlay_view P C pos v l fits k) (put_view P C pos v l fits k) (Ok tt)

  module _ (M : ℕ) where
    -- ## A cut

    pub chopped_full : (ltb (count P n) (count P v.size) && leb (length l.recs / 2) v.recorded) ≡ true → chopped P C M v l n ≡ laid v l (Err RecordFull)
    unfolding chopped try_chop view
    chopped_full h =
        let t : (ltb (count P n) (count P v.size) && leb (entry_count l) (length (view P C v l).recorded)) ≡ true = full_is (count P n) (count P v.size) ∙ h in
        rw t (refused_same RecordFull)

    abbrev pub cut_pages : Dropped
    cut_pages = below_count P C (recording (count P n) (count P v.size)) l.frames l.numbers l.clean (count P n) n

    pub chopped_some : Free v.recorded (count P n) (count P v.size) l.recs
        → chopped P C M v l n ≡ laid cut_pages.overlay (bufs cut_pages.frames cut_pages.numbers cut_pages.clean (pushed_recs v.recorded (count P n) (count P v.size) l.recs)) (Ok tt)
    unfolding chopped try_chop leave chop view overlay_of put_back below_count relaid cache_laid
    chopped_some free =
        let t : (ltb (count P n) (count P v.size) && leb (entry_count l) (length (view P C v l).recorded)) ≡ false = full_is (count P n) (count P v.size) ∙ free in
        let d : pages_in P (resize v.dirty l.numbers) l.frames ≡ pages_in P (take v.dirty l.numbers) l.frames =
        ap (λ (x : List ℕ). pages_in P x l.frames) (resize-take v.dirty l.numbers (few_numbers P C pos v l fits)) in
        let k : List Page = keep_below (count P n) (clean_pages P C v.cache l.clean) in
        rw t (λ j. laid
        record {
          base_size = v.base_size;
          size = n;
          dirty = length (keep_below (count P n) (d j));
          recorded = push_count v.recorded (count P n) (count P v.size) l.recs fits.1.0 free j;
          cache = record { pages = resize C (page_numbers k); count = length k };
          budget = v.budget;
        }
        (bufs
        (refill (v.dirty * P) (flat (keep_below (count P n) (d j))) l.frames)
        (refill v.dirty (page_numbers (keep_below (count P n) (d j))) l.numbers)
        (refill (length (cached P C v.cache) * P) (flat k) l.clean)
        (push_recs v.recorded (count P n) (count P v.size) l.recs fits.1.0 free j))
        (Ok tt))

    -- ## Growth

    module _ (i : Image) (mem : List ℕ) where
      abbrev F : ℕ
      F = frame_count P l

      abbrev R : ℕ
      R = entry_count l

      abbrev b : ℕ → ℕ
      b = image_in P i mem

      abbrev K : ℕ
      K = length (cached P C v.cache)

      pub grown_full : (ltb (count P v.size) (count P n) && leb (length l.recs / 2) v.recorded) ≡ true → grown P C M i mem v l n ≡ laid v l (Err RecordFull)
      unfolding grown try_grow view
      grown_full h =
          let t : (ltb (count P v.size) (count P n) && leb (entry_count l) (length (view P C v l).recorded)) ≡ true = full_is (count P v.size) (count P n) ∙ h in
          rw t (refused_same RecordFull)

      abbrev ends : ℕ → ℕ → Over → Tried
      ends x y w = and_then (try_patch P M x y b v.size n w) (try_finish P M x y b v.size n)

      grown_is : Free v.recorded (count P v.size) (count P n) l.recs → grown P C M i mem v l n ≡ leave P C v l v.dirty (ends F R (stretch P n (view P C v l)))
      unfolding grown try_grow view
      grown_is free =
          let t : (ltb (count P v.size) (count P n) && leb (entry_count l) (length (view P C v l).recorded)) ≡ false = full_is (count P v.size) (count P n) ∙ free in
          rw t

      pub grown_next : (free : Free v.recorded (count P v.size) (count P n) l.recs)
          → ended P C M i mem (recording (count P v.size) (count P n)) (bufs l.frames l.numbers l.clean (pushed_recs v.recorded (count P v.size) (count P n) l.recs)) v.size n
          ≡ grown P C M i mem v l n
      unfolding ended
      grown_next free =
          let t : (ltb (count P (view P C v l).size) (count P n) && leb R (length (view P C v l).recorded)) ≡ false =
          ap (λ (x : ℕ). ltb (count P x) (count P n) && leb R (length (view P C v l).recorded)) (view_size P C v l) ∙ full_is (count P v.size) (count P n) ∙ free in
          next_more P C pos v l fits (accepted (stretch P n (view P C v l))) ends
          (stretch_room P M F R K b n (view P C v l) (view_room P C pos v l fits) t)
          (λ w. then_more P M F R b w (try_patch P M F R b v.size n w) (try_finish P M F R b v.size n) (patch_more P M F R b v.size n w) (λ x. finish_more P M F R b v.size n x))
          (λ w k. then_left (Room P F R K) (try_patch P M F R b v.size n w) (try_finish P M F R b v.size n) (try_patch_lem P M F R K b v.size n w k) (λ x z. try_finish_lem P M F R K b v.size n x z))
          (recording (count P v.size) (count P n)) (bufs l.frames l.numbers l.clean (pushed_recs v.recorded (count P v.size) (count P n) l.recs))
          (stretched free)
          ∙ sym (grown_is free)
