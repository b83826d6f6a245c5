-- Changes one after another: what the first leaves in the lent slices is what the second starts from.
use Rattle.std.specs.Prelude.{◌≡◌, Ok, Err}
use Rattle.std.proofs.Math.Path.{refl, sym, ap, subst}
use Rattle.std.proofs.Common.{◌∙◌, arith}
use Prim.Native.Nat.{ℕ, ◌*◌, ◌≤◌, ◌<◌, max}
use Rattle.std.proofs.Math.Nat.{mul-le-mul_right}
use mathlib.Core.List.{List}
use Rattle.std.proofs.Math.ListN.{length}
use Rattle.memory.specs.Bytes.{resize}
use Rattle.memory.specs.Laws.{below, length-resize}
use Rattle.meta.specs.Runs.{numbers_of}
use Rattle.runs.specs.FlatLaws.{length-numbers, length-runs_in}
use Rattle.config.specs.declared.refusal.Refusal.{Refusal}
use Rattle.update.specs.declared.Overlay.{Overlay}
use Rattle.update.specs.Verdict.{Verdict}
use Rattle.update.specs.Lists.{refill}
use Rattle.update.specs.ListLaws.{refill_keeps, refill_twice, refill_alike}
use Rattle.update.specs.Pages.{Page, page_numbers, flat}
use Rattle.update.specs.PageLaws.{Sized, pages_in-sized, numbers-length, flat-length, length-pages_in}
use Rattle.update.specs.Update.{Over, Tried, accepted, refused, and_then, left}
use Rattle.update.specs.Rooms.{Room}
use Rattle.update.specs.Buffers.{Buffers, frame_count, entry_count, cached, view, overlay_of, put_back}
use Rattle.update.specs.BufferLaws.{view_put, cached_few, length-cached_put, settled_put, frames_fit, numbers_fit, entries_fit, fit_entries}
use Rattle.update.specs.Laid.{Laid, laid, bufs, verdict_of, leave, Fits}

max_mul : (a b P : ℕ) → max (a * P) (b * P) ≡ max a b * P
max_mul a b P = below a b
    (λ h. let m : max a b ≡ b = omega arith in let k : a ≤ b = omega arith in rw m (omega (arith, mul-le-mul_right P k)))
    (λ h. let m : max a b ≡ a = omega arith in rw m (omega (arith, mul-le-mul_right P h)))

-- an answer that is known
pub told : {v : Overlay} {l : Buffers} {a b : Verdict} {x : Laid} → laid v l a ≡ x → a ≡ b → x ≡ laid v l b
told {v} {l} e t = sym e ∙ ap (λ (y : Verdict). laid v l y) t

abbrev pub IsAccepted : Verdict → Type 0
IsAccepted (Ok u) = Unit {0}
IsAccepted (Err r) = ⊥

-- page size, cache pages
module _ (P C : ℕ) where
  -- what there is room for after a change that took nothing into the clean cache
  abbrev pub Fit : Overlay → Buffers → Over → Type 0
  Fit v l w = Room P (frame_count P l) (entry_count l) (length (cached P C v.cache)) w

  module _ (pos : 0 < P) (v : Overlay) (l : Buffers) (fits : Fits P C v l) where
    pub view_dirty : length (view P C v l).dirty ≡ v.dirty
    unfolding view
    view_dirty = length-pages_in P (resize v.dirty l.numbers) l.frames ∙ length-resize v.dirty l.numbers

    -- an update in slices that hold it has room there
    pub view_room : Fit v l (view P C v l)
    unfolding view
    view_room = record {
      sized = pages_in-sized P (resize v.dirty l.numbers) l.frames;
      clean = pages_in-sized P (cached P C v.cache) l.clean;
      dirty = omega (arith, fits.0, view_dirty);
      recs = omega (arith, length-runs_in l.recs v.recorded fits.1.0, fit_entries v.recorded l fits.1.0);
      few = omega (arith, length-pages_in P (cached P C v.cache) l.clean);
    }

    -- a change w, put back with n frames in use
    module _ (n : ℕ) (w : Over) (busy : n ≤ frame_count P l) (r : Fit v l w) where
      abbrev l' : Buffers
      l' = put_back P C v n w l

      abbrev v' : Overlay
      v' = overlay_of P C v.base_size w

      frames_same : length l'.frames ≡ length l.frames
      unfolding put_back
      frames_same = refill_keeps (n * P) (flat w.dirty) l.frames (frames_fit P n l pos busy) (omega (arith, flat-length P w.dirty r.sized, frames_fit P (length w.dirty) l pos r.dirty))

      numbers_same : length l'.numbers ≡ length l.numbers
      unfolding put_back
      numbers_same = refill_keeps n (page_numbers w.dirty) l.numbers (numbers_fit P n l busy) (omega (arith, numbers-length w.dirty, numbers_fit P (length w.dirty) l r.dirty))

      recs_same : length l'.recs ≡ length l.recs
      unfolding put_back
      recs_same = refill_keeps (v.recorded * 2) (numbers_of w.recorded) l.recs fits.1.0 (omega (arith, length-numbers w.recorded, entries_fit (length w.recorded) l r.recs))

      clean_fit : (k : ℕ) → k ≤ C → k * P ≤ length l.clean
      clean_fit k h = omega (arith, mul-le-mul_right P h, fits.1.1.0)

      clean_same : length l'.clean ≡ length l.clean
      unfolding put_back
      clean_same = refill_keeps (length (cached P C v.cache) * P) (flat w.cache) l.clean (clean_fit (length (cached P C v.cache)) (cached_few P C v.cache))
          (omega (arith, flat-length P w.cache r.clean, clean_fit (length w.cache) (omega (arith, r.few, cached_few P C v.cache))))

      few : length w.cache ≤ C
      few = omega (arith, r.few, cached_few P C v.cache)

      pub frames_left : frame_count P l' ≡ frame_count P l
      unfolding frame_count
      frames_left = rw (frames_same, numbers_same)

      pub entries_left : entry_count l' ≡ entry_count l
      unfolding entry_count
      entries_left = rw recs_same

      pub cached_left : length (cached P C v'.cache) ≡ length w.cache
      cached_left = length-cached_put P C v.base_size w few

      pub fits_left : Fits P C v' l'
      unfolding overlay_of
      fits_left = (omega (arith, frames_left, r.dirty), (omega (arith, recs_same, entries_fit (length w.recorded) l r.recs), (omega (arith, clean_same, fits.1.1.0), settled_put P C v.base_size w few)))

      pub view_left : view P C v' l' ≡ w
      view_left = view_put P C v.base_size v n w l r.sized r.clean few

      -- and then a change t of it, which leaves no fewer runs recorded, put back with m frames in use
      pub leave_leave : (m : ℕ) (t : Tried) → length w.dirty ≤ m → length w.recorded ≤ length (left t).recorded
          → leave P C v' l' m t ≡ leave P C v l (max n m) t
      unfolding leave put_back overlay_of
      leave_leave m t h k =
          let a : refill (m * P) (flat (left t).dirty) (refill (n * P) (flat w.dirty) l.frames) ≡ refill (max n m * P) (flat (left t).dirty) l.frames =
          refill_twice (n * P) (m * P) (flat w.dirty) (flat (left t).dirty) l.frames (omega (arith, flat-length P w.dirty r.sized, mul-le-mul_right P h))
          ∙ ap (λ (x : ℕ). refill x (flat (left t).dirty) l.frames) (max_mul n m P) in
          let b : refill m (page_numbers (left t).dirty) (refill n (page_numbers w.dirty) l.numbers) ≡ refill (max n m) (page_numbers (left t).dirty) l.numbers =
          refill_twice n m (page_numbers w.dirty) (page_numbers (left t).dirty) l.numbers (omega (arith, numbers-length w.dirty)) in
          let q : ℕ = length (cached P C v.cache) in
          let c : refill (length (cached P C v'.cache) * P) (flat (left t).cache) (refill (q * P) (flat w.cache) l.clean) ≡ refill (q * P) (flat (left t).cache) l.clean =
          refill_twice (q * P) (length (cached P C v'.cache) * P) (flat w.cache) (flat (left t).cache) l.clean (omega (arith, flat-length P w.cache r.clean, ap (λ (x : ℕ). x * P) cached_left))
          ∙ ap (λ (x : ℕ). refill x (flat (left t).cache) l.clean) (ap (λ (x : ℕ). max (q * P) (x * P)) cached_left ∙ omega (arith, mul-le-mul_right P r.few)) in
          let d : refill (length w.recorded * 2) (numbers_of (left t).recorded) (refill (v.recorded * 2) (numbers_of w.recorded) l.recs) ≡ refill (v.recorded * 2) (numbers_of (left t).recorded) l.recs =
          refill_twice (v.recorded * 2) (length w.recorded * 2) (numbers_of w.recorded) (numbers_of (left t).recorded) l.recs (omega (arith, length-numbers w.recorded))
          ∙ refill_alike (max (v.recorded * 2) (length w.recorded * 2)) (v.recorded * 2) (numbers_of (left t).recorded) l.recs (omega (arith, length-numbers (left t).recorded)) in
          λ i. laid (overlay_of P C v.base_size (left t)) (bufs (a i) (b i) (c i) (d i)) (verdict_of t)

    -- frames that are in use again at the end need not be counted
    pub leave_alike : (n m : ℕ) (t : Tried) → Sized P (left t).dirty → max n (length (left t).dirty) ≡ max m (length (left t).dirty) → leave P C v l n t ≡ leave P C v l m t
    unfolding leave put_back
    leave_alike n m t s e =
        let d : List Page = (left t).dirty in
        let f : length (flat d) ≡ length d * P = flat-length P d s in
        let a : max (n * P) (length (flat d)) ≡ max (m * P) (length (flat d)) = rw f (max_mul n (length d) P ∙ ap (λ (x : ℕ). x * P) e ∙ sym (max_mul m (length d) P)) in
        let b : refill (n * P) (flat d) l.frames ≡ refill (m * P) (flat d) l.frames = refill_alike (n * P) (m * P) (flat d) l.frames a in
        let c : refill n (page_numbers d) l.numbers ≡ refill m (page_numbers d) l.numbers = refill_alike n m (page_numbers d) l.numbers (rw (numbers-length d) e) in
        λ i. laid (overlay_of P C v.base_size (left t)) (bufs (b i) (c i) (put_back P C v n (left t) l).clean (put_back P C v n (left t) l).recs) (verdict_of t)

    -- ## A change that answered, and the next one

    module _ (n : ℕ) (t : Tried) (busy : n ≤ frame_count P l) (r : Fit v l (left t)) (v1 : Overlay) (l1 : Buffers) (a : Verdict) (e : leave P C v l n t ≡ laid v1 l1 a) where
      pub step_fits : Fits P C v1 l1
      unfolding leave
      step_fits = subst (λ (x : Laid). Fits P C x.overlay x.bufs) e (fits_left n (left t) busy r)

      pub step_frames : frame_count P l1 ≡ frame_count P l
      unfolding leave
      step_frames = subst (λ (x : Laid). frame_count P x.bufs ≡ frame_count P l) e (frames_left n (left t) busy r)

      pub step_entries : entry_count l1 ≡ entry_count l
      unfolding leave
      step_entries = subst (λ (x : Laid). entry_count x.bufs ≡ entry_count l) e (entries_left n (left t) busy r)

      -- a change f of what was left, which drops no run of the record
      pub step_next : (f : Over → Tried) → ((w : Over) → length w.recorded ≤ length (left (f w)).recorded)
          → leave P C v1 l1 v1.dirty (f (view P C v1 l1)) ≡ leave P C v l (max n (length (left t).dirty)) (f (left t))
      unfolding leave overlay_of
      step_next f g =
          subst (λ (x : Laid). leave P C x.overlay x.bufs x.overlay.dirty (f (view P C x.overlay x.bufs)) ≡ leave P C v l (max n (length (left t).dirty)) (f (left t))) e
          (ap (λ (x : Over). leave P C (overlay_of P C v.base_size (left t)) (put_back P C v n (left t) l) (length (left t).dirty) (f x)) (view_left n (left t) busy r)
          ∙ leave_leave n (left t) busy r (length (left t).dirty) (f (left t)) (omega arith) (g (left t)))

    pub then_accepted : (n : ℕ) (t : Tried) (f : Over → Tried) (v1 : Overlay) (l1 : Buffers) → leave P C v l n t ≡ laid v1 l1 (Ok tt) → and_then t f ≡ f (left t)
    unfolding leave
    then_accepted n (accepted w) f v1 l1 e = refl
    then_accepted n (refused r w) f v1 l1 e = absurd (subst (λ (x : Laid). IsAccepted x.verdict) (sym e) tt)

    pub then_refused : (n : ℕ) (t : Tried) (f : Over → Tried) (v1 : Overlay) (l1 : Buffers) (r : Refusal) → leave P C v l n t ≡ laid v1 l1 (Err r) → and_then t f ≡ t
    unfolding leave
    then_refused n (accepted w) f v1 l1 r e = absurd (subst (λ (x : Laid). IsAccepted x.verdict) e tt)
    then_refused n (refused x w) f v1 l1 r e = refl
