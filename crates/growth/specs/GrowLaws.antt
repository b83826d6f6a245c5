-- The ends of growth and the tail of a truncation, way by way: nothing to do, refused, a page touched; and what they leave room for.
use Rattle.std.specs.Prelude.{◌≡◌, false, ◌&&◌, List, ltb, leb, length, Ok, Err}
use Rattle.std.proofs.Math.Path.{sym}
use Rattle.std.proofs.Common.{ap, ◌∙◌, arith}
use Prim.Native.Nat.{ℕ, ◌+◌, ◌-◌, ◌*◌, ◌/◌, ◌%◌, ◌≤◌, ◌<◌, min}
use Rattle.std.proofs.Math.Bool.{true, and-false}
use borrow.Author.Tests.{lt-ltb, le-ltb, eq-eqb, ne_eqb}
use Rattle.config.specs.Pages.{count, page_place}
use Rattle.config.specs.declared.refusal.Refusal.{Refusal}
use Rattle.config.specs.declared.refusal.Refusal.TheVariants.{OffsetOverflow}
use Rattle.update.specs.declared.Overlay.{Overlay}
use Rattle.update.specs.declared.Image.{Image}
use Rattle.update.specs.Verdict.{Verdict}
use Rattle.update.specs.Pages.{partial}
use Rattle.update.specs.Image.{image_in}
use Rattle.update.specs.Update.{blank, stretch, accepted, try_patch, try_finish, try_grow, try_tail}
use Rattle.update.specs.Chunks.{try_touch-alike, blank_end, blank_tail}
use Rattle.update.specs.Buffers.{Buffers, frame_count, entry_count, cached, view}
use Rattle.update.specs.Laid.{laid, bufs, leave, Fits, touched, patched, finished, ended, grown, grown_to, tailed}
use Rattle.update.specs.StepLaws.{with_size, keep_accepted, keep_refused, grown_to-none, grown_to-some}
use Rattle.update.specs.LeaveLaws.{view_room, step_fits}
use Rattle.update.specs.PushLaws.{pushed_recs, recording, accepted_same, refused_same, stretched, full_is, grown_full, grown_next}
use Rattle.update.specs.Rooms.{try_patch_lem, stretch_room}
use Rattle.pool.specs.Pool.{Pushed, pushes, pushed}
use Rattle.pool.specs.PushLaws.{Went, pushed_full, pushed_entries}
use Rattle.update.specs.BufferLaws.{view_size}

module _ (P C : ℕ) (pos : 0 < P) (v : Overlay) (l : Buffers) (fits : Fits P C v l) (M : ℕ) (i : Image) (mem : List ℕ) where
  abbrev F : ℕ
  F = frame_count P l

  abbrev R : ℕ
  R = entry_count l

  abbrev b : ℕ → ℕ
  b = image_in P i mem

  -- ## The old end

  pub patched_none : (z n : ℕ) → z % P ≡ 0 → laid v l (Ok tt) ≡ patched P C M i mem v l z n
  unfolding patched try_patch
  patched_none z n h = rw (eq-eqb (z % P) 0 h) (sym (accepted_same P C pos v l fits 0))

  pub patched_over : (z n : ℕ) → (z % P ≡ 0 → ⊥) → M < (z / P + 1) * P → laid v l (Err OffsetOverflow) ≡ patched P C M i mem v l z n
  unfolding patched try_patch
  patched_over z n h o = rw (ne_eqb (z % P) 0 h, lt-ltb M ((z / P + 1) * P) o) (sym (refused_same P C pos v l fits 0 OffsetOverflow))

  pub patched_touch : (z n : ℕ) → z < n → (z % P ≡ 0 → ⊥) → (z / P + 1) * P ≤ M → (q k e : ℕ) → q ≡ z / P → k ≡ z % P → e ≡ min P (n - z / P * P)
      → touched P C M i mem v l true (blank P (q * P + k) (q * P + e)) q ≡ patched P C M i mem v l z n
  unfolding patched try_patch touched
  patched_touch z n h p o q k e qe ke ee =
      let a : q * P + k ≡ z = rw (qe, ke) (page_place P pos z) in
      rw (ne_eqb (z % P) 0 p, le-ltb M ((z / P + 1) * P) o, a, qe, ee)
      (ap (leave P C v l v.dirty) (sym (try_touch-alike P M F R pos b true (blank P z n) (blank P z (z / P * P + min P (n - z / P * P))) (z / P) (view P C v l) (blank_end P pos z n h))))

  -- ## The new end

  pub finished_none : (z n : ℕ) → n % P ≡ 0 → laid v l (Ok tt) ≡ finished P C M i mem v l z n
  unfolding finished try_finish
  finished_none z n h = rw (eq-eqb (n % P) 0 h) (sym (accepted_same P C pos v l fits 0))

  pub finished_same : (z n : ℕ) → n / P ≡ z / P → laid v l (Ok tt) ≡ finished P C M i mem v l z n
  unfolding finished try_finish
  finished_same z n h = rw (eq-eqb (z / P) (n / P) (sym h), and-false (partial P n)) (sym (accepted_same P C pos v l fits 0))

  pub finished_touch : (z n : ℕ) → (n % P ≡ 0 → ⊥) → (n / P ≡ z / P → ⊥) → (q k : ℕ) → q ≡ n / P → k ≡ n % P
      → touched P C M i mem v l true (blank P (q * P + 0) (q * P + k)) q ≡ finished P C M i mem v l z n
  unfolding finished try_finish touched
  finished_touch z n p o q k qe ke =
      let a : q * P + k ≡ n = rw (qe, ke) (page_place P pos n) in
      let s : q * P + 0 ≡ n / P * P = rw qe (omega arith) in
      rw (ne_eqb (n % P) 0 p, ne_eqb (z / P) (n / P) (λ e. o (sym e)), a, s, qe)

  -- ## The tail

  pub tailed_none : (n : ℕ) → n % P ≡ 0 → laid v l (Ok tt) ≡ tailed P C M i mem v l n
  unfolding tailed try_tail
  tailed_none n h = rw (eq-eqb (n % P) 0 h) (sym (accepted_same P C pos v l fits 0))

  pub tailed_touch : (n : ℕ) → (n % P ≡ 0 → ⊥) → (q k : ℕ) → q ≡ n / P → k ≡ n % P
      → touched P C M i mem v l true (blank P (q * P + k) (q * P + P)) q ≡ tailed P C M i mem v l n
  unfolding tailed try_tail touched
  tailed_touch n p q k qe ke =
      let a : q * P + k ≡ n = rw (qe, ke) (page_place P pos n) in
      rw (ne_eqb (n % P) 0 p, a, qe)
      (ap (leave P C v l v.dirty) (sym (try_touch-alike P M F R pos b true (blank P n (n + P)) (blank P n (n / P * P + P)) (n / P) (view P C v l) (blank_tail P pos n))))

  -- ## Room for what comes next

  pub patched_fits : (z n : ℕ) (v1 : Overlay) (l1 : Buffers) (a : Verdict) → laid v1 l1 a ≡ patched P C M i mem v l z n → Fits P C v1 l1
  unfolding patched
  patched_fits z n v1 l1 a e = step_fits P C pos v l fits v.dirty (try_patch P M F R b z n (view P C v l)) fits.0
      (try_patch_lem P M F R (length (cached P C v.cache)) b z n (view P C v l) (view_room P C pos v l fits)) v1 l1 a (sym e)

  -- ## Growth of a truncation

  pub rests_same : (n : ℕ) → n ≤ v.size → laid v l (Ok tt) ≡ grown_to P C M i mem v l n
  rests_same n h = sym (grown_to-none P C pos v l fits M i mem n h ∙ accepted_same P C pos v l fits 0)

  pub grows_accepted : (n : ℕ) → v.size < n → (v1 : Overlay) (l1 : Buffers) → grown P C M i mem v l n ≡ laid v1 l1 (Ok tt) → laid v1 l1 (Ok tt) ≡ grown_to P C M i mem v l n
  unfolding grown
  grows_accepted n h v1 l1 e = sym (grown_to-some P C pos v l fits M i mem n h ∙ keep_accepted P C pos v l fits v.size v.dirty (try_grow P M F R b n (view P C v l)) v1 l1 e)

  pub grows_refused : (n : ℕ) → v.size < n → (v1 : Overlay) (l1 : Buffers) (r : Refusal) → grown P C M i mem v l n ≡ laid v1 l1 (Err r)
      → laid (with_size v.size v1) l1 (Err r) ≡ grown_to P C M i mem v l n
  unfolding grown
  grows_refused n h v1 l1 r e = sym (grown_to-some P C pos v l fits M i mem n h ∙ keep_refused P C pos v l fits v.size v.dirty (try_grow P M F R b n (view P C v l)) v1 l1 r e)

-- ## Growth, once its run was pushed

-- to n bytes; r was answered, and x is the record then
module _ (P C : ℕ) (pos : 0 < P) (v : Overlay) (l : Buffers) (fits : Fits P C v l) (n : ℕ)
    (r : Pushed) (x : List ℕ) (p e : ℕ) (first : p ≡ count P v.size) (last : e ≡ count P n) (push : pushes r x ≡ pushed l.recs v.recorded p e) where
  abbrev recs_then : Buffers
  recs_then = bufs l.frames l.numbers l.clean x

  asked : pushes r x ≡ pushed l.recs v.recorded (count P v.size) (count P n)
  asked = push ∙ (λ j. pushed l.recs v.recorded (first j) (last j))

  pub grown_refused : (M : ℕ) (i : Image) (mem : List ℕ) → (q : Refusal) → r ≡ Err q → laid v recs_then (Err q) ≡ grown P C M i mem v l n
  grown_refused M i mem q h =
      let f = pushed_full l.recs v.recorded (count P v.size) (count P n) x q (ap (λ (y : Pushed). pushes y x) (sym h) ∙ asked) in
      (λ j. laid v (bufs l.frames l.numbers l.clean (f.1 j)) (Err (f.2 j))) ∙ sym (grown_full P C pos v l fits n M i mem f.0)

  module _ (k : ℕ) (h : r ≡ Ok k) where
    abbrev numbers_then : Overlay
    numbers_then = record { base_size = v.base_size; size = n; dirty = v.dirty; recorded = k; cache = v.cache; budget = v.budget }

    went : Went l.recs v.recorded (count P v.size) (count P n) x k
    went = pushed_entries l.recs v.recorded (count P v.size) (count P n) x k (ap (λ (y : Pushed). pushes y x) (sym h) ∙ asked)

    -- as the definitions say it
    abbrev numbers_said : Overlay
    numbers_said = recording P C pos v l fits n (count P v.size) (count P n)

    abbrev recs_said : Buffers
    recs_said = bufs l.frames l.numbers l.clean (pushed_recs v.recorded (count P v.size) (count P n) l.recs)

    numbers_so : numbers_then ≡ numbers_said
    numbers_so = λ j. record { base_size = v.base_size; size = n; dirty = v.dirty; recorded = went.count j; cache = v.cache; budget = v.budget }

    recs_so : recs_then ≡ recs_said
    recs_so = λ j. bufs l.frames l.numbers l.clean (went.recs j)

    pub stretched_fits : Fits P C numbers_then recs_then
    stretched_fits =
        let t : (ltb (count P (view P C v l).size) (count P n) && leb (entry_count l) (length (view P C v l).recorded)) ≡ false =
        ap (λ (y : ℕ). ltb (count P y) (count P n) && leb (entry_count l) (length (view P C v l).recorded)) (view_size P C v l) ∙ full_is P C pos v l fits n (count P v.size) (count P n) ∙ went.free in
        step_fits P C pos v l fits v.dirty (accepted (stretch P n (view P C v l))) fits.0
        (stretch_room P 0 (frame_count P l) (entry_count l) (length (cached P C v.cache)) (λ o. 0) n (view P C v l) (view_room P C pos v l fits) t)
        numbers_then recs_then (Ok tt) (stretched P C pos v l fits n went.free ∙ (λ j. laid (sym numbers_so j) (sym recs_so j) (Ok tt)))

    pub grown_ended : (M : ℕ) (i : Image) (mem : List ℕ) → ended P C M i mem numbers_then recs_then v.size n ≡ grown P C M i mem v l n
    grown_ended M i mem = (λ j. ended P C M i mem (numbers_so j) (recs_so j) v.size n) ∙ grown_next P C pos v l fits n M i mem went.free
