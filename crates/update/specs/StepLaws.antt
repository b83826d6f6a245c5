-- The parts of a write and of a truncation, one after another, are the whole of it.
use Rattle.std.specs.Prelude.{◌≡◌, Bool, ◌&&◌, List, ltb, eqb, Ok, Err}
use Rattle.std.proofs.Math.Path.{refl, ap}
use Rattle.std.proofs.Common.{sym, ◌∙◌, subst, lt-ltb, le-ltb}
use Prim.Native.Nat.{ℕ, zero, suc, ◌+◌, ◌*◌, ◌/◌, ◌≤◌, ◌<◌, max}
use native.Mathlib.Omega.{arith}
use Rattle.std.proofs.Math.Bool.{true, not}
use Rattle.std.proofs.Math.Dec.{leb}
use Rattle.std.proofs.Math.ListN.{length, length-append}
use Rattle.config.specs.Pages.{count}
use Rattle.config.specs.declared.refusal.Refusal.{Refusal}
use Rattle.memory.specs.Laws.{split}
use Rattle.update.specs.declared.Overlay.{Overlay}
use Rattle.update.specs.declared.Image.{Image}
use Rattle.update.specs.Lists.{tabulate}
use Rattle.update.specs.Pages.{holds, put_page, partial, span}
use Rattle.update.specs.Image.{image_in}
use Rattle.meta.specs.declared.ZeroExtent.{ZeroExtent}
use Rattle.update.specs.Update.{Over, push_run, raw, touch, blank, copy, chop, whole_page, Tried, accepted, refused, and_then, left, sized, keep_size, passing, marked, try_touch, try_touch_all, try_patch, try_finish, try_grow, try_grow_to, try_chop, try_tail, try_truncate, truncate_reach}
use Rattle.update.specs.Rooms.{try_all, try_patch_lem, try_finish_lem, try_grow_lem, try_chop_lem, size_room}
use Rattle.update.specs.Buffers.{Buffers, frame_count, entry_count, cached, view, overlay_of, put_back}
use Rattle.update.specs.Laid.{Laid, laid, leave, Fits, patched, finished, ended, grown_to, tailed, chopped, cut_to, resized, puts, wrote, grown}
use Rattle.update.specs.LeaveLaws.{IsAccepted, Fit, view_room, view_dirty, leave_alike, step_frames, step_entries, step_next, then_accepted, then_refused}
use Rattle.update.specs.PageLaws.{keep_few, put_same, put_more}

abbrev pub with_size : ℕ → Overlay → Overlay
with_size n v = record { base_size = v.base_size; size = n; dirty = v.dirty; recorded = v.recorded; cache = v.cache; budget = v.budget }

-- ## Changes that drop nothing

-- no fewer dirty pages, and no fewer runs recorded
abbrev pub More : Over → Over → Type 0
More v w = (length v.dirty ≤ length w.dirty) × (length v.recorded ≤ length w.recorded)

more_same : (v : Over) → More v v
more_same v = (omega arith, omega arith)

more_then : (v w x : Over) → More v w → More w x → More v x
more_then v w x a b = (omega (arith, a.0, b.0), omega (arith, a.1, b.1))

module _ (P M F R : ℕ) (b : ℕ → ℕ) where
  put_few : (p : ℕ) (v : Over) (bs : List ℕ) → length v.dirty ≤ length (put_page p bs v.dirty)
  put_few p v bs = split (holds v.dirty p)
      (λ t. omega (arith, put_same p bs v.dirty t))
      (λ f. omega (arith, put_more p bs v.dirty f))

  touch_more : (l : Bool) (u : ℕ → ℕ → ℕ) (p : ℕ) (v : Over) → More v (touch P b l u p v)
  unfolding touch
  touch_more l u p v = (put_few p v (tabulate P (λ i. u (p * P + i) (raw P b v (p * P + i)))), omega arith)

  pub try_more : (l : Bool) (u : ℕ → ℕ → ℕ) (p : ℕ) (v : Over) → More v (left (try_touch P M F R b l u p v))
  unfolding try_touch marked
  try_more l u p v = split (holds v.dirty p)
      (λ t. rw (try_touch, t) (touch_more l u p v))
      (λ f. split (not (eqb (passing P (suc (length v.dirty)) v.budget) 0))
      (λ t. rw (try_touch, f, t) (omega arith, omega arith))
      (λ g. split (leb F (length v.dirty))
      (λ t. rw (try_touch, f, g, t) (more_same v))
      (λ h. rw (try_touch, f, g, h) (touch_more l u p v))))

  pub then_more : (v : Over) (t : Tried) (f : Over → Tried) → More v (left t) → ((w : Over) → More w (left (f w))) → More v (left (and_then t f))
  then_more v (accepted w) f m g = more_then v w (left (f w)) m (g w)
  then_more v (refused r w) f m g = m

  pub all_more : (l : Bool) (u : ℕ → ℕ → ℕ) (p n : ℕ) (v : Over) → More v (left (try_touch_all P M F R b l u p n v))
  all_more l u p zero v = more_same v
  all_more l u p (suc n) v = then_more v (try_touch P M F R b l u p v) (try_touch_all P M F R b l u (suc p) n) (try_more l u p v) (λ w. all_more l u (suc p) n w)

  pub patch_more : (z n : ℕ) (v : Over) → More v (left (try_patch P M F R b z n v))
  unfolding try_patch
  patch_more z n v = split (partial P z)
      (λ t. split (ltb M ((z / P + 1) * P)) (λ u. rw (try_patch, t, u) (more_same v)) (λ u. rw (try_patch, t, u) (try_more true (blank P z n) (z / P) v)))
      (λ f. rw (try_patch, f) (more_same v))

  pub finish_more : (z n : ℕ) (v : Over) → More v (left (try_finish P M F R b z n v))
  unfolding try_finish
  finish_more z n v = split (partial P n && not (eqb (z / P) (n / P)))
      (λ t. rw (try_finish, t) (try_more true (blank P (n / P * P) n) (n / P) v))
      (λ f. rw (try_finish, f) (more_same v))

  pub tail_more : (n : ℕ) (v : Over) → More v (left (try_tail P M F R b n v))
  unfolding try_tail
  tail_more n v = split (partial P n) (λ t. rw (try_tail, t) (try_more true (blank P n (n + P)) (n / P) v)) (λ f. rw (try_tail, f) (more_same v))

-- ## One change after another

-- page size, cache pages; an update in slices that hold it
module _ (P C : ℕ) (pos : 0 < P) (v : Overlay) (l : Buffers) (fits : Fits P C v l) where
  abbrev F : ℕ
  F = frame_count P l

  abbrev R : ℕ
  R = entry_count l

  abbrev Fit' : Over → Type 0
  Fit' = Fit P C v l

  -- a change of what t left, with the frames and entries that are lent then
  next : (n : ℕ) (t : Tried) (f : ℕ → ℕ → Over → Tried) → n ≤ F → Fit' (left t) → ((w : Over) → length w.recorded ≤ length (left (f F R w)).recorded)
      → (v1 : Overlay) (l1 : Buffers) → leave P C v l n t ≡ laid v1 l1 (Ok tt)
      → leave P C v1 l1 v1.dirty (f (frame_count P l1) (entry_count l1) (view P C v1 l1)) ≡ leave P C v l (max n (length (left t).dirty)) (and_then t (f F R))
  next n t f busy r g v1 l1 e =
      let a : frame_count P l1 ≡ F = step_frames P C pos v l fits n t busy r v1 l1 (Ok tt) e in
      let b : entry_count l1 ≡ R = step_entries P C pos v l fits n t busy r v1 l1 (Ok tt) e in
      ap (λ (x : ℕ). leave P C v1 l1 v1.dirty (f x (entry_count l1) (view P C v1 l1))) a
      ∙ ap (λ (x : ℕ). leave P C v1 l1 v1.dirty (f F x (view P C v1 l1))) b
      ∙ step_next P C pos v l fits n t busy r v1 l1 (Ok tt) e (f F R) g
      ∙ ap (leave P C v l (max n (length (left t).dirty))) (sym (then_accepted P C pos v l fits n t (f F R) v1 l1 e))

  -- the same where f drops no page
  pub next_more : (t : Tried) (f : ℕ → ℕ → Over → Tried) → Fit' (left t) → ((w : Over) → More w (left (f F R w))) → ((w : Over) → Fit' w → Fit' (left (f F R w)))
      → (v1 : Overlay) (l1 : Buffers) → leave P C v l v.dirty t ≡ laid v1 l1 (Ok tt)
      → leave P C v1 l1 v1.dirty (f (frame_count P l1) (entry_count l1) (view P C v1 l1)) ≡ leave P C v l v.dirty (and_then t (f F R))
  next_more t f r g k v1 l1 e =
      let x : Over = left (f F R (left t)) in
      let m : left (and_then t (f F R)) ≡ x = ap left (then_accepted P C pos v l fits v.dirty t (f F R) v1 l1 e) in
      let z : max (max v.dirty (length (left t).dirty)) (length x.dirty) ≡ max v.dirty (length x.dirty) = omega (arith, (g (left t)).0) in
      next v.dirty t f fits.0 r (λ w. (g w).1) v1 l1 e
      ∙ leave_alike P C pos v l fits (max v.dirty (length (left t).dirty)) v.dirty (and_then t (f F R)) (rw m (k (left t) r).sized) (rw m z)

  pub stop : (n : ℕ) (t : Tried) (f : Over → Tried) (v1 : Overlay) (l1 : Buffers) (r : Refusal) → leave P C v l n t ≡ laid v1 l1 (Err r) → leave P C v l n (and_then t f) ≡ laid v1 l1 (Err r)
  stop n t f v1 l1 r e = ap (leave P C v l n) (then_refused P C pos v l fits n t f v1 l1 r e) ∙ e

  module _ (M : ℕ) (i : Image) (mem : List ℕ) where
    abbrev b : ℕ → ℕ
    b = image_in P i mem

    abbrev U : Over
    U = view P C v l

    abbrev K : ℕ
    K = length (cached P C v.cache)

    -- the ends of growth
    pub ended_next : (z n : ℕ) (v1 : Overlay) (l1 : Buffers) → patched P C M i mem v l z n ≡ laid v1 l1 (Ok tt) → finished P C M i mem v1 l1 z n ≡ ended P C M i mem v l z n
    unfolding patched finished ended
    ended_next z n v1 l1 e = next_more (try_patch P M F R b z n U) (λ x y. try_finish P M x y b z n)
        (try_patch_lem P M F R K b z n U (view_room P C pos v l fits)) (λ w. finish_more P M F R b z n w) (λ w k. try_finish_lem P M F R K b z n w k) v1 l1 e

    pub ended_stop : (z n : ℕ) (v1 : Overlay) (l1 : Buffers) (r : Refusal) → patched P C M i mem v l z n ≡ laid v1 l1 (Err r) → ended P C M i mem v l z n ≡ laid v1 l1 (Err r)
    unfolding patched ended
    ended_stop z n v1 l1 r e = stop v.dirty (try_patch P M F R b z n U) (try_finish P M F R b z n) v1 l1 r e

    -- ## A write

    grows : (n : ℕ) → v.size < n → try_grow_to P M F R b n U ≡ try_grow P M F R b n U
    unfolding try_grow_to view
    grows n h = rw (lt-ltb v.size n h)

    rests : (n : ℕ) → n ≤ v.size → try_grow_to P M F R b n U ≡ accepted U
    unfolding try_grow_to view
    rests n h = rw (le-ltb v.size n h)

    pub grown_as : (n : ℕ) → v.size < n → leave P C v l v.dirty (try_grow_to P M F R b n U) ≡ grown P C M i mem v l n
    unfolding grown
    grown_as n h = ap (leave P C v l v.dirty) (grows n h)

    abbrev pages : ℕ → ℕ → ℕ → List ℕ → Over → Tried
    pages x y o bs = try_touch_all P M x y b (not (whole_page P o (length bs))) (copy P o bs) (o / P) (span P o (length bs))

    pub wrote_inside : (o : ℕ) (bs : List ℕ) → o + length bs ≤ v.size → wrote P C M i mem v l o bs ≡ puts P C M i mem v l o bs
    unfolding wrote puts
    wrote_inside o bs h = ap (λ (t : Tried). leave P C v l v.dirty (and_then t (pages F R o bs))) (rests (o + length bs) h)

    pub wrote_next : (o : ℕ) (bs : List ℕ) → v.size < o + length bs → (v1 : Overlay) (l1 : Buffers) → grown P C M i mem v l (o + length bs) ≡ laid v1 l1 (Ok tt)
        → puts P C M i mem v1 l1 o bs ≡ wrote P C M i mem v l o bs
    unfolding wrote puts grown
    wrote_next o bs h v1 l1 e = next_more (try_grow_to P M F R b (o + length bs) U) (λ x y. pages x y o bs)
        (try_grow_lem P M F R K b (o + length bs) U (view_room P C pos v l fits))
        (λ w. all_more P M F R b (not (whole_page P o (length bs))) (copy P o bs) (o / P) (span P o (length bs)) w)
        (λ w k. try_all P M F R K b (not (whole_page P o (length bs))) (copy P o bs) (o / P) (span P o (length bs)) w k)
        v1 l1 (ap (leave P C v l v.dirty) (grows (o + length bs) h) ∙ e)

    pub wrote_stop : (o : ℕ) (bs : List ℕ) → v.size < o + length bs → (v1 : Overlay) (l1 : Buffers) (r : Refusal) → grown P C M i mem v l (o + length bs) ≡ laid v1 l1 (Err r)
        → wrote P C M i mem v l o bs ≡ laid v1 l1 (Err r)
    unfolding wrote grown
    wrote_stop o bs h v1 l1 r e = stop v.dirty (try_grow_to P M F R b (o + length bs) U) (pages F R o bs) v1 l1 r (ap (leave P C v l v.dirty) (grows (o + length bs) h) ∙ e)

    -- ## A truncation

    pub grown_to-none : (n : ℕ) → n ≤ v.size → grown_to P C M i mem v l n ≡ leave P C v l v.dirty (accepted U)
    unfolding grown_to
    grown_to-none n h = ap (λ (t : Tried). leave P C v l v.dirty (keep_size v.size t)) (rests n h)

    pub grown_to-some : (n : ℕ) → v.size < n → grown_to P C M i mem v l n ≡ leave P C v l v.dirty (keep_size v.size (try_grow P M F R b n U))
    unfolding grown_to
    grown_to-some n h = ap (λ (t : Tried). leave P C v l v.dirty (keep_size v.size t)) (grows n h)

    chop_few : (n : ℕ) (w : Over) → length (left (try_chop P M F R n w)).dirty ≤ length w.dirty
    unfolding try_chop chop
    chop_few n w = split (ltb (count P n) (count P w.size) && leb R (length w.recorded)) (λ t. rw (try_chop, t) (omega arith)) (λ f. rw (try_chop, f) (keep_few (count P n) w.dirty))

    push_less : (a e : ℕ) (rs : List ZeroExtent) → length rs ≤ length (push_run a e rs)
    unfolding push_run
    push_less a e rs = split (ltb a e) (λ t. rw t (simp length-append (omega arith))) (λ f. rw f (omega arith))

    chop_recs : (n : ℕ) (w : Over) → length w.recorded ≤ length (left (try_chop P M F R n w)).recorded
    unfolding try_chop chop
    chop_recs n w = split (ltb (count P n) (count P w.size) && leb R (length w.recorded)) (λ t. rw (try_chop, t) (omega arith)) (λ f. rw (try_chop, f) (push_less (count P n) (count P w.size) w.recorded))

    pub cut_next : (n : ℕ) (v1 : Overlay) (l1 : Buffers) → chopped P C M v l n ≡ laid v1 l1 (Ok tt) → tailed P C M i mem v1 l1 n ≡ cut_to P C M i mem v l n
    unfolding chopped tailed cut_to
    cut_next n v1 l1 e =
        let t : Tried = try_chop P M F R n U in
        let f : Over → Tried = try_tail P M F R b n in
        let r : Fit' (left t) = try_chop_lem P M F R K b n U (view_room P C pos v l fits) in
        let m : left (and_then t f) ≡ left (f (left t)) = ap left (then_accepted P C pos v l fits v.dirty t f v1 l1 e) in
        let few : max v.dirty (length (left t).dirty) ≡ v.dirty = omega (arith, chop_few n U, view_dirty P C pos v l fits) in
        next v.dirty t (λ x y. try_tail P M x y b n) fits.0 r (λ w. (tail_more P M F R b n w).1) v1 l1 e
        ∙ ap (λ (x : ℕ). leave P C v l x (and_then t f)) few

    pub cut_stop : (n : ℕ) (v1 : Overlay) (l1 : Buffers) (r : Refusal) → chopped P C M v l n ≡ laid v1 l1 (Err r) → cut_to P C M i mem v l n ≡ laid v1 l1 (Err r)
    unfolding chopped cut_to
    cut_stop n v1 l1 r e = stop v.dirty (try_chop P M F R n U) (try_tail P M F R b n) v1 l1 r e

    abbrev cuts : ℕ → ℕ → ℕ → Over → Tried
    cuts n x y w = and_then (try_chop P M x y n w) (try_tail P M x y b n)

    cuts_recs : (n : ℕ) (w : Over) → length w.recorded ≤ length (left (cuts n F R w)).recorded
    cuts_recs n w = go (try_chop P M F R n w) (chop_recs n w)
      where
        go : (t : Tried) → length w.recorded ≤ length (left t).recorded → length w.recorded ≤ length (left (and_then t (try_tail P M F R b n))).recorded
        go (accepted x) h = omega (arith, h, (tail_more P M F R b n x).1)
        go (refused r x) h = h

    size_dirty : (z : ℕ) (t : Tried) → (left (keep_size z t)).dirty ≡ (left t).dirty
    unfolding sized
    size_dirty z (accepted w) = refl
    size_dirty z (refused r w) = refl

    abbrev T : ℕ → Tried
    T n = keep_size v.size (try_grow_to P M F R b n U)

    T-fit : (n : ℕ) → Fit' (left (T n))
    T-fit n = size_room P M F R K b v.size (try_grow_to P M F R b n U) (try_grow_lem P M F R K b n U (view_room P C pos v l fits))

    reach : (n : ℕ) → truncate_reach P M F R b n U ≡ length (left (T n)).dirty
    reach n = ap length (sym (size_dirty v.size (try_grow_to P M F R b n U)))

    pub resized_next : (n : ℕ) (v1 : Overlay) (l1 : Buffers) → grown_to P C M i mem v l n ≡ laid v1 l1 (Ok tt) → cut_to P C M i mem v1 l1 n ≡ resized P C M i mem v l n
    unfolding grown_to cut_to resized try_truncate view
    resized_next n v1 l1 e =
        next v.dirty (T n) (cuts n) fits.0 (T-fit n) (λ w. cuts_recs n w) v1 l1 e
        ∙ ap (λ (x : ℕ). leave P C v l (max v.dirty x) (and_then (T n) (cuts n F R))) (sym (reach n))

    pub resized_stop : (n : ℕ) (v1 : Overlay) (l1 : Buffers) (r : Refusal) → grown_to P C M i mem v l n ≡ laid v1 l1 (Err r) → resized P C M i mem v l n ≡ laid v1 l1 (Err r)
    unfolding grown_to resized try_truncate view
    resized_stop n v1 l1 r e =
        let x : ℕ = truncate_reach P M F R b n U in
        ap (leave P C v l (max v.dirty x)) (then_refused P C pos v l fits v.dirty (T n) (cuts n F R) v1 l1 r e)
        ∙ leave_alike P C pos v l fits (max v.dirty x) v.dirty (T n) (T-fit n).sized (omega (arith, reach n))
        ∙ e

  -- a refused change whose size goes back
  pub keep_accepted : (z n : ℕ) (t : Tried) (v1 : Overlay) (l1 : Buffers) → leave P C v l n t ≡ laid v1 l1 (Ok tt) → leave P C v l n (keep_size z t) ≡ laid v1 l1 (Ok tt)
  unfolding leave
  keep_accepted z n (accepted w) v1 l1 e = e
  keep_accepted z n (refused r w) v1 l1 e = absurd (subst (λ (x : Laid). IsAccepted x.verdict) (sym e) tt)

  pub keep_refused : (z n : ℕ) (t : Tried) (v1 : Overlay) (l1 : Buffers) (r : Refusal) → leave P C v l n t ≡ laid v1 l1 (Err r) → leave P C v l n (keep_size z t) ≡ laid (with_size z v1) l1 (Err r)
  unfolding leave sized overlay_of put_back
  keep_refused z n (accepted w) v1 l1 r e = absurd (subst (λ (x : Laid). IsAccepted x.verdict) e tt)
  keep_refused z n (refused q w) v1 l1 r e = ap (λ (x : Laid). laid (with_size z x.overlay) x.bufs x.verdict) e
