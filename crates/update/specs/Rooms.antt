-- The lent slices have room for what any call leaves in an update, refused or not: no more dirty pages than frames, no more runs than entries, no more
-- clean pages than the cache holds, and every page of P bytes.
use Rattle.std.specs.Prelude.{◌≡◌, ℕ, zero, suc, ◌+◌, ◌-◌, ◌*◌, ◌/◌, ◌≤◌, ◌<◌, false, cond, ◌&&◌, ◌||◌, List, ltb, eqb}
use Rattle.std.proofs.Common.{arith, length-append, length-drop, leb-false}
use Rattle.std.proofs.Math.Bool.{Bool, true, not}
use Rattle.std.proofs.Math.Dec.{leb}
use Rattle.std.proofs.Math.ListN.{length}
use Rattle.config.specs.Pages.{count}
use Rattle.memory.specs.Laws.{split}
use Rattle.meta.specs.declared.ZeroExtent.{ZeroExtent}
use Rattle.runs.specs.Sets.{covers}
use Rattle.update.specs.Lists.{tabulate}
use Rattle.update.specs.ListLaws.{tests, length-tabulate}
use Rattle.update.specs.Pages.{holds, put_page, partial, span}
use Rattle.update.specs.PageLaws.{Sized, sized-put_page, sized_keep, put_same, put_more, keep_few, drop-few, sized-drop_page, sized-drop, sized_snoc}
use Rattle.update.specs.Image.{image_page}
use Rattle.update.specs.Update.{Over, push_run, raw, touch, blank, copy, stretch, chop, whole_page, look_up, read_over, Tried, accepted, refused, and_then, left, sized, keep_size, passing, marked, try_touch, try_touch_all, try_patch, try_finish, try_grow, try_grow_to, try_tail, try_chop, try_truncate, try_write}

-- page size, frames, entries, cache pages
pub record Room (P F R C : ℕ) (v : Over) : Type 0 where
  pub sized : Sized P v.dirty
  pub clean : Sized P v.cache
  pub dirty : length v.dirty ≤ F
  pub recs : length v.recorded ≤ R
  pub few : length v.cache ≤ C

push_room : (R a e : ℕ) (rs : List ZeroExtent) → length rs ≤ R → (ltb a e && leb R (length rs)) ≡ false → length (push_run a e rs) ≤ R
unfolding push_run
push_room R a e rs h n = split (ltb a e)
    (λ t. let k : length rs < R = leb-false R (length rs) (rw t at n) in rw t (simp length-append (omega arith)))
    (λ f. rw f h)

pub then_left : (W : Over → Type 0) (t : Tried) (f : Over → Tried) → W (left t) → ((w : Over) → W w → W (left (f w))) → W (left (and_then t f))
then_left W (accepted w) f h g = g w h
then_left W (refused r w) f h g = h

module _ (P M F R C : ℕ) (b : ℕ → ℕ) where
  abbrev pub W : Over → Type 0
  W = Room P F R C

  -- a page more, or one that is dirty already
  pub touch_room : (l : Bool) (u : ℕ → ℕ → ℕ) (p : ℕ) (v : Over) → W v → length (put_page p (tabulate P (λ i. u (p * P + i) (raw P b v (p * P + i)))) v.dirty) ≤ F → W (touch P b l u p v)
  unfolding touch
  touch_room l u p v w h =
      let s : Sized P (put_page p (tabulate P (λ i. u (p * P + i) (raw P b v (p * P + i)))) v.dirty) = sized-put_page P p _ v.dirty (length-tabulate P _) w.sized in
      split (holds v.dirty p)
      (λ t. record { sized = s; clean = rw (touch, t) w.clean; dirty = h; recs = w.recs; few = rw (touch, t) w.few })
      (λ f. split (l && not (covers v.recorded p))
      (λ t. record { sized = s; clean = rw (touch, f, t) (sized-drop_page P p v.cache w.clean); dirty = h; recs = w.recs; few = rw (touch, f, t) (omega (arith, drop-few p v.cache, w.few)) })
      (λ n. record { sized = s; clean = rw (touch, f, n) w.clean; dirty = h; recs = w.recs; few = rw (touch, f, n) w.few }))

  pub try_touch_lem : (l : Bool) (u : ℕ → ℕ → ℕ) (p : ℕ) (v : Over) → W v → W (left (try_touch P M F R b l u p v))
  unfolding try_touch marked
  try_touch_lem l u p v w = split (holds v.dirty p)
      (λ t. rw (try_touch, t) (touch_room l u p v w (omega (arith, put_same p (tabulate P (λ i. u (p * P + i) (raw P b v (p * P + i)))) v.dirty t, w.dirty))))
      (λ f. split (not (eqb (passing P (suc (length v.dirty)) v.budget) 0))
      (λ t. rw (try_touch, f, t) record { sized = w.sized; clean = w.clean; dirty = w.dirty; recs = w.recs; few = w.few })
      (λ g. split (leb F (length v.dirty))
      (λ t. rw (try_touch, f, g, t) w)
      (λ h. rw (try_touch, f, g, h) (touch_room l u p v w (omega (arith, tests, put_more p (tabulate P (λ i. u (p * P + i) (raw P b v (p * P + i)))) v.dirty f))))))

  pub try_all : (l : Bool) (u : ℕ → ℕ → ℕ) (p n : ℕ) (v : Over) → W v → W (left (try_touch_all P M F R b l u p n v))
  try_all l u p zero v w = w
  try_all l u p (suc n) v w = then_left W (try_touch P M F R b l u p v) (try_touch_all P M F R b l u (suc p) n) (try_touch_lem l u p v w) (λ x wx. try_all l u (suc p) n x wx)

  pub size_room : (z : ℕ) (t : Tried) → W (left t) → W (left (keep_size z t))
  unfolding sized
  size_room z (accepted v) w = w
  size_room z (refused r v) w = record { sized = w.sized; clean = w.clean; dirty = w.dirty; recs = w.recs; few = w.few }

  pub try_patch_lem : (z n : ℕ) (v : Over) → W v → W (left (try_patch P M F R b z n v))
  unfolding try_patch
  try_patch_lem z n v w = split (partial P z)
      (λ t. split (ltb M ((z / P + 1) * P)) (λ u. rw (try_patch, t, u) w) (λ u. rw (try_patch, t, u) (try_touch_lem true (blank P z n) (z / P) v w)))
      (λ f. rw (try_patch, f) w)

  pub try_finish_lem : (z n : ℕ) (v : Over) → W v → W (left (try_finish P M F R b z n v))
  unfolding try_finish
  try_finish_lem z n v w = split (partial P n && not (eqb (z / P) (n / P)))
      (λ t. rw (try_finish, t) (try_touch_lem true (blank P (n / P * P) n) (n / P) v w))
      (λ f. rw (try_finish, f) w)

  pub stretch_room : (n : ℕ) (v : Over) → W v → (ltb (count P v.size) (count P n) && leb R (length v.recorded)) ≡ false → W (stretch P n v)
  unfolding stretch
  stretch_room n v w e = record { sized = w.sized; clean = w.clean; dirty = w.dirty; recs = push_room R (count P v.size) (count P n) v.recorded w.recs e; few = w.few }

  pub chop_room : (n : ℕ) (v : Over) → W v → (ltb (count P n) (count P v.size) && leb R (length v.recorded)) ≡ false → W (chop P n v)
  unfolding chop
  chop_room n v w e = record {
    sized = sized_keep P (count P n) v.dirty w.sized;
    clean = sized_keep P (count P n) v.cache w.clean;
    dirty = omega (arith, keep_few (count P n) v.dirty, w.dirty);
    recs = push_room R (count P n) (count P v.size) v.recorded w.recs e;
    few = omega (arith, keep_few (count P n) v.cache, w.few);
  }

  pub try_grow_lem : (n : ℕ) (v : Over) → W v → W (left (try_grow_to P M F R b n v))
  unfolding try_grow_to try_grow
  try_grow_lem n v w = split (ltb v.size n)
      (λ t. split (ltb (count P v.size) (count P n) && leb R (length v.recorded))
      (λ u. rw (try_grow_to, try_grow, t, u) w)
      (λ u. rw (try_grow_to, try_grow, t, u) (then_left W (try_patch P M F R b v.size n (stretch P n v)) (try_finish P M F R b v.size n)
      (try_patch_lem v.size n (stretch P n v) (stretch_room n v w u)) (λ x wx. try_finish_lem v.size n x wx))))
      (λ f. rw (try_grow_to, f) w)

  pub try_tail_lem : (n : ℕ) (v : Over) → W v → W (left (try_tail P M F R b n v))
  unfolding try_tail
  try_tail_lem n v w = split (partial P n) (λ t. rw (try_tail, t) (try_touch_lem true (blank P n (n + P)) (n / P) v w)) (λ f. rw (try_tail, f) w)

  pub try_chop_lem : (n : ℕ) (v : Over) → W v → W (left (try_chop P M F R n v))
  unfolding try_chop
  try_chop_lem n v w = split (ltb (count P n) (count P v.size) && leb R (length v.recorded)) (λ t. rw (try_chop, t) w) (λ f. rw (try_chop, f) (chop_room n v w f))

  pub truncate_room : (n : ℕ) (v : Over) → W v → W (left (try_truncate P M F R b n v))
  unfolding try_truncate
  truncate_room n v w = then_left W (keep_size v.size (try_grow_to P M F R b n v)) _ (size_room v.size (try_grow_to P M F R b n v) (try_grow_lem n v w))
      (λ x wx. then_left W (try_chop P M F R n x) (try_tail P M F R b n) (try_chop_lem n x wx) (λ y wy. try_tail_lem n y wy))

  pub write_room : (o : ℕ) (bs : List ℕ) (v : Over) → W v → W (left (try_write P M F R b o bs v))
  unfolding try_write
  write_room o bs v w = split (eqb (length bs) 0)
      (λ t. rw (try_write, t) w)
      (λ f. split (ltb M (o + length bs))
      (λ t. rw (try_write, f, t) w)
      (λ g. rw (try_write, f, g) (
      let l : Bool = not (whole_page P o (length bs)) in
      let k : Over → Tried = try_touch_all P M F R b l (copy P o bs) (o / P) (span P o (length bs)) in
      size_room v.size (and_then (try_grow_to P M F R b (o + length bs) v) k)
      (then_left W (try_grow_to P M F R b (o + length bs) v) k (try_grow_lem (o + length bs) v w) (λ x wx. try_all l (copy P o bs) (o / P) (span P o (length bs)) x wx)))))

  pub look_room : (p : ℕ) (v : Over) → W v → W (look_up P C b p v)
  unfolding look_up image_page
  look_room p v w = split (holds v.dirty p || (covers v.recorded p || holds v.cache p))
      (λ t. rw (look_up, t) w)
      (λ f. rw (look_up, f) record {
        sized = w.sized;
        clean = sized-drop P (suc (length v.cache) - C) _ (sized_snoc P v.cache _ (length-tabulate P _) w.clean);
        dirty = w.dirty;
        recs = w.recs;
        few = simp (length-drop, length-append) (omega arith);
      })

  pub read_room : (o n : ℕ) (v : Over) → W v → W (read_over P C b o n v)
  read_room o zero v w = w
  read_room o (suc n) v w = read_room (suc o) n (cond (ltb o v.size) (look_up P C b (o / P) v) v) (split (ltb o v.size) (λ t. rw t (look_room (o / P) v w)) (λ f. rw f w))
