-- Refused or not: what is true of an update in either case, and that an accepted change is the one without refusals.
use Rattle.std.specs.Prelude.{◌≡◌, ◌&&◌, ◌||◌, ltb, leb, eqb, drop}
use Rattle.std.proofs.Math.Path.{refl, ap}
use Rattle.std.proofs.Common.{◌∙◌, subst, mod-lt, div-add-mod', length-append, length-drop, ltb-false, eqb-true}
use Prim.Native.Nat.{ℕ, zero, suc, ◌+◌, ◌-◌, ◌*◌, ◌/◌, ◌%◌, ◌≤◌, ◌<◌}
use native.Mathlib.Omega.{arith}
use Rattle.std.proofs.Math.Bool.{Bool, true, not}
use mathlib.Core.List.{List, [], ◌∷◌, ◌++◌}
use Rattle.std.proofs.Math.ListN.{length, get_or}
use Rattle.config.specs.Pages.{count, count_le}
use Rattle.config.specs.declared.refusal.Refusal.{Refusal}
use Rattle.config.specs.Refusals.{numbers_of}
use Rattle.memory.specs.Laws.{split}
use Rattle.runs.specs.Sets.{covers}
use Rattle.update.specs.Lists.{tabulate}
use Rattle.update.specs.ListLaws.{length-tabulate, tabulate_at}
use Rattle.update.specs.Pages.{Page, page_numbers, holds, put_page, keep_below, drop_page, page_byte, partial, span}
use Rattle.update.specs.Image.{image_page}
use Rattle.update.specs.Update.{Over, raw, touch, touch_all, copy, stretch, patch, finish, grow, grow_to, chop, tail, truncated, whole_page, over_write, written, look_up, Tried, accepted, refused, and_then, sized, keep_size, passing, marked, try_touch, try_touch_all, room, try_patch, try_finish, try_grow, try_grow_to, try_tail, try_chop, try_truncate, try_write}
use Rattle.update.specs.PageLaws.{Sized, sized-put_page, sized_keep, EndsBy, ends_push, Filled, filled_push, Distinct, distinct_add, distinct_below, numbers-put_page, numbers_keep, keep_few, drop-few}

-- every cached page is the image's
abbrev pub AllImage : ℕ → (ℕ → ℕ) → List Page → Type 0
AllImage P b [] = Unit {0}
AllImage P b (g ∷ d) = (g.bytes ≡ image_page P b g.number) × AllImage P b d

module _ (P : ℕ) (b : ℕ → ℕ) where
  all-drop_page : (p : ℕ) (d : List Page) → AllImage P b d → AllImage P b (drop_page p d)
  all-drop_page p [] a = tt
  all-drop_page p (g ∷ d) a = split (eqb g.number p) (λ t. rw t (all-drop_page p d a.1)) (λ f. rw f (a.0, all-drop_page p d a.1))

  all-keep_below : (c : ℕ) (d : List Page) → AllImage P b d → AllImage P b (keep_below c d)
  all-keep_below c [] a = tt
  all-keep_below c (g ∷ d) a = split (ltb g.number c) (λ t. rw t (a.0, all-keep_below c d a.1)) (λ f. rw f (all-keep_below c d a.1))

  all_drop : (n : ℕ) (d : List Page) → AllImage P b d → AllImage P b (drop n d)
  all_drop zero d a = a
  all_drop (suc n) [] a = tt
  all_drop (suc n) (g ∷ d) a = all_drop n d a.1

  all_snoc : (d : List Page) (p : ℕ) → AllImage P b d → AllImage P b (d ++ record { number = p; bytes = image_page P b p } ∷ [])
  all_snoc [] p a = (refl, tt)
  all_snoc (g ∷ d) p a = (a.0, all_snoc d p a.1)

  pub all_sized : (d : List Page) → AllImage P b d → Sized P d
  unfolding image_page
  all_sized [] a = tt
  all_sized (g ∷ d) a = (ap length a.0 ∙ length-tabulate P _, all_sized d a.1)

  -- a byte of a cached page is the image's
  pub all_byte : 0 < P → (d : List Page) (o : ℕ) → AllImage P b d → page_byte P d o (b o) ≡ b o
  unfolding image_page
  all_byte pos [] o a = refl
  all_byte pos (g ∷ d) o a = split (eqb g.number (o / P))
      (λ t. rw t (ap (λ (l : List ℕ). get_or l (o % P) 0) a.0 ∙ tabulate_at P _ (o % P) (mod-lt o pos)
      ∙ ap b (rw (eqb-true g.number (o / P) t) (div-add-mod' o P))))
      (λ f. rw f (all_byte pos d o a.1))

-- what is true of every update, spoiled or not
pub record Weak (P C M : ℕ) (b : ℕ → ℕ) (v : Over) : Type 0 where
  pub sized : Sized P v.dirty
  pub distinct : Distinct (page_numbers v.dirty)
  pub cached : AllImage P b v.cache
  pub few : length v.cache ≤ C
  pub range : v.size ≤ M
  pub ends : EndsBy M v.recorded
  pub filled : Filled v.recorded

-- a refusal that is no commit's alone
abbrev pub Early : Refusal → Type 0
Early r = ((numbers_of r).number ≡ 0 → ⊥) × ((numbers_of r).number ≡ 31 → ⊥) × ((numbers_of r).number ≡ 32 → ⊥)

-- an accepted change is X; a refused one has a number
abbrev pub Outcome : (Over → Type 0) → Tried → Over → Type 0
Outcome W (accepted w) x = (w ≡ x) × W w
Outcome W (refused n w) x = Early n × W w

out_then : (W : Over → Type 0) (t : Tried) (x : Over) (f : Over → Tried) (y : Over → Over) → Outcome W t x → ((w : Over) → W w → Outcome W (f w) (y w)) → Outcome W (and_then t f) (y x)
out_then W (accepted w) x f y h g = subst (λ (z : Over). Outcome W (f w) (y z)) h.0 (g w h.1)
out_then W (refused n w) x f y h g = h

module _ (P C M : ℕ) (pos : 0 < P) (b : ℕ → ℕ) where
  pub touch_weak : (l : Bool) (u : ℕ → ℕ → ℕ) (p : ℕ) (v : Over) → Weak P C M b v → Weak P C M b (touch P b l u p v)
  unfolding touch
  touch_weak l u p v w =
      let s : Sized P (put_page p (tabulate P (λ i. u (p * P + i) (raw P b v (p * P + i)))) v.dirty) = sized-put_page P p _ v.dirty (length-tabulate P _) w.sized in
      let d : Distinct (page_numbers (put_page p (tabulate P (λ i. u (p * P + i) (raw P b v (p * P + i)))) v.dirty)) = rw numbers-put_page (distinct_add p (page_numbers v.dirty) w.distinct) in
      split (holds v.dirty p)
      (λ t. record { sized = s; distinct = d; cached = rw (touch, t) w.cached; few = rw (touch, t) w.few; range = w.range; ends = w.ends; filled = w.filled })
      (λ f. split (l && not (covers v.recorded p))
      (λ t. record { sized = s; distinct = d; cached = rw (touch, f, t) (all-drop_page P b p v.cache w.cached); few = rw (touch, f, t) (omega (arith, drop-few p v.cache, w.few)); range = w.range; ends = w.ends; filled = w.filled })
      (λ n. record { sized = s; distinct = d; cached = rw (touch, f, n) w.cached; few = rw (touch, f, n) w.few; range = w.range; ends = w.ends; filled = w.filled }))

  stretch_weak : (n : ℕ) (v : Over) → n ≤ M → Weak P C M b v → Weak P C M b (stretch P n v)
  unfolding stretch
  stretch_weak n v h w = record {
    sized = w.sized;
    distinct = w.distinct;
    cached = w.cached;
    few = w.few;
    range = h;
    ends = ends_push M (count P v.size) (count P n) v.recorded (omega (arith, count_le P pos n)) w.ends;
    filled = filled_push (count P v.size) (count P n) v.recorded w.filled;
  }

  chop_weak : (n : ℕ) (v : Over) → n ≤ M → Weak P C M b v → Weak P C M b (chop P n v)
  unfolding chop
  chop_weak n v h w = record { range = h; ends = ends_push M (count P n) (count P v.size) v.recorded (omega (arith, count_le P pos v.size, w.range)) w.ends; filled = filled_push (count P n) (count P v.size) v.recorded w.filled; sized = sized_keep P (count P n) v.dirty w.sized; distinct = rw numbers_keep (distinct_below (count P n) (page_numbers v.dirty) w.distinct); cached = all-keep_below P b (count P n) v.cache w.cached; few = omega (arith, keep_few (count P n) v.cache, w.few) }

  sized_weak : (n : ℕ) (v : Over) → n ≤ M → Weak P C M b v → Weak P C M b (sized n v)
  unfolding sized
  sized_weak n v h w = record { sized = w.sized; distinct = w.distinct; cached = w.cached; few = w.few; range = h; ends = w.ends; filled = w.filled }

  keep_size-out : (z : ℕ) (t : Tried) (x : Over) → z ≤ M → Outcome (Weak P C M b) t x → Outcome (Weak P C M b) (keep_size z t) x
  keep_size-out z (accepted w) x j h = h
  keep_size-out z (refused n w) x j h = (h.0, sized_weak z w j h.1)

  pub look_weak : (p : ℕ) (v : Over) → Weak P C M b v → Weak P C M b (look_up P C b p v)
  unfolding look_up
  look_weak p v w = split (holds v.dirty p || (covers v.recorded p || holds v.cache p))
      (λ t. rw (look_up, t) w)
      (λ f. rw (look_up, f) record {
        sized = w.sized;
        distinct = w.distinct;
        cached = all_drop P b (suc (length v.cache) - C) (v.cache ++ record { number = p; bytes = image_page P b p } ∷ []) (all_snoc P b v.cache p w.cached);
        few = simp (length-drop, length-append) (omega arith);
        range = w.range;
        ends = w.ends;
        filled = w.filled;
      })

  module _ (F R : ℕ) where
    marked_weak : (v : Over) → Weak P C M b v → Weak P C M b (marked P M F R v)
    unfolding marked
    marked_weak v w = record { sized = w.sized; distinct = w.distinct; cached = w.cached; few = w.few; range = w.range; ends = w.ends; filled = w.filled }

    touch_out : (l : Bool) (u : ℕ → ℕ → ℕ) (p : ℕ) (v : Over) → Weak P C M b v → Outcome (Weak P C M b) (try_touch P M F R b l u p v) (touch P b l u p v)
    unfolding try_touch
    touch_out l u p v w = split (holds v.dirty p)
        (λ t. rw (try_touch, t) (refl, touch_weak l u p v w))
        (λ f. split (not (eqb (passing P (suc (length v.dirty)) v.budget) 0))
        (λ t. rw (try_touch, f, t) (omega arith, marked_weak v w))
        (λ g. split (leb F (length v.dirty))
        (λ t. rw (try_touch, f, g, t) (omega arith, w))
        (λ h. rw (try_touch, f, g, h) (refl, touch_weak l u p v w))))

    touch_all-out : (l : Bool) (u : ℕ → ℕ → ℕ) (p n : ℕ) (v : Over) → Weak P C M b v → Outcome (Weak P C M b) (try_touch_all P M F R b l u p n v) (touch_all P b l u p n v)
    touch_all-out l u p zero v w = (refl, w)
    touch_all-out l u p (suc n) v w = out_then (Weak P C M b) (try_touch P M F R b l u p v) _ _ (touch_all P b l u (suc p) n) (touch_out l u p v w) (λ x wx. touch_all-out l u (suc p) n x wx)

    room_out : (a e : ℕ) (v : Over) (f : Over → Tried) (x : Over) → Weak P C M b v → Outcome (Weak P C M b) (f v) x → Outcome (Weak P C M b) (room P M F R a e v f) x
    room_out a e v f x w h = split (ltb a e && leb R (length v.recorded)) (λ t. rw t (omega arith, w)) (λ n. rw n h)

    patch_out : (z n : ℕ) (v : Over) → Weak P C M b v → Outcome (Weak P C M b) (try_patch P M F R b z n v) (patch P b z n v)
    unfolding try_patch patch
    patch_out z n v w = split (partial P z)
        (λ t. split (ltb M ((z / P + 1) * P))
        (λ u. rw (try_patch, patch, t, u) (omega arith, w))
        (λ u. rw (try_patch, patch, t, u) (touch_out true _ _ v w)))
        (λ f. rw (try_patch, patch, f) (refl, w))

    finish_out : (z n : ℕ) (v : Over) → Weak P C M b v → Outcome (Weak P C M b) (try_finish P M F R b z n v) (finish P b z n v)
    unfolding try_finish finish
    finish_out z n v w = split (partial P n && not (eqb (z / P) (n / P)))
        (λ t. rw (try_finish, finish, t) (touch_out true _ _ v w))
        (λ f. rw (try_finish, finish, f) (refl, w))

    grow_out : (n : ℕ) (v : Over) → n ≤ M → Weak P C M b v → Outcome (Weak P C M b) (try_grow P M F R b n v) (grow P b n v)
    unfolding try_grow grow
    grow_out n v h w = room_out (count P v.size) (count P n) v
        (λ x. and_then (try_patch P M F R b v.size n (stretch P n x)) (try_finish P M F R b v.size n)) (grow P b n v) w
        (out_then (Weak P C M b) (try_patch P M F R b v.size n (stretch P n v)) (patch P b v.size n (stretch P n v)) (try_finish P M F R b v.size n) (finish P b v.size n) (patch_out v.size n (stretch P n v) (stretch_weak n v h w)) (λ x wx. finish_out v.size n x wx))

    grow_to-out : (n : ℕ) (v : Over) → n ≤ M → Weak P C M b v → Outcome (Weak P C M b) (try_grow_to P M F R b n v) (grow_to P b n v)
    unfolding try_grow_to grow_to
    grow_to-out n v h w = split (ltb v.size n)
        (λ t. rw (try_grow_to, grow_to, t) (grow_out n v h w))
        (λ f. rw (try_grow_to, grow_to, f) (refl, w))

    tail_out : (n : ℕ) (v : Over) → Weak P C M b v → Outcome (Weak P C M b) (try_tail P M F R b n v) (tail P b n v)
    unfolding try_tail tail
    tail_out n v w = split (partial P n)
        (λ t. rw (try_tail, tail, t) (touch_out true _ _ v w))
        (λ f. rw (try_tail, tail, f) (refl, w))

    chop_out : (n : ℕ) (v : Over) → n ≤ M → Weak P C M b v → Outcome (Weak P C M b) (try_chop P M F R n v) (chop P n v)
    unfolding try_chop
    chop_out n v h w = room_out (count P n) (count P v.size) v (λ x. accepted (chop P n x)) (chop P n v) w (refl, chop_weak n v h w)

    pub truncate_out : (n : ℕ) (v : Over) → n ≤ M → Weak P C M b v → Outcome (Weak P C M b) (try_truncate P M F R b n v) (truncated P b n v)
    unfolding try_truncate truncated
    truncate_out n v h w = out_then (Weak P C M b) (keep_size v.size (try_grow_to P M F R b n v)) _ _ (λ x. tail P b n (chop P n x))
        (keep_size-out v.size (try_grow_to P M F R b n v) (grow_to P b n v) w.range (grow_to-out n v h w))
        (λ x wx. out_then (Weak P C M b) (try_chop P M F R n x) _ _ (tail P b n) (chop_out n x h wx) (λ y wy. tail_out n y wy))

    pub write_out : (o : ℕ) (bs : List ℕ) (v : Over) → Weak P C M b v → Outcome (Weak P C M b) (try_write P M F R b o bs v) (written P b o bs v)
    unfolding try_write written over_write
    write_out o bs v w = split (eqb (length bs) 0)
        (λ t. rw (try_write, written, t) (refl, w))
        (λ f. split (ltb M (o + length bs))
        (λ t. rw (try_write, written, f, t) (omega arith, w))
        (λ g. rw (try_write, written, f, g) (
        let l : Bool = not (whole_page P o (length bs)) in
        let c : ℕ = span P o (length bs) in
        let x : Over = grow_to P b (o + length bs) v in
        keep_size-out v.size (and_then (try_grow_to P M F R b (o + length bs) v) (try_touch_all P M F R b l (copy P o bs) (o / P) c)) (touch_all P b l (copy P o bs) (o / P) c x) w.range
        (out_then (Weak P C M b) (try_grow_to P M F R b (o + length bs) v) x (try_touch_all P M F R b l (copy P o bs) (o / P) c) (touch_all P b l (copy P o bs) (o / P) c)
        (grow_to-out (o + length bs) v (ltb-false M (o + length bs) g) w) (λ y wy. touch_all-out l (copy P o bs) (o / P) c y wy)))))
