-- What refuses a write or a truncation: the budget, the frames, the record, or an end above the largest number.
use Rattle.std.specs.Prelude.{◌≡◌, ℕ, zero, suc, ◌+◌, ◌*◌, ◌/◌, true, ◌&&◌, List, ltb, leb, eqb}
use Rattle.std.proofs.Math.Bool.{Bool, not}
use Rattle.std.proofs.Math.ListN.{length}
use Rattle.config.specs.Pages.{count}
use Rattle.config.specs.declared.refusal.Refusal.{Refusal}
use Rattle.config.specs.declared.refusal.Refusal.TheVariants.{OffsetOverflow, BudgetExceeded, FramesFull, RecordFull}
use Rattle.update.specs.Pages.{holds, partial, span}
use Rattle.update.specs.Update.{Over, stretch, chop, copy, whole_page, Tried, accepted, refused, and_then, keep_size, passing, try_touch, try_touch_all, room, try_patch, try_finish, try_grow, try_grow_to, try_tail, try_chop, try_truncate, try_write}
use Rattle.store.specs.Cases.{by_test}

-- if it is refused, then by such a refusal
abbrev pub RefusedBy : (Refusal → Type 0) → Tried → Type 0
RefusedBy Q (accepted v) = Unit {0}
RefusedBy Q (refused r v) = Q r

module _ (Q : Refusal → Type 0) where
  then_by : (t : Tried) (f : Over → Tried) → RefusedBy Q t → ((w : Over) → RefusedBy Q (f w)) → RefusedBy Q (and_then t f)
  then_by (accepted w) f h g = g w
  then_by (refused r w) f h g = h

  size_by : (z : ℕ) (t : Tried) → RefusedBy Q t → RefusedBy Q (keep_size z t)
  size_by z (accepted w) h = tt
  size_by z (refused r w) h = h

  -- page size, largest number, frames and record entries lent, the image's bytes
  module _ (budget : Q BudgetExceeded) (frames : Q FramesFull) (entries : Q RecordFull) (P M F R : ℕ) (b : ℕ → ℕ) where
    touch_by : (l : Bool) (u : ℕ → ℕ → ℕ) (p : ℕ) (v : Over) → RefusedBy Q (try_touch P M F R b l u p v)
    unfolding try_touch
    touch_by l u p v = by_test (RefusedBy Q) (holds v.dirty p) _ _ (λ x. tt)
        (λ x. by_test (RefusedBy Q) (not (eqb (passing P (suc (length v.dirty)) v.budget) 0)) _ _ (λ y. budget)
        (λ y. by_test (RefusedBy Q) (leb F (length v.dirty)) _ _ (λ z. frames) (λ z. tt)))

    all_by : (l : Bool) (u : ℕ → ℕ → ℕ) (p n : ℕ) (v : Over) → RefusedBy Q (try_touch_all P M F R b l u p n v)
    all_by l u p zero v = tt
    all_by l u p (suc n) v = then_by (try_touch P M F R b l u p v) (try_touch_all P M F R b l u (suc p) n) (touch_by l u p v) (all_by l u (suc p) n)

    room_by : (a e : ℕ) (v : Over) (f : Over → Tried) → RefusedBy Q (f v) → RefusedBy Q (room P M F R a e v f)
    room_by a e v f h = by_test (RefusedBy Q) (ltb a e && leb R (length v.recorded)) _ _ (λ x. entries) (λ x. h)

    finish_by : (z n : ℕ) (v : Over) → RefusedBy Q (try_finish P M F R b z n v)
    unfolding try_finish
    finish_by z n v = by_test (RefusedBy Q) (partial P n && not (eqb (z / P) (n / P))) _ _ (λ x. touch_by _ _ _ v) (λ x. tt)

    tail_by : (n : ℕ) (v : Over) → RefusedBy Q (try_tail P M F R b n v)
    unfolding try_tail
    tail_by n v = by_test (RefusedBy Q) (partial P n) _ _ (λ x. touch_by _ _ _ v) (λ x. tt)

    chop_by : (n : ℕ) (v : Over) → RefusedBy Q (try_chop P M F R n v)
    unfolding try_chop
    chop_by n v = room_by (count P n) (count P v.size) v (λ w. accepted (chop P n w)) tt

    -- z: the size before, with whose last page growth begins
    module _ (z : ℕ) (old : ltb M ((z / P + 1) * P) ≡ true → Q OffsetOverflow) where
      patch_by : (n : ℕ) (v : Over) → RefusedBy Q (try_patch P M F R b z n v)
      unfolding try_patch
      patch_by n v = by_test (RefusedBy Q) (partial P z) _ _ (λ x. by_test (RefusedBy Q) (ltb M ((z / P + 1) * P)) _ _ old (λ y. touch_by _ _ _ v)) (λ x. tt)

    module _ (v : Over) (old : ltb M ((v.size / P + 1) * P) ≡ true → Q OffsetOverflow) where
      grow_by : (n : ℕ) → RefusedBy Q (try_grow P M F R b n v)
      unfolding try_grow
      grow_by n = room_by (count P v.size) (count P n) v (λ w. and_then (try_patch P M F R b v.size n (stretch P n w)) (try_finish P M F R b v.size n))
          (then_by (try_patch P M F R b v.size n (stretch P n v)) (try_finish P M F R b v.size n) (patch_by v.size old n (stretch P n v)) (finish_by v.size n))

      grow_to-by : (n : ℕ) → RefusedBy Q (try_grow_to P M F R b n v)
      unfolding try_grow_to
      grow_to-by n = by_test (RefusedBy Q) (ltb v.size n) _ _ (λ x. grow_by n) (λ x. tt)

      pub truncate_by : (n : ℕ) → RefusedBy Q (try_truncate P M F R b n v)
      unfolding try_truncate
      truncate_by n = then_by (keep_size v.size (try_grow_to P M F R b n v)) (λ w. and_then (try_chop P M F R n w) (try_tail P M F R b n))
          (size_by v.size (try_grow_to P M F R b n v) (grow_to-by n))
          (λ w. then_by (try_chop P M F R n w) (try_tail P M F R b n) (chop_by n w) (tail_by n))

      pub write_by : (o : ℕ) (bs : List ℕ) → (ltb M (o + length bs) ≡ true → Q OffsetOverflow) → RefusedBy Q (try_write P M F R b o bs v)
      unfolding try_write
      write_by o bs end =
          let loads : Bool = not (whole_page P o (length bs)) in
          let pages : Over → Tried = try_touch_all P M F R b loads (copy P o bs) (o / P) (span P o (length bs)) in
          by_test (RefusedBy Q) (eqb (length bs) 0) _ _ (λ x. tt)
          (λ x. by_test (RefusedBy Q) (ltb M (o + length bs)) _ _ end
          (λ y. size_by v.size (and_then (try_grow_to P M F R b (o + length bs) v) pages)
          (then_by (try_grow_to P M F R b (o + length bs) v) pages (grow_to-by (o + length bs)) (all_by loads (copy P o bs) (o / P) (span P o (length bs))))))
