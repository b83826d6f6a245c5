-- What each change of an update does to its bytes, to its dirty pages and to its record.
use Rattle.std.specs.Prelude.{◌≡◌, false, cond, ◌&&◌, ◌||◌, List, ltb, eqb, get_or}
use Rattle.std.proofs.Math.Path.{refl, sym, ap}
use Rattle.std.proofs.Common.{◌∙◌, subst, mod-lt, div-add-mod', le-div_iff_mul-le, mul-le-mul_right}
use Prim.Native.Nat.{ℕ, zero, suc, ◌+◌, ◌-◌, ◌*◌, ◌/◌, ◌%◌, ◌≤◌, ◌<◌, max}
use native.Mathlib.Omega.{arith}
use Rattle.std.proofs.Math.Bool.{Bool, true, not, or-true}
use Rattle.std.proofs.Math.ListN.{length, get_or-eq_default}
use borrow.Author.Tests.{ltb-true, ltb-false, eqb-true, eqb-false, ne_eqb, not-true}
use Rattle.config.specs.Pages.{count, page_lo, page_hi, page_at, count_lt, lt_count}
use Rattle.memory.specs.Bytes.{resize}
use Rattle.memory.specs.Laws.{split, length-resize, resize_in}
use Rattle.runs.specs.Sets.{covers}
use Rattle.extents.specs.Plan.{below}
use Rattle.update.specs.Lists.{put, inside}
use Rattle.update.specs.ListLaws.{clash, tests, inside_yes, inside_lo, inside_hi, put_lo, put_in, put_hi, length-put, length-tabulate, tabulate_at}
use Rattle.update.specs.Pages.{Page, page_numbers, holds, drop_page, add_number, add_numbers, add_number_if, page_byte, partial, span, grown_numbers}
use Rattle.update.specs.Update.{Over, push_run, raw, touch, touch_all, blank, copy, stretch, patch, finish, grow, grow_to, chop, tail, truncated, whole_page, over_write}
use Rattle.update.specs.PageLaws.{push_in, push_lo, push_none, push_keeps, put_page-hit, put_page-miss, put_page-keeps, keep_low, keep_high, Sized, sized-put_page, sized_keep, byte_clean, byte_hit, byte_miss, byte_keep, byte-drop, numbers-put_page, numbers_keep}
use Rattle.runs.specs.SetLaws.{both}

-- a reader of the page does not look at the image
abbrev pub hidden : Over → ℕ → Bool
hidden v q = holds v.dirty q || covers v.recorded q

-- every dirty page is below c, and has P bytes
pub record Shape (P c : ℕ) (v : Over) : Type 0 where
  pub low : (q : ℕ) → c ≤ q → holds v.dirty q ≡ false
  pub sized : Sized P v.dirty

-- The invariant: the update v, of m bytes, on an image of z bytes b, holds the bytes of d (and zeros past the end of d)
pub record Like (P : ℕ) (b : ℕ → ℕ) (z : ℕ) (v : Over) (m : ℕ) (d : List ℕ) : Type 0 where
  pub size_is : v.size ≡ m
  pub same_as : (o : ℕ) → o < m → raw P b v o ≡ get_or d o 0
  pub shape : Shape P (count P m) v
  pub masked : (o : ℕ) → z ≤ o → o < m → hidden v (o / P) ≡ true

-- w is v, grown to n bytes
record Grown (P : ℕ) (b : ℕ → ℕ) (v w : Over) (n : ℕ) : Type 0 where
  size_is : w.size ≡ n
  old : (o : ℕ) → o < v.size → raw P b w o ≡ raw P b v o
  new : (o : ℕ) → v.size ≤ o → o < n → raw P b w o ≡ 0
  shape : Shape P (count P n) w
  keeps : (q : ℕ) → hidden v q ≡ true → hidden w q ≡ true
  hides : (o : ℕ) → v.size ≤ o → o < n → hidden w (o / P) ≡ true

pub or_mono : (a b a' b' : Bool) → (a ≡ true → a' ≡ true) → (b ≡ true → b' ≡ true) → (a || b) ≡ true → (a' || b') ≡ true
or_mono true b a' b' f g h = rw (f refl)
or_mono false b a' b' f g h = rw (g h, or-true)

module _ (P : ℕ) where
  pub blank_in : (a e o x : ℕ) → a ≤ o → o < e → blank P a e o x ≡ 0
  unfolding blank
  blank_in a e o x h k = rw (inside_yes a e o h k)

  pub blank_lo : (a e o x : ℕ) → o < a → blank P a e o x ≡ x
  unfolding blank
  blank_lo a e o x h = rw (inside_lo a e o h)

  blank_zero : (a e o x : ℕ) → x ≡ 0 → blank P a e o x ≡ 0
  unfolding blank
  blank_zero a e o x h = split (inside a e o) (λ t. rw t) (λ f. rw f h)

  pub copy_in : (a : ℕ) (bs : List ℕ) (o x : ℕ) → a ≤ o → o < a + length bs → copy P a bs o x ≡ get_or bs (o - a) 0
  unfolding copy
  copy_in a bs o x h k = rw (inside_yes a (a + length bs) o h k)

  pub copy_lo : (a : ℕ) (bs : List ℕ) (o x : ℕ) → o < a → copy P a bs o x ≡ x
  unfolding copy
  copy_lo a bs o x h = rw (inside_lo a (a + length bs) o h)

  pub copy_hi : (a : ℕ) (bs : List ℕ) (o x : ℕ) → a + length bs ≤ o → copy P a bs o x ≡ x
  unfolding copy
  copy_hi a bs o x h = rw (inside_hi a (a + length bs) o h)

module _ (P : ℕ) (pos : 0 < P) (b : ℕ → ℕ) (z0 : ℕ) where
  -- ## one page

  touch_in : (l : Bool) (u : ℕ → ℕ → ℕ) (p : ℕ) (v : Over) (o : ℕ) → p ≡ o / P → raw P b (touch P b l u p v) o ≡ u o (raw P b v o)
  unfolding raw touch
  touch_in l u p v o e =
      byte_hit P pos p _ v.dirty o _ e ∙ tabulate_at P _ (o % P) (mod-lt o pos)
      ∙ ap (λ (k : ℕ). u k (raw P b v k)) (rw e (div-add-mod' o P))

  cache_miss : (l : Bool) (p : ℕ) (d c : List Page) (o x : ℕ) → (p ≡ o / P → ⊥) → page_byte P (cond (holds d p) c (cond l (drop_page p c) c)) o x ≡ page_byte P c o x
  cache_miss l p d c o x ne = split (holds d p)
      (λ t. rw t)
      (λ f. rw f (split l (λ t. rw t (byte-drop P pos p c o x ne)) (λ n. rw n)))

  touch_out : (l : Bool) (u : ℕ → ℕ → ℕ) (p : ℕ) (v : Over) (o : ℕ) → (p ≡ o / P → ⊥) → raw P b (touch P b l u p v) o ≡ raw P b v o
  unfolding raw touch
  touch_out l u p v o ne = byte_miss P pos p _ v.dirty o _ ne ∙ rw (cache_miss (l && not (covers v.recorded p)) p v.dirty v.cache o (b o) ne)

  -- at a byte that u leaves as it is, nothing changes, be the page touched or not
  touch_fix : (l : Bool) (u : ℕ → ℕ → ℕ) (p : ℕ) (v : Over) (o : ℕ) → ((x : ℕ) → u o x ≡ x) → raw P b (touch P b l u p v) o ≡ raw P b v o
  touch_fix l u p v o fix = split (eqb p (o / P))
      (λ t. touch_in l u p v o (eqb-true p (o / P) t) ∙ fix _)
      (λ f. touch_out l u p v o (eqb-false p (o / P) f))

  -- a byte that is zero, and that u leaves zero, stays zero
  touch_zero : (l : Bool) (u : ℕ → ℕ → ℕ) (p : ℕ) (v : Over) (o : ℕ) → ((x : ℕ) → x ≡ 0 → u o x ≡ 0) → raw P b v o ≡ 0 → raw P b (touch P b l u p v) o ≡ 0
  touch_zero l u p v o fix h = split (eqb p (o / P))
      (λ t. touch_in l u p v o (eqb-true p (o / P) t) ∙ fix _ h)
      (λ f. touch_out l u p v o (eqb-false p (o / P) f) ∙ h)

  touch_shape : (l : Bool) (u : ℕ → ℕ → ℕ) (p c : ℕ) (v : Over) → p < c → Shape P c v → Shape P c (touch P b l u p v)
  unfolding touch
  touch_shape l u p c v h s = record {
    low = λ q k. put_page-miss p _ v.dirty q (omega arith) ∙ s.low q k;
    sized = sized-put_page P p _ v.dirty (length-tabulate P _) s.sized;
  }

  touch_hidden : (l : Bool) (u : ℕ → ℕ → ℕ) (p : ℕ) (v : Over) (q : ℕ) → hidden v q ≡ true → hidden (touch P b l u p v) q ≡ true
  unfolding touch
  touch_hidden l u p v q h = or_mono (holds v.dirty q) (covers v.recorded q) _ _ (put_page-keeps p _ v.dirty q) (λ e. e) h

  touch_hides : (l : Bool) (u : ℕ → ℕ → ℕ) (p : ℕ) (v : Over) → hidden (touch P b l u p v) p ≡ true
  unfolding touch
  touch_hides l u p v = rw (put_page-hit p _ v.dirty)

  touch_size : (l : Bool) (u : ℕ → ℕ → ℕ) (p : ℕ) (v : Over) → (touch P b l u p v).size ≡ v.size
  unfolding touch
  touch_size l u p v = refl

  touch_recorded : (l : Bool) (u : ℕ → ℕ → ℕ) (p : ℕ) (v : Over) → (touch P b l u p v).recorded ≡ v.recorded
  unfolding touch
  touch_recorded l u p v = refl

  touch_numbers : (l : Bool) (u : ℕ → ℕ → ℕ) (p : ℕ) (v : Over) → page_numbers (touch P b l u p v).dirty ≡ add_number p (page_numbers v.dirty)
  unfolding touch
  touch_numbers l u p v = numbers-put_page p _ v.dirty

  -- ## several pages

  touch_all-out : (l : Bool) (u : ℕ → ℕ → ℕ) (p n : ℕ) (v : Over) (o : ℕ) → o / P < p → raw P b (touch_all P b l u p n v) o ≡ raw P b v o
  touch_all-out l u p zero v o h = refl
  touch_all-out l u p (suc n) v o h = touch_all-out l u (suc p) n (touch P b l u p v) o (omega arith) ∙ touch_out l u p v o (omega arith)

  touch_all-fix : (l : Bool) (u : ℕ → ℕ → ℕ) (p n : ℕ) (v : Over) (o : ℕ) → ((x : ℕ) → u o x ≡ x) → raw P b (touch_all P b l u p n v) o ≡ raw P b v o
  touch_all-fix l u p zero v o fix = refl
  touch_all-fix l u p (suc n) v o fix = touch_all-fix l u (suc p) n (touch P b l u p v) o fix ∙ touch_fix l u p v o fix

  touch_all-in : (l : Bool) (u : ℕ → ℕ → ℕ) (p n : ℕ) (v : Over) (o : ℕ) → p ≤ o / P → o / P < p + n → raw P b (touch_all P b l u p n v) o ≡ u o (raw P b v o)
  touch_all-in l u p zero v o h k = absurd (omega arith)
  touch_all-in l u p (suc n) v o h k = split (eqb p (o / P))
      (λ t. touch_all-out l u (suc p) n (touch P b l u p v) o (omega (arith, tests)) ∙ touch_in l u p v o (eqb-true p (o / P) t))
      (λ f. let ne : p ≡ o / P → ⊥ = eqb-false p (o / P) f in
      touch_all-in l u (suc p) n (touch P b l u p v) o (omega arith) (omega arith) ∙ ap (u o) (touch_out l u p v o ne))

  touch_all-shape : (l : Bool) (u : ℕ → ℕ → ℕ) (p n c : ℕ) (v : Over) → p + n ≤ c → Shape P c v → Shape P c (touch_all P b l u p n v)
  touch_all-shape l u p zero c v h s = s
  touch_all-shape l u p (suc n) c v h s = touch_all-shape l u (suc p) n c (touch P b l u p v) (omega arith) (touch_shape l u p c v (omega arith) s)

  touch_all-hidden : (l : Bool) (u : ℕ → ℕ → ℕ) (p n : ℕ) (v : Over) (q : ℕ) → hidden v q ≡ true → hidden (touch_all P b l u p n v) q ≡ true
  touch_all-hidden l u p zero v q h = h
  touch_all-hidden l u p (suc n) v q h = touch_all-hidden l u (suc p) n (touch P b l u p v) q (touch_hidden l u p v q h)

  touch_all-size : (l : Bool) (u : ℕ → ℕ → ℕ) (p n : ℕ) (v : Over) → (touch_all P b l u p n v).size ≡ v.size
  touch_all-size l u p zero v = refl
  touch_all-size l u p (suc n) v = touch_all-size l u (suc p) n (touch P b l u p v) ∙ touch_size l u p v

  touch_all-recorded : (l : Bool) (u : ℕ → ℕ → ℕ) (p n : ℕ) (v : Over) → (touch_all P b l u p n v).recorded ≡ v.recorded
  touch_all-recorded l u p zero v = refl
  touch_all-recorded l u p (suc n) v = touch_all-recorded l u (suc p) n (touch P b l u p v) ∙ touch_recorded l u p v

  touch_all-numbers : (l : Bool) (u : ℕ → ℕ → ℕ) (p n : ℕ) (v : Over) → page_numbers (touch_all P b l u p n v).dirty ≡ add_numbers p n (page_numbers v.dirty)
  touch_all-numbers l u p zero v = refl
  touch_all-numbers l u p (suc n) v = touch_all-numbers l u (suc p) n (touch P b l u p v) ∙ ap (add_numbers (suc p) n) (touch_numbers l u p v)

  -- ## numbers of pages

  pub in_count : (o s : ℕ) → o < s → o / P < count P s
  in_count o s h = lt_count P pos (o / P) s (omega (arith, page_lo P pos o))

  part_in_count : (s : ℕ) → partial P s ≡ true → s / P < count P s
  part_in_count s h = lt_count P pos (s / P) s (split (eqb (s % P) 0)
      (λ t. clash h (rw t))
      (λ f. let ne : s % P ≡ 0 → ⊥ = eqb-false (s % P) 0 f in omega (arith, div-add-mod' s P)))

  -- a byte at s or past it, in a page that s bytes reach: s ends within that page
  last_page : (s o : ℕ) → s ≤ o → o / P < count P s → (partial P s ≡ true) × (s / P ≡ o / P)
  last_page s o h k =
      let lo : o / P * P < s = count_lt P pos (o / P) s k in
      let e : s / P ≡ o / P = page_at P pos (o / P) s (omega arith) (omega (arith, page_hi P pos o)) in (
        split (eqb (s % P) 0)
            (λ t. absurd (omega (arith, tests, div-add-mod' s P, ap (λ (q : ℕ). q * P) e)))
            (λ f. rw f),
        e,
      )

  pub count_mono : (s n : ℕ) → s ≤ n → count P s ≤ count P n
  count_mono s n h = split (ltb (count P n) (count P s))
      (λ t. absurd (omega (arith, lt_count P pos (count P n) n (omega (arith, count_lt P pos (count P n) s (ltb-true (count P n) (count P s) t))))))
      (λ f. omega (arith, tests))

  page_mono : (o i : ℕ) → o ≤ i → o / P ≤ i / P
  page_mono o i h = (le-div_iff_mul-le {x = o / P} pos).1 (omega (arith, page_lo P pos o))

  -- ## growth

  module _ (n : ℕ) (v : Over) where
    stretch_old : (o : ℕ) → o / P < count P v.size → raw P b (stretch P n v) o ≡ raw P b v o
    unfolding raw stretch
    stretch_old o h = rw (push_lo (count P v.size) (count P n) v.recorded (o / P) h)

    stretch_new : Shape P (count P v.size) v → (o : ℕ) → count P v.size ≤ o / P → o < n → raw P b (stretch P n v) o ≡ 0
    unfolding raw stretch
    stretch_new s o h k =
        byte_clean P pos v.dirty o _ (s.low (o / P) h)
        ∙ rw (push_in (count P v.size) (count P n) v.recorded (o / P) h (in_count o n k))

    stretch_shape : v.size < n → Shape P (count P v.size) v → Shape P (count P n) (stretch P n v)
    unfolding stretch
    stretch_shape h s = record {
      low = λ q k. s.low q (omega (arith, count_mono v.size n (omega arith)));
      sized = s.sized;
    }

    stretch_keeps : (q : ℕ) → hidden v q ≡ true → hidden (stretch P n v) q ≡ true
    unfolding stretch
    stretch_keeps q h = or_mono (holds v.dirty q) (covers v.recorded q) _ _ (λ e. e) (push_keeps _ _ v.recorded q) h

    stretch_size : (stretch P n v).size ≡ n
    unfolding stretch
    stretch_size = refl

    stretch_hides : (o : ℕ) → count P v.size ≤ o / P → o < n → hidden (stretch P n v) (o / P) ≡ true
    unfolding stretch
    stretch_hides o h k = rw (push_in (count P v.size) (count P n) v.recorded (o / P) h (in_count o n k), or-true)

    -- past the old end, and not in the old last page
    beyond : (o : ℕ) → v.size ≤ o → ((partial P v.size ≡ true) × (v.size / P ≡ o / P) → ⊥) → count P v.size ≤ o / P
    beyond o h ne = let m : ¬ (o / P < count P v.size) = λ k. ne (last_page v.size o h k) in omega arith

    patched : v.size < n → Shape P (count P v.size) v → Grown P b v (patch P b v.size n (stretch P n v)) n
    unfolding patch
    patched h s =
        let z : ℕ = v.size in
        split (partial P z)
        (λ t. rw (patch, t) record {
          size_is = touch_size true _ _ _ ∙ stretch_size;
          old = λ o k. touch_fix true _ (z / P) _ o (λ x. blank_lo P z n o x k) ∙ stretch_old o (in_count o z k);
          new = λ o k l. split (eqb (z / P) (o / P))
              (λ i. touch_in true _ (z / P) _ o (eqb-true (z / P) (o / P) i) ∙ blank_in P z n o _ k l)
              (λ u. touch_out true _ (z / P) _ o (eqb-false (z / P) (o / P) u)
              ∙ stretch_new s o (beyond o k (λ e. eqb-false (z / P) (o / P) u e.1)) l);
          shape = touch_shape true _ (z / P) (count P n) _ (omega (arith, part_in_count z t, count_mono z n (omega arith))) (stretch_shape h s);
          keeps = λ q k. touch_hidden true _ (z / P) _ q (stretch_keeps q k);
          hides = λ o k l. split (eqb (z / P) (o / P))
              (λ i. rw (← eqb-true (z / P) (o / P) i) (touch_hides true _ (z / P) _))
              (λ u. touch_hidden true _ (z / P) _ (o / P) (stretch_hides o (beyond o k (λ e. eqb-false (z / P) (o / P) u e.1)) l));
        })
        (λ f. rw (patch, f) record {
          size_is = stretch_size;
          old = λ o k. stretch_old o (in_count o z k);
          new = λ o k l. stretch_new s o (beyond o k (λ e. clash e.0 f)) l;
          shape = stretch_shape h s;
          keeps = stretch_keeps;
          hides = λ o k l. stretch_hides o (beyond o k (λ e. clash e.0 f)) l;
        })

    -- an old byte lies before the new last page
    before_last : (o : ℕ) → v.size < n → (v.size / P ≡ n / P → ⊥) → o < v.size → o < n / P * P
    before_last o h ne k =
        let a : o / P < n / P = omega (arith, page_mono o v.size (omega arith), page_mono v.size n (omega arith)) in
        omega (arith, page_hi P pos o, mul-le-mul_right P a)

    grown : v.size < n → Shape P (count P v.size) v → Grown P b v (grow P b n v) n
    unfolding grow finish
    grown h s =
        let g : Grown P b v (patch P b v.size n (stretch P n v)) n = patched h s in
        split (partial P n && not (eqb (v.size / P) (n / P)))
        (λ t. let ne : v.size / P ≡ n / P → ⊥ = eqb-false (v.size / P) (n / P) (not-true _ (both (partial P n) _ t).1) in
        rw (grow, finish, t) record {
          size_is = touch_size true _ _ _ ∙ g.size_is;
          old = λ o k. touch_fix true _ (n / P) _ o (λ x. blank_lo P (n / P * P) n o x (before_last o h ne k)) ∙ g.old o k;
          new = λ o k l. touch_zero true _ (n / P) _ o (λ x. blank_zero P (n / P * P) n o x) (g.new o k l);
          shape = touch_shape true _ (n / P) (count P n) _ (part_in_count n (both (partial P n) _ t).0) g.shape;
          keeps = λ q k. touch_hidden true _ (n / P) _ q (g.keeps q k);
          hides = λ o k l. touch_hidden true _ (n / P) _ (o / P) (g.hides o k l);
        })
        (λ f. rw (grow, finish, f) g)

    -- ## a cut

    chop_old : (o : ℕ) → o < n → raw P b (chop P n v) o ≡ raw P b v o
    unfolding raw chop
    chop_old o h = rw (
      byte_keep P pos (count P n) v.dirty o _ (in_count o n h),
      byte_keep P pos (count P n) v.cache o _ (in_count o n h),
      push_lo (count P n) (count P v.size) v.recorded (o / P) (in_count o n h),
    )

    chop_shape : {c : ℕ} → Shape P c v → Shape P (count P n) (chop P n v)
    unfolding chop
    chop_shape s = record { low = λ q k. keep_high (count P n) v.dirty q k; sized = sized_keep P (count P n) v.dirty s.sized }

    chop_keeps : (q : ℕ) → q < count P n → hidden v q ≡ true → hidden (chop P n v) q ≡ true
    unfolding chop
    chop_keeps q k h = or_mono (holds v.dirty q) (covers v.recorded q) _ _ (λ e. keep_low (count P n) v.dirty q k ∙ e) (push_keeps _ _ v.recorded q) h

    chop_size : (chop P n v).size ≡ n
    unfolding chop
    chop_size = refl

  cut_like : (n m : ℕ) (v : Over) (d : List ℕ) → n ≤ m → Like P b z0 v m d → Like P b z0 (tail P b n (chop P n v)) n d
  unfolding tail
  cut_like n m v d h r = split (partial P n)
      (λ t. rw (tail, t) record {
        size_is = touch_size true _ _ _ ∙ chop_size n v;
        same_as = λ o k. touch_fix true _ (n / P) _ o (λ x. blank_lo P n (n + P) o x k) ∙ chop_old n v o k ∙ r.same_as o (omega arith);
        shape = touch_shape true _ (n / P) (count P n) _ (part_in_count n t) (chop_shape n v r.shape);
        masked = λ o k l. touch_hidden true _ (n / P) _ (o / P) (chop_keeps n v (o / P) (in_count o n l) (r.masked o k (omega arith)));
      })
      (λ f. rw (tail, f) record {
        size_is = chop_size n v;
        same_as = λ o k. chop_old n v o k ∙ r.same_as o (omega arith);
        shape = chop_shape n v r.shape;
        masked = λ o k l. chop_keeps n v (o / P) (in_count o n l) (r.masked o k (omega arith));
      })

  grow_like : (n : ℕ) (v : Over) (d : List ℕ) → length d < n → Like P b z0 v (length d) d → Like P b z0 (grow P b n v) n d
  grow_like n v d h r =
      let e : v.size ≡ length d = r.size_is in
      let g : Grown P b v (grow P b n v) n = grown n v (omega arith) (subst (λ (k : ℕ). Shape P (count P k) v) (sym e) r.shape) in
      record {
        size_is = g.size_is;
        same_as = λ o k. split (ltb o (length d))
            (λ t. g.old o (omega (arith, tests)) ∙ r.same_as o (ltb-true o (length d) t))
            (λ f. g.new o (omega (arith, tests)) k ∙ sym (get_or-eq_default d 0 (ltb-false o (length d) f)));
        shape = g.shape;
        masked = λ o k l. split (ltb o (length d))
            (λ t. g.keeps (o / P) (r.masked o k (ltb-true o (length d) t)))
            (λ f. g.hides o (omega (arith, tests)) l);
      }

  grow_to-like : (n : ℕ) (v : Over) (d : List ℕ) → Like P b z0 v (length d) d → Like P b z0 (grow_to P b n v) (max (length d) n) d
  unfolding grow_to
  grow_to-like n v d r = split (ltb v.size n)
      (λ t. let h : length d < n = omega (arith, tests, r.size_is) in
      let m : max (length d) n ≡ n = omega arith in
      rw (grow_to, t, m) (grow_like n v d h r))
      (λ f. let h : n ≤ length d = omega (arith, tests, r.size_is) in
      let m : max (length d) n ≡ length d = omega arith in
      rw (grow_to, f, m) r)

  -- what holds d's bytes holds those of a list that agrees with it
  like_as : {v : Over} {m : ℕ} {d e : List ℕ} → ((o : ℕ) → o < m → get_or d o 0 ≡ get_or e o 0) → Like P b z0 v m d → Like P b z0 v m e
  like_as f r = record { size_is = r.size_is; same_as = λ o k. r.same_as o k ∙ f o k; shape = r.shape; masked = r.masked }

  pub truncate_like : (n : ℕ) (v : Over) (d : List ℕ) → Like P b z0 v (length d) d → Like P b z0 (truncated P b n v) (length (resize n d)) (resize n d)
  unfolding truncated
  truncate_like n v d r = rw length-resize (like_as {d = d} (λ o k. sym (resize_in n d o k))
      (cut_like n (max (length d) n) (grow_to P b n v) d (omega arith) (grow_to-like n v d r)))

  -- ## a write

  page_le_count : (o s : ℕ) → o ≤ s → o / P ≤ count P s
  page_le_count o s h = split (ltb (count P s) (o / P))
      (λ t. let k : suc (count P s) ≤ o / P = ltb-true (count P s) (o / P) t in
      absurd (omega (arith, lt_count P pos (count P s) s (omega (arith, mul-le-mul_right P k, page_lo P pos o)))))
      (λ f. omega (arith, tests))

  span_fits : (o n : ℕ) → o / P + span P o n ≤ count P (o + n)
  unfolding span
  span_fits o n = let h : o / P ≤ count P (o + n) = page_le_count o (o + n) (omega arith) in
      split (eqb n 0) (λ t. rw t (omega arith)) (λ f. rw f (omega arith))

  span_reaches : (o n i : ℕ) → o ≤ i → i < o + n → i / P < o / P + span P o n
  unfolding span
  span_reaches o n i h k = rw (ne_eqb n 0 (omega arith)) (omega (arith, in_count i (o + n) k))

  pub write_like : (o : ℕ) (bs : List ℕ) (v : Over) (d : List ℕ) → Like P b z0 v (length d) d → Like P b z0 (over_write P b o bs v) (length (put d o bs)) (put d o bs)
  unfolding over_write
  write_like o bs v d r =
      let m : ℕ = max (length d) (o + length bs) in
      let w : Over = grow_to P b (o + length bs) v in
      let g : Like P b z0 w m d = grow_to-like (o + length bs) v d r in
      let u : ℕ → ℕ → ℕ = copy P o bs in
      let p : ℕ = o / P in
      let c : ℕ = span P o (length bs) in
      let f : Bool = not (whole_page P o (length bs)) in
      rw length-put record {
        size_is = touch_all-size f u p c w ∙ g.size_is;
        same_as = λ i k. split (ltb i o)
            (λ t. let lo : i < o = ltb-true i o t in
            touch_all-fix f u p c w i (λ x. copy_lo P o bs i x lo) ∙ g.same_as i k ∙ sym (put_lo d o bs i lo))
            (λ f'. let lo : o ≤ i = ltb-false i o f' in
            split (ltb i (o + length bs))
            (λ t. let hi : i < o + length bs = ltb-true i (o + length bs) t in
            touch_all-in f u p c w i (page_mono o i lo) (span_reaches o (length bs) i lo hi)
            ∙ copy_in P o bs i _ lo hi ∙ sym (put_in d o bs i lo hi))
            (λ n. let hi : o + length bs ≤ i = ltb-false i (o + length bs) n in
            touch_all-fix f u p c w i (λ x. copy_hi P o bs i x hi) ∙ g.same_as i k ∙ sym (put_hi d o bs i hi)));
        shape = touch_all-shape f u p c (count P m) w (omega (arith, span_fits o (length bs), count_mono (o + length bs) m (omega arith))) g.shape;
        masked = λ i k l. touch_all-hidden f u p c w (i / P) (g.masked i k l);
      }

  -- ## which pages get dirty, and what is recorded

  patch_numbers : (z n : ℕ) (v : Over) → page_numbers (patch P b z n v).dirty ≡ add_number_if (partial P z) (z / P) (page_numbers v.dirty)
  unfolding patch add_number_if
  patch_numbers z n v = split (partial P z) (λ t. rw (patch, add_number_if, t) (touch_numbers true _ _ v)) (λ f. rw (patch, add_number_if, f))

  finish_numbers : (z n : ℕ) (v : Over) → page_numbers (finish P b z n v).dirty ≡ add_number_if (partial P n && not (eqb (z / P) (n / P))) (n / P) (page_numbers v.dirty)
  unfolding finish add_number_if
  finish_numbers z n v = split (partial P n && not (eqb (z / P) (n / P))) (λ t. rw (finish, add_number_if, t) (touch_numbers true _ _ v)) (λ f. rw (finish, add_number_if, f))

  stretch_numbers : (n : ℕ) (v : Over) → page_numbers (stretch P n v).dirty ≡ page_numbers v.dirty
  unfolding stretch
  stretch_numbers n v = refl

  grow_to-numbers : (n : ℕ) (v : Over) → page_numbers (grow_to P b n v).dirty ≡ grown_numbers P v.size n (page_numbers v.dirty)
  unfolding grow_to grow grown_numbers
  grow_to-numbers n v = split (ltb v.size n)
      (λ t. rw (grow_to, grow, grown_numbers, t) (finish_numbers v.size n _ ∙ rw (patch_numbers v.size n (stretch P n v), stretch_numbers n v)))
      (λ f. rw (grow_to, grown_numbers, f))

  patch_recorded : (z n : ℕ) (v : Over) → (patch P b z n v).recorded ≡ v.recorded
  unfolding patch
  patch_recorded z n v = split (partial P z) (λ t. rw (patch, t) (touch_recorded true _ _ v)) (λ f. rw (patch, f))

  finish_recorded : (z n : ℕ) (v : Over) → (finish P b z n v).recorded ≡ v.recorded
  unfolding finish
  finish_recorded z n v = split (partial P n && not (eqb (z / P) (n / P))) (λ t. rw (finish, t) (touch_recorded true _ _ v)) (λ f. rw (finish, f))

  grow_to-recorded : (n : ℕ) (v : Over) → (grow_to P b n v).recorded ≡ push_run (count P v.size) (count P n) v.recorded
  unfolding grow_to grow stretch
  grow_to-recorded n v = split (ltb v.size n)
      (λ t. rw (grow_to, grow, t) (finish_recorded v.size n _ ∙ patch_recorded v.size n _))
      (λ f. rw (grow_to, f) (sym (push_none _ _ v.recorded (count_mono n v.size (ltb-false v.size n f)))))

  pub write_numbers : (o : ℕ) (bs : List ℕ) (v : Over) → page_numbers (over_write P b o bs v).dirty ≡ add_numbers (o / P) (span P o (length bs)) (grown_numbers P v.size (o + length bs) (page_numbers v.dirty))
  unfolding over_write
  write_numbers o bs v = touch_all-numbers _ _ (o / P) (span P o (length bs)) _ ∙ ap (add_numbers (o / P) (span P o (length bs))) (grow_to-numbers (o + length bs) v)

  pub write_recorded : (o : ℕ) (bs : List ℕ) (v : Over) → (over_write P b o bs v).recorded ≡ push_run (count P v.size) (count P (o + length bs)) v.recorded
  unfolding over_write
  write_recorded o bs v = touch_all-recorded _ _ (o / P) (span P o (length bs)) _ ∙ grow_to-recorded (o + length bs) v

  tail_numbers : (n : ℕ) (v : Over) → page_numbers (tail P b n v).dirty ≡ add_number_if (partial P n) (n / P) (page_numbers v.dirty)
  unfolding tail add_number_if
  tail_numbers n v = split (partial P n) (λ t. rw (tail, add_number_if, t) (touch_numbers true _ _ v)) (λ f. rw (tail, add_number_if, f))

  tail_recorded : (n : ℕ) (v : Over) → (tail P b n v).recorded ≡ v.recorded
  unfolding tail
  tail_recorded n v = split (partial P n) (λ t. rw (tail, t) (touch_recorded true _ _ v)) (λ f. rw (tail, f))

  chop_numbers : (n : ℕ) (v : Over) → page_numbers (chop P n v).dirty ≡ below (count P n) (page_numbers v.dirty)
  unfolding chop
  chop_numbers n v = numbers_keep (count P n) v.dirty

  pub truncate_numbers : (n : ℕ) (v : Over) → page_numbers (truncated P b n v).dirty ≡ add_number_if (partial P n) (n / P) (below (count P n) (grown_numbers P v.size n (page_numbers v.dirty)))
  unfolding truncated
  truncate_numbers n v = tail_numbers n _ ∙ rw (chop_numbers n (grow_to P b n v), grow_to-numbers n v)

  patch_size : (z n : ℕ) (v : Over) → (patch P b z n v).size ≡ v.size
  unfolding patch
  patch_size z n v = split (partial P z) (λ t. rw (patch, t) (touch_size true _ _ v)) (λ f. rw (patch, f))

  finish_size : (z n : ℕ) (v : Over) → (finish P b z n v).size ≡ v.size
  unfolding finish
  finish_size z n v = split (partial P n && not (eqb (z / P) (n / P))) (λ t. rw (finish, t) (touch_size true _ _ v)) (λ f. rw (finish, f))

  grow_to-size : (n : ℕ) (v : Over) → (grow_to P b n v).size ≡ max v.size n
  unfolding grow_to grow
  grow_to-size n v = split (ltb v.size n)
      (λ t. let m : max v.size n ≡ n = omega (arith, tests) in
      rw (grow_to, grow, t, m) (finish_size v.size n _ ∙ patch_size v.size n _ ∙ stretch_size n v))
      (λ f. let m : max v.size n ≡ v.size = omega (arith, tests) in rw (grow_to, f, m))

  pub truncate_recorded : (n : ℕ) (v : Over) → (truncated P b n v).recorded ≡ push_run (count P n) (count P v.size) (push_run (count P v.size) (count P n) v.recorded)
  unfolding truncated chop
  truncate_recorded n v = tail_recorded n _ ∙ rw (grow_to-recorded n v, grow_to-size n v) (split (ltb v.size n)
      (λ t. let m : max v.size n ≡ n = omega (arith, tests) in
      rw m (push_none (count P n) (count P n) _ (omega arith) ∙ sym (push_none (count P n) (count P v.size) _ (count_mono v.size n (omega (arith, tests))))))
      (λ f. let m : max v.size n ≡ v.size = omega (arith, tests) in rw m))

  -- ## The tail of the last page

  -- 01: "zeroing its tail": after a truncation the bytes past the size in the last page are zeros
  pub tail_zero : (n : ℕ) (v : Over) (o : ℕ) → partial P n ≡ true → n ≤ o → o / P ≡ n / P → raw P b (truncated P b n v) o ≡ 0
  unfolding truncated tail
  tail_zero n v o t h e =
      rw (truncated, tail, t) (touch_in true _ (n / P) _ o (sym e) ∙ blank_in P n (n + P) o _ h
      (omega (arith, page_hi P pos o, page_lo P pos n, ap (λ (q : ℕ). q * P) e)))

  -- a grown update reads as zeros from its old size on
  pub grown_zero : (n : ℕ) (v : Over) → v.size < n → Shape P (count P v.size) v → (o : ℕ) → v.size ≤ o → o < n → raw P b (grow P b n v) o ≡ 0
  grown_zero n v h s o lo hi = (grown n v h s).new o lo hi
