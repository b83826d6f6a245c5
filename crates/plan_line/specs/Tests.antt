-- Laws of the tests of what was read: one for each turn of a loop, and those for the loops of the library.
use Rattle.std.specs.Prelude.{◌≡◌, refl, List, [], ◌∷◌, ℕ, zero, suc, ◌+◌, ◌-◌, ◌/◌, ◌≤◌, ◌<◌, not, length, get_or, take, drop, ltb, eqb}
use Rattle.std.specs.Bool.{MatchBool}
use Rattle.std.specs.List.{IsAllAdjacentAnswer, AllWithin, HoldsAt, list_any, list_all, enumerate_from}
use Rattle.std.specs.Simd.{first_chunks}
use Rattle.std.proofs.Math.Path.{sym, ap}
use Rattle.std.proofs.Common.{◌∙◌, add-one, length-drop, drop_of_length-le, drop-cons, take_all}
use Rattle.std.proofs.lemmas.List.{drop-drop}
use mathlib.Core.Bool.{Bool, true, false, ◌&&◌, ◌||◌}
use native.Mathlib.Omega.{arith}
use borrow.Author.Tests.{lt-ltb, le-ltb, eq-eqb, ne_eqb}
use Rattle.meta.specs.declared.ZeroExtent.{ZeroExtent}
use Rattle.meta.specs.Runs.{runs_of, numbers_of, normalized}
use Rattle.plan_line.specs.Values.{non_empty, member, distinct}

-- each number is above the one before it
unfoldable pub ascending : List ℕ → Bool
ascending [] = true
ascending (a ∷ []) = true
ascending (a ∷ b ∷ l) = ltb a b && ascending (b ∷ l)

drop-one : (l : List ℕ) (i : ℕ) → i < length l → drop i l ≡ get_or l i 0 ∷ drop (i + 1) l
drop-one l i h = rw (add-one, drop-cons l i 0)

-- the two numbers up to place i
pub drop-two : (l : List ℕ) (i : ℕ) → 1 ≤ i → i < length l → drop (i - 1) l ≡ get_or l (i - 1) 0 ∷ get_or l i 0 ∷ drop (i + 1) l
drop-two l i h k =
    let e : i - 1 + 1 ≡ i = omega arith in
    drop-one l (i - 1) (omega arith) ∙ ap (λ (j : ℕ). get_or l (i - 1) 0 ∷ drop j l) e ∙ ap (λ (x : List ℕ). get_or l (i - 1) 0 ∷ x) (drop-one l i k)

module _ (l : List ℕ) (i : ℕ) (lo : 1 ≤ i) (h : i < length l) where
  pub ascending_go : get_or l (i - 1) 0 < get_or l i 0 → ascending (drop (i + 1 - 1) l) ≡ ascending (drop (i - 1) l)
  unfolding ascending
  ascending_go k =
      let e : i + 1 - 1 ≡ i = omega arith in
      sym (ap ascending (drop-two l i lo h) ∙ rw (lt-ltb _ _ k) (ap ascending (sym (drop-one l i h)) ∙ ap (λ (j : ℕ). ascending (drop j l)) (sym e)))

  pub ascending_no : get_or l i 0 ≤ get_or l (i - 1) 0 → ascending (drop (i - 1) l) ≡ false
  unfolding ascending
  ascending_no k = ap ascending (drop-two l i lo h) ∙ rw (le-ltb _ _ k)

  pub non_empty-go : get_or l (i - 1) 0 < get_or l i 0 → non_empty (runs_of (drop (i + 2 - 1) l)) ≡ non_empty (runs_of (drop (i - 1) l))
  unfolding non_empty
  non_empty-go k =
      let e : i + 2 - 1 ≡ i + 1 = omega arith in
      rw (e, drop-two l i lo h, lt-ltb _ _ k)

  pub non_empty-no : get_or l i 0 ≤ get_or l (i - 1) 0 → non_empty (runs_of (drop (i - 1) l)) ≡ false
  unfolding non_empty
  non_empty-no k = rw (drop-two l i lo h, le-ltb _ _ k)

ascending_short : (l : List ℕ) → length l ≤ 1 → ascending l ≡ true
unfolding ascending
ascending_short [] h = refl
ascending_short (a ∷ []) h = refl
ascending_short (a ∷ b ∷ l) h = absurd (omega arith)

non_empty-short : (l : List ℕ) → length l ≤ 1 → non_empty (runs_of l) ≡ true
unfolding non_empty
non_empty-short [] h = refl
non_empty-short (a ∷ []) h = refl
non_empty-short (a ∷ b ∷ l) h = absurd (omega arith)

module _ (l : List ℕ) (i : ℕ) (h : length l ≤ i) where
  pub ascending_end : ascending (drop (i - 1) l) ≡ true
  ascending_end = ascending_short (drop (i - 1) l) (omega (arith, length-drop (i - 1) l))

  pub non_empty-end : non_empty (runs_of (drop (i - 1) l)) ≡ true
  non_empty-end = non_empty-short (drop (i - 1) l) (omega (arith, length-drop (i - 1) l))

  pub member_end : (n : ℕ) → member n (drop i l) ≡ false
  unfolding member
  member_end n = rw (drop_of_length-le l {i = i} h)

  pub distinct_end : distinct (drop i l) ≡ true
  unfolding distinct
  distinct_end = rw (drop_of_length-le l {i = i} h)

module _ (l : List ℕ) (i : ℕ) (h : i < length l) where
  pub member_hit : (n : ℕ) → get_or l i 0 ≡ n → member n (drop i l) ≡ true
  unfolding member
  member_hit n e = rw (drop-one l i h, eq-eqb _ _ e)

  pub member_miss : (n : ℕ) → (get_or l i 0 ≡ n → ⊥) → member n (drop (i + 1) l) ≡ member n (drop i l)
  unfolding member
  member_miss n e = rw (drop-one l i h, ne_eqb _ _ e)

  pub distinct_go : member (get_or l i 0) (drop (i + 1) l) ≡ false → distinct (drop (i + 1) l) ≡ distinct (drop i l)
  unfolding distinct
  distinct_go e = rw (drop-one l i h, e)

  pub distinct_no : member (get_or l i 0) (drop (i + 1) l) ≡ true → distinct (drop i l) ≡ false
  unfolding distinct
  distinct_no e = rw (drop-one l i h, e)

-- each number and the next, as the library tests them
module _ (a b : ℕ) (l : List ℕ) where
  ascending_first : ltb a b ≡ false → ascending (a ∷ b ∷ l) ≡ false
  unfolding ascending
  ascending_first e = rw e

  ascending_later : ascending (b ∷ l) ≡ false → ascending (a ∷ b ∷ l) ≡ false
  unfolding ascending
  ascending_later e = rw e (mathlib.Core.Bool.and-false (ltb a b))

  ascending_more : ltb a b ≡ true → ascending (b ∷ l) ≡ true → ascending (a ∷ b ∷ l) ≡ true
  unfolding ascending
  ascending_more e f = rw (e, f)

ascending_each : (l : List ℕ) → ((k : ℕ) → suc k < length l → ltb (get_or l k 0) (get_or l (suc k) 0) ≡ true) → ascending l ≡ true
unfolding ascending
ascending_each [] h = refl
ascending_each (a ∷ []) h = refl
ascending_each (a ∷ b ∷ l) h = ascending_more a b l (h 0 (omega arith)) (ascending_each (b ∷ l) (λ k lt. h (suc k) (omega arith)))

ascending_some : (l : List ℕ) (k : ℕ) → suc k < length l → ltb (get_or l k 0) (get_or l (suc k) 0) ≡ false → ascending l ≡ false
ascending_some [] k h e = absurd (omega arith)
ascending_some (a ∷ []) k h e = absurd (omega arith)
ascending_some (a ∷ b ∷ l) zero h e = ascending_first a b l e
ascending_some (a ∷ b ∷ l) (suc k) h e = ascending_later a b l (ascending_some (b ∷ l) k (omega arith) e)

pub ascending_answer : (l : List ℕ) (r : Bool) → IsAllAdjacentAnswer (λ x y b. b ≡ ltb x y) l r → r ≡ ascending l
ascending_answer l true h = sym (ascending_each l (λ k lt. rw (sym (add-one k)) (sym (h k 0 (omega arith)))))
ascending_answer l false h = sym (ascending_some l h.0 (omega arith) (rw (sym (add-one h.0)) (sym (h.2 0))))

-- each two numbers, as the library cuts them
pairs_count : (n : ℕ) (l : List ℕ) → length (first_chunks 2 n l) ≡ n
pairs_count zero l = refl
pairs_count (suc n) l = ap suc (pairs_count n (drop 2 l))

pairs_each : (n : ℕ) (l : List ℕ) → n ≡ length l / 2
    → ((k : ℕ) → k < n → get_or (get_or (first_chunks 2 n l) k []) 0 0 < get_or (get_or (first_chunks 2 n l) k []) 1 0) → non_empty (runs_of l) ≡ true
unfolding non_empty
pairs_each zero l e h = non_empty-short l (omega arith)
pairs_each (suc n) [] e h = absurd (omega arith)
pairs_each (suc n) (a ∷ []) e h = absurd (omega arith)
pairs_each (suc n) (a ∷ b ∷ l) e h = rw (lt-ltb a b (h 0 (omega arith)), pairs_each n l (omega arith) (λ k lt. h (suc k) (omega arith)))

pairs_some : (n : ℕ) (l : List ℕ) (k : ℕ) → n ≡ length l / 2 → k < n
    → get_or (get_or (first_chunks 2 n l) k []) 1 0 ≤ get_or (get_or (first_chunks 2 n l) k []) 0 0 → non_empty (runs_of l) ≡ false
unfolding non_empty
pairs_some zero l k e h q = absurd (omega arith)
pairs_some (suc n) [] k e h q = absurd (omega arith)
pairs_some (suc n) (a ∷ []) k e h q = absurd (omega arith)
pairs_some (suc n) (a ∷ b ∷ l) zero e h q = rw (le-ltb a b q)
pairs_some (suc n) (a ∷ b ∷ l) (suc k) e h q = rw (pairs_some n l k (omega arith) (omega arith) q) (mathlib.Core.Bool.and-false (ltb a b))

pub non_empty-answer : (l : List ℕ) (r : Bool)
    → MatchBool r (AllWithin (λ x. get_or x 0 0 < get_or x 1 0) (first_chunks 2 (length l / 2) l) 0 (length (first_chunks 2 (length l / 2) l)))
    ((k : ℕ) × (k < length (first_chunks 2 (length l / 2) l)) × HoldsAt (λ x. get_or x 1 0 ≤ get_or x 0 0) (first_chunks 2 (length l / 2) l) k)
    → r ≡ non_empty (runs_of l)
non_empty-answer l true h = sym (pairs_each (length l / 2) l refl (λ k lt. h k [] (omega arith) (omega (arith, pairs_count (length l / 2) l))))
non_empty-answer l false h = sym (pairs_some (length l / 2) l h.0 refl (omega (arith, pairs_count (length l / 2) l, h.1)) (h.2 []))

-- the rest of a list, as the code takes it
pub rest_is : (l : List ℕ) (i : ℕ) → take (length l - i) (drop i l) ≡ drop i l
rest_is l i = take_all (length l - i) (drop i l) (omega (arith, length-drop i l))

-- as the library looks for a number
pub member_is : (n : ℕ) (l : List ℕ) → list_any (λ y. eqb y n) l ≡ member n l
unfolding member
member_is n [] = refl
member_is n (x ∷ l) = ap (λ (b : Bool). eqb x n || b) (member_is n l)

pub rest_has : (n : ℕ) (l : List ℕ) (i : ℕ) → list_any (λ y. eqb y n) (take (length l - i) (drop i l)) ≡ member n (drop i l)
rest_has n l i = rw (rest_is l i) (member_is n (drop i l))

-- the number at a place stands nowhere behind it; the library goes through the numbers so, each with its place
abbrev pub is_last : List ℕ → ℕ × ℕ → Bool
is_last l p = not (member p.1 (drop (p.0 + 1) l))

distinct_from : (l m : List ℕ) (i : ℕ) → drop i l ≡ m → list_all (is_last l) (enumerate_from i m) ≡ distinct m
unfolding distinct
distinct_from l [] i e = refl
distinct_from l (n ∷ m) i e =
    let d : drop (i + 1) l ≡ m = sym (drop-drop 1 i l) ∙ ap (drop 1) e in
    rw d (ap (λ (b : Bool). not (member n m) && b) (distinct_from l m (i + 1) d))

pub distinct_answer : (l : List ℕ) → list_all (is_last l) (enumerate_from 0 l) ≡ distinct l
distinct_answer l = distinct_from l l 0 refl

-- ## Runs as numbers

pub runs_back : (xs : List ZeroExtent) → runs_of (numbers_of xs) ≡ xs
runs_back [] = refl
runs_back (x ∷ xs) = ap (λ (l : List ZeroExtent). x ∷ l) (runs_back xs)

pub length-numbers : (xs : List ZeroExtent) → length (numbers_of xs) ≡ length xs + length xs
length-numbers [] = refl
length-numbers (x ∷ xs) = omega (arith, length-numbers xs)

-- runs are normalized exactly when their numbers ascend
pub ascending_normalized : (xs : List ZeroExtent) → ascending (numbers_of xs) ≡ normalized xs
unfolding ascending normalized
ascending_normalized [] = refl
ascending_normalized (x ∷ []) = mathlib.Core.Bool.and-true (ltb x.start x.end)
ascending_normalized (x ∷ y ∷ xs) = ap (λ (b : Bool). ltb x.start x.end && (ltb x.end y.start && b)) (ascending_normalized (y ∷ xs))
