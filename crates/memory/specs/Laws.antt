-- Laws of the definitions of Bytes, by length and by element.
use Rattle.std.specs.Prelude.{◌≡◌, refl, Bool, true, false, List, [], ◌∷◌, ◌++◌, ℕ, zero, suc, ◌+◌, ◌-◌, ◌≤◌, ◌<◌, min, ltb, take, set, replicate}
use Rattle.std.proofs.Math.Path.{sym, ap}
use Rattle.std.proofs.Common.{◌∙◌, append_assoc, append-nil, add-one, length-drop, drop_of_length-le, take-add, take-suc, take_all, take-take, drop-drop, get_or-append-add, ext_get_or, ltb-true, ltb-false}
use Rattle.std.proofs.Math.Nat.{sub-zero, zero-sub, suc-sub-suc}
use native.Mathlib.Omega.{arith}
use Rattle.std.proofs.Math.ListN.{length, drop, get_or, length-append, length-take, get_or-eq_default, get_or-append}
use Rattle.std.proofs.lemmas.List.{length-replicate, set_split, drop_more, set_at, replicate_more}
use Rattle.std.proofs.Math.Seq.{take-append_seam, drop-length, get_or-take, get_or-drop, take-nil}
use borrow.Rule.Slice.PartMut.{put_mid}
use Rattle.memory.specs.Bytes.{zeros, overwrite, resize, filled}

-- a case split that keeps the equation
pub split {ℓ} : {X : Type ℓ} (b : Bool) → (b ≡ true → X) → (b ≡ false → X) → X
split true t f = t refl
split false t f = f refl

-- below n or not
pub below {ℓ} : {X : Type ℓ} (i n : ℕ) → (i < n → X) → (n ≤ i → X) → X
below i n lo hi = split (ltb i n) (λ t. lo (ltb-true i n t)) (λ f. hi (ltb-false i n f))

pub append_at : (a b : List ℕ) (i : ℕ) → length a ≤ i → get_or (a ++ b) i 0 ≡ get_or b (i - length a) 0
append_at a b i h =
    let e : i ≡ length a + (i - length a) = omega arith in
    ap (λ (k : ℕ). get_or (a ++ b) k 0) e ∙ get_or-append-add a b (i - length a) 0

-- ## zeros

pub length-zeros : (n : ℕ) → length (zeros n) ≡ n
unfolding filled
length-zeros n = length-replicate {A = ℕ} n 0

pub zeros_at : (n i : ℕ) → get_or (zeros n) i 0 ≡ 0
unfolding filled
zeros_at zero i = refl
zeros_at (suc n) zero = refl
zeros_at (suc n) (suc i) = zeros_at n i

pub zeros_none : zeros 0 ≡ []
unfolding filled
zeros_none = refl

-- ## resize

module _ (n : ℕ) (xs : List ℕ) where
  pub length-resize : length (resize n xs) ≡ n
  unfolding resize
  length-resize = simp (length-take, length-append, length-zeros) (omega arith)

  pub resize_in : (i : ℕ) → i < n → get_or (resize n xs) i 0 ≡ get_or xs i 0
  unfolding resize
  resize_in i h = get_or-take n (xs ++ zeros n) i 0 h ∙ below i (length xs)
      (λ lo. get_or-append xs (zeros n) 0 i lo)
      (λ hi. append_at xs (zeros n) i hi ∙ zeros_at n _ ∙ sym (get_or-eq_default xs 0 hi))

  pub resize_out : (i : ℕ) → n ≤ i → get_or (resize n xs) i 0 ≡ 0
  resize_out i h = get_or-eq_default (resize n xs) 0 (omega (arith, length-resize))

-- two lists alike up to n
pub resize_alike : (n : ℕ) (a b : List ℕ) → ((i : ℕ) → i < n → get_or a i 0 ≡ get_or b i 0) → resize n a ≡ resize n b
resize_alike n a b h = ext_get_or 0 _ _ (length-resize n a ∙ sym (length-resize n b))
    (λ i k. let j : i < n = omega (arith, length-resize n a) in resize_in n a i j ∙ h i j ∙ sym (resize_in n b i j))

pub resize_same : (xs : List ℕ) → resize (length xs) xs ≡ xs
resize_same xs = ext_get_or 0 _ _ (length-resize (length xs) xs)
    (λ i k. resize_in (length xs) xs i (omega (arith, length-resize (length xs) xs)))

-- ## overwrite

module _ (at : ℕ) (new xs : List ℕ) where
  pub length-overwrite : length (overwrite at new xs) ≡ length xs
  unfolding overwrite
  length-overwrite = simp (length-append, length-take, length-drop) (omega arith)

  module _ (i : ℕ) where
    pub overwrite_lo : i < at → get_or (overwrite at new xs) i 0 ≡ get_or xs i 0
    unfolding overwrite
    overwrite_lo h = below i (length xs)
        (λ lo. get_or-append (take at xs) _ 0 i (simp length-take (omega arith)) ∙ get_or-take at xs i 0 h)
        (λ hi. get_or-eq_default (overwrite at new xs) 0 (omega (arith, length-overwrite)) ∙ sym (get_or-eq_default xs 0 hi))

    pub overwrite_in : at ≤ i → i < at + length new → i < length xs → get_or (overwrite at new xs) i 0 ≡ get_or new (i - at) 0
    unfolding overwrite
    overwrite_in h k l =
        let front : length (take at xs) ≡ at = length-take at xs ∙ omega arith in
        append_at (take at xs) _ i (omega arith)
        ∙ ap (λ (j : ℕ). get_or (take (length xs - at) new ++ drop (at + length new) xs) (i - j) 0) front
        ∙ get_or-append (take (length xs - at) new) _ 0 (i - at) (simp length-take (omega arith))
        ∙ get_or-take (length xs - at) new (i - at) 0 (omega arith)

    pub overwrite_hi : at + length new ≤ i → get_or (overwrite at new xs) i 0 ≡ get_or xs i 0
    unfolding overwrite
    overwrite_hi h = below i (length xs)
        (λ lo.
        let front : length (take at xs) ≡ at = length-take at xs ∙ omega arith in
        let mid : length (take (length xs - at) new) ≡ length new = length-take (length xs - at) new ∙ omega arith in
        append_at (take at xs) _ i (omega arith)
        ∙ ap (λ (j : ℕ). get_or (take (length xs - at) new ++ drop (at + length new) xs) (i - j) 0) front
        ∙ append_at (take (length xs - at) new) _ (i - at) (omega arith)
        ∙ ap (λ (j : ℕ). get_or (drop (at + length new) xs) (i - at - j) 0) mid
        ∙ get_or-drop (at + length new) xs (i - at - length new) 0
        ∙ ap (λ (j : ℕ). get_or xs j 0) (omega arith))
        (λ hi. get_or-eq_default (overwrite at new xs) 0 (omega (arith, length-overwrite)) ∙ sym (get_or-eq_default xs 0 hi))

-- nothing is written past the end
pub overwrite_out : {A : Type 0} (at : ℕ) (new xs : List A) → length xs ≤ at → overwrite at new xs ≡ xs
unfolding overwrite
overwrite_out at new xs h =
    let none : length xs - at ≡ 0 = omega arith in
    rw (take_all at xs h, none, drop_of_length-le xs {i = at + length new} (omega arith)) (append-nil xs)

pub overwrite_nil : (at : ℕ) (xs : List ℕ) → overwrite at [] xs ≡ xs
overwrite_nil at xs = ext_get_or 0 _ _ (length-overwrite at [] xs)
    (λ i k. below i at (λ lo. overwrite_lo at [] xs i lo) (λ hi. overwrite_hi at [] xs i (omega arith)))

-- one part behind the other
pub overwrite_join : (at : ℕ) (a b xs : List ℕ) → overwrite (at + length a) b (overwrite at a xs) ≡ overwrite at (a ++ b) xs
overwrite_join at a b xs = ext_get_or 0 _ _ (length-overwrite (at + length a) b (overwrite at a xs) ∙ length-overwrite at a xs ∙ sym (length-overwrite at (a ++ b) xs))
    (λ i k.
    let l : i < length xs = omega (arith, length-overwrite (at + length a) b (overwrite at a xs), length-overwrite at a xs) in
    let m : i < length (overwrite at a xs) = omega (arith, length-overwrite at a xs) in
    let n : length (a ++ b) ≡ length a + length b = length-append a b in
    below i at
    (λ lo. overwrite_lo (at + length a) b (overwrite at a xs) i (omega arith) ∙ overwrite_lo at a xs i lo ∙ sym (overwrite_lo at (a ++ b) xs i lo))
    (λ hi. below i (at + length a)
    (λ lo. overwrite_lo (at + length a) b (overwrite at a xs) i lo ∙ overwrite_in at a xs i hi lo l
    ∙ sym (get_or-append a b 0 (i - at) (omega arith)) ∙ sym (overwrite_in at (a ++ b) xs i hi (omega arith) l))
    (λ up. below i (at + length a + length b)
    (λ lo. overwrite_in (at + length a) b (overwrite at a xs) i up lo m
    ∙ ap (λ (j : ℕ). get_or b j 0) (omega arith) ∙ sym (append_at a b (i - at) (omega arith))
    ∙ sym (overwrite_in at (a ++ b) xs i hi (omega arith) l))
    (λ past. overwrite_hi (at + length a) b (overwrite at a xs) i past ∙ overwrite_hi at a xs i up
    ∙ sym (overwrite_hi at (a ++ b) xs i (omega arith))))))

-- a part that was lent and comes back
pub part_back : {A : Type 0} (at k : ℕ) (xs new : List A) → length new ≡ k → at + k ≤ length xs → put_mid at k xs new ≡ overwrite at new xs
unfolding overwrite
part_back at k xs new l h =
    let t : take (length xs - at) new ≡ new = take_all (length xs - at) new (omega arith) in
    rw (t, l, drop-drop k at xs)

-- what is past the end of xs is not written
pub overwrite_cut : {A : Type 0} (at n : ℕ) (new xs : List A) → length xs ≤ at + n → overwrite at (take n new) xs ≡ overwrite at new xs
unfolding overwrite
overwrite_cut at n new xs h = below n (length new)
    (λ lo.
    let l : length (take n new) ≡ n = length-take n new ∙ omega arith in
    rw (take-take (length xs - at) n new (omega arith), drop_of_length-le xs {i = at + length (take n new)} (omega arith), drop_of_length-le xs {i = at + length new} (omega arith)))
    (λ hi. ap (λ l. take at xs ++ (take (length xs - at) l ++ drop (at + length l) xs)) (take_all n new hi))

-- what fits of new, in a part that was lent and comes back
pub part_fitted : {A : Type 0} (at k n : ℕ) (new xs : List A) → k ≡ n → at ≤ length xs → n ≡ min (length new) (length xs - at) → put_mid at k xs (take n new) ≡ overwrite at new xs
part_fitted at k n new xs e h f =
    part_back at k xs (take n new) (length-take n new ∙ omega arith) (omega arith)
    ∙ below n (length new)
    (λ lo. overwrite_cut at n new xs (omega arith))
    (λ hi. ap (λ l. overwrite at l xs) (take_all n new hi))

-- all of xs
pub overwrite_all : (new xs : List ℕ) → length new ≡ length xs → overwrite 0 new xs ≡ new
overwrite_all new xs e = ext_get_or 0 _ _ (length-overwrite 0 new xs ∙ sym e)
    (λ i k.
    let l : i < length xs = omega (arith, length-overwrite 0 new xs) in
    overwrite_in 0 new xs i (omega arith) (omega arith) l ∙ ap (λ (j : ℕ). get_or new j 0) (omega arith))

-- over zeros, from the first on
pub overwrite_zeros : (n : ℕ) (new : List ℕ) → overwrite 0 new (zeros n) ≡ resize n new
overwrite_zeros n new = ext_get_or 0 _ _ (length-overwrite 0 new (zeros n) ∙ length-zeros n ∙ sym (length-resize n new))
    (λ i k.
    let l : i < n = omega (arith, length-overwrite 0 new (zeros n), length-zeros n) in
    let m : i < length (zeros n) = omega (arith, length-zeros n) in
    below i (length new)
    (λ lo. overwrite_in 0 new (zeros n) i (omega arith) (omega arith) m ∙ ap (λ (j : ℕ). get_or new j 0) (omega arith) ∙ sym (resize_in n new i l))
    (λ hi. overwrite_hi 0 new (zeros n) i (omega arith) ∙ zeros_at n i ∙ sym (resize_in n new i l ∙ get_or-eq_default new 0 hi)))

-- one element more of a fill
pub fill_more : {A : Type 0} (x : A) (n : ℕ) (xs : List A) → n < length xs → set (replicate n x ++ drop n xs) n x ≡ replicate (n + 1) x ++ drop (n + 1) xs
fill_more x n xs h =
    rw (drop_more xs n x h, set_at (replicate n x) (get_or xs n x) (drop (n + 1) xs) x n (length-replicate n x), ← replicate_more n x, append_assoc)

-- a fill that has come to the end
pub fill_end : {A : Type 0} (x : A) (n : ℕ) (xs : List A) → n ≡ length xs → replicate n x ++ drop n xs ≡ filled x (length xs)
unfolding filled
fill_end x n xs e = rw (e, drop-length xs, append-nil)

-- what fits of new, over the front of xs
pub overwrite_front : (n : ℕ) (new xs : List ℕ) → n ≡ min (length xs) (length new) → take n new ++ drop n xs ≡ overwrite 0 new xs
unfolding overwrite
overwrite_front n new xs e = below (length xs) (length new)
    (λ lo.
    let p : n ≡ length xs = omega arith in
    let q : length xs - 0 ≡ length xs = omega arith in
    rw (p, q, drop-length xs, drop_of_length-le xs {i = 0 + length new} (omega arith)))
    (λ hi.
    let p : n ≡ length new = omega arith in
    let q : 0 + length new ≡ length new = omega arith in
    rw (p, q, take_all (length xs - 0) new (omega arith), take_all (length new) new (omega arith)))

-- zeros as far as xs reaches
pub overwrite_few : (at k n : ℕ) (xs : List ℕ) → k ≡ min n (length xs - at) → overwrite at (zeros k) xs ≡ overwrite at (zeros n) xs
overwrite_few at k n xs e = ext_get_or 0 _ _ (length-overwrite at (zeros k) xs ∙ sym (length-overwrite at (zeros n) xs))
    (λ i h.
    let l : i < length xs = omega (arith, length-overwrite at (zeros k) xs) in
    let a : length (zeros k) ≡ k = length-zeros k in
    let b : length (zeros n) ≡ n = length-zeros n in
    below i at
    (λ lo. overwrite_lo at (zeros k) xs i lo ∙ sym (overwrite_lo at (zeros n) xs i lo))
    (λ hi. below i (at + n)
    (λ lo. overwrite_in at (zeros k) xs i hi (omega arith) l ∙ zeros_at k (i - at) ∙ sym (overwrite_in at (zeros n) xs i hi (omega arith) l ∙ zeros_at n (i - at)))
    (λ past. overwrite_hi at (zeros k) xs i (omega arith) ∙ sym (overwrite_hi at (zeros n) xs i (omega arith)))))

-- the end of a list, from a place that may lie past it
pub tail_is : (l : List ℕ) (at from : ℕ) → from ≡ min at (length l) → take (length l - from) (drop from l) ≡ drop at l
tail_is l at from e = take_all (length l - from) (drop from l) (simp length-drop (omega arith)) ∙ below at (length l)
    (λ lo. let p : from ≡ at = omega arith in ap (λ (k : ℕ). drop k l) p)
    (λ hi. drop_of_length-le l {i = from} (omega arith) ∙ sym (drop_of_length-le l hi))

-- all of xs, with zeros behind a list that is shorter
pub overwrite_long : (new xs : List ℕ) → length xs ≤ length new → overwrite 0 new xs ≡ resize (length xs) new
overwrite_long new xs h = ext_get_or 0 _ _ (length-overwrite 0 new xs ∙ sym (length-resize (length xs) new))
    (λ i k.
    let l : i < length xs = omega (arith, length-overwrite 0 new xs) in
    overwrite_in 0 new xs i (omega arith) (omega arith) l ∙ ap (λ (j : ℕ). get_or new j 0) {x = i - 0} {y = i} (omega arith) ∙ sym (resize_in (length xs) new i l))

pub overwrite_padded : (new xs : List ℕ) → length new ≤ length xs → overwrite (length new) (zeros (length xs - length new)) (overwrite 0 new xs) ≡ resize (length xs) new
overwrite_padded new xs h =
    let z : List ℕ = zeros (length xs - length new) in
    let n : length (new ++ z) ≡ length xs = length-append new z ∙ omega (arith, length-zeros (length xs - length new)) in
    let p : 0 + length new ≡ length new = omega arith in
    (rw p at (overwrite_join 0 new z xs)) ∙ overwrite_all (new ++ z) xs n
    ∙ ext_get_or 0 _ _ (n ∙ sym (length-resize (length xs) new))
    (λ i k.
    let l : i < length xs = omega (arith, n) in
    below i (length new)
    (λ lo. get_or-append new z 0 i lo ∙ sym (resize_in (length xs) new i l))
    (λ hi. append_at new z i hi ∙ zeros_at _ _ ∙ sym (resize_in (length xs) new i l ∙ get_or-eq_default new 0 hi)))

-- a list over the front, and zeros behind it up to the end or past it
pub overwrite_rest : (new xs : List ℕ) (n : ℕ) → length xs ≤ n → overwrite (length new) (zeros n) (overwrite 0 new xs) ≡ resize (length xs) new
overwrite_rest new xs n h = below (length new) (length xs)
    (λ lo. sym (overwrite_few (length new) (length xs - length new) n (overwrite 0 new xs) (omega (arith, length-overwrite 0 new xs))) ∙ overwrite_padded new xs (omega arith))
    (λ hi. overwrite_out (length new) (zeros n) (overwrite 0 new xs) (omega (arith, length-overwrite 0 new xs)) ∙ overwrite_long new xs hi)

-- a part that was lent to be overwritten
pub part_write : (at : ℕ) (new xs : List ℕ) → at ≤ length xs
    → put_mid at (length xs - at) xs (overwrite 0 new (take (length xs - at) (drop at xs))) ≡ overwrite at new xs
part_write at new xs h =
    let p : List ℕ = take (length xs - at) (drop at xs) in
    let n : length p ≡ length xs - at = length-take (length xs - at) (drop at xs) ∙ omega (arith, length-drop at xs) in
    let m : length (overwrite 0 new p) ≡ length xs - at = length-overwrite 0 new p ∙ n in
    part_back at (length xs - at) xs (overwrite 0 new p) m (omega arith) ∙
    ext_get_or 0 _ _ (length-overwrite at (overwrite 0 new p) xs ∙ sym (length-overwrite at new xs))
    (λ i k.
    let l : i < length xs = omega (arith, length-overwrite at (overwrite 0 new p) xs) in
    below i at
    (λ lo. overwrite_lo at (overwrite 0 new p) xs i lo ∙ sym (overwrite_lo at new xs i lo))
    (λ hi. overwrite_in at (overwrite 0 new p) xs i hi (omega arith) l ∙ below i (at + length new)
    (λ lo. overwrite_in 0 new p (i - at) (omega arith) (omega arith) (omega arith)
    ∙ ap (λ (j : ℕ). get_or new j 0) {x = i - at - 0} {y = i - at} (omega arith) ∙ sym (overwrite_in at new xs i hi lo l))
    (λ past. overwrite_hi 0 new p (i - at) (omega arith)
    ∙ get_or-take (length xs - at) (drop at xs) (i - at) 0 (omega arith) ∙ get_or-drop at xs (i - at) 0
    ∙ ap (λ (j : ℕ). get_or xs j 0) {x = at + (i - at)} {y = i} (omega arith) ∙ sym (overwrite_hi at new xs i past))))

pub length_part : (at k : ℕ) (xs : List ℕ) → at + k ≤ length xs → length (take k (drop at xs)) ≡ k
length_part at k xs h = length-take k (drop at xs) ∙ omega (arith, length-drop at xs)

-- a part that was lent to be filled
pub part_filled : (at k : ℕ) (xs : List ℕ) → at + k ≤ length xs → put_mid at k xs (zeros (length (take k (drop at xs)))) ≡ overwrite at (zeros k) xs
part_filled at k xs h = rw (length_part at k xs h) (part_back at k xs (zeros k) (length-zeros k) h)

-- the next part of src copied behind what was copied of it
pub part_copied : (at k : ℕ) (src xs : List ℕ) → at + k ≤ length src → at + k ≤ length xs
    → put_mid at k (overwrite 0 (take at src) xs) (overwrite 0 (take k (drop at src)) (take k (drop at (overwrite 0 (take at src) xs)))) ≡ overwrite 0 (take (at + k) src) xs
part_copied at k src xs h l =
    let d : List ℕ = overwrite 0 (take at src) xs in
    let p : List ℕ = take k (drop at src) in
    let lp : length p ≡ k = length_part at k src h in
    let ld : at + k ≤ length d = omega (arith, length-overwrite 0 (take at src) xs) in
    let lt : 0 + length (take at src) ≡ at = omega (arith, length-take at src) in
    (rw (overwrite_all p (take k (drop at d)) (lp ∙ sym (length_part at k d ld))) (part_back at k d p lp ld))
    ∙ (rw lt at (overwrite_join 0 (take at src) p xs))
    ∙ ap (λ (y : List ℕ). overwrite 0 y xs) (sym (take-add at k src))

-- a list copied over the front of xs, and the rest of xs lent to be filled
pub part_padded : (new xs : List ℕ) → length new ≤ length xs
    → put_mid (length new) (length xs - length new) (overwrite 0 new xs) (zeros (length (take (length xs - length new) (drop (length new) (overwrite 0 new xs))))) ≡ resize (length xs) new
part_padded new xs h =
    part_filled (length new) (length xs - length new) (overwrite 0 new xs) (omega (arith, length-overwrite 0 new xs)) ∙ overwrite_padded new xs h

-- a part in the middle of a list that was brought to a length
pub resize_patch : (n at : ℕ) (a old new r : List ℕ) → length a ≡ at → length new ≡ length old → overwrite at new (resize n (a ++ (old ++ r))) ≡ resize n (a ++ (new ++ r))
resize_patch n at a old new r e f = ext_get_or 0 _ _ (length-overwrite at new (resize n (a ++ (old ++ r))) ∙ length-resize n (a ++ (old ++ r)) ∙ sym (length-resize n (a ++ (new ++ r))))
    (λ i h.
    let j : i < n = omega (arith, length-overwrite at new (resize n (a ++ (old ++ r))), length-resize n (a ++ (old ++ r))) in
    let l : i < length (resize n (a ++ (old ++ r))) = omega (arith, length-resize n (a ++ (old ++ r))) in
    let was : get_or (resize n (a ++ (old ++ r))) i 0 ≡ get_or (a ++ (old ++ r)) i 0 = resize_in n (a ++ (old ++ r)) i j in
    let is : get_or (resize n (a ++ (new ++ r))) i 0 ≡ get_or (a ++ (new ++ r)) i 0 = resize_in n (a ++ (new ++ r)) i j in
    below i at
    (λ lo. overwrite_lo at new (resize n (a ++ (old ++ r))) i lo ∙ was ∙ get_or-append a (old ++ r) 0 i (omega arith)
    ∙ sym (is ∙ get_or-append a (new ++ r) 0 i (omega arith)))
    (λ hi. below i (at + length new)
    (λ lo. overwrite_in at new (resize n (a ++ (old ++ r))) i hi lo l
    ∙ sym (is ∙ append_at a (new ++ r) i (omega arith) ∙ get_or-append new r 0 (i - length a) (omega arith) ∙ ap (λ (k : ℕ). get_or new (i - k) 0) e))
    (λ past. overwrite_hi at new (resize n (a ++ (old ++ r))) i past ∙ was ∙ append_at a (old ++ r) i (omega arith) ∙ append_at old r (i - length a) (omega arith)
    ∙ sym (is ∙ append_at a (new ++ r) i (omega arith) ∙ append_at new r (i - length a) (omega arith) ∙ ap (λ (k : ℕ). get_or r (i - length a - k) 0) f))))

-- a part in the middle, and what is around it
pub overwrite_mid : (at : ℕ) (new xs : List ℕ) → at + length new ≤ length xs → overwrite at new xs ≡ take at xs ++ (new ++ drop (at + length new) xs)
unfolding overwrite
overwrite_mid at new xs h = rw (take_all (length xs - at) new (omega arith))

-- a part from the front of a list, from a place on
pub drop-take : (a n : ℕ) (l : List ℕ) → drop a (take n l) ≡ take (n - a) (drop a l)
drop-take zero n l = rw (sub-zero n)
drop-take (suc a) zero l = rw (zero-sub (suc a))
drop-take (suc a) (suc n) [] = sym (take-nil (suc n - suc a))
drop-take (suc a) (suc n) (x ∷ l) = rw (suc-sub-suc n a) (drop-take a n l)

-- what was written over the front is there
pub take-overwrite : (new xs : List ℕ) → length new ≤ length xs → take (length new) (overwrite 0 new xs) ≡ new
take-overwrite new xs h =
    let l : length (take (length new) (overwrite 0 new xs)) ≡ length new = length-take (length new) (overwrite 0 new xs) ∙ omega (arith, length-overwrite 0 new xs) in
    ext_get_or 0 _ _ l (λ i k.
    let j : i < length new = omega arith in
    get_or-take (length new) (overwrite 0 new xs) i 0 j ∙ overwrite_in 0 new xs i (omega arith) (omega arith) (omega arith) ∙ ap (λ (n : ℕ). get_or new n 0) {x = i - 0} {y = i} (omega arith))

pub take-resize : (n : ℕ) (xs : List ℕ) → length xs ≤ n → take (length xs) (resize n xs) ≡ xs
unfolding resize
take-resize n xs h = take-take (length xs) n (xs ++ zeros n) h ∙ take-append_seam xs (zeros n)

-- a part from the front, overwritten
pub overwrite-take : (at n : ℕ) (new xs : List ℕ) → at + length new ≤ n → overwrite at new (take n xs) ≡ take n (overwrite at new xs)
overwrite-take at n new xs h =
    let m : length (take n xs) ≡ min n (length xs) = length-take n xs in
    let o : length (overwrite at new (take n xs)) ≡ min n (length xs) = length-overwrite at new (take n xs) ∙ m in
    ext_get_or 0 _ _ (o ∙ sym (length-take n (overwrite at new xs) ∙ ap (min n) (length-overwrite at new xs)))
    (λ i k.
    let j : i < n = omega arith in
    let l : i < length xs = omega arith in
    let t : i < length (take n xs) = omega arith in
    below i at
    (λ lo. overwrite_lo at new (take n xs) i lo ∙ get_or-take n xs i 0 j ∙ sym (get_or-take n (overwrite at new xs) i 0 j ∙ overwrite_lo at new xs i lo))
    (λ hi. below i (at + length new)
    (λ lo. overwrite_in at new (take n xs) i hi lo t ∙ sym (get_or-take n (overwrite at new xs) i 0 j ∙ overwrite_in at new xs i hi lo l))
    (λ past. overwrite_hi at new (take n xs) i past ∙ get_or-take n xs i 0 j ∙ sym (get_or-take n (overwrite at new xs) i 0 j ∙ overwrite_hi at new xs i past))))

-- one element stored
pub set_overwrite : (i : ℕ) (x : ℕ) (l : List ℕ) → i < length l → set l i x ≡ overwrite i (x ∷ []) l
unfolding overwrite
set_overwrite i x l h =
    let t : take (length l - i) (x ∷ []) ≡ x ∷ [] = take_all (length l - i) (x ∷ []) (omega arith) in
    rw (t, add-one i) (set_split l i x h)

-- one element more
pub overwrite_more : (src l : List ℕ) (i : ℕ) → i < length src → i < length l → set (overwrite 0 (take i src) l) i (get_or src i 0) ≡ overwrite 0 (take (i + 1) src) l
overwrite_more src l i h k =
    let n : 0 + length (take i src) ≡ i = omega (arith, length-take i src) in
    let e : take (i + 1) src ≡ take i src ++ (get_or src i 0 ∷ []) = rw (add-one i) (take-suc src i 0 h) in
    set_overwrite i (get_or src i 0) (overwrite 0 (take i src) l) (omega (arith, length-overwrite 0 (take i src) l))
    ∙ rw e (rw n at (overwrite_join 0 (take i src) (get_or src i 0 ∷ []) l))
