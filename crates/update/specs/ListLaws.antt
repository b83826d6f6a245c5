-- Laws of the lists of an update, by length and by element.
use Rattle.std.specs.Prelude.{◌≡◌, refl, ℕ, zero, suc, ◌+◌, ◌-◌, ◌≤◌, ◌<◌, max, Bool, true, false, cond, List, [], ◌∷◌, ◌++◌, ltb, leb, eqb, length, take, drop, set}
use Rattle.std.proofs.Common.{sym, ap, ◌∙◌, arith, true≢false, append_assoc, append-nil, length-append, length-take, length-drop, length-set, take-append-drop, drop_of_length-le, get_or-take, get_or-drop, ext_get_or, length-take-le, take_at, drop-drop, get_or-set_same, get_or-set_other, ltb-true, ltb-false, leb-true, leb-false, eqb-true, lt-ltb, le-ltb, le-leb}
use Rattle.std.proofs.Math.ListN.{get_or, get_or-eq_default, get_or-append}
use Rattle.std.proofs.Math.Seq.{get_or-append_seam, take-append_seam}
use borrow.Rule.Slice.PartMut.{put_mid}
use Rattle.std.proofs.lemmas.Bool.{eqb-false, lt-leb}
use Rattle.memory.specs.Bytes.{zeros, resize, overwrite}
use Rattle.memory.specs.Laws.{split, append_at, length-zeros, zeros_at, length-resize, resize_in, below, zeros_none, length-overwrite, overwrite_lo, overwrite_in, overwrite_hi, overwrite_mid, overwrite_join, part_back, part_filled, tail_is, overwrite_long}
use Rattle.update.specs.Lists.{put, refill, tabulate, tabulate_from, inside}

pub clash {ℓ} : {X : Type ℓ} {b : Bool} → b ≡ true → b ≡ false → X
clash p q = absurd (true≢false (sym p ∙ q))

-- what a test tells, for omega
pub ruleset tests = (ltb-true, ltb-false, leb-true, leb-false, eqb-true, eqb-false)

-- a conditional on a test, by what is known of the numbers
module _ {A : Type 0} where
  pub if_lt : (a b : ℕ) (x y : A) → a < b → cond (ltb a b) x y ≡ x
  if_lt a b x y h = rw (lt-ltb a b h)

  pub if_ge : (a b : ℕ) (x y : A) → b ≤ a → cond (ltb a b) x y ≡ y
  if_ge a b x y h = rw (le-ltb a b h)

pub inside_yes : (a e x : ℕ) → a ≤ x → x < e → inside a e x ≡ true
inside_yes a e x h k = rw (le-leb a x h, lt-ltb x e k)

pub inside_lo : (a e x : ℕ) → x < a → inside a e x ≡ false
inside_lo a e x h = rw (lt-leb a x h)

pub inside_hi : (a e x : ℕ) → e ≤ x → inside a e x ≡ false
inside_hi a e x h = split (leb a x) (λ t. rw (t, le-ltb x e h)) (λ f. rw f)

-- ## put

pub length-put : (l : List ℕ) (o : ℕ) (bs : List ℕ) → length (put l o bs) ≡ max (length l) (o + length bs)
unfolding put
length-put l o bs = simp (length-append, length-drop, length-resize) (omega arith)

module _ (l : List ℕ) (o : ℕ) (bs : List ℕ) (i : ℕ) where
  front : length (resize o l ++ bs) ≡ o + length bs
  front = simp (length-append, length-resize)

  pub put_lo : i < o → get_or (put l o bs) i 0 ≡ get_or l i 0
  unfolding put
  put_lo h =
      get_or-append (resize o l ++ bs) _ 0 i (omega (arith, front))
      ∙ get_or-append (resize o l) bs 0 i (omega (arith, length-resize o l))
      ∙ resize_in o l i h

  pub put_in : o ≤ i → i < o + length bs → get_or (put l o bs) i 0 ≡ get_or bs (i - o) 0
  unfolding put
  put_in h k =
      get_or-append (resize o l ++ bs) _ 0 i (omega (arith, front))
      ∙ append_at (resize o l) bs i (omega (arith, length-resize o l))
      ∙ rw length-resize

  pub put_hi : o + length bs ≤ i → get_or (put l o bs) i 0 ≡ get_or l i 0
  unfolding put
  put_hi h =
      append_at (resize o l ++ bs) _ i (omega (arith, front))
      ∙ rw (front, get_or-drop) (ap (λ (k : ℕ). get_or l k 0) (omega arith))

-- ## tabulate

pub tabulate_from-at : (k n : ℕ) (f : ℕ → ℕ) (i : ℕ) → i < n → get_or (tabulate_from k n f) i 0 ≡ f (k + i)
tabulate_from-at k zero f i h = absurd (omega arith)
tabulate_from-at k (suc n) f zero h = ap f (omega arith)
tabulate_from-at k (suc n) f (suc i) h = tabulate_from-at (suc k) n f i (omega arith) ∙ ap f (omega arith)

pub length-tabulate_from : (k n : ℕ) (f : ℕ → ℕ) → length (tabulate_from k n f) ≡ n
length-tabulate_from k zero f = refl
length-tabulate_from k (suc n) f = ap suc (length-tabulate_from (suc k) n f)

pub length-tabulate : (n : ℕ) (f : ℕ → ℕ) → length (tabulate n f) ≡ n
unfolding tabulate
length-tabulate n f = length-tabulate_from 0 n f

pub tabulate_at : (n : ℕ) (f : ℕ → ℕ) (i : ℕ) → i < n → get_or (tabulate n f) i 0 ≡ f i
unfolding tabulate
tabulate_at n f i h = tabulate_from-at 0 n f i h ∙ ap f (omega arith)

pub tabulate_from-alike : (k n : ℕ) (f g : ℕ → ℕ) → ((i : ℕ) → k ≤ i → i < k + n → f i ≡ g i) → tabulate_from k n f ≡ tabulate_from k n g
tabulate_from-alike k zero f g h = refl
tabulate_from-alike k (suc n) f g h = λ j. h k (omega arith) (omega arith) j ∷ tabulate_from-alike (suc k) n f g (λ i lo hi. h i (omega arith) (omega arith)) j

pub tabulate_alike : (n : ℕ) (f g : ℕ → ℕ) → ((i : ℕ) → i < n → f i ≡ g i) → tabulate n f ≡ tabulate n g
tabulate_alike n f g h = ext_get_or 0 _ _ (length-tabulate n f ∙ sym (length-tabulate n g))
    (λ i k. let j : i < n = omega (arith, length-tabulate n f) in tabulate_at n f i j ∙ h i j ∙ sym (tabulate_at n g i j))

pub tabulate_own : (n : ℕ) (l : List ℕ) → length l ≡ n → tabulate n (λ j. get_or l j 0) ≡ l
tabulate_own n l e = ext_get_or 0 _ _ (length-tabulate n (λ j. get_or l j 0) ∙ sym e)
    (λ i k. tabulate_at n (λ j. get_or l j 0) i (omega (arith, length-tabulate n (λ j. get_or l j 0))))

-- what stands at the offsets from o on, in a list from a place on
pub part_of : (o n from : ℕ) (l : List ℕ) (f : ℕ → ℕ) → from + n ≤ length l → ((j : ℕ) → j < n → f (o + j) ≡ get_or l (from + j) 0) → tabulate_from o n f ≡ take n (drop from l)
part_of o n from l f h e =
    let m : length (take n (drop from l)) ≡ n = length-take-le n (drop from l) (omega (arith, length-drop from l)) in
    ext_get_or 0 _ _ (length-tabulate_from o n f ∙ sym m)
    (λ j k.
    let u : j < n = omega (arith, length-tabulate_from o n f) in
    tabulate_from-at o n f j u ∙ e j u ∙ sym (get_or-take n (drop from l) j 0 u ∙ get_or-drop from l j 0))

pub none_of : (o n : ℕ) (f : ℕ → ℕ) → ((j : ℕ) → j < n → f (o + j) ≡ 0) → tabulate_from o n f ≡ zeros n
none_of o n f e = ext_get_or 0 _ _ (length-tabulate_from o n f ∙ sym (length-zeros n))
    (λ j k.
    let u : j < n = omega (arith, length-tabulate_from o n f) in
    tabulate_from-at o n f j u ∙ e j u ∙ sym (zeros_at n j))

-- ## lists whose first places are these

pub empty : (d : List ℕ) → length d ≡ 0 → d ≡ []
empty [] e = refl
empty (x ∷ d) e = absurd (omega arith)

pub resize_seam : (xs t : List ℕ) → resize (length xs) (xs ++ t) ≡ xs
resize_seam xs t = ext_get_or 0 _ _ (length-resize (length xs) (xs ++ t))
    (λ i h. let j : i < length xs = omega (arith, length-resize (length xs) (xs ++ t)) in
    resize_in (length xs) (xs ++ t) i j ∙ get_or-append xs t 0 i j)

pub take-alike : (n : ℕ) (a b : List ℕ) → n ≤ length a → n ≤ length b → ((i : ℕ) → i < n → get_or a i 0 ≡ get_or b i 0) → take n a ≡ take n b
take-alike n a b p q h = ext_get_or 0 _ _ (length-take n a ∙ omega arith ∙ sym (length-take n b))
    (λ i k. let j : i < n = omega (arith, length-take n a) in get_or-take n a i 0 j ∙ h i j ∙ sym (get_or-take n b i 0 j))

pub resize-take : (n : ℕ) (l : List ℕ) → n ≤ length l → resize n l ≡ take n l
resize-take n l h = ext_get_or 0 _ _ (length-resize n l ∙ sym (length-take-le n l h))
    (λ i k. let j : i < n = omega (arith, length-resize n l) in resize_in n l i j ∙ sym (get_or-take n l i 0 j))

-- ## overwrite

pub drop-overwrite : (at k : ℕ) (new xs : List ℕ) → at + length new ≤ k → drop k (overwrite at new xs) ≡ drop k xs
drop-overwrite at k new xs h = ext_get_or 0 _ _ (length-drop k (overwrite at new xs) ∙ ap (λ (n : ℕ). n - k) (length-overwrite at new xs) ∙ sym (length-drop k xs))
    (λ i j. get_or-drop k (overwrite at new xs) i 0 ∙ overwrite_hi at new xs (k + i) (omega arith) ∙ sym (get_or-drop k xs i 0))

-- the front of a list as far as what was written
pub take_past : (at : ℕ) (new xs : List ℕ) → at + length new ≤ length xs → take (at + length new) (overwrite at new xs) ≡ take at xs ++ new
take_past at new xs h =
    let n : length (take at xs ++ new) ≡ at + length new = length-append (take at xs) new ∙ omega (arith, length-take at xs) in
    rw (overwrite_mid at new xs h, ← append_assoc (take at xs) new (drop (at + length new) xs)) (take_at (take at xs ++ new) _ (at + length new) n)

-- what stands there already
overwrite_kept : (at : ℕ) (new l : List ℕ) → ((j : ℕ) → j < length new → at + j < length l → get_or new j 0 ≡ get_or l (at + j) 0) → overwrite at new l ≡ l
overwrite_kept at new l e = ext_get_or 0 _ _ (length-overwrite at new l)
    (λ i k.
    let m : i < length l = omega (arith, length-overwrite at new l) in
    below i at
    (λ lo. overwrite_lo at new l i lo)
    (λ hi. below i (at + length new)
    (λ lo. overwrite_in at new l i hi lo m ∙ e (i - at) (omega arith) (omega arith) ∙ ap (λ (j : ℕ). get_or l j 0) (omega arith))
    (λ past. overwrite_hi at new l i past)))

pub overwrite_own : (at n : ℕ) (l : List ℕ) → overwrite at (tabulate n (λ j. get_or l (at + j) 0)) l ≡ l
overwrite_own at n l = overwrite_kept at _ l (λ j h m. tabulate_at n (λ j. get_or l (at + j) 0) j (omega (arith, length-tabulate n (λ j. get_or l (at + j) 0))))

-- a part over itself
pub overwrite_self : (at k : ℕ) (l : List ℕ) → overwrite at (take k (drop at l)) l ≡ l
overwrite_self at k l = overwrite_kept at _ l (λ j h m. get_or-take k (drop at l) j 0 (omega (arith, length-take k (drop at l))) ∙ get_or-drop at l j 0)

-- a page laid at a place, and then a part of it
pub overwrite_page : (P at k : ℕ) (new l : List ℕ) (f g : ℕ → ℕ) → k + length new ≤ P → at + P ≤ length l
    → ((j : ℕ) → j < P → f j ≡ cond (inside k (k + length new) j) (get_or new (j - k) 0) (g j))
    → overwrite (at + k) new (overwrite at (tabulate P g) l) ≡ overwrite at (tabulate P f) l
overwrite_page P at k new l f g h r e =
    let was : List ℕ = overwrite at (tabulate P g) l in
    let n : length was ≡ length l = length-overwrite at (tabulate P g) l in
    let lf : length (tabulate P f) ≡ P = length-tabulate P f in
    let lg : length (tabulate P g) ≡ P = length-tabulate P g in
    ext_get_or 0 _ _ (length-overwrite (at + k) new was ∙ n ∙ sym (length-overwrite at (tabulate P f) l))
    (λ i q.
    let m : i < length l = omega (arith, length-overwrite (at + k) new was) in
    below i at
    (λ lo. overwrite_lo (at + k) new was i (omega arith) ∙ overwrite_lo at (tabulate P g) l i lo ∙ sym (overwrite_lo at (tabulate P f) l i lo))
    (λ hi. below i (at + P)
    (λ near.
    let is : get_or (overwrite at (tabulate P f) l) i 0 ≡ cond (inside k (k + length new) (i - at)) (get_or new (i - at - k) 0) (g (i - at)) =
    overwrite_in at (tabulate P f) l i hi (omega arith) m ∙ tabulate_at P f (i - at) (omega arith) ∙ e (i - at) (omega arith) in
    let old : get_or was i 0 ≡ g (i - at) = overwrite_in at (tabulate P g) l i hi (omega arith) m ∙ tabulate_at P g (i - at) (omega arith) in
    below i (at + k)
    (λ lo. overwrite_lo (at + k) new was i lo ∙ old ∙ sym (is ∙ rw (inside_lo k (k + length new) (i - at) (omega arith))))
    (λ up. below i (at + k + length new)
    (λ lo. overwrite_in (at + k) new was i up lo (omega arith) ∙ ap (λ (j : ℕ). get_or new j 0) {x = i - (at + k)} {y = i - at - k} (omega arith) ∙ sym (is ∙ rw (inside_yes k (k + length new) (i - at) (omega arith) (omega arith))))
    (λ past. overwrite_hi (at + k) new was i past ∙ old ∙ sym (is ∙ rw (inside_hi k (k + length new) (i - at) (omega arith))))))
    (λ past. overwrite_hi (at + k) new was i (omega arith) ∙ overwrite_hi at (tabulate P g) l i (omega arith) ∙ sym (overwrite_hi at (tabulate P f) l i (omega arith)))))

-- ## parts that are lent

-- a part copied over all of a slice
pub copied : (from : ℕ) (l d : List ℕ) → from + length d ≤ length l → overwrite 0 (take (length l - from) (drop from l)) d ≡ take (length d) (drop from l)
copied from l d h = rw (tail_is l from from (omega arith))
    (overwrite_long (drop from l) d (omega (arith, length-drop from l)) ∙ resize-take (length d) (drop from l) (omega (arith, length-drop from l)))

-- a part that was lent and comes back, behind what is in front of it
pub part_front : (at k : ℕ) (xs new : List ℕ) → length new ≡ k → at + k ≤ length xs → take (at + k) (put_mid at k xs new) ≡ take at xs ++ new
part_front at k xs new e h = ap (take (at + k)) (part_back at k xs new e h) ∙ rw e at (take_past at new xs (omega arith))

-- a front that comes back, and the rest lent to be filled
pub part_tail : (n : ℕ) (new d z : List ℕ) → length new ≡ n → n ≤ length d → z ≡ zeros (length (take (length (new ++ drop n d) - n) (drop n (new ++ drop n d))))
    → put_mid n (length (new ++ drop n d) - n) (new ++ drop n d) z ≡ new ++ zeros (length d - n)
part_tail n new d z e h f =
    let xs : List ℕ = new ++ drop n d in
    let m : length xs ≡ length d = length-append new (drop n d) ∙ omega (arith, length-drop n d) in
    let k : ℕ = length xs - n in
    let kz : length (zeros k) ≡ k = length-zeros k in
    let front : take n xs ≡ new = ap (λ (x : ℕ). take x xs) (sym e) ∙ take-append_seam new (drop n d) in
    let past : drop (n + length (zeros k)) xs ≡ [] = drop_of_length-le xs {i = n + length (zeros k)} (omega arith) in
    let j : k ≡ length d - n = omega arith in
    ap (put_mid n k xs) f ∙ part_filled n k xs (omega arith) ∙ overwrite_mid n (zeros k) xs (omega arith)
    ∙ rw (front, past, append-nil (zeros k)) (ap (λ (x : ℕ). new ++ zeros x) j)

-- ## refill

pub refill-length : (n : ℕ) (xs w : List ℕ) → length xs ≤ length (refill n xs w)
unfolding refill
refill-length n xs w = simp length-append (omega arith)

pub length_refill : (n : ℕ) (xs w : List ℕ) → length (refill n xs w) ≡ max (max n (length xs)) (length w)
unfolding refill
length_refill n xs w = simp (length-append, length-drop, length-zeros) (omega arith)

pub refill_in : (n : ℕ) (xs w : List ℕ) (i : ℕ) → i < length xs → get_or (refill n xs w) i 0 ≡ get_or xs i 0
unfolding refill
refill_in n xs w i h = get_or-append xs _ 0 i h

-- a slice that is long enough keeps its length
pub refill_keeps : (n : ℕ) (xs w : List ℕ) → n ≤ length w → length xs ≤ length w → length (refill n xs w) ≡ length w
unfolding refill
refill_keeps n xs w h k = simp (length-append, length-drop, length-zeros) (omega arith)

-- places that were in use and are left over are zeros
pub refill_freed : (n : ℕ) (xs w : List ℕ) (i : ℕ) → length xs ≤ i → i < n → get_or (refill n xs w) i 0 ≡ 0
unfolding refill
refill_freed n xs w i h k =
    append_at xs _ i h
    ∙ get_or-append (zeros (n - length xs)) _ 0 (i - length xs) (omega (arith, length-zeros (n - length xs)))
    ∙ zeros_at (n - length xs) (i - length xs)

-- places that were never in use stay
pub refill_past : (n : ℕ) (xs w : List ℕ) (i : ℕ) → length xs ≤ i → n ≤ i → get_or (refill n xs w) i 0 ≡ get_or w i 0
unfolding refill
refill_past n xs w i h k =
    append_at xs _ i h
    ∙ append_at (zeros (n - length xs)) _ (i - length xs) (omega (arith, length-zeros (n - length xs)))
    ∙ get_or-drop (max n (length xs)) w _ 0
    ∙ ap (λ (j : ℕ). get_or w j 0) (omega (arith, length-zeros (n - length xs)))

-- a list in place of as many elements or fewer
pub refill_over : (k : ℕ) (xs old : List ℕ) → k ≤ length xs → refill k xs old ≡ xs ++ drop (length xs) old
unfolding refill
refill_over k xs old h =
    let a : k - length xs ≡ 0 = omega arith in
    let b : max k (length xs) ≡ length xs = omega arith in
    rw (a, b, zeros_none)

-- what was in use, put back
pub refill_same : (k : ℕ) (l : List ℕ) → k ≤ length l → refill k (take k l) l ≡ l
refill_same k l h =
    let n : length (take k l) ≡ k = length-take-le k l h in
    refill_over k (take k l) l (omega arith) ∙ ap (λ (m : ℕ). take k l ++ drop m l) n ∙ take-append-drop k l

-- a part laid behind what was in use
pub refill_more : (k : ℕ) (bs l : List ℕ) → k + length bs ≤ length l → refill k (take k l ++ bs) l ≡ overwrite k bs l
refill_more k bs l h =
    let n : length (take k l ++ bs) ≡ k + length bs = length-append (take k l) bs ∙ omega (arith, length-take k l) in
    refill_over k (take k l ++ bs) l (omega arith) ∙ ap (λ (m : ℕ). (take k l ++ bs) ++ drop m l) n ∙ append_assoc (take k l) bs _ ∙ sym (overwrite_mid k bs l h)

-- bytes laid over a part of what was in use
pub refill_part : (k at : ℕ) (bs l : List ℕ) → k ≤ length l → at + length bs ≤ k
    → refill k (take at l ++ (bs ++ take (k - (at + length bs)) (drop (at + length bs) l))) l ≡ overwrite at bs l
unfolding refill
refill_part k at bs l h j =
    let e : ℕ = at + length bs in
    let r : List ℕ = drop e l in
    let a : length (bs ++ take (k - e) r) ≡ length bs + (k - e) = length-append bs (take (k - e) r) ∙ omega (arith, length-take (k - e) r, length-drop e l) in
    let n : length (take at l ++ (bs ++ take (k - e) r)) ≡ k = length-append (take at l) (bs ++ take (k - e) r) ∙ omega (arith, length-take at l) in
    let z : k - k ≡ 0 = omega arith in
    let m : max k k ≡ k = omega arith in
    let d : drop k l ≡ drop (k - e) r = sym (drop-drop (k - e) e l ∙ ap (λ (x : ℕ). drop x l) {x = e + (k - e)} {y = k} (omega arith)) in
    rw (n, z, m, zeros_none, d) (append_assoc (take at l) (bs ++ take (k - e) r) (drop (k - e) r)
    ∙ ap (λ (x : List ℕ). take at l ++ x) (append_assoc bs (take (k - e) r) (drop (k - e) r) ∙ ap (λ (x : List ℕ). bs ++ x) (take-append-drop (k - e) r))
    ∙ sym (overwrite_mid at bs l (omega arith)))

-- two parts from the front on
pub refill_two : (k m : ℕ) (a bs l : List ℕ) → length a ≡ m → k ≡ m + length bs → k ≤ length l → refill k (a ++ bs) l ≡ overwrite m bs (overwrite 0 a l)
refill_two k m a bs l e f h =
    let n : length (a ++ bs) ≡ k = length-append a bs ∙ omega arith in
    let z : 0 + length a ≡ m = omega arith in
    let y : 0 + length (a ++ bs) ≡ length (a ++ bs) = omega arith in
    refill_over k (a ++ bs) l (omega arith)
    ∙ sym (rw z at (overwrite_join 0 a bs l) ∙ overwrite_mid 0 (a ++ bs) l (omega arith) ∙ ap (λ (j : ℕ). (a ++ bs) ++ drop j l) y)

-- one number more in a list with zeros behind
pub resize_push : (n : ℕ) (xs : List ℕ) (x : ℕ) → length xs < n → set (resize n xs) (length xs) x ≡ resize n (xs ++ x ∷ [])
resize_push n xs x h = ext_get_or 0 _ _ (length-set (resize n xs) (length xs) x ∙ length-resize n xs ∙ sym (length-resize n (xs ++ x ∷ [])))
    (λ i k.
    let j : i < n = omega (arith, length-set (resize n xs) (length xs) x, length-resize n xs) in
    split (eqb i (length xs))
    (λ t. rw (eqb-true i (length xs) t) (get_or-set_same (resize n xs) (length xs) x 0 (omega (arith, length-resize n xs))
    ∙ sym (resize_in n (xs ++ x ∷ []) (length xs) h ∙ get_or-append_seam xs x [] 0)))
    (λ f. get_or-set_other (resize n xs) (length xs) i x 0 (eqb-false i (length xs) f) ∙ resize_in n xs i j
    ∙ sym (resize_in n (xs ++ x ∷ []) i j ∙ below i (length xs)
    (λ lo. get_or-append xs (x ∷ []) 0 i lo)
    (λ hi. let up : length xs < i = omega (arith, tests) in
    get_or-eq_default (xs ++ x ∷ []) 0 (omega (arith, length-append xs (x ∷ []))) ∙ sym (get_or-eq_default xs 0 hi)))))

-- a list in place of a longer one with zeros behind
pub refill_fewer : (n k : ℕ) (xs ys : List ℕ) → length ys ≡ k → k ≤ n → length xs ≤ k → refill k xs (resize n ys) ≡ resize n xs
unfolding refill
refill_fewer n k xs ys e h few =
    let a : length (refill k xs (resize n ys)) ≡ n = refill_keeps k xs (resize n ys) (omega (arith, length-resize n ys)) (omega (arith, length-resize n ys)) ∙ length-resize n ys in
    ext_get_or 0 _ _ (a ∙ sym (length-resize n xs))
    (λ i j.
    let u : i < n = omega (arith, a) in
    below i (length xs)
    (λ lo. get_or-append xs _ 0 i lo ∙ sym (resize_in n xs i u))
    (λ hi. below i k (λ lo. refill_freed k xs (resize n ys) i hi lo)
    (λ past. refill_past k xs (resize n ys) i hi past ∙ resize_in n ys i u ∙ get_or-eq_default ys 0 (omega arith))
    ∙ sym (resize_in n xs i u ∙ get_or-eq_default xs 0 hi)))

-- a slice whose first k places hold xs, and zeros from there up to n
pub zeros_refill : (k n : ℕ) (xs old now : List ℕ) → k ≤ n → n ≤ length now → take k now ≡ xs → drop n now ≡ drop n old
    → overwrite k (zeros (n - k)) now ≡ refill n xs old
unfolding refill
zeros_refill k n xs old now h f t d =
    let z : length (zeros (n - k)) ≡ n - k = length-zeros (n - k) in
    let l : length xs ≡ k = ap length (sym t) ∙ length-take k now ∙ omega arith in
    let m : max n k ≡ n = omega arith in
    let e : k + (n - k) ≡ n = omega arith in
    overwrite_mid k (zeros (n - k)) now (omega arith) ∙ rw (z, e, t, d, l, m)

max_up : (n k a c : ℕ) → n ≤ k → max (max n a) (max k c) ≡ max (max k a) c
max_up n k a c h = omega arith

max_down : (n k b a c : ℕ) → k ≤ n → b ≤ n → max (max n a) (max (max k b) c) ≡ max (max n a) c
max_down n k b a c h j = omega arith

max_more : (k n a b c : ℕ) → b ≤ n → max (max n a) (max (max k b) c) ≡ max (max (max k n) a) c
max_more k n a b c h = below k n
    (λ j. max_down n k b a c (omega arith) h ∙ ap (λ (x : ℕ). max (max x a) c) (omega arith))
    (λ j. ap (λ (x : ℕ). max (max n a) (max x c)) (omega arith) ∙ max_up n k a c j ∙ ap (λ (x : ℕ). max (max x a) c) (omega arith))

-- what was put there before is gone
pub refill_twice : (k n : ℕ) (xs ys w : List ℕ) → length xs ≤ n → refill n ys (refill k xs w) ≡ refill (max k n) ys w
refill_twice k n xs ys w h = ext_get_or 0 _ _
    (length_refill n ys (refill k xs w) ∙ rw (length_refill k xs w) (max_more k n (length ys) (length xs) (length w) h) ∙ sym (length_refill (max k n) ys w))
    (λ i j. below i (length ys)
    (λ a. refill_in n ys (refill k xs w) i a ∙ sym (refill_in (max k n) ys w i a))
    (λ a. below i n
    (λ b. refill_freed n ys (refill k xs w) i a b ∙ sym (refill_freed (max k n) ys w i a (omega arith)))
    (λ b. refill_past n ys (refill k xs w) i a b ∙ below i k
    (λ c. refill_freed k xs w i (omega arith) c ∙ sym (refill_freed (max k n) ys w i a (omega arith)))
    (λ c. refill_past k xs w i (omega arith) c ∙ sym (refill_past (max k n) ys w i a (omega arith))))))

-- places that are in use again need no zeros
pub refill_alike : (k n : ℕ) (xs w : List ℕ) → max k (length xs) ≡ max n (length xs) → refill k xs w ≡ refill n xs w
refill_alike k n xs w e = ext_get_or 0 _ _
    (length_refill k xs w ∙ omega (arith, length_refill n xs w))
    (λ i j. below i (length xs)
    (λ a. refill_in k xs w i a ∙ sym (refill_in n xs w i a))
    (λ a. below i k
    (λ b. refill_freed k xs w i a b ∙ sym (refill_freed n xs w i a (omega arith)))
    (λ b. refill_past k xs w i a b ∙ sym (refill_past n xs w i a (omega arith)))))
