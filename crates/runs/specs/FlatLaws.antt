-- The laws of runs in a list of numbers.
use Rattle.std.specs.Prelude.{ℕ, zero, suc, ◌+◌, ◌-◌, ◌*◌, ◌/◌, ◌≤◌, ◌<◌, min, ◌≡◌, refl, Bool, true, false, ◌||◌, List, [], ◌∷◌, ◌++◌, ltb, length, get_or, set, take, replicate}
use Rattle.std.proofs.Common.{sym, ◌∙◌, append_assoc, append-nil, ⊎_elim, length-set, length-append, length-take, length-drop, take-append-drop, get_or-set_same, get_or-set_other, drop-set-lt, drop-cons, take_all, take-suc-set}
use Rattle.std.proofs.Math.Path.{ap}
use Rattle.std.proofs.Math.Bool.{or_assoc, or_comm, and-false}
use native.Mathlib.Omega.{arith}
use Rattle.std.proofs.Math.ListN.{drop}
use Rattle.std.proofs.Math.Seq.{drop-append_seam}
use Rattle.std.specs.List.{copy_within}
use Rattle.std.specs.List.Sorted.{IsPartitionedBy, IsPartitionPoint}
use Rattle.std.specs.Simd.{first_chunks}
use Rattle.std.proofs.lemmas.List.{length-replicate, set-get_or, take-take, take-append-le, get_or-take, get_or-drop}
use borrow.Author.Tests.{lt-ltb, le-ltb}
use Rattle.std.proofs.lemmas.Bool.{ltb-true, ltb-false}
use Rattle.meta.specs.declared.ZeroExtent.{ZeroExtent}
use Rattle.meta.specs.Runs.{run, runs_of, numbers_of, normalized}
use Rattle.runs.specs.Sets.{within, covers, join, merge, insert, add, maximal, without, piece, remove}
use Rattle.runs.specs.Members.{From, le_or_lt, merge_nil, merge_stop, merge_join, insert_nil, insert_skip, insert_here, remove_nil, remove_skip, remove_not, remove_here, add-length, remove-length}
use Rattle.runs.specs.SetLaws.{split, covers_append, maximal_covers, maximal_normalized, maximal_alike, normalized_from, from_normalized, maximal_self, maximal_more, maximal_without, maximal_less}
use Rattle.runs.specs.Flat.{runs_in, Out, out, held, padded, laid, at, put, seg, upto, write, place}

pub length-put : (w : List ℕ) (i : ℕ) (x : ZeroExtent) → length (put w i x) ≡ length w
unfolding put
length-put w i x = simp length-set

pub at_put_same : (w : List ℕ) (i : ℕ) (x : ZeroExtent) → i * 2 + 1 < length w → at (put w i x) i ≡ x
unfolding at put
at_put_same w i x h = λ k. record {
  start = (get_or-set_other (set w (i * 2) x.start) (i * 2 + 1) (i * 2) x.end 0 (omega arith) ∙ get_or-set_same w (i * 2) x.start 0 (omega arith)) k;
  end = get_or-set_same (set w (i * 2) x.start) (i * 2 + 1) x.end 0 (simp length-set h) k;
}

pub at_put_other : (w : List ℕ) (i j : ℕ) (x : ZeroExtent) → (j ≡ i → ⊥) → at (put w i x) j ≡ at w j
unfolding at put
at_put_other w i j x h = λ k. record {
  start = (get_or-set_other (set w (i * 2) x.start) (i * 2 + 1) (j * 2) x.end 0 (omega (arith, h)) ∙ get_or-set_other w (i * 2) (j * 2) x.start 0 (omega (arith, h))) k;
  end = (get_or-set_other (set w (i * 2) x.start) (i * 2 + 1) (j * 2 + 1) x.end 0 (omega (arith, h)) ∙ get_or-set_other w (i * 2) (j * 2 + 1) x.start 0 (omega (arith, h))) k;
}

pub put_at : (w : List ℕ) (i : ℕ) → put w i (at w i) ≡ w
unfolding at put
put_at w i = rw (set-get_or w (i * 2) 0, set-get_or w (i * 2 + 1) 0)

pub seg_put : (w : List ℕ) (k : ℕ) (x : ZeroExtent) (i n : ℕ) → k < i → seg (put w k x) i n ≡ seg w i n
unfolding seg
seg_put w k x i zero h = refl
seg_put w k x i (suc n) h = λ t. at_put_other w k i x (omega arith) t ∷ seg_put w k x (i + 1) n (omega arith) t

pub upto_put : (w : List ℕ) (k : ℕ) (x : ZeroExtent) (i n : ℕ) → k < i → upto (put w k x) i n ≡ upto w i n
unfolding upto
upto_put w k x i n h = seg_put w k x i (n - i) h

pub upto_none : (w : List ℕ) (i n : ℕ) → n ≤ i → upto w i n ≡ []
unfolding upto seg
upto_none w i n h = let e : n - i ≡ 0 = omega arith in rw e

pub upto_more : (w : List ℕ) (i n : ℕ) → i < n → upto w i n ≡ at w i ∷ upto w (i + 1) n
unfolding upto seg
upto_more w i n h = let e : n - i ≡ suc (n - (i + 1)) = omega arith in rw e

pub write_nil : (w : List ℕ) (i : ℕ) → write w i [] ≡ out w i
unfolding write
write_nil w i = refl

pub write_cons : (w : List ℕ) (i : ℕ) (x : ZeroExtent) (l : List ZeroExtent) → write w i (x ∷ l) ≡ write (put w i x) (i + 1) l
unfolding write
write_cons w i x l = refl

-- to store the runs that stand there is to store nothing
write_seg : (w : List ℕ) (i n : ℕ) → write w i (seg w i n) ≡ out w (i + n)
unfolding seg
write_seg w i zero = write_nil w i ∙ ap (out w) (omega arith)
write_seg w i (suc n) = write_cons w i (at w i) (seg w (i + 1) n) ∙ rw (put_at w i) (write_seg w (i + 1) n ∙ ap (out w) (omega arith))

pub write_same : (w : List ℕ) (i n : ℕ) → i ≤ n → write w i (upto w i n) ≡ out w n
unfolding upto
write_same w i n h = write_seg w i (n - i) ∙ ap (out w) (omega arith)

-- ## The turns of the loops

-- a run that is carried up the list
pub open_step : (w : List ℕ) (k n : ℕ) (c : ZeroExtent) → k < n → write w k (c ∷ upto w k n) ≡ write (put w k c) (k + 1) (at w k ∷ upto (put w k c) (k + 1) n)
open_step w k n c h = write_cons w k c (upto w k n) ∙ rw (upto_more w k n h, upto_put w k c (k + 1) n (omega arith))

pub open_last : (w : List ℕ) (k n : ℕ) (c : ZeroExtent) → n ≤ k → write w k (c ∷ upto w k n) ≡ out (put w k c) (k + 1)
open_last w k n c h = write_cons w k c (upto w k n) ∙ rw (upto_none w k n h, write_nil)

-- a run that is moved down the list
pub close_step : (w : List ℕ) (o k n : ℕ) → o ≤ k → k < n → write w o (upto w k n) ≡ write (put w o (at w k)) (o + 1) (upto (put w o (at w k)) (k + 1) n)
close_step w o k n g h = rw (upto_more w k n h, write_cons, upto_put w o (at w k) (k + 1) n (omega arith))

pub close_last : (w : List ℕ) (o k n : ℕ) → n ≤ k → write w o (upto w k n) ≡ out w o
close_last w o k n h = rw (upto_none w k n h, write_nil)

-- Below, x is the run that was read at the place.

-- a run that r meets is taken up
pub meet_step : (w : List ℕ) (j n : ℕ) (r x : ZeroExtent) → j < n → x ≡ at w j → x.start ≤ r.end → merge r (upto w j n) ≡ merge (join r x) (upto w (j + 1) n)
meet_step w j n r x h e k = rw (upto_more w j n h, ← e, merge_join r x (upto w (j + 1) n) k)

pub meet_here : (w : List ℕ) (j n : ℕ) (r x : ZeroExtent) → j < n → x ≡ at w j → r.end < x.start → merge r (upto w j n) ≡ r ∷ upto w j n
meet_here w j n r x h e k = rw (upto_more w j n h, ← e, merge_stop r x (upto w (j + 1) n) k)

pub meet_last : (w : List ℕ) (j n : ℕ) (r : ZeroExtent) → n ≤ j → merge r (upto w j n) ≡ r ∷ upto w j n
meet_last w j n r h = rw (upto_none w j n h, merge_nil)

-- a run in the place of the runs i .. j
pub put_step : (w : List ℕ) (i j n : ℕ) (x : ZeroExtent) → i < j → write w i (x ∷ upto w j n) ≡ write (put w i x) (i + 1) (upto (put w i x) j n)
put_step w i j n x h = write_cons w i x (upto w j n) ∙ rw (upto_put w i x j n h)

-- ## The runs as numbers

pub length-numbers : (l : List ZeroExtent) → length (numbers_of l) ≡ length l * 2
length-numbers [] = refl
length-numbers (x ∷ l) = omega (arith, length-numbers l)

pub runs_numbers : (l : List ZeroExtent) (t : List ℕ) → runs_of (take (length l * 2) (numbers_of l ++ t)) ≡ l
runs_numbers [] t = refl
runs_numbers (x ∷ l) t =
    let e : suc (length l) * 2 ≡ suc (suc (length l * 2)) = omega arith in
    rw e (λ k. x ∷ runs_numbers l t k)

seg_runs : (w : List ℕ) (i d : ℕ) → (i + d) * 2 ≤ length w → seg w i d ≡ runs_of (take (d * 2) (drop (i * 2) w))
unfolding seg at
seg_runs w i zero h = refl
seg_runs w i (suc d) h =
    let e : suc d * 2 ≡ suc (suc (d * 2)) = omega arith in
    let f : suc (i * 2) ≡ i * 2 + 1 = omega arith in
    let g : suc (i * 2 + 1) ≡ (i + 1) * 2 = omega arith in
    let two : drop (i * 2) w ≡ get_or w (i * 2) 0 ∷ get_or w (i * 2 + 1) 0 ∷ drop ((i + 1) * 2) w =
    drop-cons w (i * 2) 0 (omega arith)
    ∙ ap (λ (t : List ℕ). get_or w (i * 2) 0 ∷ t) (ap (λ (k : ℕ). drop k w) f ∙ drop-cons w (i * 2 + 1) 0 (omega arith) ∙ ap (λ (k : ℕ). get_or w (i * 2 + 1) 0 ∷ drop k w) g)
    in
    rw (e, two) (λ k. at w i ∷ seg_runs w (i + 1) d (omega arith) k)

pub runs_in-upto : (w : List ℕ) (n : ℕ) → n * 2 ≤ length w → runs_in n w ≡ upto w 0 n
unfolding runs_in upto
runs_in-upto w n h = let e : n - 0 ≡ n = omega arith in rw e (sym (seg_runs w 0 n (omega arith)))

length-seg : (w : List ℕ) (i n : ℕ) → length (seg w i n) ≡ n
unfolding seg
length-seg w i zero = refl
length-seg w i (suc n) = ap suc (length-seg w (i + 1) n)

pub length-upto : (w : List ℕ) (i n : ℕ) → length (upto w i n) ≡ n - i
unfolding upto
length-upto w i n = length-seg w i (n - i)

pub length-runs_in : (w : List ℕ) (n : ℕ) → n * 2 ≤ length w → length (runs_in n w) ≡ n
length-runs_in w n h = ap length (runs_in-upto w n h) ∙ length-upto w 0 n ∙ omega arith

runs_even : (w : List ℕ) → runs_of (take (length w / 2 * 2) w) ≡ runs_of w
runs_even [] = refl
runs_even (a ∷ []) = refl
runs_even (a ∷ b ∷ l) =
    let e : suc (suc (length l)) / 2 * 2 ≡ suc (suc (length l / 2 * 2)) = omega arith in
    rw e (λ k. run a b ∷ runs_even l k)

-- all runs of the numbers
pub runs_in-all : (w : List ℕ) → runs_in (length w / 2) w ≡ runs_of w
unfolding runs_in
runs_in-all w = runs_even w

runs_half : (v : List ℕ) → length (runs_of v) * 2 ≤ length v
runs_half [] = omega arith
runs_half (a ∷ []) = omega arith
runs_half (a ∷ b ∷ v) = let r : length (runs_of v) * 2 ≤ length v = runs_half v in omega arith

pub runs_in-length : (w : List ℕ) (n : ℕ) → length (runs_in n w) ≤ n
unfolding runs_in
runs_in-length w n = omega (arith, runs_half (take (n * 2) w), length-take (n * 2) w)

-- there are no more runs than the numbers make
pub runs_in-most : (w : List ℕ) (n : ℕ) → runs_in (min n (length w / 2)) w ≡ runs_in n w
unfolding runs_in
runs_in-most w n =
    ⊎_elim
    (λ h. let e : min n (length w / 2) ≡ n = omega arith in rw e)
    (λ h. let e : min n (length w / 2) ≡ length w / 2 = omega arith in rw (e, runs_even w, take_all (n * 2) w (omega arith)))
    (le_or_lt n (length w / 2))

put_front : (w : List ℕ) (i : ℕ) (x : ZeroExtent) → i * 2 + 1 < length w → take ((i + 1) * 2) (put w i x) ≡ take (i * 2) w ++ (x.start ∷ x.end ∷ [])
unfolding put
put_front w i x h =
    let e : (i + 1) * 2 ≡ suc (i * 2 + 1) = omega arith in
    let f : i * 2 + 1 ≡ suc (i * 2) = omega arith in
    let v : List ℕ = set w (i * 2) x.start in
    let a : take (suc (i * 2 + 1)) (set v (i * 2 + 1) x.end) ≡ take (i * 2 + 1) v ++ (x.end ∷ []) = take-suc-set v (i * 2 + 1) x.end (omega (arith, length-set w (i * 2) x.start)) in
    let b : take (suc (i * 2)) v ≡ take (i * 2) w ++ (x.start ∷ []) = take-suc-set w (i * 2) x.start (omega arith) in
    rw e (a ∙ rw (f, b) (append_assoc (take (i * 2) w) (x.start ∷ []) (x.end ∷ [])))

put_past : (w : List ℕ) (i : ℕ) (x : ZeroExtent) (n : ℕ) → i * 2 + 1 < n → drop n (put w i x) ≡ drop n w
unfolding put
put_past w i x n h = drop-set-lt n _ (i * 2 + 1) x.end (omega arith) ∙ drop-set-lt n w (i * 2) x.start (omega arith)

write_all : (w : List ℕ) (i : ℕ) (l : List ZeroExtent) → (i + length l) * 2 ≤ length w → write w i l ≡ out (take (i * 2) w ++ (numbers_of l ++ drop ((i + length l) * 2) w)) (i + length l)
write_all w i [] h = let e : i + 0 ≡ i = omega arith in write_nil w i ∙ rw (e, take-append-drop (i * 2) w)
write_all w i (x ∷ l) h =
    let e : i + suc (length l) ≡ i + 1 + length l = omega arith in
    write_cons w i x l ∙ write_all (put w i x) (i + 1) l (omega (arith, length-put w i x))
    ∙ rw (e, put_front w i x (omega arith), put_past w i x ((i + 1 + length l) * 2) (omega arith), append_assoc)

pub write_held : (w : List ℕ) (l : List ZeroExtent) → length l * 2 ≤ length w → write w 0 l ≡ held w l
unfolding held
write_held w l h = let e : 0 + length l ≡ length l = omega arith in write_all w 0 l (omega arith) ∙ rw e

-- what is held is read again
module _ (w w' : List ℕ) (r : ℕ) (l : List ZeroExtent) (e : out w' r ≡ held w l) where
  pub held_count : r ≡ length l
  unfolding held
  held_count = ap (λ (o : Out). o.count) e

  pub held_runs : runs_in r w' ≡ l
  unfolding held runs_in
  held_runs = let f : w' ≡ numbers_of l ++ drop (length l * 2) w = ap (λ (o : Out). o.work) e in rw (f, held_count) (runs_numbers l _)

-- ## The place of a page

place_skip : (p : ℕ) (x : ZeroExtent) (l : List ZeroExtent) → x.end < p → place p (x ∷ l) ≡ suc (place p l)
unfolding place
place_skip p x l h = rw (lt-ltb _ _ h)

place_here : (p : ℕ) (x : ZeroExtent) (l : List ZeroExtent) → p ≤ x.end → place p (x ∷ l) ≡ 0
unfolding place
place_here p x l h = rw (le-ltb _ _ h)

place_most : (p : ℕ) (l : List ZeroExtent) → place p l ≤ length l
unfolding place
place_most p [] = omega arith
place_most p (x ∷ l) =
    ⊎_elim
    (λ h. rw (place_here p x l h) (omega arith))
    (λ h. rw (place_skip p x l h) (let r : place p l ≤ length l = place_most p l in omega arith))
    (le_or_lt p x.end)

seg_down : (w : List ℕ) (i d p k : ℕ) → k < d → p ≤ (at w (i + k)).end → place p (seg w i d) ≤ k
unfolding seg
seg_down w i zero p k h e = absurd (omega arith)
seg_down w i (suc d) p zero h e = let z : i + 0 ≡ i = omega arith in rw (place_here p (at w i) (seg w (i + 1) d) (rw z at e)) (omega arith)
seg_down w i (suc d) p (suc k) h e =
    let z : i + suc k ≡ i + 1 + k = omega arith in
    let r : place p (seg w (i + 1) d) ≤ k = seg_down w (i + 1) d p k (omega arith) (rw z at e) in
    ⊎_elim
    (λ a. rw (place_here p (at w i) (seg w (i + 1) d) a) (omega arith))
    (λ b. rw (place_skip p (at w i) (seg w (i + 1) d) b) (omega arith))
    (le_or_lt p (at w i).end)

seg_ends : (w : List ℕ) (m i d k : ℕ) → From m (seg w i d) → k < d → m < (at w (i + k)).end
unfolding seg
seg_ends w m i zero k f h = absurd (omega arith)
seg_ends w m i (suc d) zero f h = let z : i + 0 ≡ i = omega arith in rw z (omega (arith, f.0, f.1))
seg_ends w m i (suc d) (suc k) f h =
    let z : i + suc k ≡ i + 1 + k = omega arith in
    let r : suc (at w i).end < (at w (i + 1 + k)).end = seg_ends w (suc (at w i).end) (i + 1) d k f.2 (omega arith) in
    rw z (omega (arith, f.0, f.1))

seg_up : (w : List ℕ) (m i d p k : ℕ) → From m (seg w i d) → k < d → (at w (i + k)).end < p → k < place p (seg w i d)
unfolding seg
seg_up w m i zero p k f h e = absurd (omega arith)
seg_up w m i (suc d) p zero f h e = let z : i + 0 ≡ i = omega arith in rw (place_skip p (at w i) (seg w (i + 1) d) (rw z at e)) (omega arith)
seg_up w m i (suc d) p (suc k) f h e =
    let z : i + suc k ≡ i + 1 + k = omega arith in
    let g : (at w (i + 1 + k)).end < p = rw z at e in
    let s : suc (at w i).end < (at w (i + 1 + k)).end = seg_ends w (suc (at w i).end) (i + 1) d k f.2 (omega arith) in
    let r : k < place p (seg w (i + 1) d) = seg_up w (suc (at w i).end) (i + 1) d p k f.2 (omega arith) g in
    rw (place_skip p (at w i) (seg w (i + 1) d) (omega arith)) (omega arith)

module _ (w : List ℕ) (n p : ℕ) where
  pub place_le : place p (upto w 0 n) ≤ n
  place_le = omega (arith, place_most p (upto w 0 n), length-upto w 0 n)

  -- a run that ends before p is before the place, and one that does not is at it or after
  module _ (k : ℕ) (x : ZeroExtent) (h : k < n) (e : x ≡ at w k) where
    pub place_down : p ≤ x.end → place p (upto w 0 n) ≤ k
    unfolding upto
    place_down g = let z : 0 + k ≡ k = omega arith in seg_down w 0 (n - 0) p k (omega arith) (rw (z, ← e) g)

    pub place_up : normalized (upto w 0 n) ≡ true → x.end < p → k < place p (upto w 0 n)
    unfolding upto
    place_up f g = let z : 0 + k ≡ k = omega arith in seg_up w 0 0 (n - 0) p k (normalized_from (upto w 0 n) f) (omega arith) (rw (z, ← e) g)

-- without the last run
from_front : (w : List ℕ) (m i d : ℕ) → From m (seg w i (suc d)) → From m (seg w i d)
unfolding seg
from_front w m i zero f = tt
from_front w m i (suc d) f = (f.0, f.1, from_front w (suc (at w i).end) (i + 1) d f.2)

place_front : (w : List ℕ) (i d p : ℕ) → p ≤ (at w (i + d)).end → place p (seg w i (suc d)) ≡ place p (seg w i d)
unfolding seg place
place_front w i zero p h = let z : i + 0 ≡ i = omega arith in place_here p (at w i) [] (rw z at h)
place_front w i (suc d) p h =
    let z : i + suc d ≡ i + 1 + d = omega arith in
    let r : place p (seg w (i + 1) (suc d)) ≡ place p (seg w (i + 1) d) = place_front w (i + 1) d p (rw z at h) in
    ⊎_elim
    (λ a. place_here p (at w i) (seg w (i + 1) (suc d)) a ∙ sym (place_here p (at w i) (seg w (i + 1) d) a))
    (λ b. place_skip p (at w i) (seg w (i + 1) (suc d)) b ∙ ap suc r ∙ sym (place_skip p (at w i) (seg w (i + 1) d) b))
    (le_or_lt p (at w i).end)

module _ (w : List ℕ) (n k : ℕ) (next : n ≡ suc k) where
  pub front_normalized : normalized (upto w 0 n) ≡ true → normalized (upto w 0 k) ≡ true
  unfolding upto
  front_normalized f =
      let y : n - 0 ≡ suc k = omega (arith, next) in
      let z : k - 0 ≡ k = omega arith in
      rw z (from_normalized 0 _ (from_front w 0 0 k (rw y at (normalized_from _ f))))

  -- where it does not end before p
  pub front_place : (p : ℕ) (x : ZeroExtent) → x ≡ at w k → p ≤ x.end → place p (upto w 0 k) ≡ place p (upto w 0 n)
  unfolding upto
  front_place p x e h =
      let y : n - 0 ≡ suc k = omega (arith, next) in
      let z : k - 0 ≡ k = omega arith in
      let a : 0 + k ≡ k = omega arith in
      rw (y, z) (sym (place_front w 0 k p (rw (a, ← e) h)))

-- what is inserted or removed is, from its place on
find_seg : (w : List ℕ) (i d : ℕ) (r : ZeroExtent) → write w i (insert r (seg w i d)) ≡ write w (i + place r.start (seg w i d)) (merge r (seg w (i + place r.start (seg w i d)) (d - place r.start (seg w i d))))
unfolding seg place
find_seg w i zero r = let z : i + 0 ≡ i = omega arith in rw (insert_nil, z, merge_nil)
find_seg w i (suc d) r =
    let l : List ZeroExtent = seg w (i + 1) d in
    ⊎_elim
    (λ h. let z : i + 0 ≡ i = omega arith in let y : suc d - 0 ≡ suc d = omega arith in
    rw (place_here r.start (at w i) l h, z, y, insert_here r (at w i) l h))
    (λ h. let q : ℕ = place r.start l in
    let z : i + suc q ≡ i + 1 + q = omega arith in
    let y : suc d - suc q ≡ d - q = omega arith in
    rw (place_skip r.start (at w i) l h, z, y, insert_skip r (at w i) l h, write_cons, put_at w i) (find_seg w (i + 1) d r))
    (le_or_lt r.start (at w i).end)

page_seg : (w : List ℕ) (i d p : ℕ) → write w i (remove p (seg w i d)) ≡ write w (i + place p (seg w i d)) (remove p (seg w (i + place p (seg w i d)) (d - place p (seg w i d))))
unfolding seg place
page_seg w i zero p = let z : i + 0 ≡ i = omega arith in rw z
page_seg w i (suc d) p =
    let l : List ZeroExtent = seg w (i + 1) d in
    ⊎_elim
    (λ h. let z : i + 0 ≡ i = omega arith in let y : suc d - 0 ≡ suc d = omega arith in
    rw (place_here p (at w i) l h, z, y))
    (λ h. let q : ℕ = place p l in
    let z : i + suc q ≡ i + 1 + q = omega arith in
    let y : suc d - suc q ≡ d - q = omega arith in
    let k : (at w i).end ≤ p = omega arith in
    rw (place_skip p (at w i) l h, z, y, remove_skip p (at w i) l k, write_cons, put_at w i) (page_seg w (i + 1) d p))
    (le_or_lt p (at w i).end)

module _ (w : List ℕ) (n q : ℕ) where
  pub find_at : (r : ZeroExtent) → q ≡ place r.start (upto w 0 n) → write w 0 (insert r (upto w 0 n)) ≡ write w q (merge r (upto w q n))
  unfolding upto
  find_at r e =
      let z : 0 + q ≡ q = omega arith in
      let y : n - 0 - q ≡ n - q = omega arith in
      find_seg w 0 (n - 0) r ∙ rw (← e, z, y)

  pub page_at : (p : ℕ) → q ≡ place p (upto w 0 n) → write w 0 (remove p (upto w 0 n)) ≡ write w q (remove p (upto w q n))
  unfolding upto
  page_at p e =
      let z : 0 + q ≡ q = omega arith in
      let y : n - 0 - q ≡ n - q = omega arith in
      page_seg w 0 (n - 0) p ∙ rw (← e, z, y)

-- ## Removing

remove_absent : (m p : ℕ) (l : List ZeroExtent) → From m l → p < m → remove p l ≡ l
remove_absent m p [] f h = remove_nil p
remove_absent m p (x ∷ l) f h = remove_not p x l (omega (arith, f.0, f.1)) (omega (arith, f.0))

seg_from : (w : List ℕ) (m i d k : ℕ) → From m (seg w i d) → k < d → From (suc (at w (i + k)).end) (seg w (i + k + 1) (d - (k + 1)))
unfolding seg
seg_from w m i zero k f h = absurd (omega arith)
seg_from w m i (suc d) zero f h =
    let z : i + 0 ≡ i = omega arith in
    let y : suc d - (0 + 1) ≡ d = omega arith in
    rw (z, y) f.2
seg_from w m i (suc d) (suc k) f h =
    let z : i + suc k ≡ i + 1 + k = omega arith in
    let y : suc d - (suc k + 1) ≡ d - (k + 1) = omega arith in
    rw (z, y) (seg_from w (suc (at w i).end) (i + 1) d k f.2 (omega arith))

-- the runs behind run i start after its end
upto_from : (w : List ℕ) (i n : ℕ) → normalized (upto w 0 n) ≡ true → i < n → From (suc (at w i).end) (upto w (i + 1) n)
unfolding upto
upto_from w i n f h =
    let z : 0 + i ≡ i = omega arith in
    let y : n - 0 - (i + 1) ≡ n - (i + 1) = omega arith in
    rw (z, y) at (seg_from w 0 0 (n - 0) i (normalized_from _ f) (omega arith))

module _ (w : List ℕ) (i n p : ℕ) where
  pub page_none : i ≡ n → write w i (remove p (upto w i n)) ≡ out w n
  page_none h = rw (upto_none w i n (omega arith), remove_nil, write_nil, h)

  module _ (x : ZeroExtent) (h : i < n) (e : x ≡ at w i) where
    -- the page is before the run, in it, or right behind it
    pub page_before : p < x.start → p < x.end → write w i (remove p (upto w i n)) ≡ out w n
    page_before g k =
        rw (upto_more w i n h, remove_not p (at w i) (upto w (i + 1) n) (rw e at k) (rw e at g), ← upto_more w i n h) (write_same w i n (omega arith))

    pub page_here : x.start ≤ p → p < x.end → remove p (upto w i n) ≡ piece x.start p (piece (p + 1) x.end (upto w (i + 1) n))
    page_here g k = rw (upto_more w i n h, ← e, remove_here p x (upto w (i + 1) n) k g)

    pub page_behind : normalized (upto w 0 n) ≡ true → i ≡ place p (upto w 0 n) → x.end ≤ p → write w i (remove p (upto w i n)) ≡ out w n
    page_behind f q k =
        let g : p ≤ x.end = ⊎_elim (λ a. a) (λ b. absurd (omega (arith, place_up w n p i x h e f b))) (le_or_lt p x.end) in
        let m : p < suc (at w i).end = rw (← e) (omega arith) in
        rw (upto_more w i n h, remove_skip p (at w i) (upto w (i + 1) n) (rw e at k), remove_absent _ p (upto w (i + 1) n) (upto_from w i n f h) m, ← upto_more w i n h) (write_same w i n (omega arith))

-- ## What is handed to a caller

module _ (w : List ℕ) (n : ℕ) (h : n * 2 + 1 < length w) (f : normalized (runs_in n w) ≡ true) where
  pub walk_normalized : normalized (upto w 0 n) ≡ true
  walk_normalized = rw (← runs_in-upto w n (omega arith)) f

  pub held_add : (r : ZeroExtent) → write w 0 (add r (upto w 0 n)) ≡ held w (maximal (r ∷ runs_in n w))
  held_add r =
      let e : runs_in n w ≡ upto w 0 n = runs_in-upto w n (omega arith) in
      rw (maximal_self (runs_in n w) f, e) (write_held w (add r (upto w 0 n)) (omega (arith, add-length r (upto w 0 n), length-upto w 0 n)))

  pub held_remove : (p : ℕ) → write w 0 (remove p (upto w 0 n)) ≡ held w (maximal (without p (runs_in n w)))
  held_remove p =
      let e : runs_in n w ≡ upto w 0 n = runs_in-upto w n (omega arith) in
      rw (maximal_without p (runs_in n w) f, e) (write_held w (remove p (upto w 0 n)) (omega (arith, remove-length p (upto w 0 n), length-upto w 0 n)))

-- the first n of numbers that may be fewer
pub upto_most : (w : List ℕ) (n : ℕ) → upto w 0 (min n (length w / 2)) ≡ runs_in n w
upto_most w n = sym (runs_in-upto w (min n (length w / 2)) (omega arith)) ∙ runs_in-most w n

pub none_normalized : (w : List ℕ) → normalized (runs_in 0 w) ≡ true
unfolding runs_in normalized
none_normalized w = refl

-- after an addition or a removal there is at most one run more, and the runs are normalized
module _ (w w' : List ℕ) (n r : ℕ) (h : n * 2 ≤ length w) (f : normalized (runs_in n w) ≡ true) where
  pub add_count : (x : ZeroExtent) → out w' r ≡ held w (maximal (x ∷ runs_in n w)) → r ≤ n + 1
  add_count x e =
      let m : length (maximal (x ∷ runs_in n w)) ≤ suc (length (maximal (runs_in n w))) = maximal_more x (runs_in n w) in
      let k : length (maximal (runs_in n w)) ≡ n = ap length (maximal_self (runs_in n w) f) ∙ length-runs_in w n h in
      omega (arith, held_count w w' r (maximal (x ∷ runs_in n w)) e)

  pub add_within : (x : ZeroExtent) (i : ℕ) → n ≤ i → out w' r ≡ held w (maximal (x ∷ runs_in n w)) → r ≤ i + 1
  add_within x i k e = omega (arith, add_count x e)

  pub remove_count : (p : ℕ) → out w' r ≡ held w (maximal (without p (runs_in n w))) → r ≤ n + 1
  remove_count p e = omega (arith, held_count w w' r (maximal (without p (runs_in n w))) e, maximal_less p (runs_in n w) f, length-runs_in w n h)

pub held_normalized : (w w' : List ℕ) (r : ℕ) (l : List ZeroExtent) → out w' r ≡ held w (maximal l) → normalized (runs_in r w') ≡ true
held_normalized w w' r l e = rw (held_runs w w' r (maximal l) e) (maximal_normalized l)

-- ## Zeros at the end

length-padded : (n : ℕ) (l : List ℕ) → length l ≤ n → length (padded n l) ≡ n
unfolding padded
length-padded n l h = omega (arith, length-append l (replicate (n - length l) 0), length-replicate {A = ℕ} (n - length l) 0)

padded_more : (n : ℕ) (l : List ℕ) → length l < n → padded n (l ++ (0 ∷ [])) ≡ padded n l
unfolding padded
padded_more n l h =
    let e : n - length l ≡ suc (n - length (l ++ (0 ∷ []))) = omega (arith, length-append l (0 ∷ [])) in
    append_assoc l (0 ∷ []) _ ∙ rw e

padded_all : (n : ℕ) (l : List ℕ) → n ≤ length l → padded n l ≡ l
unfolding padded
padded_all n l h = let e : n - length l ≡ 0 = omega arith in rw e (append-nil l)

pub clear_step : (n k : ℕ) (w : List ℕ) → length w ≡ n → k < n → padded n (take (k + 1) (set w k 0)) ≡ padded n (take k w)
clear_step n k w e h =
    let f : k + 1 ≡ suc k = omega arith in
    rw (f, take-suc-set w k 0 (omega arith)) (padded_more n (take k w) (omega (arith, length-take k w)))

pub clear_last : (n k : ℕ) (w : List ℕ) → length w ≡ n → n ≤ k → padded n (take k w) ≡ w
clear_last n k w e h = rw (take_all k w (omega arith)) (padded_all n w (omega arith))

pub numbers_runs : (v : List ℕ) (k : ℕ) → length v ≡ k * 2 → numbers_of (runs_of v) ≡ v
numbers_runs [] k e = refl
numbers_runs (a ∷ []) k e = absurd (omega arith)
numbers_runs (a ∷ b ∷ v) zero e = absurd (omega arith)
numbers_runs (a ∷ b ∷ v) (suc k) e = λ i. a ∷ b ∷ numbers_runs v k (omega arith) i

-- the runs that the list holds, and zeros behind them
pub laid_cleared : (n r : ℕ) (w : List ℕ) (l : List ZeroExtent) → r * 2 ≤ length w → runs_in r w ≡ l → out (padded n (take (r * 2) w)) r ≡ laid n l
unfolding laid runs_in
laid_cleared n r w l h e =
    let t : numbers_of l ≡ take (r * 2) w = ap numbers_of (sym e) ∙ numbers_runs (take (r * 2) w) r (omega (arith, length-take (r * 2) w)) in
    let c : length l ≡ r = ap length (sym e) ∙ length-runs_in w r h in
    rw (t, c)

-- at most m runs, which were copied in front of the list w and make it w'; w'' is cleared behind them
pub laid_copied : (w w' w'' : List ℕ) (r m : ℕ) (l : List ZeroExtent) → length w' ≡ length w → m * 2 ≤ length w → r ≤ m → runs_in r w' ≡ l → w'' ≡ padded (length w') (take (r * 2) w') → out w'' r ≡ laid (length w) l
laid_copied w w' w'' r m l k h g e c = rw (c, k) (laid_cleared (length w) r w' l (omega arith) e)

-- and are read again
pub laid_runs : (n : ℕ) (l : List ZeroExtent) → runs_in (length l) (padded n (numbers_of l)) ≡ l
unfolding runs_in padded
laid_runs n l = runs_numbers l (replicate (n - length (numbers_of l)) 0)

module _ (n r : ℕ) (w : List ℕ) (l : List ZeroExtent) (e : out w r ≡ laid n l) where
  pub laid_count : r ≡ length l
  unfolding laid
  laid_count = ap (λ (o : Out). o.count) e

  pub laid_held : runs_in r w ≡ l
  unfolding laid
  laid_held = let f : w ≡ padded n (numbers_of l) = ap (λ (o : Out). o.work) e in rw (f, laid_count) (laid_runs n l)

pub padded_none : (n : ℕ) → padded n [] ≡ replicate n 0
unfolding padded
padded_none n = let e : n - 0 ≡ n = omega arith in rw e

-- ## Runs copied in, one by one

-- the run x has been added to the runs l, and the rest is to come
pub turned : (x : ZeroExtent) (rest l : List ZeroExtent) (p : ℕ) → covers (rest ++ maximal (x ∷ l)) p ≡ covers (x ∷ (rest ++ l)) p
turned x rest l p =
    covers_append rest (maximal (x ∷ l)) p
    ∙ ap (λ (b : Bool). covers rest p || b) (maximal_covers (x ∷ l) p)
    ∙ sym (or_assoc (covers rest p) (within x p) (covers l p))
    ∙ ap (λ (b : Bool). b || covers l p) (or_comm (covers rest p) (within x p))
    ∙ or_assoc (within x p) (covers rest p) (covers l p)
    ∙ ap (λ (b : Bool). within x p || b) (sym (covers_append rest l p))

module _ (v : List ℕ) (n : ℕ) where
  pub gather_start : (w : List ℕ) → maximal (upto v 0 n ++ runs_in 0 w) ≡ maximal (upto v 0 n)
  unfolding runs_in
  gather_start w = ap maximal (append-nil (upto v 0 n))

  pub gather_step : (i : ℕ) (x : ZeroExtent) (l k : List ZeroExtent) → i < n → x ≡ at v i → k ≡ maximal (x ∷ l) → maximal (upto v (i + 1) n ++ k) ≡ maximal (upto v i n ++ l)
  gather_step i x l k h e g = rw (upto_more v i n h, ← e, g) (maximal_alike (upto v (i + 1) n ++ maximal (x ∷ l)) (x ∷ (upto v (i + 1) n ++ l)) (turned x (upto v (i + 1) n) l))

  pub gather_last : (i : ℕ) (l : List ZeroExtent) → n ≤ i → normalized l ≡ true → maximal (upto v i n ++ l) ≡ l
  gather_last i l h f = rw (upto_none v i n h) (maximal_self l f)

  -- a page looked for
  module _ (i p : ℕ) where
    pub seek_miss : (x : ZeroExtent) → i < n → x ≡ at v i → within x p ≡ false → covers (upto v i n) p ≡ covers (upto v (i + 1) n) p
    seek_miss x h e f = rw (upto_more v i n h, ← e, f)

    pub seek_hit : (x : ZeroExtent) → i < n → x ≡ at v i → within x p ≡ true → covers (upto v i n) p ≡ true
    seek_hit x h e f = rw (upto_more v i n h, ← e, f)

    pub seek_last : n ≤ i → covers (upto v i n) p ≡ false
    seek_last h = rw (upto_none v i n h)

-- ## Whether runs are normalized

empty_one : (x : ZeroExtent) → x.end ≤ x.start → normalized (x ∷ []) ≡ false
unfolding normalized
empty_one x k = le-ltb _ _ k

empty_more : (x y : ZeroExtent) (l : List ZeroExtent) → x.end ≤ x.start → normalized (x ∷ y ∷ l) ≡ false
unfolding normalized
empty_more x y l k = rw (le-ltb _ _ k)

module _ (w : List ℕ) (i n : ℕ) where
  pub tidy_last : n ≤ i → normalized (upto w i n) ≡ true
  unfolding normalized
  tidy_last h = rw (upto_none w i n h)

  module _ (x : ZeroExtent) (h : i < n) (e : x ≡ at w i) where
    pub tidy_empty : x.end ≤ x.start → normalized (upto w i n) ≡ false
    tidy_empty k = rw (upto_more w i n h, ← e) (go (upto w (i + 1) n))
      where
        go : (l : List ZeroExtent) → normalized (x ∷ l) ≡ false
        go [] = empty_one x k
        go (y ∷ l) = empty_more x y l k

    pub tidy_one : i + 1 ≡ n → x.start < x.end → normalized (upto w i n) ≡ true
    unfolding normalized
    tidy_one k g = rw (upto_more w i n h, upto_none w (i + 1) n (omega arith), ← e) (lt-ltb _ _ g)

    module _ (y : ZeroExtent) (j : i + 1 < n) (d : y ≡ at w (i + 1)) where
      pub tidy_near : y.start ≤ x.end → normalized (upto w i n) ≡ false
      unfolding normalized
      tidy_near k = rw (upto_more w i n h, ← e, upto_more w (i + 1) n j, ← d, le-ltb _ _ k) (and-false (ltb x.start x.end))

      pub tidy_step : x.start < x.end → x.end < y.start → normalized (upto w i n) ≡ normalized (upto w (i + 1) n)
      unfolding normalized
      tidy_step g k = rw (upto_more w i n h, ← e, upto_more w (i + 1) n j, lt-ltb _ _ g, lt-ltb _ _ (rw d at k))

-- ## Runs moved as numbers

numbers_upto : (w : List ℕ) (j n : ℕ) → j ≤ n → n * 2 ≤ length w → numbers_of (upto w j n) ≡ take (n * 2 - j * 2) (drop (j * 2) w)
unfolding upto
numbers_upto w j n g h =
    let v : List ℕ = take ((n - j) * 2) (drop (j * 2) w) in
    let e : (n - j) * 2 ≡ n * 2 - j * 2 = omega arith in
    let l : length v ≡ (n - j) * 2 = omega (arith, length-take ((n - j) * 2) (drop (j * 2) w), length-drop (j * 2) w) in
    ap numbers_of (seg_runs w j (n - j) (omega arith)) ∙ numbers_runs v (n - j) l ∙ ap (λ (k : ℕ). take k (drop (j * 2) w)) e

-- the runs from j on, moved down to o
pub moved_down : (w : List ℕ) (o j n : ℕ) → o ≤ j → j ≤ n → n * 2 ≤ length w → out (copy_within w (j * 2) (n * 2) (o * 2)) (o + (n - j)) ≡ write w o (upto w j n)
moved_down w o j n f g h =
    let k : o * 2 + (n * 2 - j * 2) ≡ (o + (n - j)) * 2 = omega arith in
    let a : write w o (upto w j n) ≡ out (take (o * 2) w ++ (numbers_of (upto w j n) ++ drop ((o + length (upto w j n)) * 2) w)) (o + length (upto w j n)) = write_all w o (upto w j n) (omega (arith, length-upto w j n)) in
    sym (a ∙ rw (length-upto w j n, numbers_upto w j n g h, ← k) (ap (λ (v : List ℕ). out v (o + (n - j))) (sym (append_assoc (take (o * 2) w) _ _))))

-- one run stored
put_all : (v : List ℕ) (i : ℕ) (x : ZeroExtent) → i * 2 + 1 < length v → put v i x ≡ take (i * 2) v ++ (x.start ∷ x.end ∷ drop (i * 2 + 2) v)
put_all v i x h =
    let e : (i + 1) * 2 ≡ i * 2 + 2 = omega arith in
    ap (λ (o : Out). o.work) (sym (write_cons v i x [] ∙ write_nil (put v i x) (i + 1)) ∙ write_all v i (x ∷ []) (omega arith)) ∙ rw e

-- room for one run before the runs from i on
module _ (w : List ℕ) (i n : ℕ) (g : i ≤ n) (h : n * 2 + 1 < length w) where
  behind : List ℕ
  behind = take (n * 2 - i * 2) (drop (i * 2) w) ++ drop ((n + 1) * 2) w

  roomed : copy_within w (i * 2) (n * 2) (i * 2 + 2) ≡ take (i * 2 + 2) w ++ behind
  unfolding behind
  roomed =
      let k : i * 2 + 2 + (n * 2 - i * 2) ≡ (n + 1) * 2 = omega arith in
      append_assoc (take (i * 2 + 2) w) (take (n * 2 - i * 2) (drop (i * 2) w)) (drop (i * 2 + 2 + (n * 2 - i * 2)) w) ∙ rw k

  before_room : length (take (i * 2 + 2) w) ≡ i * 2 + 2
  before_room = omega (arith, length-take (i * 2 + 2) w)

  room_taken : take (i * 2) (take (i * 2 + 2) w ++ behind) ≡ take (i * 2) w
  room_taken = take-append-le (i * 2) (take (i * 2 + 2) w) behind (omega (arith, before_room)) ∙ take-take (i * 2) (i * 2 + 2) w (omega arith)

  room_dropped : drop (i * 2 + 2) (take (i * 2 + 2) w ++ behind) ≡ behind
  room_dropped = ap (λ (k : ℕ). drop k (take (i * 2 + 2) w ++ behind)) (sym before_room) ∙ drop-append_seam (take (i * 2 + 2) w) behind

  -- the runs from i on, moved up by one, and x before them
  pub moved_up : (x : ZeroExtent) → out (put (copy_within w (i * 2) (n * 2) (i * 2 + 2)) i x) (n + 1) ≡ write w i (x ∷ upto w i n)
  unfolding behind
  moved_up x =
      let l : length (upto w i n) ≡ n - i = length-upto w i n in
      let c : i + suc (length (upto w i n)) ≡ n + 1 = omega arith in
      let v : List ℕ = take (i * 2 + 2) w ++ behind in
      let room : i * 2 + 1 < length v = omega (arith, before_room, length-append (take (i * 2 + 2) w) behind) in
      let a : write w i (x ∷ upto w i n) ≡ out (take (i * 2) w ++ (x.start ∷ x.end ∷ (numbers_of (upto w i n) ++ drop ((i + suc (length (upto w i n))) * 2) w))) (i + suc (length (upto w i n))) = write_all w i (x ∷ upto w i n) (omega arith) in
      let b : put v i x ≡ take (i * 2) w ++ (x.start ∷ x.end ∷ behind) = put_all v i x room ∙ rw (room_taken, room_dropped) in
      rw roomed (sym (a ∙ rw (c, numbers_upto w i n g (omega arith)) (ap (λ (u : List ℕ). out u (n + 1)) (sym b))))

-- ## The place among pairs of numbers

-- the pair of numbers ends before page p
abbrev pub ends_before : ℕ → List ℕ → Bool
ends_before p pair = ltb (get_or pair 1 0) p

pair_ends : (w : List ℕ) (n k : ℕ) (d : List ℕ) → k < n → n * 2 ≤ length w → get_or (get_or (first_chunks 2 n w) k d) 1 0 ≡ (at w k).end
unfolding at
pair_ends w zero k d h g = absurd (omega arith)
pair_ends w (suc n) zero d h g = get_or-take 2 w 1 0 (omega arith)
pair_ends w (suc n) (suc k) d h g =
    let e : 2 + (k * 2 + 1) ≡ suc k * 2 + 1 = omega arith in
    pair_ends (drop 2 w) n k d (omega arith) (omega (arith, length-drop 2 w)) ∙ get_or-drop 2 w (k * 2 + 1) 0 ∙ ap (λ (i : ℕ). get_or w i 0) e

length-pairs : (w : List ℕ) (n : ℕ) → length (first_chunks 2 n w) ≡ n
length-pairs w zero = refl
length-pairs w (suc n) = ap suc (length-pairs (drop 2 w) n)

module _ (w : List ℕ) (n p : ℕ) (h : n * 2 ≤ length w) (f : normalized (upto w 0 n) ≡ true) where
  pairs : List (List ℕ)
  pairs = first_chunks 2 n (take (n * 2) w)

  pair-end : (k : ℕ) (d : List ℕ) → k < n → get_or (get_or pairs k d) 1 0 ≡ (at w k).end
  unfolding pairs at
  pair-end k d g =
      let l : length (take (n * 2) w) ≡ n * 2 = omega (arith, length-take (n * 2) w) in
      pair_ends (take (n * 2) w) n k d g (omega arith) ∙ get_or-take (n * 2) w (k * 2 + 1) 0 (omega arith)

  ends-before_place : (k : ℕ) (d : List ℕ) → k < n → ends_before p (get_or pairs k d) ≡ true → k < place p (upto w 0 n)
  ends-before_place k d g e =
      let t : (at w k).end < p = rw (pair-end k d g) at (ltb-true _ _ e) in
      place_up w n p k (at w k) g refl f t

  ends-from_place : (k : ℕ) (d : List ℕ) → k < n → ends_before p (get_or pairs k d) ≡ false → place p (upto w 0 n) ≤ k
  ends-from_place k d g e =
      let t : p ≤ (at w k).end = rw (pair-end k d g) at (ltb-false _ _ e) in
      place_down w n p k (at w k) g refl t

  -- those that end before the page come first
  pub pairs_partitioned : IsPartitionedBy (ends_before p) (first_chunks 2 n (take (n * 2) w))
  unfolding pairs
  pairs_partitioned i j d g k e =
      let m : j < n = omega (arith, length-pairs (take (n * 2) w) n) in
      let later : j < place p (upto w 0 n) = ends-before_place j d m e in
      split (ends_before p (get_or pairs i d)) (λ t. t) (λ u. let sooner : place p (upto w 0 n) ≤ i = ends-from_place i d (omega arith) u in absurd (omega arith))

  -- and as many as they are is the place
  pub pairs_place : (i : ℕ) → i ≤ n → IsPartitionPoint (λ (y : List ℕ). ends_before p y ≡ true) (λ (y : List ℕ). ends_before p y ≡ false) (first_chunks 2 n (take (n * 2) w)) i → i ≡ place p (upto w 0 n)
  unfolding pairs
  pairs_place i g q =
      let l : length (first_chunks 2 n (take (n * 2) w)) ≡ n = length-pairs (take (n * 2) w) n in
      let low : i ≤ place p (upto w 0 n) = ⊎_elim
      (λ (z : i ≤ 0). omega arith)
      (λ (z : 0 < i). let k : i - 1 < n = omega arith in let b : i - 1 < place p (upto w 0 n) = ends-before_place (i - 1) [] k (q.0 (i - 1) [] (omega arith) (omega arith)) in omega arith)
      (le_or_lt i 0) in
      let high : place p (upto w 0 n) ≤ i = ⊎_elim
      (λ (z : n ≤ i). omega (arith, place_le w n p))
      (λ (z : i < n). ends-from_place i [] z (q.1 i [] (omega arith) (omega arith)))
      (le_or_lt n i) in
      omega arith
