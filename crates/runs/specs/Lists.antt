-- The laws of a list of runs that is asked for one run after another: what is left of it from run i on.
use Rattle.std.specs.Prelude.{ℕ, zero, suc, ◌+◌, ◌-◌, ◌*◌, ◌/◌, ◌≤◌, ◌<◌, ◌≡◌, refl, Bool, true, false, ◌||◌, List, [], ◌∷◌, ◌++◌, length, get_or, drop}
use Rattle.std.specs.List.{list_any}
use Rattle.std.proofs.Common.{sym, ap, ◌∙◌, append-nil, drop-cons, drop-drop, get_or-drop, drop_of_length-le, add-one, arith, lt-ltb, le-ltb}
use Rattle.std.proofs.lemmas.Bool.{lt-leb, le-leb}
use Rattle.std.proofs.Math.Bool.{and-false}
use Rattle.meta.specs.declared.ZeroExtent.{ZeroExtent}
use Rattle.meta.specs.Runs.{run, run_at, runs_of, normalized, runs_in-from}
use Rattle.meta.specs.Runs.{runs_in as stored}
use Rattle.runs.specs.Sets.{within, covers, maximal}
use Rattle.runs.specs.SetLaws.{maximal_alike, maximal_self}
use Rattle.runs.specs.Flat.{runs_in, at}
use Rattle.runs.specs.FlatLaws.{turned}

-- a page is in a run, or before it, or behind it
module _ (x : ZeroExtent) (p : ℕ) where
  pub has_page : x.start ≤ p → p < x.end → within x p ≡ true
  unfolding within
  has_page h k = rw (le-leb _ _ h, lt-ltb _ _ k)

  pub page-before : p < x.start → within x p ≡ false
  unfolding within
  page-before h = rw (lt-leb _ _ h)

  pub page-behind : x.end ≤ p → within x p ≡ false
  unfolding within
  page-behind h = rw (le-ltb _ _ h) (and-false _)

-- a list has the page if one of its runs has it
pub any_has : (l : List ZeroExtent) (p : ℕ) → list_any (λ x. within x p) l ≡ covers l p
any_has [] p = refl
any_has (x ∷ l) p = ap (λ (b : Bool). within x p || b) (any_has l p)

-- none are left
module _ (l : List ZeroExtent) (i : ℕ) (h : length l ≤ i) where
  pub rest_none : drop i l ≡ []
  rest_none = drop_of_length-le l {i = i} h

  pub none_has : (p : ℕ) → covers (drop i l) p ≡ false
  none_has p = rw rest_none

  pub none-apart : normalized (drop i l) ≡ true
  unfolding normalized
  none-apart = rw rest_none

  pub all_gathered : (k : List ZeroExtent) → normalized k ≡ true → maximal (drop i l ++ k) ≡ k
  all_gathered k f = rw rest_none (maximal_self k f)

-- x is run i
module _ (l : List ZeroExtent) (i : ℕ) (x : ZeroExtent) (h : i < length l) (e : x ≡ get_or l i (run 0 0)) where
  pub rest_more : drop i l ≡ x ∷ drop (i + 1) l
  rest_more = rw (e, add-one) (drop-cons l i (run 0 0) h)

  pub run_has : (p : ℕ) → within x p ≡ true → covers (drop i l) p ≡ true
  run_has p f = rw (rest_more, f)

  pub run_lacks : (p : ℕ) → within x p ≡ false → covers (drop i l) p ≡ covers (drop (i + 1) l) p
  run_lacks p f = rw (rest_more, f)

  pub run_empty : x.end ≤ x.start → normalized (drop i l) ≡ false
  unfolding normalized
  run_empty k = rw rest_more (empty_first (drop (i + 1) l))
    where
      empty_first : (r : List ZeroExtent) → normalized (x ∷ r) ≡ false
      empty_first [] = le-ltb _ _ k
      empty_first (y ∷ r) = rw (le-ltb _ _ k)

  pub run_last : length l ≤ i + 1 → x.start < x.end → normalized (drop i l) ≡ normalized (drop (i + 1) l)
  unfolding normalized
  run_last k g = rw (rest_more, rest_none l (i + 1) k) (lt-ltb _ _ g)

  -- the runs that are left, with those gathered, make the maximal runs of all: run i moves from the former to the latter
  pub run_gathered : (m k : List ZeroExtent) → k ≡ maximal (x ∷ m) → maximal (drop (i + 1) l ++ k) ≡ maximal (drop i l ++ m)
  run_gathered m k g = rw (rest_more, g) (maximal_alike (drop (i + 1) l ++ maximal (x ∷ m)) (x ∷ (drop (i + 1) l ++ m)) (turned x (drop (i + 1) l) m))

-- and y the next
module _ (l : List ZeroExtent) (i : ℕ) (x y : ZeroExtent) (h : i < length l) (e : x ≡ get_or l i (run 0 0)) (k : i + 1 < length l) (d : y ≡ get_or l (i + 1) (run 0 0)) where
  next_more : drop (i + 1) l ≡ y ∷ drop (i + 1 + 1) l
  next_more = rest_more l (i + 1) y k d

  two-left : drop i l ≡ x ∷ y ∷ drop (i + 1 + 1) l
  two-left = rest_more l i x h e ∙ ap (λ (r : List ZeroExtent). x ∷ r) next_more

  pub run_near : y.start ≤ x.end → normalized (drop i l) ≡ false
  unfolding normalized
  run_near g = rw (two-left, le-ltb _ _ g) (and-false _)

  pub run_apart : x.start < x.end → x.end < y.start → normalized (drop i l) ≡ normalized (drop (i + 1) l)
  unfolding normalized
  run_apart g j = rw (two-left, next_more, lt-ltb _ _ g, lt-ltb _ _ j)

-- none are gathered yet
pub none_gathered : (l : List ZeroExtent) (w : List ℕ) → maximal (l ++ runs_in 0 w) ≡ maximal l
unfolding runs_in
none_gathered l w = ap maximal (append-nil l)

-- ## Runs in numbers

pub length-runs_of : (w : List ℕ) → length (runs_of w) ≡ length w / 2
length-runs_of [] = refl
length-runs_of (a ∷ []) = refl
length-runs_of (a ∷ b ∷ w) = omega (arith, length-runs_of w)

pub runs_of-at : (w : List ℕ) (i : ℕ) → i * 2 + 1 < length w → get_or (runs_of w) i (run 0 0) ≡ at w i
unfolding at
runs_of-at [] i h = absurd (omega arith)
runs_of-at (a ∷ []) i h = absurd (omega arith)
runs_of-at (a ∷ b ∷ w) zero h = refl
runs_of-at (a ∷ b ∷ w) (suc i) h =
    let e : suc i * 2 ≡ suc (suc (i * 2)) = omega arith in
    let f : suc i * 2 + 1 ≡ suc (suc (i * 2 + 1)) = omega arith in
    rw (f, e) (runs_of-at w i (omega arith))

-- ## Runs in bytes

pub length-stored : (n : ℕ) (b : List ℕ) → length (stored n b) ≡ n
length-stored zero b = refl
length-stored (suc n) b = ap suc (length-stored n (drop 16 b))

stored-rest : (n i : ℕ) (b : List ℕ) → drop i (stored n b) ≡ stored (n - i) (drop (i * 16) b)
stored-rest zero zero b = refl
stored-rest zero (suc i) b = let e : 0 - suc i ≡ 0 = omega arith in rw e
stored-rest (suc n) zero b = let e : suc n - 0 ≡ suc n = omega arith in rw e
stored-rest (suc n) (suc i) b =
    let s : 16 + i * 16 ≡ suc i * 16 = omega arith in
    let d : suc n - suc i ≡ n - i = omega arith in
    stored-rest n i (drop 16 b) ∙ rw (drop-drop (i * 16) 16 b, s, d)

pub stored-at : (n i : ℕ) (b : List ℕ) → i < n → get_or (stored n b) i (run 0 0) ≡ run_at b i
stored-at n i b h =
    let z : i + 0 ≡ i = omega arith in
    let t : get_or (drop i (stored n b)) 0 (run 0 0) ≡ get_or (stored n b) i (run 0 0) = get_or-drop i (stored n b) 0 (run 0 0) ∙ rw z in
    sym t ∙ rw (stored-rest n i b, runs_in-from n i b h)

pub stored_fits : (i : ℕ) (b : List ℕ) → i < length (stored (length b / 16) b) → i * 16 + 16 ≤ length b
stored_fits i b h = omega (arith, length-stored (length b / 16) b)
