-- Pages in runs, as facts: which pages a list of runs has, where it starts, and that a set has one normalized list.
use Rattle.std.specs.Prelude.{ℕ, zero, suc, ◌+◌, ◌≤◌, ◌<◌, ◌≡◌, refl, List, [], ◌∷◌, ◌⊎◌, ◌↔◌, length}
use Rattle.std.proofs.Common.{sym, inl, inr, ⊎_elim, arith, lt-ltb, le-ltb}
use Rattle.meta.specs.declared.ZeroExtent.{ZeroExtent}
use Rattle.meta.specs.Runs.{run}
use Rattle.runs.specs.Sets.{join, merge, insert, add, piece, remove}

-- page p is in the run x
abbrev pub Has : ℕ → ZeroExtent → Type 0
Has p x = (x.start ≤ p) × (p < x.end)

-- page p is in one of the runs
abbrev pub In : ℕ → List ZeroExtent → Type 0
In p [] = ⊥
In p (x ∷ l) = Has p x ⊎ In p l

-- the runs are normalized and start at m or after
abbrev pub From : ℕ → List ZeroExtent → Type 0
From m [] = Unit {0}
From m (x ∷ l) = (m ≤ x.start) × (x.start < x.end) × From (suc x.end) l

-- of two numbers one is at most the other, or greater
pub le_or_lt : (a b : ℕ) → (a ≤ b) ⊎ (b < a)
le_or_lt zero b = inl (omega arith)
le_or_lt (suc a) zero = inr (omega arith)
le_or_lt (suc a) (suc b) = ⊎_elim (λ p. inl (omega arith)) (λ q. inr (omega arith)) (le_or_lt a b)

-- ## The definitions, case by case

pub merge_stop : (r x : ZeroExtent) (l : List ZeroExtent) → r.end < x.start → merge r (x ∷ l) ≡ r ∷ x ∷ l
unfolding merge
merge_stop r x l h = rw (lt-ltb _ _ h)

pub merge_join : (r x : ZeroExtent) (l : List ZeroExtent) → x.start ≤ r.end → merge r (x ∷ l) ≡ merge (join r x) l
unfolding merge
merge_join r x l h = rw (le-ltb _ _ h)

pub merge_nil : (r : ZeroExtent) → merge r [] ≡ r ∷ []
unfolding merge
merge_nil r = refl

pub insert_nil : (r : ZeroExtent) → insert r [] ≡ r ∷ []
unfolding insert
insert_nil r = refl

pub insert_skip : (r x : ZeroExtent) (l : List ZeroExtent) → x.end < r.start → insert r (x ∷ l) ≡ x ∷ insert r l
unfolding insert
insert_skip r x l h = rw (lt-ltb _ _ h)

pub insert_here : (r x : ZeroExtent) (l : List ZeroExtent) → r.start ≤ x.end → insert r (x ∷ l) ≡ merge r (x ∷ l)
unfolding insert
insert_here r x l h = rw (le-ltb _ _ h)

-- ## Normalized

pub weaken : (m k : ℕ) (l : List ZeroExtent) → m ≤ k → From k l → From m l
weaken m k [] h f = tt
weaken m k (x ∷ l) h f = (omega arith, f.1, f.2)

pub merge_from : (m : ℕ) (r : ZeroExtent) (l : List ZeroExtent) → m ≤ r.start → r.start < r.end → From m l → From m (merge r l)
merge_from m r [] h k f = rw merge_nil (h, k, tt)
merge_from m r (x ∷ l) h k f =
    ⊎_elim
    (λ j. rw (merge_join r x l j) (merge_from m (join r x) l (omega arith) (omega arith) (weaken m _ l (omega arith) f.2)))
    (λ s. rw (merge_stop r x l s) (h, k, (s, f.1, f.2)))
    (le_or_lt x.start r.end)

pub insert_from : (m : ℕ) (r : ZeroExtent) (l : List ZeroExtent) → m ≤ r.start → r.start < r.end → From m l → From m (insert r l)
insert_from m r [] h k f = rw insert_nil (h, k, tt)
insert_from m r (x ∷ l) h k f =
    ⊎_elim
    (λ j. rw (insert_here r x l j) (merge_from m r (x ∷ l) h k f))
    (λ s. rw (insert_skip r x l s) (f.0, f.1, insert_from (suc x.end) r l (omega arith) k f.2))
    (le_or_lt r.start x.end)

-- the pages of a run and of runs from m on are at m or after
pub in_from : (m p : ℕ) (l : List ZeroExtent) → From m l → In p l → m ≤ p
in_from m p [] f x'' = elim x'' [ ]
in_from m p (x ∷ l) f (inl h) = omega arith
in_from m p (x ∷ l) f (inr h) = let g : suc x.end ≤ p = in_from (suc x.end) p l f.2 h in omega arith

-- ## What is in the set

module _ {A B C : Type 0} where
  pub iff_trans : (A ↔ B) → (B ↔ C) → A ↔ C
  iff_trans f g = (λ a. g.0 (f.0 a), λ c. f.1 (g.1 c))

module _ {A B C J : Type 0} where
  -- what a run that is joined to the first one does to a set
  joined : (J ↔ (A ⊎ B)) → (J ⊎ C) ↔ (A ⊎ (B ⊎ C))
  joined f = (
    ⊎_elim (λ j. ⊎_elim inl (λ b. inr (inl b)) (f.0 j)) (λ c. inr (inr c)),
    ⊎_elim (λ a. inl (f.1 (inl a))) (⊎_elim (λ b. inl (f.1 (inr b))) inr),
  )

  -- what goes in behind the first run
  behind : (J ↔ (A ⊎ C)) → (B ⊎ J) ↔ (A ⊎ (B ⊎ C))
  behind f = (
    ⊎_elim (λ b. inr (inl b)) (λ j. ⊎_elim inl (λ c. inr (inr c)) (f.0 j)),
    ⊎_elim (λ a. inr (f.1 (inl a))) (⊎_elim inl (λ c. inr (f.1 (inr c)))),
  )

module _ {A B : Type 0} where
  flip : (A ↔ B) → B ↔ A
  flip f = (f.1, f.0)

module _ {A B C J K : Type 0} where
  swap : (J ↔ (B ⊎ C)) → (K ↔ (A ⊎ C)) → (A ⊎ J) ↔ (B ⊎ K)
  swap f g = (
    ⊎_elim (λ a. inr (g.1 (inl a))) (λ j. ⊎_elim inl (λ c. inr (g.1 (inr c))) (f.0 j)),
    ⊎_elim (λ b. inr (f.1 (inl b))) (λ k. ⊎_elim inl (λ c. inr (f.1 (inr c))) (g.0 k)),
  )

has_join : (p : ℕ) (r x : ZeroExtent) → x.start ≤ r.end → r.start ≤ x.end → Has p (join r x) ↔ (Has p r ⊎ Has p x)
has_join p r x h k = (
  λ j. ⊎_elim
      (λ u. inr (omega arith))
      (λ u. ⊎_elim (λ v. inl (v, u)) (λ v. inr (omega arith)) (le_or_lt r.start p))
      (le_or_lt r.end p),
  ⊎_elim (λ a. omega arith) (λ b. omega arith),
)

-- the run r is not past the first of the runs, which are normalized
Reach : ZeroExtent → List ZeroExtent → Type 0
Reach r [] = Unit {0}
Reach r (x ∷ l) = (r.start ≤ x.end) × From (suc x.end) l

reach : (k : ℕ) (r : ZeroExtent) (l : List ZeroExtent) → r.start ≤ k → From k l → Reach r l
unfolding Reach
reach k r [] h f = tt
reach k r (x ∷ l) h f = (omega arith, f.2)

merge_in : (p : ℕ) (r : ZeroExtent) (l : List ZeroExtent) → Reach r l → In p (merge r l) ↔ (Has p r ⊎ In p l)
unfolding Reach
merge_in p r [] q = rw merge_nil (λ h. h, λ h. h)
merge_in p r (x ∷ l) q =
    ⊎_elim
    (λ j. rw (merge_join r x l j) (iff_trans (merge_in p (join r x) l (reach (suc x.end) (join r x) l (omega arith) q.1)) (joined (has_join p r x j q.0))))
    (λ s. rw (merge_stop r x l s) (λ h. h, λ h. h))
    (le_or_lt x.start r.end)

pub insert_in : (m p : ℕ) (r : ZeroExtent) (l : List ZeroExtent) → From m l → In p (insert r l) ↔ (Has p r ⊎ In p l)
unfolding Reach
insert_in m p r [] f = rw insert_nil (λ h. h, λ h. h)
insert_in m p r (x ∷ l) f =
    ⊎_elim
    (λ j. rw (insert_here r x l j) (merge_in p r (x ∷ l) (j, f.2)))
    (λ s. rw (insert_skip r x l s) (behind (insert_in (suc x.end) p r l f.2)))
    (le_or_lt r.start x.end)

-- ## One normalized list for a set

-- the first run of one list starts and stops no later than the first of the other, if its pages are the other's
first_le : (m : ℕ) (x y : ZeroExtent) (l k : List ZeroExtent) → From m (x ∷ l) → From m (y ∷ k) → ((p : ℕ) → In p (x ∷ l) → In p (y ∷ k)) → y.start ≤ x.start
first_le m x y l k f g s = in_from y.start x.start (y ∷ k) (omega arith, g.1, g.2) (s x.start (inl (omega arith, f.1)))

-- of two normalized lists that begin at the same page, whose pages are the same, the first runs end at the same page
stop_le : (x y : ZeroExtent) (l k : List ZeroExtent) → From 0 (x ∷ l) → From 0 (y ∷ k) → x.start ≡ y.start → ((p : ℕ) → In p (x ∷ l) → In p (y ∷ k)) → x.end ≤ y.end
stop_le x y l k f g e s =
    ⊎_elim (λ h. h)
    (λ h. ⊎_elim
    (λ a. absurd (omega arith))
    (λ b. let n : suc y.end ≤ y.end = in_from (suc y.end) y.end k g.2 b in absurd (omega arith))
    (s y.end (inl (omega arith, h))))
    (le_or_lt x.end y.end)

-- past the first run, the pages are the rest's
rest_in : (x y : ZeroExtent) (l k : List ZeroExtent) → From (suc x.end) l → x.end ≡ y.end → ((p : ℕ) → In p (x ∷ l) → In p (y ∷ k)) → (p : ℕ) → In p l → In p k
rest_in x y l k f e s p h =
    ⊎_elim (λ a. let n : suc x.end ≤ p = in_from (suc x.end) p l f h in absurd (omega arith)) (λ b. b) (s p (inr h))

run_eq : (x y : ZeroExtent) → x.start ≡ y.start → x.end ≡ y.end → x ≡ y
run_eq x y p q = λ i. record { start = p i; end = q i }

pub unique : (m : ℕ) (l k : List ZeroExtent) → From m l → From m k → ((p : ℕ) → In p l ↔ In p k) → l ≡ k
unique m [] [] f g s = refl
unique m [] (y ∷ k) f g s = absurd ((s y.start).1 (inl (omega arith, g.1)))
unique m (x ∷ l) [] f g s = absurd ((s x.start).0 (inl (omega arith, f.1)))
unique m (x ∷ l) (y ∷ k) f g s =
    let to : (p : ℕ) → In p (x ∷ l) → In p (y ∷ k) = λ p. (s p).0 in
    let back : (p : ℕ) → In p (y ∷ k) → In p (x ∷ l) = λ p. (s p).1 in
    let u : y.start ≤ x.start = first_le m x y l k f g to in
    let v : x.start ≤ y.start = first_le m y x k l g f back in
    let st : x.start ≡ y.start = omega arith in
    let f0 : From 0 (x ∷ l) = (omega arith, f.1, f.2) in
    let g0 : From 0 (y ∷ k) = (omega arith, g.1, g.2) in
    let a : x.end ≤ y.end = stop_le x y l k f0 g0 st to in
    let b : y.end ≤ x.end = stop_le y x k l g0 f0 (sym st) back in
    let sp : x.end ≡ y.end = omega arith in
    let gk : From (suc x.end) k = rw sp g.2 in
    let tl : l ≡ k = unique (suc x.end) l k f.2 gk (λ p. (rest_in x y l k f.2 sp to p, rest_in y x k l g.2 (sym sp) back p)) in
    λ i. run_eq x y st sp i ∷ tl i

-- ## Adding

pub add_none : (r : ZeroExtent) (l : List ZeroExtent) → r.end ≤ r.start → add r l ≡ l
unfolding add
add_none r l h = rw (le-ltb _ _ h)

pub add_some : (r : ZeroExtent) (l : List ZeroExtent) → r.start < r.end → add r l ≡ insert r l
unfolding add
add_some r l h = rw (lt-ltb _ _ h)

pub add_from : (r : ZeroExtent) (l : List ZeroExtent) → From 0 l → From 0 (add r l)
add_from r l f =
    ⊎_elim
    (λ h. rw (add_none r l h) f)
    (λ h. rw (add_some r l h) (insert_from 0 r l (omega arith) h f))
    (le_or_lt r.end r.start)

pub add_in : (p : ℕ) (r : ZeroExtent) (l : List ZeroExtent) → From 0 l → In p (add r l) ↔ (Has p r ⊎ In p l)
add_in p r l f =
    ⊎_elim
    (λ h. rw (add_none r l h) (inr, ⊎_elim (λ w. absurd (omega arith)) (λ i. i)))
    (λ h. rw (add_some r l h) (insert_in 0 p r l f))
    (le_or_lt r.end r.start)

-- ## Removing a page

pub piece_none : (a b : ℕ) (l : List ZeroExtent) → b ≤ a → piece a b l ≡ l
unfolding piece
piece_none a b l h = rw (le-ltb a b h)

pub piece_some : (a b : ℕ) (l : List ZeroExtent) → a < b → piece a b l ≡ run a b ∷ l
unfolding piece
piece_some a b l h = rw (lt-ltb a b h)

piece_from : (m a b : ℕ) (l : List ZeroExtent) → m ≤ a → m ≤ suc b → From (suc b) l → From m (piece a b l)
piece_from m a b l h k f =
    ⊎_elim
    (λ j. rw (piece_none a b l j) (weaken m (suc b) l k f))
    (λ s. rw (piece_some a b l s) (h, s, f))
    (le_or_lt b a)

piece_in : (p a b : ℕ) (l : List ZeroExtent) → In p (piece a b l) ↔ (((a ≤ p) × (p < b)) ⊎ In p l)
piece_in p a b l =
    ⊎_elim
    (λ j. rw (piece_none a b l j) (inr, ⊎_elim (λ w. absurd (omega arith)) (λ i. i)))
    (λ s. rw (piece_some a b l s) (λ h. h, λ h. h))
    (le_or_lt b a)

pub remove_nil : (p : ℕ) → remove p [] ≡ []
unfolding remove
remove_nil p = refl

pub remove_skip : (p : ℕ) (x : ZeroExtent) (l : List ZeroExtent) → x.end ≤ p → remove p (x ∷ l) ≡ x ∷ remove p l
unfolding remove
remove_skip p x l h = rw (le-ltb p x.end h)

pub remove_not : (p : ℕ) (x : ZeroExtent) (l : List ZeroExtent) → p < x.end → p < x.start → remove p (x ∷ l) ≡ x ∷ l
unfolding remove
remove_not p x l h k = rw (lt-ltb p x.end h, lt-ltb p x.start k)

pub remove_here : (p : ℕ) (x : ZeroExtent) (l : List ZeroExtent) → p < x.end → x.start ≤ p → remove p (x ∷ l) ≡ piece x.start p (piece (p + 1) x.end l)
unfolding remove
remove_here p x l h k = rw (lt-ltb p x.end h, le-ltb p x.start k)

pub remove_from : (m p : ℕ) (l : List ZeroExtent) → From m l → From m (remove p l)
remove_from m p [] f = rw remove_nil tt
remove_from m p (x ∷ l) f =
    ⊎_elim
    (λ h. rw (remove_skip p x l h) (f.0, f.1, remove_from (suc x.end) p l f.2))
    (λ h. ⊎_elim
    (λ k. rw (remove_here p x l h k)
    (piece_from m x.start p _ f.0 (omega arith) (piece_from (suc p) (p + 1) x.end l (omega arith) (omega arith) f.2)))
    (λ k. rw (remove_not p x l h k) f)
    (le_or_lt x.start p))
    (le_or_lt x.end p)

-- q is in the set but is not the page p
abbrev Not : ℕ → ℕ → List ZeroExtent → Type 0
Not p q l = In q l × (q ≡ p → ⊥)

pub remove_in : (m p q : ℕ) (l : List ZeroExtent) → From m l → In q (remove p l) ↔ (In q l × (q ≡ p → ⊥))
remove_in m p q [] f = rw remove_nil (λ h. absurd h, λ h. h.0)
remove_in m p q (x ∷ l) f =
    ⊎_elim
    (λ h. rw (remove_skip p x l h) (
      ⊎_elim (λ a. (inl a, omega arith)) (λ i. let j : Not p q l = (remove_in (suc x.end) p q l f.2).0 i in (inr j.0, j.1)),
      λ w. ⊎_elim inl (λ i. inr ((remove_in (suc x.end) p q l f.2).1 (i, w.1))) w.0,
    ))
    (λ h. ⊎_elim
    (λ k. rw (remove_here p x l h k) (
      λ i. ⊎_elim
          (λ a. (inl (omega arith), omega arith))
          (λ j. ⊎_elim
          (λ b. (inl (omega arith), omega arith))
          (λ t. let g : suc x.end ≤ q = in_from (suc x.end) q l f.2 t in (inr t, omega arith))
          ((piece_in q (p + 1) x.end l).0 j))
          ((piece_in q x.start p _).0 i),
      λ w. (piece_in q x.start p _).1 (⊎_elim
          (λ a. ⊎_elim
          (λ u. inr ((piece_in q (p + 1) x.end l).1 (inl (omega (arith, w.1)))))
          (λ u. inl (a.0, u))
          (le_or_lt p q))
          (λ t. inr ((piece_in q (p + 1) x.end l).1 (inr t)))
          w.0),
    ))
    (λ k. rw (remove_not p x l h k) (
      λ i. (i, let g : x.start ≤ q = in_from x.start q (x ∷ l) (omega arith, f.1, f.2) i in omega arith),
      λ w. w.0,
    ))
    (le_or_lt x.start p))
    (le_or_lt x.end p)

-- ## Room: at most one run more

merge-length : (r : ZeroExtent) (l : List ZeroExtent) → length (merge r l) ≤ suc (length l)
merge-length r [] = rw merge_nil (omega arith)
merge-length r (x ∷ l) =
    ⊎_elim
    (λ j. rw (merge_join r x l j) (let h : length (merge (join r x) l) ≤ suc (length l) = merge-length (join r x) l in omega arith))
    (λ s. rw (merge_stop r x l s) (omega arith))
    (le_or_lt x.start r.end)

insert-length : (r : ZeroExtent) (l : List ZeroExtent) → length (insert r l) ≤ suc (length l)
insert-length r [] = rw insert_nil (omega arith)
insert-length r (x ∷ l) =
    ⊎_elim
    (λ j. rw (insert_here r x l j) (merge-length r (x ∷ l)))
    (λ s. rw (insert_skip r x l s) (let h : length (insert r l) ≤ suc (length l) = insert-length r l in omega arith))
    (le_or_lt r.start x.end)

pub add-length : (r : ZeroExtent) (l : List ZeroExtent) → length (add r l) ≤ suc (length l)
add-length r l =
    ⊎_elim
    (λ h. rw (add_none r l h) (omega arith))
    (λ h. rw (add_some r l h) (insert-length r l))
    (le_or_lt r.end r.start)

piece-length : (a b : ℕ) (l : List ZeroExtent) → length (piece a b l) ≤ suc (length l)
piece-length a b l =
    ⊎_elim
    (λ h. rw (piece_none a b l h) (omega arith))
    (λ h. rw (piece_some a b l h) (omega arith))
    (le_or_lt b a)

pub remove-length : (p : ℕ) (l : List ZeroExtent) → length (remove p l) ≤ suc (length l)
remove-length p [] = rw remove_nil (omega arith)
remove-length p (x ∷ l) =
    ⊎_elim
    (λ h. rw (remove_skip p x l h) (let g : length (remove p l) ≤ suc (length l) = remove-length p l in omega arith))
    (λ h. ⊎_elim
    (λ k. rw (remove_here p x l h k) (omega (arith, piece-length x.start p (piece (p + 1) x.end l), piece-length (p + 1) x.end l)))
    (λ k. rw (remove_not p x l h k) (omega arith))
    (le_or_lt x.start p))
    (le_or_lt x.end p)
