-- The laws of sets of pages: maximal runs are normalized, cover the same pages, and are the only list that does.
use Rattle.std.specs.Prelude.{ℕ, suc, ◌≤◌, ◌≡◌, refl, Bool, true, false, not, ◌&&◌, ◌||◌, List, [], ◌∷◌, ◌++◌, ◌⊎◌, ◌↔◌, length, ltb, leb, eqb}
use Rattle.std.proofs.Common.{sym, ap, ◌∙◌, true≢false, inl, inr, ⊎_elim, arith, ltb-true, leb-true, eqb-true, lt-ltb, le-leb}
use Rattle.std.proofs.Math.Bool.{and-true, and-false}
use Rattle.std.proofs.lemmas.Bool.{eqb-false}
use Rattle.meta.specs.declared.ZeroExtent.{ZeroExtent}
use Rattle.meta.specs.Runs.{normalized}
use Rattle.runs.specs.Sets.{within, covers, maximal, around, without, remove}
use Rattle.runs.specs.Members.{Has, In, From, le_or_lt, iff_trans, unique, add_from, add_in, add_none, add-length, remove_from, remove_in, remove-length}

-- a case split that keeps the equation
pub split {ℓ} : {X : Type ℓ} (b : Bool) → (b ≡ true → X) → (b ≡ false → X) → X
split true t f = t refl
split false t f = f refl

pub both : (a b : Bool) → (a && b) ≡ true → (a ≡ true) × (b ≡ true)
both true b e = (refl, e)
both false b e = (e, absurd (true≢false (sym e)))

-- two tests that hold together are one
alike : (a b : Bool) → (a ≡ true → b ≡ true) → (b ≡ true → a ≡ true) → a ≡ b
alike true b f g = sym (f refl)
alike false true f g = g refl
alike false false f g = refl

-- ## The tests as facts

pub within_has : (x : ZeroExtent) (p : ℕ) → within x p ≡ true → Has p x
unfolding within
within_has x p e = let h = both (leb x.start p) (ltb p x.end) e in (leb-true _ _ h.0, ltb-true _ _ h.1)

pub has_within : (x : ZeroExtent) (p : ℕ) → Has p x → within x p ≡ true
unfolding within
has_within x p h = rw (le-leb _ _ h.0, lt-ltb _ _ h.1)

pub covers_in : (l : List ZeroExtent) (p : ℕ) → covers l p ≡ true → In p l
covers_in [] p e = absurd (true≢false (sym e))
covers_in (x ∷ l) p e = split (within x p) (λ t. inl (within_has x p t)) (λ f. inr (covers_in l p (rw f at e)))

pub in_covers : (l : List ZeroExtent) (p : ℕ) → In p l → covers l p ≡ true
in_covers [] p x' = elim x' [ ]
in_covers (x ∷ l) p (inl h) = rw (has_within x p h)
in_covers (x ∷ l) p (inr h) = split (within x p) (λ t. rw t) (λ f. rw f (in_covers l p h))

same_in : (l k : List ZeroExtent) → ((p : ℕ) → covers l p ≡ covers k p) → (p : ℕ) → In p l → In p k
same_in l k s p h = covers_in k p (sym (s p) ∙ in_covers l p h)

same_covers : (l k : List ZeroExtent) (p : ℕ) → In p l ↔ In p k → covers l p ≡ covers k p
same_covers l k p s = alike _ _ (λ e. in_covers k p (s.0 (covers_in l p e))) (λ e. in_covers l p (s.1 (covers_in k p e)))

normalized_more : (m : ℕ) (x : ZeroExtent) (l : List ZeroExtent) → m ≤ x.start → normalized (x ∷ l) ≡ true → From m (x ∷ l)
unfolding normalized
normalized_more m x [] h e = (h, ltb-true _ _ e, tt)
normalized_more m x (y ∷ l) h e =
    let a = both (ltb x.start x.end) _ e in
    let b = both (ltb x.end y.start) _ a.1 in
    (h, ltb-true _ _ a.0, normalized_more (suc x.end) y l (ltb-true _ _ b.0) b.1)

pub normalized_from : (l : List ZeroExtent) → normalized l ≡ true → From 0 l
normalized_from [] e = tt
normalized_from (x ∷ l) e = normalized_more 0 x l (omega arith) e

pub from_normalized : (m : ℕ) (l : List ZeroExtent) → From m l → normalized l ≡ true
unfolding normalized
from_normalized m [] f = refl
from_normalized m (x ∷ []) f = lt-ltb _ _ f.1
from_normalized m (x ∷ y ∷ l) f = rw (lt-ltb _ _ f.1, lt-ltb x.end y.start f.2.0) (from_normalized (suc x.end) (y ∷ l) f.2)

-- ## Maximal runs

maximal_from : (l : List ZeroExtent) → From 0 (maximal l)
maximal_from [] = tt
maximal_from (x ∷ l) = add_from x (maximal l) (maximal_from l)

maximal_in : (l : List ZeroExtent) (p : ℕ) → In p (maximal l) ↔ In p l
maximal_in [] p = (λ h. h, λ h. h)
maximal_in (x ∷ l) p =
    let s = add_in p x (maximal l) (maximal_from l) in
    let r = maximal_in l p in
    (λ h. ⊎_elim inl (λ i. inr (r.0 i)) (s.0 h), λ h. s.1 (⊎_elim inl (λ i. inr (r.1 i)) h))

pub maximal_normalized : (l : List ZeroExtent) → normalized (maximal l) ≡ true
maximal_normalized l = from_normalized 0 (maximal l) (maximal_from l)

pub maximal_covers : (l : List ZeroExtent) (p : ℕ) → covers (maximal l) p ≡ covers l p
maximal_covers l p = same_covers (maximal l) l p (maximal_in l p)

-- a set has one normalized list
pub normalized_unique : (l k : List ZeroExtent) → normalized l ≡ true → normalized k ≡ true → ((p : ℕ) → covers l p ≡ covers k p) → l ≡ k
normalized_unique l k f g s = unique 0 l k (normalized_from l f) (normalized_from k g) (λ p. (same_in l k s p, same_in k l (λ q. sym (s q)) p))

-- which are its maximal runs
pub maximal_self : (l : List ZeroExtent) → normalized l ≡ true → maximal l ≡ l
maximal_self l f = normalized_unique (maximal l) l (maximal_normalized l) f (maximal_covers l)

pub maximal_alike : (l k : List ZeroExtent) → ((p : ℕ) → covers l p ≡ covers k p) → maximal l ≡ maximal k
maximal_alike l k s = normalized_unique _ _ (maximal_normalized l) (maximal_normalized k) (λ p. maximal_covers l p ∙ s p ∙ sym (maximal_covers k p))

-- a list may be put in the place of another that denotes the same set
pub maximal_again : (l : List ZeroExtent) → maximal (maximal l) ≡ maximal l
maximal_again l = maximal_self (maximal l) (maximal_normalized l)

-- an empty run is no page
pub maximal_empty : (x : ZeroExtent) (l : List ZeroExtent) → x.end ≤ x.start → maximal (x ∷ l) ≡ maximal l
maximal_empty x l h = add_none x (maximal l) h

-- a run more makes at most one run more
pub maximal_more : (x : ZeroExtent) (l : List ZeroExtent) → length (maximal (x ∷ l)) ≤ suc (length (maximal l))
maximal_more x l = add-length x (maximal l)

pub maximal-length : (l : List ZeroExtent) → length (maximal l) ≤ length l
maximal-length [] = omega arith
maximal-length (x ∷ l) = let r : length (maximal l) ≤ length l = maximal-length l in omega (arith, maximal_more x l)

pub covers_append : (l k : List ZeroExtent) (p : ℕ) → covers (l ++ k) p ≡ (covers l p || covers k p)
covers_append [] k p = refl
covers_append (x ∷ l) k p = split (within x p) (λ t. rw t) (λ f. rw f (covers_append l k p))

-- ## All pages but one

in_append : (q : ℕ) (l k : List ZeroExtent) → In q (l ++ k) ↔ (In q l ⊎ In q k)
in_append q [] k = (inr, ⊎_elim absurd (λ h. h))
in_append q (x ∷ l) k =
    let r = in_append q l k in (
      ⊎_elim (λ h. inl (inl h)) (λ i. ⊎_elim (λ a. inl (inr a)) inr (r.0 i)),
      ⊎_elim (⊎_elim inl (λ a. inr (r.1 (inl a)))) (λ b. inr (r.1 (inr b))),
    )

around_in : (p q : ℕ) (x : ZeroExtent) → In q (around p x) ↔ (Has q x × (q ≡ p → ⊥))
unfolding around
around_in p q x =
    split (within x p)
    (λ t. let h : Has p x = within_has x p t in
    rw t (
      ⊎_elim (λ a. ((omega arith, omega arith), omega arith)) (⊎_elim (λ b. ((omega arith, omega arith), omega arith)) absurd),
      λ w. ⊎_elim (λ u. inr (inl (omega (arith, w.1)))) (λ u. inl (w.0.0, u)) (le_or_lt p q),
    ))
    (λ f. rw f (
      ⊎_elim (λ a. (a, λ e. true≢false (sym (has_within x p (omega arith)) ∙ f))) absurd,
      λ w. inl w.0,
    ))

without_in : (p q : ℕ) (l : List ZeroExtent) → In q (without p l) ↔ (In q l × (q ≡ p → ⊥))
without_in p q [] = (absurd, λ w. w.0)
without_in p q (x ∷ l) =
    let a = in_append q (around p x) (without p l) in
    let h = around_in p q x in
    let r = without_in p q l in (
      λ i. ⊎_elim (λ u. (inl (h.0 u).0, (h.0 u).1)) (λ v. (inr (r.0 v).0, (r.0 v).1)) (a.0 i),
      λ w. a.1 (⊎_elim (λ u. inl (h.1 (u, w.1))) (λ v. inr (r.1 (v, w.1))) w.0),
    )

-- the page p is in no run any more, and every other page is where it was
pub without_covers : (p q : ℕ) (l : List ZeroExtent) → covers (without p l) q ≡ (covers l q && not (eqb q p))
without_covers p q l =
    let r = without_in p q l in
    split (eqb q p)
    (λ t. rw t (split (covers (without p l) q) (λ e. absurd ((r.0 (covers_in (without p l) q e)).1 (eqb-true q p t))) (λ f. f ∙ sym (and-false (covers l q)))))
    (λ f. rw f (and_true_at (covers l q) (same_covers (without p l) l q (λ i. (r.0 i).0, λ i. r.1 (i, eqb-false q p f)))))
  where
    and_true_at : {a : Bool} (b : Bool) → a ≡ b → a ≡ (b && true)
    and_true_at b e = e ∙ sym (and-true b)

pub without_alike : (p : ℕ) (l k : List ZeroExtent) → ((q : ℕ) → covers l q ≡ covers k q) → (q : ℕ) → covers (without p l) q ≡ covers (without p k) q
without_alike p l k s q = without_covers p q l ∙ ap (λ (b : Bool). b && not (eqb q p)) (s q) ∙ sym (without_covers p q k)

-- of normalized runs
pub maximal_without : (p : ℕ) (l : List ZeroExtent) → normalized l ≡ true → maximal (without p l) ≡ remove p l
maximal_without p l f =
    let g = normalized_from l f in
    unique 0 _ _ (maximal_from (without p l)) (remove_from 0 p l g)
    (λ q. iff_trans (maximal_in (without p l) q) (iff_trans (without_in p q l) (let r = remove_in 0 p q l g in (r.1, r.0))))

-- a page less makes at most one run more
pub maximal_less : (p : ℕ) (l : List ZeroExtent) → normalized l ≡ true → length (maximal (without p l)) ≤ suc (length l)
maximal_less p l f = rw (maximal_without p l f) (remove-length p l)
