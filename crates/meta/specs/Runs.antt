-- Runs of zero pages, and when a list of them is normalized.
use Rattle.std.specs.Prelude.{◌≡◌, refl, ℕ, zero, suc, ◌+◌, ◌-◌, ◌*◌, ◌≤◌, ◌<◌, Bool, true, false, ◌&&◌, List, [], ◌∷◌, ltb, drop, get_or}
use Rattle.std.proofs.Common.{sym, ap, ◌∙◌, arith, true≢false, drop-drop, get_or-drop, lt-ltb, le-ltb}
use Rattle.memory.specs.Laws.{split}
use Rattle.words.specs.Words.{word_at, word_at-drop, word_at_alike}
use Rattle.meta.specs.declared.ZeroExtent.{ZeroExtent}

abbrev pub run : ℕ → ℕ → ZeroExtent
run a b = record { start = a; end = b }

-- 01: "A run list is *normalized* when starts are below ends and each start is above the end before it."
unfoldable pub normalized : List ZeroExtent → Bool
normalized [] = true
normalized (x ∷ []) = ltb x.start x.end
normalized (x ∷ y ∷ l) = ltb x.start x.end && (ltb x.end y.start && normalized (y ∷ l))

-- runs in a list of numbers, two a run: start, then end; a last number with no end is no run
abbrev pub runs_of : List ℕ → List ZeroExtent
runs_of [] = []
runs_of (a ∷ []) = []
runs_of (a ∷ b ∷ l) = run a b ∷ runs_of l

abbrev pub numbers_of : List ZeroExtent → List ℕ
numbers_of [] = []
numbers_of (x ∷ l) = x.start ∷ x.end ∷ numbers_of l

-- n runs in bytes, 16 bytes a run
abbrev pub runs_in : ℕ → List ℕ → List ZeroExtent
runs_in zero l = []
runs_in (suc n) l = run (word_at 0 l) (word_at 8 l) ∷ runs_in n (drop 16 l)

-- ## Laws

-- the first run is not empty, and the second, if there is one, starts above its end
unfoldable pub head_normalized : List ZeroExtent → Bool
head_normalized [] = true
head_normalized (x ∷ []) = ltb x.start x.end
head_normalized (x ∷ y ∷ l) = ltb x.start x.end && ltb x.end y.start

pub normalized_nil : normalized [] ≡ true
unfolding normalized
normalized_nil = refl

pub normalized_on : (x : ZeroExtent) (l : List ZeroExtent) → head_normalized (x ∷ l) ≡ true → normalized (x ∷ l) ≡ normalized l
unfolding normalized head_normalized
normalized_on x [] h = h
normalized_on x (y ∷ l) h = split (ltb x.start x.end)
    (λ t. split (ltb x.end y.start) (λ u. rw (t, u)) (λ f. absurd (true≢false (sym h ∙ rw (t, f)))))
    (λ f. absurd (true≢false (sym h ∙ rw f)))

pub normalized_off : (x : ZeroExtent) (l : List ZeroExtent) → head_normalized (x ∷ l) ≡ false → normalized (x ∷ l) ≡ false
unfolding normalized head_normalized
normalized_off x [] h = h
normalized_off x (y ∷ l) h = split (ltb x.start x.end)
    (λ t. split (ltb x.end y.start) (λ u. absurd (true≢false (sym (rw (t, u)) ∙ h))) (λ f. rw (t, f)))
    (λ f. rw f)

-- run i of the bytes
abbrev pub run_at : List ℕ → ℕ → ZeroExtent
run_at l i = run (word_at (i * 16) l) (word_at (i * 16 + 8) l)

module _ (n i : ℕ) (l : List ℕ) where
  -- the runs from run i on
  pub runs_in-from : i < n → runs_in (n - i) (drop (i * 16) l) ≡ run_at l i ∷ runs_in (n - (i + 1)) (drop ((i + 1) * 16) l)
  runs_in-from h =
      let e : n - i ≡ suc (n - (i + 1)) = omega arith in
      let d : i * 16 + 16 ≡ (i + 1) * 16 = omega arith in
      let z : i * 16 + 0 ≡ i * 16 = omega arith in
      rw (e, word_at-drop (i * 16) 0 l, word_at-drop (i * 16) 8 l, z, drop-drop 16 (i * 16) l, d)

  pub runs_in-end : n ≤ i → runs_in (n - i) (drop (i * 16) l) ≡ []
  runs_in-end h = let e : n - i ≡ 0 = omega arith in rw e

empty_head : (x : ZeroExtent) (r : List ZeroExtent) → x.end ≤ x.start → head_normalized (x ∷ r) ≡ false
unfolding head_normalized
empty_head x [] k = le-ltb x.start x.end k
empty_head x (y ∷ r) k = rw (le-ltb x.start x.end k)

full_head : (x y : ZeroExtent) (r : List ZeroExtent) → x.start < x.end → head_normalized (x ∷ y ∷ r) ≡ ltb x.end y.start
unfolding head_normalized
full_head x y r k = rw (lt-ltb x.start x.end k)

-- whether a run is apart from the next, by the numbers that were read
module _ (n i : ℕ) (l : List ℕ) (x : ZeroExtent) (is : x ≡ run_at l i) where
  pub apart_empty : i < n → x.end ≤ x.start → head_normalized (runs_in (n - i) (drop (i * 16) l)) ≡ false
  apart_empty h k = rw (runs_in-from n i l h, ← is) (empty_head x (runs_in (n - (i + 1)) (drop ((i + 1) * 16) l)) k)

  pub apart_last : i + 1 ≡ n → x.start < x.end → head_normalized (runs_in (n - i) (drop (i * 16) l)) ≡ true
  unfolding head_normalized
  apart_last h k = rw (runs_in-from n i l (omega arith), ← is, runs_in-end n (i + 1) l (omega arith)) (lt-ltb x.start x.end k)

  pub apart_next : (y : ZeroExtent) → y ≡ run_at l (i + 1) → i + 1 < n → x.start < x.end
      → head_normalized (runs_in (n - i) (drop (i * 16) l)) ≡ ltb x.end y.start
  apart_next y next h k =
      let two : runs_in (n - i) (drop (i * 16) l) ≡ x ∷ y ∷ runs_in (n - (i + 1 + 1)) (drop ((i + 1 + 1) * 16) l) =
      runs_in-from n i l (omega arith) ∙ (λ j. sym is j ∷ (runs_in-from n (i + 1) l h ∙ (λ t. sym next t ∷ runs_in (n - (i + 1 + 1)) (drop ((i + 1 + 1) * 16) l))) j) in
      ap head_normalized two ∙ full_head x y (runs_in (n - (i + 1 + 1)) (drop ((i + 1 + 1) * 16) l)) k

-- a turn of the loop over a run list
module _ (n i : ℕ) (l : List ℕ) (h : i < n) where
  pub normalized_turn : head_normalized (runs_in (n - i) (drop (i * 16) l)) ≡ true
      → normalized (runs_in (n - i) (drop (i * 16) l)) ≡ normalized (runs_in (n - (i + 1)) (drop ((i + 1) * 16) l))
  normalized_turn t = rw (runs_in-from n i l h) (normalized_on _ _ (rw (runs_in-from n i l h) at t))

  pub normalized_stop : head_normalized (runs_in (n - i) (drop (i * 16) l)) ≡ false → normalized (runs_in (n - i) (drop (i * 16) l)) ≡ false
  normalized_stop t = rw (runs_in-from n i l h) (normalized_off _ _ (rw (runs_in-from n i l h) at t))

-- runs are alike where their bytes are
pub runs_in-alike : (n : ℕ) (a b : List ℕ) → ((i : ℕ) → i < n * 16 → get_or a i 0 ≡ get_or b i 0) → runs_in n a ≡ runs_in n b
runs_in-alike zero a b h = refl
runs_in-alike (suc n) a b h =
    let x : word_at 0 a ≡ word_at 0 b = word_at_alike 0 a b (λ i lo hi. h i (omega arith)) in
    let y : word_at 8 a ≡ word_at 8 b = word_at_alike 8 a b (λ i lo hi. h i (omega arith)) in
    let r : runs_in n (drop 16 a) ≡ runs_in n (drop 16 b) = runs_in-alike n (drop 16 a) (drop 16 b) (λ i k. get_or-drop 16 a i 0 ∙ h (16 + i) (omega arith) ∙ sym (get_or-drop 16 b i 0)) in
    λ j. run (x j) (y j) ∷ r j
