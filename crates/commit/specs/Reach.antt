-- The end that memory must reach, as far as numbers go.
use Rattle.std.specs.Prelude.{◌≡◌, refl, ℕ, suc, ◌+◌, ◌*◌, ◌≤◌, ◌<◌, max, Bool, true, false, cond, List, [], ◌∷◌, length, get_or, drop, ltb, Option, Some, None}
use Rattle.std.proofs.Common.{sym, ap, ◌∙◌, add-one, arith, true≢false, drop_of_length-le, drop-cons, ltb-true, ltb-false, lt-ltb, le-ltb}
use Rattle.std.specs.Option.{SomeIff}
use Rattle.runs.specs.SetLaws.{split}
use Rattle.extents.specs.Plan.{below, keep_if}
use Rattle.store.specs.Plan.{required}

unfoldable pub reach : ℕ → Option ℕ
reach n = cond (ltb 18446744073709551615 n) None (Some n)

-- ## Laws

pub reach_at : (n : ℕ) → n ≤ 18446744073709551615 → reach n ≡ Some n
unfolding reach
reach_at n h = rw (le-ltb _ _ h) refl

pub reach_over : (n : ℕ) → 18446744073709551615 < n → reach n ≡ None
unfolding reach
reach_over n h = rw (lt-ltb _ _ h) refl

-- a checked sum
pub sum_reach : (n : ℕ) (r : Option ℕ) → SomeIff r (n < 18446744073709551616) n → r ≡ reach n
sum_reach n (Some x) h = ap Some h.1 ∙ sym (reach_at n (omega (arith, h.0)))
sum_reach n None h = sym (reach_over n (omega (arith, h)))

abbrev number : Option ℕ → ℕ
number (Some n) = n
number None = 0

abbrev is_over : Option ℕ → Bool
is_over (Some n) = false
is_over None = true

-- an end that is a number, and one that is none
pub at_reach : (m n : ℕ) → reach n ≡ Some m → (n ≡ m) × (n ≤ 18446744073709551615)
at_reach m n e =
    split (ltb 18446744073709551615 n)
    (λ t. absurd (true≢false (ap is_over (sym (reach_over n (ltb-true _ _ t)) ∙ e))))
    (λ t. (ap number (sym (reach_at n (ltb-false _ _ t)) ∙ e), ltb-false _ _ t))

pub over_reach : (n : ℕ) → reach n ≡ None → 18446744073709551615 < n
over_reach n e =
    split (ltb 18446744073709551615 n)
    (ltb-true _ _)
    (λ t. absurd (true≢false (ap is_over (sym e ∙ reach_at n (ltb-false _ _ t)))))

module _ (P base : ℕ) where
  -- the first page first
  pub required_first : (n : ℕ) (ns : List ℕ) (e : ℕ) → required P base (n ∷ ns) e ≡ required P base ns (max (base + (n + 1) * P) e)
  required_first n [] e = refl
  required_first n (m ∷ ms) e = omega (arith, required_first n ms e)

  pub below_first : (c n : ℕ) (ns : List ℕ) (e : ℕ) → required P base (below c (n ∷ ns)) e ≡ required P base (below c ns) (required P base (below c (n ∷ [])) e)
  below_first c n ns e = at (ltb n c) where
    at : (b : Bool) → required P base (keep_if b n (below c ns)) e ≡ required P base (below c ns) (required P base (keep_if b n []) e)
    at true = required_first n (below c ns) e
    at false = refl

  pub required_least : (ns : List ℕ) (e : ℕ) → e ≤ required P base ns e
  required_least [] e = omega arith
  required_least (n ∷ ns) e = omega (arith, required_least ns e)

  pub required_none : (c n e : ℕ) → c ≤ n → required P base (below c (n ∷ [])) e ≡ e
  required_none c n e h = rw (le-ltb n c h) refl

  pub required_one : (c n e : ℕ) → n < c → required P base (below c (n ∷ [])) e ≡ max (base + (n + 1) * P) e
  required_one c n e h = rw (lt-ltb n c h) refl

  -- page i and then those after it
  pub required_turn : (c : ℕ) (ns : List ℕ) (i e : ℕ) → i < length ns → required P base (below c (drop i ns)) e ≡ required P base (below c (drop (i + 1) ns)) (required P base (below c (get_or ns i 0 ∷ [])) e)
  required_turn c ns i e h = rw (drop-cons ns i 0 h, add-one i) (below_first c (get_or ns i 0) (drop (suc i) ns) e)

  pub required_end : (c : ℕ) (ns : List ℕ) (e : ℕ) → required P base (below c (drop (length ns) ns)) e ≡ e
  required_end c ns e = rw (drop_of_length-le ns {i = length ns} (omega arith)) refl

  pub turn_over : (c : ℕ) (ns : List ℕ) (i e : ℕ) → i < length ns → reach (required P base (below c (get_or ns i 0 ∷ [])) e) ≡ None → reach (required P base (below c (drop i ns)) e) ≡ None
  turn_over c ns i e h o =
      let first : ℕ = required P base (below c (get_or ns i 0 ∷ [])) e in
      reach_over _ (omega (arith, over_reach first o, required_turn c ns i e h, required_least (below c (drop (i + 1) ns)) first))

  pub turn_at : (c : ℕ) (ns : List ℕ) (i e m : ℕ) → i < length ns → reach (required P base (below c (get_or ns i 0 ∷ [])) e) ≡ Some m → required P base (below c (drop (i + 1) ns)) m ≡ required P base (below c (drop i ns)) e
  turn_at c ns i e m h o =
      let first : ℕ = required P base (below c (get_or ns i 0 ∷ [])) e in
      sym (required_turn c ns i e h ∙ ap (required P base (below c (drop (i + 1) ns))) (at_reach m first o).0)
