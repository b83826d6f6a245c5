-- Laws of the readers of lines: what they accept is spelled so, and what is spelled so they accept.
use Rattle.std.specs.Prelude.{◌≡◌, refl, ◌⊎◌, length}
use Rattle.std.proofs.Math.Path.{sym, ap, subst}
use Rattle.std.proofs.Common.{◌∙◌, inl, inr}
use mathlib.Core.List.{List, [], ◌∷◌, ◌++◌, append_assoc}
use Rattle.std.proofs.Math.Logic.{⊎_elim}
use Prim.Native.Nat.{ℕ, zero, suc, ◌≤◌}
use native.Mathlib.Omega.{arith}
use Rattle.meta.specs.declared.ZeroExtent.{ZeroExtent}
use Rattle.meta.specs.Runs.{run}
use Rattle.decimal.specs.Decimal.{decimal}
use Rattle.decimal.specs.Text.{Got, got, wrong, then, skip, number}
use Rattle.decimal.specs.Read.{then_means, digit_low, skip_spelled, skip_means, number_means, number_spelled}
use Rattle.plan_text.specs.Grammar.{Fits, RunFits, All}
use Rattle.plan_line.specs.Values.{ascii, number_value, run_value, lines}
use Rattle.plan_text.specs.Parse.{Section, ended, broken, more, keyed, valued, section}
use Rattle.plan_line.specs.Readers.{read_number, read_run, read_field}

-- ## A line

pub number_line_means : (l : List ℕ) (n : ℕ) (r : List ℕ) → read_number l ≡ got n r → (l ≡ number_value n ++ r) × Fits n
unfolding read_number number_value
number_line_means l n r e =
    let (a, m, p, q) = then_means (number l) (λ n m. then (skip (ascii "\n") m) (λ _ r. got n r)) n r e in
    let (u, s, v, w) = then_means (skip (ascii "\n") m) (λ _ r. got a r) n r q in
    let x : (l ≡ decimal a ++ m) × Fits a = number_means l a m p in
    let y : m ≡ ascii "\n" ++ s = skip_means (ascii "\n") m s u v in
    let z : a ≡ n = cc in
    let k : s ≡ r = cc in
    (x.0 ∙ (λ i. decimal (z i) ++ y i) ∙ (λ i. decimal n ++ (ascii "\n" ++ k i)) ∙ sym (append_assoc (decimal n) (ascii "\n") r), omega arith)

pub number_line_spelled : (n : ℕ) (r : List ℕ) → Fits n → read_number (number_value n ++ r) ≡ got n r
unfolding read_number number_value
number_line_spelled n r h =
    rw (append_assoc (decimal n) (ascii "\n") r, number_spelled n 10 r h (digit_low 10 (omega arith)), skip_spelled (ascii "\n") r)

run_text : (l m s t : List ℕ) (a b : ℕ) → l ≡ decimal a ++ m → m ≡ ascii "-" ++ s → s ≡ number_value b ++ t → l ≡ run_value (run a b) ++ t
unfolding run_value number_value
run_text l m s t a b p q c =
    p ∙ ap (λ (w : List ℕ). decimal a ++ w) (q ∙ ap (λ (w : List ℕ). ascii "-" ++ w) c)
    ∙ sym (append_assoc (decimal a) (ascii "-" ++ (decimal b ++ ascii "\n")) t)

pub run_line_means : (l : List ℕ) (x : ZeroExtent) (r : List ℕ) → read_run l ≡ got x r → (l ≡ run_value x ++ r) × RunFits x
unfolding read_run
run_line_means l x r e =
    let (a, m, p, q) = then_means (number l) (λ a m. then (skip (ascii "-") m) (λ _ n. then (read_number n) (λ b r. got (run a b) r))) x r e in
    let (u, s, v, w) = then_means (skip (ascii "-") m) (λ _ n. then (read_number n) (λ b r. got (run a b) r)) x r q in
    let (b, t, f, g) = then_means (read_number s) (λ b r. got (run a b) r) x r w in
    let A : (l ≡ decimal a ++ m) × Fits a = number_means l a m p in
    let C : (s ≡ number_value b ++ t) × Fits b = number_line_means s b t f in
    let z : run a b ≡ x = cc in
    let k : t ≡ r = cc in (
      run_text l m s t a b A.0 (skip_means (ascii "-") m s u v) C.0 ∙ (λ i. run_value (z i) ++ k i),
      (omega (arith, ap (λ (y : ZeroExtent). y.start) z), omega (arith, ap (λ (y : ZeroExtent). y.end) z)),
    )

pub run_line_spelled : (x : ZeroExtent) (r : List ℕ) → RunFits x → read_run (run_value x ++ r) ≡ got x r
unfolding read_run
run_line_spelled x r h =
    rw (
      sym (run_text _ _ _ r x.start x.end refl refl refl),
      number_spelled x.start 45 (number_value x.end ++ r) h.0 (digit_low 45 (omega arith)),
      skip_spelled (ascii "-") (number_value x.end ++ r),
      number_line_spelled x.end r h.1,
    )

pub field_means : (key l : List ℕ) (n : ℕ) (r : List ℕ) → read_field key l ≡ got n r → (l ≡ key ++ (number_value n ++ r)) × Fits n
unfolding read_field
field_means key l n r e =
    let (u, m, p, q) = then_means (skip key l) (λ _ m. read_number m) n r e in
    let x : (m ≡ number_value n ++ r) × Fits n = number_line_means m n r q in
    (skip_means key l m u p ∙ ap (λ (w : List ℕ). key ++ w) x.0, x.1)

pub field_spelled : (key : List ℕ) (n : ℕ) (r : List ℕ) → Fits n → read_field key (key ++ (number_value n ++ r)) ≡ got n r
unfolding read_field
field_spelled key n r h = rw (skip_spelled key (number_value n ++ r)) (number_line_spelled n r h)

-- ## Lines of one kind

pub never_ended {ℓ} : {A : Type 0} {X : Type ℓ} {xs ys : List A} {r : List ℕ} → broken ys ≡ ended xs r → X
never_ended e = let z : ◌≡◌ {A = ℕ} 0 1 = cc in absurd (omega arith)

pub section_none : {A : Type 0} (value : List ℕ → Got A) (key : List ℕ) (k : ℕ) (l : List ℕ) → skip key l ≡ wrong → section value key k l ≡ ended [] l
unfolding section
section_none value key zero l e = rw e
section_none value key (suc k) l e = rw e

module _ {A : Type 0} (xs : List A) (r : List ℕ) where
  keyed_means : (g : Got (Unit {0})) (f : List ℕ → Section A) (l : List ℕ) → keyed g f (ended [] l) ≡ ended xs r
      → (ended [] l ≡ ended xs r) ⊎ ((u : Unit {0}) × (m : List ℕ) × (g ≡ got u m) × (f m ≡ ended xs r))
  keyed_means (got u m) f l e = inr (u, m, refl, e)
  keyed_means wrong f l e = inl e

  valued_means : (g : Got A) (f : A → List ℕ → Section A) → valued g f ≡ ended xs r
      → (x : A) × (m : List ℕ) × (g ≡ got x m) × (f x m ≡ ended xs r)
  valued_means (got x m) f e = (x, m, refl, e)
  valued_means wrong f e = never_ended e

  more_means : (x : A) (s : Section A) → more x s ≡ ended xs r → (ys : List A) × (s ≡ ended ys r) × (x ∷ ys ≡ xs)
  more_means x (ended ys m) e = let k : m ≡ r = cc in (ys, ap (ended ys) k, cc)
  more_means x (broken ys) e = never_ended e

module _ {A : Type 0} (value : List ℕ → Got A) (key : List ℕ) (spelled : A → List ℕ) (P : A → Type 0) where
  -- each value is spelled so
  module _ (means : (l : List ℕ) (x : A) (r : List ℕ) → value l ≡ got x r → (l ≡ spelled x ++ r) × P x) where
    nothing_means : (k : ℕ) (l : List ℕ) (xs : List A) (r : List ℕ) → ended [] l ≡ ended xs r → (l ≡ lines key spelled xs ++ r) × (length xs ≤ k) × All P xs
    nothing_means k l [] r e = (cc, omega arith, tt)
    nothing_means k l (x ∷ xs) r e = let z : ◌≡◌ {A = ℕ} 0 1 = cc in absurd (omega arith)

    pub section_means : (k : ℕ) (l : List ℕ) (xs : List A) (r : List ℕ) → section value key k l ≡ ended xs r
        → (l ≡ lines key spelled xs ++ r) × (length xs ≤ k) × All P xs
    unfolding section
    section_means zero l xs r e = ⊎_elim (λ w. nothing_means zero l xs r w) (λ (u, m, p, q). never_ended q)
        (keyed_means xs r (skip key l) (λ m. broken []) l e)
    section_means (suc k) l xs r e = ⊎_elim (λ w. nothing_means (suc k) l xs r w)
        (λ (u, m, p, q).
        let (x, s, v, w) = valued_means xs r (value m) (λ x r. more x (section value key k r)) q in
        let (ys, f, g) = more_means xs r x (section value key k s) w in
        let h : (m ≡ spelled x ++ s) × P x = means m x s v in
        let R : (s ≡ lines key spelled ys ++ r) × (length ys ≤ k) × All P ys = section_means k s ys r f in
        subst (λ (zs : List A). (l ≡ lines key spelled zs ++ r) × (length zs ≤ suc k) × All P zs) g (
          skip_means key l m u p ∙ ap (λ (w : List ℕ). key ++ w) (h.0 ∙ ap (λ (w : List ℕ). spelled x ++ w) R.0 ∙ sym (append_assoc (spelled x) (lines key spelled ys) r))
              ∙ sym (append_assoc key (spelled x ++ lines key spelled ys) r),
          omega arith,
          (h.1, R.2),
        ))
        (keyed_means xs r (skip key l) (λ m. valued (value m) (λ x r. more x (section value key k r))) l e)

  module _ (accepts : (x : A) (r : List ℕ) → P x → value (spelled x ++ r) ≡ got x r) where
    pub section_spelled : (k : ℕ) (xs : List A) (r : List ℕ) → length xs ≤ k → All P xs → skip key r ≡ wrong → section value key k (lines key spelled xs ++ r) ≡ ended xs r
    unfolding section
    section_spelled k [] r h p e = section_none value key k r e
    section_spelled zero (x ∷ xs) r h p e = absurd (omega arith)
    section_spelled (suc k) (x ∷ xs) r h p e =
        rw (
          append_assoc key (spelled x ++ lines key spelled xs) r,
          skip_spelled key ((spelled x ++ lines key spelled xs) ++ r),
          append_assoc (spelled x) (lines key spelled xs) r,
          accepts x (lines key spelled xs ++ r) p.0,
          section_spelled k xs r (omega arith) p.1 e,
        )
