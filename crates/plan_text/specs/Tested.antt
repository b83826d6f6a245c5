-- Lines that were read, and the test of all of them on the buffer's first numbers.
use Rattle.std.specs.Prelude.{◌≡◌, refl, Bool, true, false, List, ℕ, ◌+◌, ◌*◌, ◌/◌, ◌≤◌, length, take, drop}
use Rattle.std.proofs.Common.{sym, ap, subst, ◌∙◌, arith, take_at}
use Rattle.std.proofs.lemmas.List.Edits.{sets, sets-eq}
use Rattle.meta.specs.declared.ZeroExtent.{ZeroExtent}
use Rattle.meta.specs.Runs.{runs_of, numbers_of, normalized}
use Rattle.plan_text.specs.Grammar.{Fits, RunFits}
use Rattle.plan_line.specs.Values.{number_value, run_value, non_empty}
use Rattle.plan_text.specs.Parse.{Section, ended, broken, section, tested}
use Rattle.plan_line.specs.Readers.{read_number, read_run}
use Rattle.plan_text.specs.Laws.{section_means, number_line_means, run_line_means}
use Rattle.plan_text.specs.Fill.{Filled, filled, torn, fill_runs, fill_pages}
use Rattle.plan_line.specs.Tests.{ascending, runs_back, length-numbers, ascending_normalized}

-- what a kind of lines puts into a buffer: `flat` its numbers, `size` how many they are
pub record Kind {A : Type 0} (fill : Section A → List ℕ → Filled) (flat : List A → List ℕ) (size : ℕ → ℕ) : Type 0 where
  pub on_ended : (xs : List A) (r out : List ℕ) → fill (ended xs r) out ≡ filled (length xs) r (sets out 0 (flat xs))
  pub on_broken : (xs : List A) (out : List ℕ) → fill (broken xs) out ≡ torn (sets out 0 (flat xs))
  pub long : (xs : List A) → length (flat xs) ≡ size (length xs)

never_filled {ℓ} : {X : Type ℓ} {n : ℕ} {r o p : List ℕ} → filled n r o ≡ torn p → X
never_filled e = let z : ◌≡◌ {A = ℕ} 0 1 = cc in absurd (omega arith)

pub front : (l : List ℕ) (out : List ℕ) → length l ≤ length out → take (length l) (sets out 0 l) ≡ l
front l out h =
    let k : 0 + length l ≤ length out = omega arith in
    ap (take (length l)) (sets-eq l out 0 k) ∙ take_at l (drop (0 + length l) out) (length l) refl

module _ {A : Type 0} {fill : Section A → List ℕ → Filled} {flat : List A → List ℕ} {size : ℕ → ℕ} (K : Kind fill flat size)
    (out : List ℕ) (n : ℕ) (r o : List ℕ) where
  -- the lines that were read
  pub ended_means : (s : Section A) → filled n r o ≡ fill s out → (xs : List A) × (s ≡ ended xs r) × (n ≡ length xs) × (o ≡ sets out 0 (flat xs))
  ended_means (ended xs m) e =
      let g : filled n r o ≡ filled (length xs) m (sets out 0 (flat xs)) = e ∙ K.on_ended xs m out in
      let k : m ≡ r = cc in
      (xs, ap (ended xs) k, cc, cc)
  ended_means (broken xs) e = never_filled (e ∙ K.on_broken xs out)

  module _ (s : Section A) (short : (xs : List A) (m : List ℕ) → s ≡ ended xs m → size (length xs) ≤ length out) (e : filled n r o ≡ fill s out) where
    pub used_fits : size n ≤ length out
    used_fits = let (xs, a, b, c) = ended_means s e in subst (λ (k : ℕ). size k ≤ length out) (sym b) (short xs r a)

    -- the buffer's first numbers are those of the lines
    front_is : (xs : List A) → s ≡ ended xs r → n ≡ length xs → o ≡ sets out 0 (flat xs) → take (size n) o ≡ flat xs
    front_is xs a b c =
        let h : length (flat xs) ≤ length out = omega (arith, K.long xs, short xs r a) in
        let z : size n ≡ length (flat xs) = ap size b ∙ sym (K.long xs) in
        ap (take (size n)) c ∙ ap (λ (k : ℕ). take k (sets out 0 (flat xs))) z ∙ front (flat xs) out h

    -- a test of these numbers answered `b`
    module _ (ok : List A → Bool) (b : Bool) (says : (xs : List A) → take (size n) o ≡ flat xs → b ≡ ok xs) where
      pub answer_passed : b ≡ true → filled n r o ≡ fill (tested ok s) out
      answer_passed t =
          let (xs, a, k, c) = ended_means s e in
          let p : ok xs ≡ true = sym (says xs (front_is xs a k c)) ∙ t in
          e ∙ rw (a, p)

      pub answer_failed : b ≡ false → torn o ≡ fill (tested ok s) out
      answer_failed t =
          let (xs, a, k, c) = ended_means s e in
          let p : ok xs ≡ false = sym (says xs (front_is xs a k c)) ∙ t in
          rw (a, p) (ap torn c ∙ sym (K.on_broken xs out))

    module _ (ok : List A → Bool) (test : List ℕ → Bool) (agree : (xs : List A) → test (flat xs) ≡ ok xs) where
      same_test : (xs : List A) → s ≡ ended xs r → n ≡ length xs → o ≡ sets out 0 (flat xs) → test (take (size n) o) ≡ ok xs
      same_test xs a b c = ap test (front_is xs a b c) ∙ agree xs

      pub test_passed : test (take (size n) o) ≡ true → filled n r o ≡ fill (tested ok s) out
      test_passed t = answer_passed ok (test (take (size n) o)) (λ xs z. ap test z ∙ agree xs) t

      pub test_failed : test (take (size n) o) ≡ false → torn o ≡ fill (tested ok s) out
      test_failed t = answer_failed ok (test (take (size n) o)) (λ xs z. ap test z ∙ agree xs) t

-- the lines that were read before one was wrong
pub broken_means : {A : Type 0} {fill : Section A → List ℕ → Filled} {flat : List A → List ℕ} {size : ℕ → ℕ} (K : Kind fill flat size)
    (out o : List ℕ) (s : Section A) → torn o ≡ fill s out → (xs : List A) × (s ≡ broken xs) × (o ≡ sets out 0 (flat xs))
broken_means {flat} K out o (ended xs m) e = never_filled (sym (e ∙ K.on_ended xs m out))
broken_means {flat} K out o (broken xs) e =
    let g : torn o ≡ torn (sets out 0 (flat xs)) = e ∙ K.on_broken xs out in
    (xs, refl, cc)

-- a line was wrong before
pub broken_before : {A : Type 0} {fill : Section A → List ℕ → Filled} {flat : List A → List ℕ} {size : ℕ → ℕ} (K : Kind fill flat size)
    (out o : List ℕ) (s : Section A) (ok : List A → Bool) → torn o ≡ fill s out → torn o ≡ fill (tested ok s) out
broken_before K out o (ended xs m) ok e = never_filled (sym (e ∙ K.on_ended xs m out))
broken_before K out o (broken xs) ok e = e

-- ## The three kinds

pub runs : Kind (fill_runs 0) numbers_of (λ n. n * 2)
runs = record {
  on_ended = λ xs r out. let z : 0 + length xs ≡ length xs = omega arith in λ i. filled (z i) r (sets out 0 (numbers_of xs));
  on_broken = λ xs out. refl;
  long = λ xs. omega (arith, length-numbers xs);
}

pub pages : Kind (fill_pages 0) (λ l. l) (λ n. n)
pages = record {
  on_ended = λ xs r out. let z : 0 + length xs ≡ length xs = omega arith in λ i. filled (z i) r (sets out 0 xs);
  on_broken = λ xs out. refl;
  long = λ xs. refl;
}

pub runs_short : (key l out : List ℕ) (xs : List ZeroExtent) (r : List ℕ) → section read_run key (length out / 2) l ≡ ended xs r → length xs * 2 ≤ length out
runs_short key l out xs r e = omega (arith, (section_means read_run key run_value RunFits run_line_means (length out / 2) l xs r e).1)

pub pages_short : (key l out xs r : List ℕ) → section read_number key (length out) l ≡ ended xs r → length xs ≤ length out
pages_short key l out xs r e = (section_means read_number key number_value Fits number_line_means (length out) l xs r e).1

pub normalized_test : (xs : List ZeroExtent) → ascending (numbers_of xs) ≡ normalized xs
normalized_test xs = ascending_normalized xs

pub non_empty-test : (xs : List ZeroExtent) → non_empty (runs_of (numbers_of xs)) ≡ non_empty xs
non_empty-test xs = ap non_empty (runs_back xs)
