-- The lines of any kind: what a reader's answer says, what the lent buffer holds of the values, and the turns of the loop that reads them.
use Rattle.std.specs.Prelude.{◌≡◌, Option, Bool, true, false, List, [], ◌∷◌, ◌++◌, ℕ, zero, suc, refl, ◌+◌, ◌-◌, ◌*◌, ◌/◌, ◌≤◌, ◌<◌, length, take}
use Rattle.std.proofs.Common.{sym, ap, ◌∙◌, arith, length-append}
use Rattle.std.proofs.Math.Nat.{le-div_iff_mul-le}
use Rattle.std.proofs.lemmas.List.Edits.{sets}
use borrow.Rule.Slice.PartMut.{put_mid}
use Rattle.decimal.specs.declared.read.Found.{Found}
use Rattle.decimal.specs.Places.{found_in}
use Rattle.decimal.specs.Text.{Got, got, wrong, skip}
use Rattle.decimal.specs.Write.{sets_append, sets_part}
use Rattle.plan_text.specs.Parse.{Section, ended, broken, more, keyed, valued, section, tested}
use Rattle.plan_text.specs.Fill.{Filled, filled, torn}
use Rattle.plan_text.specs.Laws.{section_none}
use Rattle.plan_text.specs.Turns.{section_full, section_bad, section_more}
use Rattle.plan_text.specs.Tested.{Kind, used_fits, answer_passed, answer_failed, broken_before}

-- a value, and the text from the place behind it
abbrev pub entry_in : {A : Type 0} → List ℕ → Option (Found A) → Got A
entry_in = found_in

-- n lines are in the buffer already, each as so many numbers
abbrev pub fill : {A : Type 0} → ℕ → (List A → List ℕ) → ℕ → Section A → List ℕ → Filled
fill width numbers n (ended xs r) out = filled (n + length xs) r (sets out (n * width) (numbers xs))
fill width numbers n (broken xs) out = torn (sets out (n * width) (numbers xs))

-- room for one more
pub line_fits : (n width k : ℕ) → 0 < width → n < k / width → n * width + width ≤ k
line_fits n width k wide h = omega (arith, (le-div_iff_mul-le {x = n + 1} {y = k} wide).0 (omega arith))

module _ {A : Type 0} (width : ℕ) (numbers : List A → List ℕ) (reading : List ℕ → Got A) where
  pub lines_start : (key l out : List ℕ) (k : ℕ) → fill width numbers 0 (section reading key (k - 0) l) out ≡ fill width numbers 0 (section reading key k l) out
  lines_start key l out k = let z : k - 0 ≡ k = omega arith in rw z

  module _ (none : numbers [] ≡ []) (key l out : List ℕ) (n k : ℕ) where
    pub lines_end : skip key l ≡ wrong → filled n l out ≡ fill width numbers n (section reading key k l) out
    lines_end e = let z : n + 0 ≡ n = omega arith in rw (section_none reading key k l e, none) (λ i. filled (sym z i) l out)

    module _ (m : List ℕ) (u : Unit {0}) (e : skip key l ≡ got u m) where
      pub lines_full : k ≡ 0 → torn out ≡ fill width numbers n (section reading key k l) out
      lines_full z = rw (section_full reading key l k m u z e, none)

      pub lines_bad : reading m ≡ wrong → torn out ≡ fill width numbers n (section reading key k l) out
      lines_bad f = rw (section_bad reading key l k m u e f, none)

  module _ (joined : (x : A) (xs : List A) → numbers (x ∷ xs) ≡ numbers (x ∷ []) ++ numbers xs) (long : (x : A) → length (numbers (x ∷ [])) ≡ width) where
    entry_more : (x : A) (s : Section A) (n : ℕ) (out : List ℕ) → fill width numbers (n + 1) s (sets out (n * width) (numbers (x ∷ []))) ≡ fill width numbers n (more x s) out
    entry_more x (ended xs r) n out =
        let a : n + 1 + length xs ≡ n + suc (length xs) = omega arith in
        let b : (n + 1) * width ≡ n * width + length (numbers (x ∷ [])) = omega (arith, long x) in
        rw (b, sets_append (numbers (x ∷ [])) (numbers xs) out (n * width), joined x xs) (λ i. filled (a i) r (sets out (n * width) (numbers (x ∷ []) ++ numbers xs)))
    entry_more x (broken xs) n out =
        let b : (n + 1) * width ≡ n * width + length (numbers (x ∷ [])) = omega (arith, long x) in
        rw (b, sets_append (numbers (x ∷ [])) (numbers xs) out (n * width), joined x xs)

    -- a line more, whose numbers were put into their part of the buffer
    pub lines_go : (key l out : List ℕ) (n k j p w : ℕ) (m : List ℕ) (u : Unit {0}) (x : A) (r new : List ℕ) → k ≡ suc j → skip key l ≡ got u m → reading m ≡ got x r
        → p ≡ n * width → p + width ≤ length out → w ≡ width → new ≡ numbers (x ∷ [])
        → fill width numbers (n + 1) (section reading key j r) (put_mid p w out new) ≡ fill width numbers n (section reading key k l) out
    lines_go key l out n k j p w m u x r new z e f a h c d =
        let b : put_mid p w out new ≡ sets out (n * width) (numbers (x ∷ [])) =
        sets_part p w (numbers (x ∷ [])) out new (omega (arith, long x)) (omega (arith, long x)) d ∙ ap (λ (i : ℕ). sets out i (numbers (x ∷ []))) a in
        rw (section_more reading key l k j m u x r z e f, b) (entry_more x (section reading key j r) n out)

-- ## How many lines

abbrev count : {A : Type 0} → Section A → ℕ
count (ended xs r) = length xs
count (broken xs) = length xs

keyed_count : {A : Type 0} (g : Got (Unit {0})) (f : List ℕ → Section A) (other : Section A) (k : ℕ) → ((m : List ℕ) → count (f m) ≤ k) → count other ≤ k → count (keyed g f other) ≤ k
keyed_count (got u m) f other k h e = h m
keyed_count wrong f other k h e = e

valued_count : {A : Type 0} (g : Got A) (f : A → List ℕ → Section A) (k : ℕ) → ((x : A) (r : List ℕ) → count (f x r) ≤ k) → count (valued g f) ≤ k
valued_count (got x r) f k h = h x r
valued_count wrong f k h = omega arith

more_count : {A : Type 0} (x : A) (s : Section A) → count (more x s) ≡ suc (count s)
more_count x (ended xs r) = refl
more_count x (broken xs) = refl

section_count : {A : Type 0} (value : List ℕ → Got A) (key : List ℕ) (k : ℕ) (l : List ℕ) → count (section value key k l) ≤ k
unfolding section
section_count value key zero l = keyed_count (skip key l) _ _ 0 (λ m. omega arith) (omega arith)
section_count value key (suc k) l =
    keyed_count (skip key l) _ _ (suc k)
    (λ m. valued_count (value m) _ (suc k) (λ x r. omega (arith, more_count x (section value key k r), section_count value key k r))) (omega arith)

module _ {A : Type 0} (width : ℕ) (numbers : List A → List ℕ) (none : numbers [] ≡ [])
    (joined : (x : A) (xs : List A) → numbers (x ∷ xs) ≡ numbers (x ∷ []) ++ numbers xs) (long : (x : A) → length (numbers (x ∷ [])) ≡ width) where
  numbers_long : (xs : List A) → length (numbers xs) ≡ length xs * width
  numbers_long [] = ap length none ∙ omega arith
  numbers_long (x ∷ xs) = omega (arith, ap length (joined x xs), length-append (numbers (x ∷ [])) (numbers xs), long x, numbers_long xs)

  lines : Kind (fill width numbers 0) numbers (λ n. n * width)
  lines = record {
    on_ended = λ xs r out.
        let z : 0 + length xs ≡ length xs = omega arith in
        let y : 0 * width ≡ 0 = omega arith in
        λ i. filled (z i) r (sets out (y i) (numbers xs));
    on_broken = λ xs out. let y : 0 * width ≡ 0 = omega arith in λ i. torn (sets out (y i) (numbers xs));
    long = numbers_long;
  }

lines_short : {A : Type 0} (width : ℕ) (reading : List ℕ → Got A) → 0 < width → (key l out : List ℕ) (xs : List A) (r : List ℕ)
    → section reading key (length out / width) l ≡ ended xs r → length xs * width ≤ length out
lines_short width reading wide key l out xs r e =
    (le-div_iff_mul-le {x = length xs} {y = length out} wide).0 (omega (arith, ap count e, section_count reading key (length out / width) l))

-- ## The test of all

module _ {A : Type 0} (width : ℕ) (numbers : List A → List ℕ) (reading : List ℕ → Got A) (wide : 0 < width) (none : numbers [] ≡ [])
    (joined : (x : A) (xs : List A) → numbers (x ∷ xs) ≡ numbers (x ∷ []) ++ numbers xs) (long : (x : A) → length (numbers (x ∷ [])) ≡ width)
    (key l out : List ℕ) where
  pub lines_broken : (o : List ℕ) (ok : List A → Bool) → torn o ≡ fill width numbers 0 (section reading key (length out / width) l) out
      → torn o ≡ fill width numbers 0 (tested ok (section reading key (length out / width) l)) out
  lines_broken o ok e = broken_before (lines width numbers none joined long) out o (section reading key (length out / width) l) ok e

  module _ (n : ℕ) (r o : List ℕ) (e : filled n r o ≡ fill width numbers 0 (section reading key (length out / width) l) out) where
    -- the numbers of the lines lie in the buffer
    pub lines_used : n * width ≤ length out
    lines_used = used_fits (lines width numbers none joined long) out n r o (section reading key (length out / width) l) (lines_short width reading wide key l out) e

    -- the test of these numbers answered `b`
    module _ (ok : List A → Bool) (b : Bool) (says : (xs : List A) → take (n * width) o ≡ numbers xs → b ≡ ok xs) where
      pub lines_passed : b ≡ true → filled n r o ≡ fill width numbers 0 (tested ok (section reading key (length out / width) l)) out
      lines_passed = answer_passed (lines width numbers none joined long) out n r o (section reading key (length out / width) l) (lines_short width reading wide key l out) e ok b says

      pub lines_failed : b ≡ false → torn o ≡ fill width numbers 0 (tested ok (section reading key (length out / width) l)) out
      lines_failed = answer_failed (lines width numbers none joined long) out n r o (section reading key (length out / width) l) (lines_short width reading wide key l out) e ok b says
