-- Laws of the readers: what they accept is spelled so, and what is spelled so they accept.
use Rattle.std.specs.Prelude.{◌≡◌, refl, Bool, true, false, cond, List, [], ◌∷◌, ◌++◌, ℕ, zero, suc, ◌+◌, ◌-◌, ◌*◌, ◌/◌, ◌%◌, ◌≤◌, ◌<◌, take, drop, get_or, ltb, leb, eqb}
use Rattle.std.proofs.Common.{sym, ap, ◌∙◌, true≢false, append_assoc, add-one, arith}
use Rattle.std.proofs.Math.Bool.{and-eq-true_iff}
use Rattle.std.proofs.lemmas.List.{take_rest, get_or-drop}
use Rattle.std.proofs.Math.ListN.{length, length-append, length-drop, get_or-append, drop_of_length-le}
use Rattle.std.proofs.Math.Seq.{drop-cons, drop-drop, drop-append_seam}
use borrow.Author.Tests.{ltb-true, ltb-false, leb-true, eqb-true, eqb-false, lt-ltb, le-ltb, le-leb, lt-leb, eq-eqb, ne_eqb}
use Rattle.decimal.specs.Decimal.{decimal, ten, split, decimal_one, decimal_more}
use Rattle.std.specs.Char.{is_ascii_digit}
use Rattle.decimal.specs.Text.{Got, got, wrong, then, from, is_at, skip, is_digit, digits, number}

-- ## One reader behind another

pub never {ℓ} : {A : Type 0} {X : Type ℓ} {a : A} {l : List ℕ} → wrong ≡ got a l → X
never e = let z : ◌≡◌ {A = ℕ} 0 1 = cc in absurd (omega arith)

pub then_means : {A B : Type 0} (p : Got A) (f : A → List ℕ → Got B) (b : B) (r : List ℕ) → then p f ≡ got b r
    → (a : A) × (m : List ℕ) × (p ≡ got a m) × (f a m ≡ got b r)
then_means (got a m) f b r e = (a, m, refl, e)
then_means wrong f b r e = never e

pub cond_means : {A : Type 0} (b : Bool) (p : Got A) (a : A) (r : List ℕ) → cond b p wrong ≡ got a r → (b ≡ true) × (p ≡ got a r)
cond_means true p a r e = (refl, e)
cond_means false p a r e = never e

-- ## The text from a place on

module _ (t : List ℕ) (at : ℕ) where
  pub from_in : at < length t → from t at ≡ get_or t at 0 ∷ from t (at + 1)
  unfolding from
  from_in h =
      let l : at < length (t ++ (10 ∷ [])) = omega (arith, length-append t (10 ∷ [])) in
      drop-cons (t ++ (10 ∷ [])) at 0 l ∙ (rw (add-one at, get_or-append t (10 ∷ []) 0 at h))

  pub from_end : at ≡ length t → from t at ≡ 10 ∷ []
  unfolding from
  from_end e = rw e (drop-append_seam t (10 ∷ []))

  pub from_past : length t < at → from t at ≡ []
  unfolding from
  from_past h = drop_of_length-le (t ++ (10 ∷ [])) {i = at} (omega (arith, length-append t (10 ∷ [])))

  pub from_next : drop 1 (from t at) ≡ from t (at + 1)
  unfolding from
  from_next = drop-drop 1 at (t ++ (10 ∷ []))

-- below, at or past the end
pub place {ℓ} : {X : Type ℓ} (i n : ℕ) → (i < n → X) → (i ≡ n → X) → (n < i → X) → X
place i n lo eq hi = split (ltb i n) (λ a. lo (ltb-true i n a))
    (λ a. split (eqb i n) (λ b. eq (eqb-true i n b)) (λ b. let k : i ≡ n → ⊥ = eqb-false i n b in hi (omega (arith, ltb-false i n a))))

-- ## Words

module _ (b : ℕ) where
  pub is_at_in : (t : List ℕ) (at : ℕ) → at < length t → is_at b (from t at) ≡ eqb (get_or t at 0) b
  unfolding is_at
  is_at_in t at h = rw (from_in t at h)

  pub is_at_end : (t : List ℕ) (at : ℕ) → at ≡ length t → is_at b (from t at) ≡ eqb 10 b
  unfolding is_at
  is_at_end t at h = rw (from_end t at h)

  pub is_at_past : (t : List ℕ) (at : ℕ) → length t < at → is_at b (from t at) ≡ false
  unfolding is_at
  is_at_past t at h = rw (from_past t at h)

  pub is_at_within : (t : List ℕ) (at : ℕ) → is_at b (from t at) ≡ true → at ≤ length t
  is_at_within t at e = place at (length t) (λ h. omega arith) (λ h. omega arith)
      (λ h. let z : true ≡ false = sym e ∙ is_at_past t at h in absurd (true≢false z))

module _ (b : ℕ) (w l : List ℕ) where
  pub skip_go : is_at b l ≡ true → skip (b ∷ w) l ≡ skip w (drop 1 l)
  unfolding skip
  skip_go e = rw e

  pub skip_no : is_at b l ≡ false → skip (b ∷ w) l ≡ wrong
  unfolding skip
  skip_no e = rw e

pub skip_end : (l : List ℕ) → skip [] l ≡ got tt l
unfolding skip
skip_end l = refl

-- what is skipped is the word
pub skip_spelled : (w l : List ℕ) → skip w (w ++ l) ≡ got tt l
unfolding skip is_at
skip_spelled [] l = refl
skip_spelled (b ∷ w) l = rw (eq-eqb b b refl) (skip_spelled w l)

pub skip_means : (w l m : List ℕ) (u : Unit {0}) → skip w l ≡ got u m → l ≡ w ++ m
unfolding skip is_at
skip_means [] l m u e = cc
skip_means (b ∷ w) [] m u e = never e
skip_means (b ∷ w) (c ∷ l) m u e =
    let g : (eqb c b ≡ true) × (skip w l ≡ got u m) = cond_means (eqb c b) (skip w l) u m e in
    let r : l ≡ w ++ m = skip_means w l m u g.1 in
    λ i. eqb-true c b g.0 i ∷ r i

-- another first byte
pub skip_other : (b : ℕ) (w l : List ℕ) → (get_or l 0 0 ≡ b → ⊥) → skip (b ∷ w) l ≡ wrong
unfolding skip is_at
skip_other b w [] h = refl
skip_other b w (c ∷ l) h = rw (ne_eqb c b h)

-- ## Digits

-- as the library tests it
pub digit_is : (c : ℕ) → is_ascii_digit c ≡ is_digit c
unfolding is_digit
digit_is c = refl

pub digit_yes : (c : ℕ) → 48 ≤ c → c ≤ 57 → is_digit c ≡ true
unfolding is_digit
digit_yes c lo hi = rw (le-leb _ _ lo, le-leb _ _ hi)

pub digit_low : (c : ℕ) → c < 48 → is_digit c ≡ false
unfolding is_digit
digit_low c h = rw (lt-leb _ _ h)

pub digit_high : (c : ℕ) → 57 < c → is_digit c ≡ false
unfolding is_digit
digit_high c h = split (leb 48 c) (λ t. rw (t, lt-leb _ _ h)) (λ f. rw f)

pub digit_means : (c : ℕ) → is_digit c ≡ true → (48 ≤ c) × (c ≤ 57)
unfolding is_digit
digit_means c e =
    let s = (and-eq-true_iff (leb 48 c) (leb c 57)).0 e in
    (leb-true 48 c s.0, leb-true c 57 s.1)

module _ (v c : ℕ) (l : List ℕ) where
  pub digits_go : is_digit c ≡ true → v * 10 + (c - 48) < 18446744073709551616 → digits v (c ∷ l) ≡ digits (v * 10 + (c - 48)) l
  unfolding digits
  digits_go d h = rw (d, lt-ltb _ _ h)

  pub digits_over : is_digit c ≡ true → 18446744073709551616 ≤ v * 10 + (c - 48) → digits v (c ∷ l) ≡ wrong
  unfolding digits
  digits_over d h = rw (d, le-ltb _ _ h)

  pub digits_stop : is_digit c ≡ false → digits v (c ∷ l) ≡ got v (c ∷ l)
  unfolding digits
  digits_stop d = rw d

pub digits_none : (v : ℕ) → digits v [] ≡ got v []
unfolding digits
digits_none v = refl

module _ (c : ℕ) (l : List ℕ) where
  pub number_zero : c ≡ 48 → number (c ∷ l) ≡ got 0 l
  unfolding number
  number_zero e = rw (digit_yes c (omega arith) (omega arith), eq-eqb c 48 e)

  pub number_go : is_digit c ≡ true → (c ≡ 48 → ⊥) → number (c ∷ l) ≡ digits (c - 48) l
  unfolding number
  number_go d e = rw (d, ne_eqb c 48 e)

  pub number_no : is_digit c ≡ false → number (c ∷ l) ≡ wrong
  unfolding number
  number_no d = rw d

pub number_none : number [] ≡ wrong
unfolding number
number_none = refl

-- ## Turns of the loops

-- the bytes of a text from a place on, as the code goes through them
module _ (t : List ℕ) (at i : ℕ) where
  pub byte_is : get_or (take (length t - at) (drop at t)) i 0 ≡ get_or t (at + i) 0
  byte_is = ap (λ (l : List ℕ). get_or l i 0) (take_rest t at) ∙ get_or-drop at t i 0

  pub byte_in : i < length (take (length t - at) (drop at t)) → at + i < length t
  byte_in h = omega (arith, ap length (take_rest t at), length-drop at t)

pub bytes_left : (t : List ℕ) (at : ℕ) → length (take (length t - at) (drop at t)) ≡ length t - at
bytes_left t at = ap length (take_rest t at) ∙ length-drop at t

module _ (t : List ℕ) (at : ℕ) (w : List ℕ) (i : ℕ) where
  pub skip_step : i < length w → is_at (get_or w i 0) (from t at) ≡ true → skip (drop (i + 1) w) (from t (at + 1)) ≡ skip (drop i w) (from t at)
  skip_step h e = sym (ap (λ (x : List ℕ). skip x (from t at)) (drop-cons w i 0 h ∙ rw (add-one i))
      ∙ skip_go (get_or w i 0) (drop (i + 1) w) (from t at) e ∙ ap (skip (drop (i + 1) w)) (from_next t at))

  pub skip_stop : i < length w → is_at (get_or w i 0) (from t at) ≡ false → skip (drop i w) (from t at) ≡ wrong
  skip_stop h e = ap (λ (x : List ℕ). skip x (from t at)) (drop-cons w i 0 h) ∙ skip_no (get_or w i 0) (drop (suc i) w) (from t at) e

  pub skip_done : length w ≤ i → skip (drop i w) (from t at) ≡ got tt (from t at)
  skip_done h = ap (λ (x : List ℕ). skip x (from t at)) (drop_of_length-le w {i = i} h) ∙ skip_end (from t at)

module _ (t : List ℕ) (at v : ℕ) where
  pub digits_on : (d : ℕ) → at < length t → is_digit (get_or t at 0) ≡ true → d ≡ get_or t at 0 - 48 → v * 10 + d < 18446744073709551616
      → digits (v * 10 + d) (from t (at + 1)) ≡ digits v (from t at)
  digits_on d h k e l = rw (from_in t at h) (rw e (sym (digits_go v (get_or t at 0) (from t (at + 1)) k (omega arith))))

  pub digits_full : at < length t → is_digit (get_or t at 0) ≡ true → 18446744073709551616 ≤ v * 10 + (get_or t at 0 - 48) → digits v (from t at) ≡ wrong
  digits_full h k l = rw (from_in t at h) (digits_over v (get_or t at 0) (from t (at + 1)) k l)

  pub digits_other : at < length t → is_digit (get_or t at 0) ≡ false → digits v (from t at) ≡ got v (from t at)
  digits_other h k = rw (from_in t at h) (digits_stop v (get_or t at 0) (from t (at + 1)) k)

  pub digits_out : length t ≤ at → digits v (from t at) ≡ got v (from t at)
  digits_out h = place at (length t) (λ l. absurd (omega arith))
      (λ e. rw (from_end t at e) (digits_stop v 10 [] (digit_low 10 (omega arith))))
      (λ l. rw (from_past t at l) (digits_none v))

module _ (t : List ℕ) (at : ℕ) where
  pub number_out : length t ≤ at → number (from t at) ≡ wrong
  number_out h = place at (length t) (λ l. absurd (omega arith))
      (λ e. rw (from_end t at e) (number_no 10 [] (digit_low 10 (omega arith))))
      (λ l. rw (from_past t at l) number_none)

  pub number_other : at < length t → is_digit (get_or t at 0) ≡ false → number (from t at) ≡ wrong
  number_other h k = rw (from_in t at h) (number_no (get_or t at 0) (from t (at + 1)) k)

  pub number_alone : at < length t → get_or t at 0 ≡ 48 → number (from t at) ≡ got 0 (from t (at + 1))
  number_alone h e = rw (from_in t at h) (number_zero (get_or t at 0) (from t (at + 1)) e)

  pub number_on : (d : ℕ) → at < length t → is_digit (get_or t at 0) ≡ true → (get_or t at 0 ≡ 48 → ⊥) → d ≡ get_or t at 0 - 48
      → number (from t at) ≡ digits d (from t (at + 1))
  number_on d h k n e = rw (from_in t at h) (rw e (number_go (get_or t at 0) (from t (at + 1)) k n))

-- ## Numbers

-- digits that go on behind v spell a number that begins with v's
digits_means : (l : List ℕ) (v n : ℕ) (m : List ℕ) → 1 ≤ v → v < 18446744073709551616 → digits v l ≡ got n m
    → (decimal v ++ l ≡ decimal n ++ m) × (n < 18446744073709551616)
digits_means [] v n m lo hi e =
    let g : got v [] ≡ got n m = sym (digits_none v) ∙ e in
    let a : v ≡ n = cc in
    (cc, omega arith)
digits_means (c ∷ l) v n m lo hi e = split (is_digit c)
    (λ d. split (ltb (v * 10 + (c - 48)) 18446744073709551616)
    (λ t.
    let x : ℕ = v * 10 + (c - 48) in
    let k : (48 ≤ c) × (c ≤ 57) = digit_means c d in
    let h : x < 18446744073709551616 = ltb-true x 18446744073709551616 t in
    let r : (decimal x ++ l ≡ decimal n ++ m) × (n < 18446744073709551616) = digits_means l x n m (omega arith) h (sym (digits_go v c l d h) ∙ e) in
    let q : x / 10 ≡ v = omega arith in
    let z : 48 + x % 10 ≡ c = omega arith in
    let s : decimal x ≡ decimal v ++ (c ∷ []) = decimal_more x (omega arith) h ∙ (λ i. decimal (q i) ++ (z i ∷ [])) in
    (sym (append_assoc (decimal v) (c ∷ []) l) ∙ ap (λ (w : List ℕ). w ++ l) (sym s) ∙ r.0, r.1))
    (λ f. never (sym (digits_over v c l d (ltb-false _ _ f)) ∙ e)))
    (λ d.
    let g : got v (c ∷ l) ≡ got n m = sym (digits_stop v c l d) ∙ e in
    let a : v ≡ n = cc in
    (cc, omega arith))

-- what is read as n is the spelling of n, and n is below 2^64
pub number_means : (l : List ℕ) (n : ℕ) (m : List ℕ) → number l ≡ got n m → (l ≡ decimal n ++ m) × (n < 18446744073709551616)
number_means [] n m e = never (sym number_none ∙ e)
number_means (c ∷ l) n m e = split (is_digit c)
    (λ d. split (eqb c 48)
    (λ z.
    let g : got 0 l ≡ got n m = sym (number_zero c l (eqb-true c 48 z)) ∙ e in
    let a : 0 ≡ n = cc in
    let s : l ≡ m = cc in
    ((λ i. eqb-true c 48 z i ∷ l) ∙ ap (λ (w : List ℕ). w ++ l) (sym (decimal_one 0 (omega arith))) ∙ (λ i. decimal (a i) ++ s i), omega arith))
    (λ z.
    let k : (48 ≤ c) × (c ≤ 57) = digit_means c d in
    let o : c ≡ 48 → ⊥ = eqb-false c 48 z in
    let r : (decimal (c - 48) ++ l ≡ decimal n ++ m) × (n < 18446744073709551616) = digits_means l (c - 48) n m (omega arith) (omega arith) (sym (number_go c l d o) ∙ e) in
    let q : 48 + (c - 48) ≡ c = omega arith in
    let s : decimal (c - 48) ≡ c ∷ [] = decimal_one (c - 48) (omega arith) ∙ (λ i. q i ∷ []) in
    (ap (λ (w : List ℕ). w ++ l) (sym s) ∙ r.0, r.1)))
    (λ d. never (sym (number_no c l d) ∙ e))

-- the digits of n are read from the front
number_digits : (k n : ℕ) (r : List ℕ) → 1 ≤ n → n < ten k → n < 18446744073709551616 → number (decimal n ++ r) ≡ digits n r
number_digits zero n r lo h hi = absurd (omega arith)
number_digits (suc k) n r lo h hi = split (ltb n 10)
    (λ t.
    let s : n < 10 = ltb-true n 10 t in
    let q : 48 + n - 48 ≡ n = omega arith in
    let o : 48 + n ≡ 48 → ⊥ = omega arith in
    ap (λ (w : List ℕ). number (w ++ r)) (decimal_one n s) ∙ number_go (48 + n) r (digit_yes (48 + n) (omega arith) (omega arith)) o
    ∙ ap (λ (v : ℕ). digits v r) q)
    (λ f.
    let s : 10 ≤ n = ltb-false n 10 f in
    let q : n / 10 * 10 + (48 + n % 10 - 48) ≡ n = omega arith in
    ap (λ (w : List ℕ). number (w ++ r)) (decimal_more n s hi) ∙ ap number (append_assoc (decimal (n / 10)) ((48 + n % 10) ∷ []) r)
    ∙ number_digits k (n / 10) ((48 + n % 10) ∷ r) (omega arith) (omega arith) (omega arith)
    ∙ digits_go (n / 10) (48 + n % 10) r (digit_yes (48 + n % 10) (omega arith) (omega arith)) (omega arith)
    ∙ ap (λ (v : ℕ). digits v r) q)

-- the spelling of a number below 2^64 is read as that number, where no digit follows
pub number_spelled : (n c : ℕ) (r : List ℕ) → n < 18446744073709551616 → is_digit c ≡ false → number (decimal n ++ (c ∷ r)) ≡ got n (c ∷ r)
number_spelled zero c r h d = ap (λ (w : List ℕ). number (w ++ (c ∷ r))) (decimal_one 0 (omega arith)) ∙ number_zero 48 (c ∷ r) refl
number_spelled (suc n) c r h d = number_digits 20 (suc n) (c ∷ r) (omega arith) (omega arith) h ∙ digits_stop (suc n) c r d
