-- Numbers as text: decimal digits in ASCII, the most significant first, without leading zeros.
use Rattle.std.specs.Prelude.{◌≡◌, refl, Bool, true, false, cond, List, [], ◌∷◌, ◌++◌, ℕ, zero, suc, ◌+◌, ◌*◌, ◌/◌, ◌%◌, ◌≤◌, ◌<◌, length, ltb}
use Rattle.std.proofs.Common.{ap, arith, length-append, lt-ltb, le-ltb}

-- the digits of n, if k are enough
abbrev pub spell_in : ℕ → ℕ → List ℕ
spell_in zero n = []
spell_in (suc k) n = cond (ltb n 10) ((48 + n) ∷ []) (spell_in k (n / 10) ++ ((48 + n % 10) ∷ []))

-- 20 digits are enough for every number below 2^64
unfoldable pub decimal : ℕ → List ℕ
decimal n = spell_in 20 n

-- 10 to the power k
abbrev pub ten : ℕ → ℕ
ten zero = 1
ten (suc k) = 10 * ten k

-- a case split that keeps the equation
pub split {ℓ} : {X : Type ℓ} (b : Bool) → (b ≡ true → X) → (b ≡ false → X) → X
split true t f = t refl
split false t f = f refl

-- a digit more to spend changes nothing
spell_more : (k n : ℕ) → n < ten (suc k) → spell_in (suc k) n ≡ spell_in (suc (suc k)) n
spell_more zero n h = let t : ltb n 10 ≡ true = lt-ltb n 10 (omega arith) in rw t
spell_more (suc k) n h =
    let r : spell_in (suc k) (n / 10) ≡ spell_in (suc (suc k)) (n / 10) = spell_more k (n / 10) (omega arith) in
    ap (λ (l : List ℕ). cond (ltb n 10) ((48 + n) ∷ []) (l ++ ((48 + n % 10) ∷ []))) r

-- the two cases of a number's digits
pub decimal_one : (n : ℕ) → n < 10 → decimal n ≡ (48 + n) ∷ []
unfolding decimal
decimal_one n h = let t : ltb n 10 ≡ true = lt-ltb n 10 h in rw t

pub decimal_more : (n : ℕ) → 10 ≤ n → n < 18446744073709551616 → decimal n ≡ decimal (n / 10) ++ ((48 + n % 10) ∷ [])
unfolding decimal
decimal_more n lo hi =
    let t : ltb n 10 ≡ false = le-ltb n 10 lo in
    let r : spell_in 19 (n / 10) ≡ spell_in 20 (n / 10) = spell_more 18 (n / 10) (omega arith) in
    rw (t, r)

length-spell : (k n : ℕ) → length (spell_in k n) ≤ k
length-spell zero n = omega arith
length-spell (suc k) n = split (ltb n 10)
    (λ t. rw t (omega arith))
    (λ f. rw f (omega (arith, length-append (spell_in k (n / 10)) ((48 + n % 10) ∷ []), length-spell k (n / 10))))

-- 20 digits at most
pub decimal-length : (n : ℕ) → length (decimal n) ≤ 20
unfolding decimal
decimal-length n = length-spell 20 n
