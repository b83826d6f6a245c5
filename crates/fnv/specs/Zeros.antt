-- The hash over zeros: the exclusive or with 0 changes nothing, so that n zeros are one multiplication, by the n-th power of the prime.
use Rattle.std.specs.Prelude.{◌≡◌, ℕ, zero, suc, ◌+◌, ◌*◌, ◌%◌, ◌^◌, ◌<◌, Bool, true, false, ◌&&◌, List, [], ◌∷◌, ◌++◌, length, take, drop, replicate, ◌==◌, slice_index, refl}
use Rattle.std.proofs.Common.{sym, ap, ◌∙◌, mul_assoc, mul_comm, pow-suc, zero-add, suc-add, arith, ne_eqb}
use Rattle.std.proofs.Math.Nat.{pow-zero, two-pow-succ}
use Rattle.std.proofs.lemmas.Bool.{false≢true}
use Rattle.std.specs.List.{fold as folded}
use Rattle.std.proofs.Math.Bool.{and-true, and-false}
use Rattle.std.specs.Int.Bits.{xor_zero_r}
use Rattle.fnv.specs.Fnv.{prime, step, fold, mixed_is}
use Rattle.fnv.specs.Parts.{take_next}
use Rattle.fnv.specs.Products.{mod_left, mod_right}

-- the n-th power of the prime, modulo 2^64
unfoldable pub power : ℕ → ℕ
power n = (prime ^ n) % 2 ^ 64

-- the hash h taken on over n zeros. Shut: antt would write the zeros of a page out as a list
unfoldable pub fold_zeros : ℕ → ℕ → ℕ
fold_zeros n h = fold h (replicate n 0)

pub fold_zeros-is : (n h : ℕ) → fold_zeros n h ≡ fold h (replicate n 0)
unfolding fold_zeros
fold_zeros-is n h = refl

-- whether all of them are zeros
abbrev pub all_zeros : List ℕ → Bool
all_zeros [] = true
all_zeros (zero ∷ xs) = all_zeros xs
all_zeros (suc x ∷ xs) = false

-- ## Powers by repeated squaring

pow_add : (a n m : ℕ) → a ^ (n + m) ≡ a ^ n * a ^ m
pow_add a zero m = rw (zero-add m, pow-zero a) (omega arith)
pow_add a (suc n) m =
    rw (suc-add n m, pow-suc a (n + m), pow-suc a n, pow_add a n m)
    (mul_assoc (a ^ n) (a ^ m) a ∙ ap (λ (x : ℕ). a ^ n * x) (mul_comm (a ^ m) a) ∙ sym (mul_assoc (a ^ n) a (a ^ m)))

power_add : (n m : ℕ) → power (n + m) ≡ (power n * power m) % 2 ^ 64
unfolding power
power_add n m = rw (pow_add prime n m) (sym (mod_left (prime ^ n) (prime ^ m % 2 ^ 64) (2 ^ 64) ∙ mod_right (prime ^ n) (prime ^ m) (2 ^ 64)))

-- the prime squared k times
squared : ℕ → ℕ
squared zero = prime
squared (suc k) = let x = squared k in (x * x) % 2 ^ 64

power_squared : (k : ℕ) → power (2 ^ k) ≡ squared k
unfolding power squared
power_squared zero = refl
power_squared (suc k) = ap power (two-pow-succ k) ∙ power_add (2 ^ k) (2 ^ k) ∙ (λ j. (power_squared k j * power_squared k j) % 2 ^ 64)

power_five : power 5 ≡ 0xcaee32a7d4f6a63
unfolding power
power_five = refl

-- 16,384 is 2^14
power_page : power 16384 ≡ 0xe196b542ec410001
unfolding squared
power_page = power_squared 14

-- ## Zeros

zero_step : (h : ℕ) → step h 0 ≡ (h * prime) % 2 ^ 64
unfolding step
zero_step h = ap (λ (x : ℕ). (x * prime) % 2 ^ 64) (sym (mixed_is h 0 (omega arith)) ∙ xor_zero_r h)

power_suc : (n : ℕ) → power (suc n) ≡ (prime * power n) % 2 ^ 64
unfolding power
power_suc n = rw (pow-suc prime n, mul_comm (prime ^ n) prime) (sym (mod_right prime (prime ^ n) (2 ^ 64)))

power_none : power 0 ≡ 1
unfolding power
power_none = refl

-- n of them
pub zeros_multiply : (n h : ℕ) → h < 2 ^ 64 → fold_zeros n h ≡ (h * power n) % 2 ^ 64
unfolding fold_zeros fold
zeros_multiply zero h lt = sym (ap (λ (x : ℕ). (h * x) % 2 ^ 64) power_none ∙ omega arith)
zeros_multiply (suc n) h lt =
    ap (λ (x : ℕ). fold x (replicate n 0)) (zero_step h)
    ∙ zeros_multiply n ((h * prime) % 2 ^ 64) (omega arith)
    ∙ mod_left (h * prime) (power n) (2 ^ 64)
    ∙ ap (λ (x : ℕ). x % 2 ^ 64) (mul_assoc h prime (power n))
    ∙ sym (ap (λ (x : ℕ). (h * x) % 2 ^ 64) (power_suc n) ∙ mod_right h (prime * power n) (2 ^ 64))

-- ## Bytes that are all zeros

positive : (x : ℕ) → (suc x == 0) ≡ false
positive x = ne_eqb (suc x) 0 (λ e. omega (arith, e))

sum_zero : (a b : ℕ) → (a + b == 0) ≡ (a == 0 && b == 0)
sum_zero zero b = rw (zero-add b)
sum_zero (suc a) b = rw (suc-add a b, positive (a + b), positive a)

zeros_join : (xs : List ℕ) (x : ℕ) → all_zeros (xs ++ (x ∷ [])) ≡ (all_zeros xs && x == 0)
zeros_join [] zero = refl
zeros_join [] (suc x) = sym (positive x)
zeros_join (zero ∷ xs) x = zeros_join xs x
zeros_join (suc y ∷ xs) x = refl

-- their sum says it: one byte more
pub zeros_next : (l : List ℕ) (at k x sum : ℕ) → at + k < length l → x ≡ slice_index l (at + k) → (sum == 0) ≡ all_zeros (take k (drop at l))
    → (sum + x == 0) ≡ all_zeros (take (k + 1) (drop at l))
zeros_next l at k x sum lt w e =
    sum_zero sum x ∙ ap (λ (b : Bool). b && x == 0) e ∙ sym (zeros_join (take k (drop at l)) x)
    ∙ ap all_zeros (ap (λ (y : ℕ). take k (drop at l) ++ (y ∷ [])) w ∙ sym (take_next l at k lt))

-- and so does a test of each
pub zeros_more : (l : List ℕ) (k : ℕ) → k < length l → (all_zeros (take k l) && slice_index l k == 0) ≡ all_zeros (take (k + 1) l)
zeros_more l k lt =
    let next : take (k + 1) l ≡ take k l ++ (slice_index l k ∷ []) = rw zero-add at (take_next l 0 k (omega arith)) in
    sym (zeros_join (take k l) (slice_index l k)) ∙ ap all_zeros (sym next)

-- one after another
pub zeros_folded : (all : Bool) (l : List ℕ) → folded (λ b x. b && x == 0) all l ≡ (all && all_zeros l)
zeros_folded all [] = sym (and-true all)
zeros_folded all (zero ∷ xs) = zeros_folded (all && true) xs ∙ rw and-true
zeros_folded all (suc x ∷ xs) = zeros_folded (all && suc x == 0) xs ∙ rw (positive x, and-false)

zeros_are : (l : List ℕ) → all_zeros l ≡ true → l ≡ replicate (length l) 0
zeros_are [] z = refl
zeros_are (zero ∷ xs) z = ap (λ (r : List ℕ). 0 ∷ r) (zeros_are xs z)
zeros_are (suc x ∷ xs) z = absurd (false≢true z)

pub five_zeros : (l : List ℕ) (h : ℕ) → h < 2 ^ 64 → length l ≡ 5 → all_zeros l ≡ true → fold h l ≡ (h * 0xcaee32a7d4f6a63) % 2 ^ 64
five_zeros l h lt n z =
    ap (fold h) (zeros_are l z ∙ ap (λ (k : ℕ). replicate k 0) n) ∙ sym (fold_zeros-is 5 h) ∙ zeros_multiply 5 h lt ∙ ap (λ (x : ℕ). (h * x) % 2 ^ 64) power_five

pub page_zeros : (h : ℕ) → h < 2 ^ 64 → fold_zeros 16384 h ≡ (h * 0xe196b542ec410001) % 2 ^ 64
page_zeros h lt = zeros_multiply 16384 h lt ∙ ap (λ (x : ℕ). (h * x) % 2 ^ 64) power_page
