-- Products modulo 2^64.
use Rattle.std.specs.Prelude.{◌≡◌, ℕ, ◌+◌, ◌*◌, ◌/◌, ◌%◌, ◌^◌, ◌<◌, ◌≤◌}
use Rattle.std.proofs.Common.{sym, ap, ◌∙◌, mul-add, add-mul, mul_assoc, mul_comm, mul-le-mul, arith}
use Rattle.std.proofs.Math.Nat.{mul-mul-mul_comm, mod-add-div', mod-add-mod, add-mul-mod_self_right}

-- ## A factor modulo m

pub mod_left : (a b m : ℕ) → (a % m * b) % m ≡ (a * b) % m
mod_left a b m =
    let q : ℕ = a / m in
    let e : q * m * b ≡ q * b * m = mul_assoc q m b ∙ ap (λ (x : ℕ). q * x) (mul_comm m b) ∙ sym (mul_assoc q b m) in
    let s : a * b ≡ a % m * b + q * b * m = ap (λ (x : ℕ). x * b) (sym (mod-add-div' a m)) ∙ add-mul (a % m) (q * m) b ∙ ap (λ (x : ℕ). a % m * b + x) e in
    sym (ap (λ (x : ℕ). x % m) s ∙ add-mul-mod_self_right (a % m * b) (q * b) m)

pub mod_right : (a b m : ℕ) → (a * (b % m)) % m ≡ (a * b) % m
mod_right a b m = ap (λ (x : ℕ). x % m) (mul_comm a (b % m)) ∙ mod_left b a m ∙ ap (λ (x : ℕ). x % m) (mul_comm b a)

-- ## By halves of 32 bits

pub half_product : (a b : ℕ) → a < 4294967296 → b < 4294967296 → a * b < 18446744073709551616
half_product a b p q = let h : a * b ≤ 4294967295 * 4294967295 = mul-le-mul {n₁ = a} {m₁ = b} {n₂ = 4294967295} {m₂ = 4294967295} (omega arith) (omega arith) in omega arith

expand : (a b c d m : ℕ) → (a + b * m) * (c + d * m) ≡ a * c + b * c * m + a * d * m + b * d * (m * m)
expand a b c d m =
    let p : a * (c + d * m) ≡ a * c + a * d * m = mul-add a c (d * m) ∙ ap (λ (x : ℕ). a * c + x) (sym (mul_assoc a d m)) in
    let q : b * m * c ≡ b * c * m = mul_assoc b m c ∙ ap (λ (x : ℕ). b * x) (mul_comm m c) ∙ sym (mul_assoc b c m) in
    let r : b * m * (c + d * m) ≡ b * c * m + b * d * (m * m) = mul-add (b * m) c (d * m) ∙ (λ j. q j + mul-mul-mul_comm b m d m j) in
    add-mul a (b * m) (c + d * m) ∙ (λ j. p j + r j) ∙ regroup (a * c) (a * d * m) (b * c * m) (b * d * (m * m))
  where
    regroup : (w x y z : ℕ) → w + x + (y + z) ≡ w + y + x + z
    regroup w x y z = omega arith

-- what the products of halves lose by their remainders is a multiple of 2^64
lost : (p q r s : ℕ) → p + q * 4294967296 + r * 4294967296 + s * 18446744073709551616
    ≡ p + q % 4294967296 * 4294967296 + r % 4294967296 * 4294967296 + (q / 4294967296 + r / 4294967296 + s) * 18446744073709551616
lost p q r s = omega arith

module _ (x k : ℕ) where
  abbrev low : ℕ
  low = x % 4294967296 * (k % 4294967296)

  abbrev high : ℕ
  high = x / 4294967296 * (k % 4294967296) % 4294967296 * 4294967296

  abbrev middle : ℕ
  middle = x % 4294967296 * (k / 4294967296) % 4294967296 * 4294967296

  pub product : (sum r : ℕ) → sum ≡ (low + high) % 2 ^ 64 → r ≡ (sum + middle) % 2 ^ 64 → r ≡ (x * k) % 2 ^ 64
  product sum r e f =
      let m : ℕ = 4294967296 in
      let whole : x * k ≡ low + high + middle + (x / m * (k % m) / m + x % m * (k / m) / m + x / m * (k / m)) * 18446744073709551616 =
      (λ j. sym (mod-add-div' x m) j * sym (mod-add-div' k m) j) ∙ expand (x % m) (x / m) (k % m) (k / m) m
      ∙ lost (x % m * (k % m)) (x / m * (k % m)) (x % m * (k / m)) (x / m * (k / m)) in
      f ∙ rw e (mod-add-mod (low + high) (2 ^ 64) middle) ∙ sym (ap (λ (n : ℕ). n % 2 ^ 64) whole ∙ add-mul-mod_self_right (low + high + middle) _ (2 ^ 64))
