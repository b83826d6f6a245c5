-- 64-bit FNV-1a, as published by G. Fowler, L. C. Noll, K.-P. Vo, D. Eastlake and T. Hansen, "The FNV Non-Cryptographic Hash Algorithm"
-- (draft-eastlake-fnv): the hash starts as the offset basis; for each octet of the data in turn it is combined with the octet by exclusive
-- or, which reaches its lowest eight bits only, and then multiplied by the FNV prime, modulo 2^64.
use Rattle.std.specs.Prelude.{◌≡◌, ℕ, ◌+◌, ◌*◌, ◌/◌, ◌%◌, ◌^◌, ◌<◌, List, [], ◌∷◌, ◌++◌, bit_xor, refl}
use Rattle.std.proofs.Common.{arith}
use Rattle.std.proofs.lemmas.Nat.{xor_block}
use Rattle.std.specs.Int.Bits.{xor_zero_r}

abbrev pub basis : ℕ
basis = 0xcbf29ce484222325

abbrev pub prime : ℕ
prime = 0x100000001b3

-- the exclusive or of a number and an octet; the octet reaches the lowest eight bits only
unfoldable pub mixed : ℕ → ℕ → ℕ
mixed h b = h / 256 * 256 + bit_xor (h % 256) b

unfoldable pub step : ℕ → ℕ → ℕ
step h b = (mixed h b * prime) % 2 ^ 64

-- the hash h taken on over octets
unfoldable pub fold : ℕ → List ℕ → ℕ
fold h [] = h
fold h (b ∷ bs) = fold (step h b) bs

unfoldable pub fnv1a64 : List ℕ → ℕ
fnv1a64 bs = fold basis bs

-- ## Laws

-- it is the exclusive or of the whole number
pub mixed_is : (h b : ℕ) → b < 256 → bit_xor h b ≡ mixed h b
unfolding mixed
mixed_is h b lt =
    let e : bit_xor (h / 256 * 2 ^ 8 + h % 256) (0 * 2 ^ 8 + b) ≡ bit_xor (h / 256) 0 * 2 ^ 8 + bit_xor (h % 256) b =
    xor_block 8 (h / 256) 0 (h % 256) b (omega arith) lt in
    let p : h / 256 * 2 ^ 8 + h % 256 ≡ h = omega arith in
    let q : 0 * 2 ^ 8 + b ≡ b = omega arith in
    rw (p, q, xor_zero_r) at e

pub fold_nil : (h : ℕ) → fold h [] ≡ h
unfolding fold
fold_nil h = refl

pub fold_cons : (h b : ℕ) (bs : List ℕ) → fold h (b ∷ bs) ≡ fold (step h b) bs
unfolding fold
fold_cons h b bs = refl

-- to fold over two parts is to fold over their join
pub fold_join : (h : ℕ) (a b : List ℕ) → fold (fold h a) b ≡ fold h (a ++ b)
unfolding fold
fold_join h [] b = refl
fold_join h (x ∷ a) b = fold_join (step h x) a b

pub fnv_is : (bs : List ℕ) → fnv1a64 bs ≡ fold basis bs
unfolding fnv1a64
fnv_is bs = refl

-- 01: "FNV-1a of no bytes is the start value"
pub fnv_of_none : fnv1a64 [] ≡ 0xcbf29ce484222325
unfolding fnv1a64 fold
fnv_of_none = refl
