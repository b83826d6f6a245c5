-- Pages of P bytes, for any P above 0: how many a size needs, the page that an offset lies in, and its place there.
use Rattle.std.specs.Prelude.{◌≡◌, refl, Bool, true, false, ltb}
use Rattle.std.proofs.Common.{sym, ap, ◌∙◌, mod-lt, div-add-mod', le-div_iff_mul-le, le-mul_of_pos_right, mul-le-mul_right, add-mul, one-mul, suc-mul, pos_of_ne-zero, arith, ltb-true, ltb-false}
use Prim.Native.Nat.{ℕ, suc, ◌+◌, ◌-◌, ◌*◌, ◌/◌, ◌%◌, ◌≤◌, ◌<◌}
use Rattle.std.proofs.Math.Nat.{div-eq_of_lt-le}

-- 01: "Page count of a size: the size divided by 16,384, rounded up."
unfoldable pub count : ℕ → ℕ → ℕ
count P n = (n + (P - 1)) / P

module _ (P : ℕ) (pos : 0 < P) where
  -- an offset lies in its page
  pub page_lo : (o : ℕ) → o / P * P ≤ o
  page_lo o = omega (arith, div-add-mod' o P)

  pub page_hi : (o : ℕ) → o < o / P * P + P
  page_hi o = omega (arith, div-add-mod' o P, mod-lt o pos)

  -- and in no other
  pub page_at : (q o : ℕ) → q * P ≤ o → o < q * P + P → o / P ≡ q
  page_at q o lo hi = div-eq_of_lt-le P lo (omega arith)

  -- its place there
  pub place_lt : (o : ℕ) → o % P < P
  place_lt o = mod-lt o pos

  pub page_place : (o : ℕ) → o / P * P + o % P ≡ o
  page_place o = div-add-mod' o P

  -- page q is one of the pages of n bytes exactly when its first byte is one of the bytes
  pub count_lt : (q n : ℕ) → q < count P n → q * P < n
  unfolding count
  count_lt q n h = omega (arith, (le-div_iff_mul-le {x = suc q} pos).0 h)

  pub lt_count : (q n : ℕ) → q * P < n → q < count P n
  unfolding count
  lt_count q n h = (le-div_iff_mul-le {x = suc q} pos).1 (omega arith)

  -- the pages hold the bytes
  pub count_ge : (n : ℕ) → n ≤ count P n * P
  count_ge n = go (ltb (count P n * P) n) refl
    where
      go : (b : Bool) → ltb (count P n * P) n ≡ b → n ≤ count P n * P
      go true e = absurd (omega (arith, lt_count (count P n) n (ltb-true (count P n * P) n e)))
      go false e = ltb-false (count P n * P) n e

  -- there are no more pages than bytes
  pub count_le : (n : ℕ) → count P n ≤ n
  count_le n = go (ltb n (count P n)) refl
    where
      go : (b : Bool) → ltb n (count P n) ≡ b → count P n ≤ n
      go true e = absurd (omega (arith, count_lt n n (ltb-true n (count P n) e), le-mul_of_pos_right n pos))
      go false e = ltb-false n (count P n) e

  -- q pages are the pages of n bytes when they hold them and one less would not
  pub count_is : (q n : ℕ) → n ≤ q * P → ((p : ℕ) → p < q → p * P < n) → count P n ≡ q
  count_is q n fits least = go (ltb (count P n) q) refl
    where
      up : count P n ≤ q
      up = go (ltb q (count P n)) refl
        where
          go : (b : Bool) → ltb q (count P n) ≡ b → count P n ≤ q
          go true e = absurd (omega (arith, count_lt q n (ltb-true q (count P n) e)))
          go false e = ltb-false q (count P n) e

      go : (b : Bool) → ltb (count P n) q ≡ b → count P n ≡ q
      go true e = absurd (omega (arith, least (count P n) (ltb-true (count P n) q e), count_ge n))
      go false e = omega (arith, up, ltb-false (count P n) q e)

  -- the quotient, or one more where something is left over
  pub count_whole : (n : ℕ) → n % P ≡ 0 → count P n ≡ n / P
  count_whole n e = count_is (n / P) n (omega (arith, div-add-mod' n P))
      (λ p h. omega (arith, div-add-mod' n P, mul-le-mul_right P h, add-mul p 1 P, one-mul P, suc-mul p P))

  pub count_part : (n : ℕ) → (n % P ≡ 0 → ⊥) → count P n ≡ n / P + 1
  count_part n e = count_is (n / P + 1) n (omega (arith, page_hi n, add-mul (n / P) 1 P, one-mul P))
      (λ p h. let k : p ≤ n / P = omega arith in omega (arith, div-add-mod' n P, mul-le-mul_right P k, pos_of_ne-zero e))

  -- whole pages and the pages of the rest
  pub count_more : (q n : ℕ) → q * P ≤ n → q + count P (n - q * P) ≡ count P n
  count_more q n h = sym (count_is (q + count P (n - q * P)) n (omega (arith, count_ge (n - q * P), add-mul q (count P (n - q * P)) P))
      (λ p k. go p k (ltb p q) refl))
    where
      go : (p : ℕ) → p < q + count P (n - q * P) → (b : Bool) → ltb p q ≡ b → p * P < n
      go p k true e = omega (arith, mul-le-mul_right P (ltb-true p q e), suc-mul p P)
      go p k false e =
          let r : p ≡ q + (p - q) = omega (arith, ltb-false p q e) in
          let m : p * P ≡ q * P + (p - q) * P = ap (λ (x : ℕ). x * P) r ∙ add-mul q (p - q) P in
          omega (arith, count_lt (p - q) (n - q * P) (omega (arith, ltb-false p q e)))
