-- The hash over a list part by part.
use Rattle.std.specs.Prelude.{◌≡◌, ℕ, ◌+◌, ◌-◌, ◌*◌, ◌<◌, ◌≤◌, List, [], ◌∷◌, ◌++◌, length, take, drop, slice_index, zero, suc, get_or, refl}
use Rattle.std.specs.List.{fold as folded}
use Rattle.std.specs.Simd.{first_chunks}
use Rattle.std.proofs.Common.{zero-mul, suc-mul, sym, ap, ◌∙◌, add-one, arith, length-drop, take-add, take-suc, take_all, drop-drop, get_or-drop}
use Rattle.fnv.specs.Fnv.{step, fold, fold_join, fold_cons, fold_nil}

-- one octet more of a part
pub take_next : (l : List ℕ) (at k : ℕ) → at + k < length l → take (k + 1) (drop at l) ≡ take k (drop at l) ++ (slice_index l (at + k) ∷ [])
take_next l at k lt = rw add-one (take-suc (drop at l) k 0 (simp length-drop (omega arith)) ∙ rw (get_or-drop at l k 0))

-- chunk i of n octets
pub chunk_at : (n k i : ℕ) (l d : List ℕ) → i < k → get_or (first_chunks n k l) i d ≡ take n (drop (i * n) l)
chunk_at n zero i l d h = absurd (omega arith)
chunk_at n (suc k) zero l d h = rw zero-mul
chunk_at n (suc k) (suc i) l d h =
    let e : n + i * n ≡ suc i * n = omega (arith, suc-mul i n) in
    chunk_at n k i (drop n l) d (omega arith) ∙ ap (take n) (drop-drop (i * n) n l ∙ ap (λ (o : ℕ). drop o l) e)

module _ (h : ℕ) (l : List ℕ) where
  -- one octet more
  pub fold_next : (at k : ℕ) → at + k < length l → step (fold h (take k (drop at l))) (slice_index l (at + k)) ≡ fold h (take (k + 1) (drop at l))
  fold_next at k lt =
      sym (ap (fold h) (take_next l at k lt) ∙ sym (fold_join h (take k (drop at l)) (slice_index l (at + k) ∷ [])) ∙ fold_cons _ _ [] ∙ fold_nil _)

  -- n octets more
  pub fold_on : (i n : ℕ) → fold (fold h (take i l)) (take n (drop i l)) ≡ fold h (take (i + n) l)
  fold_on i n = fold_join h (take i l) (take n (drop i l)) ∙ ap (fold h) (sym (take-add i n l))

  -- all that are left
  pub fold_rest : (i : ℕ) → i ≤ length l → fold (fold h (take i l)) (take (length l - i) (drop i l)) ≡ fold h l
  fold_rest i le = fold_on i (length l - i) ∙ ap (fold h) (take_all (i + (length l - i)) l (omega arith))

pub fold_both : (h : ℕ) (l : List ℕ) (at a b : ℕ) → fold (fold h (take a (drop at l))) (take b (drop (at + a) l)) ≡ fold h (take (a + b) (drop at l))
fold_both h l at a b = ap (λ (x : List ℕ). fold (fold h (take a (drop at l))) (take b x)) (sym (drop-drop a at l)) ∙ fold_on h (drop at l) a b

-- one octet after another
pub each_folded : (h : ℕ) (l : List ℕ) → folded step h l ≡ fold h l
unfolding fold
each_folded h [] = refl
each_folded h (b ∷ bs) = each_folded (step h b) bs

-- one chunk of n octets after another
pub chunks_folded : (n k h : ℕ) (l : List ℕ) → folded fold h (first_chunks n k l) ≡ fold h (take (k * n) l)
chunks_folded n zero h l = rw zero-mul (sym (fold_nil h))
chunks_folded n (suc k) h l =
    let e : n + k * n ≡ suc k * n = omega (arith, suc-mul k n) in
    chunks_folded n k (fold h (take n l)) (drop n l) ∙ fold_on h l n (k * n) ∙ ap (λ (m : ℕ). fold h (take m l)) e
