-- Writing: a buffer with a word put over its bytes from a place on, and the place behind the word.
use Rattle.std.specs.Prelude.{◌≡◌, refl, List, [], ◌∷◌, ◌++◌, ℕ, suc, ◌+◌, ◌/◌, ◌%◌, ◌≤◌, ◌<◌, length, take, drop, get_or, set}
use Rattle.std.proofs.Common.{ap, sym, ◌∙◌, append_assoc, add-one, arith, length-append, drop_of_length-le, drop-cons}
use Rattle.std.proofs.lemmas.List.Edits.{sets, sets-eq}
use Rattle.std.proofs.Math.Seq.{length-sets, drop-drop}
use borrow.Rule.Slice.PartMut.{put_mid}
use Rattle.decimal.specs.Decimal.{decimal, decimal_one, decimal_more}
use Rattle.decimal.specs.declared.write.Writer.{Writer}

pub record Written : Type 0 where
  pub next : ℕ
  pub bytes : List ℕ

abbrev pub written : ℕ → List ℕ → Written
written n b = record { next = n; bytes = b }

unfoldable pub write : ℕ → List ℕ → List ℕ → Written
write at word out = written (at + length word) (sets out at word)

-- a writer puts a word where it stood, into the buffer that it was lent
abbrev pub Puts : Writer → Writer → List ℕ → Type 0
Puts before after word = (after.out.ghost_name ≡ before.out.ghost_name) × (written after.at after.out.now ≡ write before.at word before.out.now)

pub sets_append : (a b l : List ℕ) (i : ℕ) → sets (sets l i a) (i + length a) b ≡ sets l i (a ++ b)
sets_append [] b l i = let e : i + 0 ≡ i = omega arith in ap (λ (k : ℕ). sets l k b) e
sets_append (x ∷ a) b l i =
    let e : i + suc (length a) ≡ suc i + length a = omega arith in
    ap (λ (k : ℕ). sets (sets (set l i x) (suc i) a) k b) e ∙ sets_append a b (set l i x) (suc i)

-- one word behind another
pub write_join : (at : ℕ) (a b out : List ℕ) → write (write at a out).next b (write at a out).bytes ≡ write at (a ++ b) out
unfolding write
write_join at a b out =
    let e : at + length a + length b ≡ at + length (a ++ b) = omega (arith, length-append a b) in
    λ i. written (e i) (sets_append a b out at i)

-- a byte, then the rest
pub write_step : (at : ℕ) (word : List ℕ) (i : ℕ) (out : List ℕ) → i < length word
    → write (at + 1) (drop (i + 1) word) (set out at (get_or word i 0)) ≡ write at (drop i word) out
unfolding write
write_step at word i out h =
    let c : drop i word ≡ get_or word i 0 ∷ drop (suc i) word = drop-cons word i 0 h in
    let e : at + 1 + length (drop (suc i) word) ≡ at + suc (length (drop (suc i) word)) = omega arith in
    rw (c, add-one i, add-one at) (λ j. written (rw (add-one at) at e j) (sets (set out at (get_or word i 0)) (suc at) (drop (suc i) word)))

pub write_none : (at : ℕ) (out : List ℕ) → write at [] out ≡ written at out
unfolding write
write_none at out = let e : at + 0 ≡ at = omega arith in λ i. written (e i) out

pub write_done : (at : ℕ) (word : List ℕ) (i : ℕ) (out : List ℕ) → length word ≤ i → write at (drop i word) out ≡ written at out
write_done at word i out h = ap (λ (w : List ℕ). write at w out) (drop_of_length-le word {i = i} h) ∙ write_none at out

-- a word copied into the part of a buffer that is as long
pub sets_part : (at k : ℕ) (word out new : List ℕ) → at + length word ≤ length out → k ≡ length word → new ≡ word → put_mid at k out new ≡ sets out at word
sets_part at k word out new h e f =
    let rest : drop (length word) (drop at out) ≡ drop (at + length word) out = drop-drop (length word) at out in
    rw (e, f, rest) (sym (append_assoc (take at out) word (drop (at + length word) out)) ∙ sym (sets-eq word out at h))

pub write_part : (at k : ℕ) (word out new : List ℕ) → at + length word ≤ length out → k ≡ length word → new ≡ word → written (at + length word) (put_mid at k out new) ≡ write at word out
unfolding write
write_part at k word out new h e f = ap (written (at + length word)) (sets_part at k word out new h e f)

-- one byte
pub write_one : (at b : ℕ) (out : List ℕ) → written (at + 1) (set out at b) ≡ write at (b ∷ []) out
unfolding write
write_one at b out = refl

pub length-write : (at : ℕ) (word out : List ℕ) → length (write at word out).bytes ≡ length out
unfolding write
length-write at word out = length-sets out at word

pub next_write : (at : ℕ) (word out : List ℕ) → (write at word out).next ≡ at + length word
unfolding write
next_write at word out = refl

-- ## The digits of a number

pub number_one : (at n : ℕ) (out : List ℕ) → n < 10 → write at ((48 + n) ∷ []) out ≡ write at (decimal n) out
number_one at n out h = rw (decimal_one n h)

pub number_more : (at n : ℕ) (out : List ℕ) → 10 ≤ n → n < 18446744073709551616
    → write (write at (decimal (n / 10)) out).next ((48 + n % 10) ∷ []) (write at (decimal (n / 10)) out).bytes ≡ write at (decimal n) out
number_more at n out h k = rw (decimal_more n h k) (write_join at (decimal (n / 10)) ((48 + n % 10) ∷ []) out)

-- one digit less
pub digits_less : (n : ℕ) → 10 ≤ n → n < 18446744073709551616 → length (decimal n) ≡ length (decimal (n / 10)) + 1
digits_less n h k = ap length (decimal_more n h k) ∙ length-append (decimal (n / 10)) ((48 + n % 10) ∷ [])

-- ## One call behind another

module _ (at : ℕ) (word out : List ℕ) (n : ℕ) (o : List ℕ) (e : written n o ≡ write at word out) where
  pub next_is : n ≡ at + length word
  next_is = ap (λ (w : Written). w.next) e ∙ next_write at word out

  pub bytes_stay : length o ≡ length out
  bytes_stay = ap (λ (w : Written). length w.bytes) e ∙ length-write at word out

  -- both
  pub moved : (n ≡ at + length word) × (length o ≡ length out)
  moved = (next_is, bytes_stay)

  pub write_then : (m : ℕ) (p more : List ℕ) → written m p ≡ write n more o → written m p ≡ write at (word ++ more) out
  write_then m p more f = f ∙ ap (λ (w : Written). write w.next more w.bytes) e ∙ write_join at word more out

-- what lies before the word and behind it stays
pub write_is : (at : ℕ) (word out : List ℕ) → at + length word ≤ length out → (write at word out).bytes ≡ take at out ++ word ++ drop (at + length word) out
unfolding write
write_is at word out h = sets-eq word out at h
