-- `load_fields` meets its contract.
use Rattle.std.proofs.Common.{ℕ, List, ◌≡◌, ◌<◌, ◌≤◌, ◌++◌, [], ◌∷◌, length, drop, Err, rules, sym, ap, ◌∙◌, refl, arith}
use borrow.Author.Tests.{lt-ltb, le-ltb}
use Rattle.config.specs.Refusals.{numbers_of as numbersOfRefusal}
use Rattle.config.specs.declared.refusal.Numbers.{Numbers}
use Rattle.config.specs.declared.refusal.Refusal.TheVariants.{BufferTooShort}
use Rattle.memory.specs.Bytes.{zeros, overwrite, filled}
use Rattle.meta.specs.Block.{numbers_of}
use Rattle.meta_load.specs.Load.{Loaded}
use Rattle.yuharopu.specs.Exports.{answer, shown, load_fields, load_shown, in_front}
use Rattle.yuharopu.proofs.load_fields.Goals as goal

-- the list that is shown of a refusal
padded : ℕ → List ℕ
padded x = x ∷ 0 ∷ 0 ∷ 0 ∷ 0 ∷ 0 ∷ 0 ∷ 0 ∷ 0 ∷ 0 ∷ 0 ∷ 0 ∷ 0 ∷ 0 ∷ 0 ∷ 0 ∷ 0 ∷ 0 ∷ 0 ∷ 0 ∷ 0 ∷ []

padded_zeros : (x : ℕ) → padded x ≡ x ∷ zeros 20
unfolding padded filled
padded_zeros x = refl

padded_front : (x : ℕ) (xs : List ℕ) → 21 ≤ length xs → padded x ++ drop 21 xs ≡ overwrite 0 (x ∷ zeros 20) xs
unfolding padded
padded_front x xs room = in_front (padded x) xs room ∙ ap (λ (new : List ℕ). overwrite 0 new xs) (padded_zeros x)

pub returns-then-block-lt-ENCODED_LEN : goal.returns-then-block-lt-ENCODED_LEN
unfolding load_fields
returns-then-block-lt-ENCODED_LEN c = simp (lt-ltb (length c.args.block.now) 16544 (omega arith))

pub returns-in_err-shown : goal.returns-in_err-shown
unfolding load_fields
returns-in_err-shown c =
    let refused : c.from_residual.result ≡ Err BufferTooShort = search rules in
    let few : length c.args.fields.now < 21 = search rules in
    rw refused (simp (le-ltb (length c.args.block.now) 16544 (omega arith), lt-ltb _ _ few))

pub returns-in-Ok : goal.returns-in-Ok
returns-in-Ok c =
    let s = c.args in
    let room : 21 ≤ length s.fields.now = search rules in
    let front = ap (λ (n : List ℕ). n ++ drop 21 s.fields.now) c.numbers.ensures ∙ in_front (numbers_of c.in-Ok.loaded) s.fields.now room in
    ap (answer 0) front ∙ ap (λ (x : Loaded). shown x s.fields.now) (sym c.in-Ok.is)
    ∙ load_shown s.block.now s.fields.now c.load.result (omega arith) room c.load.ensures

pub returns-in-Err : goal.returns-in-Err
unfolding padded
returns-in-Err c =
    let s = c.args in
    let n = c.from in
    let room : 21 ≤ length s.fields.now = search rules in
    let number = (numbersOfRefusal c.in-Err.refusal).number in
    ap (answer number) (padded_front n.result.first s.fields.now room)
    ∙ ap (λ (x : Numbers). answer number (overwrite 0 (x.first ∷ zeros 20) s.fields.now)) n.ensures
    ∙ ap (λ (x : Loaded). shown x s.fields.now) (sym c.in-Err.is)
    ∙ load_shown s.block.now s.fields.now c.load.result (omega arith) room c.load.ensures
