-- `decimal::number` meets its contract: each return is a law of the definition.
use Rattle.std.proofs.Common.{◌≡◌, ◌-◌, ℕ, sym, ap, ◌∙◌, get_or, arith}
use Rattle.decimal.specs.Places.{found_in}
use Rattle.decimal.specs.Text.{is_digit}
use Rattle.decimal.specs.Read.{digit_is, number_out, number_other, number_alone, number_on}
use Rattle.decimal.proofs.read.number.Goals as goal

pub returns-in_err-first : goal.returns-in_err-first
returns-in_err-first c =
    let past = c.in_err-first.ensures.lookup.3 in
    ap (found_in c.args.text.now) c.from_residual.ensures ∙ sym (number_out c.args.text.now c.args.at (omega arith))

pub returns-then-not-is_ascii_digit : goal.returns-then-not-is_ascii_digit
returns-then-not-is_ascii_digit c =
    let found = c.in_ok-first.ensures.lookup.3 in
    let d = ap is_digit (sym (found.1 0)) ∙ sym (c.if-not-is_ascii_digit.ensures.value ∙ digit_is _) in
    sym (number_other c.args.text.now c.args.at found.0 d)

pub returns-then-first-eq48 : goal.returns-then-first-eq48
returns-then-first-eq48 c =
    let found = c.in_ok-first.ensures.lookup.3 in
    sym (number_alone c.args.text.now c.args.at found.0 (sym (found.1 0) ∙ c.if-first-eq48.true))

pub returns : goal.returns
returns c =
    let found = c.in_ok-first.ensures.lookup.3 in
    let t = c.args.text.now in
    let d = ap is_digit (sym (found.1 0)) ∙ sym (c.if-not-is_ascii_digit.ensures.value ∙ digit_is _) in
    let e : c.from.result ≡ get_or t c.args.at 0 - 48 = c.from.ensures ∙ ap (λ (x : ℕ). x - 48) (found.1 0) in
    c.digits.ensures ∙ sym (number_on t c.args.at c.from.result found.0 d (λ z. c.if-first-eq48.false (found.1 0 ∙ z)) e)
