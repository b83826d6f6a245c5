-- `decimal::digits` meets its contract. The loop's invariant: the digits from here on, behind the value so far, mean what they meant at the start.
use Rattle.std.proofs.Common.{◌≡◌, refl, ℕ, ◌+◌, ◌-◌, ◌*◌, true, sym, ap, ◌∙◌, length, get_or, arith}
use Rattle.decimal.specs.Places.{found_in}
use Rattle.decimal.specs.Text.{got, from, is_digit, digits}
use Rattle.decimal.specs.Read.{digit_is, byte_is, byte_in, bytes_left, digits_on, digits_full, digits_other, digits_out}
use Rattle.decimal.proofs.read.digits.Goals.{Else-not-is_ascii_digit}
use Rattle.decimal.proofs.read.digits.Goals as goal

is_one : (c : Else-not-is_ascii_digit) → is_digit (get_or c.args.text.now (c.args.at + c.loop-i.i) 0) ≡ true
is_one c = ap is_digit (sym (byte_is c.args.text.now c.args.at c.loop-i.i)) ∙ sym (c.if-not-is_ascii_digit.ensures.value ∙ digit_is _)

pub returns-then-not-is_ascii_digit : goal.returns-then-not-is_ascii_digit
returns-then-not-is_ascii_digit c =
    let t = c.args.text.now in
    let at = c.args.at in
    let l = c.loop-i in
    let d = ap is_digit (sym (byte_is t at l.i)) ∙ sym (c.if-not-is_ascii_digit.ensures.value ∙ digit_is _) in
    sym (digits_other t (at + l.i) l.value (byte_in t at l.i c.loop-i-test.true) d) ∙ l.invariant

pub returns-in_err-tens : goal.returns-in_err-tens
returns-in_err-tens c =
    let t = c.args.text.now in
    let at = c.args.at in
    let l = c.loop-i in
    let over = c.in_err-tens.ensures in
    ap (found_in t) c.from_residual.ensures
    ∙ sym (digits_full t (at + l.i) l.value (byte_in t at l.i c.loop-i-test.true) (is_one (goal.at.returns-in_err-tens c).Else-not-is_ascii_digit) (omega arith)) ∙ l.invariant

pub returns-in_err-value : goal.returns-in_err-value
returns-in_err-value c =
    let t = c.args.text.now in
    let at = c.args.at in
    let l = c.loop-i in
    let over = c.in_err-value.ensures in
    let tens = c.in_ok-tens.ensures in
    ap (found_in t) c.from_residual-in_err-value.ensures
    ∙ sym (digits_full t (at + l.i) l.value (byte_in t at l.i c.loop-i-test.true) (is_one (goal.at.returns-in_err-value c).Else-not-is_ascii_digit)
    (omega (arith, c.from-digit.ensures, byte_is t at l.i))) ∙ l.invariant

pub loop-i-preserved : goal.loop-i-preserved
loop-i-preserved c =
    let t = c.args.text.now in
    let at = c.args.at in
    let l = c.loop-i in
    let value = c.in_ok-value.ensures in
    let tens = c.in_ok-tens.ensures in
    let d : ℕ = get_or t (at + l.i) 0 - 48 in
    let e : c.in_ok-value.value ≡ l.value * 10 + d = omega (arith, c.from-digit.ensures, byte_is t at l.i) in
    let n : at + (l.i + 1) ≡ at + l.i + 1 = omega arith in
    (λ i. digits (e i) (from t (n i)))
    ∙ digits_on t (at + l.i) l.value d (byte_in t at l.i c.loop-i-test.true) (is_one (goal.at.loop-i-preserved c).Else-not-is_ascii_digit) refl
    (omega (arith, c.from-digit.ensures, byte_is t at l.i)) ∙ l.invariant

pub returns : goal.returns
returns c =
    let t = c.args.text.now in
    let l = c.loop-i in
    let e : length t ≡ c.args.at + l.i = omega (arith, c.requires, bytes_left t c.args.at) in
    ap (λ (i : ℕ). got l.value (from t i)) e ∙ sym (digits_out t (c.args.at + l.i) l.value (omega arith)) ∙ l.invariant
