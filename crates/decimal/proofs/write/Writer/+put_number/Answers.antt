-- `Writer::put_number` meets its contract.
use Rattle.std.proofs.Common.{[], ◌∷◌, ◌+◌, ◌/◌, ◌%◌, length, ap, ◌∙◌, arith}
use Rattle.decimal.specs.Decimal.{decimal, decimal_one}
use Rattle.decimal.specs.Write.{Written, write, next_is, bytes_stay, number_one, number_more, digits_less}
use Rattle.decimal.proofs.write.Writer.+put_number.Goals as goal

pub put_digit-requires : goal.put_digit-requires
put_digit-requires t c = (omega (arith, ap length (decimal_one c.args.n (omega arith))), omega arith)

pub returns-then-n-lt10 : goal.returns-then-n-lt10
returns-then-n-lt10 t c =
    let w = c.args.self.now in
    (c.put_digit.ensures.0, c.put_digit.ensures.1 ∙ number_one w.at c.args.n w.out.now (omega arith))

pub put_number-requires : goal.put_number-requires
put_number-requires t c = (omega arith, omega (arith, digits_less c.args.n (omega arith) (omega arith)))

pub put_digit-requires-2 : goal.put_digit-requires-2
put_digit-requires-2 t c =
    let w = c.args.self.now in
    let put = c.put_number.ensures.1 in (
      omega (
        arith,
        next_is w.at (decimal (c.args.n / 10)) w.out.now _ _ put,
        bytes_stay w.at (decimal (c.args.n / 10)) w.out.now _ _ put,
        digits_less c.args.n (omega arith) (omega arith),
      ),
      omega arith,
    )

pub returns : goal.returns
returns t c =
    let w = c.args.self.now in
    let put = c.put_number.ensures in (
      c.put_digit-2.ensures.0 ∙ put.0,
      c.put_digit-2.ensures.1 ∙ ap (λ (x : Written). write x.next ((48 + c.args.n % 10) ∷ []) x.bytes) put.1
          ∙ number_more w.at c.args.n w.out.now (omega arith) (omega arith),
    )
