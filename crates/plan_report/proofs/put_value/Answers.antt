-- `plan_report::put_value` meets its contract: three pieces, one behind the other.
use Rattle.std.proofs.Common.{◌∙◌}
use mathlib.Core.List.{◌++◌}
use native.Mathlib.Omega.{arith}
use Rattle.decimal.specs.Decimal.{decimal, decimal-length}
use Rattle.decimal.specs.Write.{moved, write_then}
use Rattle.plan_line.specs.Values.{ascii, number_value}
use Rattle.plan_report.proofs.put_value.Goals as goal

pub put_number-requires : goal.put_number-requires
put_number-requires c =
    let a = c.args in
    let w = a.writer.now in
    omega (arith, moved w.at a.key.now w.out.now _ _ c.put.ensures.1, decimal-length a.n)

pub put-requires-2 : goal.put-requires-2
put-requires-2 c =
    let a = c.args in
    let w = a.writer.now in
    omega (arith, moved w.at a.key.now w.out.now _ _ c.put.ensures.1, moved _ (decimal a.n) _ _ _ c.put_number.ensures.1, decimal-length a.n)

pub returns : goal.returns
unfolding number_value
returns c =
    let a = c.args in
    let w = a.writer.now in (
      c.put-2.ensures.0 ∙ c.put_number.ensures.0 ∙ c.put.ensures.0,
      write_then w.at a.key.now w.out.now _ _ c.put.ensures.1 _ _ (decimal a.n ++ ascii "\n")
          (write_then _ (decimal a.n) _ _ _ c.put_number.ensures.1 _ _ (ascii "\n") c.put-2.ensures.1),
    )
