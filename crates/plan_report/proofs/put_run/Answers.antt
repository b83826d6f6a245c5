-- `plan_report::put_run` meets its contract: the key, the start, and the end as a value behind a dash.
use Rattle.std.proofs.Common.{◌∙◌}
use mathlib.Core.List.{◌++◌}
use native.Mathlib.Omega.{arith}
use Rattle.decimal.specs.Decimal.{decimal, decimal-length}
use Rattle.decimal.specs.Write.{moved, write_then}
use Rattle.plan_line.specs.Values.{ascii, number_value, run_value}
use Rattle.plan_report.proofs.put_run.Goals as goal

pub put_number-requires : goal.put_number-requires
put_number-requires c =
    let w = c.args.writer.now in
    omega (arith, moved w.at (ascii "extent=") w.out.now _ _ c.put.ensures.1, decimal-length c.args.run.start)

pub put_value-requires : goal.put_value-requires
put_value-requires c =
    let x = c.args.run in
    let w = c.args.writer.now in
    omega (arith, moved w.at (ascii "extent=") w.out.now _ _ c.put.ensures.1, moved _ (decimal x.start) _ _ _ c.put_number.ensures.1, decimal-length x.start)

pub returns : goal.returns
unfolding number_value run_value
returns c =
    let x = c.args.run in
    let w = c.args.writer.now in (
      c.put_value.ensures.0 ∙ c.put_number.ensures.0 ∙ c.put.ensures.0,
      write_then w.at (ascii "extent=") w.out.now _ _ c.put.ensures.1 _ _ (decimal x.start ++ (ascii "-" ++ number_value x.end))
          (write_then _ (decimal x.start) _ _ _ c.put_number.ensures.1 _ _ (ascii "-" ++ number_value x.end) c.put_value.ensures.1),
    )
