-- `plan_report::put_plan` meets its contract: four pieces, one behind the other.
use mathlib.Core.Path.{sym, ap, ◌∙◌}
use mathlib.Core.List.{◌++◌}
use Prim.Native.Nat.{ℕ, ◌/◌}
use native.Mathlib.Omega.{arith}
use lib.ListN.{length}
use Rattle.meta.specs.Runs.{runs_of}
use Rattle.decimal.specs.Write.{write, moved, write_then}
use Rattle.plan_line.specs.Values.{ascii, number_value, run_value, lines}
use Rattle.plan_report.specs.Answers.{report}
use Rattle.plan_report.specs.Print.{value-length, runs_half}
use Rattle.plan_report.proofs.put_plan.Goals as goal

pub put_value-requires : goal.put_value-requires
put_value-requires c =
    let w = c.args.writer.now in
    omega (arith, moved w.at (ascii "result=accepted\n") w.out.now _ _ c.put.ensures.1)

pub put_value-requires-2 : goal.put_value-requires-2
put_value-requires-2 c =
    let a = c.args in
    let w = a.writer.now in
    omega (
      arith,
      moved w.at (ascii "result=accepted\n") w.out.now _ _ c.put.ensures.1,
      moved _ (ascii "pages=" ++ number_value a.pages) _ _ _ c.put_value.ensures.1,
      value-length a.pages,
    )

pub put_runs-requires : goal.put_runs-requires
put_runs-requires c =
    let a = c.args in
    let w = a.writer.now in
    omega (
      arith,
      moved w.at (ascii "result=accepted\n") w.out.now _ _ c.put.ensures.1,
      moved _ (ascii "pages=" ++ number_value a.pages) _ _ _ c.put_value.ensures.1,
      value-length a.pages,
      moved _ (ascii "extents=" ++ number_value (length a.runs.now / 2)) _ _ _ c.put_value-2.ensures.1,
      value-length (length a.runs.now / 2),
    )

pub returns : goal.returns
unfolding report
returns c =
    let a = c.args in
    let w = a.writer.now in
    let l = a.runs.now in
    let tail = lines (ascii "extent=") run_value (runs_of l) in (
      c.put_runs.ensures.0 ∙ c.put_value-2.ensures.0 ∙ c.put_value.ensures.0 ∙ c.put.ensures.0,
      write_then w.at (ascii "result=accepted\n") w.out.now _ _ c.put.ensures.1 _ _ _
          (write_then _ (ascii "pages=" ++ number_value a.pages) _ _ _ c.put_value.ensures.1 _ _ _
          (write_then _ (ascii "extents=" ++ number_value (length l / 2)) _ _ _ c.put_value-2.ensures.1 _ _ tail c.put_runs.ensures.1))
          ∙ ap (λ (k : ℕ). write w.at (ascii "result=accepted\n" ++ (ascii "pages=" ++ (number_value a.pages ++ (ascii "extents=" ++ (number_value k ++ tail))))) w.out.now) (sym (runs_half l)),
    )
