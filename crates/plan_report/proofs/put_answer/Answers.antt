-- `plan_report::put_answer` meets its contract: without a plan no runs are told.
use Rattle.std.proofs.Common.{Result, List, ℕ, sym, ap, ◌∙◌}
use Rattle.meta.specs.Runs.{runs_of}
use Rattle.decimal.specs.Write.{write}
use Rattle.plan_report.specs.declared.PlanError.{PlanError}
use Rattle.plan_report.specs.Answers.{report}
use Rattle.plan_report.specs.Print.{error_report}
use Rattle.plan_report.proofs.put_answer.Goals as goal

pub returns-in-Err : goal.returns-in-Err
returns-in-Err c =
    let w = c.args.writer.now in
    let l = runs_of c.args.runs.now in (
      c.put_error.ensures.0,
      c.put_error.ensures.1 ∙ ap (λ (t : List ℕ). write w.at t w.out.now) (error_report c.in-Err.error l)
          ∙ ap (λ (x : Result ℕ PlanError). write w.at (report x l) w.out.now) (sym c.in-Err.is),
    )
