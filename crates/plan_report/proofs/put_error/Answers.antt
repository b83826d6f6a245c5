-- `plan_report::put_error` meets its contract.
use Rattle.std.proofs.Common.{Err, [], sym, ap, ◌∙◌}
use Rattle.decimal.specs.Write.{write}
use Rattle.plan_report.specs.declared.PlanError.{PlanError}
use Rattle.plan_report.specs.Answers.{report}
use Rattle.plan_report.proofs.put_error.Goals as goal

pub returns-in-Extents : goal.returns-in-Extents
unfolding report
returns-in-Extents c =
    let w = c.args.writer.now in
    (c.put.ensures.0, c.put.ensures.1 ∙ ap (λ (e : PlanError). write w.at (report (Err e) []) w.out.now) (sym c.in-Extents.is))

pub returns-in-Malformed : goal.returns-in-Malformed
unfolding report
returns-in-Malformed c =
    let w = c.args.writer.now in
    (c.put-in-Malformed.ensures.0, c.put-in-Malformed.ensures.1 ∙ ap (λ (e : PlanError). write w.at (report (Err e) []) w.out.now) (sym c.in-Malformed.is))
