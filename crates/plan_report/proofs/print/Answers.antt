-- `plan_report::print` meets its contract.
use Rattle.std.proofs.Common.{Option, ℕ, sym, ap, ◌∙◌, arith, rules}
use Rattle.meta.specs.Runs.{runs_of}
use Rattle.decimal.specs.Write.{written}
use Rattle.plan_report.specs.Print.{put_length, printed_room, printed_short, runs_half}
use Rattle.plan_report.proofs.print.Goals as goal

pub returns-in_err-room-clause-text : goal.returns-in_err-room-clause-text
returns-in_err-room-clause-text c =
    let a = c.args in
    let short = c.in_err-room.ensures in
    ap (λ (x : Option ℕ). written (put_length x) a.out.now) c.from_residual.ensures ∙ sym (printed_short a.answer (runs_of a.runs.now) a.out.now (omega arith))

pub returns-then-room-runs-clause-text : goal.returns-then-room-runs-clause-text
returns-then-room-runs-clause-text c =
    let a = c.args in
    let room = c.in_ok-room.ensures in
    sym (printed_short a.answer (runs_of a.runs.now) a.out.now (omega (arith, runs_half a.runs.now)))

pub returns-clause-text : goal.returns-clause-text
returns-clause-text c =
    let a = c.args in
    let room = c.in_ok-room.ensures in
    let e = c.put_answer.ensures.1 ∙ sym (printed_room a.answer (runs_of a.runs.now) a.out.now (omega (arith, runs_half a.runs.now))) in
    search rules
