-- `zeroplan::respond` meets its contract: what was planned is printed, and there is room for it.
use Rattle.std.proofs.Common.{Option, Ok, Err, [], List, ℕ, ◌*◌, take, length-take, sym, ap, ◌∙◌, arith}
use Rattle.meta.specs.Runs.{runs_of}
use Rattle.runs.specs.Flat.{runs_in}
use Rattle.decimal.specs.Write.{written, write}
use Rattle.plan_report.specs.Print.{put_length, printed_room, runs_half}
use Rattle.zeroplan.proofs.respond.Goals as goal

pub returns-in-Ok : goal.returns-in-Ok
unfolding runs_in
returns-in-Ok c =
    let out = c.args.out.now in
    let l = take (c.in-Ok.count * 2) c.plan.new.work in
    ap (λ (n : Option ℕ). written (put_length n) c.print.new.out) (sym c.unwrap.ensures)
    ∙ c.print.ensures.text
    ∙ printed_room (Ok c.in-Ok.pages) (runs_of l) out (omega (arith, c.requires, c.in-Ok.ensures.few, runs_half l, length-take (c.in-Ok.count * 2) c.plan.new.work))
    ∙ ap (λ (t : List ℕ). write 0 t out) c.in-Ok.ensures.told

pub returns-in-Err : goal.returns-in-Err
returns-in-Err c =
    let out = c.args.out.now in
    ap (λ (n : Option ℕ). written (put_length n) c.print-in-Err.new.out) (sym c.unwrap-in-Err.ensures)
    ∙ c.print-in-Err.ensures.text
    ∙ printed_room (Err c.in-Err.error) [] out (omega arith)
    ∙ ap (λ (t : List ℕ). write 0 t out) c.in-Err.ensures.told
