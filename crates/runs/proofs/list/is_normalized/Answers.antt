-- The runs from run i on are normalized exactly if all are: a law for each way in which a turn ends.
use Rattle.std.proofs.Common.{◌+◌, ◌<◌, ◌≡◌, drop, sym, ◌∙◌, arith, rules, tests}
use Rattle.meta.specs.Runs.{normalized}
use Rattle.runs.specs.Lists.{none-apart, run_empty, run_last, run_near, run_apart}
use Rattle.runs.proofs.list.is_normalized.Goals as goal
use Rattle.runs.proofs.list.is_normalized.Goals.{else-i-n-via-then-i-n+else-get-run, else-i-n-via-else-i-n}

pub returns-then-is_empty : goal.returns-then-is_empty
returns-then-is_empty g c =
    let l = g.L.RunList.runs c.args.list in
    let x = c.get-run in
    sym (run_empty l c.loop-i.i x.result (omega arith) x.ensures (search (rules, tests))) ∙ c.loop-i.invariant

pub returns-then-get-run : goal.returns-then-get-run
returns-then-get-run g c =
    let l = g.L.RunList.runs c.args.list in
    let x = c.get-run in
    let y = c.get in
    sym (run_near l c.loop-i.i x.result y.result (omega arith) x.ensures (omega arith) y.ensures c.if-get-run.true) ∙ c.loop-i.invariant

pub loop-i-preserved : goal.loop-i-preserved
loop-i-preserved g c =
    let l = g.L.RunList.runs c.args.list in
    let i = c.loop-i.i in
    let x = c.get-run in
    let some : x.result.start < x.result.end = search (rules, tests) in
    let stays : normalized (drop i l) ≡ normalized (drop (i + 1) l) = elim c.else-i-n.branch [
      | else-i-n-via-then-i-n+else-get-run w ↦ run_apart l i x.result w.get.result (omega arith) x.ensures (omega arith) w.get.ensures some w.if-get-run.false
      | else-i-n-via-else-i-n w ↦ run_last l i x.result (omega arith) x.ensures (omega arith) some
    ] in
    sym stays ∙ c.loop-i.invariant

pub returns : goal.returns
returns g c =
    let l = g.L.RunList.runs c.args.list in
    sym (none-apart l c.loop-i.i (omega arith)) ∙ c.loop-i.invariant
