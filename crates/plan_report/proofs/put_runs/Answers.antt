-- `plan_report::put_runs` meets its contract. The loop's invariant: the lines of the runs from here on, put at the writer's place,
-- make what all lines make at the first; each takes at most 49 bytes.
use Rattle.std.proofs.Common.{List, [], ◌++◌, map, get_or, length, ◌/◌, refl, ap, sym, ◌∙◌, arith}
use Rattle.decimal.specs.Write.{write, moved}
use Rattle.meta.specs.declared.ZeroExtent.{ZeroExtent}
use Rattle.plan_line.specs.Values.{ascii, run_value, lines}
use Rattle.plan_report.specs.Print.{run_length, pair, pairs_are, pairs_go, pairs_end}
use Rattle.plan_report.proofs.put_runs.Goals as goal

pub loop-start-init : goal.loop-start-init
loop-start-init c = record {
  lent = refl;
  room = omega (arith, c.as_chunks.ensures.front_len);
  text =
      let l = c.args.runs.now in
      let w = c.args.writer.now in
      ap (λ (x : List ZeroExtent). write w.at (lines (ascii "extent=") run_value x) w.out.now)
      (ap (map pair) c.as_chunks.ensures.front ∙ pairs_are (length l / 2) l refl);
}

pub loop-start-preserved : goal.loop-start-preserved
loop-start-preserved c =
    let l = c.loop-start in
    let w = l.writer in
    let ps = c.as_chunks.result.0.now in
    let x = pair (get_or ps l.start-index []) in
    let put = c.put_run.ensures.1 in record {
      lent = c.put_run.ensures.0 ∙ l.invariant.lent;
      room = omega (arith, moved w.at (ascii "extent=" ++ run_value x) w.out.now _ _ put, run_length x, l.invariant.room, c.loop-start-test.true);
      text = pairs_go ps l.start-index w.at w.out.now _ _ c.loop-start-test.true put ∙ l.invariant.text;
    }

pub returns : goal.returns
returns c =
    let l = c.loop-start in
    (l.invariant.lent, sym (pairs_end c.as_chunks.result.0.now l.start-index l.writer.at l.writer.out.now (omega arith)) ∙ l.invariant.text)
