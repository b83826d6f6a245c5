use Rattle.std.proofs.Common.{◌≡◌, map, ◌+◌, ◌-◌, ◌*◌, ◌≤◌, length, drop}
use Rattle.meta.specs.Runs.{runs_of}
use Rattle.decimal.specs.Write.{write}
use Rattle.plan_line.specs.Values.{ascii, run_value, lines}
use Rattle.plan_report.specs.Print.{pair}
use Rattle.plan_report.proofs.put_runs.Given as goal

abbrev pub invariant-loop-start : goal.invariant-loop-start
invariant-loop-start l = record {
  lent : l.writer.out.ghost_name ≡ l.fn.writer.out.ghost_name;
  room : l.writer.at + 49 * (length l.pairs - l.start-index) ≤ length l.writer.out.now;
  text : write l.writer.at (lines (ascii "extent=") run_value (map pair (drop l.start-index l.pairs))) l.writer.out.now
      ≡ write l.fn.writer.at (lines (ascii "extent=") run_value (runs_of l.runs)) l.fn.writer.out.now;
}
