use Rattle.std.proofs.Common.{◌≡◌, ◌/◌, ◌-◌, length}
use Rattle.decimal.specs.Text.{from}
use Rattle.plan_text.specs.Parse.{section}
use Rattle.plan_text.specs.Entries.{fill}
use Rattle.plan_text.proofs.section.read_lines.Given as goal

abbrev pub invariant-loop-count : goal.invariant-loop-count
invariant-loop-count g l =
    let e = g.E.Entry in
    fill e.WIDTH e.numbers l.count (section e.reading l.key (length l.fn.out / e.WIDTH - l.count) (from l.text l.here)) l.out
    ≡ fill e.WIDTH e.numbers 0 (section e.reading l.key (length l.fn.out / e.WIDTH) (from l.text l.at)) l.fn.out
