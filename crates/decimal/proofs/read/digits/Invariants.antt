use Rattle.std.proofs.Common.{◌≡◌, ◌+◌}
use Rattle.decimal.specs.Text.{from, digits}
use Rattle.decimal.proofs.read.digits.Given as goal

abbrev pub invariant-loop-i : goal.invariant-loop-i
invariant-loop-i l = digits l.value (from l.text (l.at + l.i)) ≡ digits l.first (from l.text l.at)
