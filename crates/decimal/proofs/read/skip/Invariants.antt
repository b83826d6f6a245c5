use Rattle.std.proofs.Common.{◌≡◌, ◌≤◌, ◌+◌, drop, length}
use Rattle.decimal.specs.Text.{from, skip}
use Rattle.decimal.proofs.read.skip.Given as goal

abbrev pub invariant-loop-i : goal.invariant-loop-i
invariant-loop-i l = (skip (drop l.i l.word) (from l.text (l.at + l.i)) ≡ skip l.word (from l.text l.at)) × (1 ≤ l.i → l.at + l.i ≤ length l.text + 1)
