use Rattle.std.proofs.Common.{◌≡◌, ℕ, ◌+◌, ◌*◌, ◌<◌, get_or, length}
use Rattle.words.specs.Words.{word_at}
use Rattle.words.proofs.read_into.Given as goal

abbrev pub invariant-loop-i : goal.invariant-loop-i
invariant-loop-i l = (length l.numbers ≡ length l.initial.numbers) × ((k : ℕ) → k < l.i → get_or l.numbers k 0 ≡ word_at (l.at + k * 8) l.bytes)
