use Rattle.std.proofs.Common.{◌≡◌, take}
use Rattle.memory.specs.Bytes.{overwrite}
use Rattle.words.specs.Words.{words}
use Rattle.words.proofs.write_words.Given as goal

abbrev pub invariant-loop-i : goal.invariant-loop-i
invariant-loop-i l = l.bytes ≡ overwrite l.at (words (take l.i l.numbers)) l.initial.bytes
