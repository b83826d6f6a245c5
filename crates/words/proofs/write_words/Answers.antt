-- `words::write_words` meets its contract: before each turn the first `i` numbers are written.
use Rattle.std.proofs.Common.{sym}
use Rattle.memory.specs.Laws.{overwrite_nil}
use Rattle.words.specs.Words.{words_more}
use Rattle.words.proofs.write_words.Goals as goal

pub loop-i-init : goal.loop-i-init
loop-i-init c = sym (overwrite_nil _ _)

pub loop-i-preserved : goal.loop-i-preserved
loop-i-preserved c = let a = c.args in
    rw (c.write_word.ensures, c.loop-i.invariant) (words_more a.numbers.now a.bytes.now a.at c.loop-i.i c.loop-i-test.true)
