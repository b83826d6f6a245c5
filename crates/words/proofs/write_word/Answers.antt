-- `words::write_word` meets its contract: the eight bytes of the number go over the part from `at` on.
use Rattle.std.proofs.Common.{◌≡◌, sym, ◌∙◌, arith}
use Rattle.memory.specs.Laws.{part_back}
use Rattle.words.specs.Words.{word, word_bytes, length-word}
use Rattle.words.proofs.write_word.Goals as goal

pub returns : goal.returns
returns c = let a = c.args in
    let e : c.copy_from_slice.new.self ≡ word a.x = c.copy_from_slice.ensures.after ∙ c.to_le_bytes.ensures ∙ sym (word_bytes a.x (omega arith)) in
    rw e (part_back a.at _ a.bytes.now (word a.x) (length-word a.x ∙ omega arith) (omega arith))
