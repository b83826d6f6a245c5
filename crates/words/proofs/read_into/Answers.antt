-- `words::read_into` meets its contract: before each turn the first `i` numbers are read.
use Rattle.std.proofs.Common.{◌*◌, ◌<◌, length, drop, arith, sym, ◌∙◌, ext_get_or}
use Rattle.words.specs.Words.{words_in, words_in_at, length-words_in, word_at-drop}
use Rattle.words.proofs.read_into.Goals as goal

pub returns : goal.returns
returns c =
    let s = c.args in
    let n = c.loop-i.invariant.0 in
    let m = length s.numbers.now in
    let read = words_in m (drop s.at s.bytes.now) in
    ext_get_or 0 c.loop-i.numbers read (n ∙ sym (length-words_in m (drop s.at s.bytes.now))) (λ i h.
    let lt : i < m = omega arith in
    c.loop-i.invariant.1 i (omega arith) ∙ sym (words_in_at m i (drop s.at s.bytes.now) lt ∙ word_at-drop s.at (i * 8) s.bytes.now))
