-- `words::read_word` meets its contract: the eight bytes are those from `at` on.
use Rattle.std.proofs.Common.{◌≡◌, ◌+◌, ◌-◌, List, ℕ, take, drop, arith, ap, ◌∙◌, w64}
use Rattle.std.specs.Int.{from_le_bytes}
use Rattle.words.specs.Words.{word_at_bytes}
use Rattle.words.proofs.read_word.Goals as goal

pub returns : goal.returns
returns c = let s = c.args in
    let e : s.at + 8 - s.at ≡ 8 = omega arith in
    let eight : c.copy_from_slice.new.self ≡ take 8 (drop s.at s.bytes.now) = rw e at c.copy_from_slice.ensures.after in
    c.from_le_bytes.ensures ∙ ap (λ (l : List ℕ). from_le_bytes w64 l) eight ∙ word_at_bytes s.at s.bytes.now
