-- `meta::Superblock::encode` meets its contract: the parts of a block, written one behind the other.
use Rattle.std.proofs.Common.{ℕ, List, ◌++◌, ap, ◌∙◌, length, arith}
use Rattle.words.specs.Words.{words}
use Rattle.meta.specs.Block.{header_of, header, block_bytes}
use Rattle.memory.specs.Bytes.{overwrite}
use Rattle.meta.specs.BlockLaws.{encode_parts}
use Rattle.meta.proofs.superblock.Superblock.encode.Goals as goal

pub returns : goal.returns
unfolding block_bytes header
returns c = let s = c.args in
    let f = c.fields in
    c.write_words-2.ensures ∙ rw (c.write_words.ensures, c.write_word-2.ensures, c.write_word.ensures, c.from.ensures, c.from-2.ensures)
    (encode_parts s.self.magic s.self.version s.self.sqlite_page_size f.result s.runs.now s.out.now c.min-fit.result
    c.min-fit.ensures c.requires (omega arith) (ap length f.ensures)
    ∙ ap (λ (x : List ℕ). overwrite 0 (header_of s.self.magic s.self.version s.self.sqlite_page_size x ++ words s.runs.now) s.out.now) f.ensures)
