-- `meta::Superblock::decode` meets its contract: the fields as read, and the two numbers of 32 bits from one of 64.
use Rattle.std.proofs.Common.{◌≡◌, ◌%◌, ◌/◌, ◌∙◌, drop, arith}
use Rattle.words.specs.Words.{de, Bytes, de_halves}
use Rattle.meta.specs.Block.{of_fields, fields_in, decode as decoded}
use Rattle.meta.proofs.superblock.Superblock.decode.Goals as goal

pub returns : goal.returns
unfolding decoded fields_in
returns c = let s = c.args.bytes.now in
    let b : Bytes s = λ i. omega (arith, c.type_inv.bytes i) in
    let h = de_halves 8 s b in
    let w = c.read_word-sizes.ensures in
    let lo : c.read_word-sizes.result % 4294967296 ≡ de 4 (drop 8 s) = rw w h.0 in
    let hi : c.read_word-sizes.result / 4294967296 ≡ de 4 (drop 12 s) = rw w h.1 in
    c.of_fields.ensures ∙ (λ i. of_fields (c.read_word.ensures i) (lo i) (hi i) (c.read_words-fields.ensures i))
