-- `meta::Superblock::seal` meets its contract: the block is encoded with checksum 0, hashed, and its checksum's eight bytes written.
use mathlib.Core.Path.{◌≡◌, ap, ◌∙◌}
use mathlib.Core.List.{List, []}
use Prim.Native.Nat.{ℕ, ◌≤◌}
use native.Mathlib.Omega.{arith}
use lib.ListN.{length, take, length-take}
use Rattle.memory.specs.Laws.{length-zeros}
use Rattle.meta.specs.declared.superblock.Superblock.{Superblock}
use Rattle.fnv.specs.Fnv.{fnv1a64 as hashed}
use Rattle.meta.specs.Block.{offset_is, sealed_by, checksum_of, prefix, encoded_len, encode as encoded, seal as sealed}
use Rattle.meta.specs.BlockLaws.{encode_is, length-encode, encoded_len-hi, reseal}
use Rattle.meta.specs.Stored.{outcome}
use Rattle.meta.proofs.superblock.Superblock.seal.Goals as goal
use Rattle.meta.proofs.superblock.Superblock.seal.Goals.{After-encoded_len-n, After-encode}

-- the array holds the block with checksum 0
blank : (c : After-encode) → let s = c.args in
    c.encode.new.out ≡ encoded (sealed_by 0 s.self) s.runs.now
blank c =
    c.encode.ensures ∙ rw (c.requires, c.sealed_by-blank.ensures) (encode_is (sealed_by 0 c.args.self) c.args.runs.now)

-- and is as long as an encoded block
whole : (c : After-encode) → length c.encode.new.out ≡ 16544
whole c = let s = c.args in ap length (blank c) ∙ length-encode (sealed_by 0 s.self) s.runs.now

fits : (c : After-encoded_len-n) → length c.encode.new.out ≡ 16544 → c.encoded_len-n.result ≤ length c.encode.new.out
fits c is_whole = let b = c.sealed_by-blank.result in omega (arith, c.encoded_len-n.ensures, encoded_len-hi b [], is_whole)

pub encode-requires : goal.encode-requires
encode-requires c = ap length c.requires ∙ length-zeros 16544

pub slice_bounds-fnv1a64-end : goal.slice_bounds-fnv1a64-end
slice_bounds-fnv1a64-end c = fits c (whole (goal.at.slice_bounds-fnv1a64-end c).After-encode)

pub slice_bounds-fnv1a64-end-2 : goal.slice_bounds-fnv1a64-end-2
slice_bounds-fnv1a64-end-2 c = simp length-take (omega (arith, fits c (whole (goal.at.slice_bounds-fnv1a64-end-2 c).After-encode)))

pub write_word-requires : goal.write_word-requires
write_word-requires c = omega (arith, c.field_offset-at.ensures ∙ offset_is 17, whole (goal.at.write_word-requires c).After-encode)

pub returns : goal.returns
unfolding sealed checksum_of prefix
returns c = let s = c.args in
    let b : Superblock = s.self in
    let r : List ℕ = s.runs.now in
    let l : c.encoded_len-n.result ≡ encoded_len (sealed_by 0 b) = c.encoded_len-n.ensures ∙ ap encoded_len c.sealed_by-blank.ensures in
    let h : c.fnv1a64-checksum.result ≡ checksum_of b r = c.fnv1a64-checksum.ensures ∙ (λ i. hashed (take (l i) (blank (goal.at.returns c).After-encode i))) in
    let block : c.sealed_by.result ≡ sealed b r = c.sealed_by.ensures ∙ ap (λ (x : ℕ). sealed_by x b) h in
    let bytes : c.write_word.new.bytes ≡ encoded (sealed b r) r =
    c.write_word.ensures ∙ rw (c.field_offset-at.ensures, blank (goal.at.returns c).After-encode) (reseal b r 0 c.fnv1a64-checksum.result) ∙ ap (λ (x : ℕ). encoded (sealed_by x b) r) h in
    λ i. outcome (block i) (bytes i)
