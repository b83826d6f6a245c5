-- `meta::Superblock::store` meets its contract: the sealed block's prefix goes to the front of memory.
use mathlib.Core.Path.{◌≡◌, refl, ap, ◌∙◌}
use mathlib.Core.List.{[]}
use Prim.Native.Nat.{◌≤◌}
use native.Mathlib.Omega.{arith}
use lib.ListN.{length, take, length-take}
use Rattle.memory.specs.Bytes.{overwrite, filled}
use Rattle.meta.specs.Block.{encoded_len, prefix, store_in, encode as encoded, seal as sealed}
use Rattle.meta.specs.BlockLaws.{length-encode, encoded_len-hi}
use Rattle.meta.specs.Stored.{Outcome, outcome}
use Rattle.meta.proofs.superblock.Superblock.store.Goals as goal
use Rattle.meta.proofs.superblock.Superblock.store.Goals.{After-encoded_len-n}

-- the array holds the sealed block
whole : (c : After-encoded_len-n) → let s = c.args in
    c.seal-block.new.out ≡ encoded (sealed s.self s.runs.now) s.runs.now
whole c = ap (λ (o : Outcome). o.mem) c.seal-block.ensures

-- which has at least as many bytes as are stored
fits : (c : After-encoded_len-n) → c.encoded_len-n.result ≤ length c.seal-block.new.out
fits c =
    let s = c.args in
    let l : length c.seal-block.new.out ≡ 16544 = ap length (whole c) ∙ length-encode (sealed s.self s.runs.now) s.runs.now in
    omega (arith, c.encoded_len-n.ensures, encoded_len-hi c.seal-block.result [])

pub seal-block-requires : goal.seal-block-requires
unfolding filled
seal-block-requires c = refl

pub slice_bounds-bytes-end : goal.slice_bounds-bytes-end
slice_bounds-bytes-end c = fits (goal.at.slice_bounds-bytes-end c).After-encoded_len-n

pub slice_bounds-copy-end : goal.slice_bounds-copy-end
slice_bounds-copy-end c = simp length-take (omega (arith, fits (goal.at.slice_bounds-copy-end c).After-encoded_len-n))

pub returns : goal.returns
unfolding store_in prefix
returns c = let s = c.args in
    let block : c.seal-block.result ≡ sealed s.self s.runs.now = ap (λ (o : Outcome). o.block) c.seal-block.ensures in
    let n : c.encoded_len-n.result ≡ encoded_len (sealed s.self s.runs.now) = c.encoded_len-n.ensures ∙ ap encoded_len block in
    let bytes : c.copy.new.dst ≡ store_in s.self s.runs.now s.mem.now =
    c.copy.ensures ∙ (λ i. overwrite 0 (take (n i) (whole (goal.at.returns c).After-encoded_len-n i)) s.mem.now) in
    λ i. outcome (block i) (bytes i)
