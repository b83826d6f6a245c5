-- `meta::Superblock::encoded_len` meets its contract.
use mathlib.Core.Path.{ap}
use Prim.Native.Nat.{ℕ, ◌+◌, ◌*◌}
use Rattle.meta.specs.Block.{encoded_len}
use Rattle.meta.proofs.superblock.Superblock.encoded_len.Goals as goal

pub returns : goal.returns
unfolding encoded_len
returns c = ap (λ (n : ℕ). 160 + n * 16) c.min-runs.ensures
