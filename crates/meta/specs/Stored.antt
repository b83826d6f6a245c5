-- What a store gives: the block with its checksum, and memory.
use Rattle.std.specs.Prelude.{ℕ, List}
use Rattle.meta.specs.declared.superblock.Superblock.{Superblock}

pub record Outcome : Type 0 where
  pub block : Superblock
  pub mem : List ℕ

abbrev pub outcome : Superblock → List ℕ → Outcome
outcome b m = record { block = b; mem = m }
