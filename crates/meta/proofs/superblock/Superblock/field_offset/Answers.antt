-- `meta::Superblock::field_offset` meets its contract: the formula.
use mathlib.Core.Path.{refl}
use Rattle.meta.specs.Block.{field_offset}
use Rattle.meta.proofs.superblock.Superblock.field_offset.Goals as goal

pub returns : goal.returns
unfolding field_offset
returns c = refl
