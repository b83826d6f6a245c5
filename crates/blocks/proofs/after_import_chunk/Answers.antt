use mathlib.Core.Path.{refl}
use Rattle.store.specs.Blocks.{after_import_chunk}
use Rattle.blocks.proofs.after_import_chunk.Goals as goal

pub returns : goal.returns
unfolding after_import_chunk
returns c = refl
