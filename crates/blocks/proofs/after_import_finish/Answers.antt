use mathlib.Core.Path.{refl}
use Rattle.store.specs.Blocks.{after_import_finish}
use Rattle.blocks.proofs.after_import_finish.Goals as goal

pub returns : goal.returns
unfolding after_import_finish
returns c = rw (c.with_numbers.ensures, c.on-marked.ensures, c.with_refresh-finished.ensures, c.with_import.ensures, c.with_image-image.ensures) refl
