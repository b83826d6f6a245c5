use mathlib.Core.Path.{refl}
use Rattle.store.specs.Blocks.{after_import_begin}
use Rattle.blocks.proofs.after_import_begin.Goals as goal

pub returns : goal.returns
unfolding after_import_begin
returns c = rw (c.on.ensures, c.of.ensures.stale, c.with_refresh-begun.ensures, c.with_import.ensures) refl
