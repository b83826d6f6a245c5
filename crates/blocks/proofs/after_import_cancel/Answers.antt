use mathlib.Core.Path.{refl}
use Rattle.store.specs.Blocks.{after_import_cancel}
use Rattle.blocks.proofs.after_import_cancel.Goals as goal

pub returns : goal.returns
unfolding after_import_cancel
returns c = rw (c.on.ensures, c.of.ensures.refreshing, c.of.ensures.stale, c.with_import-closed.ensures) refl
