use mathlib.Core.Path.{refl}
use Rattle.store.specs.Blocks.{after_refresh_step}
use Rattle.blocks.proofs.after_refresh_step.Goals as goal

pub returns : goal.returns
unfolding after_refresh_step
returns c = rw (c.on.ensures, c.of.ensures.stale, c.of.ensures.importing, c.with_refresh-reached.ensures) refl
