use mathlib.Core.Path.{refl}
use Rattle.store.specs.Blocks.{after_refresh}
use Rattle.blocks.proofs.after_refresh.Goals as goal

pub returns : goal.returns
unfolding after_refresh
returns c = rw (c.with_numbers.ensures, c.on-marked.ensures, c.of.ensures.importing, c.with_refresh-refreshed.ensures) refl
