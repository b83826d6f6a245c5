use Rattle.std.proofs.Common.{refl, add-one}
use Rattle.store.specs.Blocks.{after_commit}
use Rattle.blocks.proofs.after_commit.Goals as goal

pub returns-then-not-update : goal.returns-then-not-update
unfolding after_commit
returns-then-not-update c = rw (c.if-not-update.true, c.with_image-image.ensures) refl

pub returns : goal.returns
unfolding after_commit
returns c = rw (c.if-not-update.false, c.with_numbers.ensures, c.saturating_add.ensures, add-one, c.on-marked.ensures, c.of.ensures.importing, c.with_refresh-cleared.ensures, c.with_image-image.ensures) refl
