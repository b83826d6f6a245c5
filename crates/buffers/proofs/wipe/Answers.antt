-- `buffers::wipe` meets its contract.
use Rattle.update.specs.Buffers.{wiped}
use Rattle.update.specs.Laid.{bufs}
use Rattle.buffers.proofs.wipe.Goals as goal

pub returns : goal.returns
unfolding wiped
returns c = λ k. bufs (c.fill.ensures k) (c.fill-2.ensures k) (c.fill-3.ensures k) (c.fill-4.ensures k)
