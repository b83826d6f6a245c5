-- `buffers::settle` meets its contract.
use mathlib.Core.Path.{ap}
use Rattle.update.specs.declared.CleanCache.{CleanCache}
use Rattle.update.specs.Laid.{settle}
use Rattle.update.specs.TouchLaws.{moved}
use Rattle.buffers.proofs.settle.Goals as goal

pub returns : goal.returns
unfolding settle
returns c = let o = c.args.o.now in ap (λ (x : CleanCache). moved o o.dirty x o.budget) c.settle.ensures
