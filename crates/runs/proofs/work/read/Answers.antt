use Rattle.runs.specs.Flat.{at}
use borrow.Author.Rules.{rules}
use Rattle.runs.proofs.work.read.Goals as goal

pub returns : goal.returns
unfolding at
returns c = search rules
