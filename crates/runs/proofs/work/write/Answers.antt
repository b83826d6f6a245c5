use Rattle.runs.specs.Flat.{put}
use borrow.Author.Rules.{rules}
use Rattle.runs.proofs.work.write.Goals as goal

pub returns : goal.returns
unfolding put
returns c = search rules
