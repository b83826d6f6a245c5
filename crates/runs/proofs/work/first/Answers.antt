use Rattle.runs.specs.Flat.{runs_in}
use Rattle.runs.specs.FlatLaws.{runs_in-most}
use Rattle.runs.proofs.work.first.Goals as goal

pub returns : goal.returns
unfolding runs_in
returns c = rw c.min-n.ensures (runs_in-most c.args.numbers.now c.args.count)
