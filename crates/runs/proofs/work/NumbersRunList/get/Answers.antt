use Rattle.std.proofs.Common.{sym, ◌∙◌, arith}
use Rattle.runs.specs.Lists.{length-runs_of, runs_of-at}
use Rattle.runs.proofs.work.NumbersRunList.get.Goals as goal

pub read-requires : goal.read-requires
read-requires c = omega (arith, length-runs_of c.args.self.numbers.now, c.requires)

pub returns : goal.returns
returns c = c.read.ensures ∙ sym (runs_of-at c.args.self.numbers.now c.args.i (omega (arith, length-runs_of c.args.self.numbers.now, c.requires)))
