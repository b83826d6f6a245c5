use Rattle.std.proofs.Common.{sym}
use Rattle.runs.specs.Lists.{length-runs_of}
use Rattle.runs.proofs.work.NumbersRunList.count.Goals as goal

pub returns : goal.returns
returns c = sym (length-runs_of c.args.self.numbers.now)
