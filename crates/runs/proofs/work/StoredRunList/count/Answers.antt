use Rattle.std.proofs.Common.{◌/◌, sym, length}
use Rattle.runs.specs.Lists.{length-stored}
use Rattle.runs.proofs.work.StoredRunList.count.Goals as goal

pub returns : goal.returns
returns c = let b = c.args.self.bytes.now in sym (length-stored (length b / 16) b)
