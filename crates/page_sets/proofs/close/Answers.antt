use Rattle.runs.specs.FlatLaws.{moved_down}
use Rattle.page_sets.proofs.close.Goals as goal

pub returns : goal.returns
returns c =
    let a = c.args in
    rw c.copy_within.ensures.after (moved_down a.work.now a.o a.j a.count c.requires.0 c.requires.1 c.requires.2)
