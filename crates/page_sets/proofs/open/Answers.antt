use Rattle.runs.specs.FlatLaws.{moved_up}
use Rattle.page_sets.proofs.open.Goals as goal

pub returns : goal.returns
returns c =
    let a = c.args in
    rw (c.write.ensures, c.copy_within.ensures.after) (moved_up a.work.now a.i a.count c.requires.0 c.requires.1 a.x)
