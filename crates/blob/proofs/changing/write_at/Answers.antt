use Rattle.std.specs.Prelude.{not}
use Rattle.std.proofs.Common.{rules, ap}
use Rattle.update.specs.Laid.{bufs}
use Rattle.blob.proofs.Changes.{write_change}
use Rattle.blob.proofs.changing.write_at.Goals as goal

pub change-requires-clause-change : goal.change-requires-clause-change
change-requires-clause-change c =
    let a = c.args in
    let b = bufs a.frames.now a.numbers.now a.clean.now a.«record».now in
    (_, write_change _ _ a.s.now a.mem.now a.work.now b _ a.offset a.bytes.now (ap not c.is_empty.ensures) (λ v v' i x x' r h. search rules))

pub returns : goal.returns
returns c =
    let a = c.args in
    let b = bufs a.frames.now a.numbers.now a.clean.now a.«record».now in
    c.change.ensures _ (write_change _ _ a.s.now a.mem.now a.work.now b _ a.offset a.bytes.now (ap not c.is_empty.ensures) (λ v v' i x x' r h. search rules))
