use Rattle.std.proofs.Common.{ap, ◌∙◌, ℕ, List}
use Rattle.memory.specs.Bytes.{zeros}
use Rattle.update.specs.Buffers.{Buffers, wiped}
use Rattle.update.specs.Laid.{bufs}
use Rattle.store.specs.Answers.{done}
use Rattle.store.specs.Calls.{Lent}
use Rattle.commit.specs.Committed.{left_by, outcome}
use Rattle.transfer.specs.OnMemory.{lent}
use Rattle.committing.specs.CommitCases.{concluded}
use Rattle.committing.proofs.conclude.Goals as goal

pub returns : goal.returns
returns c =
    let a = c.args in
    let k = c.commit-answer in
    let b : Buffers = bufs a.frames.now a.numbers.now a.clean.now a.«record».now in
    let m : List ℕ = k.new.mem in
    concluded a.update a.s.now a.mem.now b a.work.now a.o.now c.requires.0 (outcome (left_by k.new.s (done k.result)) m) c.ended.result _ k.ensures.left c.ended.ensures
    (ap (λ (l : Lent). lent m l.bufs l.work) c.clear.ensures ∙ ap (λ (n : ℕ). lent m (wiped b) (zeros n)) k.auto.work)
