use Rattle.std.proofs.Common.{sym}
use Rattle.update.specs.Laid.{bufs}
use Rattle.store.specs.Calls.{Lent}
use Rattle.transfer.specs.OnMemory.{lent}
use Rattle.committing.specs.CommitCases.{commit_short, commit_idle, commit_open, commit_fits}
use Rattle.committing.proofs.commit_update.Goals as goal

pub returns-then-any_is_short : goal.returns-then-any_is_short
returns-then-any_is_short c =
    let a = c.args in
    let l : Lent = lent a.mem.now (bufs a.frames.now a.numbers.now a.clean.now a.«record».now) a.work.now in
    sym (commit_short a.s.now l c.any_is_short.result c.any_is_short.ensures c.if-any_is_short.true)

pub returns-then-not-s : goal.returns-then-not-s
returns-then-not-s c =
    let a = c.args in
    let l : Lent = lent a.mem.now (bufs a.frames.now a.numbers.now a.clean.now a.«record».now) a.work.now in
    commit_idle a.s.now l c.any_is_short.result c.any_is_short.ensures c.if-any_is_short.false c.if-not-s.true _ c.fill.ensures

pub conclude-requires : goal.conclude-requires
conclude-requires c =
    let a = c.args in
    let l : Lent = lent a.mem.now (bufs a.frames.now a.numbers.now a.clean.now a.«record».now) a.work.now in
    commit_fits a.s.now l c.any_is_short.result c.any_is_short.ensures c.if-any_is_short.false c.if-not-s.false

pub returns : goal.returns
returns c =
    let a = c.args in
    let l : Lent = lent a.mem.now (bufs a.frames.now a.numbers.now a.clean.now a.«record».now) a.work.now in
    commit_open a.s.now l c.any_is_short.result c.any_is_short.ensures c.if-any_is_short.false c.if-not-s.false _ c.conclude.ensures
