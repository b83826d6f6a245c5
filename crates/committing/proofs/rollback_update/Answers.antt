use Rattle.std.proofs.Common.{sym}
use Rattle.update.specs.Laid.{bufs}
use Rattle.committing.specs.CommitCases.{back_short, back_idle, back_open}
use Rattle.committing.proofs.rollback_update.Goals as goal

pub returns-then-are_short : goal.returns-then-are_short
returns-then-are_short c =
    let a = c.args in
    λ m w. sym (back_short a.s.now (bufs a.frames.now a.numbers.now a.clean.now a.«record».now) m w c.are_short.result c.are_short.ensures c.if-are_short.true)

pub returns-then-s : goal.returns-then-s
returns-then-s c =
    let a = c.args in
    λ m w. back_open a.s.now (bufs a.frames.now a.numbers.now a.clean.now a.«record».now) m w c.are_short.result c.are_short.ensures c.if-are_short.false c.if-s.true _ _ c.ended.ensures c.wipe.ensures

pub returns-else-s : goal.returns-else-s
returns-else-s c =
    let a = c.args in
    λ m w. back_idle a.s.now (bufs a.frames.now a.numbers.now a.clean.now a.«record».now) m w c.are_short.result c.are_short.ensures c.if-are_short.false c.if-s.false
