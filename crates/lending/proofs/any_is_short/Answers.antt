use Rattle.std.proofs.Common.{sym, ◌∙◌, ap, length}
use Rattle.std.proofs.Math.Dec.{ltb}
use mathlib.Core.Bool.{not}
use Rattle.update.specs.Laid.{bufs}
use Rattle.transfer.specs.StoreCases.{too_short_lem, is_lent}
use Rattle.lending.specs.FirstTests.{any_memory, any_buffers, any_room}
use Rattle.lending.proofs.any_is_short.Goals.{then-not-is_lent, else-not-is_lent}
use Rattle.lending.proofs.any_is_short.Goals as goal

pub returns-then-are_short : goal.returns-then-are_short
returns-then-are_short c =
    let a = c.args in
    let b = bufs a.frames.now a.numbers.now a.clean.now a.«record».now in
    c.if-are_short.true ∙ sym (elim c.if-not-is_lent.branch [
      | then-not-is_lent w ↦ any_memory a.s.now a.mem.now b a.work.now (too_short_lem a.s.now a.mem.now c.is_lent.result c.is_lent.ensures (ap not w.if-not-is_lent.true))
      | else-not-is_lent w ↦ any_buffers a.s.now a.mem.now b a.work.now (is_lent a.s.now a.mem.now c.is_lent.result c.is_lent.ensures (ap not w.if-not-is_lent.false)) (sym w.are_short.ensures ∙ sym w.value-is ∙ c.if-are_short.true)
    ])

pub returns-else-are_short : goal.returns-else-are_short
returns-else-are_short c =
    let a = c.args in
    elim c.if-not-is_lent.branch [
      | then-not-is_lent w ↦ cc
      | else-not-is_lent w ↦ ap (ltb (length a.work.now)) c.work_numbers.ensures ∙ sym (any_room a.s.now a.mem.now (bufs a.frames.now a.numbers.now a.clean.now a.«record».now) a.work.now (is_lent a.s.now a.mem.now c.is_lent.result c.is_lent.ensures (ap not w.if-not-is_lent.false)) (sym w.are_short.ensures ∙ sym w.value-is ∙ c.if-are_short.false) c.frame_count.result c.frame_count.ensures)
    ]
