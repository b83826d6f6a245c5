use Rattle.std.proofs.Common.{sym, ap, ◌∙◌, ℕ, Bool, List, length}
use mathlib.Core.Bool.{not}
use Rattle.update.specs.declared.Image.{Image}
use Rattle.update.specs.Lists.{tabulate_from}
use Rattle.update.specs.Image.{image_in}
use Rattle.update.specs.Laid.{bufs}
use Rattle.overlay_reads.specs.Reads.{read_at, seen}
use Rattle.store.specs.Answers.{Read, answered}
use Rattle.store.specs.Codec.{real_codec}
use Rattle.store.specs.Calls.{out}
use Rattle.store.specs.Store.{full}
use Rattle.transfer.specs.OnMemory.{lent}
use Rattle.transfer.specs.StoreCases.{too_short_lem, is_lent}
use Rattle.reading.specs.ReadCases.{read_memory, read_buffers, read_idle, read_updating}
use Rattle.reading.proofs.read_at.Goals.{then-not-is_lent-via-then-not-is_lent, then-not-is_lent-via-else-not-is_lent+then-are_short}
use Rattle.reading.proofs.read_at.Goals as goal

pub returns-then-not-is_lent : goal.returns-then-not-is_lent
returns-then-not-is_lent c =
    let a = c.args in
    let b = bufs a.frames.now a.numbers.now a.clean.now a.«record».now in
    λ w. sym (elim c.then-not-is_lent.branch [
      | then-not-is_lent-via-then-not-is_lent v ↦
          read_memory a.s.now a.mem.now b w a.offset a.dst.now (too_short_lem a.s.now a.mem.now c.is_lent.result c.is_lent.ensures (ap not v.if-not-is_lent.true))
      | then-not-is_lent-via-else-not-is_lent+then-are_short v ↦
          read_buffers a.s.now a.mem.now b w a.offset a.dst.now (is_lent a.s.now a.mem.now c.is_lent.result c.is_lent.ensures (ap not v.if-not-is_lent.false)) (sym v.are_short.ensures ∙ v.if-are_short.true)
    ])

pub returns-then-s : goal.returns-then-s
returns-then-s c =
    let a = c.args in
    let b = bufs a.frames.now a.numbers.now a.clean.now a.«record».now in
    let x = c.read_at in
    λ w. (λ i. out (record { count = a.s.now.count; block = a.s.now.block; updating = c.if-s.true i; overlay = x.new.o }) (lent a.mem.now (bufs a.frames.now a.numbers.now x.new.clean a.«record».now) w) (answered Read x.result) x.new.dst)
    ∙ read_updating a.s.now a.mem.now b w a.offset a.dst.now (is_lent a.s.now a.mem.now c.is_lent.result c.is_lent.ensures (ap not c.if-not-is_lent.false)) (sym c.are_short.ensures ∙ c.if-are_short.false) c.if-s.true
    (seen x.new.o (bufs a.frames.now a.numbers.now x.new.clean a.«record».now) x.new.dst x.result)
    (x.ensures ∙ ap (λ (i : Image). read_at 16384 8 i a.mem.now a.s.now.overlay b a.offset a.dst.now) c.image_of-image.ensures)

pub returns : goal.returns
returns c =
    let a = c.args in
    let b = bufs a.frames.now a.numbers.now a.clean.now a.«record».now in
    λ w. ap (λ (t : Bool). out a.s.now (lent a.mem.now b w) (Read t) c.read.new.dst) (c.is_full.ensures ∙ ap (full 16384 65536 8 1024 18446744073709551615 real_codec a.s.now.block.db_size a.offset) c.read.auto.dst)
    ∙ ap (λ (f : List ℕ). out a.s.now (lent a.mem.now b w) (Read (full 16384 65536 8 1024 18446744073709551615 real_codec a.s.now.block.db_size a.offset (length a.dst.now))) f)
    (c.read.ensures ∙ ap (λ (i : Image). tabulate_from a.offset (length a.dst.now) (image_in 16384 i a.mem.now)) c.image_of-image.ensures)
    ∙ sym (read_idle a.s.now a.mem.now b w a.offset a.dst.now (is_lent a.s.now a.mem.now c.is_lent.result c.is_lent.ensures (ap not c.if-not-is_lent.false)) (sym c.are_short.ensures ∙ c.if-are_short.false) c.if-s.false)
