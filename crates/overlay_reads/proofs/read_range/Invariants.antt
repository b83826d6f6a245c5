use mathlib.Core.Path.{◌≡◌}
use mathlib.Core.Bool.{true}
use Prim.Native.Nat.{◌≤◌}
use lib.ListN.{length, take}
use Rattle.std.specs.Prelude.{Ok}
use Rattle.update.specs.Laid.{bufs}
use Rattle.overlay_reads.specs.Reads.{seen, range_read}
use Rattle.overlay_reads.proofs.read_range.Given as goal

abbrev pub invariant-loop-at : goal.invariant-loop-at
invariant-loop-at l = record {
  at : l.at-iterator.offset ≡ l.offset;
  within : l.at-iterator.done ≤ l.at-iterator.len;
  end : l.at-iterator.len ≡ length l.dst;
  dst : length l.dst ≡ length l.fn.dst;
  clean : length l.clean ≡ length l.fn.clean;
  read : seen l.o (bufs l.frames.bytes.now l.frames.numbers.now l.clean l.«record») (take l.at-iterator.done l.dst) (Ok true)
      ≡ range_read 16384 8 l.stored.image l.stored.mem.now l.fn.o (bufs l.frames.bytes.now l.frames.numbers.now l.fn.clean l.«record») l.offset l.at-iterator.done;
}
