use mathlib.Core.Path.{◌≡◌}
use mathlib.Core.Bool.{true}
use Prim.Native.Nat.{◌+◌, ◌-◌, ◌/◌, ◌%◌, ◌≤◌, ◌<◌}
use lib.ListN.{length}
use Rattle.update.specs.Pages.{span}
use Rattle.update.specs.Update.{copy}
use Rattle.update.specs.Laid.{bufs, Fits, touched_all}
use Rattle.writing.proofs.write_pages.Given as goal

abbrev pub invariant-loop-at : goal.invariant-loop-at
invariant-loop-at l = record {
  at : l.at-iterator.offset ≡ l.offset;
  within : l.at-iterator.done ≤ l.at-iterator.len;
  end : l.at-iterator.len ≡ length l.bytes;
  aligned : 0 < l.at-iterator.done → l.at-iterator.done < length l.bytes → (l.offset + l.at-iterator.done) % 16384 ≡ 0;
  frames : length l.frames ≡ length l.fn.frames;
  numbers : length l.numbers ≡ length l.fn.numbers;
  clean : length l.clean ≡ length l.fn.clean;
  fits : Fits 16384 8 l.o (bufs l.frames l.numbers l.clean l.«record»);
  written : touched_all 16384 8 18446744073709551615 l.stored.image l.stored.mem.now l.o (bufs l.frames l.numbers l.clean l.«record») true (copy 16384 l.offset l.bytes) ((l.offset + l.at-iterator.done) / 16384) (span 16384 (l.offset + l.at-iterator.done) (length l.bytes - l.at-iterator.done))
      ≡ touched_all 16384 8 18446744073709551615 l.stored.image l.stored.mem.now l.fn.o (bufs l.fn.frames l.fn.numbers l.fn.clean l.«record») true (copy 16384 l.offset l.bytes) (l.offset / 16384) (span 16384 l.offset (length l.bytes));
}
