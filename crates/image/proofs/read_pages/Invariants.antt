use Rattle.std.proofs.Common.{◌≡◌, ◌≤◌, length}
use Rattle.memory.specs.Bytes.{overwrite}
use Rattle.update.specs.Lists.{tabulate_from}
use Rattle.update.specs.Image.{image_in}
use Rattle.image.proofs.read_pages.Given as goal

abbrev pub invariant-loop-at : goal.invariant-loop-at
invariant-loop-at l = (l.at-iterator.offset ≡ l.offset) × (l.at-iterator.done ≤ l.at-iterator.len) × (l.at-iterator.len ≡ length l.dst) × (length l.dst ≡ length l.fn.dst)
    × (l.dst ≡ overwrite 0 (tabulate_from l.offset l.at-iterator.done (image_in 16384 l.stored.image l.stored.mem.now)) l.fn.dst)
