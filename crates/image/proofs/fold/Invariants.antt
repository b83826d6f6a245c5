use Rattle.std.proofs.Common.{◌≡◌, ◌+◌, ◌-◌, length}
use Rattle.fnv.specs.Fnv.{fold}
use Rattle.update.specs.Lists.{tabulate_from}
use Rattle.update.specs.Image.{image_in}
use Rattle.image.proofs.fold.Given as goal

abbrev pub invariant-loop-at : goal.invariant-loop-at
invariant-loop-at l = (length l.page ≡ 16384) × (l.at-iterator.offset ≡ l.from) × (l.at-iterator.len ≡ l.end - l.from)
    × (fold l.sum (tabulate_from (l.from + l.at-iterator.done) (l.end - (l.from + l.at-iterator.done)) (image_in 16384 l.stored.image l.stored.mem.now)) ≡ fold l.hash (tabulate_from l.from (l.end - l.from) (image_in 16384 l.stored.image l.stored.mem.now)))
