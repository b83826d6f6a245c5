-- `memory::write` meets its contract: as much as fits is copied into the part from `at` on.
use Rattle.std.proofs.Common.{sym, arith}
use Rattle.memory.specs.Laws.{part_fitted, overwrite_out}
use Rattle.memory.proofs.part.write.Goals as goal

pub returns-then-dst-at : goal.returns-then-dst-at
returns-then-dst-at g c = sym (overwrite_out _ _ _ c.if-dst-at.true)

pub returns : goal.returns
returns g c = let a = c.args in
    let n = c.min-n.result in
    rw c.copy_from_slice.ensures.after (part_fitted a.at _ n a.src.now a.dst.now (omega arith) (omega arith) (omega (arith, c.min-n.ensures)))
