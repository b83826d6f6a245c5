-- `pool::cache::settle` meets its contract.
use mathlib.Core.Path.{◌≡◌}
use Prim.Native.Nat.{◌-◌}
use native.Mathlib.Omega.{arith}
use lib.ListN.{length}
use borrow.Author.Rules.{rules}
use Rattle.memory.specs.Laws.{part_filled}
use Rattle.pool.specs.CacheLaws.{settled_least}
use Rattle.pool.proofs.cache.settle.Goals as goal
use Rattle.pool.proofs.cache.settle.Goals.{Start}

long : (c : Start) → length c.args.c.now.pages ≡ 8
long c = search rules

pub returns : goal.returns
returns c =
    let n = c.min-c.result in
    let p = part_filled n (8 - n) c.args.c.now.pages (omega (arith, long (goal.at.returns c).Start, c.min-c.ensures)) in
    rw (c.fill.ensures, p, c.min-c.ensures) (settled_least 16384 8 c.args.c.now (long (goal.at.returns c).Start))
