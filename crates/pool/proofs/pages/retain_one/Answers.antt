-- `pool::retain_one` meets its contract: a page that is in its place is not moved.
use mathlib.Core.Path.{◌≡◌, sym, ◌∙◌}
use mathlib.Core.Bool.{true}
use native.Mathlib.Omega.{arith}
use Prim.Native.Nat.{◌*◌}
use lib.ListN.{get_or}
use Rattle.pool.specs.PoolLaws.{moved, one_gone, one_moved, one_there}
use Rattle.pool.proofs.pages.retain_one.Goals as goal
use Rattle.pool.proofs.pages.retain_one.Goals.{then-to-i, else-to-i}

pub returns-then-not-keep-clause-moved : goal.returns-then-not-keep-clause-moved
returns-then-not-keep-clause-moved g c p says = sym (one_gone _ p _ _ _ _ (sym (says _ _ c.keep.ensures) ∙ c.if-not-keep.true))

pub returns-clause-moved : goal.returns-clause-moved
returns-clause-moved g c p says =
    let a = c.args in
    let e : p (get_or a.numbers.now a.i 0) ≡ true = sym (says _ _ c.keep.ensures) ∙ c.if-not-keep.false in
    elim c.if-to-i.branch [
      | then-to-i w ↦ cc (w.numbers-is, w.frames-is, w.copy_within.ensures.after, moved (a.to * 16384) (a.i * 16384) 16384 a.frames.now (omega arith) (omega arith), one_moved 16384 p a.numbers.now a.frames.now a.i a.to e)
      | else-to-i w ↦ cc (w.numbers-is, w.frames-is, one_there 16384 p a.numbers.now a.frames.now a.i a.to e (omega arith) (omega arith))
    ]
