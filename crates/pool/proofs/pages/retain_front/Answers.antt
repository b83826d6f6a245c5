-- `pool::retain_front` meets its contract: the walk of the rest, from what there is, is the walk of all.
use mathlib.Core.Path.{sym, ◌∙◌}
use native.Mathlib.Omega.{arith}
use borrow.Author.Rules.{rules}
use Rattle.update.specs.Frames.{pool}
use Rattle.pool.specs.PoolLaws.{front_step}
use Rattle.pool.proofs.pages.retain_front.Goals as goal

pub loop-i-preserved : goal.loop-i-preserved
loop-i-preserved g c =
    let a = c.args in
    let x = c.retain_one-to in
    let y = pool x.new.numbers x.new.frames x.result in (
      omega (arith, x.ensures.few, c.loop-i.invariant.0),
      search rules,
      search rules,
      λ p says. sym (front_step 16384 p c.loop-i.numbers c.loop-i.frames c.loop-i.i c.loop-i.to a.count (omega arith) y (x.ensures.moved p says)) ∙ c.loop-i.invariant.3 p says,
    )
