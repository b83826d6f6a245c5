-- `pool::push_run` meets its contract: two numbers are stored, if there is a run and room for it.
use mathlib.Core.Path.{sym, ◌∙◌}
use Prim.Native.Nat.{◌*◌}
use native.Mathlib.Omega.{arith}
use borrow.Author.Tests.{leb-true, leb-false}
use Rattle.runs.specs.Flat.{put}
use Rattle.pool.specs.PoolLaws.{set_two, push_none, push_full, push_room}
use Rattle.pool.proofs.record.push_run.Goals as goal

pub returns-then-is_empty : goal.returns-then-is_empty
returns-then-is_empty c = sym (push_none _ _ _ _ (leb-true _ _ (sym c.is_empty.ensures ∙ c.if-is_empty.true)))

pub returns-then-record-count : goal.returns-then-record-count
returns-then-record-count c =
    sym (push_full _ _ _ _ (leb-false _ _ (sym c.is_empty.ensures ∙ c.if-is_empty.false)) c.if-record-count.true)

pub returns : goal.returns
unfolding put
returns c =
    let a = c.args in
    rw (c.write.ensures, set_two a.«record».now (a.count * 2) a.run.start a.run.end (omega arith))
    (sym (push_room _ _ _ _ (leb-false _ _ (sym c.is_empty.ensures ∙ c.if-is_empty.false)) c.if-record-count.false))
