-- `truncation::grow_to` meets its contract.
use mathlib.Core.Path.{sym, ◌∙◌}
use native.Mathlib.Omega.{arith}
use Rattle.update.specs.LeaveLaws.{told}
use Rattle.growth.specs.GrowLaws.{rests_same, grows_accepted, grows_refused}
use Rattle.truncation.specs.CutLaws.{is_refused, is_accepted}
use Rattle.truncation.proofs.grow_to.Goals as goal

pub returns-then-size-before : goal.returns-then-size-before
returns-then-size-before c = rests_same 16384 8 (omega arith) _ _ c.requires _ _ _ _ c.if-size-before.true

pub returns-then-is_err : goal.returns-then-is_err
returns-then-is_err c =
    let r = is_refused c.grow-grown.result (sym c.is_err.ensures.value ∙ c.if-is_err.true) in
    rw r.1 (grows_refused 16384 8 (omega arith) _ _ c.requires _ _ _ _ c.if-size-before.false _ _ _ (told c.grow-grown.ensures r.1))

pub returns-else-is_err : goal.returns-else-is_err
returns-else-is_err c =
    let r = is_accepted c.grow-grown.result (sym c.is_err.ensures.value ∙ c.if-is_err.false) in
    rw r (grows_accepted 16384 8 (omega arith) _ _ c.requires _ _ _ _ c.if-size-before.false _ _ (told c.grow-grown.ensures r))
