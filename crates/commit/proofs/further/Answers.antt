-- `commit::further` meets its contract.
use Rattle.std.proofs.Common.{sym, ap, ◌∙◌, arith}
use Rattle.commit.specs.Reach.{reach, reach_at, reach_over, at_reach, over_reach, required_none, required_one}
use Rattle.commit.proofs.further.Goals as goal

pub returns-then-count-page : goal.returns-then-count-page
returns-then-count-page c =
    let a = c.args in
    sym (ap reach (required_none 16384 a.base a.count a.page a.so_far c.if-count-page.true) ∙ reach_at _ (omega arith))

pub returns-in_err-end : goal.returns-in_err-end
returns-in_err-end c =
    let a = c.args in
    let e = over_reach _ (sym c.page_end.ensures ∙ c.in_err-end.was) in
    let r = required_one 16384 a.base a.count a.page a.so_far c.if-count-page.false in
    c.from_residual.ensures ∙ sym (reach_over _ (omega (arith, r, e)))

pub returns : goal.returns
returns c =
    let a = c.args in
    let e = at_reach _ _ (sym c.page_end.ensures ∙ c.in_ok-end.was) in
    let r = required_one 16384 a.base a.count a.page a.so_far c.if-count-page.false in
    sym (ap reach (omega (arith, r, e.0, c.max.ensures)) ∙ reach_at c.max.result (omega (arith, e, c.max.ensures)))
