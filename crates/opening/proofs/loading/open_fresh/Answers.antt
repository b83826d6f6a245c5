use Rattle.std.proofs.Common.{refl}
use Rattle.std.proofs.lemmas.Result.{err_from_is_err_and}
use Rattle.opening.specs.OpeningCases.{fresh_refused, fresh_grown}
use Rattle.opening.proofs.loading.open_fresh.Goals as goal

pub returns-in_err-count : goal.returns-in_err-count
returns-in_err-count c =
    let g = c.grow in
    let p = err_from_is_err_and c.from_residual.result c.from_residual.ensures.1 in
    rw (p.1, p.2) (fresh_refused c.args.mem.now g.result g.new.mem g.ensures _ c.in_err-count.was _ refl)

pub returns : goal.returns
returns c =
    let g = c.grow in
    fresh_grown c.args.mem.now g.result g.new.mem g.ensures _ c.in_ok-count.was c.fresh-block.result c.fresh-block.ensures _ c.store-stored.ensures c.ended.result c.ended.ensures
