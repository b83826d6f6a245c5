use Rattle.std.proofs.Common.{sym, ap, ◌∙◌}
use Rattle.std.proofs.lemmas.Result.{err_from_is_err_and}
use Rattle.std.specs.Prelude.{Result}
use Rattle.config.specs.declared.refusal.Refusal.{Refusal}
use Rattle.store.specs.declared.State.{State}
use Rattle.store.specs.Answers.{Done, done}
use Rattle.opening.specs.Opened.{opened_as}
use Rattle.opening.specs.OpeningCases.{open_closed, refused_closed}
use Rattle.opening.proofs.loading.open.Goals as goal

pub returns-in_err-s : goal.returns-in_err-s
returns-in_err-s c =
    let o = c.open_image in
    let p = err_from_is_err_and c.from_residual.result c.from_residual.ensures.1 in
    rw (p.1, p.2) (refused_closed c.args.count.0 c.args.mem.now o.new.mem o.result _ c.in_err-s.was o.ensures _ c.not_opened.ensures)

pub returns : goal.returns
returns c =
    let n = c.args.count.0 in
    let o = c.open_image in
    let k = c.close_import in
    open_closed _ Done o.new.mem n c.args.mem.now
    (ap (λ (x : Result State Refusal). opened_as n x o.new.mem) (sym c.in_ok-s.was) ∙ o.ensures) k.new.s (done k.result) k.new.mem k.ensures
