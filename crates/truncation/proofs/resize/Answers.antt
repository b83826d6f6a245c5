use mathlib.Core.Path.{sym, ◌∙◌}
use native.Mathlib.Omega.{arith}
use Rattle.std.proofs.lemmas.Result.{err_from_is_err_and}
use Rattle.update.specs.LeaveLaws.{told}
use Rattle.update.specs.StepLaws.{resized_stop, resized_next}
use Rattle.update.specs.FitLaws.{grown_to-fits}
use Rattle.truncation.proofs.resize.Goals as goal

pub returns-in_err-grow_to : goal.returns-in_err-grow_to
returns-in_err-grow_to c =
    let p = err_from_is_err_and c.from_residual.result c.from_residual.ensures.1 in
    rw (p.1, p.2) (sym (resized_stop 16384 8 (omega arith) _ _ c.requires _ _ _ _ _ _ _ (told c.grow_to.ensures c.in_err-grow_to.was)))

pub cut-requires : goal.cut-requires
cut-requires c = grown_to-fits 16384 8 (omega arith) _ _ c.requires _ _ _ _ (told c.grow_to.ensures c.in_ok-grow_to.was)

pub returns : goal.returns
returns c = c.cut.ensures ∙ resized_next 16384 8 (omega arith) _ _ c.requires _ _ _ _ _ _ (told c.grow_to.ensures c.in_ok-grow_to.was)
