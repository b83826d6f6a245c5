use mathlib.Core.Path.{sym, ◌∙◌}
use native.Mathlib.Omega.{arith}
use Rattle.std.proofs.lemmas.Result.{err_from_is_err_and}
use Rattle.update.specs.LeaveLaws.{told}
use Rattle.update.specs.StepLaws.{cut_stop, cut_next}
use Rattle.update.specs.FitLaws.{chopped_fits}
use Rattle.truncation.proofs.cut.Goals as goal

pub returns-in_err-chop : goal.returns-in_err-chop
returns-in_err-chop c =
    let p = err_from_is_err_and c.from_residual.result c.from_residual.ensures.1 in
    rw (p.1, p.2) (sym (cut_stop 16384 8 (omega arith) _ _ c.requires _ _ _ _ _ _ _ (told c.chop.ensures c.in_err-chop.was)))

pub zero_tail-requires : goal.zero_tail-requires
zero_tail-requires c = chopped_fits 16384 8 (omega arith) _ _ c.requires _ c.args.stored.image c.args.stored.mem.now _ (told c.chop.ensures c.in_ok-chop.was)

pub returns : goal.returns
returns c = c.zero_tail.ensures ∙ cut_next 16384 8 (omega arith) _ _ c.requires _ _ _ _ _ _ (told c.chop.ensures c.in_ok-chop.was)
