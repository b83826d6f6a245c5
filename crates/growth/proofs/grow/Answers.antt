-- `growth::grow` meets its contract.
use mathlib.Core.Path.{◌≡◌, sym, ◌∙◌}
use native.Mathlib.Omega.{arith}
use Rattle.std.proofs.lemmas.Result.{err_from_is_err_and}
use Rattle.update.specs.declared.Overlay.{Overlay}
use Rattle.update.specs.Laid.{bufs, Fits, ended, grown}
use Rattle.update.specs.LeaveLaws.{told}
use Rattle.update.specs.StepLaws.{ended_next, ended_stop}
use Rattle.growth.specs.GrowLaws.{patched_fits, grown_refused, stretched_fits, grown_ended}
use Rattle.growth.proofs.grow.Goals as goal
use Rattle.growth.proofs.grow.Goals.{After-zero_old_end}

pub returns-in_err-o : goal.returns-in_err-o
returns-in_err-o c =
    let p = err_from_is_err_and c.from_residual.result c.from_residual.ensures.1 in
    rw (p.1, p.2) (grown_refused 16384 8 (omega arith) _ _ c.requires.0 _ _ _ _ _ c.page_count_for_size-first.ensures c.page_count_for_size-last.ensures c.push_run.ensures _ _ _ _ c.in_err-o.was)

pub zero_old_end-requires : goal.zero_old_end-requires
zero_old_end-requires c =
    (stretched_fits 16384 8 (omega arith) c.args.o.now _ c.requires.0 _ _ _ _ _ c.page_count_for_size-first.ensures c.page_count_for_size-last.ensures c.push_run.ensures _ c.in_ok-o.was, c.requires.1)

-- the overlay once its new pages are recorded
abbrev recorded : After-zero_old_end → Overlay
recorded c = record { base_size = c.args.o.now.base_size; size = c.args.new; dirty = c.args.o.now.dirty; recorded = c.in_ok-o.field-0; cache = c.args.o.now.cache; budget = c.args.o.now.budget }

fits : (c : After-zero_old_end) → Fits 16384 8 (recorded c) (bufs c.args.frames.now c.args.numbers.now c.args.clean.now c.push_run.new.«record»)
fits c = stretched_fits 16384 8 (omega arith) c.args.o.now _ c.requires.0 _ _ _ _ _ c.page_count_for_size-first.ensures c.page_count_for_size-last.ensures c.push_run.ensures _ c.in_ok-o.was

-- both ends then are the growth
ends : (c : After-zero_old_end) → let a = c.args in
    ended 16384 8 18446744073709551615 a.stored.image a.stored.mem.now (recorded c) (bufs a.frames.now a.numbers.now a.clean.now c.push_run.new.«record») a.o.now.size a.new
    ≡ grown 16384 8 18446744073709551615 a.stored.image a.stored.mem.now a.o.now (bufs a.frames.now a.numbers.now a.clean.now a.«record».now) a.new
ends c = grown_ended 16384 8 (omega arith) _ _ c.requires.0 _ _ _ _ _ c.page_count_for_size-first.ensures c.page_count_for_size-last.ensures c.push_run.ensures _ c.in_ok-o.was _ _ _

pub returns-in_err-zero_old_end : goal.returns-in_err-zero_old_end
returns-in_err-zero_old_end c =
    let p = err_from_is_err_and c.from_residual-in_err-zero_old_end.result c.from_residual-in_err-zero_old_end.ensures.1 in
    let x = (goal.at.returns-in_err-zero_old_end c).After-zero_old_end in
    rw (p.1, p.2) (sym (ended_stop 16384 8 (omega arith) _ _ (fits x) _ _ _ _ _ _ _ _ (told c.zero_old_end.ensures c.in_err-zero_old_end.was)) ∙ ends x)

pub zero_new_end-requires : goal.zero_new_end-requires
zero_new_end-requires c = (patched_fits 16384 8 (omega arith) _ _ (fits (goal.at.zero_new_end-requires c).After-zero_old_end) _ _ _ _ _ _ _ _ c.zero_old_end.ensures, c.requires.1)

pub returns : goal.returns
returns c =
    let x = (goal.at.returns c).After-zero_old_end in
    c.zero_new_end.ensures ∙ ended_next 16384 8 (omega arith) _ _ (fits x) _ _ _ _ _ _ _ (told c.zero_old_end.ensures c.in_ok-zero_old_end.was) ∙ ends x
