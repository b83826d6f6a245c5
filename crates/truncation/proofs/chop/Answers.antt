use native.Mathlib.Omega.{arith}
use Rattle.std.proofs.lemmas.Result.{err_from_is_err_and}
use Rattle.update.specs.Laid.{bufs}
use Rattle.update.specs.TouchLaws.{few_numbers, few_frames}
use Rattle.truncation.specs.CutLaws.{chopped_refused, chopped_dropped}
use Rattle.truncation.proofs.chop.Goals as goal

pub returns-in_err-o : goal.returns-in_err-o
returns-in_err-o c =
    let p = err_from_is_err_and c.from_residual.result c.from_residual.ensures.1 in
    rw (p.1, p.2) (chopped_refused 16384 8 (omega arith) _ _ c.requires _ _ _ _ _ c.page_count_for_size-last.ensures c.page_count_for_size-before.ensures c.push_run.ensures _ _ c.in_err-o.was)

pub drop_pages-requires : goal.drop_pages-requires
drop_pages-requires c =
    let a = c.args in
    let l = bufs a.frames.now a.numbers.now a.clean.now a.«record».now in
    ((few_numbers 16384 8 (omega arith) a.o.now l c.requires, few_frames 16384 8 (omega arith) a.o.now l c.requires), (c.requires.1.1.1, c.requires.1.1.0))

pub returns : goal.returns
returns c = chopped_dropped 16384 8 (omega arith) _ _ c.requires _ _ _ _ _ c.page_count_for_size-last.ensures c.page_count_for_size-before.ensures c.push_run.ensures _ _ c.in_ok-o.was _ c.drop_pages.ensures
