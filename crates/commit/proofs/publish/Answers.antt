-- `commit::publish` meets its contract.
use Rattle.std.proofs.Common.{ap, ◌∙◌, Result}
use Rattle.std.proofs.lemmas.Result.{err_from_is_err_and}
use Rattle.std.specs.Prelude.{Err}
use Rattle.config.specs.declared.refusal.Refusal.{Refusal}
use Rattle.update.specs.Pages.{pages_in}
use Rattle.store.specs.Answers.{done}
use Rattle.commit.specs.Committed.{left_by, outcome}
use Rattle.commit.specs.CommitSteps.{publish_refused, publish_grown}
use Rattle.commit.proofs.publish.Goals as goal

pub returns-in_err-s-clause-left : goal.returns-in_err-s-clause-left
returns-in_err-s-clause-left c =
    let a = c.args in
    let p = err_from_is_err_and c.from_residual.result c.from_residual.ensures.1 in
    ap (λ (x : Result (Unit {0}) Refusal). outcome (left_by a.s.now (done x)) c.grow.new.mem) (p.1 ∙ ap Err p.2)
    ∙ publish_refused 16384 65536 8 1024 18446744073709551615 a.update a.s.now a.mem.now a.size (pages_in 16384 a.frames.numbers.now a.frames.bytes.now) a.runs.now a.end _ _ c.grow.ensures _ c.in_err-s.was

pub returns-clause-left : goal.returns-clause-left
returns-clause-left c =
    let a = c.args in
    publish_grown 16384 65536 8 1024 18446744073709551615 a.update a.s.now a.mem.now a.size (pages_in 16384 a.frames.numbers.now a.frames.bytes.now) a.runs.now a.end _ _ c.grow.ensures
    c.in_ok-s.field-0 _ _ _ _ _ c.in_ok-s.was c.requires.1 c.page_count_for_size-pages.ensures c.write_pages.ensures c.after_commit-block.ensures c.store-s.ensures
