-- `commit::settle` meets its contract.
use Rattle.std.proofs.Common.{◌≡◌, sym, ap, ◌∙◌, arith, ℕ, ◌*◌, Result, Option, length-take}
use Rattle.std.proofs.lemmas.Result.{err_from_is_err_and}
use Rattle.std.specs.Prelude.{Err, Some, None}
use Rattle.config.specs.declared.refusal.Refusal.{Refusal}
use Rattle.config.specs.declared.refusal.Refusal.TheVariants.{OffsetOverflow}
use Rattle.store.specs.Answers.{done}
use Rattle.store.specs.Codec.{real_codec}
use Rattle.commit.specs.Committed.{left_by}
use Rattle.commit.specs.CommitSteps.{plan_refused, plan_room, plan_kept, front_even, reach_over, reach_at, settle_refused, settle_over, settle_on}
use Rattle.commit.proofs.settle.Goals as goal

pub returns-in_err-count-clause-left : goal.returns-in_err-count-clause-left
returns-in_err-count-clause-left c =
    let a = c.args in
    let p = err_from_is_err_and c.from_residual.result c.from_residual.ensures.1 in
    let r = plan_refused _ _ _ _ _ c.plan.ensures c.in_err-count.was in
    rw (← c.stored-image.ensures.runs) (settle_refused 16384 65536 8 1024 18446744073709551615 real_codec a.update a.s.now a.mem.now a.size a.frames.numbers.now a.frames.bytes.now _ _ _ r.0
    (ap (λ (x : Result (Unit {0}) Refusal). left_by a.s.now (done x)) (p.1 ∙ ap Err (p.2 ∙ r.1))))

pub returns-in_err-end-clause-left : goal.returns-in_err-end-clause-left
returns-in_err-end-clause-left c =
    let a = c.args in
    let p = err_from_is_err_and c.from_residual-in_err-end.result c.from_residual-in_err-end.ensures.1 in
    let none : ◌≡◌ {A = Option ℕ} c.required_end.result None = grind arith in
    let why : c.in_err-end.field-0.0 ≡ OffsetOverflow = grind arith in
    rw (← c.stored-image.ensures.runs) (settle_over 16384 65536 8 1024 18446744073709551615 real_codec a.update a.s.now a.mem.now a.size a.frames.numbers.now a.frames.bytes.now _ _ _ (plan_kept _ _ _ _ _ c.plan.ensures c.in_ok-count.was) _
    (reach_over _ (sym c.required_end.ensures ∙ none)) (ap (λ (x : Result (Unit {0}) Refusal). left_by a.s.now (done x)) (p.1 ∙ ap Err (p.2 ∙ why))))

pub overflow_mul-count : goal.overflow_mul-count
overflow_mul-count c = omega (arith, plan_room _ _ _ _ _ c.plan.ensures c.in_ok-count.was, c.plan.auto.work, c.well_formed)

pub slice_bounds-publish-end : goal.slice_bounds-publish-end
slice_bounds-publish-end c = plan_room _ _ _ _ _ c.plan.ensures c.in_ok-count.was

pub slice_bounds-publish-end-2 : goal.slice_bounds-publish-end-2
slice_bounds-publish-end-2 c = omega (arith, plan_room _ _ _ _ _ c.plan.ensures c.in_ok-count.was, length-take (c.in_ok-count.count * 2) c.plan.new.work)

pub publish-requires : goal.publish-requires
publish-requires c = (c.requires.0, front_even _ _ (plan_room _ _ _ _ _ c.plan.ensures c.in_ok-count.was))

pub returns-clause-left : goal.returns-clause-left
returns-clause-left c =
    let a = c.args in
    let some : ◌≡◌ {A = Option ℕ} c.required_end.result (Some c.in_ok-end.end) = grind arith in
    let t = reach_at _ _ (sym c.required_end.ensures ∙ some) in
    rw (← c.stored-image.ensures.runs) (settle_on 16384 65536 8 1024 18446744073709551615 real_codec a.update a.s.now a.mem.now a.size a.frames.numbers.now a.frames.bytes.now _ _ _ (plan_kept _ _ _ _ _ c.plan.ensures c.in_ok-count.was) _ _ _ t.0 t.1 c.publish.ensures.left)
