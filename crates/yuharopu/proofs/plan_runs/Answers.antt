-- `plan_runs` meets its contract: the plan of `extents`, shown.
use Rattle.std.proofs.Common.{ℕ, List, Bool, false, ◌≡◌, ◌<◌, ◌≤◌, ◌/◌, length, eqb, Err, rules, sym, ap, ◌∙◌, arith}
use borrow.Author.Tests.{lt-ltb, le-ltb, eqb-true, eqb-false}
use Rattle.memory.specs.Laws.{set_overwrite}
use Rattle.meta.specs.Runs.{runs_of}
use Rattle.runs.specs.Lists.{length-runs_of}
use Rattle.extents.specs.Outcome.{Planned, outcome, room}
use Rattle.yuharopu.specs.Exports.{plans, plan_shown, plan_runs, plan_shown_lem, planned_runs}
use Rattle.yuharopu.proofs.plan_runs.Goals as goal

-- the answer's list has a place
filled : (n : ℕ) {empty : Bool} → empty ≡ eqb n 0 → empty ≡ false → 1 ≤ n
filled n e h = omega (arith, eqb-false n 0 (sym e ∙ h))

pub returns-then-is_empty : goal.returns-then-is_empty
unfolding plan_runs
returns-then-is_empty c =
    let none : length c.args.answer.now < 1 = omega (arith, eqb-true _ _ (sym c.is_empty.ensures ∙ c.if-is_empty.true)) in
    simp (lt-ltb _ _ none)

-- the runs are as many as pairs of numbers
few : (n : List ℕ) {k : ℕ} → k ≡ length (runs_of n) → k ≡ length n / 2
few n e = e ∙ length-runs_of n

pub returns-then-count : goal.returns-then-count
unfolding plan_runs
returns-then-count c =
    let many : 1024 < length c.args.image.numbers.now / 2 = omega (arith, few c.args.image.numbers.now c.count.ensures, c.if-count.true) in
    simp (le-ltb _ _ (filled _ c.is_empty.ensures c.if-is_empty.false), lt-ltb _ _ many)

pub returns-then-work-work_numbers : goal.returns-then-work-work_numbers
unfolding plan_runs
returns-then-work-work_numbers c =
    let fits : length c.args.image.numbers.now / 2 ≤ 1024 = omega (arith, few c.args.image.numbers.now c.count.ensures, c.if-count.false) in
    let short : length c.args.work.now < room (length c.args.change.dirty.now) = omega (arith, c.work_numbers.ensures, c.if-work-work_numbers.true) in
    simp (le-ltb _ _ (filled _ c.is_empty.ensures c.if-is_empty.false), le-ltb _ _ fits, lt-ltb _ _ short)

pub returns-in_err-answer : goal.returns-in_err-answer
returns-in_err-answer c =
    let s = c.args in
    let w = c.plan.new.work in
    let fits : length s.image.numbers.now / 2 ≤ 1024 = omega (arith, few s.image.numbers.now c.count.ensures, c.if-count.false) in
    let long : room (length s.change.dirty.now) ≤ length s.work.now = omega (arith, c.work_numbers.ensures, c.if-work-work_numbers.false) in
    let refused : c.from_residual.result ≡ Err c.in_err-answer.field-0.0 = search rules in
    rw refused (ap (λ (x : Planned). plan_shown w x s.answer.now) (sym c.in_err-answer.was)
    ∙ plan_shown_lem s.work.now s.image.numbers.now s.change.old_size s.change.new_size s.change.recorded.now s.change.dirty.now s.answer.now (outcome c.plan.result w)
    (filled _ c.is_empty.ensures c.if-is_empty.false) fits long
    (c.plan.ensures ∙ planned_runs s.work.now s.image.numbers.now s.change.old_size s.change.new_size s.change.recorded.now s.change.dirty.now))

pub returns : goal.returns
returns c =
    let s = c.args in
    let w = c.plan.new.work in
    let place : 1 ≤ length s.answer.now = filled _ c.is_empty.ensures c.if-is_empty.false in
    let fits : length s.image.numbers.now / 2 ≤ 1024 = omega (arith, few s.image.numbers.now c.count.ensures, c.if-count.false) in
    let long : room (length s.change.dirty.now) ≤ length s.work.now = omega (arith, c.work_numbers.ensures, c.if-work-work_numbers.false) in
    ap (plans 0 w) (set_overwrite 0 c.in_ok-answer.field-0 s.answer.now place)
    ∙ ap (λ (x : Planned). plan_shown w x s.answer.now) (sym c.in_ok-answer.was)
    ∙ plan_shown_lem s.work.now s.image.numbers.now s.change.old_size s.change.new_size s.change.recorded.now s.change.dirty.now s.answer.now (outcome c.plan.result w)
    place fits long (c.plan.ensures ∙ planned_runs s.work.now s.image.numbers.now s.change.old_size s.change.new_size s.change.recorded.now s.change.dirty.now)
