-- `zeroplan::plan` meets its contract: what was read is planned.
use Rattle.std.proofs.Common.{◌≡◌, replicate, Result, Ok, Err, ℕ, List, length, take, length-take, sym, ap, ◌∙◌, arith, rules}
use Rattle.std.proofs.Math.ListN.{length-replicate}
use Rattle.std.proofs.lemmas.Result.{err_from_is_err_and}
use Rattle.config.specs.Pages.{count}
use Rattle.meta.specs.declared.ZeroExtent.{ZeroExtent}
use Rattle.runs.specs.Flat.{runs_in}
use Rattle.runs.specs.FlatLaws.{runs_in-length}
use Rattle.extents.specs.Plan.{plan}
use Rattle.extents.specs.PlanLaws.{plan_most}
use Rattle.extents.specs.Outcome.{Planned, outcome, planned}
use Rattle.plan_report.specs.declared.PlanError.{PlanError}
use Rattle.plan_report.specs.Answers.{report}
use Rattle.plan_text.specs.Fill.{outcome as read}
use Rattle.zeroplan.specs.Reply.{reply_of}
use Rattle.zeroplan.specs.ReplyLaws.{Said, said, unread, enough, too_many_lem, runs_kept, some_was, none_was, ok_was, err_was, reply_extents, reply_runs}
use Rattle.zeroplan.proofs.plan.Goals.{In_ok-parsed}
use Rattle.zeroplan.proofs.plan.Goals as goal

zeros : (n : ℕ) → length {A = ℕ} (replicate n 0) ≡ n
zeros n = length-replicate {A = ℕ} n 0

-- what an accepted text says
accepted : (c : In_ok-parsed) → let p = c.in_ok-parsed.parsed in
    Said c.args.text.now p.old_size p.new_size p.extents p.recorded p.dirty c.parse-found.new.extents c.parse-found.new.recorded c.parse-found.new.dirty
accepted c =
    let o = some_was c.parse-found.result c.ok_or.result c.in_ok-parsed.parsed c.ok_or.ensures.ok_part c.in_ok-parsed.was in
    said _ _ _ _ _ _ _ _ _ _ _ _ (zeros 2048) (zeros 2048) (zeros 1024)
    (ap (λ x. read x c.parse-found.new.extents c.parse-found.new.recorded c.parse-found.new.dirty) (sym o) ∙ c.parse-found.ensures)

-- what was planned for it
plans : {t : List ℕ} {old new n k j m : ℕ} {e r d w : List ℕ} {es rs : List ZeroExtent} {p : Planned} (x : Said t old new n k j e r d) → m ≡ 6146
    → es ≡ runs_in n e → rs ≡ runs_in k r → outcome p w ≡ planned m (plan 16384 1024 old new es rs (take j d))
    → outcome p w ≡ planned 6146 (plan 16384 1024 x.input.old x.input.new x.input.extents x.input.records x.input.dirty)
plans x h f g q = q ∙ (λ s. planned (h s) (plan 16384 1024 (x.old_is s) (x.new_is s) ((f ∙ x.extents) s) ((g ∙ x.records) s) (x.dirty s)))

pub returns-in_err-parsed-clause-told : goal.returns-in_err-parsed-clause-told
returns-in_err-parsed-clause-told c =
    let p = err_from_is_err_and c.from_residual.result c.from_residual.ensures.1 in
    let n = none_was c.parse-found.result c.ok_or.result PlanError.Malformed _ c.ok_or.ensures.value c.ok_or.ensures.ok_part c.in_err-parsed.was in
    ap (λ (x : Result (ℕ × ℕ) PlanError). reply_of x c.args.work.now) (p.1 ∙ ap Err (p.2 ∙ n.1))
    ∙ sym (unread c.args.text.now _ _ _ _ _ _ (ap (λ x. read x c.parse-found.new.extents c.parse-found.new.recorded c.parse-found.new.dirty) (sym n.0) ∙ c.parse-found.ensures))

pub slice_bounds-dirty-end : goal.slice_bounds-dirty-end
slice_bounds-dirty-end c = (accepted (goal.at.slice_bounds-dirty-end c).In_ok-parsed).dirty_in

pub slice_bounds-change-end : goal.slice_bounds-change-end
slice_bounds-change-end c =
    let x = accepted (goal.at.slice_bounds-change-end c).In_ok-parsed in
    omega (arith, x.dirty_in, length-take c.in_ok-parsed.parsed.dirty c.parse-found.new.dirty)

pub plan-planned-requires : goal.plan-planned-requires
plan-planned-requires c =
    let x = accepted (goal.at.plan-planned-requires c).In_ok-parsed in (
      omega (arith, ap (λ (l : List ZeroExtent). length l) c.first-2.ensures, runs_in-length c.parse-found.new.extents c.in_ok-parsed.parsed.extents, x.few),
      omega (arith, x.pages, length-take c.in_ok-parsed.parsed.dirty c.parse-found.new.dirty, c.told-work),
    )

pub returns-in_err-count-clause-told : goal.returns-in_err-count-clause-told
returns-in_err-count-clause-told c =
    let x = accepted (goal.at.returns-in_err-count-clause-told c).In_ok-parsed in
    let p = err_from_is_err_and c.from_residual-in_err-count.result c.from_residual-in_err-count.ensures.1 in
    let e = err_was _ c.plan-planned.result c.map_err.result _ c.map_err.ensures.cases c.in_err-count.was in
    let d : c.in_err-count.field-0.0 ≡ PlanError.Extents = let k = e.2 in search rules in
    let q = ap (λ y. outcome y c.plan-planned.new.work) (sym e.1) ∙ c.plan-planned.ensures in
    let t = too_many_lem 6146 _ c.plan-planned.new.work _ (plans x c.told-work c.first-2.ensures c.first.ensures q) in
    ap (λ (y : Result (ℕ × ℕ) PlanError). reply_of y c.plan-planned.new.work) (p.1 ∙ ap Err (p.2 ∙ d))
    ∙ sym (reply_extents c.args.text.now x.input x.reply_is t)

pub returns-clause-told : goal.returns-clause-told
returns-clause-told c =
    let x = accepted (goal.at.returns-clause-told c).In_ok-parsed in
    let o = ok_was _ c.plan-planned.result c.map_err.result c.in_ok-count.count c.map_err.ensures.cases c.in_ok-count.was in
    let q = ap (λ y. outcome y c.plan-planned.new.work) (sym o) ∙ c.plan-planned.ensures in
    let k = enough 6146 c.in_ok-count.count c.plan-planned.new.work _ (plans x c.told-work c.first-2.ensures c.first.ensures q) in
    let pages : c.page_count_for_size-pages.result.0 ≡ count 16384 x.input.new = c.page_count_for_size-pages.ensures ∙ ap (count 16384) x.new_is in
    (λ i. report (Ok (pages i)) (runs_kept k i)) ∙ sym (reply_runs c.args.text.now x.input x.reply_is k.runs k.answer)

pub returns-clause-few : goal.returns-clause-few
returns-clause-few c =
    let x = accepted (goal.at.returns-clause-few c).In_ok-parsed in
    let o = ok_was _ c.plan-planned.result c.map_err.result c.in_ok-count.count c.map_err.ensures.cases c.in_ok-count.was in
    let q = ap (λ y. outcome y c.plan-planned.new.work) (sym o) ∙ c.plan-planned.ensures in
    let k = enough 6146 c.in_ok-count.count c.plan-planned.new.work _ (plans x c.told-work c.first-2.ensures c.first.ensures q) in
    let i = x.input in
    omega (arith, k.count, plan_most 16384 1024 i.old i.new i.extents i.records i.dirty k.runs k.answer)
