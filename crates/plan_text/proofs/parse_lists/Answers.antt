-- `plan_text::parse_lists` meets its contract: what the three kinds of lines answered, put together. A buffer of 2,048 numbers is for 1,024 runs.
use Rattle.std.proofs.Common.{◌≡◌, List, ℕ, ap, ◌∙◌, rules, tests}
use Rattle.meta.specs.Runs.{runs_of, normalized}
use Rattle.plan_line.specs.Values.{non_empty, distinct}
use Rattle.plan_line.specs.Tests.{ascending}
use Rattle.decimal.specs.Text.{from}
use Rattle.plan_text.specs.Fill.{filled, fill_runs, fill_pages}
use Rattle.plan_text.specs.Tested.{normalized_test, non_empty-test}
use Rattle.plan_text.specs.Whole.{extents_in, records_in, dirty_in, extents_broken, records_broken, dirty_broken, text_left, all_read, left_some, left_none, extents_read, records_read, dirty_read}
use Rattle.plan_text.proofs.parse_lists.Goals.{In_ok-first, In_ok-second, In_ok-third}
use Rattle.plan_text.proofs.parse_lists.Goals as goal

first : (c : In_ok-first) → filled c.in_ok-first.first.value (from c.args.text.now c.in_ok-first.first.next) c.read_section.new.out
    ≡ fill_runs 0 (extents_in (from c.args.text.now c.args.at)) c.args.extents.now
first c =
    c.in_ok-first.ensures normalized (λ xs r k. let q : r ≡ ascending k.shown.now = search (rules, tests) in q ∙ ap ascending k.shows ∙ normalized_test xs)
    ∙ extents_read (from c.args.text.now c.args.at) c.args.extents.now c.told-extents

second : (c : In_ok-second) → filled c.in_ok-second.second.value (from c.args.text.now c.in_ok-second.second.next) c.read_section-2.new.out
    ≡ fill_runs 0 (records_in (from c.args.text.now c.in_ok-first.first.next)) c.args.recorded.now
second c =
    c.in_ok-second.ensures non_empty (λ xs r k.
    let q : r ≡ non_empty (runs_of k.shown.now) = search (rules, tests) in q ∙ ap (λ (l : List ℕ). non_empty (runs_of l)) k.shows ∙ non_empty-test xs)
    ∙ records_read (from c.args.text.now c.in_ok-first.first.next) c.args.recorded.now c.told-recorded

third : (c : In_ok-third) → filled c.in_ok-third.third.value (from c.args.text.now c.in_ok-third.third.next) c.read_section-3.new.out
    ≡ fill_pages 0 (dirty_in (from c.args.text.now c.in_ok-second.second.next)) c.args.dirty.now
third c =
    c.in_ok-third.ensures distinct (λ xs r k. let q : r ≡ distinct k.shown.now = search (rules, tests) in q ∙ ap distinct k.shows)
    ∙ dirty_read (from c.args.text.now c.in_ok-second.second.next) c.args.dirty.now c.told-dirty

pub returns-in_err-first : goal.returns-in_err-first
returns-in_err-first c =
    let a = c.args in
    let l = from a.text.now a.at in
    let e =
    c.in_err-first.ensures normalized (λ xs r k. let q : r ≡ ascending k.shown.now = search (rules, tests) in q ∙ ap ascending k.shows ∙ normalized_test xs)
    ∙ extents_read l a.extents.now c.told-extents in
    rw c.from_residual.ensures (extents_broken a.old a.new l a.extents.now a.recorded.now a.dirty.now _ e)

pub returns-in_err-second : goal.returns-in_err-second
returns-in_err-second c =
    let a = c.args in
    let p = goal.at.returns-in_err-second c in
    let f =
    c.in_err-second.ensures non_empty (λ xs r k.
    let q : r ≡ non_empty (runs_of k.shown.now) = search (rules, tests) in q ∙ ap (λ (l : List ℕ). non_empty (runs_of l)) k.shows ∙ non_empty-test xs)
    ∙ records_read (from a.text.now c.in_ok-first.first.next) a.recorded.now c.told-recorded in
    rw c.from_residual-in_err-second.ensures (records_broken a.old a.new (from a.text.now a.at) a.extents.now a.recorded.now a.dirty.now _ _ _ _ (first p.In_ok-first) f)

pub returns-in_err-third : goal.returns-in_err-third
returns-in_err-third c =
    let a = c.args in
    let p = goal.at.returns-in_err-third c in
    let g =
    c.in_err-third.ensures distinct (λ xs r k. let q : r ≡ distinct k.shown.now = search (rules, tests) in q ∙ ap distinct k.shows)
    ∙ dirty_read (from a.text.now c.in_ok-second.second.next) a.dirty.now c.told-dirty in
    rw c.from_residual-in_err-third.ensures
    (dirty_broken a.old a.new (from a.text.now a.at) a.extents.now a.recorded.now a.dirty.now _ _ _ _ (first p.In_ok-first) _ _ _ (second p.In_ok-second) g)

pub returns-then-third-text : goal.returns-then-third-text
returns-then-third-text c =
    let a = c.args in
    let p = goal.at.returns-then-third-text c in
    text_left a.old a.new (from a.text.now a.at) a.extents.now a.recorded.now a.dirty.now _ _ _ _ (first p.In_ok-first) _ _ _ (second p.In_ok-second) _ _ (third p.In_ok-third)
    (left_some a.text.now _ c.if-third-text.true)

pub returns : goal.returns
returns c =
    let a = c.args in
    let p = goal.at.returns c in
    all_read a.old a.new (from a.text.now a.at) a.extents.now a.recorded.now a.dirty.now _ _ _ _ (first p.In_ok-first) _ _ _ (second p.In_ok-second) _ _ (third p.In_ok-third)
    (left_none a.text.now _ c.if-third-text.false)
