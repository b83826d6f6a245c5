use Rattle.std.proofs.Common.{◌+◌, ◌≡◌, ◌≤◌, ◌∙◌, refl, length, arith}
use Rattle.std.proofs.lemmas.Result.{err_from_is_err_and}
use Rattle.meta.specs.Runs.{runs_of}
use Rattle.runs.specs.Flat.{runs_in}
use Rattle.extents.specs.Plan.{below}
use Rattle.extents.specs.PlanLaws.{below_most, settle_resized, settle_recorded, settle_not, settle_left}
use Rattle.extents.proofs.settle.Goals as goal
use Rattle.extents.proofs.settle.Goals.{After-count_below}

-- the limit, and that there is room for it
limited : (c : After-count_below) → 1024 + c.count_below.result ≡ 1024 + length (below c.page_count_for_size-end.result.0 c.args.change.dirty.now)
limited c = omega (arith, c.count_below.ensures)

few_below : (c : After-count_below) → c.count_below.result ≤ length c.args.change.dirty.now
few_below c = omega (arith, c.count_below.ensures, below_most c.page_count_for_size-end.result.0 c.args.change.dirty.now)

pub overflow_add-limit : goal.overflow_add-limit
overflow_add-limit c = omega (arith, few_below c, c.requires.room)

pub add_resized-requires : goal.add_resized-requires
add_resized-requires c = record {
  few = omega (arith, c.requires.few);
  room = omega (arith, few_below (goal.at.add_resized-requires c).After-count_below, c.requires.room);
  tidy = c.requires.tidy;
}

pub returns-in_err-add_resized-clause-plan : goal.returns-in_err-add_resized-clause-plan
returns-in_err-add_resized-clause-plan c =
    let a = c.args in
    let s = a.set.now in
    let d = c.in_err-add_resized.ensures in
    let p = err_from_is_err_and c.from_residual.result c.from_residual.ensures.1 in
    rw p.1 (
      p.2 ∙ d.added.0,
      settle_resized 16384 1024 a.change.old_size a.change.new_size _ _ (runs_in s.count s.work.now) (runs_of a.change.recorded.now) a.change.dirty.now
          c.page_count_for_size-end.ensures (limited (goal.at.returns-in_err-add_resized-clause-plan c).After-count_below) d.added.1,
    )

pub add_record-requires : goal.add_record-requires
add_record-requires c =
    let d = c.in_ok-add_resized.ensures in
    record {
      few = d.added.few;
      room = omega (arith, few_below (goal.at.add_record-requires c).After-count_below, c.requires.room, d.same.1);
      tidy = d.added.tidy;
    }

pub returns-in_err-add_record-clause-plan : goal.returns-in_err-add_record-clause-plan
returns-in_err-add_record-clause-plan c =
    let a = c.args in
    let s = a.set.now in
    let d = c.in_err-add_record.ensures in
    let p = err_from_is_err_and c.from_residual-in_err-add_record.result c.from_residual-in_err-add_record.ensures.1 in
    rw p.1 (
      p.2 ∙ d.added.0,
      settle_recorded 16384 1024 a.change.old_size a.change.new_size _ _ (runs_in s.count s.work.now) (runs_of a.change.recorded.now) a.change.dirty.now
          c.page_count_for_size-end.ensures (limited (goal.at.returns-in_err-add_record-clause-plan c).After-count_below) _ _ c.in_ok-add_resized.ensures.added d.added.1,
    )

pub remove_dirty-requires : goal.remove_dirty-requires
remove_dirty-requires c =
    let d = c.in_ok-add_record.ensures in
    omega (arith, few_below (goal.at.remove_dirty-requires c).After-count_below, c.requires.room, c.in_ok-add_resized.ensures.same.1, d.same.1, d.added.few)

pub returns-then-count-clause-plan : goal.returns-then-count-clause-plan
returns-then-count-clause-plan c =
    let a = c.args in
    let s = a.set.now in
    let r = c.remove_dirty in (
      refl,
      settle_not 16384 1024 a.change.old_size a.change.new_size _ _ (runs_in s.count s.work.now) (runs_of a.change.recorded.now) a.change.dirty.now
          c.page_count_for_size-end.ensures (limited (goal.at.returns-then-count-clause-plan c).After-count_below) _ _ c.in_ok-add_resized.ensures.added _ _ _ _ _
          c.in_ok-add_record.ensures.added r.ensures.left r.new.set.tidy.0 (omega (arith, c.len-count.ensures, c.if-count.true)),
    )

pub returns-clause-plan : goal.returns-clause-plan
returns-clause-plan c =
    let a = c.args in
    let s = a.set.now in
    let r = c.remove_dirty in
    rw c.len-count.ensures (
      r.new.set.tidy.0,
      settle_left 16384 1024 a.change.old_size a.change.new_size _ _ (runs_in s.count s.work.now) (runs_of a.change.recorded.now) a.change.dirty.now
          c.page_count_for_size-end.ensures (limited (goal.at.returns-clause-plan c).After-count_below) _ _ c.in_ok-add_resized.ensures.added _ _ _ _ _
          c.in_ok-add_record.ensures.added r.ensures.left r.new.set.tidy.0 (omega (arith, c.len-count.ensures, c.if-count.false)),
    )
