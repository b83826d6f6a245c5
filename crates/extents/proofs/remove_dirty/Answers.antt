use Rattle.std.proofs.Common.{◌+◌, ◌∷◌, [], get_or, refl, sym, ◌∙◌, arith}
use Rattle.runs.specs.Flat.{runs_in}
use Rattle.page_sets.specs.Lent.{IsSameList}
use Rattle.extents.specs.Plan.{below, remove_each}
use Rattle.extents.specs.Steps.{Left}
use Rattle.extents.specs.PlanLaws.{page_past, page_out, page_removed, all_removed}
use Rattle.extents.proofs.remove_dirty.Goals as goal
use Rattle.extents.proofs.remove_dirty.Goals.{then-page-end, else-page-end}

pub loop-page-preserved : goal.loop-page-preserved
loop-page-preserved c =
    let a = c.args in
    let i = c.loop-page in
    let s = i.set in
    let p = get_or a.dirty.now i.page-index 0 in
    let d = c.if-page-end in
    let t = d.set in
    let same : IsSameList s.work t.work = elim d.branch [
      | then-page-end w ↦ rw w.set-is w.remove.ensures.same
      | else-page-end w ↦ rw w.set-is (refl, refl)
    ] in
    let left : Left (s.count + 1) t.count t.work.now (remove_each (below a.end (p ∷ [])) (runs_in s.count s.work.now)) = elim d.branch [
      | then-page-end w ↦ rw w.set-is (page_out a.end p s.count w.remove.new.self.count s.work.now w.remove.new.self.work.now w.if-page-end.true s.tidy.0 s.tidy.1 w.remove.ensures.runs)
      | else-page-end w ↦ rw w.set-is (page_past a.end p s.count s.work.now w.if-page-end.false s.tidy.1)
    ] in (
      omega arith,
      (same.0 ∙ i.invariant.1.0, same.1 ∙ i.invariant.1.1),
      omega (arith, left.most),
      page_removed a.end a.dirty.now i.page-index (runs_in s.count s.work.now) (runs_in t.count t.work.now) c.loop-page-test.true left.says ∙ i.invariant.3,
    )

pub returns-clause-left : goal.returns-clause-left
returns-clause-left c =
    let a = c.args in
    let i = c.loop-page in
    let s = i.set in
    record {
      most = omega arith;
      tidy = s.tidy.1;
      says = sym (all_removed a.end a.dirty.now i.page-index (runs_in s.count s.work.now) c.loop-page-test.false s.tidy.1) ∙ i.invariant.3;
    }
