use Rattle.std.proofs.Common.{ℕ, ◌≡◌, ◌∙◌, true, List, [], ◌∷◌, sym, ap}
use Rattle.std.proofs.lemmas.Result.{err_from_is_err_and}
use Rattle.meta.specs.declared.ZeroExtent.{ZeroExtent}
use Rattle.meta.specs.Runs.{normalized}
use Rattle.runs.specs.Flat.{runs_in}
use Rattle.runs.specs.SetLaws.{maximal_self}
use Rattle.extents.specs.Plan.{Answer, too_many, kept, add_one, add_each}
use Rattle.extents.specs.Steps.{norm}
use Rattle.extents.specs.PlanLaws.{each_norm, each_stopped, norm_stopped}
use Rattle.extents.proofs.add_record.Goals as goal

module _ (limit : ℕ) (left : List ZeroExtent) where
  -- the first of the runs that are left is added
  first_added : (x : ZeroExtent) (rest : List ZeroExtent) (a b : Answer) → left ≡ x ∷ rest → b ≡ norm (add_one limit x a) → norm (add_each limit rest b) ≡ norm (add_each limit left a)
  first_added x rest a b e g = rw (e, g) (sym (each_norm limit rest (add_one limit x a)))

  -- or it is refused
  first_not : (x : ZeroExtent) (rest : List ZeroExtent) (a b : Answer) → left ≡ x ∷ rest → add_one limit x a ≡ too_many → norm (add_each limit left a) ≡ norm b → b ≡ too_many
  first_not x rest a b e g h = norm_stopped b (sym (rw (e, g, each_stopped limit rest) at h))

  none_left : (s : List ZeroExtent) (b : Answer) → left ≡ [] → normalized s ≡ true → norm (add_each limit left (kept s)) ≡ b → kept s ≡ b
  none_left s b e f h = ap kept (sym (maximal_self s f)) ∙ rw e at h

pub loop-x-preserved : goal.loop-x-preserved
loop-x-preserved g c =
    let a = c.args in
    let i = c.loop-x in
    let s = i.set in
    let x = c.in-Some in
    let d = c.in_ok-add_within.ensures in
    let t = c.add_within.new.set in (
      (d.same.0 ∙ i.invariant.0.0, d.same.1 ∙ i.invariant.0.1),
      d.added.few,
      first_added a.limit _ x.x _ (kept (runs_in s.count s.work.now)) (kept (runs_in t.count t.work.now)) x.ensures.steps d.added.says ∙ i.invariant.2,
    )

pub returns-in_err-add_within-clause-added : goal.returns-in_err-add_within-clause-added
returns-in_err-add_within-clause-added g c =
    let a = c.args in
    let i = c.loop-x in
    let s = i.set in
    let x = c.in-Some in
    let d = c.in_err-add_within.ensures in
    let p = err_from_is_err_and c.from_residual.result c.from_residual.ensures.1 in
    rw p.1 (p.2 ∙ d.added.0, first_not a.limit _ x.x _ (kept (runs_in s.count s.work.now)) _ x.ensures.steps d.added.1 i.invariant.2)

pub returns-clause-added : goal.returns-clause-added
returns-clause-added g c =
    let a = c.args in
    let i = c.loop-x in
    let s = i.set in
    record {
      few = i.invariant.1;
      tidy = s.tidy.1;
      says = none_left a.limit _ (runs_in s.count s.work.now) _ c.in-None.ensures.steps.0 s.tidy.1 i.invariant.2;
    }
