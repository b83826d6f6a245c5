-- The runs that are left, with those gathered, have the maximal runs of all: a turn moves one run from the former to the latter.
use Rattle.std.proofs.Common.{◌≡◌, List, [], ◌∷◌, ◌++◌, true, length, drop, refl, sym, ap, ◌∙◌, arith, rules}
use Rattle.meta.specs.declared.ZeroExtent.{ZeroExtent}
use Rattle.meta.specs.Runs.{normalized}
use Rattle.runs.specs.Sets.{maximal}
use Rattle.runs.specs.SetLaws.{maximal_alike, maximal_self}
use Rattle.runs.specs.Flat.{runs_in}
use Rattle.runs.specs.FlatLaws.{none_normalized, add_count, held_runs, turned}
use Rattle.runs.specs.Lists.{none_gathered}
use Rattle.page_sets.proofs.RunSet.gather.Goals as goal

-- x is the first of the runs that are left
gathered : (x : ZeroExtent) (left rest m k : List ZeroExtent) → left ≡ x ∷ rest → k ≡ maximal (x ∷ m) → maximal (rest ++ k) ≡ maximal (left ++ m)
gathered x left rest m k e g = rw (e, g) (maximal_alike (rest ++ maximal (x ∷ m)) (x ∷ (rest ++ m)) (turned x rest m))

-- none are left
whole : (left k all : List ZeroExtent) → left ≡ [] → normalized k ≡ true → maximal (left ++ k) ≡ maximal all → k ≡ maximal all
whole left k all e f g = sym (maximal_self k f) ∙ rw e at g

pub of-set-requires : goal.of-set-requires
of-set-requires g c = (search rules, none_normalized c.args.work.now)

pub loop-x-init : goal.loop-x-init
loop-x-init g c =
    let l = g.L.RunList.runs c.args.list in
    let i = c.into_iter-x-iterator in
    let first : drop i.result.next (g.L.RunList.runs i.result.list) ≡ l = search rules in
    let o = c.of-set in
    ((refl, refl), omega (arith, ap length first, o.ensures.runs.0), rw (first, o.ensures.runs.0, o.ensures.runs.1) (none_gathered l c.args.work.now))

pub loop-x-preserved : goal.loop-x-preserved
loop-x-preserved g c =
    let i = c.loop-x in
    let s = i.set in
    let w = s.work.now in
    let x = c.in-Some in
    let d = c.add in
    let t = d.new.self in (
      (d.ensures.same.0 ∙ i.invariant.0.0, d.ensures.same.1 ∙ i.invariant.0.1),
      omega (arith, i.invariant.1, ap length x.ensures.steps, add_count w t.work.now s.count t.count s.tidy.0 s.tidy.1 x.x d.ensures.runs),
      gathered x.x _ _ (runs_in s.count w) (runs_in t.count t.work.now) x.ensures.steps (held_runs w t.work.now t.count (maximal (x.x ∷ runs_in s.count w)) d.ensures.runs) ∙ i.invariant.2,
    )

pub returns-clause-runs : goal.returns-clause-runs
returns-clause-runs g c =
    let i = c.loop-x in
    let s = i.set in
    (whole _ (runs_in s.count s.work.now) _ c.in-None.ensures.steps.0 s.tidy.1 i.invariant.2, omega (arith, i.invariant.1))
