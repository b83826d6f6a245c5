use Rattle.std.proofs.Common.{◌≡◌, ◌*◌, length, take, arith, rules}
use Rattle.meta.specs.Runs.{runs_of}
use Rattle.runs.specs.Flat.{padded}
use Rattle.runs.specs.Sets.{maximal}
use Rattle.runs.specs.SetLaws.{maximal-length}
use Rattle.runs.specs.FlatLaws.{laid_count, laid_held}
use Rattle.extents.specs.PlanLaws.{ends, plan_image}
use Rattle.extents.proofs.plan.Goals as goal

pub settle-answer-requires : goal.settle-answer-requires
settle-answer-requires g c =
    let l = g.L.RunList.runs c.args.image in
    let d = c.copy-set in
    record {
      few = omega (arith, laid_count _ d.result.count d.result.work.now (maximal l) d.ensures.runs, maximal-length l, c.requires.0);
      room = omega (arith, c.requires.1, d.ensures.same.1);
      tidy = d.result.tidy.1;
    }

pub returns : goal.returns
returns g c =
    let a = c.args in
    let l = g.L.RunList.runs a.image in
    let d = c.copy-set in
    let s = c.settle-answer in
    let t = s.new.set in
    let k : length t.work.now ≡ length a.work.now = omega (arith, d.ensures.same.1, s.ensures.same.1) in
    let cleared : c.clear.new.work ≡ padded (length t.work.now) (take (c.unwrap_or-used.result * 2) t.work.now) = search rules in
    rw (
      cleared,
      c.unwrap_or-used.ensures,
      ends (length t.work.now) s.result t.work.now _ s.ensures.plan,
      k,
      laid_held (length a.work.now) d.result.count d.result.work.now (maximal l) d.ensures.runs,
      plan_image 16384 1024 a.change.old_size a.change.new_size l (runs_of a.change.recorded.now) a.change.dirty.now,
    )
