-- The runs gathered, and zeros behind them: a law over plain values.
use Rattle.std.proofs.Common.{ℕ, List, ◌≡◌, ◌*◌, true, length, take, arith, rules}
use Rattle.meta.specs.declared.ZeroExtent.{ZeroExtent}
use Rattle.meta.specs.Runs.{normalized}
use Rattle.runs.specs.Sets.{maximal}
use Rattle.runs.specs.SetLaws.{maximal_normalized}
use Rattle.runs.specs.Flat.{runs_in, out, laid, padded}
use Rattle.runs.specs.FlatLaws.{laid_copied, laid_held}
use Rattle.page_sets.proofs.RunSet.copy.Goals as goal

laid_tidy : (n r : ℕ) (w : List ℕ) (l : List ZeroExtent) → out w r ≡ laid n (maximal l) → normalized (runs_in r w) ≡ true
laid_tidy n r w l e = rw (laid_held n r w (maximal l) e) (maximal_normalized l)

pub returns-clause-runs : goal.returns-clause-runs
returns-clause-runs g c =
    let l = g.L.RunList.runs c.args.list in
    let d = c.gather-count in
    let cleared : c.clear.new.work ≡ padded (length d.result.work.now) (take (d.result.count * 2) d.result.work.now) = search rules in
    let o = c.of in
    rw (o.ensures.runs.0, o.ensures.runs.1) (laid_copied c.args.work.now d.result.work.now _ d.result.count (length l) (maximal l) d.ensures.same.1 c.requires d.ensures.runs.1 d.ensures.runs.0 cleared)

pub of-requires : goal.of-requires
of-requires g c =
    let l = g.L.RunList.runs c.args.list in
    let d = c.gather-count in
    let cleared : c.clear.new.work ≡ padded (length d.result.work.now) (take (d.result.count * 2) d.result.work.now) = search rules in
    let same : length c.clear.new.work ≡ length d.result.work.now = search rules in
    (omega (arith, same, d.result.tidy.0), laid_tidy _ d.result.count c.clear.new.work l (laid_copied c.args.work.now d.result.work.now _ d.result.count (length l) (maximal l) d.ensures.same.1 c.requires d.ensures.runs.1 d.ensures.runs.0 cleared))
