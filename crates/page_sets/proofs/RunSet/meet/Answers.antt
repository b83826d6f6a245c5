-- The run so far takes up, of the runs from `next` on, what x takes up of those from i on.
use Rattle.std.proofs.Common.{◌≡◌, ◌∙◌, arith, rules}
use Rattle.runs.specs.FlatLaws.{meet_step, meet_here, meet_last}
use Rattle.page_sets.proofs.RunSet.meet.Goals as goal

pub returns-then-run-y : goal.returns-then-run-y
returns-then-run-y c =
    let s = c.args.self.now in
    let l = c.loop-next in
    (l.auto.next, l.invariant.0, l.invariant.1 ∙ meet_here s.work.now l.next s.count l.run c.get-y.result c.loop-next-test.true c.get-y.ensures c.if-run-y.true)

pub loop-next-preserved : goal.loop-next-preserved
loop-next-preserved c =
    let s = c.args.self.now in
    let l = c.loop-next in
    (search rules, l.invariant.1 ∙ meet_step s.work.now l.next s.count l.run c.get-y.result c.loop-next-test.true c.get-y.ensures c.if-run-y.false ∙ rw (c.min.ensures, c.max.ensures))

pub returns : goal.returns
returns c =
    let s = c.args.self.now in
    let l = c.loop-next in
    let same : l.next ≡ s.count = omega arith in
    (omega (arith, c.requires), omega arith, rw same at (l.invariant.1 ∙ meet_last s.work.now l.next s.count l.run (omega arith)))
