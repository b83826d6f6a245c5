-- `plan_text::read_lines` meets its contract. The loop's invariant: the lines from here on, into the buffer as it is, make what all lines make of the buffer at the start.
use Rattle.std.proofs.Common.{◌≡◌, ℕ, sym, ap, ◌∙◌, ◌<◌, ◌+◌, ◌-◌, ◌*◌, ◌/◌, length, arith}
use Rattle.decimal.specs.Text.{from}
use Rattle.plan_text.specs.Entries.{line_fits, lines_end, lines_full, lines_bad, lines_go}
use Rattle.plan_text.proofs.section.read_lines.Goals as goal

pub returns-in_default : goal.returns-in_default
returns-in_default g c =
    let e = g.E.Entry in
    let l = c.loop-count in
    lines_end e.WIDTH e.numbers e.reading g.met.E.Entry.none c.args.key.now (from c.args.text.now l.here) l.out l.count _ (sym c.in_default.ensures) ∙ l.invariant

pub returns-in_err-entry : goal.returns-in_err-entry
returns-in_err-entry g c =
    let e = g.E.Entry in
    let l = c.loop-count in
    rw c.from_residual.ensures
    (lines_bad e.WIDTH e.numbers e.reading g.met.E.Entry.none c.args.key.now (from c.args.text.now l.here) l.out l.count _ _ _ (sym c.in-Some.ensures) (sym c.in_err-entry.ensures) ∙ l.invariant)

pub loop-count-preserved : goal.loop-count-preserved
loop-count-preserved g c =
    let e = g.E.Entry in
    let l = c.loop-count in
    let w = c.WIDTH-in-loop-count.ensures in
    let v = c.WIDTH-in-loop-count-2.ensures in
    let k : ℕ = length c.args.out.now / e.WIDTH in
    let a : l.count * c.WIDTH-in-loop-count.result ≡ l.count * e.WIDTH = ap (λ (x : ℕ). l.count * x) w in
    let lt : l.count < k = rw (sym c.WIDTH.ensures) c.loop-count-test.true in
    lines_go e.WIDTH e.numbers e.reading g.met.E.Entry.more g.met.E.Entry.width c.args.key.now (from c.args.text.now l.here) l.out l.count (k - l.count) (k - (l.count + 1)) _ _ _ _ _ _ _
    (omega arith) (sym c.in-Some.ensures) (sym c.in_ok-entry.ensures) a (omega (arith, line_fits l.count e.WIDTH (length c.args.out.now) g.met.E.Entry.wide lt)) (omega arith) c.put.ensures ∙ l.invariant

pub returns-in-Some-skip : goal.returns-in-Some-skip
returns-in-Some-skip g c =
    let e = g.E.Entry in
    let l = c.loop-count in
    lines_full e.WIDTH e.numbers e.reading g.met.E.Entry.none c.args.key.now (from c.args.text.now l.here) l.out l.count _ _ _ (sym c.in-Some-skip.ensures) (omega (arith, ap (λ (x : ℕ). length c.args.out.now / x) c.WIDTH.ensures)) ∙ l.invariant

pub returns-in-None : goal.returns-in-None
returns-in-None g c =
    let e = g.E.Entry in
    let l = c.loop-count in
    let k : length c.args.out.now / c.WIDTH.result ≡ l.count = omega arith in
    rw k (lines_end e.WIDTH e.numbers e.reading g.met.E.Entry.none c.args.key.now (from c.args.text.now l.here) l.out l.count _ (sym c.in-None.ensures) ∙ l.invariant)
