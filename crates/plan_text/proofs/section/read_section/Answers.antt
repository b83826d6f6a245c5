-- `plan_text::read_section` meets its contract: the buffer's first numbers are those of the lines that were read.
use Rattle.std.proofs.Common.{refl, true, false, ℕ, List, ◌*◌, ◌≤◌, length, take, sym, ap, ◌∙◌, subst, arith}
use lib.Seq.{length-take-le}
use Rattle.std.specs.Fn.{FnReturnsAt}
use Rattle.std.proofs.lemmas.Fn.{says_at}
use Rattle.decimal.specs.Text.{from}
use Rattle.plan_text.specs.Entries.{lines_used, lines_passed, lines_failed}
use Rattle.plan_text.proofs.section.read_section.Given.{Over}
use Rattle.plan_text.proofs.section.read_section.Goals as goal
use Rattle.plan_text.proofs.section.read_section.Goals.{In_ok-lines}

-- the numbers of the lines lie in the buffer
used : (g : Over) (c : In_ok-lines g) → c.in_ok-lines.lines.value * g.E.Entry.WIDTH ≤ length c.args.out.now
used g c =
    let e = g.E.Entry in
    let m = g.met.E.Entry in
    lines_used e.WIDTH e.numbers e.reading m.wide m.none m.more m.width c.args.key.now (from c.args.text.now c.args.at) c.args.out.now _ _ _ c.in_ok-lines.ensures

pub overflow_mul-used : goal.overflow_mul-used
overflow_mul-used g c = omega (arith, used g (goal.at.overflow_mul-used g c).In_ok-lines, ap (λ (x : ℕ). c.in_ok-lines.lines.value * x) c.WIDTH.ensures)

pub slice_bounds-test-end : goal.slice_bounds-test-end
slice_bounds-test-end g c = omega (arith, used g (goal.at.slice_bounds-test-end g c).In_ok-lines, ap (λ (x : ℕ). c.in_ok-lines.lines.value * x) c.WIDTH.ensures)

pub slice_bounds-test-end-2 : goal.slice_bounds-test-end-2
slice_bounds-test-end-2 g c = sym (length-take-le _ _ (omega (arith, used g (goal.at.slice_bounds-test-end-2 g c).In_ok-lines, ap (λ (x : ℕ). c.in_ok-lines.lines.value * x) c.WIDTH.ensures)))

pub returns-then-not-test : goal.returns-then-not-test
returns-then-not-test g c ok says =
    let e = g.E.Entry in
    let m = g.met.E.Entry in
    let w = ap (λ (x : ℕ). take (c.in_ok-lines.lines.value * x) c.read_lines.new.out) c.WIDTH.ensures in
    lines_failed e.WIDTH e.numbers e.reading m.wide m.none m.more m.width c.args.key.now (from c.args.text.now c.args.at) c.args.out.now _ _ _ c.in_ok-lines.ensures ok false
    (λ xs z. says xs false (subst (λ (l : List ℕ). FnReturnsAt g.F.Fn c.args.test l false) (w ∙ z) (says_at g.F.Fn c.if-not-test.ensures refl))) refl

pub returns : goal.returns
returns g c ok says =
    let e = g.E.Entry in
    let m = g.met.E.Entry in
    let w = ap (λ (x : ℕ). take (c.in_ok-lines.lines.value * x) c.read_lines.new.out) c.WIDTH.ensures in
    lines_passed e.WIDTH e.numbers e.reading m.wide m.none m.more m.width c.args.key.now (from c.args.text.now c.args.at) c.args.out.now _ _ _ c.in_ok-lines.ensures ok true
    (λ xs z. says xs true (subst (λ (l : List ℕ). FnReturnsAt g.F.Fn c.args.test l true) (w ∙ z) (says_at g.F.Fn c.if-not-test.ensures refl))) refl
