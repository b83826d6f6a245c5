-- `memory::grow` meets its contract, by the three laws of `grow_to`.
use Rattle.std.proofs.Common.{◌≡◌, ◌-◌, ◌*◌, ◌/◌, ◌≤◌, ◌<◌, length, arith, sym}
use Rattle.std.proofs.lemmas.Bool.Decides.{nat_tests}
use Rattle.memory.specs.Laws.{part_filled}
use Rattle.memory.specs.Growth.{grow_none, grow_more, grow_refused}
use Rattle.memory.proofs.grow.Goals as goal

pub returns-then-le : goal.returns-then-le
returns-then-le c = let s = c.args in
    let h : c.stable_pages_for-required.result.0 ≤ s.count.0 = grind (arith, nat_tests) in
    sym (grow_none 65536 (omega arith) s.count.0 s.end s.mem.now (omega (arith, c.stable_pages_for-required.ensures)))

pub returns-then-lt : goal.returns-then-lt
returns-then-lt c = let s = c.args in
    let q = c.stable_pages_for-required in
    let h : s.count.0 < q.result.0 = grind (arith, nat_tests) in
    let full : length s.mem.now / 65536 < q.result.0 = grind (arith, nat_tests) in
    sym (grow_refused 65536 (omega arith) s.count.0 s.end s.mem.now q.result.0 q.ensures h full)

pub returns : goal.returns
returns c = let s = c.args in
    let q = c.stable_pages_for-required in
    let n = s.count.0 in
    let h : n < q.result.0 = grind (arith, nat_tests) in
    let fits : q.result.0 ≤ length s.mem.now / 65536 = grind (arith, nat_tests) in
    let e : q.result.0 * 65536 - n * 65536 ≡ (q.result.0 - n) * 65536 = omega arith in
    rw (c.fill.ensures, e, part_filled (n * 65536) ((q.result.0 - n) * 65536) s.mem.now (omega arith))
    (sym (grow_more 65536 (omega arith) n s.end s.mem.now q.result.0 q.ensures h fits))
