-- `memory::fill_at` meets its contract: a part is filled, as much of it as lies in the slice.
use mathlib.Core.Path.{◌≡◌, sym, ◌∙◌}
use Prim.Native.Nat.{◌+◌, ◌-◌}
use native.Mathlib.Omega.{arith}
use Rattle.memory.specs.Laws.{overwrite_out, overwrite_few, part_filled}
use Rattle.memory.proofs.part.fill_at.Goals as goal

pub returns-then-dst-at : goal.returns-then-dst-at
returns-then-dst-at c = sym (overwrite_out _ _ _ c.if-dst-at.true)

pub returns : goal.returns
returns c = let s = c.args in
    let k = c.min.result in
    let e : s.at + k - s.at ≡ k = omega arith in
    rw (c.fill.ensures, e)
    (part_filled s.at k s.dst.now (omega (arith, c.min.ensures))
    ∙ overwrite_few s.at k s.n s.dst.now c.min.ensures)
