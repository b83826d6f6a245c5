-- `overlay_of` meets its contract.
use Rattle.std.proofs.Common.{◌≡◌, ◌≤◌, ◌<◌, ◌∷◌, [], ℕ, List, length, take, drop, get_or, refl, arith, ◌∙◌}
use Rattle.std.proofs.Math.Seq.{drop-cons}
use Rattle.encoding.specs.StateBytes.{overlay_of}
use Rattle.encoding.proofs.overlay_numbers.overlay_of.Goals as goal

-- the eight pages of the cache, one by one
pages_in : (n : List ℕ) → 19 ≤ length n
    → take 8 (drop 5 n) ≡ get_or n 5 0 ∷ get_or n 6 0 ∷ get_or n 7 0 ∷ get_or n 8 0 ∷ get_or n 9 0 ∷ get_or n 10 0 ∷ get_or n 11 0 ∷ get_or n 12 0 ∷ []
pages_in n h =
    let has : (k : ℕ) → k < 19 → k < length n = λ k b. omega (arith, h, b) in
    rw (
      drop-cons n 5 0 (has 5 (omega arith)),
      drop-cons n 6 0 (has 6 (omega arith)),
      drop-cons n 7 0 (has 7 (omega arith)),
      drop-cons n 8 0 (has 8 (omega arith)),
      drop-cons n 9 0 (has 9 (omega arith)),
      drop-cons n 10 0 (has 10 (omega arith)),
      drop-cons n 11 0 (has 11 (omega arith)),
      drop-cons n 12 0 (has 12 (omega arith)),
    ) refl

pub returns : goal.returns
unfolding overlay_of
returns c = rw (c.copy_from_slice.ensures.after ∙ pages_in c.args.n.now c.requires) refl
