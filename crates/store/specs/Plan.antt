-- The commit's plan as the code walks it, on normalized runs: one addition at a time, tested after each, then one page out at a time. That it is
-- 01's plan on the set of zero pages is a law.
use Rattle.std.specs.Prelude.{ℕ, ◌+◌, ◌*◌, max, List, [], ◌∷◌, length, ltb, leb}
use Rattle.config.specs.Pages.{count}
use Rattle.meta.specs.declared.ZeroExtent.{ZeroExtent}
use Rattle.runs.specs.Sets.{maximal, add, remove}
use Rattle.extents.specs.Plan.{Answer, too_many, kept, pick, below, additions}

-- a run that is present is added, and the limit tested
abbrev pub step_add : ℕ → ZeroExtent → Answer → Answer
step_add limit x too_many = too_many
step_add limit x (kept l) =
    let new : List ZeroExtent = add x l in
    let tested : Answer = pick (leb (length new) limit) (kept new) too_many in
    pick (ltb x.start x.end) tested (kept l)

abbrev pub step_adds : ℕ → List ZeroExtent → Answer → Answer
step_adds limit [] a = a
step_adds limit (x ∷ xs) a = step_adds limit xs (step_add limit x a)

abbrev pub step_removes : List ℕ → List ZeroExtent → List ZeroExtent
step_removes [] l = l
step_removes (p ∷ ps) l = step_removes ps (remove p l)

abbrev pub step_remain : ℕ → List ℕ → Answer → Answer
step_remain top ps too_many = too_many
step_remain top ps (kept l) =
    let rest : List ZeroExtent = step_removes ps l in
    pick (leb (length rest) top) (kept rest) too_many

-- page size, most runs, old and new size, the image's runs, which need not be normalized, the record, the dirty pages
unfoldable pub store_plan : ℕ → ℕ → ℕ → ℕ → List ZeroExtent → List ZeroExtent → List ℕ → Answer
store_plan P top old new image recorded dirty =
    let ps : List ℕ = below (count P new) dirty in
    let limit : ℕ = top + length ps in
    step_remain top ps (step_adds limit recorded (step_adds limit (additions P old new []) (kept (maximal image))))

-- 01: "base + size, and base + (page + 1) × 16,384 for each of those dirty pages": the largest of them
abbrev pub required : ℕ → ℕ → List ℕ → ℕ → ℕ
required P base [] end = end
required P base (n ∷ ns) end = max (base + (n + 1) * P) (required P base ns end)
