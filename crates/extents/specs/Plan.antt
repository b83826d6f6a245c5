-- The zero runs that a commit leaves. 01, section "Commit". A set of pages is any list of runs that denotes it: to add
-- to it is to put a run in front, and its maximal runs are counted, whatever the list.
use Rattle.std.specs.Prelude.{ℕ, ◌+◌, Bool, true, false, List, [], ◌∷◌, ◌++◌, length, ltb, leb}
use Rattle.config.specs.Pages.{count}
use Rattle.meta.specs.declared.ZeroExtent.{ZeroExtent}
use Rattle.meta.specs.Runs.{run}
use Rattle.runs.specs.Sets.{maximal, without}

-- 31, or the set
pub data Answer : Type 0 where
  too_many : Answer
  kept : List ZeroExtent → Answer

abbrev pub pick : Bool → Answer → Answer → Answer
pick true a b = a
pick false a b = b

abbrev pub optional : Bool → ZeroExtent → List ZeroExtent
optional true x = x ∷ []
optional false x = []

abbrev pub keep_if : Bool → ℕ → List ℕ → List ℕ
keep_if true p ps = p ∷ ps
keep_if false p ps = ps

-- the pages below the final count
abbrev pub below : ℕ → List ℕ → List ℕ
below final [] = []
below final (p ∷ ps) = keep_if (ltb p final) p (below final ps)

-- "Add, in this order: pages from old to final count if the size rose; pages from final to old count if it fell; each recorded run."
unfoldable pub additions : ℕ → ℕ → ℕ → List ZeroExtent → List ZeroExtent
additions P old new recorded =
    optional (ltb old new) (run (count P old) (count P new))
    ++ (optional (ltb new old) (run (count P new) (count P old))
    ++ recorded)

-- "After each addition (an absent one is skipped) the set may have at most *limit* maximal runs."
unfoldable pub add_one : ℕ → ZeroExtent → Answer → Answer
add_one limit x too_many = too_many
add_one limit x (kept s) =
    pick (ltb x.start x.end)
    (pick (leb (length (maximal (x ∷ s))) limit) (kept (x ∷ s)) too_many)
    (kept s)

abbrev pub add_each : ℕ → List ZeroExtent → Answer → Answer
add_each limit [] s = s
add_each limit (x ∷ xs) s = add_each limit xs (add_one limit x s)

-- "Then remove the dirty pages below the final count"
abbrev pub remove_each : List ℕ → List ZeroExtent → List ZeroExtent
remove_each [] s = s
remove_each (p ∷ ps) s = remove_each ps (without p s)

-- "at most 1,024 runs may remain."
unfoldable pub remain : ℕ → List ℕ → Answer → Answer
remain top ps too_many = too_many
remain top ps (kept s) =
    let left = maximal (remove_each ps s) in
    pick (leb (length left) top) (kept left) too_many

-- "Work on the set of zero pages, starting from the image's runs. Let limit = 1,024 + the number of dirty pages below
-- the final count." Nothing removes the runs past that count: "Runs past the final count stay."
unfoldable pub plan : ℕ → ℕ → ℕ → ℕ → List ZeroExtent → List ZeroExtent → List ℕ → Answer
plan P top old new image recorded dirty =
    let final = count P new in
    let limit = top + length (below final dirty) in
    remain top (below final dirty) (add_each limit (additions P old new recorded) (kept image))
