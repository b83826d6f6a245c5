-- Sets of pages. A list of runs denotes a set; the normalized list of that set is its maximal runs.
use Rattle.std.specs.Prelude.{ℕ, ◌+◌, min, max, Bool, true, false, ◌&&◌, ◌||◌, List, [], ◌∷◌, ◌++◌, ltb, leb}
use Rattle.meta.specs.declared.ZeroExtent.{ZeroExtent}
use Rattle.meta.specs.Runs.{run}

-- page p lies in the run x, whose end is excluded
unfoldable pub within : ZeroExtent → ℕ → Bool
within x p = leb x.start p && ltb p x.end

-- page p is in the set that a list of runs denotes: any list, unsorted, with overlaps, with empty runs
abbrev pub covers : List ZeroExtent → ℕ → Bool
covers [] p = false
covers (x ∷ l) p = within x p || covers l p

-- ## Maximal runs

abbrev pub pick : Bool → List ZeroExtent → List ZeroExtent → List ZeroExtent
pick true a b = a
pick false a b = b

-- the one run of the pages of two that overlap or touch
abbrev pub join : ZeroExtent → ZeroExtent → ZeroExtent
join r x = run (min r.start x.start) (max r.end x.end)

-- the run r in front of runs of which none ends before it starts: it takes up those that it meets
unfoldable pub merge : ZeroExtent → List ZeroExtent → List ZeroExtent
merge r [] = r ∷ []
merge r (x ∷ l) = let met = merge (join r x) l in pick (ltb r.end x.start) (r ∷ x ∷ l) met

-- the run r among normalized runs: behind those that end before it starts
unfoldable pub insert : ZeroExtent → List ZeroExtent → List ZeroExtent
unfolding merge
insert r [] = r ∷ []
insert r (x ∷ l) =
    let later = x ∷ insert r l in
    let here = merge r (x ∷ l) in
    pick (ltb x.end r.start) later here

-- an empty run adds nothing
unfoldable pub add : ZeroExtent → List ZeroExtent → List ZeroExtent
unfolding insert
add r l = let more = insert r l in pick (ltb r.start r.end) more l

-- 01: "The normalized list of a set of pages is its maximal runs; touching runs are one." Of the set that any list denotes
abbrev pub maximal : List ZeroExtent → List ZeroExtent
maximal [] = []
maximal (x ∷ l) = add x (maximal l)

-- ## All pages but one

-- what is left of the run x without the page p: itself, or the pages before p and those after it
unfoldable pub around : ℕ → ZeroExtent → List ZeroExtent
around p x = pick (within x p) (run x.start p ∷ run (p + 1) x.end ∷ []) (x ∷ [])

abbrev pub without : ℕ → List ZeroExtent → List ZeroExtent
without p [] = []
without p (x ∷ l) = around p x ++ without p l

-- ## One page out of normalized runs

-- the run from a to b in front, where it is not empty
unfoldable pub piece : ℕ → ℕ → List ZeroExtent → List ZeroExtent
piece a b l = pick (ltb a b) (run a b ∷ l) l

unfoldable pub remove : ℕ → List ZeroExtent → List ZeroExtent
remove p [] = []
remove p (x ∷ l) =
    let later = x ∷ remove p l in
    let here = piece x.start p (piece (p + 1) x.end l) in
    pick (ltb p x.end) (pick (ltb p x.start) (x ∷ l) here) later
