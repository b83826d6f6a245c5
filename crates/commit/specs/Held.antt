-- What a commit is lent.
use Rattle.std.specs.Prelude.{ℕ, ◌*◌, ◌≤◌, List, length}
use Rattle.update.specs.declared.Overlay.{Overlay}
use Rattle.extents.specs.Outcome.{room}

-- each page of the numbers has its frame
abbrev pub Whole : List ℕ → List ℕ → Type 0
Whole numbers frames = length numbers * 16384 ≤ length frames

-- the frames, the numbers and the record hold the overlay, and the work list has room for its plan
abbrev pub Held : Overlay → List ℕ → List ℕ → List ℕ → List ℕ → Type 0
Held o frames numbers «record» work = (o.dirty ≤ length numbers) × (o.dirty * 16384 ≤ length frames) × (o.recorded * 2 ≤ length «record») × (room o.dirty ≤ length work)
