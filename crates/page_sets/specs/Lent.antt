-- What a call on a set keeps of the list that was lent.
use Rattle.std.specs.Prelude.{ℕ, ◌≡◌, List, length}
use Rattle.std.specs.Borrow.{MutBor}

-- it is the same list, with other numbers in it
abbrev pub IsSameList : MutBor (List ℕ) → MutBor (List ℕ) → Type 0
IsSameList old new = (new.ghost_name ≡ old.ghost_name) × (length new.now ≡ length old.now)
