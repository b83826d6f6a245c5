-- What the code's answers say: a value, and the text from the place behind it.
use Rattle.std.specs.Prelude.{List, ℕ, Option, Some, None}
use Rattle.decimal.specs.declared.read.Found.{Found}
use Rattle.decimal.specs.Text.{Got, got, wrong, from}

abbrev pub place_in : List ℕ → Option ℕ → Got (Unit {0})
place_in t (Some next) = got tt (from t next)
place_in t None = wrong

abbrev pub found_in : {A : Type 0} → List ℕ → Option (Found A) → Got A
found_in t (Some f) = got f.value (from t f.next)
found_in t None = wrong

abbrev pub numeral_in : List ℕ → Option (Found ℕ) → Got ℕ
numeral_in = found_in
