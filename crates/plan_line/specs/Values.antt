-- What stands on a line of zeroplan's texts, and what is asked of the values.
use Rattle.std.specs.Prelude.{Bool, true, false, ◌&&◌, ◌||◌, not, List, [], ◌∷◌, ◌++◌, ℕ, ltb, eqb}
use Prim.Native.Char.{code}
use Prim.Native.String.{String}
use Rattle.meta.specs.declared.ZeroExtent.{ZeroExtent}
use Rattle.decimal.specs.Decimal.{decimal}

-- the bytes of a text in ASCII
abbrev pub ascii : String → List ℕ
ascii String.[] = []
ascii (String.◌∷◌ c s) = code c ∷ ascii s

-- a number as a value, and a run: `start-end`; each with the line feed that ends its line
unfoldable pub number_value : ℕ → List ℕ
number_value n = decimal n ++ ascii "\n"

unfoldable pub run_value : ZeroExtent → List ℕ
run_value x = decimal x.start ++ (ascii "-" ++ (decimal x.end ++ ascii "\n"))

-- a line for each
abbrev pub lines : {A : Type 0} → List ℕ → (A → List ℕ) → List A → List ℕ
lines key value [] = []
lines key value (x ∷ l) = key ++ (value x ++ lines key value l)

-- no run is empty
unfoldable pub non_empty : List ZeroExtent → Bool
non_empty [] = true
non_empty (x ∷ l) = ltb x.start x.end && non_empty l

unfoldable pub member : ℕ → List ℕ → Bool
member n [] = false
member n (x ∷ l) = eqb x n || member n l

-- no number twice
unfoldable pub distinct : List ℕ → Bool
distinct [] = true
distinct (n ∷ l) = not (member n l) && distinct l
