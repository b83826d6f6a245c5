-- What a line says, computed from its front: the definition that the readers are proved against.
use Rattle.std.specs.Prelude.{List, ℕ, Option}
use Rattle.meta.specs.declared.ZeroExtent.{ZeroExtent}
use Rattle.meta.specs.Runs.{run}
use Rattle.decimal.specs.Text.{Got, got, then, skip, number}
use Rattle.decimal.specs.declared.read.Found.{Found}
use Rattle.decimal.specs.Places.{found_in}
use Rattle.plan_line.specs.Values.{ascii}

unfoldable pub read_number : List ℕ → Got ℕ
read_number l = then (number l) (λ n m. then (skip (ascii "\n") m) (λ _ r. got n r))

unfoldable pub read_run : List ℕ → Got ZeroExtent
read_run l = then (number l) (λ a m. then (skip (ascii "-") m) (λ _ n. then (read_number n) (λ b r. got (run a b) r)))

unfoldable pub read_field : List ℕ → List ℕ → Got ℕ
read_field key l = then (skip key l) (λ _ m. read_number m)

-- what the code answers
abbrev pub line_in : List ℕ → Option (Found ZeroExtent) → Got ZeroExtent
line_in = found_in
