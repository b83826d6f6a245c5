-- What the code's answers say, and what the lent buffers hold: the numbers that were read from the first place on, and behind them what was there.
use Rattle.std.specs.Prelude.{Option, Some, None, List, ℕ, ◌+◌, ◌*◌, length}
use Rattle.std.proofs.lemmas.List.Edits.{sets}
use Rattle.meta.specs.declared.ZeroExtent.{ZeroExtent}
use Rattle.meta.specs.Runs.{numbers_of}
use Rattle.decimal.specs.declared.read.Found.{Found}
use Rattle.decimal.specs.Text.{from}
use Rattle.plan_text.specs.declared.Parsed.{Parsed}
use Rattle.plan_text.specs.Parse.{Section, ended, broken, Reading}

-- ## Lines of one kind

-- how many lines, the text behind them, and the buffer; or a line was wrong
pub data Filled : Type 0 where
  filled : ℕ → List ℕ → List ℕ → Filled
  torn : List ℕ → Filled

abbrev pub lines_in : List ℕ → Option (Found ℕ) → List ℕ → Filled
lines_in t (Some lines) out = filled lines.value (from t lines.next) out
lines_in t None out = torn out

-- n lines are in the buffer already
abbrev pub fill_runs : ℕ → Section ZeroExtent → List ℕ → Filled
fill_runs n (ended xs r) out = filled (n + length xs) r (sets out (n * 2) (numbers_of xs))
fill_runs n (broken xs) out = torn (sets out (n * 2) (numbers_of xs))

abbrev pub fill_pages : ℕ → Section ℕ → List ℕ → Filled
fill_pages n (ended xs r) out = filled (n + length xs) r (sets out n xs)
fill_pages n (broken xs) out = torn (sets out n xs)

-- ## The whole text

pub record Outcome : Type 0 where
  pub parsed : Option Parsed
  pub extents : List ℕ
  pub records : List ℕ
  pub dirty : List ℕ

abbrev pub outcome : Option Parsed → List ℕ → List ℕ → List ℕ → Outcome
outcome p e r d = record { parsed = p; extents = e; records = r; dirty = d }

-- the buffers' first numbers are those that were read
unfoldable pub filled_by : Reading → List ℕ → List ℕ → List ℕ → Outcome
filled_by x e r d = outcome x.parsed (sets e 0 (numbers_of x.extents)) (sets r 0 (numbers_of x.records)) (sets d 0 x.dirty)
