-- The text that zeroplan reads.
use Rattle.std.specs.Prelude.{◌≡◌, true, List, [], ◌∷◌, ◌++◌, ◌⊎◌, ℕ, ◌≤◌, ◌<◌, length}
use Rattle.meta.specs.declared.ZeroExtent.{ZeroExtent}
use Rattle.meta.specs.Runs.{normalized}
use Rattle.plan_line.specs.Values.{ascii, number_value, run_value, lines, non_empty, distinct}

-- ## What an input says

-- 01: "reads key=value lines in this order: `old_size`, `new_size`, any `extent` (the image's runs), `record`, `dirty`"
pub record Input : Type 0 where
  pub old : ℕ
  pub new : ℕ
  pub extents : List ZeroExtent
  pub records : List ZeroExtent
  pub dirty : List ℕ

-- the whole text, in order
unfoldable pub spell : Input → List ℕ
spell i =
    ascii "old_size=" ++ (number_value i.old
    ++ (ascii "new_size=" ++ (number_value i.new
    ++ (lines (ascii "extent=") run_value i.extents
    ++ (lines (ascii "record=") run_value i.records
    ++ lines (ascii "dirty=") number_value i.dirty)))))

-- ## What is allowed

-- a number of 64 bits
abbrev pub Fits : ℕ → Type 0
Fits n = n < 18446744073709551616

abbrev pub RunFits : ZeroExtent → Type 0
RunFits x = Fits x.start × Fits x.end

abbrev pub All : {A : Type 0} → (A → Type 0) → List A → Type 0
All P [] = Unit
All P (x ∷ l) = P x × All P l

-- 01: "1,024 of each at most"; "runs not normalized, an empty record or a repeated dirty page are malformed"
pub record Valid (i : Input) : Type 0 where
  pub old_fits : Fits i.old
  pub new_fits : Fits i.new
  pub extents_fit : All RunFits i.extents
  pub records_fit : All RunFits i.records
  pub dirty_fit : All Fits i.dirty
  pub extents_count : length i.extents ≤ 1024
  pub records_count : length i.records ≤ 1024
  pub dirty_count : length i.dirty ≤ 1024
  pub extents_normalized : normalized i.extents ≡ true
  pub records-non_empty : non_empty i.records ≡ true
  pub dirty_distinct : distinct i.dirty ≡ true

-- 01: "65,536 bytes in all". The last line may lack its line feed.
pub record WellFormed (t : List ℕ) (i : Input) : Type 0 where
  pub valid : Valid i
  pub size : length t ≤ 65536
  pub text : (t ≡ spell i) ⊎ (t ++ ascii "\n" ≡ spell i)
