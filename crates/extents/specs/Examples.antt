-- The examples of 01 that speak of runs alone: what the plan is to answer, proved by one theorem.
use Rattle.std.specs.Prelude.{ℕ, zero, suc, ◌+◌, ◌*◌, ◌≡◌, refl, List, [], ◌∷◌}
use Rattle.config.specs.Pages.{count}
use Rattle.meta.specs.declared.ZeroExtent.{ZeroExtent}
use Rattle.meta.specs.Runs.{run}
use Rattle.runs.specs.Sets.{within, merge, insert, add, around}
use Rattle.extents.specs.Plan.{Answer, too_many, kept, additions, add_one, remain, plan}

-- n runs of one page each, a page apart, from page a on
abbrev pub single : ℕ → ℕ → List ZeroExtent
single a zero = []
single a (suc n) = run a (a + 1) ∷ single (a + 2) n

pub record Row : Type 0 where
  pub old : ℕ
  pub new : ℕ
  pub image : List ZeroExtent
  pub recorded : List ZeroExtent
  pub dirty : List ℕ
  pub answer : Answer

abbrev pub row : ℕ → ℕ → List ZeroExtent → List ZeroExtent → List ℕ → Answer → Row
row o n i r d a = record { old = o; new = n; image = i; recorded = r; dirty = d; answer = a }

abbrev pub table : List Row
table =
    -- "Fresh, 1 byte written at 16,384: size 16,385, record 0-2, dirty 1; runs after commit 0-1"
    row 0 16385 [] (run 0 2 ∷ []) (1 ∷ []) (kept (run 0 1 ∷ []))
    -- "Fresh, 1 byte at 0: no runs."
    ∷ row 0 1 [] (run 0 1 ∷ []) (0 ∷ []) (kept [])
    -- "From the first, cut to 16,384: runs 0-2."
    ∷ row 16385 16384 (run 0 1 ∷ []) (run 1 2 ∷ []) [] (kept (run 0 2 ∷ []))
    -- "Runs 1-2, 3-4, .. 2047-2048 (1,024 runs), size 2,049 pages: truncation to 2,050 pages is refused 31"
    ∷ row (2049 * 16384) (2050 * 16384) (single 1 1024) (run 2049 2050 ∷ []) [] too_many
    -- "a full page written there instead is accepted"
    ∷ row (2049 * 16384) (2050 * 16384) (single 1 1024) (run 2049 2050 ∷ []) (2049 ∷ []) (kept (single 1 1024))
    -- "1,024 runs, one being 1-4, page 2 written: 31."
    ∷ row (2060 * 16384) (2060 * 16384) (run 1 4 ∷ single 6 1023) [] (2 ∷ []) too_many
    ∷ []

-- each row's plan is its answer
abbrev pub Right : List Row → Type 0
Right [] = Unit {0}
Right (r ∷ rs) = (plan 16384 1024 r.old r.new r.image r.recorded r.dirty ≡ r.answer) × Right rs

pub examples : Right table
unfolding plan additions add_one remain count within merge insert add around
examples = (refl, (refl, (refl, (refl, (refl, (refl, tt))))))

-- what 01 calls tempting, and what lies past the end
abbrev pub temptations : List Row
temptations =
    -- the record 5-6, 6-8, 5-8 would merge with 8-9, but 5-6 alone is the 1,025th run
    row (5 * 16384) (5 * 16384) (run 8 9 ∷ single 20 1023) (run 5 6 ∷ run 6 8 ∷ run 5 8 ∷ []) [] too_many
    -- runs past the end stay, and so do their pages that are dirty
    ∷ row (2 * 16384) (2 * 16384) (run 5 7 ∷ []) [] (6 ∷ []) (kept (run 5 7 ∷ []))
    -- dirty pages past the end make no room
    ∷ row (2049 * 16384) (2050 * 16384) (single 1 1024) (run 2049 2050 ∷ []) (2050 ∷ []) too_many
    -- an empty entry is skipped
    ∷ row 0 0 [] (run 3 3 ∷ run 7 2 ∷ []) [] (kept [])
    ∷ []

pub tempted : Right temptations
unfolding plan additions add_one remain count within merge insert add around
tempted = (refl, (refl, (refl, (refl, tt))))
