-- The plan as the code walks it: what its steps start from and what they leave in the work list.
use Rattle.std.specs.Prelude.{ℕ, ◌+◌, ◌*◌, ◌≤◌, ◌≡◌, true, List, length, Result, Ok, Err}
use Rattle.config.specs.declared.refusal.Refusal.{Refusal}
use Rattle.config.specs.declared.refusal.Refusal.TheVariants.{ZeroExtentLimitExceeded}
use Rattle.meta.specs.declared.ZeroExtent.{ZeroExtent}
use Rattle.meta.specs.Runs.{normalized}
use Rattle.runs.specs.Sets.{maximal}
use Rattle.runs.specs.Flat.{runs_in}
use Rattle.extents.specs.Plan.{Answer, too_many, kept}
use Rattle.extents.specs.Outcome.{Planned}

-- the set by its maximal runs
abbrev pub norm : Answer → Answer
norm too_many = too_many
norm (kept s) = kept (maximal s)

-- the list w holds r normalized runs, at most the limit, and has room for one more than the limit
pub record Within (limit r : ℕ) (w : List ℕ) : Type 0 where
  pub few : r ≤ limit
  pub room : limit * 2 + 2 ≤ length w
  pub tidy : normalized (runs_in r w) ≡ true

-- r normalized runs, at most the limit, which are the maximal runs of the set a
pub record IsKept (limit r : ℕ) (w : List ℕ) (a : Answer) : Type 0 where
  pub few : r ≤ limit
  pub tidy : normalized (runs_in r w) ≡ true
  pub says : kept (runs_in r w) ≡ norm a

-- what a step answers that leaves r runs in front of the list w: the set a is kept in it, or 31
abbrev pub Stepped : ℕ → Result (Unit {0}) Refusal → ℕ → List ℕ → Answer → Type 0
Stepped limit (Ok u) r w a = IsKept limit r w a
Stepped limit (Err e) r w a = (e ≡ ZeroExtentLimitExceeded) × (a ≡ too_many)

-- what all steps answer that leave the list w: how many runs in front of it are kept, or 31
abbrev pub Settled : Planned → List ℕ → Answer → Type 0
Settled (Ok r) w a = (r * 2 ≤ length w) × (a ≡ kept (runs_in r w))
Settled (Err e) w a = (e ≡ ZeroExtentLimitExceeded) × (a ≡ too_many)

-- r normalized runs, at most n, which are the maximal runs of the set s
pub record Left (n r : ℕ) (w : List ℕ) (s : List ZeroExtent) : Type 0 where
  pub most : r ≤ n
  pub tidy : normalized (runs_in r w) ≡ true
  pub says : runs_in r w ≡ maximal s
