-- What the plan starts from and answers, and what the work list holds then.
use Rattle.std.specs.Prelude.{ℕ, ◌+◌, ◌*◌, ◌≤◌, ◌≡◌, true, List, [], length, Result, Ok, Err}
use Rattle.config.specs.declared.refusal.Refusal.{Refusal}
use Rattle.config.specs.declared.refusal.Refusal.TheVariants.{ZeroExtentLimitExceeded}
use Rattle.meta.specs.Runs.{numbers_of, normalized}
use Rattle.runs.specs.Flat.{runs_in, padded}
use Rattle.extents.specs.Plan.{Answer, too_many, kept}

-- how many runs the image has then, which stand in front of the work list; or 31
abbrev pub Planned : Type 0
Planned = Result ℕ Refusal

pub record Outcome : Type 0 where
  pub answer : Planned
  pub work : List ℕ

abbrev pub outcome : Planned → List ℕ → Outcome
outcome r w = record { answer = r; work = w }

-- a list of n numbers: the runs, and zeros in its unused part; or 31, "too many zero runs", and all of it zeros
unfoldable pub planned : ℕ → Answer → Outcome
planned n too_many = outcome (Err ZeroExtentLimitExceeded) (padded n [])
planned n (kept l) = outcome (Ok (length l)) (padded n (numbers_of l))

-- the numbers of a work list with room for n dirty pages: 35 is "the work list under 1,025 + 2 × frames runs", of two numbers each
abbrev pub room : ℕ → ℕ
room n = (1025 + n * 2) * 2

-- what the plan on a list of numbers is lent: at most 1,024 normalized runs in front, and room for d dirty pages, which the callers test
pub record Lent (n d : ℕ) (w : List ℕ) : Type 0 where
  pub few : n ≤ 1024
  pub room : room d ≤ length w
  pub tidy : normalized (runs_in n w) ≡ true
