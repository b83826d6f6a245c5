-- What the calls of a store answer, as one type for lists of calls: each call's own result is a value of its kind, or a refusal.
use Rattle.std.specs.Prelude.{ℕ, Bool, Result, Ok, Err}
use Rattle.config.specs.declared.refusal.Refusal.{Refusal}
use Rattle.store.specs.declared.State.{State}
use Rattle.store.specs.declared.ChecksumRefresh.{ChecksumRefresh}

pub data Answer : Type 0 where
  Done : Answer
  -- of a begin and of the file's size
  Size : ℕ → Answer
  -- of a read: whether it is full
  Read : Bool → Answer
  -- of an export: how many bytes were written
  Exported : ℕ → Answer
  Checksum : ℕ → Answer
  Refreshed : ChecksumRefresh → Answer
  Refused : Refusal → Answer

-- what a call answered, whose value is of the kind f
abbrev pub answered : {A : Type 0} → (A → Answer) → Result A Refusal → Answer
answered f (Ok x) = f x
answered f (Err r) = Refused r

abbrev pub done : Result (Unit {0}) Refusal → Answer
done = answered (λ u. Done)

-- a call's answer, and the state to call with next
pub record Step : Type 0 where
  pub state : State
  pub answer : Answer
