-- Answers with the same number and values are shown alike.
use Rattle.std.specs.Prelude.{◌≡◌, refl, ℕ, List, Result, Ok, Err}
use Rattle.std.proofs.Math.Dec.{eqb}
use Rattle.config.specs.declared.refusal.Refusal.{Refusal}
use Rattle.memory.specs.Bytes.{overwrite}
use Rattle.store.specs.declared.State.{State}
use Rattle.store.specs.Answers.{Answer, Size, Checksum, answered}
use Rattle.encoding.specs.StateBytes.{state_bytes}
use Rattle.encoding.specs.Called.{Shown, showing, pick, step_shown}
use Rattle.yuharopu.specs.Closures.{Alike}

module _ (st an : List ℕ) (s : State) where
  abbrev shown_as : ℕ → List ℕ → Shown
  shown_as n v = pick (eqb n 35) (showing n st an) (record { number = n; state = state_bytes s; next = s; answer = overwrite 0 v an })

  pub shown_alike : (a b : Answer) → Alike a b → step_shown st an s a ≡ step_shown st an s b
  unfolding step_shown
  shown_alike a b e = λ i. shown_as (e.0 i) (e.1 i)

pub checksum_alike : (r : Result ℕ Refusal) → Alike (answered Size r) (answered Checksum r)
checksum_alike (Ok n) = (refl, refl)
checksum_alike (Err r) = (refl, refl)
