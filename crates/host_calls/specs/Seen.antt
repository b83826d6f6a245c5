-- A C call as it was promised, and what is seen of it.
use Rattle.std.specs.Prelude.{◌≡◌, ℕ, List, length}
use Rattle.memory.specs.Bytes.{overwrite}
use Rattle.store.specs.Calls.{Call, Lent, Out, number}
use Rattle.encoding.specs.StateBytes.{state_in}
use Rattle.encoding.specs.Called.{values, Called}
use Rattle.host_calls.specs.Made.{Made, promised}

pub record Seen (e : Made) (x : Out) : Type 0 where
  pub returned : e.returned ≡ number x.answer
  pub answer : e.answer' ≡ overwrite 0 (values x.answer) e.answer
  pub state : state_in e.state' ≡ x.state
  pub long : length e.state' ≡ 336
  pub lent : e.lent' ≡ x.lent
  pub filled : e.filled ≡ x.filled

-- the call as promised; its equation holds where the bytes that are left hold the state, as those of every state in a program do (`state_round`)
abbrev pub right : List ℕ → List ℕ → Lent → Call → Made
right st an l c =
    let y : Called = promised st an l c in
    record { state = st; answer = an; lent = l; call = c; returned = y.number; state' = y.state; answer' = y.answer; lent' = y.lent; filled = y.filled }
