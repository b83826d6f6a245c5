-- What a host has from a call for those that follow, from an opening, and from a direct call that an import bars.
use Rattle.std.specs.Prelude.{◌≡◌, ℕ, false, length}
use mathlib.Core.List.{List}
use Rattle.memory.specs.Bytes.{overwrite}
use Rattle.words.specs.Words.{Bytes}
use Rattle.store.specs.declared.State.{State}
use Rattle.store.specs.Calls.{Lent, number}
use Rattle.store.specs.Blocks.{importing}
use Rattle.store.specs.Opening.{Opened}
use Rattle.encoding.specs.StateBytes.{state_bytes, state_in}
use Rattle.encoding.specs.Called.{four}
use Rattle.plain_file.specs.Sizes.{plain_of}
use Rattle.host_calls.specs.Made.{Made}
use Rattle.host_calls.specs.CCalls.{COpened, memory_passed, count_passed, state_left, memory_left}

-- what a call gives back, to those that follow
pub record Back : Type 0 where
  pub number : ℕ
  pub state : State
  pub lent : Lent

pub record Opens (st' m' : List ℕ) (x : Opened) : Type 0 where
  pub accepted : number x.answer ≡ 0
  pub state : state_in st' ≡ x.state
  pub long : length st' ≡ 336
  pub mem : m' ≡ x.mem

-- THE OPENING FOR A HOST (02, W-202): `yuharopu_open` returned 0. No import is open in the state that it left, and an image that was there is the plain file
-- that it was, also if its import was closed
pub record HostOpens (o : COpened) : Type 0 where
  pub none_open : importing (state_in (state_left o)).block ≡ false
  pub same_file : Bytes (memory_passed o) → (count_passed o ≡ 0 → ⊥) → plain_of (memory_left o) ≡ plain_of (memory_passed o)

-- 10 OF A DIRECT CALL FOR A HOST (02, W-203): "It refuses with 10, right after 35 and, like 35, with nothing changed, lent frames and lists included". So memory, frames,
-- page numbers, clean frames, record and work list stay to the last element; the bytes of the state hold the state that they held, in the library's own form
pub record HostBarred (e : Made) : Type 0 where
  pub returned : e.returned ≡ 10
  pub lent : e.lent' ≡ e.lent
  pub state : state_in e.state' ≡ state_in e.state
  pub bytes : e.state' ≡ state_bytes (state_in e.state)
  pub answer : e.answer' ≡ overwrite 0 (four 0 0 0 0) e.answer
