-- What the calls promise: each is the store's definition at 01's sizes, for whatever a call that is lent less cannot touch.
use Rattle.std.specs.Prelude.{◌≡◌, ℕ, List, []}
use Rattle.update.specs.Buffers.{Buffers}
use Rattle.store.specs.declared.State.{State}
use Rattle.store.specs.Answers.{Answer}
use Rattle.store.specs.Codec.{real_codec}
use Rattle.store.specs.Calls.{Call, read, Lent, Out, out}
use Rattle.store.specs.Store.{store}
use Rattle.transfer.specs.OnMemory.{lent}

abbrev pub calls : State → Lent → Call → Out
calls = store 16384 65536 8 1024 18446744073709551615 real_codec

-- a call that is lent nothing
abbrev pub Alone : State → Call → State → Answer → Type 0
Alone s c s' a = (l : Lent) → out s' l a [] ≡ calls s l c

-- a call that is lent the buffers of an update, and leaves b' in them
abbrev pub OnBuffers : State → Buffers → Call → State → Buffers → Answer → Type 0
OnBuffers s b c s' b' a = (m w : List ℕ) → out s' (lent m b' w) a [] ≡ calls s (lent m b w) c

-- a read of the bytes d at o, which become f
abbrev pub Reads : State → List ℕ → Buffers → ℕ → List ℕ → State → Buffers → Answer → List ℕ → Type 0
Reads s m b o d s' b' a f = (w : List ℕ) → out s' (lent m b' w) a f ≡ calls s (lent m b w) (read o d)
