-- The calls that are lent memory alone: what each answers is what the store's definition says, whatever else a caller has.
use Rattle.std.specs.Prelude.{◌≡◌, ℕ, List}
use Rattle.update.specs.Buffers.{Buffers}
use Rattle.store.specs.declared.State.{State}
use Rattle.store.specs.Answers.{Answer}
use Rattle.store.specs.Codec.{real_codec}
use Rattle.store.specs.Calls.{Call, Lent, out}
use Rattle.store.specs.Store.{store}

abbrev pub lent : List ℕ → Buffers → List ℕ → Lent
lent m b w = record { mem = m; bufs = b; work = w }

-- a call on state s and memory m left state s' and memory m', answered a and filled the bytes f
abbrev pub OnMemory : State → List ℕ → Call → State → List ℕ → Answer → List ℕ → Type 0
OnMemory s m c s' m' a f = (b : Buffers) (w : List ℕ)
    → out s' (lent m' b w) a f ≡ store 16384 65536 8 1024 18446744073709551615 real_codec s (lent m b w) c
