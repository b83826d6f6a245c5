-- A call of the store as it is handed to `call_on_memory` or `call_on_all`: a closure that is lent a state and slices.
use Rattle.std.specs.Prelude.{◌≡◌, ℕ, List, [], Result}
use Rattle.std.specs.Fn.{Once}
use denote.Ref.{MutBor}
use Rattle.config.specs.declared.refusal.Refusal.{Refusal}
use Rattle.update.specs.Laid.{bufs}
use Rattle.store.specs.declared.State.{State}
use Rattle.store.specs.Answers.{Answer, answered, done}
use Rattle.store.specs.Codec.{real_codec}
use Rattle.store.specs.Calls.{Call, Lent, lent_bytes, number, out}
use Rattle.store.specs.Opening.{Opened, open'}
use Rattle.transfer.specs.OnMemory.{OnMemory, lent}
use Rattle.encoding.specs.Called.{out_of, values}

-- ## Lent memory alone

-- the state and the memory
abbrev pub Slices : Type 0
Slices = MutBor State × (MutBor (List ℕ) × Unit {0})

abbrev pub Caller : Type 0 → Type 0 → Type 1
Caller F T = Once F Slices (Result T Refusal × Slices)

abbrev pub opened_as : Slices → Answer → Opened
opened_as x a = record { state = x.0.now; answer = a; mem = x.1.0.now }

-- two answers that a caller cannot tell apart, as a size and a checksum are
abbrev pub Alike : Answer → Answer → Type 0
Alike a b = (number a ≡ number b) × (values a ≡ values b)

module _ {F T : Type 0} (g : Caller F T) (kind : T → Answer) (f : F) where
  -- of the state and the memory x, f makes x' and r, as the call c does
  pub record Made (c : Call) (x x' : Slices) (r : Result T Refusal) : Type 0 where
    pub answer : Answer
    pub alike : Alike (answered kind r) answer
    pub made : OnMemory x.0.now x.1.0.now c x'.0.now x'.1.0.now answer []

  -- f is the call c, which is lent no bytes to fill
  pub record IsCall (c : Call) : Type 0 where
    pub fills : lent_bytes c ≡ []
    pub does : (x x' : Slices) (r : Result T Refusal) → g.post f x (r, x') → Made c x x' r

  -- f opens the image of n stable pages
  abbrev pub Opens : ℕ → Type 0
  Opens n = (x x' : Slices) (r : Result T Refusal) → g.post f x (r, x')
      → opened_as x' (answered kind r) ≡ open' 16384 65536 8 1024 18446744073709551615 real_codec n x.1.0.now

-- ## Lent everything

-- the state, memory, the frames, their numbers, the clean frames, the record and the list of work
abbrev pub AllSlices : Type 0
AllSlices = MutBor State × (MutBor (List ℕ) × (MutBor (List ℕ) × (MutBor (List ℕ) × (MutBor (List ℕ) × (MutBor (List ℕ) × (MutBor (List ℕ) × Unit {0}))))))

abbrev pub FullCaller : Type 0 → Type 1
FullCaller F = Once F AllSlices (Result (Unit {0}) Refusal × AllSlices)

abbrev pub lent_in : AllSlices → Lent
lent_in x = lent x.1.0.now (bufs x.1.1.0.now x.1.1.1.0.now x.1.1.1.1.0.now x.1.1.1.1.1.0.now) x.1.1.1.1.1.1.0.now

module _ {F : Type 0} (g : FullCaller F) (f : F) where
  -- f is the call c, which is lent no bytes to fill
  pub record IsFullCall (c : Call) : Type 0 where
    pub fills : lent_bytes c ≡ []
    pub does : (x x' : AllSlices) (r : Result (Unit {0}) Refusal) → g.post f x (r, x') → out x'.0.now (lent_in x') (done r) [] ≡ out_of x.0.now (lent_in x) c
