-- The words of the claim at 01's sizes, with 01's superblock and hash.
use Rattle.std.specs.Prelude.{ℕ, Bool, List}
use Rattle.store.specs.declared.State.{State}
use Rattle.store.specs.Codec.{real_codec}
use Rattle.store.specs.Calls.{Call, Lent, Out, short, Mode, buffers_short}
use Rattle.update.specs.Buffers.{Buffers}
use Rattle.lending.specs.Lending.{calls}
use Rattle.plain_file.specs.Plain.{File, Draft, Plain, closed, Told, verdict_number, file_ground, file_of, plain_step}
use Rattle.plain_file.specs.Claim.{Stays, Owed, Nothing, Enough, Lends, leaves, Turn, told, at_begin, Word, choose, Promise}

-- 35 for a call
abbrev pub short' : State → Lent → Call → Bool
short' = short 16384 65536 8 1024

abbrev pub buffers_short' : Mode → Buffers → Bool
buffers_short' = buffers_short 16384 65536 8 1024

-- the plain file of a memory
abbrev pub plain_of : List ℕ → Plain
plain_of m = closed (file_of 16384 65536 1024 18446744073709551615 real_codec m)

abbrev pub plain_step' : Plain → Call → Told → Plain
plain_step' = plain_step 16384 65536 1024 18446744073709551615 real_codec

-- 01's number for the draft on the file, in a lent memory of so many bytes
abbrev pub ground' : File → Draft → ℕ → ℕ
ground' f d n = verdict_number (file_ground 16384 65536 1024 18446744073709551615 f d n)

abbrev pub told' : Lent → Out → Told
told' = told 16384 65536 8 1024 18446744073709551615 real_codec

abbrev pub Word' : Call → Type 0
Word' = Word 16384 65536 8 1024 18446744073709551615 real_codec

abbrev pub Lends' : State → Lent → Lent → Type 0
Lends' = Lends 16384 65536 8 1024 18446744073709551615 real_codec

abbrev pub leaves' : Lent → Lent → Lent
leaves' = leaves 16384 65536 8 1024 18446744073709551615 real_codec

abbrev pub at_begin' : Plain → Plain → List ℕ → List ℕ → List ℕ
at_begin' = at_begin 16384 65536 8 1024 18446744073709551615 real_codec

abbrev pub Stays' : File → Out → Type 0
Stays' = Stays 16384 65536 8 1024 18446744073709551615 real_codec

abbrev pub Owed' : Plain → List ℕ → Call → Lent → Out → Lent → Type 0
Owed' = Owed 16384 65536 8 1024 18446744073709551615 real_codec

abbrev pub Nothing' : State → Lent → Call → Out → Type 0
Nothing' = Nothing 16384 65536 8 1024 18446744073709551615 real_codec

abbrev pub Enough' : State → Lent → Out → Type 0
Enough' = Enough 16384 65536 8 1024 18446744073709551615 real_codec

abbrev pub choose' : Bool → Type 0 → Type 0 → Type 0
choose' = choose 16384 65536 8 1024 18446744073709551615 real_codec

abbrev pub Turn' : Type 0
Turn' = Turn 16384 65536 8 1024 18446744073709551615 real_codec

-- what the store's definitions are promised to do
abbrev pub Promise' : State → Plain → List ℕ → Lent → List Turn' → Type 0
Promise' = Promise 16384 65536 8 1024 18446744073709551615 real_codec calls
