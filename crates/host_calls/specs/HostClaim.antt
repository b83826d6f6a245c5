-- Demand 3 as a host sees it: the numbers that the C functions return, four numbers of an answer, byte slices, and a state of 336 bytes.
use Rattle.std.specs.Prelude.{◌≡◌, refl, ℕ, ◌+◌, ◌*◌, ◌≤◌, Bool, false, ◌||◌, List, [], ◌∷◌, ltb, leb, eqb, length, take, drop}
use Rattle.memory.specs.Bytes.{overwrite, resize}
use Rattle.store.specs.Calls.{Call, begin, read, write, truncate, commit, rollback, file_size, import_begin, import_chunk, import_finish, import_cancel, export, checksum, refresh, refresh_step, Lent, lent_bytes, mode_of}
use Rattle.encoding.specs.StateBytes.{flag, state_in}
use Rattle.encoding.specs.Called.{four}
use Rattle.plain_file.specs.Plain.{File, Draft, Plain, closed, drafting, copied, draft_write, draft_truncate}
use Rattle.plain_file.specs.Claim.{Kept, Direct, Unspoiled}
use Rattle.plain_file.specs.Sizes.{short', buffers_short', plain_of, plain_step', ground', Lends', leaves', at_begin', choose'}
use Rattle.host_calls.specs.Made.{Made}

-- ## What a host sees

-- 35: "nothing changes", of anything that the call was lent
pub record Untouched (e : Made) : Type 0 where
  pub returned : e.returned ≡ 35
  pub state : e.state' ≡ e.state
  pub answer : e.answer' ≡ e.answer
  pub lent : e.lent' ≡ e.lent
  pub filled : e.filled ≡ lent_bytes e.call

-- it is accepted with one value
pub record Tells (value : ℕ) (e : Made) : Type 0 where
  pub returned : e.returned ≡ 0
  pub answer : e.answer' ≡ overwrite 0 (four value 0 0 0) e.answer

-- a read of n bytes at o of these bytes: 1 in front of the answer if it is full, else 0
pub record HostReads (bytes : List ℕ) (o n : ℕ) (e : Made) : Type 0 where
  pub full : Tells (flag (eqb n 0 || leb (o + n) (length bytes))) e
  pub shown : e.filled ≡ resize n (drop o bytes)

-- 01's number for the draft on the file, in the lent memory
abbrev pub ground_of : File → Draft → Lent → ℕ
ground_of f d l = ground' f d (length l.mem)

-- a direct call that itself ends at `end`, and makes the draft d of the file
abbrev pub HostDirect : File → Draft → ℕ → Made → Type 0
HostDirect f d end e = Direct 18446744073709551615 end e.returned (ground_of f d e.lent) e.lent.mem e.lent'.mem

-- 02, W-202 with W-203: the image in the memory that the call left is the file that was there
abbrev pub HostStays : File → Made → Type 0
HostStays f e = plain_of e.lent'.mem ≡ closed f

-- how many bytes of memory are live
abbrev pub live : List ℕ → ℕ
live st = (state_in st).count.0 * 65536

-- ## What is owed of a call

-- of the plain file, the live memory when its update began, the call, and all that is left then
abbrev pub HostOwed : Plain → List ℕ → Made → Call → Lent → Type 0
HostOwed (closed f) m e (begin g a b) w = Unit {0}
HostOwed (closed f) m e (read o d) w = HostReads f.bytes o (length d) e
HostOwed (closed f) m e (write o bs) w = HostDirect f (draft_write 16384 o bs (copied f)) (o + length bs) e
HostOwed (closed f) m e (truncate n) w = HostDirect f (draft_truncate 16384 n (copied f)) n e
HostOwed (closed f) m e commit w = (e.returned ≡ 0) × (e.lent'.mem ≡ e.lent.mem)
HostOwed (closed f) m e rollback w = (e.returned ≡ 0) × (e.lent'.mem ≡ e.lent.mem)
HostOwed (closed f) m e file_size w = Tells (length f.bytes) e
HostOwed (closed f) m e (import_begin a x) w = HostStays f e
HostOwed (closed f) m e (import_chunk o bs) w = HostStays f e
HostOwed (closed f) m e import_finish w = (e.returned ≡ 0 → ⊥) → HostStays f e
HostOwed (closed f) m e import_cancel w = HostStays f e
HostOwed (closed f) m e (export o d) w = Unit {0}
HostOwed (closed f) m e checksum w = Unit {0}
HostOwed (closed f) m e refresh w = Unit {0}
HostOwed (closed f) m e (refresh_step n) w = Unit {0}
HostOwed (drafting f d) m e (begin g a b) w = Unit {0}
HostOwed (drafting f d) m e (read o dst) w = Unspoiled d.spoiled (HostReads d.bytes o (length dst) e)
HostOwed (drafting f d) m e (write o bs) w = Unit {0}
HostOwed (drafting f d) m e (truncate n) w = Unit {0}
HostOwed (drafting f d) m e commit w =
    Unspoiled d.spoiled (e.returned ≡ ground_of f d e.lent)
    × ((e.returned ≡ 0 → ⊥) → Kept m e.lent.mem e.lent'.mem w.mem (live e.state'))
HostOwed (drafting f d) m e rollback w = (e.returned ≡ 0) × Kept m e.lent.mem e.lent'.mem w.mem (live e.state')
HostOwed (drafting f d) m e file_size w = Unspoiled d.spoiled (Tells (length d.bytes) e)
HostOwed (drafting f d) m e (import_begin a x) w = Unit {0}
HostOwed (drafting f d) m e (import_chunk o bs) w = Unit {0}
HostOwed (drafting f d) m e import_finish w = Unit {0}
HostOwed (drafting f d) m e import_cancel w = Unit {0}
HostOwed (drafting f d) m e (export o dst) w = Unit {0}
HostOwed (drafting f d) m e checksum w = Unit {0}
HostOwed (drafting f d) m e refresh w = Unit {0}
HostOwed (drafting f d) m e (refresh_step n) w = Unit {0}

-- slices that are long enough for the state before the call are so for the state after it
pub record HostEnough (st : List ℕ) (e : Made) : Type 0 where
  pub memory : live st ≤ length e.lent.mem → live e.state' ≤ length e.lent.mem
  pub buffers : buffers_short' (mode_of (state_in st)) e.lent.bufs ≡ false → buffers_short' (mode_of (state_in e.state')) e.lent.bufs ≡ false

-- ## The claim

-- what was lent is too short: the answer's list, or 01's 35
abbrev pub too_little : List ℕ → Made → Bool
too_little st e = ltb (length e.answer) 4 || short' (state_in st) e.lent e.call

-- the plain file after the call: it is told the number returned, the length of memory and the memory left
abbrev pub plain_after : Plain → Made → Plain
plain_after p e = plain_step' p e.call (record { number = e.returned; length = length e.lent.mem; after = e.lent'.mem })

-- every C call of the list. st: the state's bytes as the call before left them. Premises: the call got these bytes, and the live part of each slice as
-- it was last left
abbrev pub HostPromise : List ℕ → Plain → List ℕ → Lent → List Made → Type 0
HostPromise st p m w [] = Unit {0}
HostPromise st p m w (e ∷ es) =
    let w' : Lent = leaves' e.lent' w in
    let p' : Plain = plain_after p e in
    e.state ≡ st → Lends' (state_in st) w e.lent
    → choose' (too_little st e)
    (Untouched e × HostPromise st p m w' es)
    (HostOwed p m e e.call w' × HostEnough st e × HostPromise e.state' p' (at_begin' p p' m (take (live e.state') w'.mem)) w' es)

-- ## Lending

-- a host that lends what was left, whole, has lent what is asked
pub lends_same : (st : List ℕ) (w : Lent) → Lends' (state_in st) w w
lends_same st w = record { mem = λ i a b. refl; frames = λ i a b. refl; numbers = λ i a b. refl; clean = λ i a b. refl; recs = λ i a b. refl }
