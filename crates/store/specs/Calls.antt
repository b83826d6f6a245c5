-- The calls, what each is lent, and what each gives back.
use Rattle.std.specs.Prelude.{ℕ, ◌+◌, ◌*◌, Bool, true, false, ◌&&◌, ◌||◌, List, [], ltb, length}
use Rattle.config.specs.Refusals.{numbers_of}
use Rattle.memory.specs.Bytes.{zeros}
use Rattle.update.specs.declared.Overlay.{Overlay}
use Rattle.update.specs.Buffers.{Buffers, frame_count, short_buffers}
use Rattle.store.specs.declared.State.{State}
use Rattle.store.specs.Answers.{Answer}
use Rattle.store.specs.Answers.{Done, Size, Read, Exported, Checksum, Refreshed, Refused}

pub data Call : Type 0 where
  -- with a budget or not, of so many pages and bytes
  begin : Bool → ℕ → ℕ → Call
  -- offset and the lent bytes that are to be filled
  read : ℕ → List ℕ → Call
  write : ℕ → List ℕ → Call
  truncate : ℕ → Call
  commit rollback file_size : Call
  -- total size and expected checksum
  import_begin : ℕ → ℕ → Call
  import_chunk : ℕ → List ℕ → Call
  import_finish import_cancel : Call
  export : ℕ → List ℕ → Call
  checksum refresh : Call
  refresh_step : ℕ → Call

-- what is lent beside the arguments
pub record Lent : Type 0 where
  pub mem : List ℕ
  pub bufs : Buffers
  pub work : List ℕ

-- the state to call with next, everything that was lent, the answer, and the bytes that a read or an export was lent
pub record Out : Type 0 where
  pub state : State
  pub lent : Lent
  pub answer : Answer
  pub filled : List ℕ

abbrev pub out : State → Lent → Answer → List ℕ → Out
out s l a f = record { state = s; lent = l; answer = a; filled = f }

-- 01's number of an answer; 0 is accepted
abbrev pub number : Answer → ℕ
number Done = 0
number (Size n) = 0
number (Read f) = 0
number (Exported n) = 0
number (Checksum n) = 0
number (Refreshed r) = 0
number (Refused r) = (numbers_of r).number

-- ## Which call is lent what

pub record Uses : Type 0 where
  pub mem? : Bool
  pub bufs? : Bool
  pub work? : Bool

abbrev pub these : Bool → Bool → Bool → Uses
these m b w = record { mem? = m; bufs? = b; work? = w }

-- Begin and the file's size need nothing; imports, export and checksums memory; a read memory and the buffers of an update; a write, a truncation
-- and a commit also the work list, as a caller cannot know that a write will be direct; a rollback the buffers of an update
abbrev pub uses : Call → Uses
uses (begin g p b) = these false false false
uses (read o d) = these true true false
uses (write o bs) = these true true true
uses (truncate n) = these true true true
uses commit = these true true true
uses rollback = these false true false
uses file_size = these false false false
uses (import_begin t e) = these true false false
uses (import_chunk o bs) = these true false false
uses import_finish = these true false false
uses import_cancel = these true false false
uses (export o d) = these true false false
uses checksum = these true false false
uses refresh = these true false false
uses (refresh_step n) = these true false false

-- the bytes that a call is lent to fill
abbrev pub lent_bytes : Call → List ℕ
lent_bytes (begin g p b) = []
lent_bytes (read o d) = d
lent_bytes (write o bs) = []
lent_bytes (truncate n) = []
lent_bytes commit = []
lent_bytes rollback = []
lent_bytes file_size = []
lent_bytes (import_begin t e) = []
lent_bytes (import_chunk o bs) = []
lent_bytes import_finish = []
lent_bytes import_cancel = []
lent_bytes (export o d) = d
lent_bytes checksum = []
lent_bytes refresh = []
lent_bytes (refresh_step n) = []

-- ## The update, if one is open

pub data Mode : Type 0 where
  idle : Mode
  update : Overlay → Mode

abbrev pub mode_if : Bool → Overlay → Mode
mode_if true v = update v
mode_if false v = idle

abbrev pub mode_of : State → Mode
mode_of s = mode_if s.updating s.overlay

-- page size, stable page size, cache pages, most runs
module _ (P S C L : ℕ) where
  -- 01, 35: "the frames or record shorter than what they hold, the clean frames under 8 pages"; without an update they hold nothing
  abbrev pub buffers_short : Mode → Buffers → Bool
  buffers_short idle l = ltb (length l.clean) (C * P)
  buffers_short (update v) l = short_buffers P C v l

  -- 01, 35: "the lent memory is shorter than the current count, .. or the work list under 1,025 + 2 × frames runs"; a run is two numbers
  unfoldable pub short : State → Lent → Call → Bool
  short s l c =
      ((uses c).mem? && ltb (length l.mem) (s.count.0 * S))
      || (((uses c).bufs? && buffers_short (mode_of s) l.bufs)
      || ((uses c).work? && ltb (length l.work) ((L + 1 + 2 * frame_count P l.bufs) * 2)))

-- 01: "The work list is zeros after every call but 35."; by 02, W-203, and but a direct call's 10
abbrev pub cleared : Lent → Lent
cleared l = record { mem = l.mem; bufs = l.bufs; work = zeros (length l.work) }

abbrev pub with_mem : List ℕ → Lent → Lent
with_mem m l = record { mem = m; bufs = l.bufs; work = l.work }

abbrev pub with_buffers : Buffers → Lent → Lent
with_buffers b l = record { mem = l.mem; bufs = b; work = l.work }
