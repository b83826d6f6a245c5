-- Demand 3, as a claim about any store: a step from a state, what is lent and a call to what comes out. It is one claim about a whole list of calls.
use Rattle.std.specs.Prelude.{◌≡◌, ℕ, ◌+◌, ◌*◌, ◌≤◌, ◌<◌, Bool, true, false, ◌||◌, List, [], ◌∷◌, ◌++◌, leb, eqb, length, take, drop, get_or}
use Rattle.config.specs.declared.refusal.Refusal.TheVariants.{BufferTooShort}
use Rattle.memory.specs.Bytes.{resize}
use Rattle.words.specs.Words.{Bytes}
use Rattle.update.specs.Buffers.{cached}
use Rattle.store.specs.declared.State.{State}
use Rattle.store.specs.Answers.{Size, Read, Refused}
use Rattle.store.specs.Codec.{Codec}
use Rattle.store.specs.Calls.{Call, begin, read, write, truncate, commit, rollback, file_size, import_begin, import_chunk, import_finish, import_cancel, export, checksum, refresh, refresh_step, Lent, Out, number, lent_bytes, Mode, idle, update, mode_of, buffers_short, short, with_mem}
use Rattle.store.specs.Opening.{open'}
use Rattle.plain_file.specs.Plain.{File, Draft, Plain, closed, drafting, Told, copied, draft_write, draft_truncate, verdict_number, file_ground, file_of, plain_step}

-- a store
abbrev pub Step : Type 0
Step = State → Lent → Call → Out

-- ## What is owed of a call

-- "A read is full exactly when it is empty or ends at or before the size, else short; bytes past the size are zeros. Only 35 can refuse a read."
pub record Reads (bytes : List ℕ) (o n : ℕ) (x : Out) : Type 0 where
  pub full : x.answer ≡ Read (eqb n 0 || leb (o + n) (length bytes))
  pub shown : x.filled ≡ resize n (drop o bytes)

-- memory is byte for byte what it was at the call and, in the live part, when the update began
pub record Kept (begun before after left : List ℕ) (live : ℕ) : Type 0 where
  pub call : after ≡ before
  pub began : take live left ≡ begun

-- a direct call is a begin, itself and a commit: it is accepted only where the commit's test is passed; 31 and 32 are the test's, and so is 20 unless the
-- call itself ends above the largest number; refused it leaves memory as it was
pub record Direct (M end answered ground : ℕ) (before after : List ℕ) : Type 0 where
  pub accepted : answered ≡ 0 → ground ≡ 0
  pub runs : answered ≡ 31 → ground ≡ 31
  pub range : answered ≡ 20 → end ≤ M → ground ≡ 20
  pub ceiling : answered ≡ 32 → ground ≡ 32
  pub kept : (answered ≡ 0 → ⊥) → after ≡ before

-- "reads in it and its commit's grounds are left to demand 1" where the draft is spoiled
abbrev pub Unspoiled : Bool → Type 0 → Type 0
Unspoiled true A = Unit {0}
Unspoiled false A = A

-- page size, stable page size, cache pages, most runs, largest number
module _ (P S C L M : ℕ) (k : Codec) where
  -- a direct call that itself ends at `end`, and makes the draft d of the file
  abbrev pub Directly : File → Draft → ℕ → Lent → Out → Type 0
  Directly f d end l x = Direct M end (number x.answer) (verdict_number (file_ground P S L M f d (length l.mem))) l.mem x.lent.mem

  -- 02, W-202 with W-203: the image in the memory that a call left is the file that was there; of the import calls only an accepted finish makes another one
  abbrev pub Stays : File → Out → Type 0
  Stays f x = file_of P S L M k x.lent.mem ≡ f

  -- of the plain file, the memory when its update began, the call, what is lent, what comes out, and all that is left then
  abbrev pub Owed : Plain → List ℕ → Call → Lent → Out → Lent → Type 0
  Owed (closed f) m (begin g a b) l x w = Unit {0}
  Owed (closed f) m (read o d) l x w = Reads f.bytes o (length d) x
  Owed (closed f) m (write o bs) l x w = Directly f (draft_write P o bs (copied f)) (o + length bs) l x
  Owed (closed f) m (truncate n) l x w = Directly f (draft_truncate P n (copied f)) n l x
  Owed (closed f) m commit l x w = (number x.answer ≡ 0) × (x.lent.mem ≡ l.mem)
  Owed (closed f) m rollback l x w = (number x.answer ≡ 0) × (x.lent.mem ≡ l.mem)
  Owed (closed f) m file_size l x w = x.answer ≡ Size (length f.bytes)
  Owed (closed f) m (import_begin a e) l x w = Stays f x
  Owed (closed f) m (import_chunk o bs) l x w = Stays f x
  Owed (closed f) m import_finish l x w = (number x.answer ≡ 0 → ⊥) → Stays f x
  Owed (closed f) m import_cancel l x w = Stays f x
  Owed (closed f) m (export o d) l x w = Unit {0}
  Owed (closed f) m checksum l x w = Unit {0}
  Owed (closed f) m refresh l x w = Unit {0}
  Owed (closed f) m (refresh_step n) l x w = Unit {0}
  Owed (drafting f d) m (begin g a b) l x w = Unit {0}
  Owed (drafting f d) m (read o dst) l x w = Unspoiled d.spoiled (Reads d.bytes o (length dst) x)
  Owed (drafting f d) m (write o bs) l x w = Unit {0}
  Owed (drafting f d) m (truncate n) l x w = Unit {0}
  -- "refused exactly when" the zero-run limit, the address range or the memory ceiling is exceeded, with 01's number; spoiled or not, a refused
  -- commit leaves memory as it was
  Owed (drafting f d) m commit l x w =
      Unspoiled d.spoiled (number x.answer ≡ verdict_number (file_ground P S L M f d (length l.mem)))
      × ((number x.answer ≡ 0 → ⊥) → Kept m l.mem x.lent.mem w.mem (x.state.count.0 * S))
  Owed (drafting f d) m rollback l x w = (number x.answer ≡ 0) × Kept m l.mem x.lent.mem w.mem (x.state.count.0 * S)
  Owed (drafting f d) m file_size l x w = Unspoiled d.spoiled (x.answer ≡ Size (length d.bytes))
  Owed (drafting f d) m (import_begin a e) l x w = Unit {0}
  Owed (drafting f d) m (import_chunk o bs) l x w = Unit {0}
  Owed (drafting f d) m import_finish l x w = Unit {0}
  Owed (drafting f d) m import_cancel l x w = Unit {0}
  Owed (drafting f d) m (export o dst) l x w = Unit {0}
  Owed (drafting f d) m checksum l x w = Unit {0}
  Owed (drafting f d) m refresh l x w = Unit {0}
  Owed (drafting f d) m (refresh_step n) l x w = Unit {0}

  -- 35: "nothing changes"
  pub record Nothing (s : State) (l : Lent) (c : Call) (x : Out) : Type 0 where
    pub answer : x.answer ≡ Refused BufferTooShort
    pub state : x.state ≡ s
    pub lent : x.lent ≡ l
    pub filled : x.filled ≡ lent_bytes c

  -- slices that are long enough for the state before the call are so for the state after it: a store that asks for more and more, to answer 35 for ever,
  -- does not meet the claim
  pub record Enough (s : State) (l : Lent) (x : Out) : Type 0 where
    pub memory : s.count.0 * S ≤ length l.mem → x.state.count.0 * S ≤ length l.mem
    pub buffers : buffers_short P S C L (mode_of s) l.bufs ≡ false → buffers_short P S C L (mode_of x.state) l.bufs ≡ false

  -- ## What is lent

  -- the live part of a lent slice is what was last left, as far as the slice reaches
  abbrev pub AsLeft : ℕ → List ℕ → List ℕ → Type 0
  AsLeft live now was = (i : ℕ) → i < live → i < length now → get_or now i 0 ≡ get_or was i 0

  -- how much of each slice is live: frames and page numbers, record entries, clean frames
  abbrev pub dirty_of : Mode → ℕ
  dirty_of idle = 0
  dirty_of (update v) = v.dirty

  abbrev pub record_of : Mode → ℕ
  record_of idle = 0
  record_of (update v) = v.recorded

  abbrev pub cached_of : Mode → ℕ
  cached_of idle = 0
  cached_of (update v) = length (cached P C v.cache)

  pub record Lends (s : State) (was now : Lent) : Type 0 where
    pub mem : AsLeft (s.count.0 * S) now.mem was.mem
    pub frames : AsLeft (dirty_of (mode_of s) * P) now.bufs.frames was.bufs.frames
    pub numbers : AsLeft (dirty_of (mode_of s)) now.bufs.numbers was.bufs.numbers
    pub clean : AsLeft (cached_of (mode_of s) * P) now.bufs.clean was.bufs.clean
    pub recs : AsLeft (record_of (mode_of s) * 2) now.bufs.recs was.bufs.recs

  -- what is left where a call gave xs back: these, and behind them what was left before
  unfoldable pub laid : List ℕ → List ℕ → List ℕ
  laid xs was = xs ++ drop (length xs) was

  unfoldable pub leaves : Lent → Lent → Lent
  leaves now was = record {
    mem = laid now.mem was.mem;
    bufs = record {
      frames = laid now.bufs.frames was.bufs.frames;
      numbers = laid now.bufs.numbers was.bufs.numbers;
      clean = laid now.bufs.clean was.bufs.clean;
      recs = laid now.bufs.recs was.bufs.recs;
    };
    work = now.work;
  }

  -- ## The claim

  -- a call with its arguments and what it is lent
  pub record Turn : Type 0 where
    pub lent : Lent
    pub call : Call

  abbrev pub told : Lent → Out → Told
  told l x = record { number = number x.answer; length = length l.mem; after = x.lent.mem }

  -- the memory when the update began
  abbrev pub at_begin : Plain → Plain → List ℕ → List ℕ → List ℕ
  at_begin p (closed f) m now = []
  at_begin (closed g) (drafting f d) m now = now
  at_begin (drafting g e) (drafting f d) m now = m

  -- a size to truncate to is a number of 64 bits, as every argument is
  abbrev pub Word : Call → Type 0
  Word (begin g a b) = Unit {0}
  Word (read o d) = Unit {0}
  Word (write o bs) = Unit {0}
  Word (truncate n) = n ≤ M
  Word commit = Unit {0}
  Word rollback = Unit {0}
  Word file_size = Unit {0}
  Word (import_begin a e) = Unit {0}
  Word (import_chunk o bs) = Unit {0}
  Word import_finish = Unit {0}
  Word import_cancel = Unit {0}
  Word (export o d) = Unit {0}
  Word checksum = Unit {0}
  Word refresh = Unit {0}
  Word (refresh_step n) = Unit {0}

  abbrev pub choose : Bool → Type 0 → Type 0 → Type 0
  choose true A B = A
  choose false A B = B

  -- every call of the list, from a state, a plain file, the memory when its update began, and the slices as they were last left. "any call sequence":
  -- refused calls and 35s included
  abbrev pub Promise : Step → State → Plain → List ℕ → Lent → List Turn → Type 0
  Promise step s p m w [] = Unit {0}
  Promise step s p m w (t ∷ ts) =
      let l : Lent = t.lent in
      let c : Call = t.call in
      let x : Out = step s l c in
      let w' : Lent = leaves x.lent w in
      let p' : Plain = plain_step P S L M k p c (told l x) in
      Lends s w l → Word c
      → choose (short P S C L s l c)
      (Nothing s l c x × Promise step s p m w' ts)
      (Owed p m c l x w' × Enough s l x × Promise step x.state p' (at_begin p p' m (take (x.state.count.0 * S) w'.mem)) w' ts)

  -- DEMAND 3: from every image accepted at opening, the fresh one included, for every list of calls. Memory is bytes, and no more than numbers count
  unfoldable pub Claim : Step → Type 0
  Claim step = (n : ℕ) (w : Lent) → Bytes w.mem → length w.mem ≤ M → number (open' P S C L M k n w.mem).answer ≡ 0 → (ts : List Turn)
      → Promise step (open' P S C L M k n w.mem).state (closed (file_of P S L M k (open' P S C L M k n w.mem).mem)) [] (with_mem (open' P S C L M k n w.mem).mem w) ts
