-- What the laws of `proofs/` say of a call, of growth, of an opening and of an open import.
use Rattle.std.specs.Prelude.{◌≡◌, ℕ, ◌+◌, ◌*◌, ◌≤◌, ◌<◌, true, false, List, length, get_or}
use Rattle.meta.specs.declared.superblock.Superblock.{Superblock}
use Rattle.update.specs.Buffers.{Buffers, wiped}
use Rattle.store.specs.Answers.{Done}
use Rattle.store.specs.Blocks.{importing, Keeps}
use Rattle.store.specs.declared.State.{State}
use Rattle.store.specs.Calls.{Call, Lent, Out, number}
use Rattle.store.specs.Store.{changes}
use Rattle.store.specs.Opening.{Opened}

-- 01: "A commit refused by 31, 20 or 32 (in this order) ends the update with memory unchanged; its frames, page numbers, clean frames and record, whole,
-- become zeros, as they do after any ended update or direct call."
pub record Ends (l : Lent) (x : Out) : Type 0 where
  pub over : x.state.updating ≡ false
  pub zeroed : x.lent.bufs ≡ wiped l.bufs
  pub kept : (number x.answer ≡ 0 → ⊥) → x.lent.mem ≡ l.mem

-- the database stays where it is, and an import that is open then is in order
pub record Carries (S M c : ℕ) (h h' : Superblock) : Type 0 where
  pub keeps : Keeps h h'
  pub import_low : importing h' ≡ true → S ≤ h'.import_base_offset
  pub import_inside : importing h' ≡ true → h'.import_base_offset + h'.import_written_until ≤ c * S
  pub import_range : importing h' ≡ true → h'.import_base_offset + h'.import_total_size ≤ M

-- no update is open, and memory holds the count
pub record Accepts (S : ℕ) (x : Opened) : Type 0 where
  pub done : x.answer ≡ Done
  pub idle : x.state.updating ≡ false
  pub held : x.state.count.0 * S ≤ length x.mem

-- memory m of c stable pages grew to r of them and is m' now, and reaches `end`
pub record Reaches (S c end : ℕ) (m : List ℕ) (r : ℕ) (m' : List ℕ) : Type 0 where
  pub more : c ≤ r
  pub reach : end ≤ r * S
  pub lent : r * S ≤ length m
  pub same_length : length m' ≡ length m
  pub same : (i : ℕ) → i < c * S → get_or m' i 0 ≡ get_or m i 0

-- each lent buffer is as long as it was
pub record SameLengths (l x : Buffers) : Type 0 where
  pub frames : length x.frames ≡ length l.frames
  pub numbers : length x.numbers ≡ length l.numbers
  pub clean : length x.clean ≡ length l.clean
  pub recs : length x.recs ≡ length l.recs

-- 02, W-203: "A direct write or truncation during an import"
pub record Barred (s : State) (c : Call) : Type 0 where
  pub direct : s.updating ≡ false
  pub importing_is : importing s.block ≡ true
  pub changes_is : changes c ≡ true

-- an import is open: no update is, and the import begins at the image's end or behind it
pub record Beside (s : State) : Type 0 where
  pub alone : s.updating ≡ false
  pub past : s.block.db_base_offset + s.block.db_size ≤ s.block.import_base_offset

abbrev pub Apart : State → Type 0
Apart s = importing s.block ≡ true → Beside s
