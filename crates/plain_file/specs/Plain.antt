-- 01's section "The plain file", sentence by sentence. It knows no frame, no cache and no superblock's bytes.
use Rattle.std.specs.Prelude.{ℕ, suc, ◌+◌, ◌-◌, ◌*◌, ◌/◌, max, Bool, true, false, not, cond, ◌&&◌, List, [], ◌∷◌, ◌++◌, ltb, leb, eqb, length, get_or}
use Rattle.config.specs.Pages.{count}
use Rattle.memory.specs.Bytes.{resize}
use Rattle.meta.specs.declared.ZeroExtent.{ZeroExtent}
use Rattle.meta.specs.Runs.{run}
use Rattle.runs.specs.Sets.{covers}
use Rattle.extents.specs.Plan.{Answer, too_many, kept, below, plan}
use Rattle.update.specs.Lists.{put, tabulate, null}
use Rattle.update.specs.Pages.{add_numbers, add_number_if}
use Rattle.store.specs.Codec.{Codec}
use Rattle.store.specs.Calls.{Call, begin, read, write, truncate, commit, rollback, file_size, import_begin, import_chunk, import_finish, import_cancel, export, checksum, refresh, refresh_step}

-- "The plain file has size, bytes, base and zero runs"; its size is the number of its bytes
pub record File : Type 0 where
  pub bytes : List ℕ
  pub base : ℕ
  pub runs : List ZeroExtent

-- "in an update also a draft: size, bytes, dirty pages, record"; and whether it is spoiled
pub record Draft : Type 0 where
  pub bytes : List ℕ
  pub dirty : List ℕ
  pub recorded : List ZeroExtent
  pub spoiled : Bool

pub data Plain : Type 0 where
  closed : File → Plain
  drafting : File → Draft → Plain

-- "fed each call's arguments and, but for reads and unspoiled commits, its answer; the memory's bytes only where a sentence here says so":
-- 01's number of the answer, 0 for accepted, the length of the memory that was lent, and the memory that was left
pub record Told : Type 0 where
  pub number : ℕ
  pub length : ℕ
  pub after : List ℕ

-- ## The draft

-- "An accepted begin copies its size and bytes as the draft, with no dirty page and an empty record."
unfoldable pub copied : File → Draft
copied f = record { bytes = f.bytes; dirty = []; recorded = []; spoiled = false }

unfoldable pub spoil : Draft → Draft
spoil d = record { bytes = d.bytes; dirty = d.dirty; recorded = d.recorded; spoiled = true }

-- what is recorded for the pages from a up to, not including, e: one run, or none where there is no page. The record is "in order of push (not merged)"
unfoldable pub new_run : ℕ → ℕ → List ZeroExtent
new_run a e = cond (leb e a) [] (run a e ∷ [])

module _ (P : ℕ) where
  -- "each page it has a byte in", of n bytes from o on: those from the first byte's to the last byte's
  unfoldable pub pages_with : ℕ → ℕ → ℕ
  pages_with o n = suc ((o + n - 1) / P) - o / P

  -- n bytes end within a page, "a partial last page"
  unfoldable pub ends_within : ℕ → Bool
  ends_within n = ltb (n / P * P) n

  -- growth "makes dirty a partial old last page, then a partial new last page unless the old size, as an offset, lies in it"
  unfoldable pub grown_dirty : ℕ → ℕ → List ℕ → List ℕ
  grown_dirty old new ns = cond (ltb old new) (add_number_if (ends_within new && not (eqb (old / P) (new / P))) (new / P) (add_number_if (ends_within old) (old / P) ns)) ns

  -- "An accepted write puts its bytes there, raising a smaller size to its end, zeros filling a gap; an empty one does nothing." "Both record,
  -- drop and make dirty as the overlay's sentences say; a write also dirties each page it has a byte in." "Growth records the pages from the old count
  -- to the new one"
  unfoldable pub draft_write : ℕ → List ℕ → Draft → Draft
  draft_write o bs d = cond (eqb (length bs) 0) d record {
    bytes = put d.bytes o bs;
    dirty = add_numbers (o / P) (pages_with o (length bs)) (grown_dirty (length d.bytes) (o + length bs) d.dirty);
    recorded = d.recorded ++ new_run (count P (length d.bytes)) (count P (o + length bs));
    spoiled = d.spoiled;
  }

  -- "An accepted truncation sets the size, cutting bytes or adding zeros." It records growth, or a cut "from the new count to the old", drops the pages from
  -- the new count up, and makes a partial last page dirty
  unfoldable pub draft_truncate : ℕ → Draft → Draft
  draft_truncate n d = record {
    bytes = resize n d.bytes;
    dirty = add_number_if (ends_within n) (n / P) (below (count P n) (grown_dirty (length d.bytes) n d.dirty));
    recorded = d.recorded ++ (new_run (count P (length d.bytes)) (count P n) ++ new_run (count P n) (count P (length d.bytes)));
    spoiled = d.spoiled;
  }

-- ## The commit's test

pub data Verdict : Type 0 where
  fine : List ZeroExtent → Verdict
  runs31 range20 ceiling32 : Verdict

-- 01's number
abbrev pub verdict_number : Verdict → ℕ
verdict_number (fine rs) = 0
verdict_number runs31 = 31
verdict_number range20 = 20
verdict_number ceiling32 = 32

-- page size, stable page size, most runs, largest number
module _ (P S L M : ℕ) where
  -- "base + size, and base + (page + 1) × 16,384 for each of those dirty pages": the largest
  abbrev pub farthest : ℕ → List ℕ → ℕ → ℕ
  farthest base [] end = end
  farthest base (p ∷ ps) end = max (base + (p + 1) * P) (farthest base ps end)

  -- they "must be at most 2^64 − 1. Last, memory must reach the largest of them", whose length in whole stable pages is the ceiling
  abbrev pub judge : ℕ → ℕ → Answer → Verdict
  judge end length too_many = runs31
  judge end length (kept rs) = cond (ltb M end) range20 (cond (ltb (length / S) (count S end)) ceiling32 (fine rs))

  -- the test of 01's section "Commit", of a draft on a file, with a lent memory of so many bytes. "An overlay without size change, dirty page or record
  -- commits as accepted"
  unfoldable pub ground : ℕ → ℕ → List ZeroExtent → ℕ → List ℕ → List ZeroExtent → ℕ → Verdict
  ground base old runs new dirty recorded length =
      cond (eqb new old && (null dirty && null recorded)) (fine runs)
      (judge (farthest base (below (count P new) dirty) (base + new)) length (plan P L old new runs recorded dirty))

  -- "A commit is tested as above on these and the lent memory's length"
  unfoldable pub file_ground : File → Draft → ℕ → Verdict
  file_ground f d len = ground f.base (length f.bytes) f.runs (length d.bytes) d.dirty d.recorded len

  -- "accepted, the draft's size and bytes and the remaining set's maximal runs become the file's"
  abbrev pub taken : File → Draft → Verdict → File
  taken f d (fine rs) = record { bytes = d.bytes; base = f.base; runs = rs }
  taken f d runs31 = f
  taken f d range20 = f
  taken f d ceiling32 = f

  -- ## Each call

  module _ (k : Codec) where
    -- "the image in the memory": its block says size, base and number of runs
    unfoldable pub file_of : List ℕ → File
    file_of m = record {
      bytes = tabulate (k.decode m).db_size (λ o. cond (covers (k.runs_in (k.decode m).zero_extent_count m) (o / P)) 0 (get_or m ((k.decode m).db_base_offset + o) 0));
      base = (k.decode m).db_base_offset;
      runs = k.runs_in (k.decode m).zero_extent_count m;
    }

    -- "Opening and accepted import calls set it to the image in the memory they leave."
    abbrev pub from_memory : Bool → List ℕ → Plain → Plain
    from_memory true m p = closed (file_of m)
    from_memory false m p = p

    abbrev pub begun : Bool → Plain → Plain
    begun true (closed f) = drafting f (copied f)
    begun true (drafting f d) = drafting f d
    begun false p = p

    -- "A direct call, accepted, is a begin, itself and a commit. A write or truncation refused in an update spoils it"
    abbrev pub changed : Bool → (Draft → Draft) → ℕ → Plain → Plain
    changed true g len (closed f) = closed (taken f (g (copied f)) (file_ground f (g (copied f)) len))
    changed true g len (drafting f d) = drafting f (g d)
    changed false g len (closed f) = closed f
    changed false g len (drafting f d) = drafting f (spoil d)

    -- "Committed, refused at commit or rolled back, the draft goes." Spoiled: "accepted, that commit sets the file from memory again and the draft goes"
    abbrev pub committed : Bool → File → Draft → Told → Plain
    committed true f d t = from_memory (eqb t.number 0) t.after (closed f)
    committed false f d t = closed (taken f d (file_ground f d t.length))

    -- "With no draft, a commit is accepted and changes nothing."
    abbrev pub commits : Plain → Told → Plain
    commits (closed f) t = closed f
    commits (drafting f d) t = committed d.spoiled f d t

    abbrev pub ended : Plain → Plain
    ended (closed f) = closed f
    ended (drafting f d) = closed f

    -- "Nothing else changes it."
    abbrev pub plain_step : Plain → Call → Told → Plain
    plain_step p (begin g a b) t = begun (eqb t.number 0) p
    plain_step p (read o d) t = p
    plain_step p (write o bs) t = changed (eqb t.number 0) (draft_write P o bs) t.length p
    plain_step p (truncate n) t = changed (eqb t.number 0) (draft_truncate P n) t.length p
    plain_step p commit t = commits p t
    plain_step p rollback t = ended p
    plain_step p file_size t = p
    plain_step p (import_begin a e) t = from_memory (eqb t.number 0) t.after p
    plain_step p (import_chunk o bs) t = from_memory (eqb t.number 0) t.after p
    plain_step p import_finish t = from_memory (eqb t.number 0) t.after p
    plain_step p import_cancel t = from_memory (eqb t.number 0) t.after p
    plain_step p (export o d) t = p
    plain_step p checksum t = p
    plain_step p refresh t = p
    plain_step p (refresh_step n) t = p
