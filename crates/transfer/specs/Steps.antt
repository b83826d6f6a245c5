-- A call's answer with the state and memory that it leaves.
use Rattle.std.specs.Prelude.{ℕ, ◌+◌, ◌-◌, ◌*◌, max, min, Bool, cond, ◌&&◌, List, eqb, leb, length, Result, Ok, Err}
use Rattle.config.specs.declared.refusal.Refusal.{Refusal}
use Rattle.config.specs.declared.refusal.Refusal.TheVariants.{BufferTooShort, UpdateInProgress, ImportNotStarted}
use Rattle.memory.specs.Bytes.{overwrite}
use Rattle.memory.specs.Growth.{grow_to}
use Rattle.memory.specs.Growth.{Growth}
use Rattle.meta.specs.declared.superblock.Superblock.{Superblock}
use Rattle.fnv.specs.Fnv.{basis, fold}
use Rattle.image.specs.Reading.{image_of, resealed, restored}
use Rattle.update.specs.Lists.{tabulate_from}
use Rattle.update.specs.Image.{image_in}
use Rattle.store.specs.declared.State.{State}
use Rattle.store.specs.Answers.{Answer}
use Rattle.store.specs.Answers.{Done, Refreshed, Refused}
use Rattle.store.specs.Answers.{Step}
use Rattle.store.specs.Blocks.{importing, refreshing, after_import_chunk, after_refresh, after_refresh_step}
use Rattle.store.specs.Store.{onward}

-- 35, then 12: whether memory is lent, and whether an update is open
abbrev pub admission_by : Bool → Bool → Result (Unit {0}) Refusal
admission_by lent updating = cond lent (cond updating (Err UpdateInProgress) (Ok tt)) (Err BufferTooShort)

abbrev pub admission : State → List ℕ → Result (Unit {0}) Refusal
admission s m = admission_by (leb (s.count.0 * 65536) (length m)) s.updating

-- then 11: whether an import is open
abbrev pub import_admission_by : Bool → Result (Unit {0}) Refusal → Result (Unit {0}) Refusal
import_admission_by importing? (Ok u) = cond importing? (Ok u) (Err ImportNotStarted)
import_admission_by importing? (Err r) = Err r

abbrev pub import_admission : State → List ℕ → Result (Unit {0}) Refusal
import_admission s m = import_admission_by (importing s.block) (admission s m)

pub record StepOut : Type 0 where
  pub result : Step
  pub mem : List ℕ

abbrev pub step_out : Step → List ℕ → StepOut
step_out r m = record { result = r; mem = m }

abbrev pub step : State → Answer → Step
step s a = record { state = s; answer = a }

-- a state and memory
pub record BlockStored : Type 0 where
  pub state : State
  pub mem : List ℕ

abbrev pub block_stored : State → List ℕ → BlockStored
block_stored s m = record { state = s; mem = m }

-- a block is stored, with the image's runs as they are
abbrev pub restore_to : State → List ℕ → Superblock → Answer → StepOut
restore_to s m b a = step_out (step (onward s s.count.0 (resealed b m)) a) (restored b m)

-- memory m grew to g, or did not, and the chunk goes to its place
abbrev pub place_to : State → List ℕ → ℕ → List ℕ → List ℕ → Growth → StepOut
place_to s m o bs g (Err r) = step_out (step s (Refused r)) m
place_to s m o bs g (Ok c) =
    restore_to (onward s c.0 s.block) (overwrite (s.block.import_base_offset + o) bs g) (after_import_chunk (o + length bs) s.block) Done

-- the end in memory that a chunk needs: none if it is empty
abbrev pub chunk_reach : ℕ → ℕ → ℕ → ℕ
chunk_reach base end n = cond (eqb n 0) 0 (base + end)

unfoldable pub chunk_to : State → List ℕ → ℕ → List ℕ → StepOut
chunk_to s m o bs =
    let reach : ℕ = chunk_reach s.block.import_base_offset (o + length bs) (length bs) in
    place_to s m o bs (grow_to 65536 s.count.0 reach m).mem (grow_to 65536 s.count.0 reach m).growth

-- a refresh came to `end` with the hash `sum`
abbrev pub reached : State → List ℕ → Superblock → ℕ → ℕ → StepOut
reached s m b end sum =
    cond (eqb end b.db_size)
    (restore_to s m (after_refresh sum b) (Refreshed (record { complete = eqb end b.db_size; checksum = sum; scanned_bytes = end; db_size = b.db_size })))
    (restore_to s m (after_refresh_step end sum b) (Refreshed (record { complete = eqb end b.db_size; checksum = sum; scanned_bytes = end; db_size = b.db_size })))

-- up to n bytes of the block's image from `from` on, whose hash so far is x
unfoldable pub refresh_to : State → List ℕ → Superblock → ℕ → ℕ → ℕ → StepOut
refresh_to s m b n from x =
    let end : ℕ = max from (min b.db_size (from + n)) in
    reached s m b end (fold x (tabulate_from from (end - from) (image_in 16384 (image_of b) m)))

-- from where the refresh is, or anew
unfoldable pub refresh_step_to : State → List ℕ → Superblock → ℕ → StepOut
refresh_step_to s m b n =
    cond (refreshing b && eqb b.checksum_refresh_tx_id b.last_tx_id)
    (refresh_to s m b n b.checksum_refresh_offset b.checksum_refresh_hash)
    (refresh_to s m b n 0 basis)
