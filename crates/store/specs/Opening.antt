-- Opening: the current count and the memory are given; 35, then 1 to 3, then 4; or a fresh image at count 0. Then an import that is open is closed.
use Rattle.std.specs.Prelude.{◌≡◌, ℕ, ◌+◌, ◌*◌, Bool, true, false, ◌&&◌, ◌||◌, List, [], ltb, eqb, length, Ok, Err}
use Rattle.std.proofs.Math.Path.{refl, ap}
use Rattle.std.proofs.Math.Bool.{cond}
use Rattle.config.specs.declared.refusal.Refusal.{Refusal}
use Rattle.config.specs.declared.refusal.Refusal.TheVariants.{ImageOutOfMemory, BufferTooShort}
use Rattle.memory.specs.Growth.{grow_to}
use Rattle.memory.specs.Growth.{Growth}
use Rattle.meta.specs.declared.superblock.Superblock.{Superblock}
use Rattle.meta_load.specs.Load.{Loaded}
use Rattle.meta.specs.Block.{of_fields}
use Rattle.store.specs.declared.State.{State}
use Rattle.store.specs.Answers.{Answer}
use Rattle.store.specs.Answers.{Done, Refused}
use Rattle.store.specs.Codec.{Codec, sealed, stored}
use Rattle.store.specs.Blocks.{importing}
use Rattle.store.specs.Calls.{import_cancel, Lent, Out}
use Rattle.store.specs.Store.{resting, no_overlay, store}

pub record Opened : Type 0 where
  pub state : State
  pub answer : Answer
  pub mem : List ℕ

-- the block of a state that was not opened: all its fields are 0
abbrev pub no_block : Superblock
no_block = of_fields 0 0 0 []

-- an opening is lent memory alone
abbrev pub memory_alone : List ℕ → Lent
memory_alone m = record { mem = m; bufs = record { frames = []; numbers = []; clean = []; recs = [] }; work = [] }

-- what a call leaves of that
abbrev pub opened_by : Out → Opened
opened_by o = record { state = o.state; answer = o.answer; mem = o.lent.mem }

-- page size, stable page size, cache pages, most runs, largest number
module _ (P S C L M : ℕ) (k : Codec) where
  -- 01, 4: "base below 65,536, or base + size beyond memory (here the current count × 65,536 bytes, not the ceiling); while importing: the same of the
  -- import base and the bytes written, written above total, or import base + total above 2^64 − 1"
  unfoldable pub outside : ℕ → Superblock → Bool
  outside n b =
      ltb b.db_base_offset S || (ltb (n * S) (b.db_base_offset + b.db_size)
      || (importing b
      && (ltb b.import_base_offset S || (ltb (n * S) (b.import_base_offset + b.import_written_until)
      || (ltb b.import_total_size b.import_written_until || ltb M (b.import_base_offset + b.import_total_size))))))

  -- "memory unchanged"
  abbrev pub not_opened : ℕ → List ℕ → Refusal → Opened
  not_opened n m r = record { state = resting n no_block (no_overlay P S C L M k); answer = Refused r; mem = m }

  -- 01: "at count 0 it stores a fresh superblock, or answers 32 if the ceiling is 0"
  abbrev pub open_fresh : List ℕ → List ℕ → Growth → Opened
  open_fresh m grown (Err r) = not_opened 0 m r
  open_fresh m grown (Ok c) = record { state = resting c.0 (sealed k k.fresh []) (no_overlay P S C L M k); answer = Done; mem = stored k k.fresh [] grown }

  abbrev pub open_loaded : ℕ → List ℕ → Loaded → Opened
  open_loaded n m (Err r) = not_opened n m r
  open_loaded n m (Ok b) = cond (outside n b) (not_opened n m ImageOutOfMemory) record { state = resting n b (no_overlay P S C L M k); answer = Done; mem = m }

  -- 01's opening. "Opening is given that count"
  unfoldable pub open_image : ℕ → List ℕ → Opened
  open_image n m =
      cond (ltb (length m) (n * S)) (not_opened n m BufferTooShort)
      (cond (eqb n 0) (open_fresh m (grow_to S 0 S m).mem (grow_to S 0 S m).growth) (open_loaded n m (k.load m)))

  -- the cancel on what 01's opening left
  abbrev pub cancelled : Opened → Opened
  cancelled x = opened_by (store P S C L M k x.state (memory_alone x.mem) import_cancel)

  -- 02, W-202: "Opening an image with the importing mark, once accepted by 01's checks, closes it as `cancel_import` would and stores the superblock. Images
  -- without the mark open as before." A refused opening answers `no_block`, which has no mark
  unfoldable pub closing : Opened → Opened
  closing x = cond (importing x.state.block) (cancelled x) x

  unfoldable pub open' : ℕ → List ℕ → Opened
  open' n m = closing (open_image n m)

  pub open_is : (n : ℕ) (m : List ℕ) → open' n m ≡ closing (open_image n m)
  unfolding open'
  open_is n m = refl

  -- ## Laws: the mark alone decides

  module _ (x : Opened) where
    pub closing_marked : importing x.state.block ≡ true → closing x ≡ cancelled x
    unfolding closing
    closing_marked e = ap (λ (t : Bool). cond t (cancelled x) x) e

    pub closing_unmarked : importing x.state.block ≡ false → closing x ≡ x
    unfolding closing
    closing_unmarked e = ap (λ (t : Bool). cond t (cancelled x) x) e
