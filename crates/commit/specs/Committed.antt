-- A commit without the buffers that it clears in the end: the count, the block, memory and the answer.
use Rattle.std.specs.Prelude.{ℕ, ◌+◌, Bool, cond, ◌&&◌, List, ltb, eqb, length, Ok, Err}
use Rattle.config.specs.Pages.{count}
use Rattle.config.specs.declared.refusal.Refusal.TheVariants.{OffsetOverflow, ZeroExtentLimitExceeded}
use Rattle.config.specs.declared.StablePages.{StablePages}
use Rattle.memory.specs.Growth.{grow_to, stable}
use Rattle.memory.specs.Growth.{Growth}
use Rattle.meta.specs.declared.superblock.Superblock.{Superblock}
use Rattle.meta.specs.declared.ZeroExtent.{ZeroExtent}
use Rattle.extents.specs.Plan.{too_many, kept, below, Answer as Planned}
use Rattle.update.specs.Lists.{null}
use Rattle.update.specs.Pages.{Page, page_numbers}
use Rattle.store.specs.declared.State.{State}
use Rattle.store.specs.Answers.{Answer}
use Rattle.store.specs.Answers.{Done, Refused}
use Rattle.store.specs.Codec.{Codec, sealed, stored}
use Rattle.store.specs.Blocks.{after_commit}
use Rattle.store.specs.Plan.{store_plan, required}
use Rattle.store.specs.Store.{runs_of, write_pages}

-- the count and the block after a commit, and the answer
pub record Committed : Type 0 where
  pub count : StablePages
  pub block : Superblock
  pub answer : Answer

-- with memory
pub record Outcome : Type 0 where
  pub result : Committed
  pub mem : List ℕ

abbrev pub committed : ℕ → Superblock → Answer → List ℕ → Outcome
committed c b a m = record { result = record { count = stable c; block = b; answer = a }; mem = m }

-- a state's count and block
abbrev pub left_by : State → Answer → Committed
left_by s a = record { count = s.count; block = s.block; answer = a }

abbrev pub outcome : Committed → List ℕ → Outcome
outcome r m = record { result = r; mem = m }

-- page size, stable page size, cache pages, most runs, largest number
module _ (P S C L M : ℕ) (k : Codec) where
  -- memory stays
  abbrev pub kept_as : State → List ℕ → Answer → Outcome
  kept_as s m a = committed s.count.0 s.block a m

  -- u: an update's commit, or a direct call's; n: the new size; d: the dirty pages; g: memory grown, and whether it could
  abbrev pub publish_to : Bool → State → List ℕ → ℕ → List Page → List ZeroExtent → List ℕ → Growth → Outcome
  publish_to u s m n d rs g (Err r) = kept_as s m (Refused r)
  publish_to u s m n d rs g (Ok c) =
      let b : Superblock = after_commit P M u n (length rs) s.block in
      committed c.0 (sealed k b rs) Done (stored k b rs (write_pages P S C L M k s.block.db_base_offset (count P n) d g))

  abbrev pub settle_to : Bool → State → List ℕ → ℕ → List Page → Planned → Outcome
  settle_to u s m n d too_many = kept_as s m (Refused ZeroExtentLimitExceeded)
  settle_to u s m n d (kept rs) =
      let end : ℕ = required P s.block.db_base_offset (below (count P n) (page_numbers d)) (s.block.db_base_offset + n) in
      cond (ltb M end) (kept_as s m (Refused OffsetOverflow))
      (publish_to u s m n d rs (grow_to S s.count.0 end m).mem (grow_to S s.count.0 end m).growth)

  -- of an update of an image that had `begun` bytes
  unfoldable pub commit_to : Bool → State → List ℕ → ℕ → ℕ → List Page → List ZeroExtent → Outcome
  commit_to u s m begun n d recorded =
      cond (eqb n begun && (null (page_numbers d) && null recorded)) (kept_as s m Done)
      (settle_to u s m n d (store_plan P L s.block.db_size n (runs_of P S C L M k s.block m) recorded (page_numbers d)))
