-- Each call of the store, for any state and any bytes: the answer, the state, memory and every lent slice at the end. 35 first, then 10 of a
-- direct call while an import is open (02, W-203), then 01's tests in 01's order, then the effects in the source's order.
use Rattle.std.specs.Prelude.{ℕ, ◌+◌, ◌-◌, ◌*◌, max, min, Bool, true, false, not, cond, ◌&&◌, ◌||◌, List, [], ◌∷◌, ltb, leb, eqb, length, take, drop, Ok, Err}
use Rattle.config.specs.Pages.{count}
use Rattle.config.specs.declared.refusal.Refusal.{Refusal}
use Rattle.config.specs.declared.refusal.Refusal.TheVariants.{ImportAlreadyStarted, ImportNotStarted, UpdateInProgress, UpdateBegunTwice, OffsetOverflow, ImportOutOfOrder, ImportOutOfBounds, ImportIncomplete, ChecksumMismatch, ChecksumRefreshChunkEmpty, ZeroExtentLimitExceeded, BufferTooShort}
use Rattle.memory.specs.Bytes.{overwrite}
use Rattle.memory.specs.Growth.{grow_to, stable}
use Rattle.memory.specs.Growth.{Growth}
use Rattle.meta.specs.declared.superblock.Superblock.{Superblock}
use Rattle.meta.specs.declared.ZeroExtent.{ZeroExtent}
use Rattle.extents.specs.Plan.{too_many, kept, below, Answer as Planned}
use Rattle.update.specs.declared.Overlay.{Overlay}
use Rattle.update.specs.declared.Budget.{Budget}
use Rattle.update.specs.Lists.{tabulate, null}
use Rattle.update.specs.Pages.{Page, page_numbers}
use Rattle.update.specs.Image.{image_byte}
use Rattle.update.specs.Update.{Over, fresh, read_over, read_bytes, Tried, accepted, refused, left, try_write, try_truncate, truncate_reach}
use Rattle.update.specs.Buffers.{frame_count, entry_count, wiped, view, overlay_of, put_back, dirty_page}
use Rattle.store.specs.declared.State.{State}
use Rattle.store.specs.Answers.{Answer}
use Rattle.store.specs.Answers.{Done, Size, Read, Exported, Checksum, Refreshed, Refused}
use Rattle.store.specs.Codec.{Codec, sealed, stored}
use Rattle.store.specs.Blocks.{importing, refreshing, after_commit, after_import_begin, after_import_chunk, after_import_cancel, after_import_finish, after_refresh, after_refresh_step}
use Rattle.store.specs.Calls.{Call, begin, read, write, truncate, commit, rollback, file_size, import_begin, import_chunk, import_finish, import_cancel, export, checksum, refresh, refresh_step, Lent, Out, out, uses, lent_bytes, Mode, idle, update, mode_of, short, cleared, with_mem, with_buffers}
use Rattle.store.specs.Plan.{store_plan, required}

-- ## States

-- a state by its parts
abbrev pub made : ℕ → Superblock → Bool → Overlay → State
made c b u v = record { count = stable c; block = b; updating = u; overlay = v }

-- no update open, with whatever numbers the overlay has
abbrev pub resting : ℕ → Superblock → Overlay → State
resting c b v = made c b false v

abbrev pub working : ℕ → Superblock → Overlay → State
working c b v = made c b true v

-- the same update or none, on another count and block
abbrev pub onward : State → ℕ → Superblock → State
onward s c b = made c b s.updating s.overlay

-- no budget is passed yet
abbrev pub budget_of : Bool → ℕ → ℕ → Budget
budget_of limited pages bytes = record { limited = limited; max_pages = pages; max_bytes = bytes; passed = 0; peak_pages = 0; peak_bytes = 0 }

-- 02, W-203: "A direct write or truncation during an import .. refuses with 10"; "an empty direct write is still accepted"
abbrev pub changes : Call → Bool
changes (begin g p b) = false
changes (read o d) = false
changes (write o bs) = not (eqb (length bs) 0)
changes (truncate n) = true
changes commit = false
changes rollback = false
changes file_size = false
changes (import_begin t e) = false
changes (import_chunk o bs) = false
changes import_finish = false
changes import_cancel = false
changes (export o d) = false
changes checksum = false
changes refresh = false
changes (refresh_step n) = false

-- a write or a truncation would be direct, and an import is open
abbrev pub import_bars : State → Bool
import_bars s = not s.updating && importing s.block

abbrev pub barred : State → Call → Bool
barred s c = changes c && import_bars s

-- a refused call: what it was lent to fill stays
abbrev pub refuse : State → Lent → Call → Refusal → Out
refuse s l c r = out s l (Refused r) (lent_bytes c)

-- page size, stable page size, cache pages, most runs, largest number
module _ (P S C L M : ℕ) (k : Codec) where
  -- the overlay of a state without an update
  unfoldable pub no_overlay : Overlay
  no_overlay = overlay_of P C 0 (fresh P 0 (budget_of false 0 0))

  abbrev pub ended : ℕ → Superblock → State
  ended c b = resting c b no_overlay

  -- the image's runs lie in memory; the block has their number
  abbrev pub runs_of : Superblock → List ℕ → List ZeroExtent
  runs_of b m = k.runs_in b.zero_extent_count m

  -- the image's byte at each offset
  abbrev pub image : Superblock → List ℕ → ℕ → ℕ
  image b m = image_byte P b.db_size b.db_base_offset (runs_of b m) m

  unfoldable pub image_bytes : Superblock → List ℕ → ℕ → ℕ → List ℕ
  image_bytes b m o n = tabulate n (λ i. image b m (o + i))

  -- ## Commit

  -- 01: "Then those pages are written in place": the pages below c, in order of first touch
  abbrev pub write_pages : ℕ → ℕ → List Page → List ℕ → List ℕ
  write_pages base c [] m = m
  write_pages base c (g ∷ d) m = write_pages base c d (cond (ltb g.number c) (overwrite (base + g.number * P) g.bytes m) m)

  -- 01: "An overlay without size change, dirty page or record"
  unfoldable pub unchanged : ℕ → Over → Bool
  unchanged begun w = eqb w.size begun && (null (page_numbers w.dirty) && null w.recorded)

  -- the update or the direct call is over, and memory stays
  abbrev pub over : State → Lent → Answer → Out
  over s l a = out (ended s.count.0 s.block) (with_buffers (wiped l.bufs) l) a []

  -- 01: "Last, memory must reach the largest of them. Then those pages are written in place, then the superblock"
  abbrev pub publish : Bool → State → Lent → Over → List ZeroExtent → List ℕ → Growth → Out
  publish u s l w rs m (Err r) = over s l (Refused r)
  publish u s l w rs m (Ok c) =
      let b : Superblock = after_commit P M u w.size (length rs) s.block in
      out (ended c.0 (sealed k b rs))
      (with_mem (stored k b rs (write_pages s.block.db_base_offset (count P w.size) w.dirty m)) (with_buffers (wiped l.bufs) l))
      Done []

  -- 01: "base + size, and base + (page + 1) × 16,384 for each of those dirty pages, must be at most 2^64 − 1."
  abbrev pub settle : Bool → State → Lent → Over → Planned → Out
  settle u s l w too_many = over s l (Refused ZeroExtentLimitExceeded)
  settle u s l w (kept rs) =
      let end : ℕ = required P s.block.db_base_offset (below (count P w.size) (page_numbers w.dirty)) (s.block.db_base_offset + w.size) in
      cond (ltb M end) (over s l (Refused OffsetOverflow))
      (publish u s l w rs (grow_to S s.count.0 end l.mem).mem (grow_to S s.count.0 end l.mem).growth)

  unfoldable pub planned_runs : State → List ℕ → Over → Planned
  planned_runs s m w = store_plan P L s.block.db_size w.size (runs_of s.block m) w.recorded (page_numbers w.dirty)

  -- u: an update's commit, or a direct call's
  unfoldable pub commit_over : Bool → State → Lent → ℕ → Over → Out
  commit_over u s l begun w = cond (unchanged begun w) (over s l Done) (settle u s l w (planned_runs s l.mem w))

  -- ## Writes and truncations

  abbrev pub answer_of : Tried → Answer
  answer_of (accepted w) = Done
  answer_of (refused r w) = Refused r

  -- reach: the frames that the call had in use at most, where it left some of them again
  abbrev pub in_update : State → Lent → Overlay → ℕ → Tried → Out
  in_update s l v reach t =
      out (working s.count.0 s.block (overlay_of P C v.base_size (left t))) (with_buffers (put_back P C v (max v.dirty reach) (left t) l.bufs) l) (answer_of t) []

  -- 01: "A direct call, accepted, is a begin, itself and a commit"; "A direct call refused by any but 35 leaves memory unchanged and zeros there too.", by 02, W-203, any but
  -- 35 and 10
  abbrev pub direct : State → Lent → Tried → Out
  direct s l (accepted w) = commit_over false s l s.block.db_size w
  direct s l (refused r w) = over s l (Refused r)

  -- 01: a direct call "has no budget"
  abbrev pub change : State → Lent → (Over → Tried) → (Over → ℕ) → Mode → Out
  change s l f reach idle = direct s l (f (fresh P s.block.db_size (budget_of false 0 0)))
  change s l f reach (update v) = in_update s l v (reach (view P C v l.bufs)) (f (view P C v l.bufs))

  -- ## Begin, read, commit, rollback, size

  -- 01: "Beginning an update tests 10, then 13."
  abbrev pub do_begin : State → Lent → Budget → Bool → Mode → Out
  do_begin s l g true m = out s l (Refused ImportAlreadyStarted) []
  do_begin s l g false idle = out (working s.count.0 s.block (overlay_of P C s.block.db_size (fresh P s.block.db_size g))) l (Size s.block.db_size) []
  do_begin s l g false (update v) = out s l (Refused UpdateBegunTwice) []

  -- 01: "A read is full exactly when it is empty or ends at or before the size, else short; bytes past the size are zeros."
  abbrev pub full : ℕ → ℕ → ℕ → Bool
  full size o n = eqb n 0 || leb (o + n) size

  abbrev pub do_read : State → Lent → ℕ → ℕ → Mode → Out
  do_read s l o n idle = out s l (Read (full s.block.db_size o n)) (image_bytes s.block l.mem o n)
  do_read s l o n (update v) =
      let b : ℕ → ℕ = image s.block l.mem in
      let w : Over = read_over P C b o n (view P C v l.bufs) in
      out (working s.count.0 s.block (overlay_of P C v.base_size w)) (with_buffers (put_back P C v v.dirty w l.bufs) l)
      (Read (full v.size o n)) (read_bytes P C b o n (view P C v l.bufs))

  -- 01: an unchanged update "commits as accepted and stores no byte; so does a commit or rollback with no update open"
  abbrev pub do_commit : State → Lent → Mode → Out
  do_commit s l idle = out s l Done []
  do_commit s l (update v) = commit_over true s l v.base_size (view P C v l.bufs)

  abbrev pub do_rollback : State → Lent → Mode → Out
  do_rollback s l idle = out s l Done []
  do_rollback s l (update v) = over s l Done

  abbrev pub size_now : State → Mode → ℕ
  size_now s idle = s.block.db_size
  size_now s (update v) = v.size

  -- ## Imports, export, checksums

  -- a block is stored, with the image's runs as they are
  unfoldable pub restore : State → Lent → Superblock → Answer → Out
  restore s l b a = out (onward s s.count.0 (sealed k b (runs_of b l.mem))) (with_mem (stored k b (runs_of b l.mem) l.mem) l) a []

  -- 01: "its begin 12, 10, 20". The import's base is the end of memory as it is
  unfoldable pub do_import_begin : State → Lent → ℕ → ℕ → Out
  do_import_begin s l total expected =
      cond (importing s.block) (out s l (Refused ImportAlreadyStarted) [])
      (cond (ltb M (s.count.0 * S + total)) (out s l (Refused OffsetOverflow) [])
      (restore s l (after_import_begin total expected (s.count.0 * S) s.block) Done))

  -- memory grew, and the chunk goes to its place; 32 leaves all as it was
  abbrev pub place_chunk : State → Lent → ℕ → List ℕ → List ℕ → Growth → Out
  place_chunk s l o bs m (Err r) = out s l (Refused r) []
  place_chunk s l o bs m (Ok c) =
      restore (onward s c.0 s.block) (with_mem (overwrite (s.block.import_base_offset + o) bs m) l) (after_import_chunk (o + length bs) s.block) Done

  -- 01: "A chunk of an import tests 12, 11, 21, 20, 22, 32". A sum of base and offset above all numbers, which no image accepted at opening has, is
  -- 20 as in the source. An empty chunk needs no memory
  unfoldable pub do_import_chunk : State → Lent → ℕ → List ℕ → Out
  do_import_chunk s l o bs =
      let end : ℕ = o + length bs in
      let reach : ℕ = cond (eqb (length bs) 0) 0 (s.block.import_base_offset + end) in
      cond (not (importing s.block)) (out s l (Refused ImportNotStarted) [])
      (cond (not (eqb o s.block.import_written_until)) (out s l (Refused ImportOutOfOrder) [])
      (cond (ltb M end) (out s l (Refused OffsetOverflow) [])
      (cond (ltb s.block.import_total_size end) (out s l (Refused ImportOutOfBounds) [])
      (cond (ltb M (s.block.import_base_offset + end)) (out s l (Refused OffsetOverflow) [])
      (place_chunk s l o bs (grow_to S s.count.0 reach l.mem).mem (grow_to S s.count.0 reach l.mem).growth)))))

  -- 01: "its finish 12, 11, 23, 24"; 24 "with both: the import is closed, the rest unchanged"
  unfoldable pub do_import_finish : State → Lent → Out
  do_import_finish s l =
      let b : Superblock = s.block in
      let sum : ℕ = k.hash k.seed (take b.import_total_size (drop b.import_base_offset l.mem)) in
      let finished : Superblock = after_import_finish P sum b in
      cond (not (importing b)) (out s l (Refused ImportNotStarted) [])
      (cond (not (eqb b.import_written_until b.import_total_size)) (out s l (Refused ImportIncomplete) [])
      (cond (not (eqb sum b.import_expected_checksum)) (restore s l (after_import_cancel b) (Refused (ChecksumMismatch b.import_expected_checksum sum)))
      (out (onward s s.count.0 (sealed k finished [])) (with_mem (stored k finished [] l.mem) l) Done [])))

  -- 01: "its cancel 12, 11"
  unfoldable pub do_import_cancel : State → Lent → Out
  do_import_cancel s l = cond (not (importing s.block)) (out s l (Refused ImportNotStarted) []) (restore s l (after_import_cancel s.block) Done)

  -- 01: "Export fills the lent buffer up to its length or the size, answers how many bytes it wrote (0 from the size on), and leaves the rest of the buffer."
  unfoldable pub do_export : State → Lent → ℕ → List ℕ → Out
  do_export s l o d =
      let n : ℕ = min (length d) (s.block.db_size - o) in
      out s l (Exported n) (overwrite 0 (image_bytes s.block l.mem o n) d)

  -- the checksum of the whole image
  unfoldable pub image_sum : Superblock → List ℕ → ℕ
  image_sum b m = k.hash k.seed (image_bytes b m 0 b.db_size)

  unfoldable pub do_checksum : State → Lent → Out
  do_checksum s l = out s l (Checksum (image_sum s.block l.mem)) []

  unfoldable pub do_refresh : State → Lent → Out
  do_refresh s l = let sum : ℕ = image_sum s.block l.mem in restore s l (after_refresh sum s.block) (Checksum sum)

  abbrev pub progress : Bool → ℕ → ℕ → ℕ → Answer
  progress full sum offset size = Refreshed (record { complete = full; checksum = sum; scanned_bytes = offset; db_size = size })

  -- up to n bytes from `from` on, whose hash so far is x; an offset past the size stays there
  unfoldable pub refresh_from : State → Lent → ℕ → ℕ → ℕ → Out
  refresh_from s l n from x =
      let size : ℕ = s.block.db_size in
      let end : ℕ = max from (min size (from + n)) in
      let sum : ℕ = k.hash x (image_bytes s.block l.mem from (end - from)) in
      cond (eqb end size) (restore s l (after_refresh sum s.block) (progress true sum end size))
      (restore s l (after_refresh_step end sum s.block) (progress false sum end size))

  -- 01: "a refresh step 12, 25, 10"; "finding that the transaction number moved, clears its progress and calls itself, once at most": it starts anew
  unfoldable pub do_refresh_step : State → Lent → ℕ → Out
  do_refresh_step s l n =
      cond (eqb n 0) (out s l (Refused ChecksumRefreshChunkEmpty) [])
      (cond (importing s.block) (out s l (Refused ImportAlreadyStarted) [])
      (cond (refreshing s.block && eqb s.block.checksum_refresh_tx_id s.block.last_tx_id)
      (refresh_from s l n s.block.checksum_refresh_offset s.block.checksum_refresh_hash)
      (refresh_from s l n 0 k.seed)))

  -- 12: an update is open
  abbrev pub alone : State → Lent → Call → Out → Mode → Out
  alone s l c x idle = x
  alone s l c x (update v) = refuse s l c UpdateInProgress

  -- ## Every call

  abbrev pub act : State → Lent → Call → Out
  act s l (begin g p b) = do_begin s l (budget_of g p b) (importing s.block) (mode_of s)
  act s l (read o d) = do_read s l o (length d) (mode_of s)
  act s l (write o bs) = change s l (try_write P M (frame_count P l.bufs) (entry_count l.bufs) (image s.block l.mem) o bs) (λ u. 0) (mode_of s)
  act s l (truncate n) = change s l (try_truncate P M (frame_count P l.bufs) (entry_count l.bufs) (image s.block l.mem) n)
      (truncate_reach P M (frame_count P l.bufs) (entry_count l.bufs) (image s.block l.mem) n) (mode_of s)
  act s l commit = do_commit s l (mode_of s)
  act s l rollback = do_rollback s l (mode_of s)
  act s l file_size = out s l (Size (size_now s (mode_of s))) []
  act s l (import_begin t e) = alone s l (import_begin t e) (do_import_begin s l t e) (mode_of s)
  act s l (import_chunk o bs) = alone s l (import_chunk o bs) (do_import_chunk s l o bs) (mode_of s)
  act s l import_finish = alone s l import_finish (do_import_finish s l) (mode_of s)
  act s l import_cancel = alone s l import_cancel (do_import_cancel s l) (mode_of s)
  act s l (export o d) = alone s l (export o d) (do_export s l o d) (mode_of s)
  act s l checksum = alone s l checksum (do_checksum s l) (mode_of s)
  act s l refresh = alone s l refresh (do_refresh s l) (mode_of s)
  act s l (refresh_step n) = alone s l (refresh_step n) (do_refresh_step s l n) (mode_of s)

  abbrev pub swept : Bool → Out → Out
  swept true x = out x.state (cleared x.lent) x.answer x.filled
  swept false x = x

  -- 01: 35 "tested first everywhere, of what the call is lent; .. nothing changes"; "The work list is zeros after every call but 35." 02, W-203: a
  -- direct call while an import is open "refuses with 10, right after 35 and, like 35, with nothing changed, lent frames and lists included"
  unfoldable pub store : State → Lent → Call → Out
  store s l c =
      cond (short P S C L s l c) (refuse s l c BufferTooShort)
      (cond (barred s c) (refuse s l c ImportAlreadyStarted)
      (swept (uses c).work? (act s l c)))

  -- 01: "A dirty page is shown to callers as the part of the lent frames that holds it, empty if it is not dirty"; without an update none is
  abbrev pub dirty_in : Mode → List ℕ → List ℕ → ℕ → List ℕ
  dirty_in idle frames numbers q = []
  dirty_in (update v) frames numbers q = dirty_page P C v frames numbers q
