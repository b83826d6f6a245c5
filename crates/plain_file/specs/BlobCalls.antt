-- Calls that were made of the functions of crate blob. What is known of a call is what a caller learns by the function's own contract, and nothing is copied:
-- a contract that says less, or something else, fails here.
use Rattle.std.specs.Prelude.{◌≡◌, ℕ, ◌≤◌, List, [], length}
use Rattle.std.proofs.Common.{arith}
use contract.Lifetimes.{Lfts}
use borrow.Fn.Kind.{ParamKind, ResultKind}
use borrow.Fn.Kinds.{Dens, GoodsP, Out as Promises, res_t, ended_of}
use denote.Triple.Clauses.{AtExit}
use Rattle.update.specs.Laid.{bufs}
use Rattle.update.specs.Buffers.{Buffers}
use Rattle.store.specs.declared.State.{State}
use Rattle.store.specs.Answers.{Answer, Size, Read, Exported, Checksum, Refreshed, answered, done}
use Rattle.store.specs.Codec.{real_codec}
use Rattle.store.specs.Opening.{open'}
use Rattle.store.specs.Calls.{Call, begin, read, write, truncate, commit, rollback, file_size, import_begin, import_chunk, import_finish, import_cancel, export, checksum, refresh, refresh_step, Lent, Out, out}
use Rattle.transfer.specs.OnMemory.{lent}
use Rattle.lending.specs.Lending.{calls}
use Rattle.opening.specs.Opened.{opened}
use Rattle.plain_file.specs.Sizes.{Word'}
use Rattle.opening.proofs.begin_update.Kinds.{ps as ps-begin-update, r as r-begin-update}
use Rattle.opening.proofs.begin_update.Reads.{Learnt as begin-update-promises}
use Rattle.reading.proofs.read_at.Kinds.{ps as ps-read-at, r as r-read-at}
use Rattle.reading.proofs.read_at.Reads.{Learnt as read-at-promises}
use Rattle.blob.proofs.write_at.Kinds.{ps as ps-write-at, r as r-write-at}
use Rattle.blob.proofs.write_at.Reads.{Learnt as write-at-promises}
use Rattle.blob.proofs.truncate.Kinds.{ps as ps-truncate, r as r-truncate}
use Rattle.blob.proofs.truncate.Reads.{Learnt as truncate-promises}
use Rattle.committing.proofs.commit_update.Kinds.{ps as ps-commit-update, r as r-commit-update}
use Rattle.committing.proofs.commit_update.Reads.{Learnt as commit-update-promises}
use Rattle.committing.proofs.rollback_update.Kinds.{ps as ps-rollback-update, r as r-rollback-update}
use Rattle.committing.proofs.rollback_update.Reads.{Learnt as rollback-update-promises}
use Rattle.reading.proofs.file_size.Kinds.{ps as ps-file-size, r as r-file-size}
use Rattle.reading.proofs.file_size.Reads.{Learnt as file-size-promises}
use Rattle.imports.proofs.begin_import.Kinds.{ps as ps-begin-import, r as r-begin-import}
use Rattle.imports.proofs.begin_import.Reads.{Learnt as begin-import-promises}
use Rattle.imports.proofs.import_chunk.Kinds.{ps as ps-import-chunk, r as r-import-chunk}
use Rattle.imports.proofs.import_chunk.Reads.{Learnt as import-chunk-promises}
use Rattle.imports.proofs.finish_import.Kinds.{ps as ps-finish-import, r as r-finish-import}
use Rattle.imports.proofs.finish_import.Reads.{Learnt as finish-import-promises}
use Rattle.imports.proofs.cancel_import.Kinds.{ps as ps-cancel-import, r as r-cancel-import}
use Rattle.imports.proofs.cancel_import.Reads.{Learnt as cancel-import-promises}
use Rattle.transfer.proofs.export_chunk.Kinds.{ps as ps-export-chunk, r as r-export-chunk}
use Rattle.transfer.proofs.export_chunk.Reads.{Learnt as export-chunk-promises}
use Rattle.transfer.proofs.checksum.Kinds.{ps as ps-checksum, r as r-checksum}
use Rattle.transfer.proofs.checksum.Reads.{Learnt as checksum-promises}
use Rattle.transfer.proofs.refresh_checksum.Kinds.{ps as ps-refresh-checksum, r as r-refresh-checksum}
use Rattle.transfer.proofs.refresh_checksum.Reads.{Learnt as refresh-checksum-promises}
use Rattle.transfer.proofs.refresh_checksum_chunk.Kinds.{ps as ps-refresh-checksum-chunk, r as r-refresh-checksum-chunk}
use Rattle.transfer.proofs.refresh_checksum_chunk.Reads.{Learnt as refresh-checksum-chunk-promises}
use Rattle.opening.proofs.open.Kinds.{ps as ps-open, r as r-open}
use Rattle.opening.proofs.open.Reads.{Learnt as open-promises}

-- a call of a function: what was passed, each argument of its type, what came back, the parameters at exit, and what the function's contract says of these
pub record CallOf (n : ℕ) (ps : List (ParamKind n)) (r : ResultKind n) (promises : Promises n ps r) : Type 0 where
  pub lifetimes : Lfts n
  pub passed : Dens lifetimes ps
  pub typed : GoodsP lifetimes ps passed
  pub gave : (res_t r lifetimes).Denot
  pub left : AtExit (ended_of n ps r) lifetimes
  pub promised : promises lifetimes passed gave left

-- any call, each with the slices that the caller has and the function is not lent
pub data BlobCall : Type 0 where
  blob_begin_update : CallOf 1 ps-begin-update r-begin-update begin-update-promises → Lent → BlobCall
  blob_read_at : CallOf 7 ps-read-at r-read-at read-at-promises → List ℕ → BlobCall
  blob_write_at : CallOf 8 ps-write-at r-write-at write-at-promises → BlobCall
  blob_truncate : CallOf 7 ps-truncate r-truncate truncate-promises → BlobCall
  blob_commit_update : CallOf 7 ps-commit-update r-commit-update commit-update-promises → BlobCall
  blob_rollback_update : CallOf 5 ps-rollback-update r-rollback-update rollback-update-promises → List ℕ → List ℕ → BlobCall
  blob_file_size : CallOf 1 ps-file-size r-file-size file-size-promises → Lent → BlobCall
  blob_begin_import : CallOf 2 ps-begin-import r-begin-import begin-import-promises → Buffers → List ℕ → BlobCall
  blob_import_chunk : CallOf 3 ps-import-chunk r-import-chunk import-chunk-promises → Buffers → List ℕ → BlobCall
  blob_finish_import : CallOf 2 ps-finish-import r-finish-import finish-import-promises → Buffers → List ℕ → BlobCall
  blob_cancel_import : CallOf 2 ps-cancel-import r-cancel-import cancel-import-promises → Buffers → List ℕ → BlobCall
  blob_export_chunk : CallOf 3 ps-export-chunk r-export-chunk export-chunk-promises → Buffers → List ℕ → BlobCall
  blob_checksum : CallOf 2 ps-checksum r-checksum checksum-promises → Buffers → List ℕ → BlobCall
  blob_refresh_checksum : CallOf 2 ps-refresh-checksum r-refresh-checksum refresh-checksum-promises → Buffers → List ℕ → BlobCall
  blob_refresh_checksum_chunk : CallOf 2 ps-refresh-checksum-chunk r-refresh-checksum-chunk refresh-checksum-chunk-promises → Buffers → List ℕ → BlobCall

-- a call in the store's words: what it was given, and what came out
pub record Made : Type 0 where
  pub state : State
  pub lent : Lent
  pub call : Call
  pub gave : Out

abbrev made : State → Lent → Call → Out → Made
made s l c x = record { state = s; lent = l; call = c; gave = x }

-- which argument is which: a name for each parameter, with a ' at exit. Slices that a function is not lent, or lent to read, stay
abbrev pub made_of : BlobCall → Made
made_of (blob_begin_update x l) =
    let (state, (limited, (pages, (bytes, none)))) = x.passed in
    let (state', (limited', (pages', (bytes', none)))) = x.left in
    made state.now l (begin limited pages bytes)
    (out state'.now l (answered Size x.gave) [])
made_of (blob_read_at x w) =
    let (state, (mem, (frames, (numbers, (clean, (recs, (offset, (dst, none)))))))) = x.passed in
    let (state', (mem', (frames', (numbers', (clean', (recs', (offset', (dst', none)))))))) = x.left in
    made state.now (lent mem.now (bufs frames.now numbers.now clean.now recs.now) w) (read offset dst.now)
    (out state'.now (lent mem.now (bufs frames.now numbers.now clean'.now recs.now) w) (answered Read x.gave) dst'.now)
made_of (blob_write_at x) =
    let (state, (mem, (frames, (numbers, (clean, (recs, (work, (offset, (src, none))))))))) = x.passed in
    let (state', (mem', (frames', (numbers', (clean', (recs', (work', (offset', (src', none))))))))) = x.left in
    made state.now (lent mem.now (bufs frames.now numbers.now clean.now recs.now) work.now) (write offset src.now)
    (out state'.now (lent mem'.now (bufs frames'.now numbers'.now clean'.now recs'.now) work'.now) (done x.gave) [])
made_of (blob_truncate x) =
    let (state, (mem, (frames, (numbers, (clean, (recs, (work, (size, none)))))))) = x.passed in
    let (state', (mem', (frames', (numbers', (clean', (recs', (work', (size', none)))))))) = x.left in
    made state.now (lent mem.now (bufs frames.now numbers.now clean.now recs.now) work.now) (truncate size)
    (out state'.now (lent mem'.now (bufs frames'.now numbers'.now clean'.now recs'.now) work'.now) (done x.gave) [])
made_of (blob_commit_update x) =
    let (state, (mem, (frames, (numbers, (clean, (recs, (work, none))))))) = x.passed in
    let (state', (mem', (frames', (numbers', (clean', (recs', (work', none))))))) = x.left in
    made state.now (lent mem.now (bufs frames.now numbers.now clean.now recs.now) work.now) commit
    (out state'.now (lent mem'.now (bufs frames'.now numbers'.now clean'.now recs'.now) work'.now) (done x.gave) [])
made_of (blob_rollback_update x m w) =
    let (state, (frames, (numbers, (clean, (recs, none))))) = x.passed in
    let (state', (frames', (numbers', (clean', (recs', none))))) = x.left in
    made state.now (lent m (bufs frames.now numbers.now clean.now recs.now) w) rollback
    (out state'.now (lent m (bufs frames'.now numbers'.now clean'.now recs'.now) w) (done x.gave) [])
made_of (blob_file_size x l) =
    let (state, none) = x.passed in
    made state.now l file_size
    (out state.now l (Size x.gave) [])
made_of (blob_begin_import x b w) =
    let (state, (mem, (total, (expected, none)))) = x.passed in
    let (state', (mem', (total', (expected', none)))) = x.left in
    made state.now (lent mem.now b w) (import_begin total expected)
    (out state'.now (lent mem'.now b w) (done x.gave) [])
made_of (blob_import_chunk x b w) =
    let (state, (mem, (offset, (src, none)))) = x.passed in
    let (state', (mem', (offset', (src', none)))) = x.left in
    made state.now (lent mem.now b w) (import_chunk offset src.now)
    (out state'.now (lent mem'.now b w) (done x.gave) [])
made_of (blob_finish_import x b w) =
    let (state, (mem, none)) = x.passed in
    let (state', (mem', none)) = x.left in
    made state.now (lent mem.now b w) import_finish
    (out state'.now (lent mem'.now b w) (done x.gave) [])
made_of (blob_cancel_import x b w) =
    let (state, (mem, none)) = x.passed in
    let (state', (mem', none)) = x.left in
    made state.now (lent mem.now b w) import_cancel
    (out state'.now (lent mem'.now b w) (done x.gave) [])
made_of (blob_export_chunk x b w) =
    let (state, (mem, (offset, (dst, none)))) = x.passed in
    let (state', (mem', (offset', (dst', none)))) = x.left in
    made state.now (lent mem.now b w) (export offset dst.now)
    (out state.now (lent mem.now b w) (answered Exported x.gave) dst'.now)
made_of (blob_checksum x b w) =
    let (state, (mem, none)) = x.passed in
    made state.now (lent mem.now b w) checksum
    (out state.now (lent mem.now b w) (answered Checksum x.gave) [])
made_of (blob_refresh_checksum x b w) =
    let (state, (mem, none)) = x.passed in
    let (state', (mem', none)) = x.left in
    made state.now (lent mem.now b w) refresh
    (out state'.now (lent mem'.now b w) (answered Checksum x.gave) [])
made_of (blob_refresh_checksum_chunk x b w) =
    let (state, (mem, (most, none))) = x.passed in
    let (state', (mem', (most', none))) = x.left in
    made state.now (lent mem.now b w) (refresh_step most)
    (out state'.now (lent mem'.now b w) (answered Refreshed x.gave) [])

-- THE TIE: the contract of each of the fifteen functions says that what came out is the store's
pub by_blob : (c : BlobCall) → (made_of c).gave ≡ calls (made_of c).state (made_of c).lent (made_of c).call
by_blob (blob_begin_update x l) = x.promised l
by_blob (blob_read_at x w) = x.promised w
by_blob (blob_write_at x) = x.promised
by_blob (blob_truncate x) = x.promised
by_blob (blob_commit_update x) = x.promised
by_blob (blob_rollback_update x m w) = x.promised m w
by_blob (blob_file_size x l) = x.promised l
by_blob (blob_begin_import x b w) = x.promised b w
by_blob (blob_import_chunk x b w) = x.promised b w
by_blob (blob_finish_import x b w) = x.promised b w
by_blob (blob_cancel_import x b w) = x.promised b w
by_blob (blob_export_chunk x b w) = x.promised b w
by_blob (blob_checksum x b w) = x.promised b w
by_blob (blob_refresh_checksum x b w) = x.promised b w
by_blob (blob_refresh_checksum_chunk x b w) = x.promised b w

-- a size to truncate to is a number of 64 bits, by its type
pub typed : (c : BlobCall) → Word' (made_of c).call
typed (blob_begin_update x l) = tt
typed (blob_read_at x w) = tt
typed (blob_write_at x) = tt
typed (blob_truncate x) =
    let (state-typed, (mem-typed, (frames-typed, (numbers-typed, (clean-typed, (recs-typed, (work-typed, (size-typed, none)))))))) = x.typed in omega (arith, size-typed.1)
typed (blob_commit_update x) = tt
typed (blob_rollback_update x m w) = tt
typed (blob_file_size x l) = tt
typed (blob_begin_import x b w) = tt
typed (blob_import_chunk x b w) = tt
typed (blob_finish_import x b w) = tt
typed (blob_cancel_import x b w) = tt
typed (blob_export_chunk x b w) = tt
typed (blob_checksum x b w) = tt
typed (blob_refresh_checksum x b w) = tt
typed (blob_refresh_checksum_chunk x b w) = tt

-- ## Opening

abbrev pub BlobOpened : Type 0
BlobOpened = CallOf 2 ps-open r-open open-promises

-- the memory that was lent, the count that was given, and what was left: the state, the answer and the memory
abbrev pub memory_passed : BlobOpened → List ℕ
memory_passed x = x.passed.1.0.now

abbrev pub count_passed : BlobOpened → ℕ
count_passed x = x.passed.1.1.0.0

abbrev pub state_left : BlobOpened → State
state_left x = x.left.0.now

abbrev pub answer_given : BlobOpened → Answer
answer_given x = done x.gave

abbrev pub memory_left : BlobOpened → List ℕ
memory_left x = x.left.1.0.now

-- THE TIE of opening
pub by_open : (x : BlobOpened) → opened (state_left x) (answer_given x) (memory_left x) ≡ open' 16384 65536 8 1024 18446744073709551615 real_codec (count_passed x) (memory_passed x)
by_open x = x.promised

-- memory has no more bytes than numbers count, by its type
pub open_typed : (x : BlobOpened) → length (memory_passed x) ≤ 18446744073709551615
open_typed x = omega (arith, x.typed.1.0.0)
