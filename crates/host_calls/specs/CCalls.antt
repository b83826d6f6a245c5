-- Calls that were made of the C functions. What is known of a call is what a caller learns by the function's own contract, and nothing is copied: a contract
-- that says less, or something else, fails here.
use Rattle.std.specs.Prelude.{ℕ, List, [], ◌∷◌}
use Rattle.update.specs.Laid.{bufs}
use Rattle.update.specs.Buffers.{Buffers}
use Rattle.store.specs.Calls.{Call, begin, read, write, truncate, commit, rollback, file_size, import_begin, import_chunk, import_finish, import_cancel, export, checksum, refresh, refresh_step, Lent}
use Rattle.transfer.specs.OnMemory.{lent}
use Rattle.yuharopu.specs.StoreCalls.{is_set}
use Rattle.plain_file.specs.BlobCalls.{CallOf}
use Rattle.host_calls.specs.Made.{Made}
use Rattle.yuharopu.proofs.yuharopu_begin_update.Kinds.{ps as ps-begin-update, r as r-begin-update}
use Rattle.yuharopu.proofs.yuharopu_begin_update.Reads.{Learnt as begin-update-promises}
use Rattle.yuharopu.proofs.yuharopu_read_at.Kinds.{ps as ps-read-at, r as r-read-at}
use Rattle.yuharopu.proofs.yuharopu_read_at.Reads.{Learnt as read-at-promises}
use Rattle.yuharopu.proofs.yuharopu_write_at.Kinds.{ps as ps-write-at, r as r-write-at}
use Rattle.yuharopu.proofs.yuharopu_write_at.Reads.{Learnt as write-at-promises}
use Rattle.yuharopu.proofs.yuharopu_truncate.Kinds.{ps as ps-truncate, r as r-truncate}
use Rattle.yuharopu.proofs.yuharopu_truncate.Reads.{Learnt as truncate-promises}
use Rattle.yuharopu.proofs.yuharopu_commit_update.Kinds.{ps as ps-commit-update, r as r-commit-update}
use Rattle.yuharopu.proofs.yuharopu_commit_update.Reads.{Learnt as commit-update-promises}
use Rattle.yuharopu.proofs.yuharopu_rollback_update.Kinds.{ps as ps-rollback-update, r as r-rollback-update}
use Rattle.yuharopu.proofs.yuharopu_rollback_update.Reads.{Learnt as rollback-update-promises}
use Rattle.yuharopu.proofs.yuharopu_file_size.Kinds.{ps as ps-file-size, r as r-file-size}
use Rattle.yuharopu.proofs.yuharopu_file_size.Reads.{Learnt as file-size-promises}
use Rattle.yuharopu.proofs.yuharopu_begin_import.Kinds.{ps as ps-begin-import, r as r-begin-import}
use Rattle.yuharopu.proofs.yuharopu_begin_import.Reads.{Learnt as begin-import-promises}
use Rattle.yuharopu.proofs.yuharopu_import_chunk.Kinds.{ps as ps-import-chunk, r as r-import-chunk}
use Rattle.yuharopu.proofs.yuharopu_import_chunk.Reads.{Learnt as import-chunk-promises}
use Rattle.yuharopu.proofs.yuharopu_finish_import.Kinds.{ps as ps-finish-import, r as r-finish-import}
use Rattle.yuharopu.proofs.yuharopu_finish_import.Reads.{Learnt as finish-import-promises}
use Rattle.yuharopu.proofs.yuharopu_cancel_import.Kinds.{ps as ps-cancel-import, r as r-cancel-import}
use Rattle.yuharopu.proofs.yuharopu_cancel_import.Reads.{Learnt as cancel-import-promises}
use Rattle.yuharopu.proofs.yuharopu_export_chunk.Kinds.{ps as ps-export-chunk, r as r-export-chunk}
use Rattle.yuharopu.proofs.yuharopu_export_chunk.Reads.{Learnt as export-chunk-promises}
use Rattle.yuharopu.proofs.yuharopu_checksum.Kinds.{ps as ps-checksum, r as r-checksum}
use Rattle.yuharopu.proofs.yuharopu_checksum.Reads.{Learnt as checksum-promises}
use Rattle.yuharopu.proofs.yuharopu_refresh_checksum.Kinds.{ps as ps-refresh-checksum, r as r-refresh-checksum}
use Rattle.yuharopu.proofs.yuharopu_refresh_checksum.Reads.{Learnt as refresh-checksum-promises}
use Rattle.yuharopu.proofs.yuharopu_refresh_checksum_chunk.Kinds.{ps as ps-refresh-checksum-chunk, r as r-refresh-checksum-chunk}
use Rattle.yuharopu.proofs.yuharopu_refresh_checksum_chunk.Reads.{Learnt as refresh-checksum-chunk-promises}
use Rattle.yuharopu.proofs.yuharopu_open.Kinds.{ps as ps-open, r as r-open}
use Rattle.yuharopu.proofs.yuharopu_open.Reads.{Learnt as open-promises}

-- any call, each with the slices that the host has and the function is not lent
pub data CCall : Type 0 where
  yuharopu_begin_update : CallOf 2 ps-begin-update r-begin-update begin-update-promises → Lent → CCall
  yuharopu_read_at : CallOf 8 ps-read-at r-read-at read-at-promises → List ℕ → CCall
  yuharopu_write_at : CallOf 9 ps-write-at r-write-at write-at-promises → CCall
  yuharopu_truncate : CallOf 8 ps-truncate r-truncate truncate-promises → CCall
  yuharopu_commit_update : CallOf 8 ps-commit-update r-commit-update commit-update-promises → CCall
  yuharopu_rollback_update : CallOf 6 ps-rollback-update r-rollback-update rollback-update-promises → List ℕ → List ℕ → CCall
  yuharopu_file_size : CallOf 2 ps-file-size r-file-size file-size-promises → Lent → CCall
  yuharopu_begin_import : CallOf 3 ps-begin-import r-begin-import begin-import-promises → Buffers → List ℕ → CCall
  yuharopu_import_chunk : CallOf 4 ps-import-chunk r-import-chunk import-chunk-promises → Buffers → List ℕ → CCall
  yuharopu_finish_import : CallOf 3 ps-finish-import r-finish-import finish-import-promises → Buffers → List ℕ → CCall
  yuharopu_cancel_import : CallOf 3 ps-cancel-import r-cancel-import cancel-import-promises → Buffers → List ℕ → CCall
  yuharopu_export_chunk : CallOf 4 ps-export-chunk r-export-chunk export-chunk-promises → Buffers → List ℕ → CCall
  yuharopu_checksum : CallOf 3 ps-checksum r-checksum checksum-promises → Buffers → List ℕ → CCall
  yuharopu_refresh_checksum : CallOf 3 ps-refresh-checksum r-refresh-checksum refresh-checksum-promises → Buffers → List ℕ → CCall
  yuharopu_refresh_checksum_chunk : CallOf 3 ps-refresh-checksum-chunk r-refresh-checksum-chunk refresh-checksum-chunk-promises → Buffers → List ℕ → CCall

module _ (st an : List ℕ) (l : Lent) (c : Call) where
  abbrev made : ℕ → List ℕ → List ℕ → Lent → List ℕ → Made
  made r st' an' l' f = record { state = st; answer = an; lent = l; call = c; returned = r; state' = st'; answer' = an'; lent' = l'; filled = f }

-- which argument is which: a name for each parameter, with a ' at exit. Slices that a function is not lent, or lent to read, stay
abbrev pub made_of : CCall → Made
made_of (yuharopu_begin_update x l) =
    let (state, (limited, (pages, (bytes, (answer, none))))) = x.passed in
    let (state', (limited', (pages', (bytes', (answer', none))))) = x.left in
    made state.now answer.now l (begin (is_set limited) pages bytes)
    x.gave state'.now answer'.now l []
made_of (yuharopu_read_at x w) =
    let (state, (mem, (frames, (numbers, (clean, (recs, (offset, (dst, (answer, none))))))))) = x.passed in
    let (state', (mem', (frames', (numbers', (clean', (recs', (offset', (dst', (answer', none))))))))) = x.left in
    made state.now answer.now (lent mem.now (bufs frames.now numbers.now clean.now recs.now) w) (read offset dst.now)
    x.gave state'.now answer'.now (lent mem.now (bufs frames.now numbers.now clean'.now recs.now) w) dst'.now
made_of (yuharopu_write_at x) =
    let (state, (mem, (frames, (numbers, (clean, (recs, (work, (offset, (src, (answer, none)))))))))) = x.passed in
    let (state', (mem', (frames', (numbers', (clean', (recs', (work', (offset', (src', (answer', none)))))))))) = x.left in
    made state.now answer.now (lent mem.now (bufs frames.now numbers.now clean.now recs.now) work.now) (write offset src.now)
    x.gave state'.now answer'.now (lent mem'.now (bufs frames'.now numbers'.now clean'.now recs'.now) work'.now) []
made_of (yuharopu_truncate x) =
    let (state, (mem, (frames, (numbers, (clean, (recs, (work, (size, (answer, none))))))))) = x.passed in
    let (state', (mem', (frames', (numbers', (clean', (recs', (work', (size', (answer', none))))))))) = x.left in
    made state.now answer.now (lent mem.now (bufs frames.now numbers.now clean.now recs.now) work.now) (truncate size)
    x.gave state'.now answer'.now (lent mem'.now (bufs frames'.now numbers'.now clean'.now recs'.now) work'.now) []
made_of (yuharopu_commit_update x) =
    let (state, (mem, (frames, (numbers, (clean, (recs, (work, (answer, none)))))))) = x.passed in
    let (state', (mem', (frames', (numbers', (clean', (recs', (work', (answer', none)))))))) = x.left in
    made state.now answer.now (lent mem.now (bufs frames.now numbers.now clean.now recs.now) work.now) commit
    x.gave state'.now answer'.now (lent mem'.now (bufs frames'.now numbers'.now clean'.now recs'.now) work'.now) []
made_of (yuharopu_rollback_update x m w) =
    let (state, (frames, (numbers, (clean, (recs, (answer, none)))))) = x.passed in
    let (state', (frames', (numbers', (clean', (recs', (answer', none)))))) = x.left in
    made state.now answer.now (lent m (bufs frames.now numbers.now clean.now recs.now) w) rollback
    x.gave state'.now answer'.now (lent m (bufs frames'.now numbers'.now clean'.now recs'.now) w) []
made_of (yuharopu_file_size x l) =
    let (state, (answer, none)) = x.passed in
    let (state', (answer', none)) = x.left in
    made state.now answer.now l file_size
    x.gave state.now answer'.now l []
made_of (yuharopu_begin_import x b w) =
    let (state, (mem, (total, (expected, (answer, none))))) = x.passed in
    let (state', (mem', (total', (expected', (answer', none))))) = x.left in
    made state.now answer.now (lent mem.now b w) (import_begin total expected)
    x.gave state'.now answer'.now (lent mem'.now b w) []
made_of (yuharopu_import_chunk x b w) =
    let (state, (mem, (offset, (src, (answer, none))))) = x.passed in
    let (state', (mem', (offset', (src', (answer', none))))) = x.left in
    made state.now answer.now (lent mem.now b w) (import_chunk offset src.now)
    x.gave state'.now answer'.now (lent mem'.now b w) []
made_of (yuharopu_finish_import x b w) =
    let (state, (mem, (answer, none))) = x.passed in
    let (state', (mem', (answer', none))) = x.left in
    made state.now answer.now (lent mem.now b w) import_finish
    x.gave state'.now answer'.now (lent mem'.now b w) []
made_of (yuharopu_cancel_import x b w) =
    let (state, (mem, (answer, none))) = x.passed in
    let (state', (mem', (answer', none))) = x.left in
    made state.now answer.now (lent mem.now b w) import_cancel
    x.gave state'.now answer'.now (lent mem'.now b w) []
made_of (yuharopu_export_chunk x b w) =
    let (state, (mem, (offset, (dst, (answer, none))))) = x.passed in
    let (state', (mem', (offset', (dst', (answer', none))))) = x.left in
    made state.now answer.now (lent mem.now b w) (export offset dst.now)
    x.gave state.now answer'.now (lent mem.now b w) dst'.now
made_of (yuharopu_checksum x b w) =
    let (state, (mem, (answer, none))) = x.passed in
    let (state', (mem', (answer', none))) = x.left in
    made state.now answer.now (lent mem.now b w) checksum
    x.gave state.now answer'.now (lent mem.now b w) []
made_of (yuharopu_refresh_checksum x b w) =
    let (state, (mem, (answer, none))) = x.passed in
    let (state', (mem', (answer', none))) = x.left in
    made state.now answer.now (lent mem.now b w) refresh
    x.gave state'.now answer'.now (lent mem'.now b w) []
made_of (yuharopu_refresh_checksum_chunk x b w) =
    let (state, (mem, (most, (answer, none)))) = x.passed in
    let (state', (mem', (most', (answer', none)))) = x.left in
    made state.now answer.now (lent mem.now b w) (refresh_step most)
    x.gave state'.now answer'.now (lent mem'.now b w) []

abbrev pub made_all : List CCall → List Made
made_all [] = []
made_all (c ∷ cs) = made_of c ∷ made_all cs

-- ## Opening

abbrev pub COpened : Type 0
COpened = CallOf 3 ps-open r-open open-promises

-- what was passed: the state's bytes, memory, the count of stable pages, and the list for the answer
abbrev pub state_passed : COpened → List ℕ
state_passed x = x.passed.0.now

abbrev pub memory_passed : COpened → List ℕ
memory_passed x = x.passed.1.0.now

abbrev pub count_passed : COpened → ℕ
count_passed x = x.passed.1.1.0

abbrev pub answer_passed : COpened → List ℕ
answer_passed x = x.passed.1.1.1.0.now

-- and what was left
abbrev pub state_left : COpened → List ℕ
state_left x = x.left.0.now

abbrev pub memory_left : COpened → List ℕ
memory_left x = x.left.1.0.now

abbrev pub answer_left : COpened → List ℕ
answer_left x = x.left.1.1.1.0.now
