-- The C calls that were made keep what their functions' contracts promise.
use Rattle.std.specs.Prelude.{◌≡◌, ◌≤◌, List, [], ◌∷◌, length}
use Rattle.std.proofs.Common.{arith}
use Rattle.encoding.specs.Called.{open_called, open_at}
use Rattle.plain_file.specs.Sizes.{Word'}
use Rattle.host_calls.specs.Made.{ByC, AllByC}
use Rattle.host_calls.specs.CCalls.{CCall, COpened, answer_left, answer_passed, count_passed, made_all, made_of, memory_left, memory_passed, state_left, state_passed, yuharopu_begin_import, yuharopu_begin_update, yuharopu_cancel_import, yuharopu_checksum, yuharopu_commit_update, yuharopu_export_chunk, yuharopu_file_size, yuharopu_finish_import, yuharopu_import_chunk, yuharopu_read_at, yuharopu_refresh_checksum, yuharopu_refresh_checksum_chunk, yuharopu_rollback_update, yuharopu_truncate, yuharopu_write_at}

-- THE TIE: the contract of each of the fifteen functions is the one equation
pub by_c : (c : CCall) → ByC (made_of c)
by_c (yuharopu_begin_update x l) = x.promised l
by_c (yuharopu_read_at x w) = x.promised w
by_c (yuharopu_write_at x) = x.promised
by_c (yuharopu_truncate x) = x.promised
by_c (yuharopu_commit_update x) = x.promised
by_c (yuharopu_rollback_update x m w) = x.promised m w
by_c (yuharopu_file_size x l) = x.promised l
by_c (yuharopu_begin_import x b w) = x.promised b w
by_c (yuharopu_import_chunk x b w) = x.promised b w
by_c (yuharopu_finish_import x b w) = x.promised b w
by_c (yuharopu_cancel_import x b w) = x.promised b w
by_c (yuharopu_export_chunk x b w) = x.promised b w
by_c (yuharopu_checksum x b w) = x.promised b w
by_c (yuharopu_refresh_checksum x b w) = x.promised b w
by_c (yuharopu_refresh_checksum_chunk x b w) = x.promised b w

-- a size to truncate to is a number of 64 bits, by its type
pub typed : (c : CCall) → Word' (made_of c).call
typed (yuharopu_begin_update x l) = tt
typed (yuharopu_read_at x w) = tt
typed (yuharopu_write_at x) = tt
typed (yuharopu_truncate x) =
    let (state-typed, (mem-typed, (frames-typed, (numbers-typed, (clean-typed, (recs-typed, (work-typed, (size-typed, (Answer-typed, none))))))))) = x.typed in omega (arith, size-typed.1)
typed (yuharopu_commit_update x) = tt
typed (yuharopu_rollback_update x m w) = tt
typed (yuharopu_file_size x l) = tt
typed (yuharopu_begin_import x b w) = tt
typed (yuharopu_import_chunk x b w) = tt
typed (yuharopu_finish_import x b w) = tt
typed (yuharopu_cancel_import x b w) = tt
typed (yuharopu_export_chunk x b w) = tt
typed (yuharopu_checksum x b w) = tt
typed (yuharopu_refresh_checksum x b w) = tt
typed (yuharopu_refresh_checksum_chunk x b w) = tt

pub all_by_c : (cs : List CCall) → AllByC (made_all cs)
all_by_c [] = tt
all_by_c (c ∷ cs) = ((by_c c, typed c), all_by_c cs)

-- THE TIE of opening
pub open_by_c : (x : COpened) → open_called x.gave (state_left x) (memory_left x) (answer_left x) ≡ open_at (state_passed x) (answer_passed x) (memory_passed x) (count_passed x)
open_by_c x = x.promised

-- memory has no more bytes than numbers count, by its type
pub open_typed : (x : COpened) → length (memory_passed x) ≤ 18446744073709551615
open_typed x = omega (arith, x.typed.1.0.0)
