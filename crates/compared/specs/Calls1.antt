-- Calls of the store, compared with a model: made by tools/compare/compare.py keep (seed 1), not by hand.
use Rattle.std.specs.Prelude.{◌≡◌, refl, ℕ, Bool, true, false, List, [], ◌∷◌, ◌++◌}
use Rattle.config.specs.declared.refusal.Refusal.TheVariants.{ForeignStableMemoryImage, UnsupportedLayoutVersion, MetaChecksumMismatch, ImageOutOfMemory, ImportAlreadyStarted, ImportNotStarted, UpdateInProgress, UpdateBegunTwice, OffsetOverflow, ImportOutOfOrder, ImportOutOfBounds, ImportIncomplete, ChecksumMismatch, ChecksumRefreshChunkEmpty, BudgetExceeded, ZeroExtentLimitExceeded, GrowFailed, FramesFull, RecordFull, BufferTooShort}
use Rattle.store.specs.declared.State.{State}
use Rattle.store.specs.Answers.{Done, Size, Read, Exported, Checksum, Refreshed, Refused}
use Rattle.compared.specs.Shapes.{budget, overlay, state, lent, refreshed, opened}
use Rattle.config.specs.Pages.{count}
use Rattle.memory.specs.Bytes.{zeros, filled, overwrite, resize}
use Rattle.memory.specs.Growth.{stable, grow_to as growMemory, required as requiredPages}
use Rattle.meta.specs.Runs.{normalized}
use Rattle.meta.specs.Block.{magic, of_fields}
use Rattle.runs.specs.Sets.{within, merge, insert, add, around, piece, remove}
use Rattle.runs.specs.Flat.{runs_in as flatRuns}
use Rattle.extents.specs.Plan.{additions, add_one, remain, plan}
use Rattle.update.specs.Lists.{put, refill, tabulate}
use Rattle.update.specs.Pages.{add_number_if, span, grown_numbers}
use Rattle.update.specs.Image.{image_byte, image_page}
use Rattle.update.specs.Update.{push_run, raw, over_byte, budget_bytes, raised, touch, blank, copy, stretch, patch, finish, grow, grow_to, chop, tail, truncated, whole_page, over_write, written, fresh, look_up, sized, passing, marked, try_touch, try_patch, try_finish, try_grow, try_grow_to, try_tail, try_chop, try_truncate, try_write}
use Rattle.update.specs.Buffers.{frame_count, entry_count, wiped, cached, short_buffers, view, overlay_of, put_back, dirty_page}
use Rattle.store.specs.Codec.{stored}
use Rattle.store.specs.Small.{small_codec, small_sum, small_decode, small_runs, small_load, small_fresh}
use Rattle.store.specs.Blocks.{importing, stale, refreshing, marks, after_commit, after_import_begin, after_import_chunk, after_import_cancel, after_import_finish, after_refresh, after_refresh_step}
use Rattle.store.specs.Calls.{begin, read, write, truncate, commit, rollback, file_size, import_begin, import_chunk, import_finish, import_cancel, export, checksum, refresh, refresh_step, Lent, Out, out, mode_of, short}
use Rattle.store.specs.Plan.{store_plan}
use Rattle.store.specs.Store.{dirty_in, no_overlay, image_bytes, unchanged, planned_runs, commit_over, restore, do_import_begin, do_import_chunk, do_import_finish, do_import_cancel, do_export, image_sum, do_checksum, do_refresh, refresh_from, do_refresh_step, store}
use Rattle.store.specs.Opening.{Opened, outside, open_image, closing, open'}

-- open: accepted (unmerged record)
-- begin: accepted (unmerged record)
-- truncate in update: accepted (unmerged record)
-- truncate in update: accepted (unmerged record)
-- truncate in update: accepted (unmerged record)
-- commit in update: 31 (unmerged record)
c1 :
    (open' 4 24 2 3 199 small_codec 2 (20 ∷ 0 ∷ 0 ∷ 0 ∷ 0 ∷ 0 ∷ 0 ∷ 0 ∷ 0 ∷ 0 ∷ 0 ∷ 0 ∷ 24 ∷ 0 ∷ 0 ∷ 8 ∷ 3 ∷ 123 ∷ 8 ∷ 9 ∷ 20 ∷ 21 ∷ 30 ∷ 31 ∷ 7 ∷ 1 ∷ 0 ∷ 255 ∷ 1 ∷ 7 ∷ 7 ∷ 31 ∷ 7 ∷ 1 ∷ 0 ∷ 176 ∷ 53 ∷ 95 ∷ 233 ∷ 255 ∷ 1 ∷ 1 ∷ 7 ∷ 7 ∷ 29 ∷ 0 ∷ 7 ∷ 6 ∷ 5 ∷ 4 ∷ 7 ∷ 1 ∷ 4 ∷ 4 ∷ 7 ∷ 1 ∷ 6 ∷ 7 ∷ 4 ∷ 2 ∷ 7 ∷ 3 ∷ 7 ∷ 8 ∷ 7 ∷ 3 ∷ 3 ∷ 6 ∷ 7 ∷ 7 ∷ 7 ∷ 8 ∷ []) ≡ opened (state 2 (of_fields magic 8 2 (20 ∷ 0 ∷ 0 ∷ 0 ∷ 0 ∷ 0 ∷ 0 ∷ 0 ∷ 0 ∷ 0 ∷ 0 ∷ 0 ∷ 24 ∷ 0 ∷ 0 ∷ 8 ∷ 3 ∷ 123 ∷ [])) false (overlay 0 0 0 0 (0 ∷ 0 ∷ []) 0 (budget false 0 0 0 0 0))) (Done) (20 ∷ 0 ∷ 0 ∷ 0 ∷ 0 ∷ 0 ∷ 0 ∷ 0 ∷ 0 ∷ 0 ∷ 0 ∷ 0 ∷ 24 ∷ 0 ∷ 0 ∷ 8 ∷ 3 ∷ 123 ∷ 8 ∷ 9 ∷ 20 ∷ 21 ∷ 30 ∷ 31 ∷ 7 ∷ 1 ∷ 0 ∷ 255 ∷ 1 ∷ 7 ∷ 7 ∷ 31 ∷ 7 ∷ 1 ∷ 0 ∷ 176 ∷ 53 ∷ 95 ∷ 233 ∷ 255 ∷ 1 ∷ 1 ∷ 7 ∷ 7 ∷ 29 ∷ 0 ∷ 7 ∷ 6 ∷ 5 ∷ 4 ∷ 7 ∷ 1 ∷ 4 ∷ 4 ∷ 7 ∷ 1 ∷ 6 ∷ 7 ∷ 4 ∷ 2 ∷ 7 ∷ 3 ∷ 7 ∷ 8 ∷ 7 ∷ 3 ∷ 3 ∷ 6 ∷ 7 ∷ 7 ∷ 7 ∷ 8 ∷ [])) ×
    ((store 4 24 2 3 199 small_codec (state 2 (of_fields magic 8 2 (20 ∷ 0 ∷ 0 ∷ 0 ∷ 0 ∷ 0 ∷ 0 ∷ 0 ∷ 0 ∷ 0 ∷ 0 ∷ 0 ∷ 24 ∷ 0 ∷ 0 ∷ 8 ∷ 3 ∷ 123 ∷ [])) false (overlay 0 0 0 0 (0 ∷ 0 ∷ []) 0 (budget false 0 0 0 0 0))) (lent (20 ∷ 0 ∷ 0 ∷ 0 ∷ 0 ∷ 0 ∷ 0 ∷ 0 ∷ 0 ∷ 0 ∷ 0 ∷ 0 ∷ 24 ∷ 0 ∷ 0 ∷ 8 ∷ 3 ∷ 123 ∷ 8 ∷ 9 ∷ 20 ∷ 21 ∷ 30 ∷ 31 ∷ 7 ∷ 1 ∷ 0 ∷ 255 ∷ 1 ∷ 7 ∷ 7 ∷ 31 ∷ 7 ∷ 1 ∷ 0 ∷ 176 ∷ 53 ∷ 95 ∷ 233 ∷ 255 ∷ 1 ∷ 1 ∷ 7 ∷ 7 ∷ 29 ∷ 0 ∷ 7 ∷ 6 ∷ zeros 24) (zeros 8) (0 ∷ 0 ∷ []) (zeros 8) (1 ∷ 2 ∷ 6 ∷ 4 ∷ 7 ∷ 2 ∷ 5 ∷ 4 ∷ []) (zeros 16)) (begin false 0 0) ≡ out (state 2 (of_fields magic 8 2 (20 ∷ 0 ∷ 0 ∷ 0 ∷ 0 ∷ 0 ∷ 0 ∷ 0 ∷ 0 ∷ 0 ∷ 0 ∷ 0 ∷ 24 ∷ 0 ∷ 0 ∷ 8 ∷ 3 ∷ 123 ∷ [])) true (overlay 20 20 0 0 (0 ∷ 0 ∷ []) 0 (budget false 0 0 0 0 0))) (lent (20 ∷ 0 ∷ 0 ∷ 0 ∷ 0 ∷ 0 ∷ 0 ∷ 0 ∷ 0 ∷ 0 ∷ 0 ∷ 0 ∷ 24 ∷ 0 ∷ 0 ∷ 8 ∷ 3 ∷ 123 ∷ 8 ∷ 9 ∷ 20 ∷ 21 ∷ 30 ∷ 31 ∷ 7 ∷ 1 ∷ 0 ∷ 255 ∷ 1 ∷ 7 ∷ 7 ∷ 31 ∷ 7 ∷ 1 ∷ 0 ∷ 176 ∷ 53 ∷ 95 ∷ 233 ∷ 255 ∷ 1 ∷ 1 ∷ 7 ∷ 7 ∷ 29 ∷ 0 ∷ 7 ∷ 6 ∷ zeros 24) (zeros 8) (0 ∷ 0 ∷ []) (zeros 8) (1 ∷ 2 ∷ 6 ∷ 4 ∷ 7 ∷ 2 ∷ 5 ∷ 4 ∷ []) (zeros 16)) (Size 20) ([])) ×
    ((store 4 24 2 3 199 small_codec (state 2 (of_fields magic 8 2 (20 ∷ 0 ∷ 0 ∷ 0 ∷ 0 ∷ 0 ∷ 0 ∷ 0 ∷ 0 ∷ 0 ∷ 0 ∷ 0 ∷ 24 ∷ 0 ∷ 0 ∷ 8 ∷ 3 ∷ 123 ∷ [])) true (overlay 20 20 0 0 (0 ∷ 0 ∷ []) 0 (budget false 0 0 0 0 0))) (lent (20 ∷ 0 ∷ 0 ∷ 0 ∷ 0 ∷ 0 ∷ 0 ∷ 0 ∷ 0 ∷ 0 ∷ 0 ∷ 0 ∷ 24 ∷ 0 ∷ 0 ∷ 8 ∷ 3 ∷ 123 ∷ 8 ∷ 9 ∷ 20 ∷ 21 ∷ 30 ∷ 31 ∷ 7 ∷ 1 ∷ 0 ∷ 255 ∷ 1 ∷ 7 ∷ 7 ∷ 31 ∷ 7 ∷ 1 ∷ 0 ∷ 176 ∷ 53 ∷ 95 ∷ 233 ∷ 255 ∷ 1 ∷ 1 ∷ 7 ∷ 7 ∷ 29 ∷ 0 ∷ 7 ∷ 6 ∷ zeros 24) (zeros 8) (1 ∷ 5 ∷ []) (zeros 8) (1 ∷ 2 ∷ 6 ∷ 4 ∷ 7 ∷ 2 ∷ 5 ∷ 4 ∷ []) (zeros 16)) (truncate 24) ≡ out (state 2 (of_fields magic 8 2 (20 ∷ 0 ∷ 0 ∷ 0 ∷ 0 ∷ 0 ∷ 0 ∷ 0 ∷ 0 ∷ 0 ∷ 0 ∷ 0 ∷ 24 ∷ 0 ∷ 0 ∷ 8 ∷ 3 ∷ 123 ∷ [])) true (overlay 20 24 0 1 (0 ∷ 0 ∷ []) 0 (budget false 0 0 0 0 0))) (lent (20 ∷ 0 ∷ 0 ∷ 0 ∷ 0 ∷ 0 ∷ 0 ∷ 0 ∷ 0 ∷ 0 ∷ 0 ∷ 0 ∷ 24 ∷ 0 ∷ 0 ∷ 8 ∷ 3 ∷ 123 ∷ 8 ∷ 9 ∷ 20 ∷ 21 ∷ 30 ∷ 31 ∷ 7 ∷ 1 ∷ 0 ∷ 255 ∷ 1 ∷ 7 ∷ 7 ∷ 31 ∷ 7 ∷ 1 ∷ 0 ∷ 176 ∷ 53 ∷ 95 ∷ 233 ∷ 255 ∷ 1 ∷ 1 ∷ 7 ∷ 7 ∷ 29 ∷ 0 ∷ 7 ∷ 6 ∷ zeros 24) (zeros 8) (1 ∷ 5 ∷ []) (zeros 8) (5 ∷ 6 ∷ 6 ∷ 4 ∷ 7 ∷ 2 ∷ 5 ∷ 4 ∷ []) (zeros 16)) (Done) ([])) ×
    ((store 4 24 2 3 199 small_codec (state 2 (of_fields magic 8 2 (20 ∷ 0 ∷ 0 ∷ 0 ∷ 0 ∷ 0 ∷ 0 ∷ 0 ∷ 0 ∷ 0 ∷ 0 ∷ 0 ∷ 24 ∷ 0 ∷ 0 ∷ 8 ∷ 3 ∷ 123 ∷ [])) true (overlay 20 24 0 1 (0 ∷ 0 ∷ []) 0 (budget false 0 0 0 0 0))) (lent (20 ∷ 0 ∷ 0 ∷ 0 ∷ 0 ∷ 0 ∷ 0 ∷ 0 ∷ 0 ∷ 0 ∷ 0 ∷ 0 ∷ 24 ∷ 0 ∷ 0 ∷ 8 ∷ 3 ∷ 123 ∷ 8 ∷ 9 ∷ 20 ∷ 21 ∷ 30 ∷ 31 ∷ 7 ∷ 1 ∷ 0 ∷ 255 ∷ 1 ∷ 7 ∷ 7 ∷ 31 ∷ 7 ∷ 1 ∷ 0 ∷ 176 ∷ 53 ∷ 95 ∷ 233 ∷ 255 ∷ 1 ∷ 1 ∷ 7 ∷ 7 ∷ 29 ∷ 0 ∷ 7 ∷ 6 ∷ 1 ∷ 7 ∷ 8 ∷ 7 ∷ 5 ∷ 2 ∷ 5 ∷ 8 ∷ 7 ∷ 6 ∷ 8 ∷ 1 ∷ 5 ∷ 1 ∷ 3 ∷ 5 ∷ 2 ∷ 1 ∷ 2 ∷ 4 ∷ 1 ∷ 3 ∷ 6 ∷ 4 ∷ []) (zeros 8) (0 ∷ 0 ∷ []) (zeros 8) (5 ∷ 6 ∷ 6 ∷ 4 ∷ 7 ∷ 2 ∷ 5 ∷ 4 ∷ []) (2 ∷ 2 ∷ 8 ∷ 6 ∷ 7 ∷ 8 ∷ 6 ∷ 2 ∷ 8 ∷ 2 ∷ 5 ∷ 2 ∷ 1 ∷ 1 ∷ 7 ∷ 3 ∷ [])) (truncate 32) ≡ out (state 2 (of_fields magic 8 2 (20 ∷ 0 ∷ 0 ∷ 0 ∷ 0 ∷ 0 ∷ 0 ∷ 0 ∷ 0 ∷ 0 ∷ 0 ∷ 0 ∷ 24 ∷ 0 ∷ 0 ∷ 8 ∷ 3 ∷ 123 ∷ [])) true (overlay 20 32 0 2 (0 ∷ 0 ∷ []) 0 (budget false 0 0 0 0 0))) (lent (20 ∷ 0 ∷ 0 ∷ 0 ∷ 0 ∷ 0 ∷ 0 ∷ 0 ∷ 0 ∷ 0 ∷ 0 ∷ 0 ∷ 24 ∷ 0 ∷ 0 ∷ 8 ∷ 3 ∷ 123 ∷ 8 ∷ 9 ∷ 20 ∷ 21 ∷ 30 ∷ 31 ∷ 7 ∷ 1 ∷ 0 ∷ 255 ∷ 1 ∷ 7 ∷ 7 ∷ 31 ∷ 7 ∷ 1 ∷ 0 ∷ 176 ∷ 53 ∷ 95 ∷ 233 ∷ 255 ∷ 1 ∷ 1 ∷ 7 ∷ 7 ∷ 29 ∷ 0 ∷ 7 ∷ 6 ∷ 1 ∷ 7 ∷ 8 ∷ 7 ∷ 5 ∷ 2 ∷ 5 ∷ 8 ∷ 7 ∷ 6 ∷ 8 ∷ 1 ∷ 5 ∷ 1 ∷ 3 ∷ 5 ∷ 2 ∷ 1 ∷ 2 ∷ 4 ∷ 1 ∷ 3 ∷ 6 ∷ 4 ∷ []) (zeros 8) (0 ∷ 0 ∷ []) (zeros 8) (5 ∷ 6 ∷ 6 ∷ 8 ∷ 7 ∷ 2 ∷ 5 ∷ 4 ∷ []) (zeros 16)) (Done) ([])) ×
    ((store 4 24 2 3 199 small_codec (state 2 (of_fields magic 8 2 (20 ∷ 0 ∷ 0 ∷ 0 ∷ 0 ∷ 0 ∷ 0 ∷ 0 ∷ 0 ∷ 0 ∷ 0 ∷ 0 ∷ 24 ∷ 0 ∷ 0 ∷ 8 ∷ 3 ∷ 123 ∷ [])) true (overlay 20 32 0 2 (0 ∷ 0 ∷ []) 0 (budget false 0 0 0 0 0))) (lent (20 ∷ 0 ∷ 0 ∷ 0 ∷ 0 ∷ 0 ∷ 0 ∷ 0 ∷ 0 ∷ 0 ∷ 0 ∷ 0 ∷ 24 ∷ 0 ∷ 0 ∷ 8 ∷ 3 ∷ 123 ∷ 8 ∷ 9 ∷ 20 ∷ 21 ∷ 30 ∷ 31 ∷ 7 ∷ 1 ∷ 0 ∷ 255 ∷ 1 ∷ 7 ∷ 7 ∷ 31 ∷ 7 ∷ 1 ∷ 0 ∷ 176 ∷ 53 ∷ 95 ∷ 233 ∷ 255 ∷ 1 ∷ 1 ∷ 7 ∷ 7 ∷ 29 ∷ 0 ∷ 7 ∷ 6 ∷ 1 ∷ 7 ∷ 8 ∷ 7 ∷ 5 ∷ 2 ∷ 5 ∷ 8 ∷ 7 ∷ 6 ∷ 8 ∷ 1 ∷ 5 ∷ 1 ∷ 3 ∷ 5 ∷ 2 ∷ 1 ∷ 2 ∷ 4 ∷ 1 ∷ 3 ∷ 6 ∷ 4 ∷ []) (zeros 8) (0 ∷ 0 ∷ []) (7 ∷ 8 ∷ 2 ∷ 5 ∷ 1 ∷ 4 ∷ 8 ∷ 2 ∷ []) (5 ∷ 6 ∷ 6 ∷ 8 ∷ 3 ∷ 8 ∷ 5 ∷ 5 ∷ []) (zeros 16)) (truncate 20) ≡ out (state 2 (of_fields magic 8 2 (20 ∷ 0 ∷ 0 ∷ 0 ∷ 0 ∷ 0 ∷ 0 ∷ 0 ∷ 0 ∷ 0 ∷ 0 ∷ 0 ∷ 24 ∷ 0 ∷ 0 ∷ 8 ∷ 3 ∷ 123 ∷ [])) true (overlay 20 20 0 3 (0 ∷ 0 ∷ []) 0 (budget false 0 0 0 0 0))) (lent (20 ∷ 0 ∷ 0 ∷ 0 ∷ 0 ∷ 0 ∷ 0 ∷ 0 ∷ 0 ∷ 0 ∷ 0 ∷ 0 ∷ 24 ∷ 0 ∷ 0 ∷ 8 ∷ 3 ∷ 123 ∷ 8 ∷ 9 ∷ 20 ∷ 21 ∷ 30 ∷ 31 ∷ 7 ∷ 1 ∷ 0 ∷ 255 ∷ 1 ∷ 7 ∷ 7 ∷ 31 ∷ 7 ∷ 1 ∷ 0 ∷ 176 ∷ 53 ∷ 95 ∷ 233 ∷ 255 ∷ 1 ∷ 1 ∷ 7 ∷ 7 ∷ 29 ∷ 0 ∷ 7 ∷ 6 ∷ 1 ∷ 7 ∷ 8 ∷ 7 ∷ 5 ∷ 2 ∷ 5 ∷ 8 ∷ 7 ∷ 6 ∷ 8 ∷ 1 ∷ 5 ∷ 1 ∷ 3 ∷ 5 ∷ 2 ∷ 1 ∷ 2 ∷ 4 ∷ 1 ∷ 3 ∷ 6 ∷ 4 ∷ []) (zeros 8) (0 ∷ 0 ∷ []) (7 ∷ 8 ∷ 2 ∷ 5 ∷ 1 ∷ 4 ∷ 8 ∷ 2 ∷ []) (5 ∷ 6 ∷ 6 ∷ 8 ∷ 5 ∷ 8 ∷ 5 ∷ 5 ∷ []) (zeros 16)) (Done) ([])) ×
    ((store 4 24 2 3 199 small_codec (state 2 (of_fields magic 8 2 (20 ∷ 0 ∷ 0 ∷ 0 ∷ 0 ∷ 0 ∷ 0 ∷ 0 ∷ 0 ∷ 0 ∷ 0 ∷ 0 ∷ 24 ∷ 0 ∷ 0 ∷ 8 ∷ 3 ∷ 123 ∷ [])) true (overlay 20 20 0 3 (0 ∷ 0 ∷ []) 0 (budget false 0 0 0 0 0))) (lent (20 ∷ 0 ∷ 0 ∷ 0 ∷ 0 ∷ 0 ∷ 0 ∷ 0 ∷ 0 ∷ 0 ∷ 0 ∷ 0 ∷ 24 ∷ 0 ∷ 0 ∷ 8 ∷ 3 ∷ 123 ∷ 8 ∷ 9 ∷ 20 ∷ 21 ∷ 30 ∷ 31 ∷ 7 ∷ 1 ∷ 0 ∷ 255 ∷ 1 ∷ 7 ∷ 7 ∷ 31 ∷ 7 ∷ 1 ∷ 0 ∷ 176 ∷ 53 ∷ 95 ∷ 233 ∷ 255 ∷ 1 ∷ 1 ∷ 7 ∷ 7 ∷ 29 ∷ 0 ∷ 7 ∷ 6 ∷ zeros 24) (zeros 8) (0 ∷ 0 ∷ []) (zeros 8) (5 ∷ 6 ∷ 6 ∷ 8 ∷ 5 ∷ 8 ∷ 1 ∷ 6 ∷ []) (zeros 16)) (commit) ≡ out (state 2 (of_fields magic 8 2 (20 ∷ 0 ∷ 0 ∷ 0 ∷ 0 ∷ 0 ∷ 0 ∷ 0 ∷ 0 ∷ 0 ∷ 0 ∷ 0 ∷ 24 ∷ 0 ∷ 0 ∷ 8 ∷ 3 ∷ 123 ∷ [])) false (overlay 0 0 0 0 (0 ∷ 0 ∷ []) 0 (budget false 0 0 0 0 0))) (lent (20 ∷ 0 ∷ 0 ∷ 0 ∷ 0 ∷ 0 ∷ 0 ∷ 0 ∷ 0 ∷ 0 ∷ 0 ∷ 0 ∷ 24 ∷ 0 ∷ 0 ∷ 8 ∷ 3 ∷ 123 ∷ 8 ∷ 9 ∷ 20 ∷ 21 ∷ 30 ∷ 31 ∷ 7 ∷ 1 ∷ 0 ∷ 255 ∷ 1 ∷ 7 ∷ 7 ∷ 31 ∷ 7 ∷ 1 ∷ 0 ∷ 176 ∷ 53 ∷ 95 ∷ 233 ∷ 255 ∷ 1 ∷ 1 ∷ 7 ∷ 7 ∷ 29 ∷ 0 ∷ 7 ∷ 6 ∷ zeros 24) (zeros 8) (0 ∷ 0 ∷ []) (zeros 8) (zeros 8) (zeros 16)) (Refused (ZeroExtentLimitExceeded)) ([])))))))
unfolding count filled overwrite resize growMemory requiredPages normalized within merge insert add around piece remove flatRuns additions add_one remain plan put refill tabulate add_number_if span grown_numbers image_byte image_page push_run raw over_byte budget_bytes raised touch blank copy stretch patch finish grow grow_to chop tail truncated whole_page over_write written fresh look_up sized passing marked try_touch try_patch try_finish try_grow try_grow_to try_tail try_chop try_truncate try_write frame_count entry_count wiped cached short_buffers view overlay_of put_back dirty_page stored small_codec small_sum small_decode small_runs small_load small_fresh importing stale refreshing marks after_commit after_import_begin after_import_chunk after_import_cancel after_import_finish after_refresh after_refresh_step short store_plan no_overlay image_bytes unchanged planned_runs commit_over restore do_import_begin do_import_chunk do_import_finish do_import_cancel do_export image_sum do_checksum do_refresh refresh_from do_refresh_step store outside open_image closing open'
c1 = (refl, (refl, (refl, (refl, (refl, (refl))))))

-- open: accepted (direct in import)
-- import_begin: accepted (direct in import)
-- write direct: 10 (direct in import)
-- truncate direct: 10 (direct in import)
-- write direct: 10 (direct in import)
-- write direct: empty in import (direct in import)
-- import_chunk: accepted (direct in import)
-- write direct: 10 (direct in import)
-- import_cancel: accepted (direct in import)
-- write direct: accepted (direct in import)
-- import_begin: accepted (direct in import)
-- truncate direct: 10 (direct in import)
-- import_finish: 24 (direct in import)
-- truncate direct: accepted (direct in import)
c2 :
    (open' 4 24 2 3 199 small_codec 2 (3 ∷ 0 ∷ 0 ∷ 0 ∷ 0 ∷ 0 ∷ 0 ∷ 0 ∷ 0 ∷ 0 ∷ 0 ∷ 0 ∷ 24 ∷ 0 ∷ 0 ∷ 8 ∷ 0 ∷ 137 ∷ 0 ∷ 193 ∷ 160 ∷ 1 ∷ 7 ∷ 1 ∷ 49 ∷ 7 ∷ 0 ∷ 255 ∷ 1 ∷ 1 ∷ 0 ∷ 0 ∷ 1 ∷ 0 ∷ 1 ∷ 1 ∷ 0 ∷ 0 ∷ 169 ∷ 255 ∷ 13 ∷ 0 ∷ 45 ∷ 255 ∷ 0 ∷ 0 ∷ 7 ∷ 0 ∷ 8 ∷ 3 ∷ 6 ∷ 6 ∷ 2 ∷ 3 ∷ 4 ∷ 7 ∷ 1 ∷ 4 ∷ 3 ∷ 5 ∷ 4 ∷ 2 ∷ 3 ∷ 4 ∷ 8 ∷ 8 ∷ 4 ∷ 5 ∷ 1 ∷ 6 ∷ 6 ∷ 2 ∷ []) ≡ opened (state 2 (of_fields magic 8 2 (3 ∷ 0 ∷ 0 ∷ 0 ∷ 0 ∷ 0 ∷ 0 ∷ 0 ∷ 0 ∷ 0 ∷ 0 ∷ 0 ∷ 24 ∷ 0 ∷ 0 ∷ 8 ∷ 0 ∷ 137 ∷ [])) false (overlay 0 0 0 0 (0 ∷ 0 ∷ []) 0 (budget false 0 0 0 0 0))) (Done) (3 ∷ 0 ∷ 0 ∷ 0 ∷ 0 ∷ 0 ∷ 0 ∷ 0 ∷ 0 ∷ 0 ∷ 0 ∷ 0 ∷ 24 ∷ 0 ∷ 0 ∷ 8 ∷ 0 ∷ 137 ∷ 0 ∷ 193 ∷ 160 ∷ 1 ∷ 7 ∷ 1 ∷ 49 ∷ 7 ∷ 0 ∷ 255 ∷ 1 ∷ 1 ∷ 0 ∷ 0 ∷ 1 ∷ 0 ∷ 1 ∷ 1 ∷ 0 ∷ 0 ∷ 169 ∷ 255 ∷ 13 ∷ 0 ∷ 45 ∷ 255 ∷ 0 ∷ 0 ∷ 7 ∷ 0 ∷ 8 ∷ 3 ∷ 6 ∷ 6 ∷ 2 ∷ 3 ∷ 4 ∷ 7 ∷ 1 ∷ 4 ∷ 3 ∷ 5 ∷ 4 ∷ 2 ∷ 3 ∷ 4 ∷ 8 ∷ 8 ∷ 4 ∷ 5 ∷ 1 ∷ 6 ∷ 6 ∷ 2 ∷ [])) ×
    ((store 4 24 2 3 199 small_codec (state 2 (of_fields magic 8 2 (3 ∷ 0 ∷ 0 ∷ 0 ∷ 0 ∷ 0 ∷ 0 ∷ 0 ∷ 0 ∷ 0 ∷ 0 ∷ 0 ∷ 24 ∷ 0 ∷ 0 ∷ 8 ∷ 0 ∷ 137 ∷ [])) false (overlay 0 0 0 0 (0 ∷ 0 ∷ []) 0 (budget false 0 0 0 0 0))) (lent (3 ∷ 0 ∷ 0 ∷ 0 ∷ 0 ∷ 0 ∷ 0 ∷ 0 ∷ 0 ∷ 0 ∷ 0 ∷ 0 ∷ 24 ∷ 0 ∷ 0 ∷ 8 ∷ 0 ∷ 137 ∷ 0 ∷ 193 ∷ 160 ∷ 1 ∷ 7 ∷ 1 ∷ 49 ∷ 7 ∷ 0 ∷ 255 ∷ 1 ∷ 1 ∷ 0 ∷ 0 ∷ 1 ∷ 0 ∷ 1 ∷ 1 ∷ 0 ∷ 0 ∷ 169 ∷ 255 ∷ 13 ∷ 0 ∷ 45 ∷ 255 ∷ 0 ∷ 0 ∷ 7 ∷ zeros 25) (6 ∷ 6 ∷ 1 ∷ 6 ∷ 5 ∷ 2 ∷ 3 ∷ 6 ∷ []) (0 ∷ 0 ∷ []) (zeros 8) (8 ∷ 7 ∷ 2 ∷ 3 ∷ 5 ∷ 1 ∷ 3 ∷ 7 ∷ []) (5 ∷ 3 ∷ 3 ∷ 1 ∷ 2 ∷ 7 ∷ 2 ∷ 6 ∷ 4 ∷ 3 ∷ 5 ∷ 5 ∷ 8 ∷ 3 ∷ 8 ∷ 8 ∷ [])) (import_begin 5 0) ≡ out (state 2 (of_fields magic 8 2 (3 ∷ 0 ∷ 0 ∷ 1 ∷ 0 ∷ 0 ∷ 0 ∷ 5 ∷ 48 ∷ 0 ∷ 0 ∷ 0 ∷ 24 ∷ 0 ∷ 0 ∷ 8 ∷ 0 ∷ 245 ∷ [])) false (overlay 0 0 0 0 (0 ∷ 0 ∷ []) 0 (budget false 0 0 0 0 0))) (lent (3 ∷ 0 ∷ 0 ∷ 1 ∷ 0 ∷ 0 ∷ 0 ∷ 5 ∷ 48 ∷ 0 ∷ 0 ∷ 0 ∷ 24 ∷ 0 ∷ 0 ∷ 8 ∷ 0 ∷ 245 ∷ 0 ∷ 193 ∷ 160 ∷ 1 ∷ 7 ∷ 1 ∷ 49 ∷ 7 ∷ 0 ∷ 255 ∷ 1 ∷ 1 ∷ 0 ∷ 0 ∷ 1 ∷ 0 ∷ 1 ∷ 1 ∷ 0 ∷ 0 ∷ 169 ∷ 255 ∷ 13 ∷ 0 ∷ 45 ∷ 255 ∷ 0 ∷ 0 ∷ 7 ∷ zeros 25) (6 ∷ 6 ∷ 1 ∷ 6 ∷ 5 ∷ 2 ∷ 3 ∷ 6 ∷ []) (0 ∷ 0 ∷ []) (zeros 8) (8 ∷ 7 ∷ 2 ∷ 3 ∷ 5 ∷ 1 ∷ 3 ∷ 7 ∷ []) (5 ∷ 3 ∷ 3 ∷ 1 ∷ 2 ∷ 7 ∷ 2 ∷ 6 ∷ 4 ∷ 3 ∷ 5 ∷ 5 ∷ 8 ∷ 3 ∷ 8 ∷ 8 ∷ [])) (Done) ([])) ×
    ((store 4 24 2 3 199 small_codec (state 2 (of_fields magic 8 2 (3 ∷ 0 ∷ 0 ∷ 1 ∷ 0 ∷ 0 ∷ 0 ∷ 5 ∷ 48 ∷ 0 ∷ 0 ∷ 0 ∷ 24 ∷ 0 ∷ 0 ∷ 8 ∷ 0 ∷ 245 ∷ [])) false (overlay 0 0 0 0 (0 ∷ 0 ∷ []) 0 (budget false 0 0 0 0 0))) (lent (3 ∷ 0 ∷ 0 ∷ 1 ∷ 0 ∷ 0 ∷ 0 ∷ 5 ∷ 48 ∷ 0 ∷ 0 ∷ 0 ∷ 24 ∷ 0 ∷ 0 ∷ 8 ∷ 0 ∷ 245 ∷ 0 ∷ 193 ∷ 160 ∷ 1 ∷ 7 ∷ 1 ∷ 49 ∷ 7 ∷ 0 ∷ 255 ∷ 1 ∷ 1 ∷ 0 ∷ 0 ∷ 1 ∷ 0 ∷ 1 ∷ 1 ∷ 0 ∷ 0 ∷ 169 ∷ 255 ∷ 13 ∷ 0 ∷ 45 ∷ 255 ∷ 0 ∷ 0 ∷ 7 ∷ 0 ∷ 2 ∷ 5 ∷ 1 ∷ 3 ∷ 8 ∷ 6 ∷ 4 ∷ 1 ∷ 5 ∷ 5 ∷ 8 ∷ 7 ∷ 8 ∷ 5 ∷ 8 ∷ 3 ∷ 8 ∷ 6 ∷ 3 ∷ 2 ∷ 2 ∷ 6 ∷ 3 ∷ 2 ∷ []) (8 ∷ 7 ∷ 5 ∷ 4 ∷ 8 ∷ 3 ∷ 5 ∷ 5 ∷ []) (4 ∷ 1 ∷ []) (5 ∷ 1 ∷ 1 ∷ 3 ∷ 5 ∷ 3 ∷ 1 ∷ 1 ∷ []) (3 ∷ 8 ∷ 5 ∷ 7 ∷ 7 ∷ 4 ∷ 4 ∷ 6 ∷ []) (6 ∷ 7 ∷ 6 ∷ 8 ∷ 5 ∷ 3 ∷ 4 ∷ 4 ∷ 2 ∷ 8 ∷ 3 ∷ 5 ∷ 3 ∷ 5 ∷ 3 ∷ 2 ∷ [])) (write 1 (9 ∷ [])) ≡ out (state 2 (of_fields magic 8 2 (3 ∷ 0 ∷ 0 ∷ 1 ∷ 0 ∷ 0 ∷ 0 ∷ 5 ∷ 48 ∷ 0 ∷ 0 ∷ 0 ∷ 24 ∷ 0 ∷ 0 ∷ 8 ∷ 0 ∷ 245 ∷ [])) false (overlay 0 0 0 0 (0 ∷ 0 ∷ []) 0 (budget false 0 0 0 0 0))) (lent (3 ∷ 0 ∷ 0 ∷ 1 ∷ 0 ∷ 0 ∷ 0 ∷ 5 ∷ 48 ∷ 0 ∷ 0 ∷ 0 ∷ 24 ∷ 0 ∷ 0 ∷ 8 ∷ 0 ∷ 245 ∷ 0 ∷ 193 ∷ 160 ∷ 1 ∷ 7 ∷ 1 ∷ 49 ∷ 7 ∷ 0 ∷ 255 ∷ 1 ∷ 1 ∷ 0 ∷ 0 ∷ 1 ∷ 0 ∷ 1 ∷ 1 ∷ 0 ∷ 0 ∷ 169 ∷ 255 ∷ 13 ∷ 0 ∷ 45 ∷ 255 ∷ 0 ∷ 0 ∷ 7 ∷ 0 ∷ 2 ∷ 5 ∷ 1 ∷ 3 ∷ 8 ∷ 6 ∷ 4 ∷ 1 ∷ 5 ∷ 5 ∷ 8 ∷ 7 ∷ 8 ∷ 5 ∷ 8 ∷ 3 ∷ 8 ∷ 6 ∷ 3 ∷ 2 ∷ 2 ∷ 6 ∷ 3 ∷ 2 ∷ []) (8 ∷ 7 ∷ 5 ∷ 4 ∷ 8 ∷ 3 ∷ 5 ∷ 5 ∷ []) (4 ∷ 1 ∷ []) (5 ∷ 1 ∷ 1 ∷ 3 ∷ 5 ∷ 3 ∷ 1 ∷ 1 ∷ []) (3 ∷ 8 ∷ 5 ∷ 7 ∷ 7 ∷ 4 ∷ 4 ∷ 6 ∷ []) (6 ∷ 7 ∷ 6 ∷ 8 ∷ 5 ∷ 3 ∷ 4 ∷ 4 ∷ 2 ∷ 8 ∷ 3 ∷ 5 ∷ 3 ∷ 5 ∷ 3 ∷ 2 ∷ [])) (Refused (ImportAlreadyStarted)) ([])) ×
    ((store 4 24 2 3 199 small_codec (state 2 (of_fields magic 8 2 (3 ∷ 0 ∷ 0 ∷ 1 ∷ 0 ∷ 0 ∷ 0 ∷ 5 ∷ 48 ∷ 0 ∷ 0 ∷ 0 ∷ 24 ∷ 0 ∷ 0 ∷ 8 ∷ 0 ∷ 245 ∷ [])) false (overlay 0 0 0 0 (0 ∷ 0 ∷ []) 0 (budget false 0 0 0 0 0))) (lent (3 ∷ 0 ∷ 0 ∷ 1 ∷ 0 ∷ 0 ∷ 0 ∷ 5 ∷ 48 ∷ 0 ∷ 0 ∷ 0 ∷ 24 ∷ 0 ∷ 0 ∷ 8 ∷ 0 ∷ 245 ∷ 0 ∷ 193 ∷ 160 ∷ 1 ∷ 7 ∷ 1 ∷ 49 ∷ 7 ∷ 0 ∷ 255 ∷ 1 ∷ 1 ∷ 0 ∷ 0 ∷ 1 ∷ 0 ∷ 1 ∷ 1 ∷ 0 ∷ 0 ∷ 169 ∷ 255 ∷ 13 ∷ 0 ∷ 45 ∷ 255 ∷ 0 ∷ 0 ∷ 7 ∷ 0 ∷ 8 ∷ 1 ∷ 2 ∷ 4 ∷ 1 ∷ 5 ∷ 1 ∷ 2 ∷ 8 ∷ 8 ∷ 2 ∷ 4 ∷ 4 ∷ 8 ∷ 1 ∷ 3 ∷ 2 ∷ 7 ∷ 5 ∷ 5 ∷ 1 ∷ 3 ∷ 1 ∷ 2 ∷ []) (6 ∷ 8 ∷ 7 ∷ 8 ∷ 7 ∷ 1 ∷ 6 ∷ 4 ∷ []) (1 ∷ 6 ∷ []) (7 ∷ 8 ∷ 7 ∷ 6 ∷ 3 ∷ 6 ∷ 8 ∷ 7 ∷ []) (5 ∷ 2 ∷ 2 ∷ 6 ∷ 2 ∷ 4 ∷ 1 ∷ 1 ∷ []) (2 ∷ 8 ∷ 6 ∷ 4 ∷ 3 ∷ 1 ∷ 2 ∷ 5 ∷ 7 ∷ 2 ∷ 7 ∷ 1 ∷ 6 ∷ 6 ∷ 2 ∷ 7 ∷ [])) (truncate 3) ≡ out (state 2 (of_fields magic 8 2 (3 ∷ 0 ∷ 0 ∷ 1 ∷ 0 ∷ 0 ∷ 0 ∷ 5 ∷ 48 ∷ 0 ∷ 0 ∷ 0 ∷ 24 ∷ 0 ∷ 0 ∷ 8 ∷ 0 ∷ 245 ∷ [])) false (overlay 0 0 0 0 (0 ∷ 0 ∷ []) 0 (budget false 0 0 0 0 0))) (lent (3 ∷ 0 ∷ 0 ∷ 1 ∷ 0 ∷ 0 ∷ 0 ∷ 5 ∷ 48 ∷ 0 ∷ 0 ∷ 0 ∷ 24 ∷ 0 ∷ 0 ∷ 8 ∷ 0 ∷ 245 ∷ 0 ∷ 193 ∷ 160 ∷ 1 ∷ 7 ∷ 1 ∷ 49 ∷ 7 ∷ 0 ∷ 255 ∷ 1 ∷ 1 ∷ 0 ∷ 0 ∷ 1 ∷ 0 ∷ 1 ∷ 1 ∷ 0 ∷ 0 ∷ 169 ∷ 255 ∷ 13 ∷ 0 ∷ 45 ∷ 255 ∷ 0 ∷ 0 ∷ 7 ∷ 0 ∷ 8 ∷ 1 ∷ 2 ∷ 4 ∷ 1 ∷ 5 ∷ 1 ∷ 2 ∷ 8 ∷ 8 ∷ 2 ∷ 4 ∷ 4 ∷ 8 ∷ 1 ∷ 3 ∷ 2 ∷ 7 ∷ 5 ∷ 5 ∷ 1 ∷ 3 ∷ 1 ∷ 2 ∷ []) (6 ∷ 8 ∷ 7 ∷ 8 ∷ 7 ∷ 1 ∷ 6 ∷ 4 ∷ []) (1 ∷ 6 ∷ []) (7 ∷ 8 ∷ 7 ∷ 6 ∷ 3 ∷ 6 ∷ 8 ∷ 7 ∷ []) (5 ∷ 2 ∷ 2 ∷ 6 ∷ 2 ∷ 4 ∷ 1 ∷ 1 ∷ []) (2 ∷ 8 ∷ 6 ∷ 4 ∷ 3 ∷ 1 ∷ 2 ∷ 5 ∷ 7 ∷ 2 ∷ 7 ∷ 1 ∷ 6 ∷ 6 ∷ 2 ∷ 7 ∷ [])) (Refused (ImportAlreadyStarted)) ([])) ×
    ((store 4 24 2 3 199 small_codec (state 2 (of_fields magic 8 2 (3 ∷ 0 ∷ 0 ∷ 1 ∷ 0 ∷ 0 ∷ 0 ∷ 5 ∷ 48 ∷ 0 ∷ 0 ∷ 0 ∷ 24 ∷ 0 ∷ 0 ∷ 8 ∷ 0 ∷ 245 ∷ [])) false (overlay 0 0 0 0 (0 ∷ 0 ∷ []) 0 (budget false 0 0 0 0 0))) (lent (3 ∷ 0 ∷ 0 ∷ 1 ∷ 0 ∷ 0 ∷ 0 ∷ 5 ∷ 48 ∷ 0 ∷ 0 ∷ 0 ∷ 24 ∷ 0 ∷ 0 ∷ 8 ∷ 0 ∷ 245 ∷ 0 ∷ 193 ∷ 160 ∷ 1 ∷ 7 ∷ 1 ∷ 49 ∷ 7 ∷ 0 ∷ 255 ∷ 1 ∷ 1 ∷ 0 ∷ 0 ∷ 1 ∷ 0 ∷ 1 ∷ 1 ∷ 0 ∷ 0 ∷ 169 ∷ 255 ∷ 13 ∷ 0 ∷ 45 ∷ 255 ∷ 0 ∷ 0 ∷ 7 ∷ 0 ∷ 8 ∷ 7 ∷ 3 ∷ 5 ∷ 8 ∷ 4 ∷ 8 ∷ 1 ∷ 8 ∷ 4 ∷ 8 ∷ 3 ∷ 5 ∷ 6 ∷ 7 ∷ 4 ∷ 6 ∷ 3 ∷ 1 ∷ 4 ∷ 8 ∷ 8 ∷ 7 ∷ 6 ∷ []) (7 ∷ 2 ∷ 1 ∷ 8 ∷ 1 ∷ 3 ∷ 1 ∷ 7 ∷ []) (3 ∷ 4 ∷ []) (2 ∷ 1 ∷ 3 ∷ 3 ∷ 8 ∷ 1 ∷ 8 ∷ 6 ∷ []) (6 ∷ 2 ∷ 4 ∷ 2 ∷ 6 ∷ 5 ∷ 3 ∷ 4 ∷ []) (8 ∷ 2 ∷ 1 ∷ 8 ∷ 6 ∷ 1 ∷ 6 ∷ 3 ∷ 6 ∷ 2 ∷ 8 ∷ 7 ∷ 4 ∷ 3 ∷ 2 ∷ 5 ∷ [])) (write 199 (7 ∷ 8 ∷ [])) ≡ out (state 2 (of_fields magic 8 2 (3 ∷ 0 ∷ 0 ∷ 1 ∷ 0 ∷ 0 ∷ 0 ∷ 5 ∷ 48 ∷ 0 ∷ 0 ∷ 0 ∷ 24 ∷ 0 ∷ 0 ∷ 8 ∷ 0 ∷ 245 ∷ [])) false (overlay 0 0 0 0 (0 ∷ 0 ∷ []) 0 (budget false 0 0 0 0 0))) (lent (3 ∷ 0 ∷ 0 ∷ 1 ∷ 0 ∷ 0 ∷ 0 ∷ 5 ∷ 48 ∷ 0 ∷ 0 ∷ 0 ∷ 24 ∷ 0 ∷ 0 ∷ 8 ∷ 0 ∷ 245 ∷ 0 ∷ 193 ∷ 160 ∷ 1 ∷ 7 ∷ 1 ∷ 49 ∷ 7 ∷ 0 ∷ 255 ∷ 1 ∷ 1 ∷ 0 ∷ 0 ∷ 1 ∷ 0 ∷ 1 ∷ 1 ∷ 0 ∷ 0 ∷ 169 ∷ 255 ∷ 13 ∷ 0 ∷ 45 ∷ 255 ∷ 0 ∷ 0 ∷ 7 ∷ 0 ∷ 8 ∷ 7 ∷ 3 ∷ 5 ∷ 8 ∷ 4 ∷ 8 ∷ 1 ∷ 8 ∷ 4 ∷ 8 ∷ 3 ∷ 5 ∷ 6 ∷ 7 ∷ 4 ∷ 6 ∷ 3 ∷ 1 ∷ 4 ∷ 8 ∷ 8 ∷ 7 ∷ 6 ∷ []) (7 ∷ 2 ∷ 1 ∷ 8 ∷ 1 ∷ 3 ∷ 1 ∷ 7 ∷ []) (3 ∷ 4 ∷ []) (2 ∷ 1 ∷ 3 ∷ 3 ∷ 8 ∷ 1 ∷ 8 ∷ 6 ∷ []) (6 ∷ 2 ∷ 4 ∷ 2 ∷ 6 ∷ 5 ∷ 3 ∷ 4 ∷ []) (8 ∷ 2 ∷ 1 ∷ 8 ∷ 6 ∷ 1 ∷ 6 ∷ 3 ∷ 6 ∷ 2 ∷ 8 ∷ 7 ∷ 4 ∷ 3 ∷ 2 ∷ 5 ∷ [])) (Refused (ImportAlreadyStarted)) ([])) ×
    ((store 4 24 2 3 199 small_codec (state 2 (of_fields magic 8 2 (3 ∷ 0 ∷ 0 ∷ 1 ∷ 0 ∷ 0 ∷ 0 ∷ 5 ∷ 48 ∷ 0 ∷ 0 ∷ 0 ∷ 24 ∷ 0 ∷ 0 ∷ 8 ∷ 0 ∷ 245 ∷ [])) false (overlay 0 0 0 0 (0 ∷ 0 ∷ []) 0 (budget false 0 0 0 0 0))) (lent (3 ∷ 0 ∷ 0 ∷ 1 ∷ 0 ∷ 0 ∷ 0 ∷ 5 ∷ 48 ∷ 0 ∷ 0 ∷ 0 ∷ 24 ∷ 0 ∷ 0 ∷ 8 ∷ 0 ∷ 245 ∷ 0 ∷ 193 ∷ 160 ∷ 1 ∷ 7 ∷ 1 ∷ 49 ∷ 7 ∷ 0 ∷ 255 ∷ 1 ∷ 1 ∷ 0 ∷ 0 ∷ 1 ∷ 0 ∷ 1 ∷ 1 ∷ 0 ∷ 0 ∷ 169 ∷ 255 ∷ 13 ∷ 0 ∷ 45 ∷ 255 ∷ 0 ∷ 0 ∷ 7 ∷ 0 ∷ 8 ∷ 8 ∷ 2 ∷ 7 ∷ 7 ∷ 4 ∷ 2 ∷ 8 ∷ 5 ∷ 2 ∷ 5 ∷ 3 ∷ 8 ∷ 6 ∷ 4 ∷ 2 ∷ 2 ∷ 7 ∷ 4 ∷ 6 ∷ 8 ∷ 5 ∷ 8 ∷ 7 ∷ []) (3 ∷ 7 ∷ 8 ∷ 7 ∷ 3 ∷ 3 ∷ 8 ∷ 7 ∷ []) (5 ∷ 3 ∷ []) (1 ∷ 2 ∷ 2 ∷ 5 ∷ 8 ∷ 5 ∷ 2 ∷ 6 ∷ []) (4 ∷ 1 ∷ 7 ∷ 2 ∷ 4 ∷ 8 ∷ 6 ∷ 7 ∷ []) (5 ∷ 7 ∷ 7 ∷ 8 ∷ 7 ∷ 4 ∷ 2 ∷ 2 ∷ 1 ∷ 3 ∷ 5 ∷ 5 ∷ 8 ∷ 2 ∷ 2 ∷ 7 ∷ [])) (write 199 ([])) ≡ out (state 2 (of_fields magic 8 2 (3 ∷ 0 ∷ 0 ∷ 1 ∷ 0 ∷ 0 ∷ 0 ∷ 5 ∷ 48 ∷ 0 ∷ 0 ∷ 0 ∷ 24 ∷ 0 ∷ 0 ∷ 8 ∷ 0 ∷ 245 ∷ [])) false (overlay 0 0 0 0 (0 ∷ 0 ∷ []) 0 (budget false 0 0 0 0 0))) (lent (3 ∷ 0 ∷ 0 ∷ 1 ∷ 0 ∷ 0 ∷ 0 ∷ 5 ∷ 48 ∷ 0 ∷ 0 ∷ 0 ∷ 24 ∷ 0 ∷ 0 ∷ 8 ∷ 0 ∷ 245 ∷ 0 ∷ 193 ∷ 160 ∷ 1 ∷ 7 ∷ 1 ∷ 49 ∷ 7 ∷ 0 ∷ 255 ∷ 1 ∷ 1 ∷ 0 ∷ 0 ∷ 1 ∷ 0 ∷ 1 ∷ 1 ∷ 0 ∷ 0 ∷ 169 ∷ 255 ∷ 13 ∷ 0 ∷ 45 ∷ 255 ∷ 0 ∷ 0 ∷ 7 ∷ 0 ∷ 8 ∷ 8 ∷ 2 ∷ 7 ∷ 7 ∷ 4 ∷ 2 ∷ 8 ∷ 5 ∷ 2 ∷ 5 ∷ 3 ∷ 8 ∷ 6 ∷ 4 ∷ 2 ∷ 2 ∷ 7 ∷ 4 ∷ 6 ∷ 8 ∷ 5 ∷ 8 ∷ 7 ∷ []) (zeros 8) (0 ∷ 0 ∷ []) (zeros 8) (zeros 8) (zeros 16)) (Done) ([])) ×
    ((store 4 24 2 3 199 small_codec (state 2 (of_fields magic 8 2 (3 ∷ 0 ∷ 0 ∷ 1 ∷ 0 ∷ 0 ∷ 0 ∷ 5 ∷ 48 ∷ 0 ∷ 0 ∷ 0 ∷ 24 ∷ 0 ∷ 0 ∷ 8 ∷ 0 ∷ 245 ∷ [])) false (overlay 0 0 0 0 (0 ∷ 0 ∷ []) 0 (budget false 0 0 0 0 0))) (lent (3 ∷ 0 ∷ 0 ∷ 1 ∷ 0 ∷ 0 ∷ 0 ∷ 5 ∷ 48 ∷ 0 ∷ 0 ∷ 0 ∷ 24 ∷ 0 ∷ 0 ∷ 8 ∷ 0 ∷ 245 ∷ 0 ∷ 193 ∷ 160 ∷ 1 ∷ 7 ∷ 1 ∷ 49 ∷ 7 ∷ 0 ∷ 255 ∷ 1 ∷ 1 ∷ 0 ∷ 0 ∷ 1 ∷ 0 ∷ 1 ∷ 1 ∷ 0 ∷ 0 ∷ 169 ∷ 255 ∷ 13 ∷ 0 ∷ 45 ∷ 255 ∷ 0 ∷ 0 ∷ 7 ∷ 0 ∷ 6 ∷ 2 ∷ 4 ∷ 1 ∷ 4 ∷ 2 ∷ 2 ∷ 7 ∷ 2 ∷ 3 ∷ 6 ∷ 2 ∷ 8 ∷ 8 ∷ 3 ∷ 6 ∷ 5 ∷ 3 ∷ 8 ∷ 5 ∷ 8 ∷ 3 ∷ 3 ∷ 1 ∷ []) (2 ∷ 1 ∷ 8 ∷ 8 ∷ 8 ∷ 3 ∷ 1 ∷ 7 ∷ []) (3 ∷ 7 ∷ []) (7 ∷ 4 ∷ 1 ∷ 4 ∷ 7 ∷ 1 ∷ 7 ∷ 5 ∷ []) (3 ∷ 3 ∷ 4 ∷ 8 ∷ 5 ∷ 1 ∷ 3 ∷ 2 ∷ []) (1 ∷ 1 ∷ 1 ∷ 5 ∷ 3 ∷ 2 ∷ 5 ∷ 7 ∷ 6 ∷ 2 ∷ 4 ∷ 5 ∷ 1 ∷ 8 ∷ 8 ∷ 6 ∷ [])) (import_chunk 0 (5 ∷ 6 ∷ [])) ≡ out (state 3 (of_fields magic 8 2 (3 ∷ 0 ∷ 0 ∷ 1 ∷ 0 ∷ 0 ∷ 2 ∷ 5 ∷ 48 ∷ 0 ∷ 0 ∷ 0 ∷ 24 ∷ 0 ∷ 0 ∷ 8 ∷ 0 ∷ 194 ∷ [])) false (overlay 0 0 0 0 (0 ∷ 0 ∷ []) 0 (budget false 0 0 0 0 0))) (lent (3 ∷ 0 ∷ 0 ∷ 1 ∷ 0 ∷ 0 ∷ 2 ∷ 5 ∷ 48 ∷ 0 ∷ 0 ∷ 0 ∷ 24 ∷ 0 ∷ 0 ∷ 8 ∷ 0 ∷ 194 ∷ 0 ∷ 193 ∷ 160 ∷ 1 ∷ 7 ∷ 1 ∷ 49 ∷ 7 ∷ 0 ∷ 255 ∷ 1 ∷ 1 ∷ 0 ∷ 0 ∷ 1 ∷ 0 ∷ 1 ∷ 1 ∷ 0 ∷ 0 ∷ 169 ∷ 255 ∷ 13 ∷ 0 ∷ 45 ∷ 255 ∷ 0 ∷ 0 ∷ 7 ∷ 0 ∷ 5 ∷ 6 ∷ zeros 22) (2 ∷ 1 ∷ 8 ∷ 8 ∷ 8 ∷ 3 ∷ 1 ∷ 7 ∷ []) (3 ∷ 7 ∷ []) (7 ∷ 4 ∷ 1 ∷ 4 ∷ 7 ∷ 1 ∷ 7 ∷ 5 ∷ []) (3 ∷ 3 ∷ 4 ∷ 8 ∷ 5 ∷ 1 ∷ 3 ∷ 2 ∷ []) (1 ∷ 1 ∷ 1 ∷ 5 ∷ 3 ∷ 2 ∷ 5 ∷ 7 ∷ 6 ∷ 2 ∷ 4 ∷ 5 ∷ 1 ∷ 8 ∷ 8 ∷ 6 ∷ [])) (Done) ([])) ×
    ((store 4 24 2 3 199 small_codec (state 3 (of_fields magic 8 2 (3 ∷ 0 ∷ 0 ∷ 1 ∷ 0 ∷ 0 ∷ 2 ∷ 5 ∷ 48 ∷ 0 ∷ 0 ∷ 0 ∷ 24 ∷ 0 ∷ 0 ∷ 8 ∷ 0 ∷ 194 ∷ [])) false (overlay 0 0 0 0 (0 ∷ 0 ∷ []) 0 (budget false 0 0 0 0 0))) (lent (3 ∷ 0 ∷ 0 ∷ 1 ∷ 0 ∷ 0 ∷ 2 ∷ 5 ∷ 48 ∷ 0 ∷ 0 ∷ 0 ∷ 24 ∷ 0 ∷ 0 ∷ 8 ∷ 0 ∷ 194 ∷ 0 ∷ 193 ∷ 160 ∷ 1 ∷ 7 ∷ 1 ∷ 49 ∷ 7 ∷ 0 ∷ 255 ∷ 1 ∷ 1 ∷ 0 ∷ 0 ∷ 1 ∷ 0 ∷ 1 ∷ 1 ∷ 0 ∷ 0 ∷ 169 ∷ 255 ∷ 13 ∷ 0 ∷ 45 ∷ 255 ∷ 0 ∷ 0 ∷ 7 ∷ 0 ∷ 5 ∷ 6 ∷ zeros 22) (7 ∷ 2 ∷ 5 ∷ 6 ∷ 3 ∷ 8 ∷ 7 ∷ 6 ∷ []) (6 ∷ 6 ∷ []) (7 ∷ 3 ∷ 4 ∷ 8 ∷ 2 ∷ 7 ∷ 3 ∷ 7 ∷ []) (2 ∷ 8 ∷ 4 ∷ 8 ∷ 4 ∷ 4 ∷ 6 ∷ 1 ∷ []) (4 ∷ 5 ∷ 6 ∷ 5 ∷ 5 ∷ 1 ∷ 8 ∷ 7 ∷ 8 ∷ 5 ∷ 2 ∷ 7 ∷ 7 ∷ 3 ∷ 6 ∷ 5 ∷ [])) (write 1 (9 ∷ [])) ≡ out (state 3 (of_fields magic 8 2 (3 ∷ 0 ∷ 0 ∷ 1 ∷ 0 ∷ 0 ∷ 2 ∷ 5 ∷ 48 ∷ 0 ∷ 0 ∷ 0 ∷ 24 ∷ 0 ∷ 0 ∷ 8 ∷ 0 ∷ 194 ∷ [])) false (overlay 0 0 0 0 (0 ∷ 0 ∷ []) 0 (budget false 0 0 0 0 0))) (lent (3 ∷ 0 ∷ 0 ∷ 1 ∷ 0 ∷ 0 ∷ 2 ∷ 5 ∷ 48 ∷ 0 ∷ 0 ∷ 0 ∷ 24 ∷ 0 ∷ 0 ∷ 8 ∷ 0 ∷ 194 ∷ 0 ∷ 193 ∷ 160 ∷ 1 ∷ 7 ∷ 1 ∷ 49 ∷ 7 ∷ 0 ∷ 255 ∷ 1 ∷ 1 ∷ 0 ∷ 0 ∷ 1 ∷ 0 ∷ 1 ∷ 1 ∷ 0 ∷ 0 ∷ 169 ∷ 255 ∷ 13 ∷ 0 ∷ 45 ∷ 255 ∷ 0 ∷ 0 ∷ 7 ∷ 0 ∷ 5 ∷ 6 ∷ zeros 22) (7 ∷ 2 ∷ 5 ∷ 6 ∷ 3 ∷ 8 ∷ 7 ∷ 6 ∷ []) (6 ∷ 6 ∷ []) (7 ∷ 3 ∷ 4 ∷ 8 ∷ 2 ∷ 7 ∷ 3 ∷ 7 ∷ []) (2 ∷ 8 ∷ 4 ∷ 8 ∷ 4 ∷ 4 ∷ 6 ∷ 1 ∷ []) (4 ∷ 5 ∷ 6 ∷ 5 ∷ 5 ∷ 1 ∷ 8 ∷ 7 ∷ 8 ∷ 5 ∷ 2 ∷ 7 ∷ 7 ∷ 3 ∷ 6 ∷ 5 ∷ [])) (Refused (ImportAlreadyStarted)) ([])) ×
    ((store 4 24 2 3 199 small_codec (state 3 (of_fields magic 8 2 (3 ∷ 0 ∷ 0 ∷ 1 ∷ 0 ∷ 0 ∷ 2 ∷ 5 ∷ 48 ∷ 0 ∷ 0 ∷ 0 ∷ 24 ∷ 0 ∷ 0 ∷ 8 ∷ 0 ∷ 194 ∷ [])) false (overlay 0 0 0 0 (0 ∷ 0 ∷ []) 0 (budget false 0 0 0 0 0))) (lent (3 ∷ 0 ∷ 0 ∷ 1 ∷ 0 ∷ 0 ∷ 2 ∷ 5 ∷ 48 ∷ 0 ∷ 0 ∷ 0 ∷ 24 ∷ 0 ∷ 0 ∷ 8 ∷ 0 ∷ 194 ∷ 0 ∷ 193 ∷ 160 ∷ 1 ∷ 7 ∷ 1 ∷ 49 ∷ 7 ∷ 0 ∷ 255 ∷ 1 ∷ 1 ∷ 0 ∷ 0 ∷ 1 ∷ 0 ∷ 1 ∷ 1 ∷ 0 ∷ 0 ∷ 169 ∷ 255 ∷ 13 ∷ 0 ∷ 45 ∷ 255 ∷ 0 ∷ 0 ∷ 7 ∷ 0 ∷ 5 ∷ 6 ∷ zeros 22) (4 ∷ 2 ∷ 7 ∷ 3 ∷ 3 ∷ 7 ∷ 2 ∷ 2 ∷ []) (1 ∷ 2 ∷ []) (7 ∷ 8 ∷ 5 ∷ 4 ∷ 6 ∷ 7 ∷ 8 ∷ 4 ∷ []) (1 ∷ 4 ∷ 2 ∷ 4 ∷ 7 ∷ 7 ∷ 5 ∷ 1 ∷ []) (6 ∷ 7 ∷ 2 ∷ 1 ∷ 7 ∷ 4 ∷ 3 ∷ 6 ∷ 1 ∷ 3 ∷ 8 ∷ 7 ∷ 7 ∷ 3 ∷ 1 ∷ 2 ∷ [])) (import_cancel) ≡ out (state 3 (of_fields magic 8 2 (3 ∷ 0 ∷ 0 ∷ 0 ∷ 0 ∷ 0 ∷ 0 ∷ 0 ∷ 0 ∷ 0 ∷ 0 ∷ 0 ∷ 24 ∷ 0 ∷ 0 ∷ 8 ∷ 0 ∷ 137 ∷ [])) false (overlay 0 0 0 0 (0 ∷ 0 ∷ []) 0 (budget false 0 0 0 0 0))) (lent (3 ∷ 0 ∷ 0 ∷ 0 ∷ 0 ∷ 0 ∷ 0 ∷ 0 ∷ 0 ∷ 0 ∷ 0 ∷ 0 ∷ 24 ∷ 0 ∷ 0 ∷ 8 ∷ 0 ∷ 137 ∷ 0 ∷ 193 ∷ 160 ∷ 1 ∷ 7 ∷ 1 ∷ 49 ∷ 7 ∷ 0 ∷ 255 ∷ 1 ∷ 1 ∷ 0 ∷ 0 ∷ 1 ∷ 0 ∷ 1 ∷ 1 ∷ 0 ∷ 0 ∷ 169 ∷ 255 ∷ 13 ∷ 0 ∷ 45 ∷ 255 ∷ 0 ∷ 0 ∷ 7 ∷ 0 ∷ 5 ∷ 6 ∷ zeros 22) (4 ∷ 2 ∷ 7 ∷ 3 ∷ 3 ∷ 7 ∷ 2 ∷ 2 ∷ []) (1 ∷ 2 ∷ []) (7 ∷ 8 ∷ 5 ∷ 4 ∷ 6 ∷ 7 ∷ 8 ∷ 4 ∷ []) (1 ∷ 4 ∷ 2 ∷ 4 ∷ 7 ∷ 7 ∷ 5 ∷ 1 ∷ []) (6 ∷ 7 ∷ 2 ∷ 1 ∷ 7 ∷ 4 ∷ 3 ∷ 6 ∷ 1 ∷ 3 ∷ 8 ∷ 7 ∷ 7 ∷ 3 ∷ 1 ∷ 2 ∷ [])) (Done) ([])) ×
    ((store 4 24 2 3 199 small_codec (state 3 (of_fields magic 8 2 (3 ∷ 0 ∷ 0 ∷ 0 ∷ 0 ∷ 0 ∷ 0 ∷ 0 ∷ 0 ∷ 0 ∷ 0 ∷ 0 ∷ 24 ∷ 0 ∷ 0 ∷ 8 ∷ 0 ∷ 137 ∷ [])) false (overlay 0 0 0 0 (0 ∷ 0 ∷ []) 0 (budget false 0 0 0 0 0))) (lent (3 ∷ 0 ∷ 0 ∷ 0 ∷ 0 ∷ 0 ∷ 0 ∷ 0 ∷ 0 ∷ 0 ∷ 0 ∷ 0 ∷ 24 ∷ 0 ∷ 0 ∷ 8 ∷ 0 ∷ 137 ∷ 0 ∷ 193 ∷ 160 ∷ 1 ∷ 7 ∷ 1 ∷ 49 ∷ 7 ∷ 0 ∷ 255 ∷ 1 ∷ 1 ∷ 0 ∷ 0 ∷ 1 ∷ 0 ∷ 1 ∷ 1 ∷ 0 ∷ 0 ∷ 169 ∷ 255 ∷ 13 ∷ 0 ∷ 45 ∷ 255 ∷ 0 ∷ 0 ∷ 7 ∷ 0 ∷ 5 ∷ 6 ∷ zeros 22) (zeros 8) (2 ∷ 6 ∷ []) (2 ∷ 1 ∷ 5 ∷ 6 ∷ 4 ∷ 4 ∷ 5 ∷ 4 ∷ []) (1 ∷ 4 ∷ 2 ∷ 4 ∷ 7 ∷ 7 ∷ 5 ∷ 1 ∷ []) (3 ∷ 5 ∷ 3 ∷ 8 ∷ 6 ∷ 8 ∷ 3 ∷ 6 ∷ 3 ∷ 6 ∷ 7 ∷ 1 ∷ 4 ∷ 1 ∷ 8 ∷ 3 ∷ [])) (write 1 (9 ∷ [])) ≡ out (state 3 (of_fields magic 8 2 (3 ∷ 0 ∷ 0 ∷ 0 ∷ 0 ∷ 0 ∷ 0 ∷ 0 ∷ 0 ∷ 0 ∷ 0 ∷ 0 ∷ 24 ∷ 0 ∷ 1 ∷ 8 ∷ 0 ∷ 186 ∷ [])) false (overlay 0 0 0 0 (0 ∷ 0 ∷ []) 0 (budget false 0 0 0 0 0))) (lent (3 ∷ 0 ∷ 0 ∷ 0 ∷ 0 ∷ 0 ∷ 0 ∷ 0 ∷ 0 ∷ 0 ∷ 0 ∷ 0 ∷ 24 ∷ 0 ∷ 1 ∷ 8 ∷ 0 ∷ 186 ∷ 0 ∷ 193 ∷ 160 ∷ 1 ∷ 7 ∷ 1 ∷ 49 ∷ 9 ∷ 0 ∷ 0 ∷ 1 ∷ 1 ∷ 0 ∷ 0 ∷ 1 ∷ 0 ∷ 1 ∷ 1 ∷ 0 ∷ 0 ∷ 169 ∷ 255 ∷ 13 ∷ 0 ∷ 45 ∷ 255 ∷ 0 ∷ 0 ∷ 7 ∷ 0 ∷ 5 ∷ 6 ∷ zeros 22) (zeros 8) (0 ∷ 0 ∷ []) (zeros 8) (zeros 8) (zeros 16)) (Done) ([])) ×
    ((store 4 24 2 3 199 small_codec (state 3 (of_fields magic 8 2 (3 ∷ 0 ∷ 0 ∷ 0 ∷ 0 ∷ 0 ∷ 0 ∷ 0 ∷ 0 ∷ 0 ∷ 0 ∷ 0 ∷ 24 ∷ 0 ∷ 1 ∷ 8 ∷ 0 ∷ 186 ∷ [])) false (overlay 0 0 0 0 (0 ∷ 0 ∷ []) 0 (budget false 0 0 0 0 0))) (lent (3 ∷ 0 ∷ 0 ∷ 0 ∷ 0 ∷ 0 ∷ 0 ∷ 0 ∷ 0 ∷ 0 ∷ 0 ∷ 0 ∷ 24 ∷ 0 ∷ 1 ∷ 8 ∷ 0 ∷ 186 ∷ 0 ∷ 193 ∷ 160 ∷ 1 ∷ 7 ∷ 1 ∷ 49 ∷ 9 ∷ 0 ∷ 0 ∷ 1 ∷ 1 ∷ 0 ∷ 0 ∷ 1 ∷ 0 ∷ 1 ∷ 1 ∷ 0 ∷ 0 ∷ 169 ∷ 255 ∷ 13 ∷ 0 ∷ 45 ∷ 255 ∷ 0 ∷ 0 ∷ 7 ∷ 0 ∷ 5 ∷ 6 ∷ zeros 22) (zeros 8) (0 ∷ 0 ∷ []) (3 ∷ 1 ∷ 2 ∷ 4 ∷ 3 ∷ 2 ∷ 4 ∷ 7 ∷ []) (zeros 8) (zeros 16)) (import_begin 0 0) ≡ out (state 3 (of_fields magic 8 2 (3 ∷ 0 ∷ 0 ∷ 1 ∷ 0 ∷ 0 ∷ 0 ∷ 0 ∷ 72 ∷ 0 ∷ 0 ∷ 0 ∷ 24 ∷ 0 ∷ 1 ∷ 8 ∷ 0 ∷ 123 ∷ [])) false (overlay 0 0 0 0 (0 ∷ 0 ∷ []) 0 (budget false 0 0 0 0 0))) (lent (3 ∷ 0 ∷ 0 ∷ 1 ∷ 0 ∷ 0 ∷ 0 ∷ 0 ∷ 72 ∷ 0 ∷ 0 ∷ 0 ∷ 24 ∷ 0 ∷ 1 ∷ 8 ∷ 0 ∷ 123 ∷ 0 ∷ 193 ∷ 160 ∷ 1 ∷ 7 ∷ 1 ∷ 49 ∷ 9 ∷ 0 ∷ 0 ∷ 1 ∷ 1 ∷ 0 ∷ 0 ∷ 1 ∷ 0 ∷ 1 ∷ 1 ∷ 0 ∷ 0 ∷ 169 ∷ 255 ∷ 13 ∷ 0 ∷ 45 ∷ 255 ∷ 0 ∷ 0 ∷ 7 ∷ 0 ∷ 5 ∷ 6 ∷ zeros 22) (zeros 8) (0 ∷ 0 ∷ []) (3 ∷ 1 ∷ 2 ∷ 4 ∷ 3 ∷ 2 ∷ 4 ∷ 7 ∷ []) (zeros 8) (zeros 16)) (Done) ([])) ×
    ((store 4 24 2 3 199 small_codec (state 3 (of_fields magic 8 2 (3 ∷ 0 ∷ 0 ∷ 1 ∷ 0 ∷ 0 ∷ 0 ∷ 0 ∷ 72 ∷ 0 ∷ 0 ∷ 0 ∷ 24 ∷ 0 ∷ 1 ∷ 8 ∷ 0 ∷ 123 ∷ [])) false (overlay 0 0 0 0 (0 ∷ 0 ∷ []) 0 (budget false 0 0 0 0 0))) (lent (3 ∷ 0 ∷ 0 ∷ 1 ∷ 0 ∷ 0 ∷ 0 ∷ 0 ∷ 72 ∷ 0 ∷ 0 ∷ 0 ∷ 24 ∷ 0 ∷ 1 ∷ 8 ∷ 0 ∷ 123 ∷ 0 ∷ 193 ∷ 160 ∷ 1 ∷ 7 ∷ 1 ∷ 49 ∷ 9 ∷ 0 ∷ 0 ∷ 1 ∷ 1 ∷ 0 ∷ 0 ∷ 1 ∷ 0 ∷ 1 ∷ 1 ∷ 0 ∷ 0 ∷ 169 ∷ 255 ∷ 13 ∷ 0 ∷ 45 ∷ 255 ∷ 0 ∷ 0 ∷ 7 ∷ 0 ∷ 5 ∷ 6 ∷ zeros 22) (8 ∷ 5 ∷ 7 ∷ 3 ∷ 2 ∷ 2 ∷ 8 ∷ 6 ∷ []) (4 ∷ 2 ∷ []) (6 ∷ 4 ∷ 6 ∷ 8 ∷ 8 ∷ 6 ∷ 1 ∷ 4 ∷ []) (8 ∷ 6 ∷ 5 ∷ 6 ∷ 3 ∷ 6 ∷ 1 ∷ 3 ∷ []) (2 ∷ 2 ∷ 5 ∷ 5 ∷ 3 ∷ 6 ∷ 7 ∷ 2 ∷ 8 ∷ 4 ∷ 7 ∷ 6 ∷ 8 ∷ 1 ∷ 1 ∷ 3 ∷ [])) (truncate 0) ≡ out (state 3 (of_fields magic 8 2 (3 ∷ 0 ∷ 0 ∷ 1 ∷ 0 ∷ 0 ∷ 0 ∷ 0 ∷ 72 ∷ 0 ∷ 0 ∷ 0 ∷ 24 ∷ 0 ∷ 1 ∷ 8 ∷ 0 ∷ 123 ∷ [])) false (overlay 0 0 0 0 (0 ∷ 0 ∷ []) 0 (budget false 0 0 0 0 0))) (lent (3 ∷ 0 ∷ 0 ∷ 1 ∷ 0 ∷ 0 ∷ 0 ∷ 0 ∷ 72 ∷ 0 ∷ 0 ∷ 0 ∷ 24 ∷ 0 ∷ 1 ∷ 8 ∷ 0 ∷ 123 ∷ 0 ∷ 193 ∷ 160 ∷ 1 ∷ 7 ∷ 1 ∷ 49 ∷ 9 ∷ 0 ∷ 0 ∷ 1 ∷ 1 ∷ 0 ∷ 0 ∷ 1 ∷ 0 ∷ 1 ∷ 1 ∷ 0 ∷ 0 ∷ 169 ∷ 255 ∷ 13 ∷ 0 ∷ 45 ∷ 255 ∷ 0 ∷ 0 ∷ 7 ∷ 0 ∷ 5 ∷ 6 ∷ zeros 22) (8 ∷ 5 ∷ 7 ∷ 3 ∷ 2 ∷ 2 ∷ 8 ∷ 6 ∷ []) (4 ∷ 2 ∷ []) (6 ∷ 4 ∷ 6 ∷ 8 ∷ 8 ∷ 6 ∷ 1 ∷ 4 ∷ []) (8 ∷ 6 ∷ 5 ∷ 6 ∷ 3 ∷ 6 ∷ 1 ∷ 3 ∷ []) (2 ∷ 2 ∷ 5 ∷ 5 ∷ 3 ∷ 6 ∷ 7 ∷ 2 ∷ 8 ∷ 4 ∷ 7 ∷ 6 ∷ 8 ∷ 1 ∷ 1 ∷ 3 ∷ [])) (Refused (ImportAlreadyStarted)) ([])) ×
    ((store 4 24 2 3 199 small_codec (state 3 (of_fields magic 8 2 (3 ∷ 0 ∷ 0 ∷ 1 ∷ 0 ∷ 0 ∷ 0 ∷ 0 ∷ 72 ∷ 0 ∷ 0 ∷ 0 ∷ 24 ∷ 0 ∷ 1 ∷ 8 ∷ 0 ∷ 123 ∷ [])) false (overlay 0 0 0 0 (0 ∷ 0 ∷ []) 0 (budget false 0 0 0 0 0))) (lent (3 ∷ 0 ∷ 0 ∷ 1 ∷ 0 ∷ 0 ∷ 0 ∷ 0 ∷ 72 ∷ 0 ∷ 0 ∷ 0 ∷ 24 ∷ 0 ∷ 1 ∷ 8 ∷ 0 ∷ 123 ∷ 0 ∷ 193 ∷ 160 ∷ 1 ∷ 7 ∷ 1 ∷ 49 ∷ 9 ∷ 0 ∷ 0 ∷ 1 ∷ 1 ∷ 0 ∷ 0 ∷ 1 ∷ 0 ∷ 1 ∷ 1 ∷ 0 ∷ 0 ∷ 169 ∷ 255 ∷ 13 ∷ 0 ∷ 45 ∷ 255 ∷ 0 ∷ 0 ∷ 7 ∷ 0 ∷ 5 ∷ 6 ∷ zeros 22) (7 ∷ 2 ∷ 2 ∷ 3 ∷ 2 ∷ 6 ∷ 7 ∷ 2 ∷ []) (8 ∷ 5 ∷ []) (5 ∷ 8 ∷ 1 ∷ 7 ∷ 6 ∷ 8 ∷ 5 ∷ 5 ∷ []) (2 ∷ 8 ∷ 1 ∷ 6 ∷ 7 ∷ 7 ∷ 3 ∷ 8 ∷ []) (2 ∷ 4 ∷ 6 ∷ 1 ∷ 5 ∷ 6 ∷ 7 ∷ 2 ∷ 5 ∷ 4 ∷ 4 ∷ 4 ∷ 7 ∷ 6 ∷ 3 ∷ 7 ∷ [])) (import_finish) ≡ out (state 3 (of_fields magic 8 2 (3 ∷ 0 ∷ 0 ∷ 0 ∷ 0 ∷ 0 ∷ 0 ∷ 0 ∷ 0 ∷ 0 ∷ 0 ∷ 0 ∷ 24 ∷ 0 ∷ 1 ∷ 8 ∷ 0 ∷ 186 ∷ [])) false (overlay 0 0 0 0 (0 ∷ 0 ∷ []) 0 (budget false 0 0 0 0 0))) (lent (3 ∷ 0 ∷ 0 ∷ 0 ∷ 0 ∷ 0 ∷ 0 ∷ 0 ∷ 0 ∷ 0 ∷ 0 ∷ 0 ∷ 24 ∷ 0 ∷ 1 ∷ 8 ∷ 0 ∷ 186 ∷ 0 ∷ 193 ∷ 160 ∷ 1 ∷ 7 ∷ 1 ∷ 49 ∷ 9 ∷ 0 ∷ 0 ∷ 1 ∷ 1 ∷ 0 ∷ 0 ∷ 1 ∷ 0 ∷ 1 ∷ 1 ∷ 0 ∷ 0 ∷ 169 ∷ 255 ∷ 13 ∷ 0 ∷ 45 ∷ 255 ∷ 0 ∷ 0 ∷ 7 ∷ 0 ∷ 5 ∷ 6 ∷ zeros 22) (7 ∷ 2 ∷ 2 ∷ 3 ∷ 2 ∷ 6 ∷ 7 ∷ 2 ∷ []) (8 ∷ 5 ∷ []) (5 ∷ 8 ∷ 1 ∷ 7 ∷ 6 ∷ 8 ∷ 5 ∷ 5 ∷ []) (2 ∷ 8 ∷ 1 ∷ 6 ∷ 7 ∷ 7 ∷ 3 ∷ 8 ∷ []) (2 ∷ 4 ∷ 6 ∷ 1 ∷ 5 ∷ 6 ∷ 7 ∷ 2 ∷ 5 ∷ 4 ∷ 4 ∷ 4 ∷ 7 ∷ 6 ∷ 3 ∷ 7 ∷ [])) (Refused (ChecksumMismatch 0 1)) ([])) ×
    ((store 4 24 2 3 199 small_codec (state 3 (of_fields magic 8 2 (3 ∷ 0 ∷ 0 ∷ 0 ∷ 0 ∷ 0 ∷ 0 ∷ 0 ∷ 0 ∷ 0 ∷ 0 ∷ 0 ∷ 24 ∷ 0 ∷ 1 ∷ 8 ∷ 0 ∷ 186 ∷ [])) false (overlay 0 0 0 0 (0 ∷ 0 ∷ []) 0 (budget false 0 0 0 0 0))) (lent (3 ∷ 0 ∷ 0 ∷ 0 ∷ 0 ∷ 0 ∷ 0 ∷ 0 ∷ 0 ∷ 0 ∷ 0 ∷ 0 ∷ 24 ∷ 0 ∷ 1 ∷ 8 ∷ 0 ∷ 186 ∷ 0 ∷ 193 ∷ 160 ∷ 1 ∷ 7 ∷ 1 ∷ 49 ∷ 9 ∷ 0 ∷ 0 ∷ 1 ∷ 1 ∷ 0 ∷ 0 ∷ 1 ∷ 0 ∷ 1 ∷ 1 ∷ 0 ∷ 0 ∷ 169 ∷ 255 ∷ 13 ∷ 0 ∷ 45 ∷ 255 ∷ 0 ∷ 0 ∷ 7 ∷ 0 ∷ 5 ∷ 6 ∷ zeros 22) (4 ∷ 2 ∷ 3 ∷ 4 ∷ 4 ∷ 7 ∷ 3 ∷ 5 ∷ []) (4 ∷ 1 ∷ []) (5 ∷ 8 ∷ 1 ∷ 7 ∷ 6 ∷ 8 ∷ 5 ∷ 5 ∷ []) (7 ∷ 2 ∷ 2 ∷ 4 ∷ 1 ∷ 5 ∷ 8 ∷ 4 ∷ []) (8 ∷ 7 ∷ 3 ∷ 6 ∷ 5 ∷ 5 ∷ 3 ∷ 4 ∷ 2 ∷ 4 ∷ 3 ∷ 7 ∷ 7 ∷ 5 ∷ 4 ∷ 8 ∷ [])) (truncate 0) ≡ out (state 3 (of_fields magic 8 2 (0 ∷ 0 ∷ 0 ∷ 0 ∷ 0 ∷ 0 ∷ 0 ∷ 0 ∷ 0 ∷ 0 ∷ 0 ∷ 0 ∷ 24 ∷ 0 ∷ 0 ∷ 8 ∷ 1 ∷ 145 ∷ [])) false (overlay 0 0 0 0 (0 ∷ 0 ∷ []) 0 (budget false 0 0 0 0 0))) (lent (0 ∷ 0 ∷ 0 ∷ 0 ∷ 0 ∷ 0 ∷ 0 ∷ 0 ∷ 0 ∷ 0 ∷ 0 ∷ 0 ∷ 24 ∷ 0 ∷ 0 ∷ 8 ∷ 1 ∷ 145 ∷ 0 ∷ 1 ∷ 160 ∷ 1 ∷ 7 ∷ 1 ∷ 49 ∷ 9 ∷ 0 ∷ 0 ∷ 1 ∷ 1 ∷ 0 ∷ 0 ∷ 1 ∷ 0 ∷ 1 ∷ 1 ∷ 0 ∷ 0 ∷ 169 ∷ 255 ∷ 13 ∷ 0 ∷ 45 ∷ 255 ∷ 0 ∷ 0 ∷ 7 ∷ 0 ∷ 5 ∷ 6 ∷ zeros 22) (zeros 8) (0 ∷ 0 ∷ []) (zeros 8) (zeros 8) (zeros 16)) (Done) ([])))))))))))))))
unfolding count filled overwrite resize growMemory requiredPages normalized within merge insert add around piece remove flatRuns additions add_one remain plan put refill tabulate add_number_if span grown_numbers image_byte image_page push_run raw over_byte budget_bytes raised touch blank copy stretch patch finish grow grow_to chop tail truncated whole_page over_write written fresh look_up sized passing marked try_touch try_patch try_finish try_grow try_grow_to try_tail try_chop try_truncate try_write frame_count entry_count wiped cached short_buffers view overlay_of put_back dirty_page stored small_codec small_sum small_decode small_runs small_load small_fresh importing stale refreshing marks after_commit after_import_begin after_import_chunk after_import_cancel after_import_finish after_refresh after_refresh_step short store_plan no_overlay image_bytes unchanged planned_runs commit_over restore do_import_begin do_import_chunk do_import_finish do_import_cancel do_export image_sum do_checksum do_refresh refresh_from do_refresh_step store outside open_image closing open'
c2 = (refl, (refl, (refl, (refl, (refl, (refl, (refl, (refl, (refl, (refl, (refl, (refl, (refl, (refl))))))))))))))

-- open: accepted (left in old page)
-- begin: accepted (left in old page)
-- write in update: 33 (left in old page)
-- write in update: accepted (left in old page)
-- read in update: accepted (left in old page)
-- commit in update: accepted (left in old page)
c3 :
    (open' 4 24 2 3 199 small_codec 2 (2 ∷ 0 ∷ 0 ∷ 0 ∷ 0 ∷ 0 ∷ 0 ∷ 0 ∷ 0 ∷ 0 ∷ 0 ∷ 0 ∷ 24 ∷ 0 ∷ 0 ∷ 8 ∷ 0 ∷ 109 ∷ 7 ∷ 255 ∷ 1 ∷ 0 ∷ 178 ∷ 24 ∷ 255 ∷ 0 ∷ 255 ∷ 11 ∷ 167 ∷ 140 ∷ 0 ∷ 7 ∷ 7 ∷ 255 ∷ 7 ∷ 118 ∷ 255 ∷ 1 ∷ 1 ∷ 27 ∷ 255 ∷ 1 ∷ 1 ∷ 59 ∷ 255 ∷ 255 ∷ 65 ∷ 42 ∷ 1 ∷ 2 ∷ 7 ∷ 5 ∷ 4 ∷ 3 ∷ 4 ∷ 1 ∷ 5 ∷ 6 ∷ 4 ∷ 2 ∷ 4 ∷ 8 ∷ 2 ∷ 7 ∷ 7 ∷ 1 ∷ 2 ∷ 5 ∷ 8 ∷ 5 ∷ 5 ∷ 7 ∷ []) ≡ opened (state 2 (of_fields magic 8 2 (2 ∷ 0 ∷ 0 ∷ 0 ∷ 0 ∷ 0 ∷ 0 ∷ 0 ∷ 0 ∷ 0 ∷ 0 ∷ 0 ∷ 24 ∷ 0 ∷ 0 ∷ 8 ∷ 0 ∷ 109 ∷ [])) false (overlay 0 0 0 0 (0 ∷ 0 ∷ []) 0 (budget false 0 0 0 0 0))) (Done) (2 ∷ 0 ∷ 0 ∷ 0 ∷ 0 ∷ 0 ∷ 0 ∷ 0 ∷ 0 ∷ 0 ∷ 0 ∷ 0 ∷ 24 ∷ 0 ∷ 0 ∷ 8 ∷ 0 ∷ 109 ∷ 7 ∷ 255 ∷ 1 ∷ 0 ∷ 178 ∷ 24 ∷ 255 ∷ 0 ∷ 255 ∷ 11 ∷ 167 ∷ 140 ∷ 0 ∷ 7 ∷ 7 ∷ 255 ∷ 7 ∷ 118 ∷ 255 ∷ 1 ∷ 1 ∷ 27 ∷ 255 ∷ 1 ∷ 1 ∷ 59 ∷ 255 ∷ 255 ∷ 65 ∷ 42 ∷ 1 ∷ 2 ∷ 7 ∷ 5 ∷ 4 ∷ 3 ∷ 4 ∷ 1 ∷ 5 ∷ 6 ∷ 4 ∷ 2 ∷ 4 ∷ 8 ∷ 2 ∷ 7 ∷ 7 ∷ 1 ∷ 2 ∷ 5 ∷ 8 ∷ 5 ∷ 5 ∷ 7 ∷ [])) ×
    ((store 4 24 2 3 199 small_codec (state 2 (of_fields magic 8 2 (2 ∷ 0 ∷ 0 ∷ 0 ∷ 0 ∷ 0 ∷ 0 ∷ 0 ∷ 0 ∷ 0 ∷ 0 ∷ 0 ∷ 24 ∷ 0 ∷ 0 ∷ 8 ∷ 0 ∷ 109 ∷ [])) false (overlay 0 0 0 0 (0 ∷ 0 ∷ []) 0 (budget false 0 0 0 0 0))) (lent (2 ∷ 0 ∷ 0 ∷ 0 ∷ 0 ∷ 0 ∷ 0 ∷ 0 ∷ 0 ∷ 0 ∷ 0 ∷ 0 ∷ 24 ∷ 0 ∷ 0 ∷ 8 ∷ 0 ∷ 109 ∷ 7 ∷ 255 ∷ 1 ∷ 0 ∷ 178 ∷ 24 ∷ 255 ∷ 0 ∷ 255 ∷ 11 ∷ 167 ∷ 140 ∷ 0 ∷ 7 ∷ 7 ∷ 255 ∷ 7 ∷ 118 ∷ 255 ∷ 1 ∷ 1 ∷ 27 ∷ 255 ∷ 1 ∷ 1 ∷ 59 ∷ 255 ∷ 255 ∷ 65 ∷ 42 ∷ zeros 24) (6 ∷ 8 ∷ 2 ∷ 4 ∷ 4 ∷ 2 ∷ 5 ∷ 7 ∷ []) (0 ∷ 0 ∷ []) (2 ∷ 5 ∷ 6 ∷ 1 ∷ 2 ∷ 6 ∷ 2 ∷ 2 ∷ []) (6 ∷ 1 ∷ 2 ∷ 1 ∷ 1 ∷ 4 ∷ 6 ∷ 8 ∷ []) (8 ∷ 7 ∷ 4 ∷ 2 ∷ 6 ∷ 6 ∷ 5 ∷ 6 ∷ 6 ∷ 1 ∷ 4 ∷ 7 ∷ 3 ∷ 6 ∷ 1 ∷ 5 ∷ [])) (begin false 0 0) ≡ out (state 2 (of_fields magic 8 2 (2 ∷ 0 ∷ 0 ∷ 0 ∷ 0 ∷ 0 ∷ 0 ∷ 0 ∷ 0 ∷ 0 ∷ 0 ∷ 0 ∷ 24 ∷ 0 ∷ 0 ∷ 8 ∷ 0 ∷ 109 ∷ [])) true (overlay 2 2 0 0 (0 ∷ 0 ∷ []) 0 (budget false 0 0 0 0 0))) (lent (2 ∷ 0 ∷ 0 ∷ 0 ∷ 0 ∷ 0 ∷ 0 ∷ 0 ∷ 0 ∷ 0 ∷ 0 ∷ 0 ∷ 24 ∷ 0 ∷ 0 ∷ 8 ∷ 0 ∷ 109 ∷ 7 ∷ 255 ∷ 1 ∷ 0 ∷ 178 ∷ 24 ∷ 255 ∷ 0 ∷ 255 ∷ 11 ∷ 167 ∷ 140 ∷ 0 ∷ 7 ∷ 7 ∷ 255 ∷ 7 ∷ 118 ∷ 255 ∷ 1 ∷ 1 ∷ 27 ∷ 255 ∷ 1 ∷ 1 ∷ 59 ∷ 255 ∷ 255 ∷ 65 ∷ 42 ∷ zeros 24) (6 ∷ 8 ∷ 2 ∷ 4 ∷ 4 ∷ 2 ∷ 5 ∷ 7 ∷ []) (0 ∷ 0 ∷ []) (2 ∷ 5 ∷ 6 ∷ 1 ∷ 2 ∷ 6 ∷ 2 ∷ 2 ∷ []) (6 ∷ 1 ∷ 2 ∷ 1 ∷ 1 ∷ 4 ∷ 6 ∷ 8 ∷ []) (8 ∷ 7 ∷ 4 ∷ 2 ∷ 6 ∷ 6 ∷ 5 ∷ 6 ∷ 6 ∷ 1 ∷ 4 ∷ 7 ∷ 3 ∷ 6 ∷ 1 ∷ 5 ∷ [])) (Size 2) ([])) ×
    ((store 4 24 2 3 199 small_codec (state 2 (of_fields magic 8 2 (2 ∷ 0 ∷ 0 ∷ 0 ∷ 0 ∷ 0 ∷ 0 ∷ 0 ∷ 0 ∷ 0 ∷ 0 ∷ 0 ∷ 24 ∷ 0 ∷ 0 ∷ 8 ∷ 0 ∷ 109 ∷ [])) true (overlay 2 2 0 0 (0 ∷ 0 ∷ []) 0 (budget false 0 0 0 0 0))) (lent (2 ∷ 0 ∷ 0 ∷ 0 ∷ 0 ∷ 0 ∷ 0 ∷ 0 ∷ 0 ∷ 0 ∷ 0 ∷ 0 ∷ 24 ∷ 0 ∷ 0 ∷ 8 ∷ 0 ∷ 109 ∷ 7 ∷ 255 ∷ 1 ∷ 0 ∷ 178 ∷ 24 ∷ 255 ∷ 0 ∷ 255 ∷ 11 ∷ 167 ∷ 140 ∷ 0 ∷ 7 ∷ 7 ∷ 255 ∷ 7 ∷ 118 ∷ 255 ∷ 1 ∷ 1 ∷ 27 ∷ 255 ∷ 1 ∷ 1 ∷ 59 ∷ 255 ∷ 255 ∷ 65 ∷ 42 ∷ zeros 24) (5 ∷ 6 ∷ 6 ∷ 3 ∷ 8 ∷ 5 ∷ 7 ∷ 6 ∷ []) (0 ∷ 0 ∷ []) (4 ∷ 5 ∷ 5 ∷ 3 ∷ 4 ∷ 7 ∷ 3 ∷ 6 ∷ []) (6 ∷ 1 ∷ 2 ∷ 1 ∷ 1 ∷ 4 ∷ 6 ∷ 8 ∷ []) (2 ∷ 3 ∷ 7 ∷ 1 ∷ 3 ∷ 3 ∷ 4 ∷ 1 ∷ 4 ∷ 2 ∷ 8 ∷ 6 ∷ 3 ∷ 8 ∷ 2 ∷ 4 ∷ [])) (write 1 (1 ∷ 4 ∷ 7 ∷ 10 ∷ 13 ∷ 16 ∷ 19 ∷ 22 ∷ 25 ∷ 28 ∷ 31 ∷ 34 ∷ [])) ≡ out (state 2 (of_fields magic 8 2 (2 ∷ 0 ∷ 0 ∷ 0 ∷ 0 ∷ 0 ∷ 0 ∷ 0 ∷ 0 ∷ 0 ∷ 0 ∷ 0 ∷ 24 ∷ 0 ∷ 0 ∷ 8 ∷ 0 ∷ 109 ∷ [])) true (overlay 2 2 2 1 (0 ∷ 0 ∷ []) 0 (budget false 0 0 0 0 0))) (lent (2 ∷ 0 ∷ 0 ∷ 0 ∷ 0 ∷ 0 ∷ 0 ∷ 0 ∷ 0 ∷ 0 ∷ 0 ∷ 0 ∷ 24 ∷ 0 ∷ 0 ∷ 8 ∷ 0 ∷ 109 ∷ 7 ∷ 255 ∷ 1 ∷ 0 ∷ 178 ∷ 24 ∷ 255 ∷ 0 ∷ 255 ∷ 11 ∷ 167 ∷ 140 ∷ 0 ∷ 7 ∷ 7 ∷ 255 ∷ 7 ∷ 118 ∷ 255 ∷ 1 ∷ 1 ∷ 27 ∷ 255 ∷ 1 ∷ 1 ∷ 59 ∷ 255 ∷ 255 ∷ 65 ∷ 42 ∷ zeros 24) (255 ∷ 1 ∷ 4 ∷ 7 ∷ zeros 4) (0 ∷ 3 ∷ []) (4 ∷ 5 ∷ 5 ∷ 3 ∷ 4 ∷ 7 ∷ 3 ∷ 6 ∷ []) (1 ∷ 4 ∷ 2 ∷ 1 ∷ 1 ∷ 4 ∷ 6 ∷ 8 ∷ []) (zeros 16)) (Refused (FramesFull)) ([])) ×
    ((store 4 24 2 3 199 small_codec (state 2 (of_fields magic 8 2 (2 ∷ 0 ∷ 0 ∷ 0 ∷ 0 ∷ 0 ∷ 0 ∷ 0 ∷ 0 ∷ 0 ∷ 0 ∷ 0 ∷ 24 ∷ 0 ∷ 0 ∷ 8 ∷ 0 ∷ 109 ∷ [])) true (overlay 2 2 2 1 (0 ∷ 0 ∷ []) 0 (budget false 0 0 0 0 0))) (lent (2 ∷ 0 ∷ 0 ∷ 0 ∷ 0 ∷ 0 ∷ 0 ∷ 0 ∷ 0 ∷ 0 ∷ 0 ∷ 0 ∷ 24 ∷ 0 ∷ 0 ∷ 8 ∷ 0 ∷ 109 ∷ 7 ∷ 255 ∷ 1 ∷ 0 ∷ 178 ∷ 24 ∷ 255 ∷ 0 ∷ 255 ∷ 11 ∷ 167 ∷ 140 ∷ 0 ∷ 7 ∷ 7 ∷ 255 ∷ 7 ∷ 118 ∷ 255 ∷ 1 ∷ 1 ∷ 27 ∷ 255 ∷ 1 ∷ 1 ∷ 59 ∷ 255 ∷ 255 ∷ 65 ∷ 42 ∷ 8 ∷ 1 ∷ 7 ∷ 6 ∷ 5 ∷ 8 ∷ 2 ∷ 7 ∷ 1 ∷ 3 ∷ 3 ∷ 8 ∷ 3 ∷ 4 ∷ 6 ∷ 2 ∷ 4 ∷ 8 ∷ 4 ∷ 3 ∷ 5 ∷ 7 ∷ 3 ∷ 4 ∷ []) (255 ∷ 1 ∷ 4 ∷ 7 ∷ zeros 4) (0 ∷ 3 ∷ []) (8 ∷ 1 ∷ 4 ∷ 2 ∷ 2 ∷ 3 ∷ 8 ∷ 7 ∷ []) (1 ∷ 4 ∷ 2 ∷ 1 ∷ 1 ∷ 4 ∷ 6 ∷ 8 ∷ []) (2 ∷ 2 ∷ 7 ∷ 7 ∷ 5 ∷ 7 ∷ 8 ∷ 7 ∷ 6 ∷ 1 ∷ 1 ∷ 1 ∷ 3 ∷ 3 ∷ 2 ∷ 8 ∷ [])) (write 2 (9 ∷ [])) ≡ out (state 2 (of_fields magic 8 2 (2 ∷ 0 ∷ 0 ∷ 0 ∷ 0 ∷ 0 ∷ 0 ∷ 0 ∷ 0 ∷ 0 ∷ 0 ∷ 0 ∷ 24 ∷ 0 ∷ 0 ∷ 8 ∷ 0 ∷ 109 ∷ [])) true (overlay 2 3 2 1 (0 ∷ 0 ∷ []) 0 (budget false 0 0 0 0 0))) (lent (2 ∷ 0 ∷ 0 ∷ 0 ∷ 0 ∷ 0 ∷ 0 ∷ 0 ∷ 0 ∷ 0 ∷ 0 ∷ 0 ∷ 24 ∷ 0 ∷ 0 ∷ 8 ∷ 0 ∷ 109 ∷ 7 ∷ 255 ∷ 1 ∷ 0 ∷ 178 ∷ 24 ∷ 255 ∷ 0 ∷ 255 ∷ 11 ∷ 167 ∷ 140 ∷ 0 ∷ 7 ∷ 7 ∷ 255 ∷ 7 ∷ 118 ∷ 255 ∷ 1 ∷ 1 ∷ 27 ∷ 255 ∷ 1 ∷ 1 ∷ 59 ∷ 255 ∷ 255 ∷ 65 ∷ 42 ∷ 8 ∷ 1 ∷ 7 ∷ 6 ∷ 5 ∷ 8 ∷ 2 ∷ 7 ∷ 1 ∷ 3 ∷ 3 ∷ 8 ∷ 3 ∷ 4 ∷ 6 ∷ 2 ∷ 4 ∷ 8 ∷ 4 ∷ 3 ∷ 5 ∷ 7 ∷ 3 ∷ 4 ∷ []) (255 ∷ 1 ∷ 9 ∷ 7 ∷ zeros 4) (0 ∷ 3 ∷ []) (8 ∷ 1 ∷ 4 ∷ 2 ∷ 2 ∷ 3 ∷ 8 ∷ 7 ∷ []) (1 ∷ 4 ∷ 2 ∷ 1 ∷ 1 ∷ 4 ∷ 6 ∷ 8 ∷ []) (zeros 16)) (Done) ([])) ×
    ((store 4 24 2 3 199 small_codec (state 2 (of_fields magic 8 2 (2 ∷ 0 ∷ 0 ∷ 0 ∷ 0 ∷ 0 ∷ 0 ∷ 0 ∷ 0 ∷ 0 ∷ 0 ∷ 0 ∷ 24 ∷ 0 ∷ 0 ∷ 8 ∷ 0 ∷ 109 ∷ [])) true (overlay 2 3 2 1 (0 ∷ 0 ∷ []) 0 (budget false 0 0 0 0 0))) (lent (2 ∷ 0 ∷ 0 ∷ 0 ∷ 0 ∷ 0 ∷ 0 ∷ 0 ∷ 0 ∷ 0 ∷ 0 ∷ 0 ∷ 24 ∷ 0 ∷ 0 ∷ 8 ∷ 0 ∷ 109 ∷ 7 ∷ 255 ∷ 1 ∷ 0 ∷ 178 ∷ 24 ∷ 255 ∷ 0 ∷ 255 ∷ 11 ∷ 167 ∷ 140 ∷ 0 ∷ 7 ∷ 7 ∷ 255 ∷ 7 ∷ 118 ∷ 255 ∷ 1 ∷ 1 ∷ 27 ∷ 255 ∷ 1 ∷ 1 ∷ 59 ∷ 255 ∷ 255 ∷ 65 ∷ 42 ∷ 2 ∷ 8 ∷ 8 ∷ 4 ∷ 6 ∷ 1 ∷ 7 ∷ 1 ∷ 4 ∷ 7 ∷ 3 ∷ 2 ∷ 2 ∷ 1 ∷ 5 ∷ 7 ∷ 7 ∷ 1 ∷ 7 ∷ 6 ∷ 1 ∷ 6 ∷ 8 ∷ 7 ∷ []) (255 ∷ 1 ∷ 9 ∷ 7 ∷ zeros 4) (0 ∷ 3 ∷ []) (5 ∷ 2 ∷ 7 ∷ 6 ∷ 6 ∷ 7 ∷ 5 ∷ 8 ∷ []) (1 ∷ 4 ∷ 6 ∷ 1 ∷ 3 ∷ 3 ∷ 7 ∷ 7 ∷ []) (5 ∷ 5 ∷ 4 ∷ 1 ∷ 5 ∷ 8 ∷ 7 ∷ 5 ∷ 4 ∷ 7 ∷ 6 ∷ 3 ∷ 2 ∷ 2 ∷ 4 ∷ 7 ∷ [])) (read 0 (5 ∷ 5 ∷ 5 ∷ 5 ∷ 5 ∷ 5 ∷ 5 ∷ [])) ≡ out (state 2 (of_fields magic 8 2 (2 ∷ 0 ∷ 0 ∷ 0 ∷ 0 ∷ 0 ∷ 0 ∷ 0 ∷ 0 ∷ 0 ∷ 0 ∷ 0 ∷ 24 ∷ 0 ∷ 0 ∷ 8 ∷ 0 ∷ 109 ∷ [])) true (overlay 2 3 2 1 (0 ∷ 0 ∷ []) 0 (budget false 0 0 0 0 0))) (lent (2 ∷ 0 ∷ 0 ∷ 0 ∷ 0 ∷ 0 ∷ 0 ∷ 0 ∷ 0 ∷ 0 ∷ 0 ∷ 0 ∷ 24 ∷ 0 ∷ 0 ∷ 8 ∷ 0 ∷ 109 ∷ 7 ∷ 255 ∷ 1 ∷ 0 ∷ 178 ∷ 24 ∷ 255 ∷ 0 ∷ 255 ∷ 11 ∷ 167 ∷ 140 ∷ 0 ∷ 7 ∷ 7 ∷ 255 ∷ 7 ∷ 118 ∷ 255 ∷ 1 ∷ 1 ∷ 27 ∷ 255 ∷ 1 ∷ 1 ∷ 59 ∷ 255 ∷ 255 ∷ 65 ∷ 42 ∷ 2 ∷ 8 ∷ 8 ∷ 4 ∷ 6 ∷ 1 ∷ 7 ∷ 1 ∷ 4 ∷ 7 ∷ 3 ∷ 2 ∷ 2 ∷ 1 ∷ 5 ∷ 7 ∷ 7 ∷ 1 ∷ 7 ∷ 6 ∷ 1 ∷ 6 ∷ 8 ∷ 7 ∷ []) (255 ∷ 1 ∷ 9 ∷ 7 ∷ zeros 4) (0 ∷ 3 ∷ []) (5 ∷ 2 ∷ 7 ∷ 6 ∷ 6 ∷ 7 ∷ 5 ∷ 8 ∷ []) (1 ∷ 4 ∷ 6 ∷ 1 ∷ 3 ∷ 3 ∷ 7 ∷ 7 ∷ []) (5 ∷ 5 ∷ 4 ∷ 1 ∷ 5 ∷ 8 ∷ 7 ∷ 5 ∷ 4 ∷ 7 ∷ 6 ∷ 3 ∷ 2 ∷ 2 ∷ 4 ∷ 7 ∷ [])) (Read false) (255 ∷ 1 ∷ 9 ∷ zeros 4)) ×
    ((store 4 24 2 3 199 small_codec (state 2 (of_fields magic 8 2 (2 ∷ 0 ∷ 0 ∷ 0 ∷ 0 ∷ 0 ∷ 0 ∷ 0 ∷ 0 ∷ 0 ∷ 0 ∷ 0 ∷ 24 ∷ 0 ∷ 0 ∷ 8 ∷ 0 ∷ 109 ∷ [])) true (overlay 2 3 2 1 (0 ∷ 0 ∷ []) 0 (budget false 0 0 0 0 0))) (lent (2 ∷ 0 ∷ 0 ∷ 0 ∷ 0 ∷ 0 ∷ 0 ∷ 0 ∷ 0 ∷ 0 ∷ 0 ∷ 0 ∷ 24 ∷ 0 ∷ 0 ∷ 8 ∷ 0 ∷ 109 ∷ 7 ∷ 255 ∷ 1 ∷ 0 ∷ 178 ∷ 24 ∷ 255 ∷ 0 ∷ 255 ∷ 11 ∷ 167 ∷ 140 ∷ 0 ∷ 7 ∷ 7 ∷ 255 ∷ 7 ∷ 118 ∷ 255 ∷ 1 ∷ 1 ∷ 27 ∷ 255 ∷ 1 ∷ 1 ∷ 59 ∷ 255 ∷ 255 ∷ 65 ∷ 42 ∷ 7 ∷ 2 ∷ 3 ∷ 8 ∷ 5 ∷ 8 ∷ 2 ∷ 1 ∷ 7 ∷ 1 ∷ 1 ∷ 5 ∷ 6 ∷ 5 ∷ 2 ∷ 2 ∷ 2 ∷ 2 ∷ 4 ∷ 3 ∷ 7 ∷ 1 ∷ 8 ∷ 5 ∷ []) (255 ∷ 1 ∷ 9 ∷ 7 ∷ zeros 4) (0 ∷ 3 ∷ []) (zeros 8) (1 ∷ 4 ∷ 4 ∷ 1 ∷ 6 ∷ 2 ∷ 2 ∷ 8 ∷ []) (zeros 16)) (commit) ≡ out (state 2 (of_fields magic 8 2 (3 ∷ 0 ∷ 1 ∷ 2 ∷ 0 ∷ 0 ∷ 0 ∷ 0 ∷ 0 ∷ 0 ∷ 0 ∷ 0 ∷ 24 ∷ 0 ∷ 1 ∷ 8 ∷ 1 ∷ 182 ∷ [])) false (overlay 0 0 0 0 (0 ∷ 0 ∷ []) 0 (budget false 0 0 0 0 0))) (lent (3 ∷ 0 ∷ 1 ∷ 2 ∷ 0 ∷ 0 ∷ 0 ∷ 0 ∷ 0 ∷ 0 ∷ 0 ∷ 0 ∷ 24 ∷ 0 ∷ 1 ∷ 8 ∷ 1 ∷ 182 ∷ 1 ∷ 4 ∷ 1 ∷ 0 ∷ 178 ∷ 24 ∷ 255 ∷ 1 ∷ 9 ∷ 7 ∷ 167 ∷ 140 ∷ 0 ∷ 7 ∷ 7 ∷ 255 ∷ 7 ∷ 118 ∷ 255 ∷ 1 ∷ 1 ∷ 27 ∷ 255 ∷ 1 ∷ 1 ∷ 59 ∷ 255 ∷ 255 ∷ 65 ∷ 42 ∷ 7 ∷ 2 ∷ 3 ∷ 8 ∷ 5 ∷ 8 ∷ 2 ∷ 1 ∷ 7 ∷ 1 ∷ 1 ∷ 5 ∷ 6 ∷ 5 ∷ 2 ∷ 2 ∷ 2 ∷ 2 ∷ 4 ∷ 3 ∷ 7 ∷ 1 ∷ 8 ∷ 5 ∷ []) (zeros 8) (0 ∷ 0 ∷ []) (zeros 8) (zeros 8) (zeros 16)) (Done) ([])))))))
unfolding count filled overwrite resize growMemory requiredPages normalized within merge insert add around piece remove flatRuns additions add_one remain plan put refill tabulate add_number_if span grown_numbers image_byte image_page push_run raw over_byte budget_bytes raised touch blank copy stretch patch finish grow grow_to chop tail truncated whole_page over_write written fresh look_up sized passing marked try_touch try_patch try_finish try_grow try_grow_to try_tail try_chop try_truncate try_write frame_count entry_count wiped cached short_buffers view overlay_of put_back dirty_page stored small_codec small_sum small_decode small_runs small_load small_fresh importing stale refreshing marks after_commit after_import_begin after_import_chunk after_import_cancel after_import_finish after_refresh after_refresh_step short store_plan no_overlay image_bytes unchanged planned_runs commit_over restore do_import_begin do_import_chunk do_import_finish do_import_cancel do_export image_sum do_checksum do_refresh refresh_from do_refresh_step store outside open_image closing open'
c3 = (refl, (refl, (refl, (refl, (refl, (refl))))))

-- open: accepted (far dirty)
-- begin: accepted (far dirty)
-- write in update: 33 (far dirty)
-- write in update: 33 (far dirty)
-- commit in update: 31 (far dirty)
c4 :
    (open' 4 24 2 3 199 small_codec 2 (20 ∷ 0 ∷ 0 ∷ 0 ∷ 0 ∷ 0 ∷ 0 ∷ 0 ∷ 0 ∷ 0 ∷ 0 ∷ 0 ∷ 24 ∷ 0 ∷ 0 ∷ 8 ∷ 3 ∷ 4 ∷ 9 ∷ 10 ∷ 20 ∷ 21 ∷ 30 ∷ 31 ∷ 1 ∷ 7 ∷ 1 ∷ 0 ∷ 91 ∷ 0 ∷ 1 ∷ 7 ∷ 176 ∷ 1 ∷ 7 ∷ 255 ∷ 7 ∷ 0 ∷ 0 ∷ 7 ∷ 0 ∷ 0 ∷ 0 ∷ 1 ∷ 255 ∷ 0 ∷ 1 ∷ 0 ∷ 8 ∷ 2 ∷ 4 ∷ 8 ∷ 4 ∷ 1 ∷ 3 ∷ 6 ∷ 5 ∷ 8 ∷ 2 ∷ 3 ∷ 4 ∷ 1 ∷ 7 ∷ 4 ∷ 4 ∷ 2 ∷ 6 ∷ 5 ∷ 1 ∷ 1 ∷ 4 ∷ 8 ∷ []) ≡ opened (state 2 (of_fields magic 8 2 (20 ∷ 0 ∷ 0 ∷ 0 ∷ 0 ∷ 0 ∷ 0 ∷ 0 ∷ 0 ∷ 0 ∷ 0 ∷ 0 ∷ 24 ∷ 0 ∷ 0 ∷ 8 ∷ 3 ∷ 4 ∷ [])) false (overlay 0 0 0 0 (0 ∷ 0 ∷ []) 0 (budget false 0 0 0 0 0))) (Done) (20 ∷ 0 ∷ 0 ∷ 0 ∷ 0 ∷ 0 ∷ 0 ∷ 0 ∷ 0 ∷ 0 ∷ 0 ∷ 0 ∷ 24 ∷ 0 ∷ 0 ∷ 8 ∷ 3 ∷ 4 ∷ 9 ∷ 10 ∷ 20 ∷ 21 ∷ 30 ∷ 31 ∷ 1 ∷ 7 ∷ 1 ∷ 0 ∷ 91 ∷ 0 ∷ 1 ∷ 7 ∷ 176 ∷ 1 ∷ 7 ∷ 255 ∷ 7 ∷ 0 ∷ 0 ∷ 7 ∷ 0 ∷ 0 ∷ 0 ∷ 1 ∷ 255 ∷ 0 ∷ 1 ∷ 0 ∷ 8 ∷ 2 ∷ 4 ∷ 8 ∷ 4 ∷ 1 ∷ 3 ∷ 6 ∷ 5 ∷ 8 ∷ 2 ∷ 3 ∷ 4 ∷ 1 ∷ 7 ∷ 4 ∷ 4 ∷ 2 ∷ 6 ∷ 5 ∷ 1 ∷ 1 ∷ 4 ∷ 8 ∷ [])) ×
    ((store 4 24 2 3 199 small_codec (state 2 (of_fields magic 8 2 (20 ∷ 0 ∷ 0 ∷ 0 ∷ 0 ∷ 0 ∷ 0 ∷ 0 ∷ 0 ∷ 0 ∷ 0 ∷ 0 ∷ 24 ∷ 0 ∷ 0 ∷ 8 ∷ 3 ∷ 4 ∷ [])) false (overlay 0 0 0 0 (0 ∷ 0 ∷ []) 0 (budget false 0 0 0 0 0))) (lent (20 ∷ 0 ∷ 0 ∷ 0 ∷ 0 ∷ 0 ∷ 0 ∷ 0 ∷ 0 ∷ 0 ∷ 0 ∷ 0 ∷ 24 ∷ 0 ∷ 0 ∷ 8 ∷ 3 ∷ 4 ∷ 9 ∷ 10 ∷ 20 ∷ 21 ∷ 30 ∷ 31 ∷ 1 ∷ 7 ∷ 1 ∷ 0 ∷ 91 ∷ 0 ∷ 1 ∷ 7 ∷ 176 ∷ 1 ∷ 7 ∷ 255 ∷ 7 ∷ 0 ∷ 0 ∷ 7 ∷ 0 ∷ 0 ∷ 0 ∷ 1 ∷ 255 ∷ 0 ∷ 1 ∷ 0 ∷ 8 ∷ 2 ∷ 4 ∷ 8 ∷ 4 ∷ 1 ∷ 3 ∷ 6 ∷ 5 ∷ 8 ∷ 2 ∷ 3 ∷ 4 ∷ 1 ∷ 7 ∷ 4 ∷ 4 ∷ 2 ∷ 6 ∷ 5 ∷ 1 ∷ 1 ∷ 4 ∷ 8 ∷ []) (zeros 4) (2 ∷ []) (zeros 8) (zeros 8) (5 ∷ 7 ∷ 1 ∷ 4 ∷ 8 ∷ 1 ∷ 1 ∷ 6 ∷ 1 ∷ 2 ∷ 8 ∷ 3 ∷ [])) (begin false 0 0) ≡ out (state 2 (of_fields magic 8 2 (20 ∷ 0 ∷ 0 ∷ 0 ∷ 0 ∷ 0 ∷ 0 ∷ 0 ∷ 0 ∷ 0 ∷ 0 ∷ 0 ∷ 24 ∷ 0 ∷ 0 ∷ 8 ∷ 3 ∷ 4 ∷ [])) true (overlay 20 20 0 0 (0 ∷ 0 ∷ []) 0 (budget false 0 0 0 0 0))) (lent (20 ∷ 0 ∷ 0 ∷ 0 ∷ 0 ∷ 0 ∷ 0 ∷ 0 ∷ 0 ∷ 0 ∷ 0 ∷ 0 ∷ 24 ∷ 0 ∷ 0 ∷ 8 ∷ 3 ∷ 4 ∷ 9 ∷ 10 ∷ 20 ∷ 21 ∷ 30 ∷ 31 ∷ 1 ∷ 7 ∷ 1 ∷ 0 ∷ 91 ∷ 0 ∷ 1 ∷ 7 ∷ 176 ∷ 1 ∷ 7 ∷ 255 ∷ 7 ∷ 0 ∷ 0 ∷ 7 ∷ 0 ∷ 0 ∷ 0 ∷ 1 ∷ 255 ∷ 0 ∷ 1 ∷ 0 ∷ 8 ∷ 2 ∷ 4 ∷ 8 ∷ 4 ∷ 1 ∷ 3 ∷ 6 ∷ 5 ∷ 8 ∷ 2 ∷ 3 ∷ 4 ∷ 1 ∷ 7 ∷ 4 ∷ 4 ∷ 2 ∷ 6 ∷ 5 ∷ 1 ∷ 1 ∷ 4 ∷ 8 ∷ []) (zeros 4) (2 ∷ []) (zeros 8) (zeros 8) (5 ∷ 7 ∷ 1 ∷ 4 ∷ 8 ∷ 1 ∷ 1 ∷ 6 ∷ 1 ∷ 2 ∷ 8 ∷ 3 ∷ [])) (Size 20) ([])) ×
    ((store 4 24 2 3 199 small_codec (state 2 (of_fields magic 8 2 (20 ∷ 0 ∷ 0 ∷ 0 ∷ 0 ∷ 0 ∷ 0 ∷ 0 ∷ 0 ∷ 0 ∷ 0 ∷ 0 ∷ 24 ∷ 0 ∷ 0 ∷ 8 ∷ 3 ∷ 4 ∷ [])) true (overlay 20 20 0 0 (0 ∷ 0 ∷ []) 0 (budget false 0 0 0 0 0))) (lent (20 ∷ 0 ∷ 0 ∷ 0 ∷ 0 ∷ 0 ∷ 0 ∷ 0 ∷ 0 ∷ 0 ∷ 0 ∷ 0 ∷ 24 ∷ 0 ∷ 0 ∷ 8 ∷ 3 ∷ 4 ∷ 9 ∷ 10 ∷ 20 ∷ 21 ∷ 30 ∷ 31 ∷ 1 ∷ 7 ∷ 1 ∷ 0 ∷ 91 ∷ 0 ∷ 1 ∷ 7 ∷ 176 ∷ 1 ∷ 7 ∷ 255 ∷ 7 ∷ 0 ∷ 0 ∷ 7 ∷ 0 ∷ 0 ∷ 0 ∷ 1 ∷ 255 ∷ 0 ∷ 1 ∷ 0 ∷ 5 ∷ 8 ∷ 1 ∷ 3 ∷ 4 ∷ 5 ∷ 7 ∷ 4 ∷ 3 ∷ 4 ∷ 4 ∷ 6 ∷ 4 ∷ 6 ∷ 3 ∷ 2 ∷ 2 ∷ 7 ∷ 2 ∷ 6 ∷ 8 ∷ 1 ∷ 5 ∷ 8 ∷ []) (zeros 4) (0 ∷ []) (zeros 8) (zeros 8) (2 ∷ 3 ∷ 6 ∷ 8 ∷ 1 ∷ 3 ∷ 6 ∷ 1 ∷ 6 ∷ 6 ∷ 6 ∷ 1 ∷ [])) (write 20 (1 ∷ 4 ∷ 7 ∷ 10 ∷ 13 ∷ 16 ∷ 19 ∷ 22 ∷ 25 ∷ [])) ≡ out (state 2 (of_fields magic 8 2 (20 ∷ 0 ∷ 0 ∷ 0 ∷ 0 ∷ 0 ∷ 0 ∷ 0 ∷ 0 ∷ 0 ∷ 0 ∷ 0 ∷ 24 ∷ 0 ∷ 0 ∷ 8 ∷ 3 ∷ 4 ∷ [])) true (overlay 20 20 1 1 (0 ∷ 0 ∷ []) 0 (budget false 0 0 0 0 0))) (lent (20 ∷ 0 ∷ 0 ∷ 0 ∷ 0 ∷ 0 ∷ 0 ∷ 0 ∷ 0 ∷ 0 ∷ 0 ∷ 0 ∷ 24 ∷ 0 ∷ 0 ∷ 8 ∷ 3 ∷ 4 ∷ 9 ∷ 10 ∷ 20 ∷ 21 ∷ 30 ∷ 31 ∷ 1 ∷ 7 ∷ 1 ∷ 0 ∷ 91 ∷ 0 ∷ 1 ∷ 7 ∷ 176 ∷ 1 ∷ 7 ∷ 255 ∷ 7 ∷ 0 ∷ 0 ∷ 7 ∷ 0 ∷ 0 ∷ 0 ∷ 1 ∷ 255 ∷ 0 ∷ 1 ∷ 0 ∷ 5 ∷ 8 ∷ 1 ∷ 3 ∷ 4 ∷ 5 ∷ 7 ∷ 4 ∷ 3 ∷ 4 ∷ 4 ∷ 6 ∷ 4 ∷ 6 ∷ 3 ∷ 2 ∷ 2 ∷ 7 ∷ 2 ∷ 6 ∷ 8 ∷ 1 ∷ 5 ∷ 8 ∷ []) (zeros 4) (7 ∷ []) (zeros 8) (5 ∷ 8 ∷ zeros 6) (zeros 12)) (Refused (FramesFull)) ([])) ×
    ((store 4 24 2 3 199 small_codec (state 2 (of_fields magic 8 2 (20 ∷ 0 ∷ 0 ∷ 0 ∷ 0 ∷ 0 ∷ 0 ∷ 0 ∷ 0 ∷ 0 ∷ 0 ∷ 0 ∷ 24 ∷ 0 ∷ 0 ∷ 8 ∷ 3 ∷ 4 ∷ [])) true (overlay 20 20 1 1 (0 ∷ 0 ∷ []) 0 (budget false 0 0 0 0 0))) (lent (20 ∷ 0 ∷ 0 ∷ 0 ∷ 0 ∷ 0 ∷ 0 ∷ 0 ∷ 0 ∷ 0 ∷ 0 ∷ 0 ∷ 24 ∷ 0 ∷ 0 ∷ 8 ∷ 3 ∷ 4 ∷ 9 ∷ 10 ∷ 20 ∷ 21 ∷ 30 ∷ 31 ∷ 1 ∷ 7 ∷ 1 ∷ 0 ∷ 91 ∷ 0 ∷ 1 ∷ 7 ∷ 176 ∷ 1 ∷ 7 ∷ 255 ∷ 7 ∷ 0 ∷ 0 ∷ 7 ∷ 0 ∷ 0 ∷ 0 ∷ 1 ∷ 255 ∷ 0 ∷ 1 ∷ zeros 25) (zeros 4) (7 ∷ []) (5 ∷ 7 ∷ 7 ∷ 8 ∷ 2 ∷ 7 ∷ 3 ∷ 3 ∷ []) (5 ∷ 8 ∷ 8 ∷ 3 ∷ 8 ∷ 3 ∷ 7 ∷ 3 ∷ []) (zeros 12)) (write 20 (1 ∷ 4 ∷ 7 ∷ 10 ∷ 13 ∷ 16 ∷ 19 ∷ 22 ∷ 25 ∷ 28 ∷ 31 ∷ 34 ∷ 37 ∷ 40 ∷ 43 ∷ 46 ∷ [])) ≡ out (state 2 (of_fields magic 8 2 (20 ∷ 0 ∷ 0 ∷ 0 ∷ 0 ∷ 0 ∷ 0 ∷ 0 ∷ 0 ∷ 0 ∷ 0 ∷ 0 ∷ 24 ∷ 0 ∷ 0 ∷ 8 ∷ 3 ∷ 4 ∷ [])) true (overlay 20 20 1 2 (0 ∷ 0 ∷ []) 0 (budget false 0 0 0 0 0))) (lent (20 ∷ 0 ∷ 0 ∷ 0 ∷ 0 ∷ 0 ∷ 0 ∷ 0 ∷ 0 ∷ 0 ∷ 0 ∷ 0 ∷ 24 ∷ 0 ∷ 0 ∷ 8 ∷ 3 ∷ 4 ∷ 9 ∷ 10 ∷ 20 ∷ 21 ∷ 30 ∷ 31 ∷ 1 ∷ 7 ∷ 1 ∷ 0 ∷ 91 ∷ 0 ∷ 1 ∷ 7 ∷ 176 ∷ 1 ∷ 7 ∷ 255 ∷ 7 ∷ 0 ∷ 0 ∷ 7 ∷ 0 ∷ 0 ∷ 0 ∷ 1 ∷ 255 ∷ 0 ∷ 1 ∷ zeros 25) (zeros 4) (7 ∷ []) (5 ∷ 7 ∷ 7 ∷ 8 ∷ 2 ∷ 7 ∷ 3 ∷ 3 ∷ []) (5 ∷ 8 ∷ 5 ∷ 9 ∷ 8 ∷ 3 ∷ 7 ∷ 3 ∷ []) (zeros 12)) (Refused (FramesFull)) ([])) ×
    ((store 4 24 2 3 199 small_codec (state 2 (of_fields magic 8 2 (20 ∷ 0 ∷ 0 ∷ 0 ∷ 0 ∷ 0 ∷ 0 ∷ 0 ∷ 0 ∷ 0 ∷ 0 ∷ 0 ∷ 24 ∷ 0 ∷ 0 ∷ 8 ∷ 3 ∷ 4 ∷ [])) true (overlay 20 20 1 2 (0 ∷ 0 ∷ []) 0 (budget false 0 0 0 0 0))) (lent (20 ∷ 0 ∷ 0 ∷ 0 ∷ 0 ∷ 0 ∷ 0 ∷ 0 ∷ 0 ∷ 0 ∷ 0 ∷ 0 ∷ 24 ∷ 0 ∷ 0 ∷ 8 ∷ 3 ∷ 4 ∷ 9 ∷ 10 ∷ 20 ∷ 21 ∷ 30 ∷ 31 ∷ 1 ∷ 7 ∷ 1 ∷ 0 ∷ 91 ∷ 0 ∷ 1 ∷ 7 ∷ 176 ∷ 1 ∷ 7 ∷ 255 ∷ 7 ∷ 0 ∷ 0 ∷ 7 ∷ 0 ∷ 0 ∷ 0 ∷ 1 ∷ 255 ∷ 0 ∷ 1 ∷ zeros 25) (zeros 4) (7 ∷ []) (5 ∷ 3 ∷ 3 ∷ 3 ∷ 4 ∷ 3 ∷ 6 ∷ 8 ∷ []) (5 ∷ 8 ∷ 5 ∷ 9 ∷ zeros 4) (8 ∷ 5 ∷ 1 ∷ 2 ∷ 7 ∷ 2 ∷ 7 ∷ 3 ∷ 4 ∷ 1 ∷ 8 ∷ 1 ∷ [])) (commit) ≡ out (state 2 (of_fields magic 8 2 (20 ∷ 0 ∷ 0 ∷ 0 ∷ 0 ∷ 0 ∷ 0 ∷ 0 ∷ 0 ∷ 0 ∷ 0 ∷ 0 ∷ 24 ∷ 0 ∷ 0 ∷ 8 ∷ 3 ∷ 4 ∷ [])) false (overlay 0 0 0 0 (0 ∷ 0 ∷ []) 0 (budget false 0 0 0 0 0))) (lent (20 ∷ 0 ∷ 0 ∷ 0 ∷ 0 ∷ 0 ∷ 0 ∷ 0 ∷ 0 ∷ 0 ∷ 0 ∷ 0 ∷ 24 ∷ 0 ∷ 0 ∷ 8 ∷ 3 ∷ 4 ∷ 9 ∷ 10 ∷ 20 ∷ 21 ∷ 30 ∷ 31 ∷ 1 ∷ 7 ∷ 1 ∷ 0 ∷ 91 ∷ 0 ∷ 1 ∷ 7 ∷ 176 ∷ 1 ∷ 7 ∷ 255 ∷ 7 ∷ 0 ∷ 0 ∷ 7 ∷ 0 ∷ 0 ∷ 0 ∷ 1 ∷ 255 ∷ 0 ∷ 1 ∷ zeros 25) (zeros 4) (0 ∷ []) (zeros 8) (zeros 8) (zeros 12)) (Refused (ZeroExtentLimitExceeded)) ([]))))))
unfolding count filled overwrite resize growMemory requiredPages normalized within merge insert add around piece remove flatRuns additions add_one remain plan put refill tabulate add_number_if span grown_numbers image_byte image_page push_run raw over_byte budget_bytes raised touch blank copy stretch patch finish grow grow_to chop tail truncated whole_page over_write written fresh look_up sized passing marked try_touch try_patch try_finish try_grow try_grow_to try_tail try_chop try_truncate try_write frame_count entry_count wiped cached short_buffers view overlay_of put_back dirty_page stored small_codec small_sum small_decode small_runs small_load small_fresh importing stale refreshing marks after_commit after_import_begin after_import_chunk after_import_cancel after_import_finish after_refresh after_refresh_step short store_plan no_overlay image_bytes unchanged planned_runs commit_over restore do_import_begin do_import_chunk do_import_finish do_import_cancel do_export image_sum do_checksum do_refresh refresh_from do_refresh_step store outside open_image closing open'
c4 = (refl, (refl, (refl, (refl, (refl)))))

-- open: accepted (cached then written)
-- begin: accepted (cached then written)
-- read in update: accepted (cached then written)
-- write in update: accepted (cached then written)
-- read in update: accepted (cached then written)
-- write in update: accepted (cached then written)
-- read in update: accepted (cached then written)
-- truncate in update: accepted (cached then written)
-- commit in update: accepted (cached then written)
c5 :
    (open' 4 24 2 3 199 small_codec 2 (16 ∷ 0 ∷ 0 ∷ 0 ∷ 0 ∷ 0 ∷ 0 ∷ 0 ∷ 0 ∷ 0 ∷ 0 ∷ 0 ∷ 24 ∷ 0 ∷ 0 ∷ 8 ∷ 1 ∷ 17 ∷ 1 ∷ 2 ∷ 61 ∷ 87 ∷ 1 ∷ 38 ∷ 7 ∷ 1 ∷ 178 ∷ 96 ∷ 7 ∷ 7 ∷ 0 ∷ 255 ∷ 7 ∷ 1 ∷ 1 ∷ 255 ∷ 1 ∷ 1 ∷ 7 ∷ 1 ∷ 74 ∷ 0 ∷ 7 ∷ 255 ∷ 175 ∷ 0 ∷ 1 ∷ 80 ∷ 8 ∷ 3 ∷ 8 ∷ 5 ∷ 3 ∷ 5 ∷ 5 ∷ 7 ∷ 2 ∷ 7 ∷ 4 ∷ 2 ∷ 3 ∷ 1 ∷ 7 ∷ 1 ∷ 2 ∷ 6 ∷ 3 ∷ 2 ∷ 6 ∷ 7 ∷ 3 ∷ 1 ∷ []) ≡ opened (state 2 (of_fields magic 8 2 (16 ∷ 0 ∷ 0 ∷ 0 ∷ 0 ∷ 0 ∷ 0 ∷ 0 ∷ 0 ∷ 0 ∷ 0 ∷ 0 ∷ 24 ∷ 0 ∷ 0 ∷ 8 ∷ 1 ∷ 17 ∷ [])) false (overlay 0 0 0 0 (0 ∷ 0 ∷ []) 0 (budget false 0 0 0 0 0))) (Done) (16 ∷ 0 ∷ 0 ∷ 0 ∷ 0 ∷ 0 ∷ 0 ∷ 0 ∷ 0 ∷ 0 ∷ 0 ∷ 0 ∷ 24 ∷ 0 ∷ 0 ∷ 8 ∷ 1 ∷ 17 ∷ 1 ∷ 2 ∷ 61 ∷ 87 ∷ 1 ∷ 38 ∷ 7 ∷ 1 ∷ 178 ∷ 96 ∷ 7 ∷ 7 ∷ 0 ∷ 255 ∷ 7 ∷ 1 ∷ 1 ∷ 255 ∷ 1 ∷ 1 ∷ 7 ∷ 1 ∷ 74 ∷ 0 ∷ 7 ∷ 255 ∷ 175 ∷ 0 ∷ 1 ∷ 80 ∷ 8 ∷ 3 ∷ 8 ∷ 5 ∷ 3 ∷ 5 ∷ 5 ∷ 7 ∷ 2 ∷ 7 ∷ 4 ∷ 2 ∷ 3 ∷ 1 ∷ 7 ∷ 1 ∷ 2 ∷ 6 ∷ 3 ∷ 2 ∷ 6 ∷ 7 ∷ 3 ∷ 1 ∷ [])) ×
    ((store 4 24 2 3 199 small_codec (state 2 (of_fields magic 8 2 (16 ∷ 0 ∷ 0 ∷ 0 ∷ 0 ∷ 0 ∷ 0 ∷ 0 ∷ 0 ∷ 0 ∷ 0 ∷ 0 ∷ 24 ∷ 0 ∷ 0 ∷ 8 ∷ 1 ∷ 17 ∷ [])) false (overlay 0 0 0 0 (0 ∷ 0 ∷ []) 0 (budget false 0 0 0 0 0))) (lent (16 ∷ 0 ∷ 0 ∷ 0 ∷ 0 ∷ 0 ∷ 0 ∷ 0 ∷ 0 ∷ 0 ∷ 0 ∷ 0 ∷ 24 ∷ 0 ∷ 0 ∷ 8 ∷ 1 ∷ 17 ∷ 1 ∷ 2 ∷ 61 ∷ 87 ∷ 1 ∷ 38 ∷ 7 ∷ 1 ∷ 178 ∷ 96 ∷ 7 ∷ 7 ∷ 0 ∷ 255 ∷ 7 ∷ 1 ∷ 1 ∷ 255 ∷ 1 ∷ 1 ∷ 7 ∷ 1 ∷ 74 ∷ 0 ∷ 7 ∷ 255 ∷ 175 ∷ 0 ∷ 1 ∷ 80 ∷ 6 ∷ 1 ∷ 1 ∷ 1 ∷ 7 ∷ 2 ∷ 8 ∷ 7 ∷ 4 ∷ 8 ∷ 1 ∷ 7 ∷ 8 ∷ 5 ∷ 2 ∷ 2 ∷ 7 ∷ 2 ∷ 8 ∷ 8 ∷ 2 ∷ 3 ∷ 7 ∷ 3 ∷ []) (6 ∷ 7 ∷ 7 ∷ 3 ∷ 3 ∷ 8 ∷ 6 ∷ 4 ∷ 4 ∷ 5 ∷ 4 ∷ 1 ∷ 2 ∷ 2 ∷ 5 ∷ 1 ∷ []) (zeros 4) (zeros 8) (zeros 8) (3 ∷ 8 ∷ 8 ∷ 4 ∷ 4 ∷ 1 ∷ 4 ∷ 1 ∷ 3 ∷ 5 ∷ 6 ∷ 4 ∷ 8 ∷ 2 ∷ 2 ∷ 2 ∷ 3 ∷ 6 ∷ 2 ∷ 2 ∷ 6 ∷ 7 ∷ 3 ∷ 7 ∷ [])) (begin false 0 0) ≡ out (state 2 (of_fields magic 8 2 (16 ∷ 0 ∷ 0 ∷ 0 ∷ 0 ∷ 0 ∷ 0 ∷ 0 ∷ 0 ∷ 0 ∷ 0 ∷ 0 ∷ 24 ∷ 0 ∷ 0 ∷ 8 ∷ 1 ∷ 17 ∷ [])) true (overlay 16 16 0 0 (0 ∷ 0 ∷ []) 0 (budget false 0 0 0 0 0))) (lent (16 ∷ 0 ∷ 0 ∷ 0 ∷ 0 ∷ 0 ∷ 0 ∷ 0 ∷ 0 ∷ 0 ∷ 0 ∷ 0 ∷ 24 ∷ 0 ∷ 0 ∷ 8 ∷ 1 ∷ 17 ∷ 1 ∷ 2 ∷ 61 ∷ 87 ∷ 1 ∷ 38 ∷ 7 ∷ 1 ∷ 178 ∷ 96 ∷ 7 ∷ 7 ∷ 0 ∷ 255 ∷ 7 ∷ 1 ∷ 1 ∷ 255 ∷ 1 ∷ 1 ∷ 7 ∷ 1 ∷ 74 ∷ 0 ∷ 7 ∷ 255 ∷ 175 ∷ 0 ∷ 1 ∷ 80 ∷ 6 ∷ 1 ∷ 1 ∷ 1 ∷ 7 ∷ 2 ∷ 8 ∷ 7 ∷ 4 ∷ 8 ∷ 1 ∷ 7 ∷ 8 ∷ 5 ∷ 2 ∷ 2 ∷ 7 ∷ 2 ∷ 8 ∷ 8 ∷ 2 ∷ 3 ∷ 7 ∷ 3 ∷ []) (6 ∷ 7 ∷ 7 ∷ 3 ∷ 3 ∷ 8 ∷ 6 ∷ 4 ∷ 4 ∷ 5 ∷ 4 ∷ 1 ∷ 2 ∷ 2 ∷ 5 ∷ 1 ∷ []) (zeros 4) (zeros 8) (zeros 8) (3 ∷ 8 ∷ 8 ∷ 4 ∷ 4 ∷ 1 ∷ 4 ∷ 1 ∷ 3 ∷ 5 ∷ 6 ∷ 4 ∷ 8 ∷ 2 ∷ 2 ∷ 2 ∷ 3 ∷ 6 ∷ 2 ∷ 2 ∷ 6 ∷ 7 ∷ 3 ∷ 7 ∷ [])) (Size 16) ([])) ×
    ((store 4 24 2 3 199 small_codec (state 2 (of_fields magic 8 2 (16 ∷ 0 ∷ 0 ∷ 0 ∷ 0 ∷ 0 ∷ 0 ∷ 0 ∷ 0 ∷ 0 ∷ 0 ∷ 0 ∷ 24 ∷ 0 ∷ 0 ∷ 8 ∷ 1 ∷ 17 ∷ [])) true (overlay 16 16 0 0 (0 ∷ 0 ∷ []) 0 (budget false 0 0 0 0 0))) (lent (16 ∷ 0 ∷ 0 ∷ 0 ∷ 0 ∷ 0 ∷ 0 ∷ 0 ∷ 0 ∷ 0 ∷ 0 ∷ 0 ∷ 24 ∷ 0 ∷ 0 ∷ 8 ∷ 1 ∷ 17 ∷ 1 ∷ 2 ∷ 61 ∷ 87 ∷ 1 ∷ 38 ∷ 7 ∷ 1 ∷ 178 ∷ 96 ∷ 7 ∷ 7 ∷ 0 ∷ 255 ∷ 7 ∷ 1 ∷ 1 ∷ 255 ∷ 1 ∷ 1 ∷ 7 ∷ 1 ∷ 74 ∷ 0 ∷ 7 ∷ 255 ∷ 175 ∷ 0 ∷ 1 ∷ 80 ∷ 6 ∷ 1 ∷ 1 ∷ 1 ∷ 7 ∷ 2 ∷ 8 ∷ 7 ∷ 4 ∷ 8 ∷ 1 ∷ 7 ∷ 8 ∷ 5 ∷ 2 ∷ 2 ∷ 7 ∷ 2 ∷ 8 ∷ 8 ∷ 2 ∷ 3 ∷ 7 ∷ 3 ∷ []) (6 ∷ 7 ∷ 7 ∷ 3 ∷ 3 ∷ 8 ∷ 6 ∷ 4 ∷ 4 ∷ 5 ∷ 4 ∷ 1 ∷ 2 ∷ 2 ∷ 5 ∷ 1 ∷ []) (zeros 4) (zeros 8) (8 ∷ 2 ∷ 6 ∷ 3 ∷ 3 ∷ 2 ∷ 7 ∷ 7 ∷ []) (8 ∷ 6 ∷ 7 ∷ 3 ∷ 6 ∷ 6 ∷ 6 ∷ 7 ∷ 4 ∷ 3 ∷ 2 ∷ 8 ∷ 2 ∷ 4 ∷ 3 ∷ 5 ∷ 8 ∷ 3 ∷ 4 ∷ 4 ∷ 2 ∷ 2 ∷ 5 ∷ 6 ∷ [])) (read 0 (zeros 12)) ≡ out (state 2 (of_fields magic 8 2 (16 ∷ 0 ∷ 0 ∷ 0 ∷ 0 ∷ 0 ∷ 0 ∷ 0 ∷ 0 ∷ 0 ∷ 0 ∷ 0 ∷ 24 ∷ 0 ∷ 0 ∷ 8 ∷ 1 ∷ 17 ∷ [])) true (overlay 16 16 0 0 (1 ∷ 2 ∷ []) 2 (budget false 0 0 0 0 0))) (lent (16 ∷ 0 ∷ 0 ∷ 0 ∷ 0 ∷ 0 ∷ 0 ∷ 0 ∷ 0 ∷ 0 ∷ 0 ∷ 0 ∷ 24 ∷ 0 ∷ 0 ∷ 8 ∷ 1 ∷ 17 ∷ 1 ∷ 2 ∷ 61 ∷ 87 ∷ 1 ∷ 38 ∷ 7 ∷ 1 ∷ 178 ∷ 96 ∷ 7 ∷ 7 ∷ 0 ∷ 255 ∷ 7 ∷ 1 ∷ 1 ∷ 255 ∷ 1 ∷ 1 ∷ 7 ∷ 1 ∷ 74 ∷ 0 ∷ 7 ∷ 255 ∷ 175 ∷ 0 ∷ 1 ∷ 80 ∷ 6 ∷ 1 ∷ 1 ∷ 1 ∷ 7 ∷ 2 ∷ 8 ∷ 7 ∷ 4 ∷ 8 ∷ 1 ∷ 7 ∷ 8 ∷ 5 ∷ 2 ∷ 2 ∷ 7 ∷ 2 ∷ 8 ∷ 8 ∷ 2 ∷ 3 ∷ 7 ∷ 3 ∷ []) (6 ∷ 7 ∷ 7 ∷ 3 ∷ 3 ∷ 8 ∷ 6 ∷ 4 ∷ 4 ∷ 5 ∷ 4 ∷ 1 ∷ 2 ∷ 2 ∷ 5 ∷ 1 ∷ []) (zeros 4) (0 ∷ 0 ∷ 0 ∷ 0 ∷ 7 ∷ 1 ∷ 1 ∷ 255 ∷ []) (8 ∷ 2 ∷ 6 ∷ 3 ∷ 3 ∷ 2 ∷ 7 ∷ 7 ∷ []) (8 ∷ 6 ∷ 7 ∷ 3 ∷ 6 ∷ 6 ∷ 6 ∷ 7 ∷ 4 ∷ 3 ∷ 2 ∷ 8 ∷ 2 ∷ 4 ∷ 3 ∷ 5 ∷ 8 ∷ 3 ∷ 4 ∷ 4 ∷ 2 ∷ 2 ∷ 5 ∷ 6 ∷ [])) (Read true) (7 ∷ 1 ∷ 178 ∷ 96 ∷ 0 ∷ 0 ∷ 0 ∷ 0 ∷ 7 ∷ 1 ∷ 1 ∷ 255 ∷ [])) ×
    ((store 4 24 2 3 199 small_codec (state 2 (of_fields magic 8 2 (16 ∷ 0 ∷ 0 ∷ 0 ∷ 0 ∷ 0 ∷ 0 ∷ 0 ∷ 0 ∷ 0 ∷ 0 ∷ 0 ∷ 24 ∷ 0 ∷ 0 ∷ 8 ∷ 1 ∷ 17 ∷ [])) true (overlay 16 16 0 0 (1 ∷ 2 ∷ []) 2 (budget false 0 0 0 0 0))) (lent (16 ∷ 0 ∷ 0 ∷ 0 ∷ 0 ∷ 0 ∷ 0 ∷ 0 ∷ 0 ∷ 0 ∷ 0 ∷ 0 ∷ 24 ∷ 0 ∷ 0 ∷ 8 ∷ 1 ∷ 17 ∷ 1 ∷ 2 ∷ 61 ∷ 87 ∷ 1 ∷ 38 ∷ 7 ∷ 1 ∷ 178 ∷ 96 ∷ 7 ∷ 7 ∷ 0 ∷ 255 ∷ 7 ∷ 1 ∷ 1 ∷ 255 ∷ 1 ∷ 1 ∷ 7 ∷ 1 ∷ 74 ∷ 0 ∷ 7 ∷ 255 ∷ 175 ∷ 0 ∷ 1 ∷ 80 ∷ 7 ∷ 5 ∷ 1 ∷ 4 ∷ 5 ∷ 7 ∷ 8 ∷ 8 ∷ 1 ∷ 1 ∷ 1 ∷ 5 ∷ 3 ∷ 1 ∷ 7 ∷ 8 ∷ 8 ∷ 3 ∷ 5 ∷ 3 ∷ 6 ∷ 4 ∷ 2 ∷ 2 ∷ []) (6 ∷ 7 ∷ 7 ∷ 3 ∷ 3 ∷ 8 ∷ 6 ∷ 4 ∷ 4 ∷ 5 ∷ 4 ∷ 1 ∷ 2 ∷ 2 ∷ 5 ∷ 1 ∷ []) (zeros 4) (0 ∷ 0 ∷ 0 ∷ 0 ∷ 7 ∷ 1 ∷ 1 ∷ 255 ∷ []) (zeros 8) (1 ∷ 6 ∷ 4 ∷ 6 ∷ 3 ∷ 4 ∷ 2 ∷ 2 ∷ 3 ∷ 1 ∷ 1 ∷ 8 ∷ 2 ∷ 3 ∷ 7 ∷ 4 ∷ 6 ∷ 3 ∷ 3 ∷ 1 ∷ 3 ∷ 8 ∷ 6 ∷ 6 ∷ [])) (write 8 (1 ∷ 4 ∷ 7 ∷ 10 ∷ [])) ≡ out (state 2 (of_fields magic 8 2 (16 ∷ 0 ∷ 0 ∷ 0 ∷ 0 ∷ 0 ∷ 0 ∷ 0 ∷ 0 ∷ 0 ∷ 0 ∷ 0 ∷ 24 ∷ 0 ∷ 0 ∷ 8 ∷ 1 ∷ 17 ∷ [])) true (overlay 16 16 1 0 (1 ∷ 2 ∷ []) 2 (budget false 0 0 0 0 0))) (lent (16 ∷ 0 ∷ 0 ∷ 0 ∷ 0 ∷ 0 ∷ 0 ∷ 0 ∷ 0 ∷ 0 ∷ 0 ∷ 0 ∷ 24 ∷ 0 ∷ 0 ∷ 8 ∷ 1 ∷ 17 ∷ 1 ∷ 2 ∷ 61 ∷ 87 ∷ 1 ∷ 38 ∷ 7 ∷ 1 ∷ 178 ∷ 96 ∷ 7 ∷ 7 ∷ 0 ∷ 255 ∷ 7 ∷ 1 ∷ 1 ∷ 255 ∷ 1 ∷ 1 ∷ 7 ∷ 1 ∷ 74 ∷ 0 ∷ 7 ∷ 255 ∷ 175 ∷ 0 ∷ 1 ∷ 80 ∷ 7 ∷ 5 ∷ 1 ∷ 4 ∷ 5 ∷ 7 ∷ 8 ∷ 8 ∷ 1 ∷ 1 ∷ 1 ∷ 5 ∷ 3 ∷ 1 ∷ 7 ∷ 8 ∷ 8 ∷ 3 ∷ 5 ∷ 3 ∷ 6 ∷ 4 ∷ 2 ∷ 2 ∷ []) (1 ∷ 4 ∷ 7 ∷ 10 ∷ 3 ∷ 8 ∷ 6 ∷ 4 ∷ 4 ∷ 5 ∷ 4 ∷ 1 ∷ 2 ∷ 2 ∷ 5 ∷ 1 ∷ []) (2 ∷ zeros 3) (0 ∷ 0 ∷ 0 ∷ 0 ∷ 7 ∷ 1 ∷ 1 ∷ 255 ∷ []) (zeros 8) (zeros 24)) (Done) ([])) ×
    ((store 4 24 2 3 199 small_codec (state 2 (of_fields magic 8 2 (16 ∷ 0 ∷ 0 ∷ 0 ∷ 0 ∷ 0 ∷ 0 ∷ 0 ∷ 0 ∷ 0 ∷ 0 ∷ 0 ∷ 24 ∷ 0 ∷ 0 ∷ 8 ∷ 1 ∷ 17 ∷ [])) true (overlay 16 16 1 0 (1 ∷ 2 ∷ []) 2 (budget false 0 0 0 0 0))) (lent (16 ∷ 0 ∷ 0 ∷ 0 ∷ 0 ∷ 0 ∷ 0 ∷ 0 ∷ 0 ∷ 0 ∷ 0 ∷ 0 ∷ 24 ∷ 0 ∷ 0 ∷ 8 ∷ 1 ∷ 17 ∷ 1 ∷ 2 ∷ 61 ∷ 87 ∷ 1 ∷ 38 ∷ 7 ∷ 1 ∷ 178 ∷ 96 ∷ 7 ∷ 7 ∷ 0 ∷ 255 ∷ 7 ∷ 1 ∷ 1 ∷ 255 ∷ 1 ∷ 1 ∷ 7 ∷ 1 ∷ 74 ∷ 0 ∷ 7 ∷ 255 ∷ 175 ∷ 0 ∷ 1 ∷ 80 ∷ 7 ∷ 5 ∷ 1 ∷ 4 ∷ 5 ∷ 7 ∷ 8 ∷ 8 ∷ 1 ∷ 1 ∷ 1 ∷ 5 ∷ 3 ∷ 1 ∷ 7 ∷ 8 ∷ 8 ∷ 3 ∷ 5 ∷ 3 ∷ 6 ∷ 4 ∷ 2 ∷ 2 ∷ []) (1 ∷ 4 ∷ 7 ∷ 10 ∷ 7 ∷ 7 ∷ 3 ∷ 2 ∷ 8 ∷ 3 ∷ 8 ∷ 2 ∷ 4 ∷ 8 ∷ 1 ∷ 8 ∷ []) (2 ∷ zeros 3) (0 ∷ 0 ∷ 0 ∷ 0 ∷ 7 ∷ 1 ∷ 1 ∷ 255 ∷ []) (zeros 8) (2 ∷ 6 ∷ 4 ∷ 3 ∷ 1 ∷ 2 ∷ 1 ∷ 3 ∷ 2 ∷ 2 ∷ 1 ∷ 5 ∷ 7 ∷ 1 ∷ 1 ∷ 8 ∷ 1 ∷ 8 ∷ 4 ∷ 2 ∷ 6 ∷ 1 ∷ 5 ∷ 6 ∷ [])) (read 0 (zeros 16)) ≡ out (state 2 (of_fields magic 8 2 (16 ∷ 0 ∷ 0 ∷ 0 ∷ 0 ∷ 0 ∷ 0 ∷ 0 ∷ 0 ∷ 0 ∷ 0 ∷ 0 ∷ 24 ∷ 0 ∷ 0 ∷ 8 ∷ 1 ∷ 17 ∷ [])) true (overlay 16 16 1 0 (1 ∷ 3 ∷ []) 2 (budget false 0 0 0 0 0))) (lent (16 ∷ 0 ∷ 0 ∷ 0 ∷ 0 ∷ 0 ∷ 0 ∷ 0 ∷ 0 ∷ 0 ∷ 0 ∷ 0 ∷ 24 ∷ 0 ∷ 0 ∷ 8 ∷ 1 ∷ 17 ∷ 1 ∷ 2 ∷ 61 ∷ 87 ∷ 1 ∷ 38 ∷ 7 ∷ 1 ∷ 178 ∷ 96 ∷ 7 ∷ 7 ∷ 0 ∷ 255 ∷ 7 ∷ 1 ∷ 1 ∷ 255 ∷ 1 ∷ 1 ∷ 7 ∷ 1 ∷ 74 ∷ 0 ∷ 7 ∷ 255 ∷ 175 ∷ 0 ∷ 1 ∷ 80 ∷ 7 ∷ 5 ∷ 1 ∷ 4 ∷ 5 ∷ 7 ∷ 8 ∷ 8 ∷ 1 ∷ 1 ∷ 1 ∷ 5 ∷ 3 ∷ 1 ∷ 7 ∷ 8 ∷ 8 ∷ 3 ∷ 5 ∷ 3 ∷ 6 ∷ 4 ∷ 2 ∷ 2 ∷ []) (1 ∷ 4 ∷ 7 ∷ 10 ∷ 7 ∷ 7 ∷ 3 ∷ 2 ∷ 8 ∷ 3 ∷ 8 ∷ 2 ∷ 4 ∷ 8 ∷ 1 ∷ 8 ∷ []) (2 ∷ zeros 3) (0 ∷ 0 ∷ 0 ∷ 0 ∷ 1 ∷ 1 ∷ 7 ∷ 1 ∷ []) (zeros 8) (2 ∷ 6 ∷ 4 ∷ 3 ∷ 1 ∷ 2 ∷ 1 ∷ 3 ∷ 2 ∷ 2 ∷ 1 ∷ 5 ∷ 7 ∷ 1 ∷ 1 ∷ 8 ∷ 1 ∷ 8 ∷ 4 ∷ 2 ∷ 6 ∷ 1 ∷ 5 ∷ 6 ∷ [])) (Read true) (7 ∷ 1 ∷ 178 ∷ 96 ∷ 0 ∷ 0 ∷ 0 ∷ 0 ∷ 1 ∷ 4 ∷ 7 ∷ 10 ∷ 1 ∷ 1 ∷ 7 ∷ 1 ∷ [])) ×
    ((store 4 24 2 3 199 small_codec (state 2 (of_fields magic 8 2 (16 ∷ 0 ∷ 0 ∷ 0 ∷ 0 ∷ 0 ∷ 0 ∷ 0 ∷ 0 ∷ 0 ∷ 0 ∷ 0 ∷ 24 ∷ 0 ∷ 0 ∷ 8 ∷ 1 ∷ 17 ∷ [])) true (overlay 16 16 1 0 (1 ∷ 3 ∷ []) 2 (budget false 0 0 0 0 0))) (lent (16 ∷ 0 ∷ 0 ∷ 0 ∷ 0 ∷ 0 ∷ 0 ∷ 0 ∷ 0 ∷ 0 ∷ 0 ∷ 0 ∷ 24 ∷ 0 ∷ 0 ∷ 8 ∷ 1 ∷ 17 ∷ 1 ∷ 2 ∷ 61 ∷ 87 ∷ 1 ∷ 38 ∷ 7 ∷ 1 ∷ 178 ∷ 96 ∷ 7 ∷ 7 ∷ 0 ∷ 255 ∷ 7 ∷ 1 ∷ 1 ∷ 255 ∷ 1 ∷ 1 ∷ 7 ∷ 1 ∷ 74 ∷ 0 ∷ 7 ∷ 255 ∷ 175 ∷ 0 ∷ 1 ∷ 80 ∷ 7 ∷ 5 ∷ 1 ∷ 4 ∷ 5 ∷ 7 ∷ 8 ∷ 8 ∷ 1 ∷ 1 ∷ 1 ∷ 5 ∷ 3 ∷ 1 ∷ 7 ∷ 8 ∷ 8 ∷ 3 ∷ 5 ∷ 3 ∷ 6 ∷ 4 ∷ 2 ∷ 2 ∷ []) (1 ∷ 4 ∷ 7 ∷ 10 ∷ zeros 12) (2 ∷ zeros 3) (0 ∷ 0 ∷ 0 ∷ 0 ∷ 1 ∷ 1 ∷ 7 ∷ 1 ∷ []) (zeros 8) (3 ∷ 6 ∷ 5 ∷ 5 ∷ 6 ∷ 3 ∷ 2 ∷ 6 ∷ 6 ∷ 1 ∷ 2 ∷ 5 ∷ 7 ∷ 6 ∷ 7 ∷ 3 ∷ 1 ∷ 5 ∷ 8 ∷ 1 ∷ 6 ∷ 8 ∷ 3 ∷ 2 ∷ [])) (write 4 (1 ∷ 4 ∷ 7 ∷ 10 ∷ 13 ∷ 16 ∷ 19 ∷ 22 ∷ [])) ≡ out (state 2 (of_fields magic 8 2 (16 ∷ 0 ∷ 0 ∷ 0 ∷ 0 ∷ 0 ∷ 0 ∷ 0 ∷ 0 ∷ 0 ∷ 0 ∷ 0 ∷ 24 ∷ 0 ∷ 0 ∷ 8 ∷ 1 ∷ 17 ∷ [])) true (overlay 16 16 2 0 (3 ∷ 0 ∷ []) 1 (budget false 0 0 0 0 0))) (lent (16 ∷ 0 ∷ 0 ∷ 0 ∷ 0 ∷ 0 ∷ 0 ∷ 0 ∷ 0 ∷ 0 ∷ 0 ∷ 0 ∷ 24 ∷ 0 ∷ 0 ∷ 8 ∷ 1 ∷ 17 ∷ 1 ∷ 2 ∷ 61 ∷ 87 ∷ 1 ∷ 38 ∷ 7 ∷ 1 ∷ 178 ∷ 96 ∷ 7 ∷ 7 ∷ 0 ∷ 255 ∷ 7 ∷ 1 ∷ 1 ∷ 255 ∷ 1 ∷ 1 ∷ 7 ∷ 1 ∷ 74 ∷ 0 ∷ 7 ∷ 255 ∷ 175 ∷ 0 ∷ 1 ∷ 80 ∷ 7 ∷ 5 ∷ 1 ∷ 4 ∷ 5 ∷ 7 ∷ 8 ∷ 8 ∷ 1 ∷ 1 ∷ 1 ∷ 5 ∷ 3 ∷ 1 ∷ 7 ∷ 8 ∷ 8 ∷ 3 ∷ 5 ∷ 3 ∷ 6 ∷ 4 ∷ 2 ∷ 2 ∷ []) (13 ∷ 16 ∷ 19 ∷ 22 ∷ 1 ∷ 4 ∷ 7 ∷ 10 ∷ zeros 8) (2 ∷ 1 ∷ 0 ∷ 0 ∷ []) (1 ∷ 1 ∷ 7 ∷ 1 ∷ zeros 4) (zeros 8) (zeros 24)) (Done) ([])) ×
    ((store 4 24 2 3 199 small_codec (state 2 (of_fields magic 8 2 (16 ∷ 0 ∷ 0 ∷ 0 ∷ 0 ∷ 0 ∷ 0 ∷ 0 ∷ 0 ∷ 0 ∷ 0 ∷ 0 ∷ 24 ∷ 0 ∷ 0 ∷ 8 ∷ 1 ∷ 17 ∷ [])) true (overlay 16 16 2 0 (3 ∷ 0 ∷ []) 1 (budget false 0 0 0 0 0))) (lent (16 ∷ 0 ∷ 0 ∷ 0 ∷ 0 ∷ 0 ∷ 0 ∷ 0 ∷ 0 ∷ 0 ∷ 0 ∷ 0 ∷ 24 ∷ 0 ∷ 0 ∷ 8 ∷ 1 ∷ 17 ∷ 1 ∷ 2 ∷ 61 ∷ 87 ∷ 1 ∷ 38 ∷ 7 ∷ 1 ∷ 178 ∷ 96 ∷ 7 ∷ 7 ∷ 0 ∷ 255 ∷ 7 ∷ 1 ∷ 1 ∷ 255 ∷ 1 ∷ 1 ∷ 7 ∷ 1 ∷ 74 ∷ 0 ∷ 7 ∷ 255 ∷ 175 ∷ 0 ∷ 1 ∷ 80 ∷ 7 ∷ 5 ∷ 1 ∷ 4 ∷ 5 ∷ 7 ∷ 8 ∷ 8 ∷ 1 ∷ 1 ∷ 1 ∷ 5 ∷ 3 ∷ 1 ∷ 7 ∷ 8 ∷ 8 ∷ 3 ∷ 5 ∷ 3 ∷ 6 ∷ 4 ∷ 2 ∷ 2 ∷ []) (13 ∷ 16 ∷ 19 ∷ 22 ∷ 1 ∷ 4 ∷ 7 ∷ 10 ∷ zeros 8) (2 ∷ 1 ∷ 0 ∷ 0 ∷ []) (1 ∷ 1 ∷ 7 ∷ 1 ∷ zeros 4) (4 ∷ 1 ∷ 1 ∷ 1 ∷ 2 ∷ 8 ∷ 4 ∷ 3 ∷ []) (zeros 24)) (read 0 (zeros 16)) ≡ out (state 2 (of_fields magic 8 2 (16 ∷ 0 ∷ 0 ∷ 0 ∷ 0 ∷ 0 ∷ 0 ∷ 0 ∷ 0 ∷ 0 ∷ 0 ∷ 0 ∷ 24 ∷ 0 ∷ 0 ∷ 8 ∷ 1 ∷ 17 ∷ [])) true (overlay 16 16 2 0 (3 ∷ 0 ∷ []) 2 (budget false 0 0 0 0 0))) (lent (16 ∷ 0 ∷ 0 ∷ 0 ∷ 0 ∷ 0 ∷ 0 ∷ 0 ∷ 0 ∷ 0 ∷ 0 ∷ 0 ∷ 24 ∷ 0 ∷ 0 ∷ 8 ∷ 1 ∷ 17 ∷ 1 ∷ 2 ∷ 61 ∷ 87 ∷ 1 ∷ 38 ∷ 7 ∷ 1 ∷ 178 ∷ 96 ∷ 7 ∷ 7 ∷ 0 ∷ 255 ∷ 7 ∷ 1 ∷ 1 ∷ 255 ∷ 1 ∷ 1 ∷ 7 ∷ 1 ∷ 74 ∷ 0 ∷ 7 ∷ 255 ∷ 175 ∷ 0 ∷ 1 ∷ 80 ∷ 7 ∷ 5 ∷ 1 ∷ 4 ∷ 5 ∷ 7 ∷ 8 ∷ 8 ∷ 1 ∷ 1 ∷ 1 ∷ 5 ∷ 3 ∷ 1 ∷ 7 ∷ 8 ∷ 8 ∷ 3 ∷ 5 ∷ 3 ∷ 6 ∷ 4 ∷ 2 ∷ 2 ∷ []) (13 ∷ 16 ∷ 19 ∷ 22 ∷ 1 ∷ 4 ∷ 7 ∷ 10 ∷ zeros 8) (2 ∷ 1 ∷ 0 ∷ 0 ∷ []) (1 ∷ 1 ∷ 7 ∷ 1 ∷ 7 ∷ 1 ∷ 178 ∷ 96 ∷ []) (4 ∷ 1 ∷ 1 ∷ 1 ∷ 2 ∷ 8 ∷ 4 ∷ 3 ∷ []) (zeros 24)) (Read true) (7 ∷ 1 ∷ 178 ∷ 96 ∷ 1 ∷ 4 ∷ 7 ∷ 10 ∷ 13 ∷ 16 ∷ 19 ∷ 22 ∷ 1 ∷ 1 ∷ 7 ∷ 1 ∷ [])) ×
    ((store 4 24 2 3 199 small_codec (state 2 (of_fields magic 8 2 (16 ∷ 0 ∷ 0 ∷ 0 ∷ 0 ∷ 0 ∷ 0 ∷ 0 ∷ 0 ∷ 0 ∷ 0 ∷ 0 ∷ 24 ∷ 0 ∷ 0 ∷ 8 ∷ 1 ∷ 17 ∷ [])) true (overlay 16 16 2 0 (3 ∷ 0 ∷ []) 2 (budget false 0 0 0 0 0))) (lent (16 ∷ 0 ∷ 0 ∷ 0 ∷ 0 ∷ 0 ∷ 0 ∷ 0 ∷ 0 ∷ 0 ∷ 0 ∷ 0 ∷ 24 ∷ 0 ∷ 0 ∷ 8 ∷ 1 ∷ 17 ∷ 1 ∷ 2 ∷ 61 ∷ 87 ∷ 1 ∷ 38 ∷ 7 ∷ 1 ∷ 178 ∷ 96 ∷ 7 ∷ 7 ∷ 0 ∷ 255 ∷ 7 ∷ 1 ∷ 1 ∷ 255 ∷ 1 ∷ 1 ∷ 7 ∷ 1 ∷ 74 ∷ 0 ∷ 7 ∷ 255 ∷ 175 ∷ 0 ∷ 1 ∷ 80 ∷ 7 ∷ 5 ∷ 1 ∷ 4 ∷ 5 ∷ 7 ∷ 8 ∷ 8 ∷ 1 ∷ 1 ∷ 1 ∷ 5 ∷ 3 ∷ 1 ∷ 7 ∷ 8 ∷ 8 ∷ 3 ∷ 5 ∷ 3 ∷ 6 ∷ 4 ∷ 2 ∷ 2 ∷ []) (13 ∷ 16 ∷ 19 ∷ 22 ∷ 1 ∷ 4 ∷ 7 ∷ 10 ∷ 2 ∷ 5 ∷ 8 ∷ 1 ∷ 6 ∷ 3 ∷ 2 ∷ 6 ∷ []) (2 ∷ 1 ∷ 0 ∷ 0 ∷ []) (1 ∷ 1 ∷ 7 ∷ 1 ∷ 7 ∷ 1 ∷ 178 ∷ 96 ∷ []) (zeros 8) (zeros 24)) (truncate 9) ≡ out (state 2 (of_fields magic 8 2 (16 ∷ 0 ∷ 0 ∷ 0 ∷ 0 ∷ 0 ∷ 0 ∷ 0 ∷ 0 ∷ 0 ∷ 0 ∷ 0 ∷ 24 ∷ 0 ∷ 0 ∷ 8 ∷ 1 ∷ 17 ∷ [])) true (overlay 16 9 2 1 (0 ∷ 0 ∷ []) 1 (budget false 0 0 0 0 0))) (lent (16 ∷ 0 ∷ 0 ∷ 0 ∷ 0 ∷ 0 ∷ 0 ∷ 0 ∷ 0 ∷ 0 ∷ 0 ∷ 0 ∷ 24 ∷ 0 ∷ 0 ∷ 8 ∷ 1 ∷ 17 ∷ 1 ∷ 2 ∷ 61 ∷ 87 ∷ 1 ∷ 38 ∷ 7 ∷ 1 ∷ 178 ∷ 96 ∷ 7 ∷ 7 ∷ 0 ∷ 255 ∷ 7 ∷ 1 ∷ 1 ∷ 255 ∷ 1 ∷ 1 ∷ 7 ∷ 1 ∷ 74 ∷ 0 ∷ 7 ∷ 255 ∷ 175 ∷ 0 ∷ 1 ∷ 80 ∷ 7 ∷ 5 ∷ 1 ∷ 4 ∷ 5 ∷ 7 ∷ 8 ∷ 8 ∷ 1 ∷ 1 ∷ 1 ∷ 5 ∷ 3 ∷ 1 ∷ 7 ∷ 8 ∷ 8 ∷ 3 ∷ 5 ∷ 3 ∷ 6 ∷ 4 ∷ 2 ∷ 2 ∷ []) (13 ∷ 0 ∷ 0 ∷ 0 ∷ 1 ∷ 4 ∷ 7 ∷ 10 ∷ 2 ∷ 5 ∷ 8 ∷ 1 ∷ 6 ∷ 3 ∷ 2 ∷ 6 ∷ []) (2 ∷ 1 ∷ 0 ∷ 0 ∷ []) (7 ∷ 1 ∷ 178 ∷ 96 ∷ zeros 4) (3 ∷ 4 ∷ zeros 6) (zeros 24)) (Done) ([])) ×
    ((store 4 24 2 3 199 small_codec (state 2 (of_fields magic 8 2 (16 ∷ 0 ∷ 0 ∷ 0 ∷ 0 ∷ 0 ∷ 0 ∷ 0 ∷ 0 ∷ 0 ∷ 0 ∷ 0 ∷ 24 ∷ 0 ∷ 0 ∷ 8 ∷ 1 ∷ 17 ∷ [])) true (overlay 16 9 2 1 (0 ∷ 0 ∷ []) 1 (budget false 0 0 0 0 0))) (lent (16 ∷ 0 ∷ 0 ∷ 0 ∷ 0 ∷ 0 ∷ 0 ∷ 0 ∷ 0 ∷ 0 ∷ 0 ∷ 0 ∷ 24 ∷ 0 ∷ 0 ∷ 8 ∷ 1 ∷ 17 ∷ 1 ∷ 2 ∷ 61 ∷ 87 ∷ 1 ∷ 38 ∷ 7 ∷ 1 ∷ 178 ∷ 96 ∷ 7 ∷ 7 ∷ 0 ∷ 255 ∷ 7 ∷ 1 ∷ 1 ∷ 255 ∷ 1 ∷ 1 ∷ 7 ∷ 1 ∷ 74 ∷ 0 ∷ 7 ∷ 255 ∷ 175 ∷ 0 ∷ 1 ∷ 80 ∷ 7 ∷ 5 ∷ 1 ∷ 4 ∷ 5 ∷ 7 ∷ 8 ∷ 8 ∷ 1 ∷ 1 ∷ 1 ∷ 5 ∷ 3 ∷ 1 ∷ 7 ∷ 8 ∷ 8 ∷ 3 ∷ 5 ∷ 3 ∷ 6 ∷ 4 ∷ 2 ∷ 2 ∷ []) (13 ∷ 0 ∷ 0 ∷ 0 ∷ 1 ∷ 4 ∷ 7 ∷ 10 ∷ zeros 8) (2 ∷ 1 ∷ 8 ∷ 2 ∷ []) (7 ∷ 1 ∷ 178 ∷ 96 ∷ zeros 4) (3 ∷ 4 ∷ zeros 6) (5 ∷ 7 ∷ 7 ∷ 6 ∷ 2 ∷ 5 ∷ 7 ∷ 4 ∷ 7 ∷ 7 ∷ 4 ∷ 1 ∷ 1 ∷ 2 ∷ 6 ∷ 7 ∷ 3 ∷ 1 ∷ 6 ∷ 2 ∷ 6 ∷ 8 ∷ 2 ∷ 3 ∷ [])) (commit) ≡ out (state 2 (of_fields magic 8 2 (9 ∷ 0 ∷ 1 ∷ 2 ∷ 0 ∷ 0 ∷ 0 ∷ 0 ∷ 0 ∷ 0 ∷ 0 ∷ 0 ∷ 24 ∷ 0 ∷ 3 ∷ 8 ∷ 1 ∷ 178 ∷ [])) false (overlay 0 0 0 0 (0 ∷ 0 ∷ []) 0 (budget false 0 0 0 0 0))) (lent (9 ∷ 0 ∷ 1 ∷ 2 ∷ 0 ∷ 0 ∷ 0 ∷ 0 ∷ 0 ∷ 0 ∷ 0 ∷ 0 ∷ 24 ∷ 0 ∷ 3 ∷ 8 ∷ 1 ∷ 178 ∷ 3 ∷ 4 ∷ 61 ∷ 87 ∷ 1 ∷ 38 ∷ 7 ∷ 1 ∷ 178 ∷ 96 ∷ 1 ∷ 4 ∷ 7 ∷ 10 ∷ 13 ∷ 0 ∷ 0 ∷ 0 ∷ 1 ∷ 1 ∷ 7 ∷ 1 ∷ 74 ∷ 0 ∷ 7 ∷ 255 ∷ 175 ∷ 0 ∷ 1 ∷ 80 ∷ 7 ∷ 5 ∷ 1 ∷ 4 ∷ 5 ∷ 7 ∷ 8 ∷ 8 ∷ 1 ∷ 1 ∷ 1 ∷ 5 ∷ 3 ∷ 1 ∷ 7 ∷ 8 ∷ 8 ∷ 3 ∷ 5 ∷ 3 ∷ 6 ∷ 4 ∷ 2 ∷ 2 ∷ []) (zeros 16) (zeros 4) (zeros 8) (zeros 8) (zeros 24)) (Done) ([]))))))))))
unfolding count filled overwrite resize growMemory requiredPages normalized within merge insert add around piece remove flatRuns additions add_one remain plan put refill tabulate add_number_if span grown_numbers image_byte image_page push_run raw over_byte budget_bytes raised touch blank copy stretch patch finish grow grow_to chop tail truncated whole_page over_write written fresh look_up sized passing marked try_touch try_patch try_finish try_grow try_grow_to try_tail try_chop try_truncate try_write frame_count entry_count wiped cached short_buffers view overlay_of put_back dirty_page stored small_codec small_sum small_decode small_runs small_load small_fresh importing stale refreshing marks after_commit after_import_begin after_import_chunk after_import_cancel after_import_finish after_refresh after_refresh_step short store_plan no_overlay image_bytes unchanged planned_runs commit_over restore do_import_begin do_import_chunk do_import_finish do_import_cancel do_export image_sum do_checksum do_refresh refresh_from do_refresh_step store outside open_image closing open'
c5 = (refl, (refl, (refl, (refl, (refl, (refl, (refl, (refl, (refl)))))))))

-- open: accepted (both open)
-- begin: accepted (both open)
-- write in update: accepted (both open)
-- truncate in update: accepted (both open)
-- begin: 10 (both open)
-- import_begin: 12 (both open)
-- refresh_step: 12 (both open)
-- import_chunk: 12 (both open)
-- import_finish: 12 (both open)
-- export: 12 (both open)
-- commit in update: accepted (both open)
-- refresh_step: 25 (both open)
-- import_chunk: 21 (both open)
-- import_begin: 10 (both open)
c6 :
    (open' 4 24 2 3 199 small_codec 2 (4 ∷ 0 ∷ 0 ∷ 0 ∷ 0 ∷ 0 ∷ 0 ∷ 0 ∷ 0 ∷ 0 ∷ 0 ∷ 0 ∷ 24 ∷ 0 ∷ 0 ∷ 8 ∷ 0 ∷ 165 ∷ 255 ∷ 1 ∷ 255 ∷ 0 ∷ 7 ∷ 1 ∷ 255 ∷ 255 ∷ 255 ∷ 127 ∷ 7 ∷ 0 ∷ 1 ∷ 255 ∷ 141 ∷ 0 ∷ 0 ∷ 74 ∷ 1 ∷ 156 ∷ 0 ∷ 255 ∷ 255 ∷ 0 ∷ 255 ∷ 7 ∷ 77 ∷ 7 ∷ 7 ∷ 7 ∷ 3 ∷ 6 ∷ 7 ∷ 4 ∷ 6 ∷ 3 ∷ 2 ∷ 1 ∷ 7 ∷ 1 ∷ 1 ∷ 8 ∷ 6 ∷ 7 ∷ 2 ∷ 4 ∷ 4 ∷ 8 ∷ 2 ∷ 5 ∷ 8 ∷ 6 ∷ 5 ∷ 4 ∷ []) ≡ opened (state 2 (of_fields magic 8 2 (4 ∷ 0 ∷ 0 ∷ 0 ∷ 0 ∷ 0 ∷ 0 ∷ 0 ∷ 0 ∷ 0 ∷ 0 ∷ 0 ∷ 24 ∷ 0 ∷ 0 ∷ 8 ∷ 0 ∷ 165 ∷ [])) false (overlay 0 0 0 0 (0 ∷ 0 ∷ []) 0 (budget false 0 0 0 0 0))) (Done) (4 ∷ 0 ∷ 0 ∷ 0 ∷ 0 ∷ 0 ∷ 0 ∷ 0 ∷ 0 ∷ 0 ∷ 0 ∷ 0 ∷ 24 ∷ 0 ∷ 0 ∷ 8 ∷ 0 ∷ 165 ∷ 255 ∷ 1 ∷ 255 ∷ 0 ∷ 7 ∷ 1 ∷ 255 ∷ 255 ∷ 255 ∷ 127 ∷ 7 ∷ 0 ∷ 1 ∷ 255 ∷ 141 ∷ 0 ∷ 0 ∷ 74 ∷ 1 ∷ 156 ∷ 0 ∷ 255 ∷ 255 ∷ 0 ∷ 255 ∷ 7 ∷ 77 ∷ 7 ∷ 7 ∷ 7 ∷ 3 ∷ 6 ∷ 7 ∷ 4 ∷ 6 ∷ 3 ∷ 2 ∷ 1 ∷ 7 ∷ 1 ∷ 1 ∷ 8 ∷ 6 ∷ 7 ∷ 2 ∷ 4 ∷ 4 ∷ 8 ∷ 2 ∷ 5 ∷ 8 ∷ 6 ∷ 5 ∷ 4 ∷ [])) ×
    ((store 4 24 2 3 199 small_codec (state 2 (of_fields magic 8 2 (4 ∷ 0 ∷ 0 ∷ 0 ∷ 0 ∷ 0 ∷ 0 ∷ 0 ∷ 0 ∷ 0 ∷ 0 ∷ 0 ∷ 24 ∷ 0 ∷ 0 ∷ 8 ∷ 0 ∷ 165 ∷ [])) false (overlay 0 0 0 0 (0 ∷ 0 ∷ []) 0 (budget false 0 0 0 0 0))) (lent (4 ∷ 0 ∷ 0 ∷ 0 ∷ 0 ∷ 0 ∷ 0 ∷ 0 ∷ 0 ∷ 0 ∷ 0 ∷ 0 ∷ 24 ∷ 0 ∷ 0 ∷ 8 ∷ 0 ∷ 165 ∷ 255 ∷ 1 ∷ 255 ∷ 0 ∷ 7 ∷ 1 ∷ 255 ∷ 255 ∷ 255 ∷ 127 ∷ 7 ∷ 0 ∷ 1 ∷ 255 ∷ 141 ∷ 0 ∷ 0 ∷ 74 ∷ 1 ∷ 156 ∷ 0 ∷ 255 ∷ 255 ∷ 0 ∷ 255 ∷ 7 ∷ 77 ∷ 7 ∷ 7 ∷ 7 ∷ 3 ∷ 6 ∷ 7 ∷ 4 ∷ 6 ∷ 3 ∷ 2 ∷ 1 ∷ 7 ∷ 1 ∷ 1 ∷ 8 ∷ 6 ∷ 7 ∷ 2 ∷ 4 ∷ 4 ∷ 8 ∷ 2 ∷ 5 ∷ 8 ∷ 6 ∷ 5 ∷ 4 ∷ []) (4 ∷ 2 ∷ 8 ∷ 6 ∷ 8 ∷ 7 ∷ 4 ∷ 8 ∷ []) (2 ∷ 4 ∷ []) (zeros 8) (7 ∷ 5 ∷ 8 ∷ 4 ∷ 5 ∷ 1 ∷ 8 ∷ 7 ∷ []) (8 ∷ 1 ∷ 6 ∷ 5 ∷ 5 ∷ 7 ∷ 5 ∷ 7 ∷ 2 ∷ 4 ∷ 4 ∷ 8 ∷ 6 ∷ 1 ∷ 2 ∷ 5 ∷ [])) (begin false 0 0) ≡ out (state 2 (of_fields magic 8 2 (4 ∷ 0 ∷ 0 ∷ 0 ∷ 0 ∷ 0 ∷ 0 ∷ 0 ∷ 0 ∷ 0 ∷ 0 ∷ 0 ∷ 24 ∷ 0 ∷ 0 ∷ 8 ∷ 0 ∷ 165 ∷ [])) true (overlay 4 4 0 0 (0 ∷ 0 ∷ []) 0 (budget false 0 0 0 0 0))) (lent (4 ∷ 0 ∷ 0 ∷ 0 ∷ 0 ∷ 0 ∷ 0 ∷ 0 ∷ 0 ∷ 0 ∷ 0 ∷ 0 ∷ 24 ∷ 0 ∷ 0 ∷ 8 ∷ 0 ∷ 165 ∷ 255 ∷ 1 ∷ 255 ∷ 0 ∷ 7 ∷ 1 ∷ 255 ∷ 255 ∷ 255 ∷ 127 ∷ 7 ∷ 0 ∷ 1 ∷ 255 ∷ 141 ∷ 0 ∷ 0 ∷ 74 ∷ 1 ∷ 156 ∷ 0 ∷ 255 ∷ 255 ∷ 0 ∷ 255 ∷ 7 ∷ 77 ∷ 7 ∷ 7 ∷ 7 ∷ 3 ∷ 6 ∷ 7 ∷ 4 ∷ 6 ∷ 3 ∷ 2 ∷ 1 ∷ 7 ∷ 1 ∷ 1 ∷ 8 ∷ 6 ∷ 7 ∷ 2 ∷ 4 ∷ 4 ∷ 8 ∷ 2 ∷ 5 ∷ 8 ∷ 6 ∷ 5 ∷ 4 ∷ []) (4 ∷ 2 ∷ 8 ∷ 6 ∷ 8 ∷ 7 ∷ 4 ∷ 8 ∷ []) (2 ∷ 4 ∷ []) (zeros 8) (7 ∷ 5 ∷ 8 ∷ 4 ∷ 5 ∷ 1 ∷ 8 ∷ 7 ∷ []) (8 ∷ 1 ∷ 6 ∷ 5 ∷ 5 ∷ 7 ∷ 5 ∷ 7 ∷ 2 ∷ 4 ∷ 4 ∷ 8 ∷ 6 ∷ 1 ∷ 2 ∷ 5 ∷ [])) (Size 4) ([])) ×
    ((store 4 24 2 3 199 small_codec (state 2 (of_fields magic 8 2 (4 ∷ 0 ∷ 0 ∷ 1 ∷ 0 ∷ 0 ∷ 0 ∷ 0 ∷ 0 ∷ 0 ∷ 0 ∷ 0 ∷ 24 ∷ 0 ∷ 0 ∷ 8 ∷ 0 ∷ 165 ∷ [])) true (overlay 4 4 0 0 (0 ∷ 0 ∷ []) 0 (budget false 0 0 0 0 0))) (lent (4 ∷ 0 ∷ 0 ∷ 0 ∷ 0 ∷ 0 ∷ 0 ∷ 0 ∷ 0 ∷ 0 ∷ 0 ∷ 0 ∷ 24 ∷ 0 ∷ 0 ∷ 8 ∷ 0 ∷ 165 ∷ 255 ∷ 1 ∷ 255 ∷ 0 ∷ 7 ∷ 1 ∷ 255 ∷ 255 ∷ 255 ∷ 127 ∷ 7 ∷ 0 ∷ 1 ∷ 255 ∷ 141 ∷ 0 ∷ 0 ∷ 74 ∷ 1 ∷ 156 ∷ 0 ∷ 255 ∷ 255 ∷ 0 ∷ 255 ∷ 7 ∷ 77 ∷ 7 ∷ 7 ∷ 7 ∷ 5 ∷ 3 ∷ 4 ∷ 2 ∷ 4 ∷ 5 ∷ 7 ∷ 7 ∷ 1 ∷ 6 ∷ 4 ∷ 2 ∷ 4 ∷ 1 ∷ 1 ∷ 8 ∷ 8 ∷ 3 ∷ 6 ∷ 3 ∷ 4 ∷ 4 ∷ 3 ∷ 6 ∷ []) (8 ∷ 4 ∷ 2 ∷ 3 ∷ 6 ∷ 2 ∷ 8 ∷ 1 ∷ []) (6 ∷ 6 ∷ []) (5 ∷ 3 ∷ 7 ∷ 7 ∷ 1 ∷ 2 ∷ 7 ∷ 4 ∷ []) (zeros 8) (4 ∷ 5 ∷ 3 ∷ 5 ∷ 3 ∷ 4 ∷ 6 ∷ 1 ∷ 1 ∷ 6 ∷ 3 ∷ 8 ∷ 5 ∷ 4 ∷ 5 ∷ 7 ∷ [])) (write 1 (9 ∷ [])) ≡ out (state 2 (of_fields magic 8 2 (4 ∷ 0 ∷ 0 ∷ 1 ∷ 0 ∷ 0 ∷ 0 ∷ 0 ∷ 0 ∷ 0 ∷ 0 ∷ 0 ∷ 24 ∷ 0 ∷ 0 ∷ 8 ∷ 0 ∷ 165 ∷ [])) true (overlay 4 4 1 0 (0 ∷ 0 ∷ []) 0 (budget false 0 0 0 0 0))) (lent (4 ∷ 0 ∷ 0 ∷ 0 ∷ 0 ∷ 0 ∷ 0 ∷ 0 ∷ 0 ∷ 0 ∷ 0 ∷ 0 ∷ 24 ∷ 0 ∷ 0 ∷ 8 ∷ 0 ∷ 165 ∷ 255 ∷ 1 ∷ 255 ∷ 0 ∷ 7 ∷ 1 ∷ 255 ∷ 255 ∷ 255 ∷ 127 ∷ 7 ∷ 0 ∷ 1 ∷ 255 ∷ 141 ∷ 0 ∷ 0 ∷ 74 ∷ 1 ∷ 156 ∷ 0 ∷ 255 ∷ 255 ∷ 0 ∷ 255 ∷ 7 ∷ 77 ∷ 7 ∷ 7 ∷ 7 ∷ 5 ∷ 3 ∷ 4 ∷ 2 ∷ 4 ∷ 5 ∷ 7 ∷ 7 ∷ 1 ∷ 6 ∷ 4 ∷ 2 ∷ 4 ∷ 1 ∷ 1 ∷ 8 ∷ 8 ∷ 3 ∷ 6 ∷ 3 ∷ 4 ∷ 4 ∷ 3 ∷ 6 ∷ []) (255 ∷ 9 ∷ 255 ∷ 127 ∷ 6 ∷ 2 ∷ 8 ∷ 1 ∷ []) (0 ∷ 6 ∷ []) (5 ∷ 3 ∷ 7 ∷ 7 ∷ 1 ∷ 2 ∷ 7 ∷ 4 ∷ []) (zeros 8) (zeros 16)) (Done) ([])) ×
    ((store 4 24 2 3 199 small_codec (state 2 (of_fields magic 8 2 (4 ∷ 0 ∷ 0 ∷ 1 ∷ 0 ∷ 0 ∷ 0 ∷ 0 ∷ 0 ∷ 0 ∷ 0 ∷ 0 ∷ 24 ∷ 0 ∷ 0 ∷ 8 ∷ 0 ∷ 165 ∷ [])) true (overlay 4 4 1 0 (0 ∷ 0 ∷ []) 0 (budget false 0 0 0 0 0))) (lent (4 ∷ 0 ∷ 0 ∷ 0 ∷ 0 ∷ 0 ∷ 0 ∷ 0 ∷ 0 ∷ 0 ∷ 0 ∷ 0 ∷ 24 ∷ 0 ∷ 0 ∷ 8 ∷ 0 ∷ 165 ∷ 255 ∷ 1 ∷ 255 ∷ 0 ∷ 7 ∷ 1 ∷ 255 ∷ 255 ∷ 255 ∷ 127 ∷ 7 ∷ 0 ∷ 1 ∷ 255 ∷ 141 ∷ 0 ∷ 0 ∷ 74 ∷ 1 ∷ 156 ∷ 0 ∷ 255 ∷ 255 ∷ 0 ∷ 255 ∷ 7 ∷ 77 ∷ 7 ∷ 7 ∷ 7 ∷ 5 ∷ 3 ∷ 4 ∷ 2 ∷ 4 ∷ 5 ∷ 7 ∷ 7 ∷ 1 ∷ 6 ∷ 4 ∷ 2 ∷ 4 ∷ 1 ∷ 1 ∷ 8 ∷ 8 ∷ 3 ∷ 6 ∷ 3 ∷ 4 ∷ 4 ∷ 3 ∷ 6 ∷ []) (255 ∷ 9 ∷ 255 ∷ 127 ∷ 6 ∷ 2 ∷ 8 ∷ 1 ∷ []) (0 ∷ 4 ∷ []) (2 ∷ 4 ∷ 4 ∷ 1 ∷ 7 ∷ 7 ∷ 5 ∷ 4 ∷ []) (zeros 8) (zeros 16)) (truncate 4) ≡ out (state 2 (of_fields magic 8 2 (4 ∷ 0 ∷ 0 ∷ 1 ∷ 0 ∷ 0 ∷ 0 ∷ 0 ∷ 0 ∷ 0 ∷ 0 ∷ 0 ∷ 24 ∷ 0 ∷ 0 ∷ 8 ∷ 0 ∷ 165 ∷ [])) true (overlay 4 4 1 0 (0 ∷ 0 ∷ []) 0 (budget false 0 0 0 0 0))) (lent (4 ∷ 0 ∷ 0 ∷ 0 ∷ 0 ∷ 0 ∷ 0 ∷ 0 ∷ 0 ∷ 0 ∷ 0 ∷ 0 ∷ 24 ∷ 0 ∷ 0 ∷ 8 ∷ 0 ∷ 165 ∷ 255 ∷ 1 ∷ 255 ∷ 0 ∷ 7 ∷ 1 ∷ 255 ∷ 255 ∷ 255 ∷ 127 ∷ 7 ∷ 0 ∷ 1 ∷ 255 ∷ 141 ∷ 0 ∷ 0 ∷ 74 ∷ 1 ∷ 156 ∷ 0 ∷ 255 ∷ 255 ∷ 0 ∷ 255 ∷ 7 ∷ 77 ∷ 7 ∷ 7 ∷ 7 ∷ 5 ∷ 3 ∷ 4 ∷ 2 ∷ 4 ∷ 5 ∷ 7 ∷ 7 ∷ 1 ∷ 6 ∷ 4 ∷ 2 ∷ 4 ∷ 1 ∷ 1 ∷ 8 ∷ 8 ∷ 3 ∷ 6 ∷ 3 ∷ 4 ∷ 4 ∷ 3 ∷ 6 ∷ []) (255 ∷ 9 ∷ 255 ∷ 127 ∷ 6 ∷ 2 ∷ 8 ∷ 1 ∷ []) (0 ∷ 4 ∷ []) (2 ∷ 4 ∷ 4 ∷ 1 ∷ 7 ∷ 7 ∷ 5 ∷ 4 ∷ []) (zeros 8) (zeros 16)) (Done) ([])) ×
    ((store 4 24 2 3 199 small_codec (state 2 (of_fields magic 8 2 (4 ∷ 0 ∷ 0 ∷ 1 ∷ 0 ∷ 0 ∷ 0 ∷ 0 ∷ 0 ∷ 0 ∷ 0 ∷ 0 ∷ 24 ∷ 0 ∷ 0 ∷ 8 ∷ 0 ∷ 165 ∷ [])) true (overlay 4 4 1 0 (0 ∷ 0 ∷ []) 0 (budget false 0 0 0 0 0))) (lent (4 ∷ 0 ∷ 0 ∷ 0 ∷ 0 ∷ 0 ∷ 0 ∷ 0 ∷ 0 ∷ 0 ∷ 0 ∷ 0 ∷ 24 ∷ 0 ∷ 0 ∷ 8 ∷ 0 ∷ 165 ∷ 255 ∷ 1 ∷ 255 ∷ 0 ∷ 7 ∷ 1 ∷ 255 ∷ 255 ∷ 255 ∷ 127 ∷ 7 ∷ 0 ∷ 1 ∷ 255 ∷ 141 ∷ 0 ∷ 0 ∷ 74 ∷ 1 ∷ 156 ∷ 0 ∷ 255 ∷ 255 ∷ 0 ∷ 255 ∷ 7 ∷ 77 ∷ 7 ∷ 7 ∷ 7 ∷ 5 ∷ 3 ∷ 4 ∷ 2 ∷ 4 ∷ 5 ∷ 7 ∷ 7 ∷ 1 ∷ 6 ∷ 4 ∷ 2 ∷ 4 ∷ 1 ∷ 1 ∷ 8 ∷ 8 ∷ 3 ∷ 6 ∷ 3 ∷ 4 ∷ 4 ∷ 3 ∷ 6 ∷ []) (255 ∷ 9 ∷ 255 ∷ 127 ∷ zeros 4) (0 ∷ 4 ∷ []) (3 ∷ 2 ∷ 6 ∷ 8 ∷ 5 ∷ 6 ∷ 2 ∷ 5 ∷ []) (3 ∷ 1 ∷ 3 ∷ 3 ∷ 2 ∷ 2 ∷ 5 ∷ 6 ∷ []) (zeros 16)) (begin true 1 1) ≡ out (state 2 (of_fields magic 8 2 (4 ∷ 0 ∷ 0 ∷ 1 ∷ 0 ∷ 0 ∷ 0 ∷ 0 ∷ 0 ∷ 0 ∷ 0 ∷ 0 ∷ 24 ∷ 0 ∷ 0 ∷ 8 ∷ 0 ∷ 165 ∷ [])) true (overlay 4 4 1 0 (0 ∷ 0 ∷ []) 0 (budget false 0 0 0 0 0))) (lent (4 ∷ 0 ∷ 0 ∷ 0 ∷ 0 ∷ 0 ∷ 0 ∷ 0 ∷ 0 ∷ 0 ∷ 0 ∷ 0 ∷ 24 ∷ 0 ∷ 0 ∷ 8 ∷ 0 ∷ 165 ∷ 255 ∷ 1 ∷ 255 ∷ 0 ∷ 7 ∷ 1 ∷ 255 ∷ 255 ∷ 255 ∷ 127 ∷ 7 ∷ 0 ∷ 1 ∷ 255 ∷ 141 ∷ 0 ∷ 0 ∷ 74 ∷ 1 ∷ 156 ∷ 0 ∷ 255 ∷ 255 ∷ 0 ∷ 255 ∷ 7 ∷ 77 ∷ 7 ∷ 7 ∷ 7 ∷ 5 ∷ 3 ∷ 4 ∷ 2 ∷ 4 ∷ 5 ∷ 7 ∷ 7 ∷ 1 ∷ 6 ∷ 4 ∷ 2 ∷ 4 ∷ 1 ∷ 1 ∷ 8 ∷ 8 ∷ 3 ∷ 6 ∷ 3 ∷ 4 ∷ 4 ∷ 3 ∷ 6 ∷ []) (255 ∷ 9 ∷ 255 ∷ 127 ∷ zeros 4) (0 ∷ 4 ∷ []) (3 ∷ 2 ∷ 6 ∷ 8 ∷ 5 ∷ 6 ∷ 2 ∷ 5 ∷ []) (3 ∷ 1 ∷ 3 ∷ 3 ∷ 2 ∷ 2 ∷ 5 ∷ 6 ∷ []) (zeros 16)) (Refused (ImportAlreadyStarted)) ([])) ×
    ((store 4 24 2 3 199 small_codec (state 2 (of_fields magic 8 2 (4 ∷ 0 ∷ 0 ∷ 1 ∷ 0 ∷ 0 ∷ 0 ∷ 0 ∷ 0 ∷ 0 ∷ 0 ∷ 0 ∷ 24 ∷ 0 ∷ 0 ∷ 8 ∷ 0 ∷ 165 ∷ [])) true (overlay 4 4 1 0 (0 ∷ 0 ∷ []) 0 (budget false 0 0 0 0 0))) (lent (4 ∷ 0 ∷ 0 ∷ 0 ∷ 0 ∷ 0 ∷ 0 ∷ 0 ∷ 0 ∷ 0 ∷ 0 ∷ 0 ∷ 24 ∷ 0 ∷ 0 ∷ 8 ∷ 0 ∷ 165 ∷ 255 ∷ 1 ∷ 255 ∷ 0 ∷ 7 ∷ 1 ∷ 255 ∷ 255 ∷ 255 ∷ 127 ∷ 7 ∷ 0 ∷ 1 ∷ 255 ∷ 141 ∷ 0 ∷ 0 ∷ 74 ∷ 1 ∷ 156 ∷ 0 ∷ 255 ∷ 255 ∷ 0 ∷ 255 ∷ 7 ∷ 77 ∷ 7 ∷ 7 ∷ 7 ∷ 5 ∷ 3 ∷ 4 ∷ 2 ∷ 4 ∷ 5 ∷ 7 ∷ 7 ∷ 1 ∷ 6 ∷ 4 ∷ 2 ∷ 4 ∷ 1 ∷ 1 ∷ 8 ∷ 8 ∷ 3 ∷ 6 ∷ 3 ∷ 4 ∷ 4 ∷ 3 ∷ 6 ∷ []) (255 ∷ 9 ∷ 255 ∷ 127 ∷ 5 ∷ 5 ∷ 6 ∷ 4 ∷ []) (0 ∷ 3 ∷ []) (3 ∷ 2 ∷ 8 ∷ 6 ∷ 3 ∷ 6 ∷ 8 ∷ 8 ∷ []) (3 ∷ 1 ∷ 3 ∷ 3 ∷ 2 ∷ 2 ∷ 5 ∷ 6 ∷ []) (zeros 16)) (import_begin 1 1) ≡ out (state 2 (of_fields magic 8 2 (4 ∷ 0 ∷ 0 ∷ 1 ∷ 0 ∷ 0 ∷ 0 ∷ 0 ∷ 0 ∷ 0 ∷ 0 ∷ 0 ∷ 24 ∷ 0 ∷ 0 ∷ 8 ∷ 0 ∷ 165 ∷ [])) true (overlay 4 4 1 0 (0 ∷ 0 ∷ []) 0 (budget false 0 0 0 0 0))) (lent (4 ∷ 0 ∷ 0 ∷ 0 ∷ 0 ∷ 0 ∷ 0 ∷ 0 ∷ 0 ∷ 0 ∷ 0 ∷ 0 ∷ 24 ∷ 0 ∷ 0 ∷ 8 ∷ 0 ∷ 165 ∷ 255 ∷ 1 ∷ 255 ∷ 0 ∷ 7 ∷ 1 ∷ 255 ∷ 255 ∷ 255 ∷ 127 ∷ 7 ∷ 0 ∷ 1 ∷ 255 ∷ 141 ∷ 0 ∷ 0 ∷ 74 ∷ 1 ∷ 156 ∷ 0 ∷ 255 ∷ 255 ∷ 0 ∷ 255 ∷ 7 ∷ 77 ∷ 7 ∷ 7 ∷ 7 ∷ 5 ∷ 3 ∷ 4 ∷ 2 ∷ 4 ∷ 5 ∷ 7 ∷ 7 ∷ 1 ∷ 6 ∷ 4 ∷ 2 ∷ 4 ∷ 1 ∷ 1 ∷ 8 ∷ 8 ∷ 3 ∷ 6 ∷ 3 ∷ 4 ∷ 4 ∷ 3 ∷ 6 ∷ []) (255 ∷ 9 ∷ 255 ∷ 127 ∷ 5 ∷ 5 ∷ 6 ∷ 4 ∷ []) (0 ∷ 3 ∷ []) (3 ∷ 2 ∷ 8 ∷ 6 ∷ 3 ∷ 6 ∷ 8 ∷ 8 ∷ []) (3 ∷ 1 ∷ 3 ∷ 3 ∷ 2 ∷ 2 ∷ 5 ∷ 6 ∷ []) (zeros 16)) (Refused (UpdateInProgress)) ([])) ×
    ((store 4 24 2 3 199 small_codec (state 2 (of_fields magic 8 2 (4 ∷ 0 ∷ 0 ∷ 1 ∷ 0 ∷ 0 ∷ 0 ∷ 0 ∷ 0 ∷ 0 ∷ 0 ∷ 0 ∷ 24 ∷ 0 ∷ 0 ∷ 8 ∷ 0 ∷ 165 ∷ [])) true (overlay 4 4 1 0 (0 ∷ 0 ∷ []) 0 (budget false 0 0 0 0 0))) (lent (4 ∷ 0 ∷ 0 ∷ 0 ∷ 0 ∷ 0 ∷ 0 ∷ 0 ∷ 0 ∷ 0 ∷ 0 ∷ 0 ∷ 24 ∷ 0 ∷ 0 ∷ 8 ∷ 0 ∷ 165 ∷ 255 ∷ 1 ∷ 255 ∷ 0 ∷ 7 ∷ 1 ∷ 255 ∷ 255 ∷ 255 ∷ 127 ∷ 7 ∷ 0 ∷ 1 ∷ 255 ∷ 141 ∷ 0 ∷ 0 ∷ 74 ∷ 1 ∷ 156 ∷ 0 ∷ 255 ∷ 255 ∷ 0 ∷ 255 ∷ 7 ∷ 77 ∷ 7 ∷ 7 ∷ 7 ∷ 4 ∷ 1 ∷ 3 ∷ 2 ∷ 7 ∷ 6 ∷ 5 ∷ 1 ∷ 6 ∷ 3 ∷ 7 ∷ 8 ∷ 5 ∷ 6 ∷ 6 ∷ 5 ∷ 4 ∷ 8 ∷ 8 ∷ 1 ∷ 2 ∷ 6 ∷ 4 ∷ 4 ∷ []) (255 ∷ 9 ∷ 255 ∷ 127 ∷ 5 ∷ 5 ∷ 6 ∷ 4 ∷ []) (0 ∷ 0 ∷ []) (2 ∷ 6 ∷ 1 ∷ 5 ∷ 6 ∷ 6 ∷ 5 ∷ 4 ∷ []) (zeros 8) (zeros 16)) (refresh_step 0) ≡ out (state 2 (of_fields magic 8 2 (4 ∷ 0 ∷ 0 ∷ 1 ∷ 0 ∷ 0 ∷ 0 ∷ 0 ∷ 0 ∷ 0 ∷ 0 ∷ 0 ∷ 24 ∷ 0 ∷ 0 ∷ 8 ∷ 0 ∷ 165 ∷ [])) true (overlay 4 4 1 0 (0 ∷ 0 ∷ []) 0 (budget false 0 0 0 0 0))) (lent (4 ∷ 0 ∷ 0 ∷ 0 ∷ 0 ∷ 0 ∷ 0 ∷ 0 ∷ 0 ∷ 0 ∷ 0 ∷ 0 ∷ 24 ∷ 0 ∷ 0 ∷ 8 ∷ 0 ∷ 165 ∷ 255 ∷ 1 ∷ 255 ∷ 0 ∷ 7 ∷ 1 ∷ 255 ∷ 255 ∷ 255 ∷ 127 ∷ 7 ∷ 0 ∷ 1 ∷ 255 ∷ 141 ∷ 0 ∷ 0 ∷ 74 ∷ 1 ∷ 156 ∷ 0 ∷ 255 ∷ 255 ∷ 0 ∷ 255 ∷ 7 ∷ 77 ∷ 7 ∷ 7 ∷ 7 ∷ 4 ∷ 1 ∷ 3 ∷ 2 ∷ 7 ∷ 6 ∷ 5 ∷ 1 ∷ 6 ∷ 3 ∷ 7 ∷ 8 ∷ 5 ∷ 6 ∷ 6 ∷ 5 ∷ 4 ∷ 8 ∷ 8 ∷ 1 ∷ 2 ∷ 6 ∷ 4 ∷ 4 ∷ []) (255 ∷ 9 ∷ 255 ∷ 127 ∷ 5 ∷ 5 ∷ 6 ∷ 4 ∷ []) (0 ∷ 0 ∷ []) (2 ∷ 6 ∷ 1 ∷ 5 ∷ 6 ∷ 6 ∷ 5 ∷ 4 ∷ []) (zeros 8) (zeros 16)) (Refused (UpdateInProgress)) ([])) ×
    ((store 4 24 2 3 199 small_codec (state 2 (of_fields magic 8 2 (4 ∷ 0 ∷ 0 ∷ 1 ∷ 0 ∷ 0 ∷ 0 ∷ 0 ∷ 0 ∷ 0 ∷ 0 ∷ 0 ∷ 24 ∷ 0 ∷ 0 ∷ 8 ∷ 0 ∷ 165 ∷ [])) true (overlay 4 4 1 0 (0 ∷ 0 ∷ []) 0 (budget false 0 0 0 0 0))) (lent (4 ∷ 0 ∷ 0 ∷ 0 ∷ 0 ∷ 0 ∷ 0 ∷ 0 ∷ 0 ∷ 0 ∷ 0 ∷ 0 ∷ 24 ∷ 0 ∷ 0 ∷ 8 ∷ 0 ∷ 165 ∷ 255 ∷ 1 ∷ 255 ∷ 0 ∷ 7 ∷ 1 ∷ 255 ∷ 255 ∷ 255 ∷ 127 ∷ 7 ∷ 0 ∷ 1 ∷ 255 ∷ 141 ∷ 0 ∷ 0 ∷ 74 ∷ 1 ∷ 156 ∷ 0 ∷ 255 ∷ 255 ∷ 0 ∷ 255 ∷ 7 ∷ 77 ∷ 7 ∷ 7 ∷ 7 ∷ 4 ∷ 1 ∷ 3 ∷ 2 ∷ 7 ∷ 6 ∷ 5 ∷ 1 ∷ 6 ∷ 3 ∷ 7 ∷ 8 ∷ 5 ∷ 6 ∷ 6 ∷ 5 ∷ 4 ∷ 8 ∷ 8 ∷ 1 ∷ 2 ∷ 6 ∷ 4 ∷ 4 ∷ []) (255 ∷ 9 ∷ 255 ∷ 127 ∷ zeros 4) (0 ∷ 0 ∷ []) (4 ∷ 4 ∷ 3 ∷ 4 ∷ 2 ∷ 2 ∷ 3 ∷ 3 ∷ []) (3 ∷ 7 ∷ 2 ∷ 6 ∷ 7 ∷ 3 ∷ 5 ∷ 3 ∷ []) (6 ∷ 6 ∷ 1 ∷ 3 ∷ 3 ∷ 3 ∷ 1 ∷ 6 ∷ 6 ∷ 4 ∷ 2 ∷ 4 ∷ 5 ∷ 8 ∷ 6 ∷ 1 ∷ [])) (import_chunk 3 ([])) ≡ out (state 2 (of_fields magic 8 2 (4 ∷ 0 ∷ 0 ∷ 1 ∷ 0 ∷ 0 ∷ 0 ∷ 0 ∷ 0 ∷ 0 ∷ 0 ∷ 0 ∷ 24 ∷ 0 ∷ 0 ∷ 8 ∷ 0 ∷ 165 ∷ [])) true (overlay 4 4 1 0 (0 ∷ 0 ∷ []) 0 (budget false 0 0 0 0 0))) (lent (4 ∷ 0 ∷ 0 ∷ 0 ∷ 0 ∷ 0 ∷ 0 ∷ 0 ∷ 0 ∷ 0 ∷ 0 ∷ 0 ∷ 24 ∷ 0 ∷ 0 ∷ 8 ∷ 0 ∷ 165 ∷ 255 ∷ 1 ∷ 255 ∷ 0 ∷ 7 ∷ 1 ∷ 255 ∷ 255 ∷ 255 ∷ 127 ∷ 7 ∷ 0 ∷ 1 ∷ 255 ∷ 141 ∷ 0 ∷ 0 ∷ 74 ∷ 1 ∷ 156 ∷ 0 ∷ 255 ∷ 255 ∷ 0 ∷ 255 ∷ 7 ∷ 77 ∷ 7 ∷ 7 ∷ 7 ∷ 4 ∷ 1 ∷ 3 ∷ 2 ∷ 7 ∷ 6 ∷ 5 ∷ 1 ∷ 6 ∷ 3 ∷ 7 ∷ 8 ∷ 5 ∷ 6 ∷ 6 ∷ 5 ∷ 4 ∷ 8 ∷ 8 ∷ 1 ∷ 2 ∷ 6 ∷ 4 ∷ 4 ∷ []) (255 ∷ 9 ∷ 255 ∷ 127 ∷ zeros 4) (0 ∷ 0 ∷ []) (4 ∷ 4 ∷ 3 ∷ 4 ∷ 2 ∷ 2 ∷ 3 ∷ 3 ∷ []) (3 ∷ 7 ∷ 2 ∷ 6 ∷ 7 ∷ 3 ∷ 5 ∷ 3 ∷ []) (6 ∷ 6 ∷ 1 ∷ 3 ∷ 3 ∷ 3 ∷ 1 ∷ 6 ∷ 6 ∷ 4 ∷ 2 ∷ 4 ∷ 5 ∷ 8 ∷ 6 ∷ 1 ∷ [])) (Refused (UpdateInProgress)) ([])) ×
    ((store 4 24 2 3 199 small_codec (state 2 (of_fields magic 8 2 (4 ∷ 0 ∷ 0 ∷ 1 ∷ 0 ∷ 0 ∷ 0 ∷ 0 ∷ 0 ∷ 0 ∷ 0 ∷ 0 ∷ 24 ∷ 0 ∷ 0 ∷ 8 ∷ 0 ∷ 165 ∷ [])) true (overlay 4 4 1 0 (0 ∷ 0 ∷ []) 0 (budget false 0 0 0 0 0))) (lent (4 ∷ 0 ∷ 0 ∷ 0 ∷ 0 ∷ 0 ∷ 0 ∷ 0 ∷ 0 ∷ 0 ∷ 0 ∷ 0 ∷ 24 ∷ 0 ∷ 0 ∷ 8 ∷ 0 ∷ 165 ∷ 255 ∷ 1 ∷ 255 ∷ 0 ∷ 7 ∷ 1 ∷ 255 ∷ 255 ∷ 255 ∷ 127 ∷ 7 ∷ 0 ∷ 1 ∷ 255 ∷ 141 ∷ 0 ∷ 0 ∷ 74 ∷ 1 ∷ 156 ∷ 0 ∷ 255 ∷ 255 ∷ 0 ∷ 255 ∷ 7 ∷ 77 ∷ 7 ∷ 7 ∷ 7 ∷ 4 ∷ 1 ∷ 3 ∷ 2 ∷ 7 ∷ 6 ∷ 5 ∷ 1 ∷ 6 ∷ 3 ∷ 7 ∷ 8 ∷ 5 ∷ 6 ∷ 6 ∷ 5 ∷ 4 ∷ 8 ∷ 8 ∷ 1 ∷ 2 ∷ 6 ∷ 4 ∷ 4 ∷ []) (255 ∷ 9 ∷ 255 ∷ 127 ∷ zeros 4) (0 ∷ 1 ∷ []) (4 ∷ 4 ∷ 3 ∷ 4 ∷ 2 ∷ 2 ∷ 3 ∷ 3 ∷ []) (zeros 8) (zeros 16)) (import_finish) ≡ out (state 2 (of_fields magic 8 2 (4 ∷ 0 ∷ 0 ∷ 1 ∷ 0 ∷ 0 ∷ 0 ∷ 0 ∷ 0 ∷ 0 ∷ 0 ∷ 0 ∷ 24 ∷ 0 ∷ 0 ∷ 8 ∷ 0 ∷ 165 ∷ [])) true (overlay 4 4 1 0 (0 ∷ 0 ∷ []) 0 (budget false 0 0 0 0 0))) (lent (4 ∷ 0 ∷ 0 ∷ 0 ∷ 0 ∷ 0 ∷ 0 ∷ 0 ∷ 0 ∷ 0 ∷ 0 ∷ 0 ∷ 24 ∷ 0 ∷ 0 ∷ 8 ∷ 0 ∷ 165 ∷ 255 ∷ 1 ∷ 255 ∷ 0 ∷ 7 ∷ 1 ∷ 255 ∷ 255 ∷ 255 ∷ 127 ∷ 7 ∷ 0 ∷ 1 ∷ 255 ∷ 141 ∷ 0 ∷ 0 ∷ 74 ∷ 1 ∷ 156 ∷ 0 ∷ 255 ∷ 255 ∷ 0 ∷ 255 ∷ 7 ∷ 77 ∷ 7 ∷ 7 ∷ 7 ∷ 4 ∷ 1 ∷ 3 ∷ 2 ∷ 7 ∷ 6 ∷ 5 ∷ 1 ∷ 6 ∷ 3 ∷ 7 ∷ 8 ∷ 5 ∷ 6 ∷ 6 ∷ 5 ∷ 4 ∷ 8 ∷ 8 ∷ 1 ∷ 2 ∷ 6 ∷ 4 ∷ 4 ∷ []) (255 ∷ 9 ∷ 255 ∷ 127 ∷ zeros 4) (0 ∷ 1 ∷ []) (4 ∷ 4 ∷ 3 ∷ 4 ∷ 2 ∷ 2 ∷ 3 ∷ 3 ∷ []) (zeros 8) (zeros 16)) (Refused (UpdateInProgress)) ([])) ×
    ((store 4 24 2 3 199 small_codec (state 2 (of_fields magic 8 2 (4 ∷ 0 ∷ 0 ∷ 1 ∷ 0 ∷ 0 ∷ 0 ∷ 0 ∷ 0 ∷ 0 ∷ 0 ∷ 0 ∷ 24 ∷ 0 ∷ 0 ∷ 8 ∷ 0 ∷ 165 ∷ [])) true (overlay 4 4 1 0 (0 ∷ 0 ∷ []) 0 (budget false 0 0 0 0 0))) (lent (4 ∷ 0 ∷ 0 ∷ 0 ∷ 0 ∷ 0 ∷ 0 ∷ 0 ∷ 0 ∷ 0 ∷ 0 ∷ 0 ∷ 24 ∷ 0 ∷ 0 ∷ 8 ∷ 0 ∷ 165 ∷ 255 ∷ 1 ∷ 255 ∷ 0 ∷ 7 ∷ 1 ∷ 255 ∷ 255 ∷ 255 ∷ 127 ∷ 7 ∷ 0 ∷ 1 ∷ 255 ∷ 141 ∷ 0 ∷ 0 ∷ 74 ∷ 1 ∷ 156 ∷ 0 ∷ 255 ∷ 255 ∷ 0 ∷ 255 ∷ 7 ∷ 77 ∷ 7 ∷ 7 ∷ 7 ∷ 4 ∷ 1 ∷ 3 ∷ 2 ∷ 7 ∷ 6 ∷ 5 ∷ 1 ∷ 6 ∷ 3 ∷ 7 ∷ 8 ∷ 5 ∷ 6 ∷ 6 ∷ 5 ∷ 4 ∷ 8 ∷ 8 ∷ 1 ∷ 2 ∷ 6 ∷ 4 ∷ 4 ∷ []) (255 ∷ 9 ∷ 255 ∷ 127 ∷ zeros 4) (0 ∷ 1 ∷ []) (3 ∷ 8 ∷ 2 ∷ 4 ∷ 4 ∷ 1 ∷ 2 ∷ 4 ∷ []) (3 ∷ 3 ∷ 6 ∷ 2 ∷ 1 ∷ 4 ∷ 1 ∷ 8 ∷ []) (4 ∷ 4 ∷ 8 ∷ 6 ∷ 3 ∷ 5 ∷ 1 ∷ 3 ∷ 8 ∷ 1 ∷ 5 ∷ 1 ∷ 4 ∷ 2 ∷ 2 ∷ 7 ∷ [])) (export 0 (4 ∷ 4 ∷ 4 ∷ [])) ≡ out (state 2 (of_fields magic 8 2 (4 ∷ 0 ∷ 0 ∷ 1 ∷ 0 ∷ 0 ∷ 0 ∷ 0 ∷ 0 ∷ 0 ∷ 0 ∷ 0 ∷ 24 ∷ 0 ∷ 0 ∷ 8 ∷ 0 ∷ 165 ∷ [])) true (overlay 4 4 1 0 (0 ∷ 0 ∷ []) 0 (budget false 0 0 0 0 0))) (lent (4 ∷ 0 ∷ 0 ∷ 0 ∷ 0 ∷ 0 ∷ 0 ∷ 0 ∷ 0 ∷ 0 ∷ 0 ∷ 0 ∷ 24 ∷ 0 ∷ 0 ∷ 8 ∷ 0 ∷ 165 ∷ 255 ∷ 1 ∷ 255 ∷ 0 ∷ 7 ∷ 1 ∷ 255 ∷ 255 ∷ 255 ∷ 127 ∷ 7 ∷ 0 ∷ 1 ∷ 255 ∷ 141 ∷ 0 ∷ 0 ∷ 74 ∷ 1 ∷ 156 ∷ 0 ∷ 255 ∷ 255 ∷ 0 ∷ 255 ∷ 7 ∷ 77 ∷ 7 ∷ 7 ∷ 7 ∷ 4 ∷ 1 ∷ 3 ∷ 2 ∷ 7 ∷ 6 ∷ 5 ∷ 1 ∷ 6 ∷ 3 ∷ 7 ∷ 8 ∷ 5 ∷ 6 ∷ 6 ∷ 5 ∷ 4 ∷ 8 ∷ 8 ∷ 1 ∷ 2 ∷ 6 ∷ 4 ∷ 4 ∷ []) (255 ∷ 9 ∷ 255 ∷ 127 ∷ zeros 4) (0 ∷ 1 ∷ []) (3 ∷ 8 ∷ 2 ∷ 4 ∷ 4 ∷ 1 ∷ 2 ∷ 4 ∷ []) (3 ∷ 3 ∷ 6 ∷ 2 ∷ 1 ∷ 4 ∷ 1 ∷ 8 ∷ []) (4 ∷ 4 ∷ 8 ∷ 6 ∷ 3 ∷ 5 ∷ 1 ∷ 3 ∷ 8 ∷ 1 ∷ 5 ∷ 1 ∷ 4 ∷ 2 ∷ 2 ∷ 7 ∷ [])) (Refused (UpdateInProgress)) (4 ∷ 4 ∷ 4 ∷ [])) ×
    ((store 4 24 2 3 199 small_codec (state 2 (of_fields magic 8 2 (4 ∷ 0 ∷ 0 ∷ 1 ∷ 0 ∷ 0 ∷ 0 ∷ 0 ∷ 0 ∷ 0 ∷ 0 ∷ 0 ∷ 24 ∷ 0 ∷ 0 ∷ 8 ∷ 0 ∷ 165 ∷ [])) true (overlay 4 4 1 0 (0 ∷ 0 ∷ []) 0 (budget false 0 0 0 0 0))) (lent (4 ∷ 0 ∷ 0 ∷ 0 ∷ 0 ∷ 0 ∷ 0 ∷ 0 ∷ 0 ∷ 0 ∷ 0 ∷ 0 ∷ 24 ∷ 0 ∷ 0 ∷ 8 ∷ 0 ∷ 165 ∷ 255 ∷ 1 ∷ 255 ∷ 0 ∷ 7 ∷ 1 ∷ 255 ∷ 255 ∷ 255 ∷ 127 ∷ 7 ∷ 0 ∷ 1 ∷ 255 ∷ 141 ∷ 0 ∷ 0 ∷ 74 ∷ 1 ∷ 156 ∷ 0 ∷ 255 ∷ 255 ∷ 0 ∷ 255 ∷ 7 ∷ 77 ∷ 7 ∷ 7 ∷ 7 ∷ zeros 24) (255 ∷ 9 ∷ 255 ∷ 127 ∷ 3 ∷ 7 ∷ 6 ∷ 6 ∷ []) (0 ∷ 1 ∷ []) (3 ∷ 8 ∷ 2 ∷ 4 ∷ 4 ∷ 1 ∷ 2 ∷ 4 ∷ []) (1 ∷ 6 ∷ 8 ∷ 8 ∷ 1 ∷ 6 ∷ 6 ∷ 7 ∷ []) (zeros 16)) (commit) ≡ out (state 2 (of_fields magic 8 2 (4 ∷ 0 ∷ 1 ∷ 3 ∷ 0 ∷ 0 ∷ 0 ∷ 0 ∷ 0 ∷ 0 ∷ 0 ∷ 0 ∷ 24 ∷ 0 ∷ 1 ∷ 8 ∷ 0 ∷ 97 ∷ [])) false (overlay 0 0 0 0 (0 ∷ 0 ∷ []) 0 (budget false 0 0 0 0 0))) (lent (4 ∷ 0 ∷ 1 ∷ 3 ∷ 0 ∷ 0 ∷ 0 ∷ 0 ∷ 0 ∷ 0 ∷ 0 ∷ 0 ∷ 24 ∷ 0 ∷ 1 ∷ 8 ∷ 0 ∷ 97 ∷ 255 ∷ 1 ∷ 255 ∷ 0 ∷ 7 ∷ 1 ∷ 255 ∷ 9 ∷ 255 ∷ 127 ∷ 7 ∷ 0 ∷ 1 ∷ 255 ∷ 141 ∷ 0 ∷ 0 ∷ 74 ∷ 1 ∷ 156 ∷ 0 ∷ 255 ∷ 255 ∷ 0 ∷ 255 ∷ 7 ∷ 77 ∷ 7 ∷ 7 ∷ 7 ∷ zeros 24) (zeros 8) (0 ∷ 0 ∷ []) (zeros 8) (zeros 8) (zeros 16)) (Done) ([])) ×
    ((store 4 24 2 3 199 small_codec (state 2 (of_fields magic 8 2 (4 ∷ 0 ∷ 1 ∷ 3 ∷ 0 ∷ 0 ∷ 0 ∷ 0 ∷ 0 ∷ 0 ∷ 0 ∷ 0 ∷ 24 ∷ 0 ∷ 1 ∷ 8 ∷ 0 ∷ 97 ∷ [])) false (overlay 0 0 0 0 (0 ∷ 0 ∷ []) 0 (budget false 0 0 0 0 0))) (lent (4 ∷ 0 ∷ 1 ∷ 3 ∷ 0 ∷ 0 ∷ 0 ∷ 0 ∷ 0 ∷ 0 ∷ 0 ∷ 0 ∷ 24 ∷ 0 ∷ 1 ∷ 8 ∷ 0 ∷ 97 ∷ 255 ∷ 1 ∷ 255 ∷ 0 ∷ 7 ∷ 1 ∷ 255 ∷ 9 ∷ 255 ∷ 127 ∷ 7 ∷ 0 ∷ 1 ∷ 255 ∷ 141 ∷ 0 ∷ 0 ∷ 74 ∷ 1 ∷ 156 ∷ 0 ∷ 255 ∷ 255 ∷ 0 ∷ 255 ∷ 7 ∷ 77 ∷ 7 ∷ 7 ∷ 7 ∷ 6 ∷ 4 ∷ 1 ∷ 4 ∷ 6 ∷ 8 ∷ 3 ∷ 3 ∷ 8 ∷ 1 ∷ 2 ∷ 5 ∷ 2 ∷ 5 ∷ 5 ∷ 3 ∷ 1 ∷ 2 ∷ 6 ∷ 5 ∷ 8 ∷ 2 ∷ 4 ∷ 6 ∷ []) (5 ∷ 7 ∷ 1 ∷ 4 ∷ 2 ∷ 8 ∷ 7 ∷ 1 ∷ []) (1 ∷ 3 ∷ []) (6 ∷ 3 ∷ 7 ∷ 1 ∷ 7 ∷ 3 ∷ 3 ∷ 4 ∷ []) (3 ∷ 2 ∷ 5 ∷ 4 ∷ 2 ∷ 7 ∷ 7 ∷ 3 ∷ []) (4 ∷ 1 ∷ 1 ∷ 3 ∷ 5 ∷ 5 ∷ 6 ∷ 3 ∷ 1 ∷ 7 ∷ 3 ∷ 2 ∷ 2 ∷ 3 ∷ 2 ∷ 5 ∷ [])) (refresh_step 0) ≡ out (state 2 (of_fields magic 8 2 (4 ∷ 0 ∷ 1 ∷ 3 ∷ 0 ∷ 0 ∷ 0 ∷ 0 ∷ 0 ∷ 0 ∷ 0 ∷ 0 ∷ 24 ∷ 0 ∷ 1 ∷ 8 ∷ 0 ∷ 97 ∷ [])) false (overlay 0 0 0 0 (0 ∷ 0 ∷ []) 0 (budget false 0 0 0 0 0))) (lent (4 ∷ 0 ∷ 1 ∷ 3 ∷ 0 ∷ 0 ∷ 0 ∷ 0 ∷ 0 ∷ 0 ∷ 0 ∷ 0 ∷ 24 ∷ 0 ∷ 1 ∷ 8 ∷ 0 ∷ 97 ∷ 255 ∷ 1 ∷ 255 ∷ 0 ∷ 7 ∷ 1 ∷ 255 ∷ 9 ∷ 255 ∷ 127 ∷ 7 ∷ 0 ∷ 1 ∷ 255 ∷ 141 ∷ 0 ∷ 0 ∷ 74 ∷ 1 ∷ 156 ∷ 0 ∷ 255 ∷ 255 ∷ 0 ∷ 255 ∷ 7 ∷ 77 ∷ 7 ∷ 7 ∷ 7 ∷ 6 ∷ 4 ∷ 1 ∷ 4 ∷ 6 ∷ 8 ∷ 3 ∷ 3 ∷ 8 ∷ 1 ∷ 2 ∷ 5 ∷ 2 ∷ 5 ∷ 5 ∷ 3 ∷ 1 ∷ 2 ∷ 6 ∷ 5 ∷ 8 ∷ 2 ∷ 4 ∷ 6 ∷ []) (5 ∷ 7 ∷ 1 ∷ 4 ∷ 2 ∷ 8 ∷ 7 ∷ 1 ∷ []) (1 ∷ 3 ∷ []) (6 ∷ 3 ∷ 7 ∷ 1 ∷ 7 ∷ 3 ∷ 3 ∷ 4 ∷ []) (3 ∷ 2 ∷ 5 ∷ 4 ∷ 2 ∷ 7 ∷ 7 ∷ 3 ∷ []) (4 ∷ 1 ∷ 1 ∷ 3 ∷ 5 ∷ 5 ∷ 6 ∷ 3 ∷ 1 ∷ 7 ∷ 3 ∷ 2 ∷ 2 ∷ 3 ∷ 2 ∷ 5 ∷ [])) (Refused (ChecksumRefreshChunkEmpty)) ([])) ×
    ((store 4 24 2 3 199 small_codec (state 2 (of_fields magic 8 2 (4 ∷ 0 ∷ 1 ∷ 3 ∷ 0 ∷ 0 ∷ 0 ∷ 0 ∷ 0 ∷ 0 ∷ 0 ∷ 0 ∷ 24 ∷ 0 ∷ 1 ∷ 8 ∷ 0 ∷ 97 ∷ [])) false (overlay 0 0 0 0 (0 ∷ 0 ∷ []) 0 (budget false 0 0 0 0 0))) (lent (4 ∷ 0 ∷ 1 ∷ 3 ∷ 0 ∷ 0 ∷ 0 ∷ 0 ∷ 0 ∷ 0 ∷ 0 ∷ 0 ∷ 24 ∷ 0 ∷ 1 ∷ 8 ∷ 0 ∷ 97 ∷ 255 ∷ 1 ∷ 255 ∷ 0 ∷ 7 ∷ 1 ∷ 255 ∷ 9 ∷ 255 ∷ 127 ∷ 7 ∷ 0 ∷ 1 ∷ 255 ∷ 141 ∷ 0 ∷ 0 ∷ 74 ∷ 1 ∷ 156 ∷ 0 ∷ 255 ∷ 255 ∷ 0 ∷ 255 ∷ 7 ∷ 77 ∷ 7 ∷ 7 ∷ 7 ∷ 8 ∷ 5 ∷ 4 ∷ 8 ∷ 2 ∷ 5 ∷ 1 ∷ 6 ∷ 1 ∷ 6 ∷ 5 ∷ 7 ∷ 8 ∷ 5 ∷ 6 ∷ 5 ∷ 5 ∷ 5 ∷ 6 ∷ 7 ∷ 1 ∷ 7 ∷ 2 ∷ 5 ∷ []) (3 ∷ 8 ∷ 1 ∷ 1 ∷ 1 ∷ 5 ∷ 7 ∷ 8 ∷ []) (8 ∷ 6 ∷ []) (6 ∷ 5 ∷ 6 ∷ 6 ∷ 3 ∷ 7 ∷ 7 ∷ 1 ∷ []) (2 ∷ 5 ∷ 3 ∷ 5 ∷ 4 ∷ 5 ∷ 4 ∷ 5 ∷ []) (7 ∷ 5 ∷ 1 ∷ 5 ∷ 4 ∷ 4 ∷ 7 ∷ 7 ∷ 7 ∷ 1 ∷ 1 ∷ 2 ∷ 4 ∷ 3 ∷ 6 ∷ 6 ∷ [])) (import_chunk 1 (1 ∷ 4 ∷ 7 ∷ 10 ∷ 13 ∷ 16 ∷ 19 ∷ 22 ∷ 25 ∷ 28 ∷ 31 ∷ 34 ∷ 37 ∷ 40 ∷ 43 ∷ 46 ∷ 49 ∷ 52 ∷ 55 ∷ 58 ∷ 61 ∷ 64 ∷ 67 ∷ 70 ∷ 73 ∷ 76 ∷ 79 ∷ 82 ∷ 85 ∷ 88 ∷ 91 ∷ 94 ∷ 97 ∷ 100 ∷ 103 ∷ 106 ∷ 109 ∷ 112 ∷ 115 ∷ 118 ∷ 121 ∷ 124 ∷ 127 ∷ 130 ∷ 133 ∷ 136 ∷ 139 ∷ 142 ∷ 145 ∷ 148 ∷ 151 ∷ 154 ∷ 157 ∷ 160 ∷ 163 ∷ 166 ∷ 169 ∷ 172 ∷ 175 ∷ 178 ∷ 181 ∷ 184 ∷ 187 ∷ 190 ∷ 193 ∷ 196 ∷ 199 ∷ 202 ∷ 205 ∷ 208 ∷ 211 ∷ 214 ∷ 217 ∷ 220 ∷ 223 ∷ 226 ∷ 229 ∷ 232 ∷ 235 ∷ 238 ∷ 241 ∷ 244 ∷ 247 ∷ 0 ∷ 3 ∷ 6 ∷ 9 ∷ 12 ∷ 15 ∷ 18 ∷ 21 ∷ 24 ∷ 27 ∷ 30 ∷ 33 ∷ [])) ≡ out (state 2 (of_fields magic 8 2 (4 ∷ 0 ∷ 1 ∷ 3 ∷ 0 ∷ 0 ∷ 0 ∷ 0 ∷ 0 ∷ 0 ∷ 0 ∷ 0 ∷ 24 ∷ 0 ∷ 1 ∷ 8 ∷ 0 ∷ 97 ∷ [])) false (overlay 0 0 0 0 (0 ∷ 0 ∷ []) 0 (budget false 0 0 0 0 0))) (lent (4 ∷ 0 ∷ 1 ∷ 3 ∷ 0 ∷ 0 ∷ 0 ∷ 0 ∷ 0 ∷ 0 ∷ 0 ∷ 0 ∷ 24 ∷ 0 ∷ 1 ∷ 8 ∷ 0 ∷ 97 ∷ 255 ∷ 1 ∷ 255 ∷ 0 ∷ 7 ∷ 1 ∷ 255 ∷ 9 ∷ 255 ∷ 127 ∷ 7 ∷ 0 ∷ 1 ∷ 255 ∷ 141 ∷ 0 ∷ 0 ∷ 74 ∷ 1 ∷ 156 ∷ 0 ∷ 255 ∷ 255 ∷ 0 ∷ 255 ∷ 7 ∷ 77 ∷ 7 ∷ 7 ∷ 7 ∷ 8 ∷ 5 ∷ 4 ∷ 8 ∷ 2 ∷ 5 ∷ 1 ∷ 6 ∷ 1 ∷ 6 ∷ 5 ∷ 7 ∷ 8 ∷ 5 ∷ 6 ∷ 5 ∷ 5 ∷ 5 ∷ 6 ∷ 7 ∷ 1 ∷ 7 ∷ 2 ∷ 5 ∷ []) (3 ∷ 8 ∷ 1 ∷ 1 ∷ 1 ∷ 5 ∷ 7 ∷ 8 ∷ []) (8 ∷ 6 ∷ []) (6 ∷ 5 ∷ 6 ∷ 6 ∷ 3 ∷ 7 ∷ 7 ∷ 1 ∷ []) (2 ∷ 5 ∷ 3 ∷ 5 ∷ 4 ∷ 5 ∷ 4 ∷ 5 ∷ []) (7 ∷ 5 ∷ 1 ∷ 5 ∷ 4 ∷ 4 ∷ 7 ∷ 7 ∷ 7 ∷ 1 ∷ 1 ∷ 2 ∷ 4 ∷ 3 ∷ 6 ∷ 6 ∷ [])) (Refused (ImportOutOfOrder)) ([])) ×
    ((store 4 24 2 3 199 small_codec (state 2 (of_fields magic 8 2 (4 ∷ 0 ∷ 1 ∷ 3 ∷ 0 ∷ 0 ∷ 0 ∷ 0 ∷ 0 ∷ 0 ∷ 0 ∷ 0 ∷ 24 ∷ 0 ∷ 1 ∷ 8 ∷ 0 ∷ 97 ∷ [])) false (overlay 0 0 0 0 (0 ∷ 0 ∷ []) 0 (budget false 0 0 0 0 0))) (lent (4 ∷ 0 ∷ 1 ∷ 3 ∷ 0 ∷ 0 ∷ 0 ∷ 0 ∷ 0 ∷ 0 ∷ 0 ∷ 0 ∷ 24 ∷ 0 ∷ 1 ∷ 8 ∷ 0 ∷ 97 ∷ 255 ∷ 1 ∷ 255 ∷ 0 ∷ 7 ∷ 1 ∷ 255 ∷ 9 ∷ 255 ∷ 127 ∷ 7 ∷ 0 ∷ 1 ∷ 255 ∷ 141 ∷ 0 ∷ 0 ∷ 74 ∷ 1 ∷ 156 ∷ 0 ∷ 255 ∷ 255 ∷ 0 ∷ 255 ∷ 7 ∷ 77 ∷ 7 ∷ 7 ∷ 7 ∷ 5 ∷ 8 ∷ 5 ∷ 2 ∷ 8 ∷ 5 ∷ 5 ∷ 1 ∷ 6 ∷ 6 ∷ 4 ∷ 2 ∷ 1 ∷ 7 ∷ 7 ∷ 7 ∷ 1 ∷ 6 ∷ 7 ∷ 1 ∷ 7 ∷ 8 ∷ 5 ∷ 7 ∷ []) (4 ∷ 4 ∷ 7 ∷ 2 ∷ 2 ∷ 5 ∷ 6 ∷ 3 ∷ []) (7 ∷ 6 ∷ []) (7 ∷ 4 ∷ 5 ∷ 6 ∷ 4 ∷ 2 ∷ 5 ∷ 7 ∷ []) (7 ∷ 8 ∷ 4 ∷ 8 ∷ 2 ∷ 5 ∷ 1 ∷ 5 ∷ []) (8 ∷ 1 ∷ 1 ∷ 7 ∷ 7 ∷ 2 ∷ 8 ∷ 1 ∷ 6 ∷ 6 ∷ 5 ∷ 6 ∷ 4 ∷ 1 ∷ 6 ∷ 4 ∷ [])) (import_begin 199 0) ≡ out (state 2 (of_fields magic 8 2 (4 ∷ 0 ∷ 1 ∷ 3 ∷ 0 ∷ 0 ∷ 0 ∷ 0 ∷ 0 ∷ 0 ∷ 0 ∷ 0 ∷ 24 ∷ 0 ∷ 1 ∷ 8 ∷ 0 ∷ 97 ∷ [])) false (overlay 0 0 0 0 (0 ∷ 0 ∷ []) 0 (budget false 0 0 0 0 0))) (lent (4 ∷ 0 ∷ 1 ∷ 3 ∷ 0 ∷ 0 ∷ 0 ∷ 0 ∷ 0 ∷ 0 ∷ 0 ∷ 0 ∷ 24 ∷ 0 ∷ 1 ∷ 8 ∷ 0 ∷ 97 ∷ 255 ∷ 1 ∷ 255 ∷ 0 ∷ 7 ∷ 1 ∷ 255 ∷ 9 ∷ 255 ∷ 127 ∷ 7 ∷ 0 ∷ 1 ∷ 255 ∷ 141 ∷ 0 ∷ 0 ∷ 74 ∷ 1 ∷ 156 ∷ 0 ∷ 255 ∷ 255 ∷ 0 ∷ 255 ∷ 7 ∷ 77 ∷ 7 ∷ 7 ∷ 7 ∷ 5 ∷ 8 ∷ 5 ∷ 2 ∷ 8 ∷ 5 ∷ 5 ∷ 1 ∷ 6 ∷ 6 ∷ 4 ∷ 2 ∷ 1 ∷ 7 ∷ 7 ∷ 7 ∷ 1 ∷ 6 ∷ 7 ∷ 1 ∷ 7 ∷ 8 ∷ 5 ∷ 7 ∷ []) (4 ∷ 4 ∷ 7 ∷ 2 ∷ 2 ∷ 5 ∷ 6 ∷ 3 ∷ []) (7 ∷ 6 ∷ []) (7 ∷ 4 ∷ 5 ∷ 6 ∷ 4 ∷ 2 ∷ 5 ∷ 7 ∷ []) (7 ∷ 8 ∷ 4 ∷ 8 ∷ 2 ∷ 5 ∷ 1 ∷ 5 ∷ []) (8 ∷ 1 ∷ 1 ∷ 7 ∷ 7 ∷ 2 ∷ 8 ∷ 1 ∷ 6 ∷ 6 ∷ 5 ∷ 6 ∷ 4 ∷ 1 ∷ 6 ∷ 4 ∷ [])) (Refused (ImportAlreadyStarted)) ([])))))))))))))))
unfolding count filled overwrite resize growMemory requiredPages normalized within merge insert add around piece remove flatRuns additions add_one remain plan put refill tabulate add_number_if span grown_numbers image_byte image_page push_run raw over_byte budget_bytes raised touch blank copy stretch patch finish grow grow_to chop tail truncated whole_page over_write written fresh look_up sized passing marked try_touch try_patch try_finish try_grow try_grow_to try_tail try_chop try_truncate try_write frame_count entry_count wiped cached short_buffers view overlay_of put_back dirty_page stored small_codec small_sum small_decode small_runs small_load small_fresh importing stale refreshing marks after_commit after_import_begin after_import_chunk after_import_cancel after_import_finish after_refresh after_refresh_step short store_plan no_overlay image_bytes unchanged planned_runs commit_over restore do_import_begin do_import_chunk do_import_finish do_import_cancel do_export image_sum do_checksum do_refresh refresh_from do_refresh_step store outside open_image closing open'
c6 = (refl, (refl, (refl, (refl, (refl, (refl, (refl, (refl, (refl, (refl, (refl, (refl, (refl, (refl))))))))))))))

-- open: accepted (moved up)
-- begin: accepted (moved up)
-- write in update: 33 (moved up)
-- truncate in update: accepted (moved up)
-- read in update: accepted (moved up)
-- commit in update: accepted (moved up)
c7 :
    (open' 4 24 2 3 199 small_codec 1 (0 ∷ 0 ∷ 0 ∷ 0 ∷ 0 ∷ 0 ∷ 0 ∷ 0 ∷ 0 ∷ 0 ∷ 0 ∷ 0 ∷ 24 ∷ 0 ∷ 0 ∷ 8 ∷ 0 ∷ 53 ∷ 7 ∷ 7 ∷ 7 ∷ 0 ∷ 7 ∷ zeros 49) ≡ opened (state 1 (of_fields magic 8 2 (0 ∷ 0 ∷ 0 ∷ 0 ∷ 0 ∷ 0 ∷ 0 ∷ 0 ∷ 0 ∷ 0 ∷ 0 ∷ 0 ∷ 24 ∷ 0 ∷ 0 ∷ 8 ∷ 0 ∷ 53 ∷ [])) false (overlay 0 0 0 0 (0 ∷ 0 ∷ []) 0 (budget false 0 0 0 0 0))) (Done) (0 ∷ 0 ∷ 0 ∷ 0 ∷ 0 ∷ 0 ∷ 0 ∷ 0 ∷ 0 ∷ 0 ∷ 0 ∷ 0 ∷ 24 ∷ 0 ∷ 0 ∷ 8 ∷ 0 ∷ 53 ∷ 7 ∷ 7 ∷ 7 ∷ 0 ∷ 7 ∷ zeros 49)) ×
    ((store 4 24 2 3 199 small_codec (state 1 (of_fields magic 8 2 (0 ∷ 0 ∷ 0 ∷ 0 ∷ 0 ∷ 0 ∷ 0 ∷ 0 ∷ 0 ∷ 0 ∷ 0 ∷ 0 ∷ 24 ∷ 0 ∷ 0 ∷ 8 ∷ 0 ∷ 53 ∷ [])) false (overlay 0 0 0 0 (0 ∷ 0 ∷ []) 0 (budget false 0 0 0 0 0))) (lent (0 ∷ 0 ∷ 0 ∷ 0 ∷ 0 ∷ 0 ∷ 0 ∷ 0 ∷ 0 ∷ 0 ∷ 0 ∷ 0 ∷ 24 ∷ 0 ∷ 0 ∷ 8 ∷ 0 ∷ 53 ∷ 7 ∷ 7 ∷ 7 ∷ 0 ∷ 7 ∷ zeros 49) (zeros 4) (0 ∷ []) (zeros 8) (6 ∷ 6 ∷ 6 ∷ 3 ∷ 6 ∷ 4 ∷ 5 ∷ 1 ∷ []) (6 ∷ 4 ∷ 5 ∷ 3 ∷ 8 ∷ 8 ∷ 7 ∷ 8 ∷ 4 ∷ 5 ∷ 6 ∷ 4 ∷ [])) (begin false 0 0) ≡ out (state 1 (of_fields magic 8 2 (0 ∷ 0 ∷ 0 ∷ 0 ∷ 0 ∷ 0 ∷ 0 ∷ 0 ∷ 0 ∷ 0 ∷ 0 ∷ 0 ∷ 24 ∷ 0 ∷ 0 ∷ 8 ∷ 0 ∷ 53 ∷ [])) true (overlay 0 0 0 0 (0 ∷ 0 ∷ []) 0 (budget false 0 0 0 0 0))) (lent (0 ∷ 0 ∷ 0 ∷ 0 ∷ 0 ∷ 0 ∷ 0 ∷ 0 ∷ 0 ∷ 0 ∷ 0 ∷ 0 ∷ 24 ∷ 0 ∷ 0 ∷ 8 ∷ 0 ∷ 53 ∷ 7 ∷ 7 ∷ 7 ∷ 0 ∷ 7 ∷ zeros 49) (zeros 4) (0 ∷ []) (zeros 8) (6 ∷ 6 ∷ 6 ∷ 3 ∷ 6 ∷ 4 ∷ 5 ∷ 1 ∷ []) (6 ∷ 4 ∷ 5 ∷ 3 ∷ 8 ∷ 8 ∷ 7 ∷ 8 ∷ 4 ∷ 5 ∷ 6 ∷ 4 ∷ [])) (Size 0) ([])) ×
    ((store 4 24 2 3 199 small_codec (state 1 (of_fields magic 8 2 (0 ∷ 0 ∷ 0 ∷ 0 ∷ 0 ∷ 0 ∷ 0 ∷ 0 ∷ 0 ∷ 0 ∷ 0 ∷ 0 ∷ 24 ∷ 0 ∷ 0 ∷ 8 ∷ 0 ∷ 53 ∷ [])) true (overlay 0 0 0 0 (0 ∷ 0 ∷ []) 0 (budget false 0 0 0 0 0))) (lent (0 ∷ 0 ∷ 0 ∷ 0 ∷ 0 ∷ 0 ∷ 0 ∷ 0 ∷ 0 ∷ 0 ∷ 0 ∷ 0 ∷ 24 ∷ 0 ∷ 0 ∷ 8 ∷ 0 ∷ 53 ∷ 7 ∷ 7 ∷ 7 ∷ 0 ∷ 7 ∷ zeros 49) (zeros 4) (4 ∷ []) (zeros 8) (6 ∷ 6 ∷ 6 ∷ 3 ∷ 6 ∷ 4 ∷ 5 ∷ 1 ∷ []) (5 ∷ 8 ∷ 3 ∷ 5 ∷ 3 ∷ 6 ∷ 1 ∷ 3 ∷ 1 ∷ 3 ∷ 2 ∷ 1 ∷ [])) (write 0 (1 ∷ 4 ∷ 7 ∷ 10 ∷ 13 ∷ 16 ∷ 19 ∷ 22 ∷ 25 ∷ 28 ∷ 31 ∷ 34 ∷ 37 ∷ [])) ≡ out (state 1 (of_fields magic 8 2 (0 ∷ 0 ∷ 0 ∷ 0 ∷ 0 ∷ 0 ∷ 0 ∷ 0 ∷ 0 ∷ 0 ∷ 0 ∷ 0 ∷ 24 ∷ 0 ∷ 0 ∷ 8 ∷ 0 ∷ 53 ∷ [])) true (overlay 0 0 1 1 (0 ∷ 0 ∷ []) 0 (budget false 0 0 0 0 0))) (lent (0 ∷ 0 ∷ 0 ∷ 0 ∷ 0 ∷ 0 ∷ 0 ∷ 0 ∷ 0 ∷ 0 ∷ 0 ∷ 0 ∷ 24 ∷ 0 ∷ 0 ∷ 8 ∷ 0 ∷ 53 ∷ 7 ∷ 7 ∷ 7 ∷ 0 ∷ 7 ∷ zeros 49) (zeros 4) (3 ∷ []) (zeros 8) (0 ∷ 4 ∷ 6 ∷ 3 ∷ 6 ∷ 4 ∷ 5 ∷ 1 ∷ []) (zeros 12)) (Refused (FramesFull)) ([])) ×
    ((store 4 24 2 3 199 small_codec (state 1 (of_fields magic 8 2 (0 ∷ 0 ∷ 0 ∷ 0 ∷ 0 ∷ 0 ∷ 0 ∷ 0 ∷ 0 ∷ 0 ∷ 0 ∷ 0 ∷ 24 ∷ 0 ∷ 0 ∷ 8 ∷ 0 ∷ 53 ∷ [])) true (overlay 0 0 1 1 (0 ∷ 0 ∷ []) 0 (budget false 0 0 0 0 0))) (lent (0 ∷ 0 ∷ 0 ∷ 0 ∷ 0 ∷ 0 ∷ 0 ∷ 0 ∷ 0 ∷ 0 ∷ 0 ∷ 0 ∷ 24 ∷ 0 ∷ 0 ∷ 8 ∷ 0 ∷ 53 ∷ 7 ∷ 7 ∷ 7 ∷ 0 ∷ 7 ∷ zeros 49) (0 ∷ 0 ∷ 0 ∷ 0 ∷ 8 ∷ 1 ∷ 3 ∷ 8 ∷ 7 ∷ 3 ∷ 6 ∷ 2 ∷ []) (3 ∷ 1 ∷ 4 ∷ []) (zeros 8) (0 ∷ 4 ∷ 5 ∷ 7 ∷ 2 ∷ 1 ∷ 3 ∷ 2 ∷ []) (2 ∷ 8 ∷ 5 ∷ 4 ∷ 8 ∷ 5 ∷ 6 ∷ 4 ∷ 8 ∷ 5 ∷ 2 ∷ 8 ∷ 1 ∷ 4 ∷ 8 ∷ 4 ∷ 8 ∷ 1 ∷ 8 ∷ 5 ∷ [])) (truncate 5) ≡ out (state 1 (of_fields magic 8 2 (0 ∷ 0 ∷ 0 ∷ 0 ∷ 0 ∷ 0 ∷ 0 ∷ 0 ∷ 0 ∷ 0 ∷ 0 ∷ 0 ∷ 24 ∷ 0 ∷ 0 ∷ 8 ∷ 0 ∷ 53 ∷ [])) true (overlay 0 5 1 2 (0 ∷ 0 ∷ []) 0 (budget false 0 0 0 0 0))) (lent (0 ∷ 0 ∷ 0 ∷ 0 ∷ 0 ∷ 0 ∷ 0 ∷ 0 ∷ 0 ∷ 0 ∷ 0 ∷ 0 ∷ 24 ∷ 0 ∷ 0 ∷ 8 ∷ 0 ∷ 53 ∷ 7 ∷ 7 ∷ 7 ∷ 0 ∷ 7 ∷ zeros 49) (0 ∷ 0 ∷ 0 ∷ 0 ∷ 0 ∷ 0 ∷ 0 ∷ 0 ∷ 7 ∷ 3 ∷ 6 ∷ 2 ∷ []) (1 ∷ 0 ∷ 4 ∷ []) (zeros 8) (0 ∷ 4 ∷ 0 ∷ 2 ∷ 2 ∷ 1 ∷ 3 ∷ 2 ∷ []) (zeros 20)) (Done) ([])) ×
    ((store 4 24 2 3 199 small_codec (state 1 (of_fields magic 8 2 (0 ∷ 0 ∷ 0 ∷ 0 ∷ 0 ∷ 0 ∷ 0 ∷ 0 ∷ 0 ∷ 0 ∷ 0 ∷ 0 ∷ 24 ∷ 0 ∷ 0 ∷ 8 ∷ 0 ∷ 53 ∷ [])) true (overlay 0 5 1 2 (0 ∷ 0 ∷ []) 0 (budget false 0 0 0 0 0))) (lent (0 ∷ 0 ∷ 0 ∷ 0 ∷ 0 ∷ 0 ∷ 0 ∷ 0 ∷ 0 ∷ 0 ∷ 0 ∷ 0 ∷ 24 ∷ 0 ∷ 0 ∷ 8 ∷ 0 ∷ 53 ∷ 7 ∷ 7 ∷ 7 ∷ 0 ∷ 7 ∷ zeros 49) (zeros 12) (1 ∷ 0 ∷ 4 ∷ []) (2 ∷ 6 ∷ 7 ∷ 6 ∷ 8 ∷ 1 ∷ 2 ∷ 6 ∷ []) (0 ∷ 4 ∷ 0 ∷ 2 ∷ 2 ∷ 1 ∷ 3 ∷ 2 ∷ []) (zeros 20)) (read 0 (6 ∷ 6 ∷ 6 ∷ 6 ∷ 6 ∷ [])) ≡ out (state 1 (of_fields magic 8 2 (0 ∷ 0 ∷ 0 ∷ 0 ∷ 0 ∷ 0 ∷ 0 ∷ 0 ∷ 0 ∷ 0 ∷ 0 ∷ 0 ∷ 24 ∷ 0 ∷ 0 ∷ 8 ∷ 0 ∷ 53 ∷ [])) true (overlay 0 5 1 2 (0 ∷ 0 ∷ []) 0 (budget false 0 0 0 0 0))) (lent (0 ∷ 0 ∷ 0 ∷ 0 ∷ 0 ∷ 0 ∷ 0 ∷ 0 ∷ 0 ∷ 0 ∷ 0 ∷ 0 ∷ 24 ∷ 0 ∷ 0 ∷ 8 ∷ 0 ∷ 53 ∷ 7 ∷ 7 ∷ 7 ∷ 0 ∷ 7 ∷ zeros 49) (zeros 12) (1 ∷ 0 ∷ 4 ∷ []) (2 ∷ 6 ∷ 7 ∷ 6 ∷ 8 ∷ 1 ∷ 2 ∷ 6 ∷ []) (0 ∷ 4 ∷ 0 ∷ 2 ∷ 2 ∷ 1 ∷ 3 ∷ 2 ∷ []) (zeros 20)) (Read true) (zeros 5)) ×
    ((store 4 24 2 3 199 small_codec (state 1 (of_fields magic 8 2 (0 ∷ 0 ∷ 0 ∷ 0 ∷ 0 ∷ 0 ∷ 0 ∷ 0 ∷ 0 ∷ 0 ∷ 0 ∷ 0 ∷ 24 ∷ 0 ∷ 0 ∷ 8 ∷ 0 ∷ 53 ∷ [])) true (overlay 0 5 1 2 (0 ∷ 0 ∷ []) 0 (budget false 0 0 0 0 0))) (lent (0 ∷ 0 ∷ 0 ∷ 0 ∷ 0 ∷ 0 ∷ 0 ∷ 0 ∷ 0 ∷ 0 ∷ 0 ∷ 0 ∷ 24 ∷ 0 ∷ 0 ∷ 8 ∷ 0 ∷ 53 ∷ 7 ∷ 7 ∷ 7 ∷ 0 ∷ 7 ∷ zeros 49) (0 ∷ 0 ∷ 0 ∷ 0 ∷ 6 ∷ 5 ∷ 3 ∷ 5 ∷ 7 ∷ 6 ∷ 7 ∷ 4 ∷ []) (1 ∷ 0 ∷ 4 ∷ []) (8 ∷ 2 ∷ 7 ∷ 6 ∷ 7 ∷ 4 ∷ 6 ∷ 2 ∷ []) (0 ∷ 4 ∷ 0 ∷ 2 ∷ 7 ∷ 3 ∷ 7 ∷ 4 ∷ []) (zeros 20)) (commit) ≡ out (state 2 (of_fields magic 8 2 (5 ∷ 0 ∷ 1 ∷ 2 ∷ 0 ∷ 0 ∷ 0 ∷ 0 ∷ 0 ∷ 0 ∷ 0 ∷ 0 ∷ 24 ∷ 0 ∷ 2 ∷ 8 ∷ 2 ∷ 163 ∷ [])) false (overlay 0 0 0 0 (0 ∷ 0 ∷ []) 0 (budget false 0 0 0 0 0))) (lent (5 ∷ 0 ∷ 1 ∷ 2 ∷ 0 ∷ 0 ∷ 0 ∷ 0 ∷ 0 ∷ 0 ∷ 0 ∷ 0 ∷ 24 ∷ 0 ∷ 2 ∷ 8 ∷ 2 ∷ 163 ∷ 0 ∷ 1 ∷ 2 ∷ 4 ∷ 7 ∷ zeros 49) (zeros 12) (zeros 3) (zeros 8) (zeros 8) (zeros 20)) (Done) ([])))))))
unfolding count filled overwrite resize growMemory requiredPages normalized within merge insert add around piece remove flatRuns additions add_one remain plan put refill tabulate add_number_if span grown_numbers image_byte image_page push_run raw over_byte budget_bytes raised touch blank copy stretch patch finish grow grow_to chop tail truncated whole_page over_write written fresh look_up sized passing marked try_touch try_patch try_finish try_grow try_grow_to try_tail try_chop try_truncate try_write frame_count entry_count wiped cached short_buffers view overlay_of put_back dirty_page stored small_codec small_sum small_decode small_runs small_load small_fresh importing stale refreshing marks after_commit after_import_begin after_import_chunk after_import_cancel after_import_finish after_refresh after_refresh_step short store_plan no_overlay image_bytes unchanged planned_runs commit_over restore do_import_begin do_import_chunk do_import_finish do_import_cancel do_export image_sum do_checksum do_refresh refresh_from do_refresh_step store outside open_image closing open'
c7 = (refl, (refl, (refl, (refl, (refl, (refl))))))

-- open: accepted (left in new page)
-- begin: accepted (left in new page)
-- write in update: 33 (left in new page)
-- write in update: accepted (left in new page)
-- read in update: accepted (left in new page)
-- commit in update: accepted (left in new page)
c8 :
    (open' 4 24 2 3 199 small_codec 2 (2 ∷ 0 ∷ 0 ∷ 0 ∷ 0 ∷ 0 ∷ 0 ∷ 0 ∷ 0 ∷ 0 ∷ 0 ∷ 0 ∷ 24 ∷ 0 ∷ 0 ∷ 8 ∷ 0 ∷ 109 ∷ 255 ∷ 7 ∷ 255 ∷ 1 ∷ 185 ∷ 69 ∷ 255 ∷ 255 ∷ 180 ∷ 53 ∷ 103 ∷ 255 ∷ 0 ∷ 0 ∷ 255 ∷ 0 ∷ 77 ∷ 184 ∷ 172 ∷ 165 ∷ 0 ∷ 10 ∷ 255 ∷ 255 ∷ 7 ∷ 1 ∷ 7 ∷ 186 ∷ 255 ∷ 210 ∷ zeros 24) ≡ opened (state 2 (of_fields magic 8 2 (2 ∷ 0 ∷ 0 ∷ 0 ∷ 0 ∷ 0 ∷ 0 ∷ 0 ∷ 0 ∷ 0 ∷ 0 ∷ 0 ∷ 24 ∷ 0 ∷ 0 ∷ 8 ∷ 0 ∷ 109 ∷ [])) false (overlay 0 0 0 0 (0 ∷ 0 ∷ []) 0 (budget false 0 0 0 0 0))) (Done) (2 ∷ 0 ∷ 0 ∷ 0 ∷ 0 ∷ 0 ∷ 0 ∷ 0 ∷ 0 ∷ 0 ∷ 0 ∷ 0 ∷ 24 ∷ 0 ∷ 0 ∷ 8 ∷ 0 ∷ 109 ∷ 255 ∷ 7 ∷ 255 ∷ 1 ∷ 185 ∷ 69 ∷ 255 ∷ 255 ∷ 180 ∷ 53 ∷ 103 ∷ 255 ∷ 0 ∷ 0 ∷ 255 ∷ 0 ∷ 77 ∷ 184 ∷ 172 ∷ 165 ∷ 0 ∷ 10 ∷ 255 ∷ 255 ∷ 7 ∷ 1 ∷ 7 ∷ 186 ∷ 255 ∷ 210 ∷ zeros 24)) ×
    ((store 4 24 2 3 199 small_codec (state 2 (of_fields magic 8 2 (2 ∷ 0 ∷ 0 ∷ 0 ∷ 0 ∷ 0 ∷ 0 ∷ 0 ∷ 0 ∷ 0 ∷ 0 ∷ 0 ∷ 24 ∷ 0 ∷ 0 ∷ 8 ∷ 0 ∷ 109 ∷ [])) false (overlay 0 0 0 0 (0 ∷ 0 ∷ []) 0 (budget false 0 0 0 0 0))) (lent (2 ∷ 0 ∷ 0 ∷ 0 ∷ 0 ∷ 0 ∷ 0 ∷ 0 ∷ 0 ∷ 0 ∷ 0 ∷ 0 ∷ 24 ∷ 0 ∷ 0 ∷ 8 ∷ 0 ∷ 109 ∷ 255 ∷ 7 ∷ 255 ∷ 1 ∷ 185 ∷ 69 ∷ 255 ∷ 255 ∷ 180 ∷ 53 ∷ 103 ∷ 255 ∷ 0 ∷ 0 ∷ 255 ∷ 0 ∷ 77 ∷ 184 ∷ 172 ∷ 165 ∷ 0 ∷ 10 ∷ 255 ∷ 255 ∷ 7 ∷ 1 ∷ 7 ∷ 186 ∷ 255 ∷ 210 ∷ zeros 24) (zeros 12) (zeros 3) (3 ∷ 7 ∷ 1 ∷ 1 ∷ 2 ∷ 8 ∷ 8 ∷ 4 ∷ []) (6 ∷ 4 ∷ 7 ∷ 2 ∷ 5 ∷ 6 ∷ 8 ∷ 5 ∷ []) (zeros 20)) (begin false 0 0) ≡ out (state 2 (of_fields magic 8 2 (2 ∷ 0 ∷ 0 ∷ 0 ∷ 0 ∷ 0 ∷ 0 ∷ 0 ∷ 0 ∷ 0 ∷ 0 ∷ 0 ∷ 24 ∷ 0 ∷ 0 ∷ 8 ∷ 0 ∷ 109 ∷ [])) true (overlay 2 2 0 0 (0 ∷ 0 ∷ []) 0 (budget false 0 0 0 0 0))) (lent (2 ∷ 0 ∷ 0 ∷ 0 ∷ 0 ∷ 0 ∷ 0 ∷ 0 ∷ 0 ∷ 0 ∷ 0 ∷ 0 ∷ 24 ∷ 0 ∷ 0 ∷ 8 ∷ 0 ∷ 109 ∷ 255 ∷ 7 ∷ 255 ∷ 1 ∷ 185 ∷ 69 ∷ 255 ∷ 255 ∷ 180 ∷ 53 ∷ 103 ∷ 255 ∷ 0 ∷ 0 ∷ 255 ∷ 0 ∷ 77 ∷ 184 ∷ 172 ∷ 165 ∷ 0 ∷ 10 ∷ 255 ∷ 255 ∷ 7 ∷ 1 ∷ 7 ∷ 186 ∷ 255 ∷ 210 ∷ zeros 24) (zeros 12) (zeros 3) (3 ∷ 7 ∷ 1 ∷ 1 ∷ 2 ∷ 8 ∷ 8 ∷ 4 ∷ []) (6 ∷ 4 ∷ 7 ∷ 2 ∷ 5 ∷ 6 ∷ 8 ∷ 5 ∷ []) (zeros 20)) (Size 2) ([])) ×
    ((store 4 24 2 3 199 small_codec (state 2 (of_fields magic 8 2 (2 ∷ 0 ∷ 0 ∷ 0 ∷ 0 ∷ 0 ∷ 0 ∷ 0 ∷ 0 ∷ 0 ∷ 0 ∷ 0 ∷ 24 ∷ 0 ∷ 0 ∷ 8 ∷ 0 ∷ 109 ∷ [])) true (overlay 2 2 0 0 (0 ∷ 0 ∷ []) 0 (budget false 0 0 0 0 0))) (lent (2 ∷ 0 ∷ 0 ∷ 0 ∷ 0 ∷ 0 ∷ 0 ∷ 0 ∷ 0 ∷ 0 ∷ 0 ∷ 0 ∷ 24 ∷ 0 ∷ 0 ∷ 8 ∷ 0 ∷ 109 ∷ 255 ∷ 7 ∷ 255 ∷ 1 ∷ 185 ∷ 69 ∷ 255 ∷ 255 ∷ 180 ∷ 53 ∷ 103 ∷ 255 ∷ 0 ∷ 0 ∷ 255 ∷ 0 ∷ 77 ∷ 184 ∷ 172 ∷ 165 ∷ 0 ∷ 10 ∷ 255 ∷ 255 ∷ 7 ∷ 1 ∷ 7 ∷ 186 ∷ 255 ∷ 210 ∷ 5 ∷ 5 ∷ 7 ∷ 7 ∷ 1 ∷ 8 ∷ 3 ∷ 6 ∷ 3 ∷ 2 ∷ 7 ∷ 1 ∷ 1 ∷ 3 ∷ 4 ∷ 8 ∷ 5 ∷ 6 ∷ 1 ∷ 7 ∷ 7 ∷ 4 ∷ 7 ∷ 5 ∷ []) (zeros 12) (zeros 3) (3 ∷ 7 ∷ 1 ∷ 1 ∷ 2 ∷ 8 ∷ 8 ∷ 4 ∷ []) (6 ∷ 4 ∷ 7 ∷ 2 ∷ 5 ∷ 6 ∷ 8 ∷ 5 ∷ []) (3 ∷ 1 ∷ 7 ∷ 4 ∷ 1 ∷ 2 ∷ 4 ∷ 6 ∷ 7 ∷ 3 ∷ 1 ∷ 4 ∷ 7 ∷ 5 ∷ 7 ∷ 2 ∷ 6 ∷ 6 ∷ 4 ∷ 2 ∷ [])) (write 1 (1 ∷ 4 ∷ 7 ∷ 10 ∷ 13 ∷ 16 ∷ 19 ∷ 22 ∷ 25 ∷ 28 ∷ 31 ∷ 34 ∷ 37 ∷ 40 ∷ 43 ∷ 46 ∷ [])) ≡ out (state 2 (of_fields magic 8 2 (2 ∷ 0 ∷ 0 ∷ 0 ∷ 0 ∷ 0 ∷ 0 ∷ 0 ∷ 0 ∷ 0 ∷ 0 ∷ 0 ∷ 24 ∷ 0 ∷ 0 ∷ 8 ∷ 0 ∷ 109 ∷ [])) true (overlay 2 2 3 1 (0 ∷ 0 ∷ []) 0 (budget false 0 0 0 0 0))) (lent (2 ∷ 0 ∷ 0 ∷ 0 ∷ 0 ∷ 0 ∷ 0 ∷ 0 ∷ 0 ∷ 0 ∷ 0 ∷ 0 ∷ 24 ∷ 0 ∷ 0 ∷ 8 ∷ 0 ∷ 109 ∷ 255 ∷ 7 ∷ 255 ∷ 1 ∷ 185 ∷ 69 ∷ 255 ∷ 255 ∷ 180 ∷ 53 ∷ 103 ∷ 255 ∷ 0 ∷ 0 ∷ 255 ∷ 0 ∷ 77 ∷ 184 ∷ 172 ∷ 165 ∷ 0 ∷ 10 ∷ 255 ∷ 255 ∷ 7 ∷ 1 ∷ 7 ∷ 186 ∷ 255 ∷ 210 ∷ 5 ∷ 5 ∷ 7 ∷ 7 ∷ 1 ∷ 8 ∷ 3 ∷ 6 ∷ 3 ∷ 2 ∷ 7 ∷ 1 ∷ 1 ∷ 3 ∷ 4 ∷ 8 ∷ 5 ∷ 6 ∷ 1 ∷ 7 ∷ 7 ∷ 4 ∷ 7 ∷ 5 ∷ []) (255 ∷ 1 ∷ 4 ∷ 7 ∷ 0 ∷ 0 ∷ 0 ∷ 0 ∷ 10 ∷ 13 ∷ 16 ∷ 19 ∷ []) (0 ∷ 4 ∷ 1 ∷ []) (3 ∷ 7 ∷ 1 ∷ 1 ∷ 2 ∷ 8 ∷ 8 ∷ 4 ∷ []) (1 ∷ 5 ∷ 7 ∷ 2 ∷ 5 ∷ 6 ∷ 8 ∷ 5 ∷ []) (zeros 20)) (Refused (FramesFull)) ([])) ×
    ((store 4 24 2 3 199 small_codec (state 2 (of_fields magic 8 2 (2 ∷ 0 ∷ 0 ∷ 0 ∷ 0 ∷ 0 ∷ 0 ∷ 0 ∷ 0 ∷ 0 ∷ 0 ∷ 0 ∷ 24 ∷ 0 ∷ 0 ∷ 8 ∷ 0 ∷ 109 ∷ [])) true (overlay 2 2 3 1 (0 ∷ 0 ∷ []) 0 (budget false 0 0 0 0 0))) (lent (2 ∷ 0 ∷ 0 ∷ 0 ∷ 0 ∷ 0 ∷ 0 ∷ 0 ∷ 0 ∷ 0 ∷ 0 ∷ 0 ∷ 24 ∷ 0 ∷ 0 ∷ 8 ∷ 0 ∷ 109 ∷ 255 ∷ 7 ∷ 255 ∷ 1 ∷ 185 ∷ 69 ∷ 255 ∷ 255 ∷ 180 ∷ 53 ∷ 103 ∷ 255 ∷ 0 ∷ 0 ∷ 255 ∷ 0 ∷ 77 ∷ 184 ∷ 172 ∷ 165 ∷ 0 ∷ 10 ∷ 255 ∷ 255 ∷ 7 ∷ 1 ∷ 7 ∷ 186 ∷ 255 ∷ 210 ∷ 5 ∷ 5 ∷ 7 ∷ 7 ∷ 1 ∷ 8 ∷ 3 ∷ 6 ∷ 3 ∷ 2 ∷ 7 ∷ 1 ∷ 1 ∷ 3 ∷ 4 ∷ 8 ∷ 5 ∷ 6 ∷ 1 ∷ 7 ∷ 7 ∷ 4 ∷ 7 ∷ 5 ∷ []) (255 ∷ 1 ∷ 4 ∷ 7 ∷ 0 ∷ 0 ∷ 0 ∷ 0 ∷ 10 ∷ 13 ∷ 16 ∷ 19 ∷ []) (0 ∷ 4 ∷ 1 ∷ []) (1 ∷ 4 ∷ 7 ∷ 7 ∷ 4 ∷ 7 ∷ 8 ∷ 3 ∷ []) (1 ∷ 5 ∷ 4 ∷ 1 ∷ 4 ∷ 7 ∷ 3 ∷ 4 ∷ []) (2 ∷ 5 ∷ 1 ∷ 4 ∷ 3 ∷ 4 ∷ 3 ∷ 2 ∷ 5 ∷ 7 ∷ 5 ∷ 2 ∷ 4 ∷ 6 ∷ 6 ∷ 5 ∷ 5 ∷ 4 ∷ 4 ∷ 3 ∷ [])) (write 5 (9 ∷ [])) ≡ out (state 2 (of_fields magic 8 2 (2 ∷ 0 ∷ 0 ∷ 0 ∷ 0 ∷ 0 ∷ 0 ∷ 0 ∷ 0 ∷ 0 ∷ 0 ∷ 0 ∷ 24 ∷ 0 ∷ 0 ∷ 8 ∷ 0 ∷ 109 ∷ [])) true (overlay 2 6 3 2 (0 ∷ 0 ∷ []) 0 (budget false 0 0 0 0 0))) (lent (2 ∷ 0 ∷ 0 ∷ 0 ∷ 0 ∷ 0 ∷ 0 ∷ 0 ∷ 0 ∷ 0 ∷ 0 ∷ 0 ∷ 24 ∷ 0 ∷ 0 ∷ 8 ∷ 0 ∷ 109 ∷ 255 ∷ 7 ∷ 255 ∷ 1 ∷ 185 ∷ 69 ∷ 255 ∷ 255 ∷ 180 ∷ 53 ∷ 103 ∷ 255 ∷ 0 ∷ 0 ∷ 255 ∷ 0 ∷ 77 ∷ 184 ∷ 172 ∷ 165 ∷ 0 ∷ 10 ∷ 255 ∷ 255 ∷ 7 ∷ 1 ∷ 7 ∷ 186 ∷ 255 ∷ 210 ∷ 5 ∷ 5 ∷ 7 ∷ 7 ∷ 1 ∷ 8 ∷ 3 ∷ 6 ∷ 3 ∷ 2 ∷ 7 ∷ 1 ∷ 1 ∷ 3 ∷ 4 ∷ 8 ∷ 5 ∷ 6 ∷ 1 ∷ 7 ∷ 7 ∷ 4 ∷ 7 ∷ 5 ∷ []) (255 ∷ 1 ∷ 0 ∷ 0 ∷ 0 ∷ 0 ∷ 0 ∷ 0 ∷ 0 ∷ 9 ∷ 16 ∷ 19 ∷ []) (0 ∷ 4 ∷ 1 ∷ []) (1 ∷ 4 ∷ 7 ∷ 7 ∷ 4 ∷ 7 ∷ 8 ∷ 3 ∷ []) (1 ∷ 5 ∷ 1 ∷ 2 ∷ 4 ∷ 7 ∷ 3 ∷ 4 ∷ []) (zeros 20)) (Done) ([])) ×
    ((store 4 24 2 3 199 small_codec (state 2 (of_fields magic 8 2 (2 ∷ 0 ∷ 0 ∷ 0 ∷ 0 ∷ 0 ∷ 0 ∷ 0 ∷ 0 ∷ 0 ∷ 0 ∷ 0 ∷ 24 ∷ 0 ∷ 0 ∷ 8 ∷ 0 ∷ 109 ∷ [])) true (overlay 2 6 3 2 (0 ∷ 0 ∷ []) 0 (budget false 0 0 0 0 0))) (lent (2 ∷ 0 ∷ 0 ∷ 0 ∷ 0 ∷ 0 ∷ 0 ∷ 0 ∷ 0 ∷ 0 ∷ 0 ∷ 0 ∷ 24 ∷ 0 ∷ 0 ∷ 8 ∷ 0 ∷ 109 ∷ 255 ∷ 7 ∷ 255 ∷ 1 ∷ 185 ∷ 69 ∷ 255 ∷ 255 ∷ 180 ∷ 53 ∷ 103 ∷ 255 ∷ 0 ∷ 0 ∷ 255 ∷ 0 ∷ 77 ∷ 184 ∷ 172 ∷ 165 ∷ 0 ∷ 10 ∷ 255 ∷ 255 ∷ 7 ∷ 1 ∷ 7 ∷ 186 ∷ 255 ∷ 210 ∷ 8 ∷ 4 ∷ 5 ∷ 1 ∷ 4 ∷ 5 ∷ 6 ∷ 2 ∷ 4 ∷ 2 ∷ 6 ∷ 5 ∷ 4 ∷ 1 ∷ 8 ∷ 1 ∷ 1 ∷ 3 ∷ 7 ∷ 7 ∷ 3 ∷ 6 ∷ 1 ∷ 4 ∷ []) (255 ∷ 1 ∷ 0 ∷ 0 ∷ 0 ∷ 0 ∷ 0 ∷ 0 ∷ 0 ∷ 9 ∷ 16 ∷ 19 ∷ []) (0 ∷ 4 ∷ 1 ∷ []) (1 ∷ 4 ∷ 7 ∷ 7 ∷ 4 ∷ 7 ∷ 8 ∷ 3 ∷ []) (1 ∷ 5 ∷ 1 ∷ 2 ∷ 6 ∷ 5 ∷ 1 ∷ 8 ∷ []) (2 ∷ 2 ∷ 8 ∷ 3 ∷ 1 ∷ 2 ∷ 1 ∷ 4 ∷ 4 ∷ 4 ∷ 3 ∷ 4 ∷ 2 ∷ 7 ∷ 2 ∷ 7 ∷ 7 ∷ 4 ∷ 5 ∷ 8 ∷ [])) (read 0 (5 ∷ 5 ∷ 5 ∷ 5 ∷ 5 ∷ 5 ∷ 5 ∷ 5 ∷ 5 ∷ [])) ≡ out (state 2 (of_fields magic 8 2 (2 ∷ 0 ∷ 0 ∷ 0 ∷ 0 ∷ 0 ∷ 0 ∷ 0 ∷ 0 ∷ 0 ∷ 0 ∷ 0 ∷ 24 ∷ 0 ∷ 0 ∷ 8 ∷ 0 ∷ 109 ∷ [])) true (overlay 2 6 3 2 (0 ∷ 0 ∷ []) 0 (budget false 0 0 0 0 0))) (lent (2 ∷ 0 ∷ 0 ∷ 0 ∷ 0 ∷ 0 ∷ 0 ∷ 0 ∷ 0 ∷ 0 ∷ 0 ∷ 0 ∷ 24 ∷ 0 ∷ 0 ∷ 8 ∷ 0 ∷ 109 ∷ 255 ∷ 7 ∷ 255 ∷ 1 ∷ 185 ∷ 69 ∷ 255 ∷ 255 ∷ 180 ∷ 53 ∷ 103 ∷ 255 ∷ 0 ∷ 0 ∷ 255 ∷ 0 ∷ 77 ∷ 184 ∷ 172 ∷ 165 ∷ 0 ∷ 10 ∷ 255 ∷ 255 ∷ 7 ∷ 1 ∷ 7 ∷ 186 ∷ 255 ∷ 210 ∷ 8 ∷ 4 ∷ 5 ∷ 1 ∷ 4 ∷ 5 ∷ 6 ∷ 2 ∷ 4 ∷ 2 ∷ 6 ∷ 5 ∷ 4 ∷ 1 ∷ 8 ∷ 1 ∷ 1 ∷ 3 ∷ 7 ∷ 7 ∷ 3 ∷ 6 ∷ 1 ∷ 4 ∷ []) (255 ∷ 1 ∷ 0 ∷ 0 ∷ 0 ∷ 0 ∷ 0 ∷ 0 ∷ 0 ∷ 9 ∷ 16 ∷ 19 ∷ []) (0 ∷ 4 ∷ 1 ∷ []) (1 ∷ 4 ∷ 7 ∷ 7 ∷ 4 ∷ 7 ∷ 8 ∷ 3 ∷ []) (1 ∷ 5 ∷ 1 ∷ 2 ∷ 6 ∷ 5 ∷ 1 ∷ 8 ∷ []) (2 ∷ 2 ∷ 8 ∷ 3 ∷ 1 ∷ 2 ∷ 1 ∷ 4 ∷ 4 ∷ 4 ∷ 3 ∷ 4 ∷ 2 ∷ 7 ∷ 2 ∷ 7 ∷ 7 ∷ 4 ∷ 5 ∷ 8 ∷ [])) (Read false) (255 ∷ 1 ∷ 0 ∷ 0 ∷ 0 ∷ 9 ∷ zeros 3)) ×
    ((store 4 24 2 3 199 small_codec (state 2 (of_fields magic 8 2 (2 ∷ 0 ∷ 0 ∷ 0 ∷ 0 ∷ 0 ∷ 0 ∷ 0 ∷ 0 ∷ 0 ∷ 0 ∷ 0 ∷ 24 ∷ 0 ∷ 0 ∷ 8 ∷ 0 ∷ 109 ∷ [])) true (overlay 2 6 3 2 (0 ∷ 0 ∷ []) 0 (budget false 0 0 0 0 0))) (lent (2 ∷ 0 ∷ 0 ∷ 0 ∷ 0 ∷ 0 ∷ 0 ∷ 0 ∷ 0 ∷ 0 ∷ 0 ∷ 0 ∷ 24 ∷ 0 ∷ 0 ∷ 8 ∷ 0 ∷ 109 ∷ 255 ∷ 7 ∷ 255 ∷ 1 ∷ 185 ∷ 69 ∷ 255 ∷ 255 ∷ 180 ∷ 53 ∷ 103 ∷ 255 ∷ 0 ∷ 0 ∷ 255 ∷ 0 ∷ 77 ∷ 184 ∷ 172 ∷ 165 ∷ 0 ∷ 10 ∷ 255 ∷ 255 ∷ 7 ∷ 1 ∷ 7 ∷ 186 ∷ 255 ∷ 210 ∷ 8 ∷ 4 ∷ 5 ∷ 1 ∷ 4 ∷ 5 ∷ 6 ∷ 2 ∷ 4 ∷ 2 ∷ 6 ∷ 5 ∷ 4 ∷ 1 ∷ 8 ∷ 1 ∷ 1 ∷ 3 ∷ 7 ∷ 7 ∷ 3 ∷ 6 ∷ 1 ∷ 4 ∷ []) (255 ∷ 1 ∷ 0 ∷ 0 ∷ 0 ∷ 0 ∷ 0 ∷ 0 ∷ 0 ∷ 9 ∷ 16 ∷ 19 ∷ []) (0 ∷ 4 ∷ 1 ∷ []) (1 ∷ 4 ∷ 7 ∷ 7 ∷ 4 ∷ 7 ∷ 8 ∷ 3 ∷ []) (1 ∷ 5 ∷ 1 ∷ 2 ∷ 6 ∷ 5 ∷ 1 ∷ 8 ∷ []) (7 ∷ 8 ∷ 2 ∷ 8 ∷ 3 ∷ 1 ∷ 1 ∷ 4 ∷ 7 ∷ 3 ∷ 1 ∷ 4 ∷ 2 ∷ 6 ∷ 7 ∷ 3 ∷ 1 ∷ 3 ∷ 4 ∷ 1 ∷ [])) (commit) ≡ out (state 2 (of_fields magic 8 2 (6 ∷ 0 ∷ 1 ∷ 2 ∷ 0 ∷ 0 ∷ 0 ∷ 0 ∷ 0 ∷ 0 ∷ 0 ∷ 0 ∷ 24 ∷ 0 ∷ 2 ∷ 8 ∷ 1 ∷ 181 ∷ [])) false (overlay 0 0 0 0 (0 ∷ 0 ∷ []) 0 (budget false 0 0 0 0 0))) (lent (6 ∷ 0 ∷ 1 ∷ 2 ∷ 0 ∷ 0 ∷ 0 ∷ 0 ∷ 0 ∷ 0 ∷ 0 ∷ 0 ∷ 24 ∷ 0 ∷ 2 ∷ 8 ∷ 1 ∷ 181 ∷ 2 ∷ 5 ∷ 255 ∷ 1 ∷ 185 ∷ 69 ∷ 255 ∷ 1 ∷ 0 ∷ 0 ∷ 0 ∷ 9 ∷ 16 ∷ 19 ∷ 255 ∷ 0 ∷ 77 ∷ 184 ∷ 172 ∷ 165 ∷ 0 ∷ 10 ∷ 255 ∷ 255 ∷ 7 ∷ 1 ∷ 7 ∷ 186 ∷ 255 ∷ 210 ∷ 8 ∷ 4 ∷ 5 ∷ 1 ∷ 4 ∷ 5 ∷ 6 ∷ 2 ∷ 4 ∷ 2 ∷ 6 ∷ 5 ∷ 4 ∷ 1 ∷ 8 ∷ 1 ∷ 1 ∷ 3 ∷ 7 ∷ 7 ∷ 3 ∷ 6 ∷ 1 ∷ 4 ∷ []) (zeros 12) (zeros 3) (zeros 8) (zeros 8) (zeros 20)) (Done) ([])))))))
unfolding count filled overwrite resize growMemory requiredPages normalized within merge insert add around piece remove flatRuns additions add_one remain plan put refill tabulate add_number_if span grown_numbers image_byte image_page push_run raw over_byte budget_bytes raised touch blank copy stretch patch finish grow grow_to chop tail truncated whole_page over_write written fresh look_up sized passing marked try_touch try_patch try_finish try_grow try_grow_to try_tail try_chop try_truncate try_write frame_count entry_count wiped cached short_buffers view overlay_of put_back dirty_page stored small_codec small_sum small_decode small_runs small_load small_fresh importing stale refreshing marks after_commit after_import_begin after_import_chunk after_import_cancel after_import_finish after_refresh after_refresh_step short store_plan no_overlay image_bytes unchanged planned_runs commit_over restore do_import_begin do_import_chunk do_import_finish do_import_cancel do_export image_sum do_checksum do_refresh refresh_from do_refresh_step store outside open_image closing open'
c8 = (refl, (refl, (refl, (refl, (refl, (refl))))))

-- begin: 13
c9 : store 2 24 3 3 95 small_codec (state 3 (of_fields magic 8 2 (2 ∷ 0 ∷ 1 ∷ 8 ∷ 25 ∷ 0 ∷ 0 ∷ 0 ∷ 0 ∷ 0 ∷ 0 ∷ 0 ∷ 48 ∷ 0 ∷ 1 ∷ 8 ∷ 0 ∷ 14 ∷ [])) true (overlay 2 2 0 0 (zeros 3) 0 (budget true 4 8 0 0 0))) (lent (2 ∷ 0 ∷ 1 ∷ 8 ∷ 25 ∷ 0 ∷ 0 ∷ 0 ∷ 0 ∷ 0 ∷ 0 ∷ 0 ∷ 48 ∷ 0 ∷ 1 ∷ 8 ∷ 0 ∷ 14 ∷ 2 ∷ 4 ∷ 8 ∷ 11 ∷ 12 ∷ 13 ∷ 254 ∷ 0 ∷ 235 ∷ 1 ∷ 1 ∷ 102 ∷ 1 ∷ 7 ∷ 255 ∷ 255 ∷ 17 ∷ 1 ∷ 1 ∷ 0 ∷ 99 ∷ 255 ∷ 255 ∷ 1 ∷ 9 ∷ 7 ∷ 7 ∷ 7 ∷ 7 ∷ 7 ∷ 210 ∷ 255 ∷ zeros 29) (8 ∷ []) ([]) (zeros 6) (zeros 7) (4 ∷ 4 ∷ 6 ∷ 5 ∷ 1 ∷ 6 ∷ 2 ∷ 2 ∷ 3 ∷ [])) (begin false 0 0) ≡ out (state 3 (of_fields magic 8 2 (2 ∷ 0 ∷ 1 ∷ 8 ∷ 25 ∷ 0 ∷ 0 ∷ 0 ∷ 0 ∷ 0 ∷ 0 ∷ 0 ∷ 48 ∷ 0 ∷ 1 ∷ 8 ∷ 0 ∷ 14 ∷ [])) true (overlay 2 2 0 0 (zeros 3) 0 (budget true 4 8 0 0 0))) (lent (2 ∷ 0 ∷ 1 ∷ 8 ∷ 25 ∷ 0 ∷ 0 ∷ 0 ∷ 0 ∷ 0 ∷ 0 ∷ 0 ∷ 48 ∷ 0 ∷ 1 ∷ 8 ∷ 0 ∷ 14 ∷ 2 ∷ 4 ∷ 8 ∷ 11 ∷ 12 ∷ 13 ∷ 254 ∷ 0 ∷ 235 ∷ 1 ∷ 1 ∷ 102 ∷ 1 ∷ 7 ∷ 255 ∷ 255 ∷ 17 ∷ 1 ∷ 1 ∷ 0 ∷ 99 ∷ 255 ∷ 255 ∷ 1 ∷ 9 ∷ 7 ∷ 7 ∷ 7 ∷ 7 ∷ 7 ∷ 210 ∷ 255 ∷ zeros 29) (8 ∷ []) ([]) (zeros 6) (zeros 7) (4 ∷ 4 ∷ 6 ∷ 5 ∷ 1 ∷ 6 ∷ 2 ∷ 2 ∷ 3 ∷ [])) (Refused (UpdateBegunTwice)) ([])
unfolding count filled overwrite resize growMemory requiredPages normalized within merge insert add around piece remove flatRuns additions add_one remain plan put refill tabulate add_number_if span grown_numbers image_byte image_page push_run raw over_byte budget_bytes raised touch blank copy stretch patch finish grow grow_to chop tail truncated whole_page over_write written fresh look_up sized passing marked try_touch try_patch try_finish try_grow try_grow_to try_tail try_chop try_truncate try_write frame_count entry_count wiped cached short_buffers view overlay_of put_back dirty_page stored small_codec small_sum small_decode small_runs small_load small_fresh importing stale refreshing marks after_commit after_import_begin after_import_chunk after_import_cancel after_import_finish after_refresh after_refresh_step short store_plan no_overlay image_bytes unchanged planned_runs commit_over restore do_import_begin do_import_chunk do_import_finish do_import_cancel do_export image_sum do_checksum do_refresh refresh_from do_refresh_step store outside open_image closing open'
c9 = refl

-- checksum: 12
-- checksum: 35
-- checksum: accepted
c10 :
    (store 2 24 3 3 95 small_codec (state 2 (of_fields magic 8 2 (2 ∷ 0 ∷ 0 ∷ 0 ∷ 89 ∷ 0 ∷ 0 ∷ 0 ∷ 0 ∷ 0 ∷ 0 ∷ 0 ∷ 24 ∷ 0 ∷ 1 ∷ 8 ∷ 0 ∷ 20 ∷ [])) true (overlay 2 8 1 4 (zeros 3) 0 (budget false 0 0 0 0 0))) (lent (2 ∷ 0 ∷ 0 ∷ 0 ∷ 89 ∷ 0 ∷ 0 ∷ 0 ∷ 0 ∷ 0 ∷ 0 ∷ 0 ∷ 24 ∷ 0 ∷ 1 ∷ 8 ∷ 0 ∷ 20 ∷ 0 ∷ 0 ∷ 0 ∷ 0 ∷ 0 ∷ 0 ∷ 255 ∷ 255 ∷ zeros 22) (1 ∷ 1 ∷ zeros 6) (3 ∷ 1 ∷ 5 ∷ 3 ∷ []) (zeros 6) (1 ∷ 5 ∷ 0 ∷ 5 ∷ 0 ∷ 2 ∷ 2 ∷ 4 ∷ zeros 4) (zeros 24)) (checksum) ≡ out (state 2 (of_fields magic 8 2 (2 ∷ 0 ∷ 0 ∷ 0 ∷ 89 ∷ 0 ∷ 0 ∷ 0 ∷ 0 ∷ 0 ∷ 0 ∷ 0 ∷ 24 ∷ 0 ∷ 1 ∷ 8 ∷ 0 ∷ 20 ∷ [])) true (overlay 2 8 1 4 (zeros 3) 0 (budget false 0 0 0 0 0))) (lent (2 ∷ 0 ∷ 0 ∷ 0 ∷ 89 ∷ 0 ∷ 0 ∷ 0 ∷ 0 ∷ 0 ∷ 0 ∷ 0 ∷ 24 ∷ 0 ∷ 1 ∷ 8 ∷ 0 ∷ 20 ∷ 0 ∷ 0 ∷ 0 ∷ 0 ∷ 0 ∷ 0 ∷ 255 ∷ 255 ∷ zeros 22) (1 ∷ 1 ∷ zeros 6) (3 ∷ 1 ∷ 5 ∷ 3 ∷ []) (zeros 6) (1 ∷ 5 ∷ 0 ∷ 5 ∷ 0 ∷ 2 ∷ 2 ∷ 4 ∷ zeros 4) (zeros 24)) (Refused (UpdateInProgress)) ([])) ×
    ((store 2 24 2 3 199 small_codec (state 1 (of_fields magic 8 2 (0 ∷ 0 ∷ 0 ∷ 0 ∷ 1 ∷ 0 ∷ 0 ∷ 0 ∷ 0 ∷ 0 ∷ 0 ∷ 0 ∷ 24 ∷ 0 ∷ 0 ∷ 8 ∷ 0 ∷ 184 ∷ [])) true (overlay 0 6 1 4 (0 ∷ 0 ∷ []) 0 (budget false 0 0 0 0 0))) (lent (0 ∷ 0 ∷ 0 ∷ 0 ∷ 1 ∷ 0 ∷ 0 ∷ 0 ∷ 0 ∷ 0 ∷ 0 ∷ 0 ∷ 24 ∷ 0 ∷ 0 ∷ 8 ∷ 0 ∷ 184 ∷ zeros 5) (0 ∷ 0 ∷ []) (2 ∷ []) (4 ∷ 2 ∷ 2 ∷ 3 ∷ []) (0 ∷ 10 ∷ 0 ∷ 6 ∷ 0 ∷ 1 ∷ 0 ∷ 3 ∷ 7 ∷ 3 ∷ 6 ∷ 1 ∷ []) (5 ∷ 7 ∷ 6 ∷ 5 ∷ 8 ∷ 8 ∷ 1 ∷ 8 ∷ 2 ∷ 4 ∷ 3 ∷ 2 ∷ [])) (checksum) ≡ out (state 1 (of_fields magic 8 2 (0 ∷ 0 ∷ 0 ∷ 0 ∷ 1 ∷ 0 ∷ 0 ∷ 0 ∷ 0 ∷ 0 ∷ 0 ∷ 0 ∷ 24 ∷ 0 ∷ 0 ∷ 8 ∷ 0 ∷ 184 ∷ [])) true (overlay 0 6 1 4 (0 ∷ 0 ∷ []) 0 (budget false 0 0 0 0 0))) (lent (0 ∷ 0 ∷ 0 ∷ 0 ∷ 1 ∷ 0 ∷ 0 ∷ 0 ∷ 0 ∷ 0 ∷ 0 ∷ 0 ∷ 24 ∷ 0 ∷ 0 ∷ 8 ∷ 0 ∷ 184 ∷ zeros 5) (0 ∷ 0 ∷ []) (2 ∷ []) (4 ∷ 2 ∷ 2 ∷ 3 ∷ []) (0 ∷ 10 ∷ 0 ∷ 6 ∷ 0 ∷ 1 ∷ 0 ∷ 3 ∷ 7 ∷ 3 ∷ 6 ∷ 1 ∷ []) (5 ∷ 7 ∷ 6 ∷ 5 ∷ 8 ∷ 8 ∷ 1 ∷ 8 ∷ 2 ∷ 4 ∷ 3 ∷ 2 ∷ [])) (Refused (BufferTooShort)) ([])) ×
    ((store 4 24 2 3 199 small_codec (state 2 (of_fields magic 8 2 (8 ∷ 0 ∷ 1 ∷ 2 ∷ 0 ∷ 0 ∷ 0 ∷ 0 ∷ 0 ∷ 0 ∷ 0 ∷ 0 ∷ 24 ∷ 0 ∷ 2 ∷ 8 ∷ 1 ∷ 189 ∷ [])) false (overlay 0 0 0 0 (0 ∷ 0 ∷ []) 0 (budget false 0 0 0 0 0))) (lent (8 ∷ 0 ∷ 1 ∷ 2 ∷ 0 ∷ 0 ∷ 0 ∷ 0 ∷ 0 ∷ 0 ∷ 0 ∷ 0 ∷ 24 ∷ 0 ∷ 2 ∷ 8 ∷ 1 ∷ 189 ∷ 0 ∷ 44 ∷ zeros 28) (zeros 4) (8 ∷ []) (zeros 8) (0 ∷ 0 ∷ []) (8 ∷ 3 ∷ 5 ∷ 6 ∷ 5 ∷ 5 ∷ 1 ∷ 3 ∷ 7 ∷ 3 ∷ 2 ∷ 6 ∷ [])) (checksum) ≡ out (state 2 (of_fields magic 8 2 (8 ∷ 0 ∷ 1 ∷ 2 ∷ 0 ∷ 0 ∷ 0 ∷ 0 ∷ 0 ∷ 0 ∷ 0 ∷ 0 ∷ 24 ∷ 0 ∷ 2 ∷ 8 ∷ 1 ∷ 189 ∷ [])) false (overlay 0 0 0 0 (0 ∷ 0 ∷ []) 0 (budget false 0 0 0 0 0))) (lent (8 ∷ 0 ∷ 1 ∷ 2 ∷ 0 ∷ 0 ∷ 0 ∷ 0 ∷ 0 ∷ 0 ∷ 0 ∷ 0 ∷ 24 ∷ 0 ∷ 2 ∷ 8 ∷ 1 ∷ 189 ∷ 0 ∷ 44 ∷ zeros 28) (zeros 4) (8 ∷ []) (zeros 8) (0 ∷ 0 ∷ []) (8 ∷ 3 ∷ 5 ∷ 6 ∷ 5 ∷ 5 ∷ 1 ∷ 3 ∷ 7 ∷ 3 ∷ 2 ∷ 6 ∷ [])) (Checksum 56) ([]))))
unfolding count filled overwrite resize growMemory requiredPages normalized within merge insert add around piece remove flatRuns additions add_one remain plan put refill tabulate add_number_if span grown_numbers image_byte image_page push_run raw over_byte budget_bytes raised touch blank copy stretch patch finish grow grow_to chop tail truncated whole_page over_write written fresh look_up sized passing marked try_touch try_patch try_finish try_grow try_grow_to try_tail try_chop try_truncate try_write frame_count entry_count wiped cached short_buffers view overlay_of put_back dirty_page stored small_codec small_sum small_decode small_runs small_load small_fresh importing stale refreshing marks after_commit after_import_begin after_import_chunk after_import_cancel after_import_finish after_refresh after_refresh_step short store_plan no_overlay image_bytes unchanged planned_runs commit_over restore do_import_begin do_import_chunk do_import_finish do_import_cancel do_export image_sum do_checksum do_refresh refresh_from do_refresh_step store outside open_image closing open'
c10 = (refl, (refl, (refl)))

-- commit direct: 35
-- commit direct: accepted
c11 :
    (store 2 24 2 3 199 small_codec (state 3 (of_fields magic 8 2 (38 ∷ 0 ∷ 2 ∷ 3 ∷ 0 ∷ 9 ∷ 0 ∷ 1 ∷ 72 ∷ 0 ∷ 0 ∷ 0 ∷ 24 ∷ 0 ∷ 19 ∷ 8 ∷ 3 ∷ 95 ∷ [])) false (overlay 0 0 0 0 (0 ∷ 0 ∷ []) 0 (budget false 0 0 0 0 0))) (lent (38 ∷ 0 ∷ 2 ∷ 3 ∷ 0 ∷ 9 ∷ 0 ∷ 1 ∷ 72 ∷ 0 ∷ 0 ∷ 0 ∷ 24 ∷ 0 ∷ 19 ∷ 8 ∷ 3 ∷ 95 ∷ 0 ∷ 16 ∷ 17 ∷ 18 ∷ 19 ∷ 26 ∷ 0 ∷ 0 ∷ 0 ∷ 0 ∷ 0 ∷ 0 ∷ 0 ∷ 0 ∷ 0 ∷ 0 ∷ 0 ∷ 0 ∷ 0 ∷ 0 ∷ 0 ∷ 0 ∷ 0 ∷ 0 ∷ 0 ∷ 0 ∷ 0 ∷ 0 ∷ 0 ∷ 0 ∷ 0 ∷ 0 ∷ 0 ∷ 0 ∷ 0 ∷ 0 ∷ 0 ∷ 0 ∷ 7 ∷ 0 ∷ 0 ∷ 0 ∷ 7 ∷ 1 ∷ zeros 10) ([]) ([]) (8 ∷ 3 ∷ 6 ∷ 5 ∷ []) ([]) (5 ∷ 6 ∷ 1 ∷ 2 ∷ 5 ∷ 5 ∷ 1 ∷ [])) (commit) ≡ out (state 3 (of_fields magic 8 2 (38 ∷ 0 ∷ 2 ∷ 3 ∷ 0 ∷ 9 ∷ 0 ∷ 1 ∷ 72 ∷ 0 ∷ 0 ∷ 0 ∷ 24 ∷ 0 ∷ 19 ∷ 8 ∷ 3 ∷ 95 ∷ [])) false (overlay 0 0 0 0 (0 ∷ 0 ∷ []) 0 (budget false 0 0 0 0 0))) (lent (38 ∷ 0 ∷ 2 ∷ 3 ∷ 0 ∷ 9 ∷ 0 ∷ 1 ∷ 72 ∷ 0 ∷ 0 ∷ 0 ∷ 24 ∷ 0 ∷ 19 ∷ 8 ∷ 3 ∷ 95 ∷ 0 ∷ 16 ∷ 17 ∷ 18 ∷ 19 ∷ 26 ∷ 0 ∷ 0 ∷ 0 ∷ 0 ∷ 0 ∷ 0 ∷ 0 ∷ 0 ∷ 0 ∷ 0 ∷ 0 ∷ 0 ∷ 0 ∷ 0 ∷ 0 ∷ 0 ∷ 0 ∷ 0 ∷ 0 ∷ 0 ∷ 0 ∷ 0 ∷ 0 ∷ 0 ∷ 0 ∷ 0 ∷ 0 ∷ 0 ∷ 0 ∷ 0 ∷ 0 ∷ 0 ∷ 7 ∷ 0 ∷ 0 ∷ 0 ∷ 7 ∷ 1 ∷ zeros 10) ([]) ([]) (8 ∷ 3 ∷ 6 ∷ 5 ∷ []) ([]) (5 ∷ 6 ∷ 1 ∷ 2 ∷ 5 ∷ 5 ∷ 1 ∷ [])) (Refused (BufferTooShort)) ([])) ×
    ((store 2 24 3 3 95 small_codec (state 1 (of_fields magic 8 2 (0 ∷ 0 ∷ 1 ∷ 2 ∷ 0 ∷ 0 ∷ 0 ∷ 0 ∷ 0 ∷ 0 ∷ 0 ∷ 0 ∷ 24 ∷ 0 ∷ 0 ∷ 8 ∷ 1 ∷ 186 ∷ [])) false (overlay 0 0 0 0 (zeros 3) 0 (budget false 0 0 0 0 0))) (lent (0 ∷ 0 ∷ 1 ∷ 2 ∷ 0 ∷ 0 ∷ 0 ∷ 0 ∷ 0 ∷ 0 ∷ 0 ∷ 0 ∷ 24 ∷ 0 ∷ 0 ∷ 8 ∷ 1 ∷ 186 ∷ 0 ∷ 6 ∷ zeros 76) (0 ∷ 0 ∷ []) (0 ∷ []) (8 ∷ 2 ∷ 5 ∷ 8 ∷ 2 ∷ 8 ∷ []) (4 ∷ 7 ∷ []) (zeros 12)) (commit) ≡ out (state 1 (of_fields magic 8 2 (0 ∷ 0 ∷ 1 ∷ 2 ∷ 0 ∷ 0 ∷ 0 ∷ 0 ∷ 0 ∷ 0 ∷ 0 ∷ 0 ∷ 24 ∷ 0 ∷ 0 ∷ 8 ∷ 1 ∷ 186 ∷ [])) false (overlay 0 0 0 0 (zeros 3) 0 (budget false 0 0 0 0 0))) (lent (0 ∷ 0 ∷ 1 ∷ 2 ∷ 0 ∷ 0 ∷ 0 ∷ 0 ∷ 0 ∷ 0 ∷ 0 ∷ 0 ∷ 24 ∷ 0 ∷ 0 ∷ 8 ∷ 1 ∷ 186 ∷ 0 ∷ 6 ∷ zeros 76) (0 ∷ 0 ∷ []) (0 ∷ []) (8 ∷ 2 ∷ 5 ∷ 8 ∷ 2 ∷ 8 ∷ []) (4 ∷ 7 ∷ []) (zeros 12)) (Done) ([])))
unfolding count filled overwrite resize growMemory requiredPages normalized within merge insert add around piece remove flatRuns additions add_one remain plan put refill tabulate add_number_if span grown_numbers image_byte image_page push_run raw over_byte budget_bytes raised touch blank copy stretch patch finish grow grow_to chop tail truncated whole_page over_write written fresh look_up sized passing marked try_touch try_patch try_finish try_grow try_grow_to try_tail try_chop try_truncate try_write frame_count entry_count wiped cached short_buffers view overlay_of put_back dirty_page stored small_codec small_sum small_decode small_runs small_load small_fresh importing stale refreshing marks after_commit after_import_begin after_import_chunk after_import_cancel after_import_finish after_refresh after_refresh_step short store_plan no_overlay image_bytes unchanged planned_runs commit_over restore do_import_begin do_import_chunk do_import_finish do_import_cancel do_export image_sum do_checksum do_refresh refresh_from do_refresh_step store outside open_image closing open'
c11 = (refl, (refl))

-- commit in update: 20
-- commit in update: 32
-- commit in update: 35
c12 :
    (store 2 24 2 3 199 small_codec (state 2 (of_fields magic 8 2 (23 ∷ 0 ∷ 1 ∷ 2 ∷ 0 ∷ 0 ∷ 0 ∷ 0 ∷ 0 ∷ 0 ∷ 0 ∷ 0 ∷ 24 ∷ 0 ∷ 12 ∷ 8 ∷ 2 ∷ 152 ∷ [])) true (overlay 23 176 1 5 (0 ∷ 0 ∷ []) 0 (budget true 1 2 1 1 2))) (lent (23 ∷ 0 ∷ 1 ∷ 2 ∷ 0 ∷ 0 ∷ 0 ∷ 0 ∷ 0 ∷ 0 ∷ 0 ∷ 0 ∷ 24 ∷ 0 ∷ 12 ∷ 8 ∷ 2 ∷ 152 ∷ 0 ∷ 11 ∷ 12 ∷ 100 ∷ zeros 26) (0 ∷ 0 ∷ 8 ∷ []) (2 ∷ 0 ∷ 0 ∷ []) (zeros 7) (12 ∷ 76 ∷ 3 ∷ 76 ∷ 3 ∷ 19 ∷ 3 ∷ 4 ∷ 3 ∷ 88 ∷ 0 ∷ 0 ∷ 7 ∷ 1 ∷ 1 ∷ []) (3 ∷ 3 ∷ 3 ∷ 4 ∷ 8 ∷ 3 ∷ 8 ∷ 6 ∷ 3 ∷ 3 ∷ 7 ∷ 8 ∷ 7 ∷ 3 ∷ 2 ∷ 4 ∷ [])) (commit) ≡ out (state 2 (of_fields magic 8 2 (23 ∷ 0 ∷ 1 ∷ 2 ∷ 0 ∷ 0 ∷ 0 ∷ 0 ∷ 0 ∷ 0 ∷ 0 ∷ 0 ∷ 24 ∷ 0 ∷ 12 ∷ 8 ∷ 2 ∷ 152 ∷ [])) false (overlay 0 0 0 0 (0 ∷ 0 ∷ []) 0 (budget false 0 0 0 0 0))) (lent (23 ∷ 0 ∷ 1 ∷ 2 ∷ 0 ∷ 0 ∷ 0 ∷ 0 ∷ 0 ∷ 0 ∷ 0 ∷ 0 ∷ 24 ∷ 0 ∷ 12 ∷ 8 ∷ 2 ∷ 152 ∷ 0 ∷ 11 ∷ 12 ∷ 100 ∷ zeros 26) (zeros 3) (zeros 3) (zeros 7) (zeros 15) (zeros 16)) (Refused (OffsetOverflow)) ([])) ×
    ((store 4 24 2 3 199 small_codec (state 3 (of_fields magic 8 2 (0 ∷ 0 ∷ 1 ∷ 0 ∷ 1 ∷ 0 ∷ 0 ∷ 0 ∷ 0 ∷ 0 ∷ 0 ∷ 0 ∷ 72 ∷ 0 ∷ 0 ∷ 8 ∷ 0 ∷ 116 ∷ [])) true (overlay 0 9 1 1 (0 ∷ 0 ∷ []) 0 (budget true 3 199 0 1 4))) (lent (0 ∷ 0 ∷ 1 ∷ 0 ∷ 1 ∷ 0 ∷ 0 ∷ 0 ∷ 0 ∷ 0 ∷ 0 ∷ 0 ∷ 72 ∷ 0 ∷ 0 ∷ 8 ∷ 0 ∷ 116 ∷ 1 ∷ 4 ∷ 7 ∷ 10 ∷ 7 ∷ 10 ∷ 0 ∷ 255 ∷ 0 ∷ 1 ∷ 1 ∷ 221 ∷ 255 ∷ 255 ∷ 22 ∷ 0 ∷ 255 ∷ 7 ∷ 7 ∷ 251 ∷ 95 ∷ 7 ∷ 1 ∷ 255 ∷ 146 ∷ zeros 29) (zeros 4) (2 ∷ []) (zeros 8) (0 ∷ 3 ∷ zeros 10) (3 ∷ 1 ∷ 5 ∷ 2 ∷ 4 ∷ 5 ∷ 3 ∷ 4 ∷ 3 ∷ 4 ∷ 1 ∷ 3 ∷ [])) (commit) ≡ out (state 3 (of_fields magic 8 2 (0 ∷ 0 ∷ 1 ∷ 0 ∷ 1 ∷ 0 ∷ 0 ∷ 0 ∷ 0 ∷ 0 ∷ 0 ∷ 0 ∷ 72 ∷ 0 ∷ 0 ∷ 8 ∷ 0 ∷ 116 ∷ [])) false (overlay 0 0 0 0 (0 ∷ 0 ∷ []) 0 (budget false 0 0 0 0 0))) (lent (0 ∷ 0 ∷ 1 ∷ 0 ∷ 1 ∷ 0 ∷ 0 ∷ 0 ∷ 0 ∷ 0 ∷ 0 ∷ 0 ∷ 72 ∷ 0 ∷ 0 ∷ 8 ∷ 0 ∷ 116 ∷ 1 ∷ 4 ∷ 7 ∷ 10 ∷ 7 ∷ 10 ∷ 0 ∷ 255 ∷ 0 ∷ 1 ∷ 1 ∷ 221 ∷ 255 ∷ 255 ∷ 22 ∷ 0 ∷ 255 ∷ 7 ∷ 7 ∷ 251 ∷ 95 ∷ 7 ∷ 1 ∷ 255 ∷ 146 ∷ zeros 29) (zeros 4) (0 ∷ []) (zeros 8) (zeros 12) (zeros 12)) (Refused (GrowFailed (stable 3) (stable 4))) ([])) ×
    ((store 2 24 3 3 95 small_codec (state 2 (of_fields magic 8 2 (2 ∷ 0 ∷ 0 ∷ 0 ∷ 89 ∷ 0 ∷ 0 ∷ 0 ∷ 0 ∷ 0 ∷ 0 ∷ 0 ∷ 24 ∷ 0 ∷ 1 ∷ 8 ∷ 0 ∷ 20 ∷ [])) true (overlay 2 4 0 3 (zeros 3) 0 (budget false 0 0 0 0 0))) (lent (2 ∷ 0 ∷ 0 ∷ 0 ∷ 89 ∷ 0 ∷ 0 ∷ 0 ∷ 0 ∷ 0 ∷ 0 ∷ 0 ∷ 24 ∷ 0 ∷ 1 ∷ 8 ∷ 0 ∷ 20 ∷ 0 ∷ 0 ∷ 0 ∷ 0 ∷ 0 ∷ 0 ∷ 255 ∷ 255 ∷ zeros 22) (2 ∷ 2 ∷ 8 ∷ 2 ∷ 7 ∷ 5 ∷ 7 ∷ 8 ∷ []) (zeros 4) (zeros 6) (1 ∷ 5 ∷ 0 ∷ 5 ∷ 0 ∷ []) (zeros 23)) (commit) ≡ out (state 2 (of_fields magic 8 2 (2 ∷ 0 ∷ 0 ∷ 0 ∷ 89 ∷ 0 ∷ 0 ∷ 0 ∷ 0 ∷ 0 ∷ 0 ∷ 0 ∷ 24 ∷ 0 ∷ 1 ∷ 8 ∷ 0 ∷ 20 ∷ [])) true (overlay 2 4 0 3 (zeros 3) 0 (budget false 0 0 0 0 0))) (lent (2 ∷ 0 ∷ 0 ∷ 0 ∷ 89 ∷ 0 ∷ 0 ∷ 0 ∷ 0 ∷ 0 ∷ 0 ∷ 0 ∷ 24 ∷ 0 ∷ 1 ∷ 8 ∷ 0 ∷ 20 ∷ 0 ∷ 0 ∷ 0 ∷ 0 ∷ 0 ∷ 0 ∷ 255 ∷ 255 ∷ zeros 22) (2 ∷ 2 ∷ 8 ∷ 2 ∷ 7 ∷ 5 ∷ 7 ∷ 8 ∷ []) (zeros 4) (zeros 6) (1 ∷ 5 ∷ 0 ∷ 5 ∷ 0 ∷ []) (zeros 23)) (Refused (BufferTooShort)) ([]))))
unfolding count filled overwrite resize growMemory requiredPages normalized within merge insert add around piece remove flatRuns additions add_one remain plan put refill tabulate add_number_if span grown_numbers image_byte image_page push_run raw over_byte budget_bytes raised touch blank copy stretch patch finish grow grow_to chop tail truncated whole_page over_write written fresh look_up sized passing marked try_touch try_patch try_finish try_grow try_grow_to try_tail try_chop try_truncate try_write frame_count entry_count wiped cached short_buffers view overlay_of put_back dirty_page stored small_codec small_sum small_decode small_runs small_load small_fresh importing stale refreshing marks after_commit after_import_begin after_import_chunk after_import_cancel after_import_finish after_refresh after_refresh_step short store_plan no_overlay image_bytes unchanged planned_runs commit_over restore do_import_begin do_import_chunk do_import_finish do_import_cancel do_export image_sum do_checksum do_refresh refresh_from do_refresh_step store outside open_image closing open'
c12 = (refl, (refl, (refl)))

-- export: 35
-- export: accepted
c13 :
    (store 4 24 2 3 199 small_codec (state 1 (of_fields magic 8 2 (0 ∷ 0 ∷ 0 ∷ 0 ∷ 0 ∷ 0 ∷ 0 ∷ 0 ∷ 0 ∷ 0 ∷ 0 ∷ 0 ∷ 24 ∷ 0 ∷ 0 ∷ 8 ∷ 0 ∷ 53 ∷ [])) true (overlay 0 0 0 0 (0 ∷ 0 ∷ []) 0 (budget true 4 16 0 0 0))) (lent (0 ∷ 0 ∷ 0 ∷ 0 ∷ 0 ∷ 0 ∷ 0 ∷ 0 ∷ 0 ∷ 0 ∷ 0 ∷ 0 ∷ 24 ∷ 0 ∷ 0 ∷ 8 ∷ 0 ∷ 53 ∷ zeros 4) (8 ∷ 1 ∷ 2 ∷ 7 ∷ 7 ∷ 2 ∷ 3 ∷ 8 ∷ 8 ∷ 3 ∷ 3 ∷ 6 ∷ []) (zeros 3) (4 ∷ 2 ∷ 8 ∷ 2 ∷ 5 ∷ 3 ∷ 4 ∷ 1 ∷ []) (1 ∷ 5 ∷ 7 ∷ 4 ∷ 3 ∷ 8 ∷ 5 ∷ 2 ∷ 3 ∷ 8 ∷ 5 ∷ 4 ∷ []) (6 ∷ 8 ∷ 7 ∷ 3 ∷ 1 ∷ 3 ∷ 7 ∷ 8 ∷ 1 ∷ 5 ∷ 3 ∷ 6 ∷ 6 ∷ 6 ∷ 1 ∷ 3 ∷ 6 ∷ 4 ∷ 4 ∷ 6 ∷ [])) (export 9 (255 ∷ 255 ∷ 0 ∷ 1 ∷ 1 ∷ [])) ≡ out (state 1 (of_fields magic 8 2 (0 ∷ 0 ∷ 0 ∷ 0 ∷ 0 ∷ 0 ∷ 0 ∷ 0 ∷ 0 ∷ 0 ∷ 0 ∷ 0 ∷ 24 ∷ 0 ∷ 0 ∷ 8 ∷ 0 ∷ 53 ∷ [])) true (overlay 0 0 0 0 (0 ∷ 0 ∷ []) 0 (budget true 4 16 0 0 0))) (lent (0 ∷ 0 ∷ 0 ∷ 0 ∷ 0 ∷ 0 ∷ 0 ∷ 0 ∷ 0 ∷ 0 ∷ 0 ∷ 0 ∷ 24 ∷ 0 ∷ 0 ∷ 8 ∷ 0 ∷ 53 ∷ zeros 4) (8 ∷ 1 ∷ 2 ∷ 7 ∷ 7 ∷ 2 ∷ 3 ∷ 8 ∷ 8 ∷ 3 ∷ 3 ∷ 6 ∷ []) (zeros 3) (4 ∷ 2 ∷ 8 ∷ 2 ∷ 5 ∷ 3 ∷ 4 ∷ 1 ∷ []) (1 ∷ 5 ∷ 7 ∷ 4 ∷ 3 ∷ 8 ∷ 5 ∷ 2 ∷ 3 ∷ 8 ∷ 5 ∷ 4 ∷ []) (6 ∷ 8 ∷ 7 ∷ 3 ∷ 1 ∷ 3 ∷ 7 ∷ 8 ∷ 1 ∷ 5 ∷ 3 ∷ 6 ∷ 6 ∷ 6 ∷ 1 ∷ 3 ∷ 6 ∷ 4 ∷ 4 ∷ 6 ∷ [])) (Refused (BufferTooShort)) (255 ∷ 255 ∷ 0 ∷ 1 ∷ 1 ∷ [])) ×
    ((store 4 24 2 3 199 small_codec (state 2 (of_fields magic 8 2 (8 ∷ 0 ∷ 1 ∷ 2 ∷ 0 ∷ 0 ∷ 0 ∷ 0 ∷ 0 ∷ 0 ∷ 0 ∷ 0 ∷ 24 ∷ 0 ∷ 2 ∷ 8 ∷ 1 ∷ 189 ∷ [])) false (overlay 0 0 0 0 (0 ∷ 0 ∷ []) 0 (budget false 0 0 0 0 0))) (lent (8 ∷ 0 ∷ 1 ∷ 2 ∷ 0 ∷ 0 ∷ 0 ∷ 0 ∷ 0 ∷ 0 ∷ 0 ∷ 0 ∷ 24 ∷ 0 ∷ 2 ∷ 8 ∷ 1 ∷ 189 ∷ 0 ∷ 44 ∷ zeros 35) (zeros 19) (8 ∷ zeros 5) (5 ∷ 4 ∷ 4 ∷ 7 ∷ 8 ∷ 7 ∷ 8 ∷ 2 ∷ 1 ∷ []) (zeros 4) (zeros 28)) (export 28 (7 ∷ 1 ∷ 1 ∷ 7 ∷ 7 ∷ 7 ∷ 1 ∷ 0 ∷ [])) ≡ out (state 2 (of_fields magic 8 2 (8 ∷ 0 ∷ 1 ∷ 2 ∷ 0 ∷ 0 ∷ 0 ∷ 0 ∷ 0 ∷ 0 ∷ 0 ∷ 0 ∷ 24 ∷ 0 ∷ 2 ∷ 8 ∷ 1 ∷ 189 ∷ [])) false (overlay 0 0 0 0 (0 ∷ 0 ∷ []) 0 (budget false 0 0 0 0 0))) (lent (8 ∷ 0 ∷ 1 ∷ 2 ∷ 0 ∷ 0 ∷ 0 ∷ 0 ∷ 0 ∷ 0 ∷ 0 ∷ 0 ∷ 24 ∷ 0 ∷ 2 ∷ 8 ∷ 1 ∷ 189 ∷ 0 ∷ 44 ∷ zeros 35) (zeros 19) (8 ∷ zeros 5) (5 ∷ 4 ∷ 4 ∷ 7 ∷ 8 ∷ 7 ∷ 8 ∷ 2 ∷ 1 ∷ []) (zeros 4) (zeros 28)) (Exported 0) (7 ∷ 1 ∷ 1 ∷ 7 ∷ 7 ∷ 7 ∷ 1 ∷ 0 ∷ [])))
unfolding count filled overwrite resize growMemory requiredPages normalized within merge insert add around piece remove flatRuns additions add_one remain plan put refill tabulate add_number_if span grown_numbers image_byte image_page push_run raw over_byte budget_bytes raised touch blank copy stretch patch finish grow grow_to chop tail truncated whole_page over_write written fresh look_up sized passing marked try_touch try_patch try_finish try_grow try_grow_to try_tail try_chop try_truncate try_write frame_count entry_count wiped cached short_buffers view overlay_of put_back dirty_page stored small_codec small_sum small_decode small_runs small_load small_fresh importing stale refreshing marks after_commit after_import_begin after_import_chunk after_import_cancel after_import_finish after_refresh after_refresh_step short store_plan no_overlay image_bytes unchanged planned_runs commit_over restore do_import_begin do_import_chunk do_import_finish do_import_cancel do_export image_sum do_checksum do_refresh refresh_from do_refresh_step store outside open_image closing open'
c13 = (refl, (refl))

-- file_size: accepted
c14 : store 4 24 2 3 199 small_codec (state 1 (of_fields magic 8 2 (0 ∷ 0 ∷ 0 ∷ 0 ∷ 0 ∷ 0 ∷ 0 ∷ 0 ∷ 0 ∷ 0 ∷ 0 ∷ 0 ∷ 24 ∷ 0 ∷ 0 ∷ 8 ∷ 0 ∷ 53 ∷ [])) true (overlay 0 8 0 2 (0 ∷ 0 ∷ []) 0 (budget true 0 0 1 0 0))) (lent (0 ∷ 0 ∷ 0 ∷ 0 ∷ 0 ∷ 0 ∷ 0 ∷ 0 ∷ 0 ∷ 0 ∷ 0 ∷ 0 ∷ 24 ∷ 0 ∷ 0 ∷ 8 ∷ 0 ∷ 53 ∷ zeros 30) (8 ∷ 6 ∷ 3 ∷ 3 ∷ []) ([]) (zeros 8) (0 ∷ 44 ∷ 2 ∷ 44 ∷ []) (8 ∷ 7 ∷ 5 ∷ 3 ∷ 8 ∷ 8 ∷ 7 ∷ 1 ∷ [])) (file_size) ≡ out (state 1 (of_fields magic 8 2 (0 ∷ 0 ∷ 0 ∷ 0 ∷ 0 ∷ 0 ∷ 0 ∷ 0 ∷ 0 ∷ 0 ∷ 0 ∷ 0 ∷ 24 ∷ 0 ∷ 0 ∷ 8 ∷ 0 ∷ 53 ∷ [])) true (overlay 0 8 0 2 (0 ∷ 0 ∷ []) 0 (budget true 0 0 1 0 0))) (lent (0 ∷ 0 ∷ 0 ∷ 0 ∷ 0 ∷ 0 ∷ 0 ∷ 0 ∷ 0 ∷ 0 ∷ 0 ∷ 0 ∷ 24 ∷ 0 ∷ 0 ∷ 8 ∷ 0 ∷ 53 ∷ zeros 30) (8 ∷ 6 ∷ 3 ∷ 3 ∷ []) ([]) (zeros 8) (0 ∷ 44 ∷ 2 ∷ 44 ∷ []) (8 ∷ 7 ∷ 5 ∷ 3 ∷ 8 ∷ 8 ∷ 7 ∷ 1 ∷ [])) (Size 8) ([])
unfolding count filled overwrite resize growMemory requiredPages normalized within merge insert add around piece remove flatRuns additions add_one remain plan put refill tabulate add_number_if span grown_numbers image_byte image_page push_run raw over_byte budget_bytes raised touch blank copy stretch patch finish grow grow_to chop tail truncated whole_page over_write written fresh look_up sized passing marked try_touch try_patch try_finish try_grow try_grow_to try_tail try_chop try_truncate try_write frame_count entry_count wiped cached short_buffers view overlay_of put_back dirty_page stored small_codec small_sum small_decode small_runs small_load small_fresh importing stale refreshing marks after_commit after_import_begin after_import_chunk after_import_cancel after_import_finish after_refresh after_refresh_step short store_plan no_overlay image_bytes unchanged planned_runs commit_over restore do_import_begin do_import_chunk do_import_finish do_import_cancel do_export image_sum do_checksum do_refresh refresh_from do_refresh_step store outside open_image closing open'
c14 = refl

-- import_begin: 20
-- import_begin: 35
c15 :
    (store 2 24 2 3 199 small_codec (state 1 (of_fields magic 8 2 (0 ∷ 0 ∷ 0 ∷ 0 ∷ 0 ∷ 0 ∷ 0 ∷ 0 ∷ 0 ∷ 0 ∷ 0 ∷ 0 ∷ 24 ∷ 0 ∷ 0 ∷ 8 ∷ 0 ∷ 53 ∷ [])) false (overlay 0 0 0 0 (0 ∷ 0 ∷ []) 0 (budget false 0 0 0 0 0))) (lent (0 ∷ 0 ∷ 0 ∷ 0 ∷ 0 ∷ 0 ∷ 0 ∷ 0 ∷ 0 ∷ 0 ∷ 0 ∷ 0 ∷ 24 ∷ 0 ∷ 0 ∷ 8 ∷ 0 ∷ 53 ∷ 0 ∷ 0 ∷ 0 ∷ 0 ∷ 0 ∷ 0 ∷ 3 ∷ 3 ∷ 5 ∷ 6 ∷ 5 ∷ 8 ∷ 6 ∷ 3 ∷ 7 ∷ 4 ∷ 4 ∷ 7 ∷ 4 ∷ 1 ∷ 6 ∷ 4 ∷ 4 ∷ 2 ∷ 5 ∷ 5 ∷ 6 ∷ 8 ∷ 7 ∷ 2 ∷ 3 ∷ 8 ∷ 2 ∷ 7 ∷ 8 ∷ 6 ∷ 8 ∷ 7 ∷ 7 ∷ 1 ∷ 7 ∷ 4 ∷ 8 ∷ 5 ∷ 6 ∷ 4 ∷ 6 ∷ 1 ∷ 1 ∷ 3 ∷ 4 ∷ 5 ∷ 5 ∷ 7 ∷ []) (4 ∷ 7 ∷ []) (0 ∷ []) (zeros 4) (8 ∷ 4 ∷ 4 ∷ 1 ∷ 5 ∷ 4 ∷ 1 ∷ 6 ∷ 3 ∷ 6 ∷ 2 ∷ 1 ∷ []) (zeros 12)) (import_begin 199 79) ≡ out (state 1 (of_fields magic 8 2 (0 ∷ 0 ∷ 0 ∷ 0 ∷ 0 ∷ 0 ∷ 0 ∷ 0 ∷ 0 ∷ 0 ∷ 0 ∷ 0 ∷ 24 ∷ 0 ∷ 0 ∷ 8 ∷ 0 ∷ 53 ∷ [])) false (overlay 0 0 0 0 (0 ∷ 0 ∷ []) 0 (budget false 0 0 0 0 0))) (lent (0 ∷ 0 ∷ 0 ∷ 0 ∷ 0 ∷ 0 ∷ 0 ∷ 0 ∷ 0 ∷ 0 ∷ 0 ∷ 0 ∷ 24 ∷ 0 ∷ 0 ∷ 8 ∷ 0 ∷ 53 ∷ 0 ∷ 0 ∷ 0 ∷ 0 ∷ 0 ∷ 0 ∷ 3 ∷ 3 ∷ 5 ∷ 6 ∷ 5 ∷ 8 ∷ 6 ∷ 3 ∷ 7 ∷ 4 ∷ 4 ∷ 7 ∷ 4 ∷ 1 ∷ 6 ∷ 4 ∷ 4 ∷ 2 ∷ 5 ∷ 5 ∷ 6 ∷ 8 ∷ 7 ∷ 2 ∷ 3 ∷ 8 ∷ 2 ∷ 7 ∷ 8 ∷ 6 ∷ 8 ∷ 7 ∷ 7 ∷ 1 ∷ 7 ∷ 4 ∷ 8 ∷ 5 ∷ 6 ∷ 4 ∷ 6 ∷ 1 ∷ 1 ∷ 3 ∷ 4 ∷ 5 ∷ 5 ∷ 7 ∷ []) (4 ∷ 7 ∷ []) (0 ∷ []) (zeros 4) (8 ∷ 4 ∷ 4 ∷ 1 ∷ 5 ∷ 4 ∷ 1 ∷ 6 ∷ 3 ∷ 6 ∷ 2 ∷ 1 ∷ []) (zeros 12)) (Refused (OffsetOverflow)) ([])) ×
    ((store 2 24 3 3 95 small_codec (state 2 (of_fields magic 8 2 (18 ∷ 0 ∷ 0 ∷ 0 ∷ 1 ∷ 0 ∷ 0 ∷ 0 ∷ 0 ∷ 0 ∷ 0 ∷ 0 ∷ 24 ∷ 0 ∷ 9 ∷ 8 ∷ 1 ∷ 167 ∷ [])) false (overlay 0 0 0 0 (zeros 3) 0 (budget false 0 0 0 0 0))) (lent (18 ∷ 0 ∷ 0 ∷ 0 ∷ 1 ∷ 0 ∷ 0 ∷ 0 ∷ 0 ∷ 0 ∷ 0 ∷ 0 ∷ 24 ∷ 0 ∷ 9 ∷ 8 ∷ 1 ∷ 167 ∷ 0 ∷ 9 ∷ zeros 26) (0 ∷ 0 ∷ []) (5 ∷ []) (2 ∷ 1 ∷ 2 ∷ 5 ∷ 1 ∷ 4 ∷ []) (6 ∷ 2 ∷ 1 ∷ 7 ∷ 5 ∷ 6 ∷ []) (zeros 12)) (import_begin 7 127) ≡ out (state 2 (of_fields magic 8 2 (18 ∷ 0 ∷ 0 ∷ 0 ∷ 1 ∷ 0 ∷ 0 ∷ 0 ∷ 0 ∷ 0 ∷ 0 ∷ 0 ∷ 24 ∷ 0 ∷ 9 ∷ 8 ∷ 1 ∷ 167 ∷ [])) false (overlay 0 0 0 0 (zeros 3) 0 (budget false 0 0 0 0 0))) (lent (18 ∷ 0 ∷ 0 ∷ 0 ∷ 1 ∷ 0 ∷ 0 ∷ 0 ∷ 0 ∷ 0 ∷ 0 ∷ 0 ∷ 24 ∷ 0 ∷ 9 ∷ 8 ∷ 1 ∷ 167 ∷ 0 ∷ 9 ∷ zeros 26) (0 ∷ 0 ∷ []) (5 ∷ []) (2 ∷ 1 ∷ 2 ∷ 5 ∷ 1 ∷ 4 ∷ []) (6 ∷ 2 ∷ 1 ∷ 7 ∷ 5 ∷ 6 ∷ []) (zeros 12)) (Refused (BufferTooShort)) ([])))
unfolding count filled overwrite resize growMemory requiredPages normalized within merge insert add around piece remove flatRuns additions add_one remain plan put refill tabulate add_number_if span grown_numbers image_byte image_page push_run raw over_byte budget_bytes raised touch blank copy stretch patch finish grow grow_to chop tail truncated whole_page over_write written fresh look_up sized passing marked try_touch try_patch try_finish try_grow try_grow_to try_tail try_chop try_truncate try_write frame_count entry_count wiped cached short_buffers view overlay_of put_back dirty_page stored small_codec small_sum small_decode small_runs small_load small_fresh importing stale refreshing marks after_commit after_import_begin after_import_chunk after_import_cancel after_import_finish after_refresh after_refresh_step short store_plan no_overlay image_bytes unchanged planned_runs commit_over restore do_import_begin do_import_chunk do_import_finish do_import_cancel do_export image_sum do_checksum do_refresh refresh_from do_refresh_step store outside open_image closing open'
c15 = (refl, (refl))

-- import_cancel: 11
-- import_cancel: 12
-- import_cancel: 35
c16 :
    (store 2 24 3 3 95 small_codec (state 2 (of_fields magic 8 2 (18 ∷ 0 ∷ 0 ∷ 0 ∷ 1 ∷ 0 ∷ 0 ∷ 0 ∷ 0 ∷ 0 ∷ 0 ∷ 0 ∷ 24 ∷ 0 ∷ 9 ∷ 8 ∷ 1 ∷ 167 ∷ [])) false (overlay 0 0 0 0 (zeros 3) 0 (budget false 0 0 0 0 0))) (lent (18 ∷ 0 ∷ 0 ∷ 0 ∷ 1 ∷ 0 ∷ 0 ∷ 0 ∷ 0 ∷ 0 ∷ 0 ∷ 0 ∷ 24 ∷ 0 ∷ 9 ∷ 8 ∷ 1 ∷ 167 ∷ 0 ∷ 9 ∷ zeros 100) (0 ∷ 0 ∷ []) (2 ∷ []) (7 ∷ 5 ∷ 8 ∷ 4 ∷ 1 ∷ 5 ∷ []) (zeros 6) (zeros 12)) (import_cancel) ≡ out (state 2 (of_fields magic 8 2 (18 ∷ 0 ∷ 0 ∷ 0 ∷ 1 ∷ 0 ∷ 0 ∷ 0 ∷ 0 ∷ 0 ∷ 0 ∷ 0 ∷ 24 ∷ 0 ∷ 9 ∷ 8 ∷ 1 ∷ 167 ∷ [])) false (overlay 0 0 0 0 (zeros 3) 0 (budget false 0 0 0 0 0))) (lent (18 ∷ 0 ∷ 0 ∷ 0 ∷ 1 ∷ 0 ∷ 0 ∷ 0 ∷ 0 ∷ 0 ∷ 0 ∷ 0 ∷ 24 ∷ 0 ∷ 9 ∷ 8 ∷ 1 ∷ 167 ∷ 0 ∷ 9 ∷ zeros 100) (0 ∷ 0 ∷ []) (2 ∷ []) (7 ∷ 5 ∷ 8 ∷ 4 ∷ 1 ∷ 5 ∷ []) (zeros 6) (zeros 12)) (Refused (ImportNotStarted)) ([])) ×
    ((store 4 24 2 3 199 small_codec (state 1 (of_fields magic 8 2 (0 ∷ 0 ∷ 0 ∷ 0 ∷ 0 ∷ 0 ∷ 0 ∷ 0 ∷ 0 ∷ 0 ∷ 0 ∷ 0 ∷ 24 ∷ 0 ∷ 0 ∷ 8 ∷ 0 ∷ 53 ∷ [])) true (overlay 0 24 0 1 (0 ∷ 0 ∷ []) 0 (budget false 0 0 0 0 0))) (lent (0 ∷ 0 ∷ 0 ∷ 0 ∷ 0 ∷ 0 ∷ 0 ∷ 0 ∷ 0 ∷ 0 ∷ 0 ∷ 0 ∷ 24 ∷ 0 ∷ 0 ∷ 8 ∷ 0 ∷ 53 ∷ 0 ∷ 0 ∷ 0 ∷ 0 ∷ 0 ∷ 0 ∷ 8 ∷ []) (7 ∷ 1 ∷ 5 ∷ 5 ∷ 8 ∷ 8 ∷ 7 ∷ 5 ∷ zeros 7) (zeros 4) (0 ∷ 0 ∷ 0 ∷ 0 ∷ 0 ∷ 0 ∷ 0 ∷ 0 ∷ 2 ∷ []) (0 ∷ 6 ∷ zeros 6) (zeros 19)) (import_cancel) ≡ out (state 1 (of_fields magic 8 2 (0 ∷ 0 ∷ 0 ∷ 0 ∷ 0 ∷ 0 ∷ 0 ∷ 0 ∷ 0 ∷ 0 ∷ 0 ∷ 0 ∷ 24 ∷ 0 ∷ 0 ∷ 8 ∷ 0 ∷ 53 ∷ [])) true (overlay 0 24 0 1 (0 ∷ 0 ∷ []) 0 (budget false 0 0 0 0 0))) (lent (0 ∷ 0 ∷ 0 ∷ 0 ∷ 0 ∷ 0 ∷ 0 ∷ 0 ∷ 0 ∷ 0 ∷ 0 ∷ 0 ∷ 24 ∷ 0 ∷ 0 ∷ 8 ∷ 0 ∷ 53 ∷ 0 ∷ 0 ∷ 0 ∷ 0 ∷ 0 ∷ 0 ∷ 8 ∷ []) (7 ∷ 1 ∷ 5 ∷ 5 ∷ 8 ∷ 8 ∷ 7 ∷ 5 ∷ zeros 7) (zeros 4) (0 ∷ 0 ∷ 0 ∷ 0 ∷ 0 ∷ 0 ∷ 0 ∷ 0 ∷ 2 ∷ []) (0 ∷ 6 ∷ zeros 6) (zeros 19)) (Refused (UpdateInProgress)) ([])) ×
    ((store 2 24 2 3 199 small_codec (state 3 (of_fields magic 8 2 (1 ∷ 5 ∷ 198 ∷ 0 ∷ 154 ∷ 0 ∷ 0 ∷ 0 ∷ 0 ∷ 0 ∷ 0 ∷ 0 ∷ 27 ∷ 0 ∷ 1 ∷ 8 ∷ 1 ∷ 150 ∷ [])) true (overlay 1 1 0 0 (0 ∷ 0 ∷ []) 0 (budget false 0 0 0 0 0))) (lent (1 ∷ 5 ∷ 198 ∷ 0 ∷ 154 ∷ 0 ∷ 0 ∷ 0 ∷ 0 ∷ 0 ∷ 0 ∷ 0 ∷ 27 ∷ 0 ∷ 1 ∷ 8 ∷ 1 ∷ 150 ∷ 15 ∷ 17 ∷ 1 ∷ 1 ∷ 0 ∷ 1 ∷ 255 ∷ 255 ∷ 1 ∷ 7 ∷ 0 ∷ 255 ∷ 1 ∷ 1 ∷ 7 ∷ 0 ∷ 1 ∷ 1 ∷ 255 ∷ 7 ∷ 208 ∷ 1 ∷ 7 ∷ 1 ∷ 7 ∷ 255 ∷ 7 ∷ 0 ∷ 1 ∷ 1 ∷ 7 ∷ 30 ∷ 7 ∷ 0 ∷ 1 ∷ 0 ∷ 143 ∷ zeros 16) (zeros 4) (0 ∷ 0 ∷ []) (1 ∷ 6 ∷ 5 ∷ 1 ∷ []) (0 ∷ 0 ∷ []) (zeros 16)) (import_cancel) ≡ out (state 3 (of_fields magic 8 2 (1 ∷ 5 ∷ 198 ∷ 0 ∷ 154 ∷ 0 ∷ 0 ∷ 0 ∷ 0 ∷ 0 ∷ 0 ∷ 0 ∷ 27 ∷ 0 ∷ 1 ∷ 8 ∷ 1 ∷ 150 ∷ [])) true (overlay 1 1 0 0 (0 ∷ 0 ∷ []) 0 (budget false 0 0 0 0 0))) (lent (1 ∷ 5 ∷ 198 ∷ 0 ∷ 154 ∷ 0 ∷ 0 ∷ 0 ∷ 0 ∷ 0 ∷ 0 ∷ 0 ∷ 27 ∷ 0 ∷ 1 ∷ 8 ∷ 1 ∷ 150 ∷ 15 ∷ 17 ∷ 1 ∷ 1 ∷ 0 ∷ 1 ∷ 255 ∷ 255 ∷ 1 ∷ 7 ∷ 0 ∷ 255 ∷ 1 ∷ 1 ∷ 7 ∷ 0 ∷ 1 ∷ 1 ∷ 255 ∷ 7 ∷ 208 ∷ 1 ∷ 7 ∷ 1 ∷ 7 ∷ 255 ∷ 7 ∷ 0 ∷ 1 ∷ 1 ∷ 7 ∷ 30 ∷ 7 ∷ 0 ∷ 1 ∷ 0 ∷ 143 ∷ zeros 16) (zeros 4) (0 ∷ 0 ∷ []) (1 ∷ 6 ∷ 5 ∷ 1 ∷ []) (0 ∷ 0 ∷ []) (zeros 16)) (Refused (BufferTooShort)) ([]))))
unfolding count filled overwrite resize growMemory requiredPages normalized within merge insert add around piece remove flatRuns additions add_one remain plan put refill tabulate add_number_if span grown_numbers image_byte image_page push_run raw over_byte budget_bytes raised touch blank copy stretch patch finish grow grow_to chop tail truncated whole_page over_write written fresh look_up sized passing marked try_touch try_patch try_finish try_grow try_grow_to try_tail try_chop try_truncate try_write frame_count entry_count wiped cached short_buffers view overlay_of put_back dirty_page stored small_codec small_sum small_decode small_runs small_load small_fresh importing stale refreshing marks after_commit after_import_begin after_import_chunk after_import_cancel after_import_finish after_refresh after_refresh_step short store_plan no_overlay image_bytes unchanged planned_runs commit_over restore do_import_begin do_import_chunk do_import_finish do_import_cancel do_export image_sum do_checksum do_refresh refresh_from do_refresh_step store outside open_image closing open'
c16 = (refl, (refl, (refl)))

-- import_chunk: 11
-- import_chunk: 20
-- import_chunk: 22
-- import_chunk: 32
-- import_chunk: 35
c17 :
    (store 4 24 2 3 199 small_codec (state 3 (of_fields magic 8 2 (32 ∷ 0 ∷ 1 ∷ 2 ∷ 0 ∷ 0 ∷ 0 ∷ 0 ∷ 0 ∷ 0 ∷ 0 ∷ 0 ∷ 24 ∷ 0 ∷ 8 ∷ 8 ∷ 3 ∷ 238 ∷ [])) false (overlay 0 0 0 0 (0 ∷ 0 ∷ []) 0 (budget false 0 0 0 0 0))) (lent (32 ∷ 0 ∷ 1 ∷ 2 ∷ 0 ∷ 0 ∷ 0 ∷ 0 ∷ 0 ∷ 0 ∷ 0 ∷ 0 ∷ 24 ∷ 0 ∷ 8 ∷ 8 ∷ 3 ∷ 238 ∷ 5 ∷ 9 ∷ 20 ∷ 21 ∷ 30 ∷ 31 ∷ 1 ∷ 193 ∷ 1 ∷ 255 ∷ 1 ∷ 0 ∷ 152 ∷ 48 ∷ 7 ∷ 223 ∷ 198 ∷ 255 ∷ 7 ∷ 255 ∷ 1 ∷ 7 ∷ 255 ∷ 255 ∷ 18 ∷ 179 ∷ 255 ∷ 255 ∷ 7 ∷ 1 ∷ zeros 24) (zeros 4) (0 ∷ []) (zeros 8) (7 ∷ 1 ∷ 2 ∷ 4 ∷ 6 ∷ 5 ∷ 4 ∷ 3 ∷ []) (5 ∷ 2 ∷ 3 ∷ 7 ∷ 1 ∷ 3 ∷ 5 ∷ 7 ∷ 8 ∷ 2 ∷ 5 ∷ 5 ∷ [])) (import_chunk 0 (9 ∷ [])) ≡ out (state 3 (of_fields magic 8 2 (32 ∷ 0 ∷ 1 ∷ 2 ∷ 0 ∷ 0 ∷ 0 ∷ 0 ∷ 0 ∷ 0 ∷ 0 ∷ 0 ∷ 24 ∷ 0 ∷ 8 ∷ 8 ∷ 3 ∷ 238 ∷ [])) false (overlay 0 0 0 0 (0 ∷ 0 ∷ []) 0 (budget false 0 0 0 0 0))) (lent (32 ∷ 0 ∷ 1 ∷ 2 ∷ 0 ∷ 0 ∷ 0 ∷ 0 ∷ 0 ∷ 0 ∷ 0 ∷ 0 ∷ 24 ∷ 0 ∷ 8 ∷ 8 ∷ 3 ∷ 238 ∷ 5 ∷ 9 ∷ 20 ∷ 21 ∷ 30 ∷ 31 ∷ 1 ∷ 193 ∷ 1 ∷ 255 ∷ 1 ∷ 0 ∷ 152 ∷ 48 ∷ 7 ∷ 223 ∷ 198 ∷ 255 ∷ 7 ∷ 255 ∷ 1 ∷ 7 ∷ 255 ∷ 255 ∷ 18 ∷ 179 ∷ 255 ∷ 255 ∷ 7 ∷ 1 ∷ zeros 24) (zeros 4) (0 ∷ []) (zeros 8) (7 ∷ 1 ∷ 2 ∷ 4 ∷ 6 ∷ 5 ∷ 4 ∷ 3 ∷ []) (5 ∷ 2 ∷ 3 ∷ 7 ∷ 1 ∷ 3 ∷ 5 ∷ 7 ∷ 8 ∷ 2 ∷ 5 ∷ 5 ∷ [])) (Refused (ImportNotStarted)) ([])) ×
    ((store 2 24 3 3 95 small_codec (state 2 (of_fields magic 8 2 (5 ∷ 0 ∷ 1 ∷ 1 ∷ 30 ∷ 172 ∷ 0 ∷ 95 ∷ 48 ∷ 0 ∷ 0 ∷ 0 ∷ 24 ∷ 0 ∷ 3 ∷ 8 ∷ 1 ∷ 61 ∷ [])) false (overlay 0 7 0 7 (zeros 3) 0 (budget false 0 0 0 0 0))) (lent (5 ∷ 0 ∷ 1 ∷ 1 ∷ 30 ∷ 172 ∷ 0 ∷ 1 ∷ 48 ∷ 0 ∷ 0 ∷ 0 ∷ 24 ∷ 0 ∷ 3 ∷ 8 ∷ 1 ∷ 61 ∷ 0 ∷ 2 ∷ zeros 28) ([]) ([]) (8 ∷ 5 ∷ 1 ∷ 1 ∷ 3 ∷ 4 ∷ []) ([]) (2 ∷ 3 ∷ 1 ∷ 5 ∷ 7 ∷ 8 ∷ 6 ∷ [])) (import_chunk 0 (255 ∷ 99 ∷ 255 ∷ 7 ∷ 0 ∷ 255 ∷ 1 ∷ 1 ∷ 162 ∷ 7 ∷ 255 ∷ 0 ∷ 238 ∷ 1 ∷ 0 ∷ 7 ∷ 255 ∷ 7 ∷ 7 ∷ 1 ∷ 7 ∷ 7 ∷ 1 ∷ 255 ∷ 255 ∷ 0 ∷ 0 ∷ 7 ∷ 0 ∷ 255 ∷ 255 ∷ 1 ∷ 7 ∷ 1 ∷ 255 ∷ 0 ∷ 1 ∷ 7 ∷ 62 ∷ 187 ∷ 0 ∷ 7 ∷ 255 ∷ 0 ∷ 255 ∷ 7 ∷ 1 ∷ 0 ∷ [])) ≡ out (state 2 (of_fields magic 8 2 (5 ∷ 0 ∷ 1 ∷ 1 ∷ 30 ∷ 172 ∷ 0 ∷ 95 ∷ 48 ∷ 0 ∷ 0 ∷ 0 ∷ 24 ∷ 0 ∷ 3 ∷ 8 ∷ 1 ∷ 61 ∷ [])) false (overlay 0 7 0 7 (zeros 3) 0 (budget false 0 0 0 0 0))) (lent (5 ∷ 0 ∷ 1 ∷ 1 ∷ 30 ∷ 172 ∷ 0 ∷ 1 ∷ 48 ∷ 0 ∷ 0 ∷ 0 ∷ 24 ∷ 0 ∷ 3 ∷ 8 ∷ 1 ∷ 61 ∷ 0 ∷ 2 ∷ zeros 28) ([]) ([]) (8 ∷ 5 ∷ 1 ∷ 1 ∷ 3 ∷ 4 ∷ []) ([]) (2 ∷ 3 ∷ 1 ∷ 5 ∷ 7 ∷ 8 ∷ 6 ∷ [])) (Refused (OffsetOverflow)) ([])) ×
    ((store 2 24 3 3 95 small_codec (state 2 (of_fields magic 8 2 (2 ∷ 5 ∷ 0 ∷ 3 ∷ 149 ∷ 176 ∷ 0 ∷ 24 ∷ 48 ∷ 0 ∷ 0 ∷ 0 ∷ 24 ∷ 0 ∷ 1 ∷ 8 ∷ 3 ∷ 51 ∷ [])) false (overlay 0 0 0 0 (zeros 3) 0 (budget false 0 0 0 0 0))) (lent (2 ∷ 5 ∷ 0 ∷ 3 ∷ 149 ∷ 176 ∷ 0 ∷ 24 ∷ 48 ∷ 0 ∷ 0 ∷ 0 ∷ 24 ∷ 0 ∷ 1 ∷ 8 ∷ 3 ∷ 51 ∷ 5 ∷ 7 ∷ 10 ∷ 11 ∷ 12 ∷ 14 ∷ 255 ∷ 7 ∷ 1 ∷ 255 ∷ 0 ∷ 255 ∷ 0 ∷ 1 ∷ 245 ∷ 255 ∷ 0 ∷ 92 ∷ 0 ∷ 7 ∷ 0 ∷ 144 ∷ 244 ∷ 255 ∷ 255 ∷ 1 ∷ 1 ∷ 255 ∷ 1 ∷ 255 ∷ []) ([]) ([]) (7 ∷ 2 ∷ 3 ∷ 3 ∷ 7 ∷ 7 ∷ []) ([]) (8 ∷ 6 ∷ 6 ∷ 6 ∷ 4 ∷ 8 ∷ 7 ∷ 8 ∷ [])) (import_chunk 0 (171 ∷ 0 ∷ 49 ∷ 7 ∷ 7 ∷ 7 ∷ 255 ∷ 26 ∷ 0 ∷ 7 ∷ 72 ∷ 1 ∷ 9 ∷ 62 ∷ 179 ∷ 1 ∷ 1 ∷ 0 ∷ 7 ∷ 1 ∷ 1 ∷ 255 ∷ 0 ∷ 37 ∷ 9 ∷ [])) ≡ out (state 2 (of_fields magic 8 2 (2 ∷ 5 ∷ 0 ∷ 3 ∷ 149 ∷ 176 ∷ 0 ∷ 24 ∷ 48 ∷ 0 ∷ 0 ∷ 0 ∷ 24 ∷ 0 ∷ 1 ∷ 8 ∷ 3 ∷ 51 ∷ [])) false (overlay 0 0 0 0 (zeros 3) 0 (budget false 0 0 0 0 0))) (lent (2 ∷ 5 ∷ 0 ∷ 3 ∷ 149 ∷ 176 ∷ 0 ∷ 24 ∷ 48 ∷ 0 ∷ 0 ∷ 0 ∷ 24 ∷ 0 ∷ 1 ∷ 8 ∷ 3 ∷ 51 ∷ 5 ∷ 7 ∷ 10 ∷ 11 ∷ 12 ∷ 14 ∷ 255 ∷ 7 ∷ 1 ∷ 255 ∷ 0 ∷ 255 ∷ 0 ∷ 1 ∷ 245 ∷ 255 ∷ 0 ∷ 92 ∷ 0 ∷ 7 ∷ 0 ∷ 144 ∷ 244 ∷ 255 ∷ 255 ∷ 1 ∷ 1 ∷ 255 ∷ 1 ∷ 255 ∷ []) ([]) ([]) (7 ∷ 2 ∷ 3 ∷ 3 ∷ 7 ∷ 7 ∷ []) ([]) (8 ∷ 6 ∷ 6 ∷ 6 ∷ 4 ∷ 8 ∷ 7 ∷ 8 ∷ [])) (Refused (ImportOutOfBounds)) ([])) ×
    ((store 4 24 2 3 199 small_codec (state 4 (of_fields magic 8 2 (64 ∷ 0 ∷ 1 ∷ 3 ∷ 0 ∷ 15 ∷ 0 ∷ 1 ∷ 96 ∷ 0 ∷ 0 ∷ 0 ∷ 24 ∷ 0 ∷ 16 ∷ 8 ∷ 1 ∷ 130 ∷ [])) false (overlay 0 0 0 0 (0 ∷ 0 ∷ []) 0 (budget false 0 0 0 0 0))) (lent (64 ∷ 0 ∷ 1 ∷ 3 ∷ 0 ∷ 15 ∷ 0 ∷ 1 ∷ 96 ∷ 0 ∷ 0 ∷ 0 ∷ 24 ∷ 0 ∷ 16 ∷ 8 ∷ 1 ∷ 130 ∷ 0 ∷ 16 ∷ zeros 76) ([]) ([]) (4 ∷ 3 ∷ 2 ∷ 3 ∷ 4 ∷ 3 ∷ 2 ∷ 7 ∷ []) ([]) (7 ∷ 4 ∷ 1 ∷ 4 ∷ 3 ∷ 7 ∷ 1 ∷ 4 ∷ [])) (import_chunk 0 (7 ∷ [])) ≡ out (state 4 (of_fields magic 8 2 (64 ∷ 0 ∷ 1 ∷ 3 ∷ 0 ∷ 15 ∷ 0 ∷ 1 ∷ 96 ∷ 0 ∷ 0 ∷ 0 ∷ 24 ∷ 0 ∷ 16 ∷ 8 ∷ 1 ∷ 130 ∷ [])) false (overlay 0 0 0 0 (0 ∷ 0 ∷ []) 0 (budget false 0 0 0 0 0))) (lent (64 ∷ 0 ∷ 1 ∷ 3 ∷ 0 ∷ 15 ∷ 0 ∷ 1 ∷ 96 ∷ 0 ∷ 0 ∷ 0 ∷ 24 ∷ 0 ∷ 16 ∷ 8 ∷ 1 ∷ 130 ∷ 0 ∷ 16 ∷ zeros 76) ([]) ([]) (4 ∷ 3 ∷ 2 ∷ 3 ∷ 4 ∷ 3 ∷ 2 ∷ 7 ∷ []) ([]) (7 ∷ 4 ∷ 1 ∷ 4 ∷ 3 ∷ 7 ∷ 1 ∷ 4 ∷ [])) (Refused (GrowFailed (stable 4) (stable 5))) ([])) ×
    ((store 2 24 2 3 199 small_codec (state 1 (of_fields magic 8 2 (0 ∷ 0 ∷ 0 ∷ 1 ∷ 0 ∷ 100 ∷ 0 ∷ 5 ∷ 24 ∷ 0 ∷ 0 ∷ 0 ∷ 24 ∷ 0 ∷ 0 ∷ 8 ∷ 0 ∷ 124 ∷ [])) false (overlay 0 7 0 7 (0 ∷ 0 ∷ []) 0 (budget false 0 0 0 0 0))) (lent (0 ∷ 0 ∷ 0 ∷ 1 ∷ 0 ∷ 100 ∷ 0 ∷ 5 ∷ 24 ∷ 0 ∷ 0 ∷ 0 ∷ 24 ∷ 0 ∷ 0 ∷ 8 ∷ 0 ∷ 124 ∷ zeros 5) ([]) ([]) (3 ∷ 6 ∷ 5 ∷ 2 ∷ 6 ∷ []) (4 ∷ []) (1 ∷ 3 ∷ 5 ∷ 2 ∷ 2 ∷ 7 ∷ 4 ∷ 8 ∷ [])) (import_chunk 0 (163 ∷ 255 ∷ 23 ∷ 0 ∷ 1 ∷ 9 ∷ [])) ≡ out (state 1 (of_fields magic 8 2 (0 ∷ 0 ∷ 0 ∷ 1 ∷ 0 ∷ 100 ∷ 0 ∷ 5 ∷ 24 ∷ 0 ∷ 0 ∷ 0 ∷ 24 ∷ 0 ∷ 0 ∷ 8 ∷ 0 ∷ 124 ∷ [])) false (overlay 0 7 0 7 (0 ∷ 0 ∷ []) 0 (budget false 0 0 0 0 0))) (lent (0 ∷ 0 ∷ 0 ∷ 1 ∷ 0 ∷ 100 ∷ 0 ∷ 5 ∷ 24 ∷ 0 ∷ 0 ∷ 0 ∷ 24 ∷ 0 ∷ 0 ∷ 8 ∷ 0 ∷ 124 ∷ zeros 5) ([]) ([]) (3 ∷ 6 ∷ 5 ∷ 2 ∷ 6 ∷ []) (4 ∷ []) (1 ∷ 3 ∷ 5 ∷ 2 ∷ 2 ∷ 7 ∷ 4 ∷ 8 ∷ [])) (Refused (BufferTooShort)) ([]))))))
unfolding count filled overwrite resize growMemory requiredPages normalized within merge insert add around piece remove flatRuns additions add_one remain plan put refill tabulate add_number_if span grown_numbers image_byte image_page push_run raw over_byte budget_bytes raised touch blank copy stretch patch finish grow grow_to chop tail truncated whole_page over_write written fresh look_up sized passing marked try_touch try_patch try_finish try_grow try_grow_to try_tail try_chop try_truncate try_write frame_count entry_count wiped cached short_buffers view overlay_of put_back dirty_page stored small_codec small_sum small_decode small_runs small_load small_fresh importing stale refreshing marks after_commit after_import_begin after_import_chunk after_import_cancel after_import_finish after_refresh after_refresh_step short store_plan no_overlay image_bytes unchanged planned_runs commit_over restore do_import_begin do_import_chunk do_import_finish do_import_cancel do_export image_sum do_checksum do_refresh refresh_from do_refresh_step store outside open_image closing open'
c17 = (refl, (refl, (refl, (refl, (refl)))))

-- import_finish: 11
-- import_finish: 23
-- import_finish: 35
-- import_finish: accepted
c18 :
    (store 2 24 2 3 199 small_codec (state 1 (of_fields magic 8 2 (0 ∷ 0 ∷ 0 ∷ 0 ∷ 0 ∷ 0 ∷ 0 ∷ 0 ∷ 0 ∷ 0 ∷ 0 ∷ 0 ∷ 24 ∷ 0 ∷ 0 ∷ 8 ∷ 0 ∷ 53 ∷ [])) false (overlay 0 0 0 0 (0 ∷ 0 ∷ []) 0 (budget false 0 0 0 0 0))) (lent (0 ∷ 0 ∷ 0 ∷ 0 ∷ 0 ∷ 0 ∷ 0 ∷ 0 ∷ 0 ∷ 0 ∷ 0 ∷ 0 ∷ 24 ∷ 0 ∷ 0 ∷ 8 ∷ 0 ∷ 53 ∷ zeros 54) (zeros 8) (6 ∷ 8 ∷ 6 ∷ 4 ∷ []) (6 ∷ 7 ∷ 5 ∷ 5 ∷ []) (zeros 12) (zeros 24)) (import_finish) ≡ out (state 1 (of_fields magic 8 2 (0 ∷ 0 ∷ 0 ∷ 0 ∷ 0 ∷ 0 ∷ 0 ∷ 0 ∷ 0 ∷ 0 ∷ 0 ∷ 0 ∷ 24 ∷ 0 ∷ 0 ∷ 8 ∷ 0 ∷ 53 ∷ [])) false (overlay 0 0 0 0 (0 ∷ 0 ∷ []) 0 (budget false 0 0 0 0 0))) (lent (0 ∷ 0 ∷ 0 ∷ 0 ∷ 0 ∷ 0 ∷ 0 ∷ 0 ∷ 0 ∷ 0 ∷ 0 ∷ 0 ∷ 24 ∷ 0 ∷ 0 ∷ 8 ∷ 0 ∷ 53 ∷ zeros 54) (zeros 8) (6 ∷ 8 ∷ 6 ∷ 4 ∷ []) (6 ∷ 7 ∷ 5 ∷ 5 ∷ []) (zeros 12) (zeros 24)) (Refused (ImportNotStarted)) ([])) ×
    ((store 4 24 2 3 199 small_codec (state 2 (of_fields magic 8 2 (0 ∷ 0 ∷ 0 ∷ 1 ∷ 0 ∷ 4 ∷ 1 ∷ 9 ∷ 24 ∷ 0 ∷ 0 ∷ 0 ∷ 24 ∷ 0 ∷ 0 ∷ 8 ∷ 0 ∷ 134 ∷ [])) false (overlay 0 0 0 0 (0 ∷ 0 ∷ []) 0 (budget false 0 0 0 0 0))) (lent (0 ∷ 0 ∷ 0 ∷ 1 ∷ 0 ∷ 4 ∷ 1 ∷ 9 ∷ 24 ∷ 0 ∷ 0 ∷ 0 ∷ 24 ∷ 0 ∷ 0 ∷ 8 ∷ 0 ∷ 134 ∷ zeros 30) (2 ∷ 4 ∷ 3 ∷ 6 ∷ 3 ∷ 8 ∷ 1 ∷ 5 ∷ 5 ∷ 6 ∷ 7 ∷ 7 ∷ []) (3 ∷ 1 ∷ 7 ∷ []) (5 ∷ 3 ∷ 6 ∷ 7 ∷ 1 ∷ 6 ∷ 8 ∷ 5 ∷ []) (4 ∷ 5 ∷ 4 ∷ 1 ∷ []) (5 ∷ 2 ∷ 8 ∷ 4 ∷ 5 ∷ 2 ∷ 6 ∷ 8 ∷ 2 ∷ 3 ∷ 6 ∷ 1 ∷ 4 ∷ 8 ∷ 7 ∷ 4 ∷ 2 ∷ 5 ∷ 3 ∷ 2 ∷ [])) (import_finish) ≡ out (state 2 (of_fields magic 8 2 (0 ∷ 0 ∷ 0 ∷ 1 ∷ 0 ∷ 4 ∷ 1 ∷ 9 ∷ 24 ∷ 0 ∷ 0 ∷ 0 ∷ 24 ∷ 0 ∷ 0 ∷ 8 ∷ 0 ∷ 134 ∷ [])) false (overlay 0 0 0 0 (0 ∷ 0 ∷ []) 0 (budget false 0 0 0 0 0))) (lent (0 ∷ 0 ∷ 0 ∷ 1 ∷ 0 ∷ 4 ∷ 1 ∷ 9 ∷ 24 ∷ 0 ∷ 0 ∷ 0 ∷ 24 ∷ 0 ∷ 0 ∷ 8 ∷ 0 ∷ 134 ∷ zeros 30) (2 ∷ 4 ∷ 3 ∷ 6 ∷ 3 ∷ 8 ∷ 1 ∷ 5 ∷ 5 ∷ 6 ∷ 7 ∷ 7 ∷ []) (3 ∷ 1 ∷ 7 ∷ []) (5 ∷ 3 ∷ 6 ∷ 7 ∷ 1 ∷ 6 ∷ 8 ∷ 5 ∷ []) (4 ∷ 5 ∷ 4 ∷ 1 ∷ []) (5 ∷ 2 ∷ 8 ∷ 4 ∷ 5 ∷ 2 ∷ 6 ∷ 8 ∷ 2 ∷ 3 ∷ 6 ∷ 1 ∷ 4 ∷ 8 ∷ 7 ∷ 4 ∷ 2 ∷ 5 ∷ 3 ∷ 2 ∷ [])) (Refused (ImportIncomplete)) ([])) ×
    ((store 2 24 2 3 199 small_codec (state 1 (of_fields magic 8 2 (0 ∷ 0 ∷ 0 ∷ 0 ∷ 0 ∷ 0 ∷ 0 ∷ 0 ∷ 0 ∷ 0 ∷ 0 ∷ 0 ∷ 24 ∷ 0 ∷ 0 ∷ 8 ∷ 0 ∷ 53 ∷ [])) true (overlay 0 22 0 2 (0 ∷ 0 ∷ []) 0 (budget true 4 7 0 1 2))) (lent (0 ∷ 0 ∷ 0 ∷ 0 ∷ 0 ∷ 0 ∷ 0 ∷ 0 ∷ 0 ∷ 0 ∷ 0 ∷ 0 ∷ 24 ∷ 0 ∷ 0 ∷ 8 ∷ 0 ∷ 53 ∷ zeros 5) (4 ∷ 5 ∷ 5 ∷ 3 ∷ 8 ∷ 8 ∷ 1 ∷ 3 ∷ []) (zeros 4) (3 ∷ 8 ∷ 6 ∷ 5 ∷ []) (0 ∷ 18 ∷ 11 ∷ 18 ∷ 7 ∷ 6 ∷ 8 ∷ 7 ∷ 4 ∷ 7 ∷ 8 ∷ 2 ∷ []) (zeros 24)) (import_finish) ≡ out (state 1 (of_fields magic 8 2 (0 ∷ 0 ∷ 0 ∷ 0 ∷ 0 ∷ 0 ∷ 0 ∷ 0 ∷ 0 ∷ 0 ∷ 0 ∷ 0 ∷ 24 ∷ 0 ∷ 0 ∷ 8 ∷ 0 ∷ 53 ∷ [])) true (overlay 0 22 0 2 (0 ∷ 0 ∷ []) 0 (budget true 4 7 0 1 2))) (lent (0 ∷ 0 ∷ 0 ∷ 0 ∷ 0 ∷ 0 ∷ 0 ∷ 0 ∷ 0 ∷ 0 ∷ 0 ∷ 0 ∷ 24 ∷ 0 ∷ 0 ∷ 8 ∷ 0 ∷ 53 ∷ zeros 5) (4 ∷ 5 ∷ 5 ∷ 3 ∷ 8 ∷ 8 ∷ 1 ∷ 3 ∷ []) (zeros 4) (3 ∷ 8 ∷ 6 ∷ 5 ∷ []) (0 ∷ 18 ∷ 11 ∷ 18 ∷ 7 ∷ 6 ∷ 8 ∷ 7 ∷ 4 ∷ 7 ∷ 8 ∷ 2 ∷ []) (zeros 24)) (Refused (BufferTooShort)) ([])) ×
    ((store 4 24 2 3 199 small_codec (state 3 (of_fields magic 8 2 (1 ∷ 0 ∷ 0 ∷ 1 ∷ 8 ∷ 1 ∷ 0 ∷ 0 ∷ 72 ∷ 0 ∷ 0 ∷ 0 ∷ 48 ∷ 0 ∷ 1 ∷ 8 ∷ 0 ∷ 203 ∷ [])) false (overlay 0 0 0 0 (0 ∷ 0 ∷ []) 0 (budget false 0 0 0 0 0))) (lent (1 ∷ 0 ∷ 0 ∷ 1 ∷ 8 ∷ 1 ∷ 0 ∷ 0 ∷ 72 ∷ 0 ∷ 0 ∷ 0 ∷ 48 ∷ 0 ∷ 1 ∷ 8 ∷ 0 ∷ 203 ∷ 1 ∷ 3 ∷ 7 ∷ 10 ∷ 13 ∷ 15 ∷ 241 ∷ 0 ∷ 7 ∷ 255 ∷ 158 ∷ 243 ∷ 7 ∷ 1 ∷ 0 ∷ 7 ∷ 0 ∷ 1 ∷ 0 ∷ 0 ∷ 1 ∷ 7 ∷ 139 ∷ 7 ∷ 255 ∷ 255 ∷ 255 ∷ 1 ∷ 7 ∷ zeros 25) ([]) ([]) (4 ∷ 5 ∷ 5 ∷ 8 ∷ 3 ∷ 8 ∷ 4 ∷ 8 ∷ []) ([]) (3 ∷ 7 ∷ 5 ∷ 7 ∷ 4 ∷ 5 ∷ 3 ∷ 6 ∷ [])) (import_finish) ≡ out (state 3 (of_fields magic 8 2 (0 ∷ 0 ∷ 0 ∷ 0 ∷ 1 ∷ 0 ∷ 0 ∷ 0 ∷ 0 ∷ 0 ∷ 0 ∷ 0 ∷ 72 ∷ 0 ∷ 0 ∷ 8 ∷ 0 ∷ 223 ∷ [])) false (overlay 0 0 0 0 (0 ∷ 0 ∷ []) 0 (budget false 0 0 0 0 0))) (lent (0 ∷ 0 ∷ 0 ∷ 0 ∷ 1 ∷ 0 ∷ 0 ∷ 0 ∷ 0 ∷ 0 ∷ 0 ∷ 0 ∷ 72 ∷ 0 ∷ 0 ∷ 8 ∷ 0 ∷ 223 ∷ 1 ∷ 3 ∷ 7 ∷ 10 ∷ 13 ∷ 15 ∷ 241 ∷ 0 ∷ 7 ∷ 255 ∷ 158 ∷ 243 ∷ 7 ∷ 1 ∷ 0 ∷ 7 ∷ 0 ∷ 1 ∷ 0 ∷ 0 ∷ 1 ∷ 7 ∷ 139 ∷ 7 ∷ 255 ∷ 255 ∷ 255 ∷ 1 ∷ 7 ∷ zeros 25) ([]) ([]) (4 ∷ 5 ∷ 5 ∷ 8 ∷ 3 ∷ 8 ∷ 4 ∷ 8 ∷ []) ([]) (3 ∷ 7 ∷ 5 ∷ 7 ∷ 4 ∷ 5 ∷ 3 ∷ 6 ∷ [])) (Done) ([])))))
unfolding count filled overwrite resize growMemory requiredPages normalized within merge insert add around piece remove flatRuns additions add_one remain plan put refill tabulate add_number_if span grown_numbers image_byte image_page push_run raw over_byte budget_bytes raised touch blank copy stretch patch finish grow grow_to chop tail truncated whole_page over_write written fresh look_up sized passing marked try_touch try_patch try_finish try_grow try_grow_to try_tail try_chop try_truncate try_write frame_count entry_count wiped cached short_buffers view overlay_of put_back dirty_page stored small_codec small_sum small_decode small_runs small_load small_fresh importing stale refreshing marks after_commit after_import_begin after_import_chunk after_import_cancel after_import_finish after_refresh after_refresh_step short store_plan no_overlay image_bytes unchanged planned_runs commit_over restore do_import_begin do_import_chunk do_import_finish do_import_cancel do_export image_sum do_checksum do_refresh refresh_from do_refresh_step store outside open_image closing open'
c18 = (refl, (refl, (refl, (refl))))

-- open: 3
-- open: 32
-- open: 35
-- open: 4
-- open: import closed
c19 :
    (open' 2 24 3 3 95 small_codec 2 (0 ∷ 5 ∷ 95 ∷ 10 ∷ 46 ∷ 0 ∷ 0 ∷ 0 ∷ 0 ∷ 0 ∷ 0 ∷ 0 ∷ 48 ∷ 0 ∷ 0 ∷ 8 ∷ 1 ∷ 14 ∷ 4 ∷ 3 ∷ 7 ∷ 9 ∷ 13 ∷ 14 ∷ 1 ∷ 0 ∷ 7 ∷ 62 ∷ 0 ∷ 0 ∷ 1 ∷ 1 ∷ 7 ∷ 0 ∷ 1 ∷ 34 ∷ 7 ∷ 0 ∷ 1 ∷ 0 ∷ 1 ∷ 1 ∷ 7 ∷ 7 ∷ 255 ∷ 1 ∷ 7 ∷ 1 ∷ []) ≡ opened (state 2 (of_fields 0 0 0 []) false (overlay 0 0 0 0 (zeros 3) 0 (budget false 0 0 0 0 0))) (Refused (MetaChecksumMismatch)) (0 ∷ 5 ∷ 95 ∷ 10 ∷ 46 ∷ 0 ∷ 0 ∷ 0 ∷ 0 ∷ 0 ∷ 0 ∷ 0 ∷ 48 ∷ 0 ∷ 0 ∷ 8 ∷ 1 ∷ 14 ∷ 4 ∷ 3 ∷ 7 ∷ 9 ∷ 13 ∷ 14 ∷ 1 ∷ 0 ∷ 7 ∷ 62 ∷ 0 ∷ 0 ∷ 1 ∷ 1 ∷ 7 ∷ 0 ∷ 1 ∷ 34 ∷ 7 ∷ 0 ∷ 1 ∷ 0 ∷ 1 ∷ 1 ∷ 7 ∷ 7 ∷ 255 ∷ 1 ∷ 7 ∷ 1 ∷ [])) ×
    ((open' 2 24 2 3 199 small_codec 0 ([]) ≡ opened (state 0 (of_fields 0 0 0 []) false (overlay 0 0 0 0 (0 ∷ 0 ∷ []) 0 (budget false 0 0 0 0 0))) (Refused (GrowFailed (stable 0) (stable 1))) ([])) ×
    ((open' 2 24 2 3 199 small_codec 2 (2 ∷ 0 ∷ 199 ∷ 2 ∷ 68 ∷ 0 ∷ 0 ∷ 0 ∷ 0 ∷ 0 ∷ 0 ∷ 0 ∷ 27 ∷ 0 ∷ 1 ∷ 8 ∷ 1 ∷ 212 ∷ 11 ∷ 15 ∷ 255 ∷ 7 ∷ 255 ∷ 1 ∷ 1 ∷ 136 ∷ 0 ∷ 7 ∷ 0 ∷ 7 ∷ 120 ∷ 255 ∷ 0 ∷ 7 ∷ 7 ∷ 255 ∷ 0 ∷ 67 ∷ 0 ∷ 165 ∷ 1 ∷ 1 ∷ 226 ∷ 7 ∷ 0 ∷ 25 ∷ 0 ∷ []) ≡ opened (state 2 (of_fields 0 0 0 []) false (overlay 0 0 0 0 (0 ∷ 0 ∷ []) 0 (budget false 0 0 0 0 0))) (Refused (BufferTooShort)) (2 ∷ 0 ∷ 199 ∷ 2 ∷ 68 ∷ 0 ∷ 0 ∷ 0 ∷ 0 ∷ 0 ∷ 0 ∷ 0 ∷ 27 ∷ 0 ∷ 1 ∷ 8 ∷ 1 ∷ 212 ∷ 11 ∷ 15 ∷ 255 ∷ 7 ∷ 255 ∷ 1 ∷ 1 ∷ 136 ∷ 0 ∷ 7 ∷ 0 ∷ 7 ∷ 120 ∷ 255 ∷ 0 ∷ 7 ∷ 7 ∷ 255 ∷ 0 ∷ 67 ∷ 0 ∷ 165 ∷ 1 ∷ 1 ∷ 226 ∷ 7 ∷ 0 ∷ 25 ∷ 0 ∷ [])) ×
    ((open' 2 24 3 3 95 small_codec 2 (0 ∷ 5 ∷ 95 ∷ 11 ∷ 173 ∷ 8 ∷ 0 ∷ 6 ∷ 49 ∷ 0 ∷ 0 ∷ 0 ∷ 48 ∷ 0 ∷ 0 ∷ 8 ∷ 2 ∷ 39 ∷ 3 ∷ 5 ∷ 7 ∷ 9 ∷ 7 ∷ 7 ∷ 1 ∷ 7 ∷ 255 ∷ 7 ∷ 0 ∷ 0 ∷ 7 ∷ 7 ∷ 255 ∷ 7 ∷ 1 ∷ 0 ∷ 1 ∷ 1 ∷ 1 ∷ 245 ∷ 1 ∷ 255 ∷ 7 ∷ 7 ∷ 7 ∷ 1 ∷ 0 ∷ 0 ∷ []) ≡ opened (state 2 (of_fields 0 0 0 []) false (overlay 0 0 0 0 (zeros 3) 0 (budget false 0 0 0 0 0))) (Refused (ImageOutOfMemory)) (0 ∷ 5 ∷ 95 ∷ 11 ∷ 173 ∷ 8 ∷ 0 ∷ 6 ∷ 49 ∷ 0 ∷ 0 ∷ 0 ∷ 48 ∷ 0 ∷ 0 ∷ 8 ∷ 2 ∷ 39 ∷ 3 ∷ 5 ∷ 7 ∷ 9 ∷ 7 ∷ 7 ∷ 1 ∷ 7 ∷ 255 ∷ 7 ∷ 0 ∷ 0 ∷ 7 ∷ 7 ∷ 255 ∷ 7 ∷ 1 ∷ 0 ∷ 1 ∷ 1 ∷ 1 ∷ 245 ∷ 1 ∷ 255 ∷ 7 ∷ 7 ∷ 7 ∷ 1 ∷ 0 ∷ 0 ∷ [])) ×
    ((open' 4 24 2 3 199 small_codec 2 (0 ∷ 0 ∷ 0 ∷ 1 ∷ 0 ∷ 4 ∷ 1 ∷ 9 ∷ 24 ∷ 0 ∷ 0 ∷ 0 ∷ 24 ∷ 0 ∷ 0 ∷ 8 ∷ 0 ∷ 134 ∷ zeros 30) ≡ opened (state 2 (of_fields magic 8 2 (0 ∷ 0 ∷ 0 ∷ 0 ∷ 0 ∷ 0 ∷ 0 ∷ 0 ∷ 0 ∷ 0 ∷ 0 ∷ 0 ∷ 24 ∷ 0 ∷ 0 ∷ 8 ∷ 0 ∷ 53 ∷ [])) false (overlay 0 0 0 0 (0 ∷ 0 ∷ []) 0 (budget false 0 0 0 0 0))) (Done) (0 ∷ 0 ∷ 0 ∷ 0 ∷ 0 ∷ 0 ∷ 0 ∷ 0 ∷ 0 ∷ 0 ∷ 0 ∷ 0 ∷ 24 ∷ 0 ∷ 0 ∷ 8 ∷ 0 ∷ 53 ∷ zeros 30))))))
unfolding count filled overwrite resize growMemory requiredPages normalized within merge insert add around piece remove flatRuns additions add_one remain plan put refill tabulate add_number_if span grown_numbers image_byte image_page push_run raw over_byte budget_bytes raised touch blank copy stretch patch finish grow grow_to chop tail truncated whole_page over_write written fresh look_up sized passing marked try_touch try_patch try_finish try_grow try_grow_to try_tail try_chop try_truncate try_write frame_count entry_count wiped cached short_buffers view overlay_of put_back dirty_page stored small_codec small_sum small_decode small_runs small_load small_fresh importing stale refreshing marks after_commit after_import_begin after_import_chunk after_import_cancel after_import_finish after_refresh after_refresh_step short store_plan no_overlay image_bytes unchanged planned_runs commit_over restore do_import_begin do_import_chunk do_import_finish do_import_cancel do_export image_sum do_checksum do_refresh refresh_from do_refresh_step store outside open_image closing open'
c19 = (refl, (refl, (refl, (refl, (refl)))))

-- read direct: 35
-- read direct: accepted
c20 :
    (store 4 24 2 3 199 small_codec (state 2 (of_fields magic 8 2 (8 ∷ 0 ∷ 1 ∷ 2 ∷ 0 ∷ 0 ∷ 0 ∷ 0 ∷ 0 ∷ 0 ∷ 0 ∷ 0 ∷ 24 ∷ 0 ∷ 2 ∷ 8 ∷ 1 ∷ 189 ∷ [])) false (overlay 0 0 0 0 (0 ∷ 0 ∷ []) 0 (budget false 0 0 0 0 0))) (lent (8 ∷ 0 ∷ 1 ∷ 2 ∷ 0 ∷ 0 ∷ 0 ∷ 0 ∷ 0 ∷ 0 ∷ 0 ∷ 0 ∷ 24 ∷ 0 ∷ 2 ∷ 8 ∷ 1 ∷ 189 ∷ 0 ∷ 44 ∷ 0 ∷ 0 ∷ 0 ∷ 0 ∷ 0 ∷ 0 ∷ 0 ∷ 0 ∷ 0 ∷ 0 ∷ 0 ∷ 0 ∷ 0 ∷ 0 ∷ 0 ∷ 0 ∷ 0 ∷ 0 ∷ 0 ∷ 0 ∷ 0 ∷ 0 ∷ 0 ∷ 0 ∷ 0 ∷ 0 ∷ 0 ∷ 0 ∷ 1 ∷ []) (6 ∷ 4 ∷ 1 ∷ 8 ∷ 6 ∷ 1 ∷ 1 ∷ 6 ∷ 3 ∷ 6 ∷ 7 ∷ 7 ∷ 3 ∷ 3 ∷ 2 ∷ 2 ∷ 4 ∷ []) (zeros 4) (zeros 7) (zeros 5) (3 ∷ 2 ∷ 6 ∷ 3 ∷ 2 ∷ 4 ∷ 8 ∷ 1 ∷ 2 ∷ 4 ∷ 3 ∷ 3 ∷ 7 ∷ 2 ∷ 3 ∷ 7 ∷ 7 ∷ 2 ∷ 6 ∷ 6 ∷ 6 ∷ 4 ∷ 8 ∷ 6 ∷ 8 ∷ [])) (read 195 (1 ∷ 1 ∷ 0 ∷ 127 ∷ [])) ≡ out (state 2 (of_fields magic 8 2 (8 ∷ 0 ∷ 1 ∷ 2 ∷ 0 ∷ 0 ∷ 0 ∷ 0 ∷ 0 ∷ 0 ∷ 0 ∷ 0 ∷ 24 ∷ 0 ∷ 2 ∷ 8 ∷ 1 ∷ 189 ∷ [])) false (overlay 0 0 0 0 (0 ∷ 0 ∷ []) 0 (budget false 0 0 0 0 0))) (lent (8 ∷ 0 ∷ 1 ∷ 2 ∷ 0 ∷ 0 ∷ 0 ∷ 0 ∷ 0 ∷ 0 ∷ 0 ∷ 0 ∷ 24 ∷ 0 ∷ 2 ∷ 8 ∷ 1 ∷ 189 ∷ 0 ∷ 44 ∷ 0 ∷ 0 ∷ 0 ∷ 0 ∷ 0 ∷ 0 ∷ 0 ∷ 0 ∷ 0 ∷ 0 ∷ 0 ∷ 0 ∷ 0 ∷ 0 ∷ 0 ∷ 0 ∷ 0 ∷ 0 ∷ 0 ∷ 0 ∷ 0 ∷ 0 ∷ 0 ∷ 0 ∷ 0 ∷ 0 ∷ 0 ∷ 0 ∷ 1 ∷ []) (6 ∷ 4 ∷ 1 ∷ 8 ∷ 6 ∷ 1 ∷ 1 ∷ 6 ∷ 3 ∷ 6 ∷ 7 ∷ 7 ∷ 3 ∷ 3 ∷ 2 ∷ 2 ∷ 4 ∷ []) (zeros 4) (zeros 7) (zeros 5) (3 ∷ 2 ∷ 6 ∷ 3 ∷ 2 ∷ 4 ∷ 8 ∷ 1 ∷ 2 ∷ 4 ∷ 3 ∷ 3 ∷ 7 ∷ 2 ∷ 3 ∷ 7 ∷ 7 ∷ 2 ∷ 6 ∷ 6 ∷ 6 ∷ 4 ∷ 8 ∷ 6 ∷ 8 ∷ [])) (Refused (BufferTooShort)) (1 ∷ 1 ∷ 0 ∷ 127 ∷ [])) ×
    ((store 2 24 3 3 95 small_codec (state 1 (of_fields magic 8 2 (0 ∷ 0 ∷ 0 ∷ 0 ∷ 0 ∷ 0 ∷ 0 ∷ 0 ∷ 0 ∷ 0 ∷ 0 ∷ 0 ∷ 24 ∷ 0 ∷ 0 ∷ 8 ∷ 0 ∷ 53 ∷ [])) false (overlay 0 0 0 0 (zeros 3) 0 (budget false 0 0 0 0 0))) (lent (0 ∷ 0 ∷ 0 ∷ 0 ∷ 0 ∷ 0 ∷ 0 ∷ 0 ∷ 0 ∷ 0 ∷ 0 ∷ 0 ∷ 24 ∷ 0 ∷ 0 ∷ 8 ∷ 0 ∷ 53 ∷ zeros 78) (3 ∷ 8 ∷ []) (6 ∷ []) (zeros 6) (1 ∷ 3 ∷ []) (zeros 12)) (read 95 (0 ∷ [])) ≡ out (state 1 (of_fields magic 8 2 (0 ∷ 0 ∷ 0 ∷ 0 ∷ 0 ∷ 0 ∷ 0 ∷ 0 ∷ 0 ∷ 0 ∷ 0 ∷ 0 ∷ 24 ∷ 0 ∷ 0 ∷ 8 ∷ 0 ∷ 53 ∷ [])) false (overlay 0 0 0 0 (zeros 3) 0 (budget false 0 0 0 0 0))) (lent (0 ∷ 0 ∷ 0 ∷ 0 ∷ 0 ∷ 0 ∷ 0 ∷ 0 ∷ 0 ∷ 0 ∷ 0 ∷ 0 ∷ 24 ∷ 0 ∷ 0 ∷ 8 ∷ 0 ∷ 53 ∷ zeros 78) (3 ∷ 8 ∷ []) (6 ∷ []) (zeros 6) (1 ∷ 3 ∷ []) (zeros 12)) (Read false) (0 ∷ [])))
unfolding count filled overwrite resize growMemory requiredPages normalized within merge insert add around piece remove flatRuns additions add_one remain plan put refill tabulate add_number_if span grown_numbers image_byte image_page push_run raw over_byte budget_bytes raised touch blank copy stretch patch finish grow grow_to chop tail truncated whole_page over_write written fresh look_up sized passing marked try_touch try_patch try_finish try_grow try_grow_to try_tail try_chop try_truncate try_write frame_count entry_count wiped cached short_buffers view overlay_of put_back dirty_page stored small_codec small_sum small_decode small_runs small_load small_fresh importing stale refreshing marks after_commit after_import_begin after_import_chunk after_import_cancel after_import_finish after_refresh after_refresh_step short store_plan no_overlay image_bytes unchanged planned_runs commit_over restore do_import_begin do_import_chunk do_import_finish do_import_cancel do_export image_sum do_checksum do_refresh refresh_from do_refresh_step store outside open_image closing open'
c20 = (refl, (refl))

-- read in update: 35
c21 : store 2 24 3 3 95 small_codec (state 2 (of_fields magic 8 2 (6 ∷ 5 ∷ 94 ∷ 0 ∷ 44 ∷ 0 ∷ 0 ∷ 0 ∷ 0 ∷ 0 ∷ 0 ∷ 0 ∷ 24 ∷ 0 ∷ 3 ∷ 8 ∷ 3 ∷ 13 ∷ [])) true (overlay 6 6 0 0 (zeros 3) 0 (budget false 0 0 0 0 0))) (lent (6 ∷ 5 ∷ 94 ∷ 0 ∷ 44 ∷ 0 ∷ 0 ∷ 0 ∷ 0 ∷ 0 ∷ 0 ∷ 0 ∷ 24 ∷ 0 ∷ 3 ∷ 8 ∷ 3 ∷ 13 ∷ 0 ∷ 2 ∷ 3 ∷ 9 ∷ 14 ∷ 17 ∷ 1 ∷ 255 ∷ 0 ∷ 255 ∷ 0 ∷ 0 ∷ 0 ∷ 1 ∷ 154 ∷ 255 ∷ 0 ∷ 255 ∷ 255 ∷ 1 ∷ 255 ∷ 7 ∷ 1 ∷ 255 ∷ 249 ∷ 7 ∷ 255 ∷ 226 ∷ 122 ∷ zeros 25) (zeros 6) (3 ∷ 1 ∷ []) (zeros 4) (zeros 7) (zeros 16)) (read 11 (45 ∷ [])) ≡ out (state 2 (of_fields magic 8 2 (6 ∷ 5 ∷ 94 ∷ 0 ∷ 44 ∷ 0 ∷ 0 ∷ 0 ∷ 0 ∷ 0 ∷ 0 ∷ 0 ∷ 24 ∷ 0 ∷ 3 ∷ 8 ∷ 3 ∷ 13 ∷ [])) true (overlay 6 6 0 0 (zeros 3) 0 (budget false 0 0 0 0 0))) (lent (6 ∷ 5 ∷ 94 ∷ 0 ∷ 44 ∷ 0 ∷ 0 ∷ 0 ∷ 0 ∷ 0 ∷ 0 ∷ 0 ∷ 24 ∷ 0 ∷ 3 ∷ 8 ∷ 3 ∷ 13 ∷ 0 ∷ 2 ∷ 3 ∷ 9 ∷ 14 ∷ 17 ∷ 1 ∷ 255 ∷ 0 ∷ 255 ∷ 0 ∷ 0 ∷ 0 ∷ 1 ∷ 154 ∷ 255 ∷ 0 ∷ 255 ∷ 255 ∷ 1 ∷ 255 ∷ 7 ∷ 1 ∷ 255 ∷ 249 ∷ 7 ∷ 255 ∷ 226 ∷ 122 ∷ zeros 25) (zeros 6) (3 ∷ 1 ∷ []) (zeros 4) (zeros 7) (zeros 16)) (Refused (BufferTooShort)) (45 ∷ [])
unfolding count filled overwrite resize growMemory requiredPages normalized within merge insert add around piece remove flatRuns additions add_one remain plan put refill tabulate add_number_if span grown_numbers image_byte image_page push_run raw over_byte budget_bytes raised touch blank copy stretch patch finish grow grow_to chop tail truncated whole_page over_write written fresh look_up sized passing marked try_touch try_patch try_finish try_grow try_grow_to try_tail try_chop try_truncate try_write frame_count entry_count wiped cached short_buffers view overlay_of put_back dirty_page stored small_codec small_sum small_decode small_runs small_load small_fresh importing stale refreshing marks after_commit after_import_begin after_import_chunk after_import_cancel after_import_finish after_refresh after_refresh_step short store_plan no_overlay image_bytes unchanged planned_runs commit_over restore do_import_begin do_import_chunk do_import_finish do_import_cancel do_export image_sum do_checksum do_refresh refresh_from do_refresh_step store outside open_image closing open'
c21 = refl

-- refresh: 12
-- refresh: 35
-- refresh: accepted
c22 :
    (store 2 24 3 3 95 small_codec (state 1 (of_fields magic 8 2 (0 ∷ 0 ∷ 1 ∷ 2 ∷ 0 ∷ 0 ∷ 0 ∷ 0 ∷ 0 ∷ 0 ∷ 0 ∷ 0 ∷ 24 ∷ 0 ∷ 0 ∷ 8 ∷ 1 ∷ 186 ∷ [])) true (overlay 0 0 0 0 (zeros 3) 0 (budget false 0 0 0 0 0))) (lent (0 ∷ 0 ∷ 1 ∷ 2 ∷ 0 ∷ 0 ∷ 0 ∷ 0 ∷ 0 ∷ 0 ∷ 0 ∷ 0 ∷ 24 ∷ 0 ∷ 0 ∷ 8 ∷ 1 ∷ 186 ∷ 0 ∷ 6 ∷ zeros 76) (0 ∷ 0 ∷ []) (0 ∷ []) (zeros 6) (1 ∷ 3 ∷ []) (8 ∷ 7 ∷ 2 ∷ 1 ∷ 6 ∷ 4 ∷ 3 ∷ 5 ∷ 7 ∷ 1 ∷ 2 ∷ 4 ∷ [])) (refresh) ≡ out (state 1 (of_fields magic 8 2 (0 ∷ 0 ∷ 1 ∷ 2 ∷ 0 ∷ 0 ∷ 0 ∷ 0 ∷ 0 ∷ 0 ∷ 0 ∷ 0 ∷ 24 ∷ 0 ∷ 0 ∷ 8 ∷ 1 ∷ 186 ∷ [])) true (overlay 0 0 0 0 (zeros 3) 0 (budget false 0 0 0 0 0))) (lent (0 ∷ 0 ∷ 1 ∷ 2 ∷ 0 ∷ 0 ∷ 0 ∷ 0 ∷ 0 ∷ 0 ∷ 0 ∷ 0 ∷ 24 ∷ 0 ∷ 0 ∷ 8 ∷ 1 ∷ 186 ∷ 0 ∷ 6 ∷ zeros 76) (0 ∷ 0 ∷ []) (0 ∷ []) (zeros 6) (1 ∷ 3 ∷ []) (8 ∷ 7 ∷ 2 ∷ 1 ∷ 6 ∷ 4 ∷ 3 ∷ 5 ∷ 7 ∷ 1 ∷ 2 ∷ 4 ∷ [])) (Refused (UpdateInProgress)) ([])) ×
    ((store 2 24 2 3 199 small_codec (state 3 (of_fields magic 8 2 (46 ∷ 0 ∷ 0 ∷ 1 ∷ 0 ∷ 9 ∷ 0 ∷ 1 ∷ 72 ∷ 0 ∷ 0 ∷ 0 ∷ 24 ∷ 0 ∷ 23 ∷ 8 ∷ 1 ∷ 123 ∷ [])) false (overlay 0 0 0 0 (0 ∷ 0 ∷ []) 0 (budget false 0 0 0 0 0))) (lent (46 ∷ 0 ∷ 0 ∷ 1 ∷ 0 ∷ 9 ∷ 0 ∷ 1 ∷ 72 ∷ 0 ∷ 0 ∷ 0 ∷ 24 ∷ 0 ∷ 23 ∷ 8 ∷ 1 ∷ 123 ∷ 0 ∷ 23 ∷ zeros 51) ([]) ([]) (4 ∷ 5 ∷ 7 ∷ 5 ∷ []) ([]) (6 ∷ 4 ∷ 5 ∷ 2 ∷ 8 ∷ 2 ∷ 6 ∷ 3 ∷ [])) (refresh) ≡ out (state 3 (of_fields magic 8 2 (46 ∷ 0 ∷ 0 ∷ 1 ∷ 0 ∷ 9 ∷ 0 ∷ 1 ∷ 72 ∷ 0 ∷ 0 ∷ 0 ∷ 24 ∷ 0 ∷ 23 ∷ 8 ∷ 1 ∷ 123 ∷ [])) false (overlay 0 0 0 0 (0 ∷ 0 ∷ []) 0 (budget false 0 0 0 0 0))) (lent (46 ∷ 0 ∷ 0 ∷ 1 ∷ 0 ∷ 9 ∷ 0 ∷ 1 ∷ 72 ∷ 0 ∷ 0 ∷ 0 ∷ 24 ∷ 0 ∷ 23 ∷ 8 ∷ 1 ∷ 123 ∷ 0 ∷ 23 ∷ zeros 51) ([]) ([]) (4 ∷ 5 ∷ 7 ∷ 5 ∷ []) ([]) (6 ∷ 4 ∷ 5 ∷ 2 ∷ 8 ∷ 2 ∷ 6 ∷ 3 ∷ [])) (Refused (BufferTooShort)) ([])) ×
    ((store 2 24 3 3 95 small_codec (state 1 (of_fields magic 8 2 (0 ∷ 0 ∷ 0 ∷ 0 ∷ 1 ∷ 0 ∷ 0 ∷ 0 ∷ 0 ∷ 0 ∷ 0 ∷ 0 ∷ 24 ∷ 0 ∷ 0 ∷ 8 ∷ 0 ∷ 184 ∷ [])) false (overlay 0 0 0 0 (zeros 3) 0 (budget false 0 0 0 0 0))) (lent (0 ∷ 0 ∷ 0 ∷ 0 ∷ 1 ∷ 0 ∷ 0 ∷ 0 ∷ 0 ∷ 0 ∷ 0 ∷ 0 ∷ 24 ∷ 0 ∷ 0 ∷ 8 ∷ 0 ∷ 184 ∷ zeros 30) (zeros 8) (zeros 4) (1 ∷ 7 ∷ 7 ∷ 8 ∷ 2 ∷ 5 ∷ []) (zeros 6) (zeros 24)) (refresh) ≡ out (state 1 (of_fields magic 8 2 (0 ∷ 0 ∷ 0 ∷ 0 ∷ 1 ∷ 0 ∷ 0 ∷ 0 ∷ 0 ∷ 0 ∷ 0 ∷ 0 ∷ 24 ∷ 0 ∷ 0 ∷ 8 ∷ 0 ∷ 184 ∷ [])) false (overlay 0 0 0 0 (zeros 3) 0 (budget false 0 0 0 0 0))) (lent (0 ∷ 0 ∷ 0 ∷ 0 ∷ 1 ∷ 0 ∷ 0 ∷ 0 ∷ 0 ∷ 0 ∷ 0 ∷ 0 ∷ 24 ∷ 0 ∷ 0 ∷ 8 ∷ 0 ∷ 184 ∷ zeros 30) (zeros 8) (zeros 4) (1 ∷ 7 ∷ 7 ∷ 8 ∷ 2 ∷ 5 ∷ []) (zeros 6) (zeros 24)) (Checksum 1) ([]))))
unfolding count filled overwrite resize growMemory requiredPages normalized within merge insert add around piece remove flatRuns additions add_one remain plan put refill tabulate add_number_if span grown_numbers image_byte image_page push_run raw over_byte budget_bytes raised touch blank copy stretch patch finish grow grow_to chop tail truncated whole_page over_write written fresh look_up sized passing marked try_touch try_patch try_finish try_grow try_grow_to try_tail try_chop try_truncate try_write frame_count entry_count wiped cached short_buffers view overlay_of put_back dirty_page stored small_codec small_sum small_decode small_runs small_load small_fresh importing stale refreshing marks after_commit after_import_begin after_import_chunk after_import_cancel after_import_finish after_refresh after_refresh_step short store_plan no_overlay image_bytes unchanged planned_runs commit_over restore do_import_begin do_import_chunk do_import_finish do_import_cancel do_export image_sum do_checksum do_refresh refresh_from do_refresh_step store outside open_image closing open'
c22 = (refl, (refl, (refl)))

-- refresh_step: 10
-- refresh_step: 35
-- refresh_step: accepted
c23 :
    (store 2 24 2 3 199 small_codec (state 2 (of_fields magic 8 2 (1 ∷ 0 ∷ 0 ∷ 1 ∷ 0 ∷ 71 ∷ 0 ∷ 2 ∷ 48 ∷ 0 ∷ 0 ∷ 0 ∷ 24 ∷ 0 ∷ 1 ∷ 8 ∷ 0 ∷ 233 ∷ [])) false (overlay 0 0 0 0 (0 ∷ 0 ∷ []) 0 (budget false 0 0 0 0 0))) (lent (1 ∷ 0 ∷ 0 ∷ 1 ∷ 0 ∷ 71 ∷ 0 ∷ 2 ∷ 48 ∷ 0 ∷ 0 ∷ 0 ∷ 24 ∷ 0 ∷ 1 ∷ 8 ∷ 0 ∷ 233 ∷ zeros 30) (3 ∷ 2 ∷ 8 ∷ []) (6 ∷ []) (2 ∷ 2 ∷ 2 ∷ 7 ∷ []) (8 ∷ 2 ∷ 6 ∷ 7 ∷ 7 ∷ 8 ∷ []) (5 ∷ 3 ∷ 8 ∷ 6 ∷ 4 ∷ 3 ∷ 3 ∷ 4 ∷ 8 ∷ 3 ∷ 5 ∷ 5 ∷ 3 ∷ [])) (refresh_step 2) ≡ out (state 2 (of_fields magic 8 2 (1 ∷ 0 ∷ 0 ∷ 1 ∷ 0 ∷ 71 ∷ 0 ∷ 2 ∷ 48 ∷ 0 ∷ 0 ∷ 0 ∷ 24 ∷ 0 ∷ 1 ∷ 8 ∷ 0 ∷ 233 ∷ [])) false (overlay 0 0 0 0 (0 ∷ 0 ∷ []) 0 (budget false 0 0 0 0 0))) (lent (1 ∷ 0 ∷ 0 ∷ 1 ∷ 0 ∷ 71 ∷ 0 ∷ 2 ∷ 48 ∷ 0 ∷ 0 ∷ 0 ∷ 24 ∷ 0 ∷ 1 ∷ 8 ∷ 0 ∷ 233 ∷ zeros 30) (3 ∷ 2 ∷ 8 ∷ []) (6 ∷ []) (2 ∷ 2 ∷ 2 ∷ 7 ∷ []) (8 ∷ 2 ∷ 6 ∷ 7 ∷ 7 ∷ 8 ∷ []) (5 ∷ 3 ∷ 8 ∷ 6 ∷ 4 ∷ 3 ∷ 3 ∷ 4 ∷ 8 ∷ 3 ∷ 5 ∷ 5 ∷ 3 ∷ [])) (Refused (ImportAlreadyStarted)) ([])) ×
    ((store 2 24 2 3 199 small_codec (state 1 (of_fields magic 8 2 (0 ∷ 0 ∷ 0 ∷ 0 ∷ 0 ∷ 0 ∷ 0 ∷ 0 ∷ 0 ∷ 0 ∷ 0 ∷ 0 ∷ 24 ∷ 0 ∷ 0 ∷ 8 ∷ 0 ∷ 53 ∷ [])) true (overlay 0 1 1 3 (0 ∷ 0 ∷ []) 0 (budget false 0 0 0 0 0))) (lent (0 ∷ 0 ∷ 0 ∷ 0 ∷ 0 ∷ 0 ∷ 0 ∷ 0 ∷ 0 ∷ 0 ∷ 0 ∷ 0 ∷ 24 ∷ 0 ∷ 0 ∷ 8 ∷ 0 ∷ 53 ∷ zeros 4) (1 ∷ 0 ∷ 8 ∷ 8 ∷ 2 ∷ 2 ∷ 3 ∷ 3 ∷ 6 ∷ 2 ∷ 8 ∷ 7 ∷ 2 ∷ 2 ∷ []) (0 ∷ 6 ∷ 8 ∷ 7 ∷ 5 ∷ 4 ∷ []) (6 ∷ 5 ∷ 2 ∷ 7 ∷ 6 ∷ []) (0 ∷ 1 ∷ 1 ∷ 2 ∷ 1 ∷ 2 ∷ zeros 5) (zeros 36)) (refresh_step 4) ≡ out (state 1 (of_fields magic 8 2 (0 ∷ 0 ∷ 0 ∷ 0 ∷ 0 ∷ 0 ∷ 0 ∷ 0 ∷ 0 ∷ 0 ∷ 0 ∷ 0 ∷ 24 ∷ 0 ∷ 0 ∷ 8 ∷ 0 ∷ 53 ∷ [])) true (overlay 0 1 1 3 (0 ∷ 0 ∷ []) 0 (budget false 0 0 0 0 0))) (lent (0 ∷ 0 ∷ 0 ∷ 0 ∷ 0 ∷ 0 ∷ 0 ∷ 0 ∷ 0 ∷ 0 ∷ 0 ∷ 0 ∷ 24 ∷ 0 ∷ 0 ∷ 8 ∷ 0 ∷ 53 ∷ zeros 4) (1 ∷ 0 ∷ 8 ∷ 8 ∷ 2 ∷ 2 ∷ 3 ∷ 3 ∷ 6 ∷ 2 ∷ 8 ∷ 7 ∷ 2 ∷ 2 ∷ []) (0 ∷ 6 ∷ 8 ∷ 7 ∷ 5 ∷ 4 ∷ []) (6 ∷ 5 ∷ 2 ∷ 7 ∷ 6 ∷ []) (0 ∷ 1 ∷ 1 ∷ 2 ∷ 1 ∷ 2 ∷ zeros 5) (zeros 36)) (Refused (BufferTooShort)) ([])) ×
    ((store 2 24 3 3 95 small_codec (state 1 (of_fields magic 8 2 (0 ∷ 0 ∷ 0 ∷ 0 ∷ 0 ∷ 0 ∷ 0 ∷ 0 ∷ 0 ∷ 0 ∷ 0 ∷ 0 ∷ 24 ∷ 0 ∷ 0 ∷ 8 ∷ 0 ∷ 53 ∷ [])) false (overlay 0 0 0 0 (zeros 3) 0 (budget false 0 0 0 0 0))) (lent (0 ∷ 0 ∷ 0 ∷ 0 ∷ 0 ∷ 0 ∷ 0 ∷ 0 ∷ 0 ∷ 0 ∷ 0 ∷ 0 ∷ 24 ∷ 0 ∷ 0 ∷ 8 ∷ 0 ∷ 53 ∷ zeros 126) (2 ∷ 5 ∷ 4 ∷ 4 ∷ 5 ∷ 4 ∷ 8 ∷ 8 ∷ []) (zeros 3) (zeros 9) (zeros 7) (zeros 21)) (refresh_step 95) ≡ out (state 1 (of_fields magic 8 2 (0 ∷ 0 ∷ 0 ∷ 0 ∷ 1 ∷ 0 ∷ 0 ∷ 0 ∷ 0 ∷ 0 ∷ 0 ∷ 0 ∷ 24 ∷ 0 ∷ 0 ∷ 8 ∷ 0 ∷ 184 ∷ [])) false (overlay 0 0 0 0 (zeros 3) 0 (budget false 0 0 0 0 0))) (lent (0 ∷ 0 ∷ 0 ∷ 0 ∷ 1 ∷ 0 ∷ 0 ∷ 0 ∷ 0 ∷ 0 ∷ 0 ∷ 0 ∷ 24 ∷ 0 ∷ 0 ∷ 8 ∷ 0 ∷ 184 ∷ zeros 126) (2 ∷ 5 ∷ 4 ∷ 4 ∷ 5 ∷ 4 ∷ 8 ∷ 8 ∷ []) (zeros 3) (zeros 9) (zeros 7) (zeros 21)) (refreshed true 1 0 0) ([]))))
unfolding count filled overwrite resize growMemory requiredPages normalized within merge insert add around piece remove flatRuns additions add_one remain plan put refill tabulate add_number_if span grown_numbers image_byte image_page push_run raw over_byte budget_bytes raised touch blank copy stretch patch finish grow grow_to chop tail truncated whole_page over_write written fresh look_up sized passing marked try_touch try_patch try_finish try_grow try_grow_to try_tail try_chop try_truncate try_write frame_count entry_count wiped cached short_buffers view overlay_of put_back dirty_page stored small_codec small_sum small_decode small_runs small_load small_fresh importing stale refreshing marks after_commit after_import_begin after_import_chunk after_import_cancel after_import_finish after_refresh after_refresh_step short store_plan no_overlay image_bytes unchanged planned_runs commit_over restore do_import_begin do_import_chunk do_import_finish do_import_cancel do_export image_sum do_checksum do_refresh refresh_from do_refresh_step store outside open_image closing open'
c23 = (refl, (refl, (refl)))

-- rollback direct: 35
-- rollback direct: accepted
c24 :
    (store 4 24 2 3 199 small_codec (state 2 (of_fields magic 8 2 (0 ∷ 5 ∷ 0 ∷ 0 ∷ 139 ∷ 18 ∷ 27 ∷ 11 ∷ 16 ∷ 16 ∷ 11 ∷ 11 ∷ 48 ∷ 5 ∷ 24 ∷ 8 ∷ 0 ∷ 68 ∷ [])) false (overlay 0 0 0 0 (0 ∷ 0 ∷ []) 0 (budget false 0 0 0 0 0))) (lent (0 ∷ 5 ∷ 0 ∷ 0 ∷ 139 ∷ 18 ∷ 27 ∷ 11 ∷ 16 ∷ 16 ∷ 11 ∷ 11 ∷ 48 ∷ 5 ∷ 24 ∷ 8 ∷ 0 ∷ 68 ∷ 0 ∷ 0 ∷ 255 ∷ 255 ∷ 0 ∷ 1 ∷ 7 ∷ 0 ∷ 7 ∷ 1 ∷ 7 ∷ 31 ∷ 173 ∷ 255 ∷ 1 ∷ 1 ∷ 1 ∷ 255 ∷ 7 ∷ 7 ∷ 1 ∷ 7 ∷ 1 ∷ 1 ∷ 1 ∷ 255 ∷ 7 ∷ 0 ∷ 1 ∷ 1 ∷ zeros 31) (0 ∷ 0 ∷ 0 ∷ 0 ∷ 0 ∷ 0 ∷ 0 ∷ 0 ∷ 0 ∷ 0 ∷ 0 ∷ 0 ∷ 0 ∷ 4 ∷ 3 ∷ 2 ∷ 4 ∷ 2 ∷ 5 ∷ 4 ∷ 3 ∷ 5 ∷ 6 ∷ 7 ∷ 8 ∷ 4 ∷ []) (0 ∷ 0 ∷ 6 ∷ 8 ∷ 2 ∷ []) (zeros 7) (3 ∷ 7 ∷ 1 ∷ 2 ∷ 5 ∷ 3 ∷ 1 ∷ 7 ∷ 7 ∷ 2 ∷ 5 ∷ []) (8 ∷ 5 ∷ 4 ∷ 3 ∷ 4 ∷ 8 ∷ 8 ∷ 8 ∷ 3 ∷ 3 ∷ 4 ∷ 2 ∷ 1 ∷ 1 ∷ 2 ∷ 4 ∷ 2 ∷ 3 ∷ 2 ∷ 4 ∷ 2 ∷ 8 ∷ 3 ∷ 5 ∷ 6 ∷ 4 ∷ 3 ∷ 5 ∷ [])) (rollback) ≡ out (state 2 (of_fields magic 8 2 (0 ∷ 5 ∷ 0 ∷ 0 ∷ 139 ∷ 18 ∷ 27 ∷ 11 ∷ 16 ∷ 16 ∷ 11 ∷ 11 ∷ 48 ∷ 5 ∷ 24 ∷ 8 ∷ 0 ∷ 68 ∷ [])) false (overlay 0 0 0 0 (0 ∷ 0 ∷ []) 0 (budget false 0 0 0 0 0))) (lent (0 ∷ 5 ∷ 0 ∷ 0 ∷ 139 ∷ 18 ∷ 27 ∷ 11 ∷ 16 ∷ 16 ∷ 11 ∷ 11 ∷ 48 ∷ 5 ∷ 24 ∷ 8 ∷ 0 ∷ 68 ∷ 0 ∷ 0 ∷ 255 ∷ 255 ∷ 0 ∷ 1 ∷ 7 ∷ 0 ∷ 7 ∷ 1 ∷ 7 ∷ 31 ∷ 173 ∷ 255 ∷ 1 ∷ 1 ∷ 1 ∷ 255 ∷ 7 ∷ 7 ∷ 1 ∷ 7 ∷ 1 ∷ 1 ∷ 1 ∷ 255 ∷ 7 ∷ 0 ∷ 1 ∷ 1 ∷ zeros 31) (0 ∷ 0 ∷ 0 ∷ 0 ∷ 0 ∷ 0 ∷ 0 ∷ 0 ∷ 0 ∷ 0 ∷ 0 ∷ 0 ∷ 0 ∷ 4 ∷ 3 ∷ 2 ∷ 4 ∷ 2 ∷ 5 ∷ 4 ∷ 3 ∷ 5 ∷ 6 ∷ 7 ∷ 8 ∷ 4 ∷ []) (0 ∷ 0 ∷ 6 ∷ 8 ∷ 2 ∷ []) (zeros 7) (3 ∷ 7 ∷ 1 ∷ 2 ∷ 5 ∷ 3 ∷ 1 ∷ 7 ∷ 7 ∷ 2 ∷ 5 ∷ []) (8 ∷ 5 ∷ 4 ∷ 3 ∷ 4 ∷ 8 ∷ 8 ∷ 8 ∷ 3 ∷ 3 ∷ 4 ∷ 2 ∷ 1 ∷ 1 ∷ 2 ∷ 4 ∷ 2 ∷ 3 ∷ 2 ∷ 4 ∷ 2 ∷ 8 ∷ 3 ∷ 5 ∷ 6 ∷ 4 ∷ 3 ∷ 5 ∷ [])) (Refused (BufferTooShort)) ([])) ×
    ((store 4 24 2 3 199 small_codec (state 1 (of_fields magic 8 2 (0 ∷ 0 ∷ 1 ∷ 2 ∷ 0 ∷ 0 ∷ 0 ∷ 0 ∷ 0 ∷ 0 ∷ 0 ∷ 0 ∷ 24 ∷ 0 ∷ 0 ∷ 8 ∷ 1 ∷ 181 ∷ [])) false (overlay 0 0 0 0 (0 ∷ 0 ∷ []) 0 (budget false 0 0 0 0 0))) (lent (0 ∷ 0 ∷ 1 ∷ 2 ∷ 0 ∷ 0 ∷ 0 ∷ 0 ∷ 0 ∷ 0 ∷ 0 ∷ 0 ∷ 24 ∷ 0 ∷ 0 ∷ 8 ∷ 1 ∷ 181 ∷ 0 ∷ 1 ∷ zeros 35) (zeros 8) (1 ∷ 1 ∷ []) (zeros 9) (3 ∷ 5 ∷ []) (zeros 16)) (rollback) ≡ out (state 1 (of_fields magic 8 2 (0 ∷ 0 ∷ 1 ∷ 2 ∷ 0 ∷ 0 ∷ 0 ∷ 0 ∷ 0 ∷ 0 ∷ 0 ∷ 0 ∷ 24 ∷ 0 ∷ 0 ∷ 8 ∷ 1 ∷ 181 ∷ [])) false (overlay 0 0 0 0 (0 ∷ 0 ∷ []) 0 (budget false 0 0 0 0 0))) (lent (0 ∷ 0 ∷ 1 ∷ 2 ∷ 0 ∷ 0 ∷ 0 ∷ 0 ∷ 0 ∷ 0 ∷ 0 ∷ 0 ∷ 24 ∷ 0 ∷ 0 ∷ 8 ∷ 1 ∷ 181 ∷ 0 ∷ 1 ∷ zeros 35) (zeros 8) (1 ∷ 1 ∷ []) (zeros 9) (3 ∷ 5 ∷ []) (zeros 16)) (Done) ([])))
unfolding count filled overwrite resize growMemory requiredPages normalized within merge insert add around piece remove flatRuns additions add_one remain plan put refill tabulate add_number_if span grown_numbers image_byte image_page push_run raw over_byte budget_bytes raised touch blank copy stretch patch finish grow grow_to chop tail truncated whole_page over_write written fresh look_up sized passing marked try_touch try_patch try_finish try_grow try_grow_to try_tail try_chop try_truncate try_write frame_count entry_count wiped cached short_buffers view overlay_of put_back dirty_page stored small_codec small_sum small_decode small_runs small_load small_fresh importing stale refreshing marks after_commit after_import_begin after_import_chunk after_import_cancel after_import_finish after_refresh after_refresh_step short store_plan no_overlay image_bytes unchanged planned_runs commit_over restore do_import_begin do_import_chunk do_import_finish do_import_cancel do_export image_sum do_checksum do_refresh refresh_from do_refresh_step store outside open_image closing open'
c24 = (refl, (refl))

-- rollback in update: 35
-- rollback in update: accepted
c25 :
    (store 2 24 3 3 95 small_codec (state 1 (of_fields magic 8 2 (0 ∷ 0 ∷ 0 ∷ 0 ∷ 0 ∷ 0 ∷ 0 ∷ 0 ∷ 0 ∷ 0 ∷ 0 ∷ 0 ∷ 24 ∷ 0 ∷ 0 ∷ 8 ∷ 0 ∷ 53 ∷ [])) true (overlay 0 2 1 2 (zeros 3) 0 (budget false 0 0 0 0 0))) (lent (0 ∷ 0 ∷ 0 ∷ 0 ∷ 0 ∷ 0 ∷ 0 ∷ 0 ∷ 0 ∷ 0 ∷ 0 ∷ 0 ∷ 24 ∷ 0 ∷ 0 ∷ 8 ∷ 0 ∷ 53 ∷ 0 ∷ 0 ∷ 0 ∷ 0 ∷ 0 ∷ 0 ∷ 1 ∷ []) (218 ∷ 0 ∷ 2 ∷ 6 ∷ []) (0 ∷ 6 ∷ []) (6 ∷ 6 ∷ 6 ∷ 7 ∷ 1 ∷ 3 ∷ []) (0 ∷ 2 ∷ 1 ∷ []) (8 ∷ 6 ∷ 4 ∷ 8 ∷ 6 ∷ 4 ∷ 6 ∷ 2 ∷ 1 ∷ 5 ∷ 3 ∷ 5 ∷ 7 ∷ 1 ∷ 6 ∷ 3 ∷ 8 ∷ [])) (rollback) ≡ out (state 1 (of_fields magic 8 2 (0 ∷ 0 ∷ 0 ∷ 0 ∷ 0 ∷ 0 ∷ 0 ∷ 0 ∷ 0 ∷ 0 ∷ 0 ∷ 0 ∷ 24 ∷ 0 ∷ 0 ∷ 8 ∷ 0 ∷ 53 ∷ [])) true (overlay 0 2 1 2 (zeros 3) 0 (budget false 0 0 0 0 0))) (lent (0 ∷ 0 ∷ 0 ∷ 0 ∷ 0 ∷ 0 ∷ 0 ∷ 0 ∷ 0 ∷ 0 ∷ 0 ∷ 0 ∷ 24 ∷ 0 ∷ 0 ∷ 8 ∷ 0 ∷ 53 ∷ 0 ∷ 0 ∷ 0 ∷ 0 ∷ 0 ∷ 0 ∷ 1 ∷ []) (218 ∷ 0 ∷ 2 ∷ 6 ∷ []) (0 ∷ 6 ∷ []) (6 ∷ 6 ∷ 6 ∷ 7 ∷ 1 ∷ 3 ∷ []) (0 ∷ 2 ∷ 1 ∷ []) (8 ∷ 6 ∷ 4 ∷ 8 ∷ 6 ∷ 4 ∷ 6 ∷ 2 ∷ 1 ∷ 5 ∷ 3 ∷ 5 ∷ 7 ∷ 1 ∷ 6 ∷ 3 ∷ 8 ∷ [])) (Refused (BufferTooShort)) ([])) ×
    ((store 2 24 2 3 199 small_codec (state 1 (of_fields magic 8 2 (0 ∷ 0 ∷ 0 ∷ 0 ∷ 0 ∷ 0 ∷ 0 ∷ 0 ∷ 0 ∷ 0 ∷ 0 ∷ 0 ∷ 24 ∷ 0 ∷ 0 ∷ 8 ∷ 0 ∷ 53 ∷ [])) true (overlay 0 0 0 5 (0 ∷ 0 ∷ []) 0 (budget true 3 5 2 2 4))) (lent (0 ∷ 0 ∷ 0 ∷ 0 ∷ 0 ∷ 0 ∷ 0 ∷ 0 ∷ 0 ∷ 0 ∷ 0 ∷ 0 ∷ 24 ∷ 0 ∷ 0 ∷ 8 ∷ 0 ∷ 53 ∷ zeros 54) (0 ∷ 0 ∷ []) (0 ∷ []) (zeros 4) (0 ∷ 1 ∷ 0 ∷ 1 ∷ 0 ∷ 3 ∷ 0 ∷ 15 ∷ 0 ∷ 1 ∷ 0 ∷ 0 ∷ []) (zeros 12)) (rollback) ≡ out (state 1 (of_fields magic 8 2 (0 ∷ 0 ∷ 0 ∷ 0 ∷ 0 ∷ 0 ∷ 0 ∷ 0 ∷ 0 ∷ 0 ∷ 0 ∷ 0 ∷ 24 ∷ 0 ∷ 0 ∷ 8 ∷ 0 ∷ 53 ∷ [])) false (overlay 0 0 0 0 (0 ∷ 0 ∷ []) 0 (budget false 0 0 0 0 0))) (lent (0 ∷ 0 ∷ 0 ∷ 0 ∷ 0 ∷ 0 ∷ 0 ∷ 0 ∷ 0 ∷ 0 ∷ 0 ∷ 0 ∷ 24 ∷ 0 ∷ 0 ∷ 8 ∷ 0 ∷ 53 ∷ zeros 54) (0 ∷ 0 ∷ []) (0 ∷ []) (zeros 4) (zeros 12) (zeros 12)) (Done) ([])))
unfolding count filled overwrite resize growMemory requiredPages normalized within merge insert add around piece remove flatRuns additions add_one remain plan put refill tabulate add_number_if span grown_numbers image_byte image_page push_run raw over_byte budget_bytes raised touch blank copy stretch patch finish grow grow_to chop tail truncated whole_page over_write written fresh look_up sized passing marked try_touch try_patch try_finish try_grow try_grow_to try_tail try_chop try_truncate try_write frame_count entry_count wiped cached short_buffers view overlay_of put_back dirty_page stored small_codec small_sum small_decode small_runs small_load small_fresh importing stale refreshing marks after_commit after_import_begin after_import_chunk after_import_cancel after_import_finish after_refresh after_refresh_step short store_plan no_overlay image_bytes unchanged planned_runs commit_over restore do_import_begin do_import_chunk do_import_finish do_import_cancel do_export image_sum do_checksum do_refresh refresh_from do_refresh_step store outside open_image closing open'
c25 = (refl, (refl))
