-- Calls of the store, compared with a model: made by tools/compare/compare.py keep (seed 1), not by hand.
use Rattle.std.specs.Prelude.{◌≡◌, refl, ℕ, Bool, true, false, List, [], ◌∷◌, ◌++◌}
use Rattle.config.specs.declared.refusal.Refusal.TheVariants.{ForeignStableMemoryImage, UnsupportedLayoutVersion, MetaChecksumMismatch, ImageOutOfMemory, ImportAlreadyStarted, ImportNotStarted, UpdateInProgress, UpdateBegunTwice, OffsetOverflow, ImportOutOfOrder, ImportOutOfBounds, ImportIncomplete, ChecksumMismatch, ChecksumRefreshChunkEmpty, BudgetExceeded, ZeroExtentLimitExceeded, GrowFailed, FramesFull, RecordFull, BufferTooShort}
use Rattle.store.specs.declared.State.{State}
use Rattle.store.specs.Answers.{Done, Size, Read, Exported, Checksum, Refreshed, Refused}
use Rattle.compared.specs.Shapes.{budget, overlay, state, lent, refreshed, opened}
use Rattle.config.specs.Pages.{count}
use Rattle.memory.specs.Bytes.{zeros, filled, overwrite, resize}
use Rattle.memory.specs.Growth.{stable, grow_to as growMemory, required as requiredPages}
use Rattle.meta.specs.Runs.{normalized}
use Rattle.meta.specs.Block.{magic, of_fields, field_offset, fields_in, decode as decodeBlock, checksum_of, seal, prefix, encoded_len, block_bytes, encode, header, header_of, fresh as freshBlock}
use Rattle.words.specs.Words.{word, word_at}
use Rattle.fnv.specs.Fnv.{mixed, step, fold, fnv1a64}
use Rattle.meta_load.specs.Load.{load as loadBlock, judge, block_runs, checksum_in}
use Rattle.runs.specs.Sets.{within, merge, insert, add, around, piece, remove}
use Rattle.runs.specs.Flat.{runs_in as flatRuns}
use Rattle.image_runs.specs.Image.{image_numbers, image_count}
use Rattle.extents.specs.Plan.{additions, add_one, remain, plan}
use Rattle.update.specs.Lists.{put, refill, tabulate}
use Rattle.update.specs.Pages.{add_number_if, span, grown_numbers}
use Rattle.update.specs.Image.{image_byte, image_page}
use Rattle.update.specs.Update.{push_run, raw, over_byte, budget_bytes, raised, touch, blank, copy, stretch, patch, finish, grow, grow_to, chop, tail, truncated, whole_page, over_write, written, fresh, look_up, sized, passing, marked, try_touch, try_patch, try_finish, try_grow, try_grow_to, try_tail, try_chop, try_truncate, try_write}
use Rattle.update.specs.Buffers.{frame_count, entry_count, wiped, cached, short_buffers, view, overlay_of, put_back, dirty_page}
use Rattle.store.specs.Codec.{stored}
use Rattle.store.specs.Codec.{real_codec}
use Rattle.store.specs.Small.{small_codec, small_sum, small_decode, small_runs, small_load, small_fresh}
use Rattle.store.specs.Blocks.{importing, stale, refreshing, marks, after_commit, after_import_begin, after_import_chunk, after_import_cancel, after_import_finish, after_refresh, after_refresh_step}
use Rattle.store.specs.Calls.{begin, read, write, truncate, commit, rollback, file_size, import_begin, import_chunk, import_finish, import_cancel, export, checksum, refresh, refresh_step, Lent, Out, out, mode_of, short}
use Rattle.store.specs.Plan.{store_plan}
use Rattle.store.specs.Store.{dirty_in, no_overlay, image_bytes, unchanged, planned_runs, commit_over, restore, do_import_begin, do_import_chunk, do_import_finish, do_import_cancel, do_export, image_sum, do_checksum, do_refresh, refresh_from, do_refresh_step, store}
use Rattle.store.specs.Opening.{Opened, outside, open_image, closing, open'}

-- truncate direct: 20
-- truncate direct: 31
-- truncate direct: 32
-- truncate direct: 33
-- truncate direct: 34
-- truncate direct: 35
c26 :
    (store 4 24 2 3 199 small_codec (state 2 (of_fields magic 8 2 (8 ∷ 0 ∷ 1 ∷ 2 ∷ 0 ∷ 0 ∷ 0 ∷ 0 ∷ 0 ∷ 0 ∷ 0 ∷ 0 ∷ 24 ∷ 0 ∷ 2 ∷ 8 ∷ 1 ∷ 189 ∷ [])) false (overlay 0 0 0 0 (0 ∷ 0 ∷ []) 0 (budget false 0 0 0 0 0))) (lent (8 ∷ 0 ∷ 1 ∷ 2 ∷ 0 ∷ 0 ∷ 0 ∷ 0 ∷ 0 ∷ 0 ∷ 0 ∷ 0 ∷ 24 ∷ 0 ∷ 2 ∷ 8 ∷ 1 ∷ 189 ∷ 0 ∷ 44 ∷ zeros 28) (8 ∷ 2 ∷ 6 ∷ 3 ∷ []) (0 ∷ []) (zeros 8) (5 ∷ 7 ∷ []) (zeros 12)) (truncate 195) ≡ out (state 2 (of_fields magic 8 2 (8 ∷ 0 ∷ 1 ∷ 2 ∷ 0 ∷ 0 ∷ 0 ∷ 0 ∷ 0 ∷ 0 ∷ 0 ∷ 0 ∷ 24 ∷ 0 ∷ 2 ∷ 8 ∷ 1 ∷ 189 ∷ [])) false (overlay 0 0 0 0 (0 ∷ 0 ∷ []) 0 (budget false 0 0 0 0 0))) (lent (8 ∷ 0 ∷ 1 ∷ 2 ∷ 0 ∷ 0 ∷ 0 ∷ 0 ∷ 0 ∷ 0 ∷ 0 ∷ 0 ∷ 24 ∷ 0 ∷ 2 ∷ 8 ∷ 1 ∷ 189 ∷ 0 ∷ 44 ∷ zeros 28) (zeros 4) (0 ∷ []) (zeros 8) (0 ∷ 0 ∷ []) (zeros 12)) (Refused (OffsetOverflow)) ([])) ×
    ((store 4 24 2 3 199 small_codec (state 2 (of_fields magic 8 2 (20 ∷ 0 ∷ 0 ∷ 0 ∷ 0 ∷ 0 ∷ 0 ∷ 0 ∷ 0 ∷ 0 ∷ 0 ∷ 0 ∷ 24 ∷ 0 ∷ 0 ∷ 8 ∷ 3 ∷ 4 ∷ [])) false (overlay 0 0 0 0 (0 ∷ 0 ∷ []) 0 (budget false 0 0 0 0 0))) (lent (20 ∷ 0 ∷ 0 ∷ 0 ∷ 0 ∷ 0 ∷ 0 ∷ 0 ∷ 0 ∷ 0 ∷ 0 ∷ 0 ∷ 24 ∷ 0 ∷ 0 ∷ 8 ∷ 3 ∷ 4 ∷ 9 ∷ 10 ∷ 20 ∷ 21 ∷ 30 ∷ 31 ∷ 1 ∷ 7 ∷ 1 ∷ 0 ∷ 91 ∷ 0 ∷ 1 ∷ 7 ∷ 176 ∷ 1 ∷ 7 ∷ 255 ∷ 7 ∷ 0 ∷ 0 ∷ 7 ∷ 0 ∷ 0 ∷ 0 ∷ 1 ∷ 255 ∷ 0 ∷ 1 ∷ zeros 32) ([]) ([]) (0 ∷ 0 ∷ 0 ∷ 0 ∷ 0 ∷ 0 ∷ 0 ∷ 0 ∷ 4 ∷ []) (8 ∷ 4 ∷ 2 ∷ 3 ∷ 5 ∷ 4 ∷ 3 ∷ 4 ∷ 6 ∷ []) (zeros 9)) (truncate 8) ≡ out (state 2 (of_fields magic 8 2 (20 ∷ 0 ∷ 0 ∷ 0 ∷ 0 ∷ 0 ∷ 0 ∷ 0 ∷ 0 ∷ 0 ∷ 0 ∷ 0 ∷ 24 ∷ 0 ∷ 0 ∷ 8 ∷ 3 ∷ 4 ∷ [])) false (overlay 0 0 0 0 (0 ∷ 0 ∷ []) 0 (budget false 0 0 0 0 0))) (lent (20 ∷ 0 ∷ 0 ∷ 0 ∷ 0 ∷ 0 ∷ 0 ∷ 0 ∷ 0 ∷ 0 ∷ 0 ∷ 0 ∷ 24 ∷ 0 ∷ 0 ∷ 8 ∷ 3 ∷ 4 ∷ 9 ∷ 10 ∷ 20 ∷ 21 ∷ 30 ∷ 31 ∷ 1 ∷ 7 ∷ 1 ∷ 0 ∷ 91 ∷ 0 ∷ 1 ∷ 7 ∷ 176 ∷ 1 ∷ 7 ∷ 255 ∷ 7 ∷ 0 ∷ 0 ∷ 7 ∷ 0 ∷ 0 ∷ 0 ∷ 1 ∷ 255 ∷ 0 ∷ 1 ∷ zeros 32) ([]) ([]) (zeros 9) (zeros 9) (zeros 9)) (Refused (ZeroExtentLimitExceeded)) ([])) ×
    ((store 2 24 2 3 199 small_codec (state 1 (of_fields magic 8 2 (0 ∷ 0 ∷ 0 ∷ 0 ∷ 0 ∷ 0 ∷ 0 ∷ 0 ∷ 0 ∷ 0 ∷ 0 ∷ 0 ∷ 24 ∷ 0 ∷ 0 ∷ 8 ∷ 0 ∷ 53 ∷ [])) false (overlay 0 0 0 0 (0 ∷ 0 ∷ []) 0 (budget false 0 0 0 0 0))) (lent (0 ∷ 0 ∷ 0 ∷ 0 ∷ 0 ∷ 0 ∷ 0 ∷ 0 ∷ 0 ∷ 0 ∷ 0 ∷ 0 ∷ 24 ∷ 0 ∷ 0 ∷ 8 ∷ 0 ∷ 53 ∷ zeros 6) (2 ∷ 8 ∷ []) (2 ∷ []) (8 ∷ 7 ∷ 7 ∷ 5 ∷ 1 ∷ 4 ∷ 8 ∷ []) (zeros 8) (6 ∷ 6 ∷ 1 ∷ 8 ∷ 6 ∷ 7 ∷ 3 ∷ 1 ∷ 2 ∷ 5 ∷ 1 ∷ 6 ∷ 3 ∷ [])) (truncate 5) ≡ out (state 1 (of_fields magic 8 2 (0 ∷ 0 ∷ 0 ∷ 0 ∷ 0 ∷ 0 ∷ 0 ∷ 0 ∷ 0 ∷ 0 ∷ 0 ∷ 0 ∷ 24 ∷ 0 ∷ 0 ∷ 8 ∷ 0 ∷ 53 ∷ [])) false (overlay 0 0 0 0 (0 ∷ 0 ∷ []) 0 (budget false 0 0 0 0 0))) (lent (0 ∷ 0 ∷ 0 ∷ 0 ∷ 0 ∷ 0 ∷ 0 ∷ 0 ∷ 0 ∷ 0 ∷ 0 ∷ 0 ∷ 24 ∷ 0 ∷ 0 ∷ 8 ∷ 0 ∷ 53 ∷ zeros 6) (0 ∷ 0 ∷ []) (0 ∷ []) (zeros 7) (zeros 8) (zeros 13)) (Refused (GrowFailed (stable 1) (stable 2))) ([])) ×
    ((store 4 24 2 3 199 small_codec (state 2 (of_fields magic 8 2 (8 ∷ 0 ∷ 1 ∷ 2 ∷ 0 ∷ 0 ∷ 0 ∷ 0 ∷ 0 ∷ 0 ∷ 0 ∷ 0 ∷ 24 ∷ 0 ∷ 2 ∷ 8 ∷ 1 ∷ 189 ∷ [])) false (overlay 0 0 0 0 (0 ∷ 0 ∷ []) 0 (budget false 0 0 0 0 0))) (lent (8 ∷ 0 ∷ 1 ∷ 2 ∷ 0 ∷ 0 ∷ 0 ∷ 0 ∷ 0 ∷ 0 ∷ 0 ∷ 0 ∷ 24 ∷ 0 ∷ 2 ∷ 8 ∷ 1 ∷ 189 ∷ 0 ∷ 44 ∷ zeros 28) (2 ∷ 4 ∷ 2 ∷ 1 ∷ []) ([]) (zeros 8) (5 ∷ 7 ∷ []) (3 ∷ 2 ∷ 8 ∷ 4 ∷ 4 ∷ 6 ∷ 2 ∷ 7 ∷ [])) (truncate 199) ≡ out (state 2 (of_fields magic 8 2 (8 ∷ 0 ∷ 1 ∷ 2 ∷ 0 ∷ 0 ∷ 0 ∷ 0 ∷ 0 ∷ 0 ∷ 0 ∷ 0 ∷ 24 ∷ 0 ∷ 2 ∷ 8 ∷ 1 ∷ 189 ∷ [])) false (overlay 0 0 0 0 (0 ∷ 0 ∷ []) 0 (budget false 0 0 0 0 0))) (lent (8 ∷ 0 ∷ 1 ∷ 2 ∷ 0 ∷ 0 ∷ 0 ∷ 0 ∷ 0 ∷ 0 ∷ 0 ∷ 0 ∷ 24 ∷ 0 ∷ 2 ∷ 8 ∷ 1 ∷ 189 ∷ 0 ∷ 44 ∷ zeros 28) (zeros 4) ([]) (zeros 8) (0 ∷ 0 ∷ []) (zeros 8)) (Refused (FramesFull)) ([])) ×
    ((store 2 24 3 3 95 small_codec (state 2 (of_fields magic 8 2 (2 ∷ 5 ∷ 1 ∷ 0 ∷ 133 ∷ 0 ∷ 0 ∷ 0 ∷ 0 ∷ 0 ∷ 0 ∷ 0 ∷ 25 ∷ 0 ∷ 1 ∷ 8 ∷ 2 ∷ 48 ∷ [])) false (overlay 0 0 0 0 (zeros 3) 0 (budget false 0 0 0 0 0))) (lent (2 ∷ 5 ∷ 1 ∷ 0 ∷ 133 ∷ 0 ∷ 0 ∷ 0 ∷ 0 ∷ 0 ∷ 0 ∷ 0 ∷ 25 ∷ 0 ∷ 1 ∷ 8 ∷ 2 ∷ 48 ∷ 9 ∷ 12 ∷ 15 ∷ 17 ∷ 1 ∷ 255 ∷ 7 ∷ 7 ∷ 5 ∷ 0 ∷ 0 ∷ 7 ∷ 0 ∷ 221 ∷ 0 ∷ 7 ∷ 7 ∷ 0 ∷ 7 ∷ 255 ∷ 128 ∷ 1 ∷ 26 ∷ 255 ∷ 255 ∷ 255 ∷ 67 ∷ 255 ∷ 7 ∷ 255 ∷ zeros 72) (1 ∷ 1 ∷ 2 ∷ 2 ∷ 6 ∷ 7 ∷ 6 ∷ []) (2 ∷ 5 ∷ 8 ∷ []) (7 ∷ 3 ∷ 4 ∷ 2 ∷ 2 ∷ 7 ∷ 8 ∷ []) (0 ∷ []) (zeros 24)) (truncate 25) ≡ out (state 2 (of_fields magic 8 2 (2 ∷ 5 ∷ 1 ∷ 0 ∷ 133 ∷ 0 ∷ 0 ∷ 0 ∷ 0 ∷ 0 ∷ 0 ∷ 0 ∷ 25 ∷ 0 ∷ 1 ∷ 8 ∷ 2 ∷ 48 ∷ [])) false (overlay 0 0 0 0 (zeros 3) 0 (budget false 0 0 0 0 0))) (lent (2 ∷ 5 ∷ 1 ∷ 0 ∷ 133 ∷ 0 ∷ 0 ∷ 0 ∷ 0 ∷ 0 ∷ 0 ∷ 0 ∷ 25 ∷ 0 ∷ 1 ∷ 8 ∷ 2 ∷ 48 ∷ 9 ∷ 12 ∷ 15 ∷ 17 ∷ 1 ∷ 255 ∷ 7 ∷ 7 ∷ 5 ∷ 0 ∷ 0 ∷ 7 ∷ 0 ∷ 221 ∷ 0 ∷ 7 ∷ 7 ∷ 0 ∷ 7 ∷ 255 ∷ 128 ∷ 1 ∷ 26 ∷ 255 ∷ 255 ∷ 255 ∷ 67 ∷ 255 ∷ 7 ∷ 255 ∷ zeros 72) (zeros 7) (zeros 3) (zeros 7) (0 ∷ []) (zeros 24)) (Refused (RecordFull)) ([])) ×
    ((store 2 24 2 3 199 small_codec (state 2 (of_fields magic 8 2 (0 ∷ 0 ∷ 0 ∷ 0 ∷ 1 ∷ 0 ∷ 0 ∷ 0 ∷ 0 ∷ 0 ∷ 0 ∷ 0 ∷ 24 ∷ 0 ∷ 0 ∷ 8 ∷ 0 ∷ 184 ∷ [])) false (overlay 0 0 0 0 (0 ∷ 0 ∷ []) 0 (budget false 0 0 0 0 0))) (lent (0 ∷ 0 ∷ 0 ∷ 0 ∷ 1 ∷ 0 ∷ 0 ∷ 0 ∷ 0 ∷ 0 ∷ 0 ∷ 0 ∷ 24 ∷ 0 ∷ 0 ∷ 8 ∷ 0 ∷ 184 ∷ 0 ∷ 0 ∷ 0 ∷ 0 ∷ 0 ∷ 0 ∷ 255 ∷ zeros 23) (zeros 18) (5 ∷ 5 ∷ 5 ∷ 2 ∷ 2 ∷ 6 ∷ 6 ∷ 5 ∷ 5 ∷ []) (1 ∷ 2 ∷ 8 ∷ 7 ∷ []) (zeros 12) (zeros 43)) (truncate 199) ≡ out (state 2 (of_fields magic 8 2 (0 ∷ 0 ∷ 0 ∷ 0 ∷ 1 ∷ 0 ∷ 0 ∷ 0 ∷ 0 ∷ 0 ∷ 0 ∷ 0 ∷ 24 ∷ 0 ∷ 0 ∷ 8 ∷ 0 ∷ 184 ∷ [])) false (overlay 0 0 0 0 (0 ∷ 0 ∷ []) 0 (budget false 0 0 0 0 0))) (lent (0 ∷ 0 ∷ 0 ∷ 0 ∷ 1 ∷ 0 ∷ 0 ∷ 0 ∷ 0 ∷ 0 ∷ 0 ∷ 0 ∷ 24 ∷ 0 ∷ 0 ∷ 8 ∷ 0 ∷ 184 ∷ 0 ∷ 0 ∷ 0 ∷ 0 ∷ 0 ∷ 0 ∷ 255 ∷ zeros 23) (zeros 18) (5 ∷ 5 ∷ 5 ∷ 2 ∷ 2 ∷ 6 ∷ 6 ∷ 5 ∷ 5 ∷ []) (1 ∷ 2 ∷ 8 ∷ 7 ∷ []) (zeros 12) (zeros 43)) (Refused (BufferTooShort)) ([])))))))
unfolding count filled overwrite resize growMemory requiredPages normalized within merge insert add around piece remove flatRuns additions add_one remain plan put refill tabulate add_number_if span grown_numbers image_byte image_page push_run raw over_byte budget_bytes raised touch blank copy stretch patch finish grow grow_to chop tail truncated whole_page over_write written fresh look_up sized passing marked try_touch try_patch try_finish try_grow try_grow_to try_tail try_chop try_truncate try_write frame_count entry_count wiped cached short_buffers view overlay_of put_back dirty_page stored small_codec small_sum small_decode small_runs small_load small_fresh importing stale refreshing marks after_commit after_import_begin after_import_chunk after_import_cancel after_import_finish after_refresh after_refresh_step short store_plan no_overlay image_bytes unchanged planned_runs commit_over restore do_import_begin do_import_chunk do_import_finish do_import_cancel do_export image_sum do_checksum do_refresh refresh_from do_refresh_step store outside open_image closing open'
c26 = (refl, (refl, (refl, (refl, (refl, (refl))))))

-- truncate in update: 20
-- truncate in update: 30
-- truncate in update: 33
-- truncate in update: 34
-- truncate in update: 35
c27 :
    (store 4 24 2 3 199 small_codec (state 2 (of_fields magic 8 2 (4 ∷ 0 ∷ 0 ∷ 0 ∷ 0 ∷ 0 ∷ 0 ∷ 0 ∷ 0 ∷ 0 ∷ 0 ∷ 0 ∷ 24 ∷ 0 ∷ 0 ∷ 8 ∷ 0 ∷ 165 ∷ [])) true (overlay 4 197 1 1 (0 ∷ 0 ∷ []) 0 (budget false 0 0 0 0 0))) (lent (4 ∷ 0 ∷ 0 ∷ 0 ∷ 0 ∷ 0 ∷ 0 ∷ 0 ∷ 0 ∷ 0 ∷ 0 ∷ 0 ∷ 24 ∷ 0 ∷ 0 ∷ 8 ∷ 0 ∷ 165 ∷ 1 ∷ 7 ∷ 158 ∷ 105 ∷ 0 ∷ 7 ∷ 7 ∷ 36 ∷ 0 ∷ 0 ∷ 164 ∷ 1 ∷ 20 ∷ 0 ∷ 21 ∷ 0 ∷ 1 ∷ 36 ∷ 1 ∷ 0 ∷ 255 ∷ 255 ∷ 255 ∷ 255 ∷ 7 ∷ 255 ∷ 92 ∷ 1 ∷ 206 ∷ 255 ∷ zeros 24) (0 ∷ 0 ∷ 0 ∷ 0 ∷ 3 ∷ 5 ∷ 8 ∷ 6 ∷ 3 ∷ 2 ∷ 1 ∷ 5 ∷ 7 ∷ 2 ∷ 7 ∷ 2 ∷ []) (49 ∷ zeros 3) (zeros 8) (1 ∷ 50 ∷ 4 ∷ 2 ∷ 6 ∷ 7 ∷ 7 ∷ 6 ∷ []) (zeros 24)) (truncate 198) ≡ out (state 2 (of_fields magic 8 2 (4 ∷ 0 ∷ 0 ∷ 0 ∷ 0 ∷ 0 ∷ 0 ∷ 0 ∷ 0 ∷ 0 ∷ 0 ∷ 0 ∷ 24 ∷ 0 ∷ 0 ∷ 8 ∷ 0 ∷ 165 ∷ [])) true (overlay 4 197 1 1 (0 ∷ 0 ∷ []) 0 (budget false 0 0 0 0 0))) (lent (4 ∷ 0 ∷ 0 ∷ 0 ∷ 0 ∷ 0 ∷ 0 ∷ 0 ∷ 0 ∷ 0 ∷ 0 ∷ 0 ∷ 24 ∷ 0 ∷ 0 ∷ 8 ∷ 0 ∷ 165 ∷ 1 ∷ 7 ∷ 158 ∷ 105 ∷ 0 ∷ 7 ∷ 7 ∷ 36 ∷ 0 ∷ 0 ∷ 164 ∷ 1 ∷ 20 ∷ 0 ∷ 21 ∷ 0 ∷ 1 ∷ 36 ∷ 1 ∷ 0 ∷ 255 ∷ 255 ∷ 255 ∷ 255 ∷ 7 ∷ 255 ∷ 92 ∷ 1 ∷ 206 ∷ 255 ∷ zeros 24) (0 ∷ 0 ∷ 0 ∷ 0 ∷ 3 ∷ 5 ∷ 8 ∷ 6 ∷ 3 ∷ 2 ∷ 1 ∷ 5 ∷ 7 ∷ 2 ∷ 7 ∷ 2 ∷ []) (49 ∷ zeros 3) (zeros 8) (1 ∷ 50 ∷ 4 ∷ 2 ∷ 6 ∷ 7 ∷ 7 ∷ 6 ∷ []) (zeros 24)) (Refused (OffsetOverflow)) ([])) ×
    ((store 2 24 2 3 199 small_codec (state 1 (of_fields magic 8 2 (0 ∷ 0 ∷ 1 ∷ 2 ∷ 0 ∷ 0 ∷ 0 ∷ 0 ∷ 0 ∷ 0 ∷ 0 ∷ 0 ∷ 24 ∷ 0 ∷ 0 ∷ 8 ∷ 1 ∷ 185 ∷ [])) true (overlay 0 0 0 3 (0 ∷ 0 ∷ []) 0 (budget true 0 0 1 0 0))) (lent (0 ∷ 0 ∷ 1 ∷ 2 ∷ 0 ∷ 0 ∷ 0 ∷ 0 ∷ 0 ∷ 0 ∷ 0 ∷ 0 ∷ 24 ∷ 0 ∷ 0 ∷ 8 ∷ 1 ∷ 185 ∷ 0 ∷ 5 ∷ zeros 76) (6 ∷ 8 ∷ 1 ∷ 1 ∷ []) (0 ∷ 0 ∷ []) (zeros 4) (0 ∷ 7 ∷ 0 ∷ 1 ∷ 0 ∷ 100 ∷ 0 ∷ 0 ∷ []) (zeros 16)) (truncate 11) ≡ out (state 1 (of_fields magic 8 2 (0 ∷ 0 ∷ 1 ∷ 2 ∷ 0 ∷ 0 ∷ 0 ∷ 0 ∷ 0 ∷ 0 ∷ 0 ∷ 0 ∷ 24 ∷ 0 ∷ 0 ∷ 8 ∷ 1 ∷ 185 ∷ [])) true (overlay 0 0 0 4 (0 ∷ 0 ∷ []) 0 (budget true 0 0 1 0 0))) (lent (0 ∷ 0 ∷ 1 ∷ 2 ∷ 0 ∷ 0 ∷ 0 ∷ 0 ∷ 0 ∷ 0 ∷ 0 ∷ 0 ∷ 24 ∷ 0 ∷ 0 ∷ 8 ∷ 1 ∷ 185 ∷ 0 ∷ 5 ∷ zeros 76) (6 ∷ 8 ∷ 1 ∷ 1 ∷ []) (0 ∷ 0 ∷ []) (zeros 4) (0 ∷ 7 ∷ 0 ∷ 1 ∷ 0 ∷ 100 ∷ 0 ∷ 6 ∷ []) (zeros 16)) (Refused (BudgetExceeded)) ([])) ×
    ((store 2 24 2 3 199 small_codec (state 1 (of_fields magic 8 2 (0 ∷ 0 ∷ 0 ∷ 0 ∷ 0 ∷ 0 ∷ 0 ∷ 0 ∷ 0 ∷ 0 ∷ 0 ∷ 0 ∷ 24 ∷ 0 ∷ 0 ∷ 8 ∷ 0 ∷ 53 ∷ [])) true (overlay 0 0 0 0 (0 ∷ 0 ∷ []) 0 (budget false 0 0 0 0 0))) (lent (0 ∷ 0 ∷ 0 ∷ 0 ∷ 0 ∷ 0 ∷ 0 ∷ 0 ∷ 0 ∷ 0 ∷ 0 ∷ 0 ∷ 24 ∷ 0 ∷ 0 ∷ 8 ∷ 0 ∷ 53 ∷ zeros 79) ([]) (3 ∷ 2 ∷ []) (5 ∷ 6 ∷ 5 ∷ 4 ∷ []) (7 ∷ 2 ∷ 6 ∷ 2 ∷ 7 ∷ 7 ∷ 4 ∷ 6 ∷ 3 ∷ []) (zeros 8)) (truncate 1) ≡ out (state 1 (of_fields magic 8 2 (0 ∷ 0 ∷ 0 ∷ 0 ∷ 0 ∷ 0 ∷ 0 ∷ 0 ∷ 0 ∷ 0 ∷ 0 ∷ 0 ∷ 24 ∷ 0 ∷ 0 ∷ 8 ∷ 0 ∷ 53 ∷ [])) true (overlay 0 1 0 1 (0 ∷ 0 ∷ []) 0 (budget false 0 0 0 0 0))) (lent (0 ∷ 0 ∷ 0 ∷ 0 ∷ 0 ∷ 0 ∷ 0 ∷ 0 ∷ 0 ∷ 0 ∷ 0 ∷ 0 ∷ 24 ∷ 0 ∷ 0 ∷ 8 ∷ 0 ∷ 53 ∷ zeros 79) ([]) (3 ∷ 2 ∷ []) (5 ∷ 6 ∷ 5 ∷ 4 ∷ []) (0 ∷ 1 ∷ 6 ∷ 2 ∷ 7 ∷ 7 ∷ 4 ∷ 6 ∷ 3 ∷ []) (zeros 8)) (Refused (FramesFull)) ([])) ×
    ((store 2 24 3 3 95 small_codec (state 1 (of_fields magic 8 2 (0 ∷ 0 ∷ 0 ∷ 0 ∷ 0 ∷ 0 ∷ 0 ∷ 0 ∷ 0 ∷ 0 ∷ 0 ∷ 0 ∷ 24 ∷ 0 ∷ 0 ∷ 8 ∷ 0 ∷ 53 ∷ [])) true (overlay 0 0 0 1 (zeros 3) 0 (budget false 0 0 0 0 0))) (lent (0 ∷ 0 ∷ 0 ∷ 0 ∷ 0 ∷ 0 ∷ 0 ∷ 0 ∷ 0 ∷ 0 ∷ 0 ∷ 0 ∷ 24 ∷ 0 ∷ 0 ∷ 8 ∷ 0 ∷ 53 ∷ zeros 54) (0 ∷ []) ([]) (6 ∷ 4 ∷ 8 ∷ 1 ∷ 2 ∷ 2 ∷ zeros 3) (0 ∷ 6 ∷ 7 ∷ []) (8 ∷ 4 ∷ 1 ∷ 5 ∷ 4 ∷ 1 ∷ 3 ∷ 8 ∷ [])) (truncate 1) ≡ out (state 1 (of_fields magic 8 2 (0 ∷ 0 ∷ 0 ∷ 0 ∷ 0 ∷ 0 ∷ 0 ∷ 0 ∷ 0 ∷ 0 ∷ 0 ∷ 0 ∷ 24 ∷ 0 ∷ 0 ∷ 8 ∷ 0 ∷ 53 ∷ [])) true (overlay 0 0 0 1 (zeros 3) 0 (budget false 0 0 0 0 0))) (lent (0 ∷ 0 ∷ 0 ∷ 0 ∷ 0 ∷ 0 ∷ 0 ∷ 0 ∷ 0 ∷ 0 ∷ 0 ∷ 0 ∷ 24 ∷ 0 ∷ 0 ∷ 8 ∷ 0 ∷ 53 ∷ zeros 54) (0 ∷ []) ([]) (6 ∷ 4 ∷ 8 ∷ 1 ∷ 2 ∷ 2 ∷ zeros 3) (0 ∷ 6 ∷ 7 ∷ []) (zeros 8)) (Refused (RecordFull)) ([])) ×
    ((store 2 24 2 3 199 small_codec (state 1 (of_fields magic 8 2 (0 ∷ 0 ∷ 0 ∷ 0 ∷ 0 ∷ 0 ∷ 0 ∷ 0 ∷ 0 ∷ 0 ∷ 0 ∷ 0 ∷ 24 ∷ 0 ∷ 0 ∷ 8 ∷ 0 ∷ 53 ∷ [])) true (overlay 0 5 1 1 (0 ∷ 0 ∷ []) 0 (budget false 0 0 0 0 0))) (lent (0 ∷ 0 ∷ 0 ∷ 0 ∷ 0 ∷ 0 ∷ 0 ∷ 0 ∷ 0 ∷ 0 ∷ 0 ∷ 0 ∷ 24 ∷ 0 ∷ 0 ∷ 8 ∷ 0 ∷ 53 ∷ zeros 31) (zeros 8) (2 ∷ 0 ∷ 8 ∷ 4 ∷ 6 ∷ 6 ∷ []) (3 ∷ 3 ∷ 6 ∷ 4 ∷ 5 ∷ []) (0 ∷ []) (zeros 28)) (truncate 7) ≡ out (state 1 (of_fields magic 8 2 (0 ∷ 0 ∷ 0 ∷ 0 ∷ 0 ∷ 0 ∷ 0 ∷ 0 ∷ 0 ∷ 0 ∷ 0 ∷ 0 ∷ 24 ∷ 0 ∷ 0 ∷ 8 ∷ 0 ∷ 53 ∷ [])) true (overlay 0 5 1 1 (0 ∷ 0 ∷ []) 0 (budget false 0 0 0 0 0))) (lent (0 ∷ 0 ∷ 0 ∷ 0 ∷ 0 ∷ 0 ∷ 0 ∷ 0 ∷ 0 ∷ 0 ∷ 0 ∷ 0 ∷ 24 ∷ 0 ∷ 0 ∷ 8 ∷ 0 ∷ 53 ∷ zeros 31) (zeros 8) (2 ∷ 0 ∷ 8 ∷ 4 ∷ 6 ∷ 6 ∷ []) (3 ∷ 3 ∷ 6 ∷ 4 ∷ 5 ∷ []) (0 ∷ []) (zeros 28)) (Refused (BufferTooShort)) ([]))))))
unfolding count filled overwrite resize growMemory requiredPages normalized within merge insert add around piece remove flatRuns additions add_one remain plan put refill tabulate add_number_if span grown_numbers image_byte image_page push_run raw over_byte budget_bytes raised touch blank copy stretch patch finish grow grow_to chop tail truncated whole_page over_write written fresh look_up sized passing marked try_touch try_patch try_finish try_grow try_grow_to try_tail try_chop try_truncate try_write frame_count entry_count wiped cached short_buffers view overlay_of put_back dirty_page stored small_codec small_sum small_decode small_runs small_load small_fresh importing stale refreshing marks after_commit after_import_begin after_import_chunk after_import_cancel after_import_finish after_refresh after_refresh_step short store_plan no_overlay image_bytes unchanged planned_runs commit_over restore do_import_begin do_import_chunk do_import_finish do_import_cancel do_export image_sum do_checksum do_refresh refresh_from do_refresh_step store outside open_image closing open'
c27 = (refl, (refl, (refl, (refl, (refl)))))

-- view: empty
-- view: page
c28 :
    (dirty_in 2 24 2 3 199 small_codec (mode_of (state 2 (of_fields magic 8 2 (6 ∷ 0 ∷ 1 ∷ 2 ∷ 1 ∷ 0 ∷ 0 ∷ 0 ∷ 0 ∷ 0 ∷ 0 ∷ 0 ∷ 24 ∷ 0 ∷ 3 ∷ 8 ∷ 1 ∷ 199 ∷ [])) true (overlay 6 6 0 1 (0 ∷ 0 ∷ []) 0 (budget true 1 2 0 0 0)))) ([]) (3 ∷ []) 1 ≡ ([])) ×
    ((dirty_in 2 24 3 3 95 small_codec (mode_of (state 1 (of_fields magic 8 2 (0 ∷ 0 ∷ 0 ∷ 0 ∷ 0 ∷ 0 ∷ 0 ∷ 0 ∷ 0 ∷ 0 ∷ 0 ∷ 0 ∷ 24 ∷ 0 ∷ 0 ∷ 8 ∷ 0 ∷ 53 ∷ [])) true (overlay 0 4 1 3 (zeros 3) 0 (budget false 0 0 0 0 0)))) (7 ∷ 0 ∷ []) (1 ∷ []) 1 ≡ (7 ∷ 0 ∷ [])))
unfolding count filled overwrite resize growMemory requiredPages normalized within merge insert add around piece remove flatRuns additions add_one remain plan put refill tabulate add_number_if span grown_numbers image_byte image_page push_run raw over_byte budget_bytes raised touch blank copy stretch patch finish grow grow_to chop tail truncated whole_page over_write written fresh look_up sized passing marked try_touch try_patch try_finish try_grow try_grow_to try_tail try_chop try_truncate try_write frame_count entry_count wiped cached short_buffers view overlay_of put_back dirty_page stored small_codec small_sum small_decode small_runs small_load small_fresh importing stale refreshing marks after_commit after_import_begin after_import_chunk after_import_cancel after_import_finish after_refresh after_refresh_step short store_plan no_overlay image_bytes unchanged planned_runs commit_over restore do_import_begin do_import_chunk do_import_finish do_import_cancel do_export image_sum do_checksum do_refresh refresh_from do_refresh_step store outside open_image closing open'
c28 = (refl, (refl))

-- write direct: 20
-- write direct: 31
-- write direct: 32
-- write direct: 33
-- write direct: 34
-- write direct: 35
c29 :
    (store 2 24 2 3 199 small_codec (state 2 (of_fields magic 8 2 (23 ∷ 0 ∷ 1 ∷ 2 ∷ 0 ∷ 0 ∷ 0 ∷ 0 ∷ 0 ∷ 0 ∷ 0 ∷ 0 ∷ 24 ∷ 0 ∷ 12 ∷ 8 ∷ 2 ∷ 152 ∷ [])) false (overlay 0 0 0 0 (0 ∷ 0 ∷ []) 0 (budget false 0 0 0 0 0))) (lent (23 ∷ 0 ∷ 1 ∷ 2 ∷ 0 ∷ 0 ∷ 0 ∷ 0 ∷ 0 ∷ 0 ∷ 0 ∷ 0 ∷ 24 ∷ 0 ∷ 12 ∷ 8 ∷ 2 ∷ 152 ∷ 0 ∷ 11 ∷ 12 ∷ 100 ∷ zeros 26) (3 ∷ 6 ∷ []) (5 ∷ []) (zeros 4) (zeros 12) (7 ∷ 5 ∷ 8 ∷ 2 ∷ 2 ∷ 5 ∷ 5 ∷ 7 ∷ 1 ∷ 5 ∷ 6 ∷ 7 ∷ [])) (write 199 (1 ∷ [])) ≡ out (state 2 (of_fields magic 8 2 (23 ∷ 0 ∷ 1 ∷ 2 ∷ 0 ∷ 0 ∷ 0 ∷ 0 ∷ 0 ∷ 0 ∷ 0 ∷ 0 ∷ 24 ∷ 0 ∷ 12 ∷ 8 ∷ 2 ∷ 152 ∷ [])) false (overlay 0 0 0 0 (0 ∷ 0 ∷ []) 0 (budget false 0 0 0 0 0))) (lent (23 ∷ 0 ∷ 1 ∷ 2 ∷ 0 ∷ 0 ∷ 0 ∷ 0 ∷ 0 ∷ 0 ∷ 0 ∷ 0 ∷ 24 ∷ 0 ∷ 12 ∷ 8 ∷ 2 ∷ 152 ∷ 0 ∷ 11 ∷ 12 ∷ 100 ∷ zeros 26) (0 ∷ 0 ∷ []) (0 ∷ []) (zeros 4) (zeros 12) (zeros 12)) (Refused (OffsetOverflow)) ([])) ×
    ((store 4 24 2 3 199 small_codec (state 2 (of_fields magic 8 2 (20 ∷ 0 ∷ 0 ∷ 0 ∷ 0 ∷ 0 ∷ 0 ∷ 0 ∷ 0 ∷ 0 ∷ 0 ∷ 0 ∷ 24 ∷ 0 ∷ 0 ∷ 8 ∷ 3 ∷ 4 ∷ [])) false (overlay 0 0 0 0 (0 ∷ 0 ∷ []) 0 (budget false 0 0 0 0 0))) (lent (20 ∷ 0 ∷ 0 ∷ 0 ∷ 0 ∷ 0 ∷ 0 ∷ 0 ∷ 0 ∷ 0 ∷ 0 ∷ 0 ∷ 24 ∷ 0 ∷ 0 ∷ 8 ∷ 3 ∷ 4 ∷ 9 ∷ 10 ∷ 20 ∷ 21 ∷ 30 ∷ 31 ∷ 1 ∷ 7 ∷ 1 ∷ 0 ∷ 91 ∷ 0 ∷ 1 ∷ 7 ∷ 176 ∷ 1 ∷ 7 ∷ 255 ∷ 7 ∷ 0 ∷ 0 ∷ 7 ∷ 0 ∷ 0 ∷ 0 ∷ 1 ∷ 255 ∷ 0 ∷ 1 ∷ zeros 25) (zeros 4) (0 ∷ []) (zeros 8) (7 ∷ 8 ∷ 5 ∷ 8 ∷ 2 ∷ 5 ∷ 6 ∷ 2 ∷ []) (3 ∷ 2 ∷ 8 ∷ 2 ∷ 7 ∷ 1 ∷ 3 ∷ 4 ∷ 7 ∷ 6 ∷ 4 ∷ 7 ∷ [])) (write 24 (0 ∷ [])) ≡ out (state 2 (of_fields magic 8 2 (20 ∷ 0 ∷ 0 ∷ 0 ∷ 0 ∷ 0 ∷ 0 ∷ 0 ∷ 0 ∷ 0 ∷ 0 ∷ 0 ∷ 24 ∷ 0 ∷ 0 ∷ 8 ∷ 3 ∷ 4 ∷ [])) false (overlay 0 0 0 0 (0 ∷ 0 ∷ []) 0 (budget false 0 0 0 0 0))) (lent (20 ∷ 0 ∷ 0 ∷ 0 ∷ 0 ∷ 0 ∷ 0 ∷ 0 ∷ 0 ∷ 0 ∷ 0 ∷ 0 ∷ 24 ∷ 0 ∷ 0 ∷ 8 ∷ 3 ∷ 4 ∷ 9 ∷ 10 ∷ 20 ∷ 21 ∷ 30 ∷ 31 ∷ 1 ∷ 7 ∷ 1 ∷ 0 ∷ 91 ∷ 0 ∷ 1 ∷ 7 ∷ 176 ∷ 1 ∷ 7 ∷ 255 ∷ 7 ∷ 0 ∷ 0 ∷ 7 ∷ 0 ∷ 0 ∷ 0 ∷ 1 ∷ 255 ∷ 0 ∷ 1 ∷ zeros 25) (zeros 4) (0 ∷ []) (zeros 8) (zeros 8) (zeros 12)) (Refused (ZeroExtentLimitExceeded)) ([])) ×
    ((store 2 24 3 3 95 small_codec (state 2 (of_fields magic 8 2 (5 ∷ 0 ∷ 1 ∷ 0 ∷ 30 ∷ 0 ∷ 0 ∷ 0 ∷ 0 ∷ 0 ∷ 0 ∷ 0 ∷ 24 ∷ 0 ∷ 3 ∷ 8 ∷ 1 ∷ 234 ∷ [])) false (overlay 0 0 0 0 (zeros 3) 0 (budget false 0 0 0 0 0))) (lent (5 ∷ 0 ∷ 1 ∷ 0 ∷ 30 ∷ 0 ∷ 0 ∷ 0 ∷ 0 ∷ 0 ∷ 0 ∷ 0 ∷ 24 ∷ 0 ∷ 3 ∷ 8 ∷ 1 ∷ 234 ∷ 0 ∷ 2 ∷ zeros 28) (7 ∷ 7 ∷ 6 ∷ 2 ∷ []) (3 ∷ 7 ∷ []) (6 ∷ 8 ∷ 7 ∷ 4 ∷ 3 ∷ 2 ∷ []) (zeros 6) (5 ∷ 5 ∷ 1 ∷ 3 ∷ 2 ∷ 4 ∷ 8 ∷ 4 ∷ 2 ∷ 4 ∷ 6 ∷ 8 ∷ 1 ∷ 2 ∷ 1 ∷ 6 ∷ [])) (write 24 (255 ∷ [])) ≡ out (state 2 (of_fields magic 8 2 (5 ∷ 0 ∷ 1 ∷ 0 ∷ 30 ∷ 0 ∷ 0 ∷ 0 ∷ 0 ∷ 0 ∷ 0 ∷ 0 ∷ 24 ∷ 0 ∷ 3 ∷ 8 ∷ 1 ∷ 234 ∷ [])) false (overlay 0 0 0 0 (zeros 3) 0 (budget false 0 0 0 0 0))) (lent (5 ∷ 0 ∷ 1 ∷ 0 ∷ 30 ∷ 0 ∷ 0 ∷ 0 ∷ 0 ∷ 0 ∷ 0 ∷ 0 ∷ 24 ∷ 0 ∷ 3 ∷ 8 ∷ 1 ∷ 234 ∷ 0 ∷ 2 ∷ zeros 28) (zeros 4) (0 ∷ 0 ∷ []) (zeros 6) (zeros 6) (zeros 16)) (Refused (GrowFailed (stable 2) (stable 3))) ([])) ×
    ((store 2 24 2 3 199 small_codec (state 1 (of_fields magic 8 2 (0 ∷ 0 ∷ 0 ∷ 0 ∷ 0 ∷ 0 ∷ 0 ∷ 0 ∷ 0 ∷ 0 ∷ 0 ∷ 0 ∷ 24 ∷ 0 ∷ 0 ∷ 8 ∷ 0 ∷ 53 ∷ [])) false (overlay 0 0 0 0 (0 ∷ 0 ∷ []) 0 (budget false 0 0 0 0 0))) (lent (0 ∷ 0 ∷ 0 ∷ 0 ∷ 0 ∷ 0 ∷ 0 ∷ 0 ∷ 0 ∷ 0 ∷ 0 ∷ 0 ∷ 24 ∷ 0 ∷ 0 ∷ 8 ∷ 0 ∷ 53 ∷ zeros 85) ([]) (0 ∷ 0 ∷ []) (5 ∷ 4 ∷ 3 ∷ 6 ∷ 3 ∷ 3 ∷ 7 ∷ []) (zeros 10) (3 ∷ 2 ∷ 7 ∷ 6 ∷ 7 ∷ 1 ∷ 4 ∷ 4 ∷ 4 ∷ [])) (write 3 (1 ∷ 0 ∷ 0 ∷ 1 ∷ 255 ∷ 7 ∷ 7 ∷ [])) ≡ out (state 1 (of_fields magic 8 2 (0 ∷ 0 ∷ 0 ∷ 0 ∷ 0 ∷ 0 ∷ 0 ∷ 0 ∷ 0 ∷ 0 ∷ 0 ∷ 0 ∷ 24 ∷ 0 ∷ 0 ∷ 8 ∷ 0 ∷ 53 ∷ [])) false (overlay 0 0 0 0 (0 ∷ 0 ∷ []) 0 (budget false 0 0 0 0 0))) (lent (0 ∷ 0 ∷ 0 ∷ 0 ∷ 0 ∷ 0 ∷ 0 ∷ 0 ∷ 0 ∷ 0 ∷ 0 ∷ 0 ∷ 24 ∷ 0 ∷ 0 ∷ 8 ∷ 0 ∷ 53 ∷ zeros 85) ([]) (0 ∷ 0 ∷ []) (zeros 7) (zeros 10) (zeros 9)) (Refused (FramesFull)) ([])) ×
    ((store 2 24 2 3 199 small_codec (state 2 (of_fields magic 8 2 (0 ∷ 0 ∷ 1 ∷ 2 ∷ 28 ∷ 0 ∷ 0 ∷ 0 ∷ 0 ∷ 0 ∷ 0 ∷ 0 ∷ 27 ∷ 0 ∷ 0 ∷ 8 ∷ 1 ∷ 86 ∷ [])) false (overlay 0 0 0 0 (0 ∷ 0 ∷ []) 0 (budget false 0 0 0 0 0))) (lent (0 ∷ 0 ∷ 1 ∷ 2 ∷ 28 ∷ 0 ∷ 0 ∷ 0 ∷ 0 ∷ 0 ∷ 0 ∷ 0 ∷ 27 ∷ 0 ∷ 0 ∷ 8 ∷ 1 ∷ 86 ∷ 0 ∷ 100 ∷ 7 ∷ 8 ∷ 10 ∷ 15 ∷ 91 ∷ 0 ∷ 0 ∷ 7 ∷ 7 ∷ 255 ∷ 1 ∷ 0 ∷ 7 ∷ 192 ∷ 0 ∷ 161 ∷ 7 ∷ 1 ∷ 0 ∷ 255 ∷ 0 ∷ 0 ∷ 7 ∷ 1 ∷ 1 ∷ 222 ∷ 7 ∷ 7 ∷ []) (zeros 6) (zeros 3) (3 ∷ 7 ∷ 3 ∷ 5 ∷ []) ([]) (zeros 20)) (write 1 (35 ∷ 0 ∷ [])) ≡ out (state 2 (of_fields magic 8 2 (0 ∷ 0 ∷ 1 ∷ 2 ∷ 28 ∷ 0 ∷ 0 ∷ 0 ∷ 0 ∷ 0 ∷ 0 ∷ 0 ∷ 27 ∷ 0 ∷ 0 ∷ 8 ∷ 1 ∷ 86 ∷ [])) false (overlay 0 0 0 0 (0 ∷ 0 ∷ []) 0 (budget false 0 0 0 0 0))) (lent (0 ∷ 0 ∷ 1 ∷ 2 ∷ 28 ∷ 0 ∷ 0 ∷ 0 ∷ 0 ∷ 0 ∷ 0 ∷ 0 ∷ 27 ∷ 0 ∷ 0 ∷ 8 ∷ 1 ∷ 86 ∷ 0 ∷ 100 ∷ 7 ∷ 8 ∷ 10 ∷ 15 ∷ 91 ∷ 0 ∷ 0 ∷ 7 ∷ 7 ∷ 255 ∷ 1 ∷ 0 ∷ 7 ∷ 192 ∷ 0 ∷ 161 ∷ 7 ∷ 1 ∷ 0 ∷ 255 ∷ 0 ∷ 0 ∷ 7 ∷ 1 ∷ 1 ∷ 222 ∷ 7 ∷ 7 ∷ []) (zeros 6) (zeros 3) (zeros 4) ([]) (zeros 20)) (Refused (RecordFull)) ([])) ×
    ((store 4 24 2 3 199 small_codec (state 2 (of_fields magic 8 2 (20 ∷ 0 ∷ 0 ∷ 0 ∷ 1 ∷ 0 ∷ 0 ∷ 0 ∷ 0 ∷ 0 ∷ 0 ∷ 0 ∷ 24 ∷ 0 ∷ 5 ∷ 8 ∷ 1 ∷ 79 ∷ [])) false (overlay 0 0 0 0 (0 ∷ 0 ∷ []) 0 (budget false 0 0 0 0 0))) (lent (20 ∷ 0 ∷ 0 ∷ 0 ∷ 1 ∷ 0 ∷ 0 ∷ 0 ∷ 0 ∷ 0 ∷ 0 ∷ 0 ∷ 24 ∷ 0 ∷ 5 ∷ 8 ∷ 1 ∷ 79 ∷ 0 ∷ 4 ∷ 0 ∷ 0 ∷ 0 ∷ 0 ∷ 0 ∷ 0 ∷ 0 ∷ 0 ∷ 0 ∷ 0 ∷ 0 ∷ 0 ∷ 0 ∷ 0 ∷ 0 ∷ 0 ∷ 0 ∷ 0 ∷ 0 ∷ 0 ∷ 255 ∷ 7 ∷ 1 ∷ 1 ∷ zeros 4) (5 ∷ 4 ∷ 3 ∷ 6 ∷ 2 ∷ 5 ∷ 8 ∷ 1 ∷ 7 ∷ 3 ∷ 5 ∷ 5 ∷ []) (6 ∷ 8 ∷ 1 ∷ []) (8 ∷ 7 ∷ 7 ∷ 7 ∷ 4 ∷ 1 ∷ 6 ∷ 6 ∷ []) (3 ∷ 7 ∷ 5 ∷ 8 ∷ []) (zeros 19)) (write 24 (7 ∷ 46 ∷ 0 ∷ 0 ∷ [])) ≡ out (state 2 (of_fields magic 8 2 (20 ∷ 0 ∷ 0 ∷ 0 ∷ 1 ∷ 0 ∷ 0 ∷ 0 ∷ 0 ∷ 0 ∷ 0 ∷ 0 ∷ 24 ∷ 0 ∷ 5 ∷ 8 ∷ 1 ∷ 79 ∷ [])) false (overlay 0 0 0 0 (0 ∷ 0 ∷ []) 0 (budget false 0 0 0 0 0))) (lent (20 ∷ 0 ∷ 0 ∷ 0 ∷ 1 ∷ 0 ∷ 0 ∷ 0 ∷ 0 ∷ 0 ∷ 0 ∷ 0 ∷ 24 ∷ 0 ∷ 5 ∷ 8 ∷ 1 ∷ 79 ∷ 0 ∷ 4 ∷ 0 ∷ 0 ∷ 0 ∷ 0 ∷ 0 ∷ 0 ∷ 0 ∷ 0 ∷ 0 ∷ 0 ∷ 0 ∷ 0 ∷ 0 ∷ 0 ∷ 0 ∷ 0 ∷ 0 ∷ 0 ∷ 0 ∷ 0 ∷ 255 ∷ 7 ∷ 1 ∷ 1 ∷ zeros 4) (5 ∷ 4 ∷ 3 ∷ 6 ∷ 2 ∷ 5 ∷ 8 ∷ 1 ∷ 7 ∷ 3 ∷ 5 ∷ 5 ∷ []) (6 ∷ 8 ∷ 1 ∷ []) (8 ∷ 7 ∷ 7 ∷ 7 ∷ 4 ∷ 1 ∷ 6 ∷ 6 ∷ []) (3 ∷ 7 ∷ 5 ∷ 8 ∷ []) (zeros 19)) (Refused (BufferTooShort)) ([])))))))
unfolding count filled overwrite resize growMemory requiredPages normalized within merge insert add around piece remove flatRuns additions add_one remain plan put refill tabulate add_number_if span grown_numbers image_byte image_page push_run raw over_byte budget_bytes raised touch blank copy stretch patch finish grow grow_to chop tail truncated whole_page over_write written fresh look_up sized passing marked try_touch try_patch try_finish try_grow try_grow_to try_tail try_chop try_truncate try_write frame_count entry_count wiped cached short_buffers view overlay_of put_back dirty_page stored small_codec small_sum small_decode small_runs small_load small_fresh importing stale refreshing marks after_commit after_import_begin after_import_chunk after_import_cancel after_import_finish after_refresh after_refresh_step short store_plan no_overlay image_bytes unchanged planned_runs commit_over restore do_import_begin do_import_chunk do_import_finish do_import_cancel do_export image_sum do_checksum do_refresh refresh_from do_refresh_step store outside open_image closing open'
c29 = (refl, (refl, (refl, (refl, (refl, (refl))))))

-- write in update: 20
-- write in update: 30
-- write in update: 34
-- write in update: 35
c30 :
    (store 4 24 2 3 199 small_codec (state 3 (of_fields magic 8 2 (44 ∷ 0 ∷ 0 ∷ 0 ∷ 0 ∷ 0 ∷ 0 ∷ 0 ∷ 0 ∷ 0 ∷ 0 ∷ 0 ∷ 24 ∷ 0 ∷ 11 ∷ 8 ∷ 1 ∷ 88 ∷ [])) true (overlay 44 44 0 0 (0 ∷ 0 ∷ []) 0 (budget true 0 12 0 0 0))) (lent (44 ∷ 0 ∷ 0 ∷ 0 ∷ 0 ∷ 0 ∷ 0 ∷ 0 ∷ 0 ∷ 0 ∷ 0 ∷ 0 ∷ 24 ∷ 0 ∷ 11 ∷ 8 ∷ 1 ∷ 88 ∷ 0 ∷ 11 ∷ zeros 52) (1 ∷ 1 ∷ 8 ∷ 8 ∷ 7 ∷ 6 ∷ 7 ∷ 1 ∷ 4 ∷ 7 ∷ 5 ∷ 8 ∷ []) (zeros 3) (2 ∷ 4 ∷ 4 ∷ 7 ∷ 7 ∷ 2 ∷ 4 ∷ 3 ∷ []) (1 ∷ 6 ∷ []) (6 ∷ 8 ∷ 7 ∷ 1 ∷ 4 ∷ 8 ∷ 8 ∷ 8 ∷ 4 ∷ 5 ∷ 6 ∷ 5 ∷ 7 ∷ 3 ∷ 7 ∷ 1 ∷ 6 ∷ 5 ∷ 8 ∷ 1 ∷ [])) (write 198 (1 ∷ 7 ∷ 255 ∷ 4 ∷ 0 ∷ [])) ≡ out (state 3 (of_fields magic 8 2 (44 ∷ 0 ∷ 0 ∷ 0 ∷ 0 ∷ 0 ∷ 0 ∷ 0 ∷ 0 ∷ 0 ∷ 0 ∷ 0 ∷ 24 ∷ 0 ∷ 11 ∷ 8 ∷ 1 ∷ 88 ∷ [])) true (overlay 44 44 0 0 (0 ∷ 0 ∷ []) 0 (budget true 0 12 0 0 0))) (lent (44 ∷ 0 ∷ 0 ∷ 0 ∷ 0 ∷ 0 ∷ 0 ∷ 0 ∷ 0 ∷ 0 ∷ 0 ∷ 0 ∷ 24 ∷ 0 ∷ 11 ∷ 8 ∷ 1 ∷ 88 ∷ 0 ∷ 11 ∷ zeros 52) (1 ∷ 1 ∷ 8 ∷ 8 ∷ 7 ∷ 6 ∷ 7 ∷ 1 ∷ 4 ∷ 7 ∷ 5 ∷ 8 ∷ []) (zeros 3) (2 ∷ 4 ∷ 4 ∷ 7 ∷ 7 ∷ 2 ∷ 4 ∷ 3 ∷ []) (1 ∷ 6 ∷ []) (zeros 20)) (Refused (OffsetOverflow)) ([])) ×
    ((store 2 24 3 3 95 small_codec (state 1 (of_fields magic 8 2 (0 ∷ 0 ∷ 1 ∷ 0 ∷ 1 ∷ 0 ∷ 0 ∷ 0 ∷ 0 ∷ 0 ∷ 0 ∷ 0 ∷ 24 ∷ 0 ∷ 0 ∷ 8 ∷ 1 ∷ 71 ∷ [])) true (overlay 0 0 0 0 (zeros 3) 0 (budget true 0 0 0 0 0))) (lent (0 ∷ 0 ∷ 1 ∷ 0 ∷ 1 ∷ 0 ∷ 0 ∷ 0 ∷ 0 ∷ 0 ∷ 0 ∷ 0 ∷ 24 ∷ 0 ∷ 0 ∷ 8 ∷ 1 ∷ 71 ∷ 0 ∷ 6 ∷ zeros 76) (1 ∷ 7 ∷ []) (2 ∷ []) (2 ∷ 6 ∷ 6 ∷ 4 ∷ 4 ∷ 1 ∷ []) (0 ∷ 0 ∷ []) (zeros 12)) (write 0 (0 ∷ 1 ∷ [])) ≡ out (state 1 (of_fields magic 8 2 (0 ∷ 0 ∷ 1 ∷ 0 ∷ 1 ∷ 0 ∷ 0 ∷ 0 ∷ 0 ∷ 0 ∷ 0 ∷ 0 ∷ 24 ∷ 0 ∷ 0 ∷ 8 ∷ 1 ∷ 71 ∷ [])) true (overlay 0 0 0 1 (zeros 3) 0 (budget true 0 0 1 0 0))) (lent (0 ∷ 0 ∷ 1 ∷ 0 ∷ 1 ∷ 0 ∷ 0 ∷ 0 ∷ 0 ∷ 0 ∷ 0 ∷ 0 ∷ 24 ∷ 0 ∷ 0 ∷ 8 ∷ 1 ∷ 71 ∷ 0 ∷ 6 ∷ zeros 76) (1 ∷ 7 ∷ []) (2 ∷ []) (2 ∷ 6 ∷ 6 ∷ 4 ∷ 4 ∷ 1 ∷ []) (0 ∷ 1 ∷ []) (zeros 12)) (Refused (BudgetExceeded)) ([])) ×
    ((store 4 24 2 3 199 small_codec (state 1 (of_fields magic 8 2 (0 ∷ 0 ∷ 0 ∷ 0 ∷ 0 ∷ 0 ∷ 0 ∷ 0 ∷ 0 ∷ 0 ∷ 0 ∷ 0 ∷ 24 ∷ 0 ∷ 0 ∷ 8 ∷ 0 ∷ 53 ∷ [])) true (overlay 0 8 0 2 (0 ∷ 0 ∷ []) 0 (budget true 0 0 1 0 0))) (lent (0 ∷ 0 ∷ 0 ∷ 0 ∷ 0 ∷ 0 ∷ 0 ∷ 0 ∷ 0 ∷ 0 ∷ 0 ∷ 0 ∷ 24 ∷ 0 ∷ 0 ∷ 8 ∷ 0 ∷ 53 ∷ zeros 30) (3 ∷ 3 ∷ 8 ∷ 3 ∷ []) (8 ∷ []) (zeros 8) (0 ∷ 44 ∷ 2 ∷ 44 ∷ []) (1 ∷ 1 ∷ 4 ∷ 7 ∷ 8 ∷ 2 ∷ 8 ∷ 3 ∷ 6 ∷ 5 ∷ 3 ∷ 1 ∷ [])) (write 36 (0 ∷ 255 ∷ 1 ∷ 255 ∷ [])) ≡ out (state 1 (of_fields magic 8 2 (0 ∷ 0 ∷ 0 ∷ 0 ∷ 0 ∷ 0 ∷ 0 ∷ 0 ∷ 0 ∷ 0 ∷ 0 ∷ 0 ∷ 24 ∷ 0 ∷ 0 ∷ 8 ∷ 0 ∷ 53 ∷ [])) true (overlay 0 8 0 2 (0 ∷ 0 ∷ []) 0 (budget true 0 0 1 0 0))) (lent (0 ∷ 0 ∷ 0 ∷ 0 ∷ 0 ∷ 0 ∷ 0 ∷ 0 ∷ 0 ∷ 0 ∷ 0 ∷ 0 ∷ 24 ∷ 0 ∷ 0 ∷ 8 ∷ 0 ∷ 53 ∷ zeros 30) (3 ∷ 3 ∷ 8 ∷ 3 ∷ []) (8 ∷ []) (zeros 8) (0 ∷ 44 ∷ 2 ∷ 44 ∷ []) (zeros 12)) (Refused (RecordFull)) ([])) ×
    ((store 2 24 3 3 95 small_codec (state 1 (of_fields magic 8 2 (0 ∷ 0 ∷ 0 ∷ 1 ∷ 1 ∷ 0 ∷ 0 ∷ 0 ∷ 0 ∷ 0 ∷ 0 ∷ 0 ∷ 24 ∷ 0 ∷ 0 ∷ 8 ∷ 0 ∷ 184 ∷ [])) true (overlay 0 44 2 1 (zeros 3) 0 (budget false 0 0 0 0 0))) (lent (0 ∷ 0 ∷ 0 ∷ 0 ∷ 1 ∷ 0 ∷ 0 ∷ 0 ∷ 0 ∷ 0 ∷ 0 ∷ 0 ∷ 24 ∷ 0 ∷ 0 ∷ 8 ∷ 0 ∷ 184 ∷ zeros 54) (190 ∷ 255 ∷ 1 ∷ 7 ∷ zeros 14) ([]) (4 ∷ 6 ∷ 1 ∷ 3 ∷ 8 ∷ 5 ∷ []) (0 ∷ 22 ∷ zeros 16) (8 ∷ 1 ∷ 8 ∷ 4 ∷ 2 ∷ 7 ∷ 1 ∷ 1 ∷ [])) (write 9 (1 ∷ 156 ∷ [])) ≡ out (state 1 (of_fields magic 8 2 (0 ∷ 0 ∷ 0 ∷ 1 ∷ 1 ∷ 0 ∷ 0 ∷ 0 ∷ 0 ∷ 0 ∷ 0 ∷ 0 ∷ 24 ∷ 0 ∷ 0 ∷ 8 ∷ 0 ∷ 184 ∷ [])) true (overlay 0 44 2 1 (zeros 3) 0 (budget false 0 0 0 0 0))) (lent (0 ∷ 0 ∷ 0 ∷ 0 ∷ 1 ∷ 0 ∷ 0 ∷ 0 ∷ 0 ∷ 0 ∷ 0 ∷ 0 ∷ 24 ∷ 0 ∷ 0 ∷ 8 ∷ 0 ∷ 184 ∷ zeros 54) (190 ∷ 255 ∷ 1 ∷ 7 ∷ zeros 14) ([]) (4 ∷ 6 ∷ 1 ∷ 3 ∷ 8 ∷ 5 ∷ []) (0 ∷ 22 ∷ zeros 16) (8 ∷ 1 ∷ 8 ∷ 4 ∷ 2 ∷ 7 ∷ 1 ∷ 1 ∷ [])) (Refused (BufferTooShort)) ([])))))
unfolding count filled overwrite resize growMemory requiredPages normalized within merge insert add around piece remove flatRuns additions add_one remain plan put refill tabulate add_number_if span grown_numbers image_byte image_page push_run raw over_byte budget_bytes raised touch blank copy stretch patch finish grow grow_to chop tail truncated whole_page over_write written fresh look_up sized passing marked try_touch try_patch try_finish try_grow try_grow_to try_tail try_chop try_truncate try_write frame_count entry_count wiped cached short_buffers view overlay_of put_back dirty_page stored small_codec small_sum small_decode small_runs small_load small_fresh importing stale refreshing marks after_commit after_import_begin after_import_chunk after_import_cancel after_import_finish after_refresh after_refresh_step short store_plan no_overlay image_bytes unchanged planned_runs commit_over restore do_import_begin do_import_chunk do_import_finish do_import_cancel do_export image_sum do_checksum do_refresh refresh_from do_refresh_step store outside open_image closing open'
c30 = (refl, (refl, (refl, (refl))))

-- open: 1
-- open: 2
-- open: accepted
-- open: import closed
c31 :
    (open' 4 256 2 6 18446744073709551615 real_codec 2 (73 ∷ 67 ∷ 83 ∷ 81 ∷ 76 ∷ 73 ∷ 84 ∷ 68 ∷ 8 ∷ 0 ∷ 0 ∷ 0 ∷ 0 ∷ 64 ∷ 0 ∷ 0 ∷ 19 ∷ 0 ∷ 0 ∷ 0 ∷ 0 ∷ 0 ∷ 0 ∷ 0 ∷ 5 ∷ 0 ∷ 0 ∷ 0 ∷ 0 ∷ 0 ∷ 0 ∷ 0 ∷ 254 ∷ 255 ∷ 255 ∷ 255 ∷ 255 ∷ 255 ∷ 255 ∷ 255 ∷ 15 ∷ 0 ∷ 0 ∷ 0 ∷ 0 ∷ 0 ∷ 0 ∷ 0 ∷ 186 ∷ 0 ∷ 0 ∷ 0 ∷ 0 ∷ 0 ∷ 0 ∷ 0 ∷ 7 ∷ 0 ∷ 0 ∷ 0 ∷ 0 ∷ 0 ∷ 0 ∷ 0 ∷ 0 ∷ 0 ∷ 0 ∷ 0 ∷ 0 ∷ 0 ∷ 0 ∷ 0 ∷ 4 ∷ 0 ∷ 0 ∷ 0 ∷ 0 ∷ 0 ∷ 0 ∷ 0 ∷ 0 ∷ 1 ∷ 0 ∷ 0 ∷ 0 ∷ 0 ∷ 0 ∷ 0 ∷ 10 ∷ 0 ∷ 0 ∷ 0 ∷ 0 ∷ 0 ∷ 0 ∷ 0 ∷ 132 ∷ 0 ∷ 0 ∷ 0 ∷ 0 ∷ 0 ∷ 0 ∷ 0 ∷ 0 ∷ 0 ∷ 0 ∷ 0 ∷ 0 ∷ 0 ∷ 0 ∷ 0 ∷ 0 ∷ 1 ∷ 0 ∷ 0 ∷ 0 ∷ 0 ∷ 0 ∷ 0 ∷ 29 ∷ 0 ∷ 0 ∷ 0 ∷ 0 ∷ 0 ∷ 0 ∷ 0 ∷ 3 ∷ 0 ∷ 0 ∷ 0 ∷ 0 ∷ 0 ∷ 0 ∷ 0 ∷ 8 ∷ 0 ∷ 0 ∷ 0 ∷ 0 ∷ 0 ∷ 0 ∷ 0 ∷ 1 ∷ 0 ∷ 0 ∷ 0 ∷ 0 ∷ 0 ∷ 0 ∷ 0 ∷ 206 ∷ 158 ∷ 97 ∷ 91 ∷ 236 ∷ 172 ∷ 130 ∷ 187 ∷ 6 ∷ 0 ∷ 0 ∷ 0 ∷ 0 ∷ 0 ∷ 0 ∷ 0 ∷ 9 ∷ 0 ∷ 0 ∷ 0 ∷ 0 ∷ 0 ∷ 0 ∷ 0 ∷ 1 ∷ 0 ∷ 219 ∷ 7 ∷ 7 ∷ 1 ∷ 7 ∷ 0 ∷ 123 ∷ 0 ∷ 0 ∷ 255 ∷ 1 ∷ 23 ∷ 0 ∷ 0 ∷ 7 ∷ 7 ∷ 0 ∷ 255 ∷ 255 ∷ 0 ∷ 7 ∷ 140 ∷ 1 ∷ 1 ∷ 255 ∷ 7 ∷ 1 ∷ 0 ∷ 7 ∷ 73 ∷ 1 ∷ 7 ∷ 1 ∷ 0 ∷ 255 ∷ 1 ∷ 0 ∷ 7 ∷ 0 ∷ 255 ∷ 252 ∷ 154 ∷ 1 ∷ 7 ∷ 1 ∷ 39 ∷ 1 ∷ 7 ∷ 1 ∷ 7 ∷ 1 ∷ 255 ∷ 0 ∷ 0 ∷ 7 ∷ 7 ∷ 7 ∷ 202 ∷ 7 ∷ 7 ∷ 0 ∷ 1 ∷ 1 ∷ 1 ∷ 0 ∷ 7 ∷ 255 ∷ 255 ∷ 20 ∷ 7 ∷ 0 ∷ 1 ∷ 255 ∷ 156 ∷ 7 ∷ 255 ∷ 7 ∷ 21 ∷ 255 ∷ 0 ∷ 7 ∷ 0 ∷ 255 ∷ 1 ∷ 7 ∷ 255 ∷ 1 ∷ 1 ∷ 255 ∷ 1 ∷ 7 ∷ 155 ∷ 1 ∷ 7 ∷ 1 ∷ 7 ∷ 255 ∷ 7 ∷ 0 ∷ 1 ∷ 1 ∷ 1 ∷ 7 ∷ 7 ∷ 0 ∷ 7 ∷ 0 ∷ 7 ∷ 0 ∷ 7 ∷ 0 ∷ 1 ∷ 1 ∷ 7 ∷ 255 ∷ 0 ∷ 0 ∷ 0 ∷ 0 ∷ 155 ∷ 1 ∷ 7 ∷ 59 ∷ 1 ∷ 7 ∷ 7 ∷ 7 ∷ 0 ∷ 1 ∷ 7 ∷ 0 ∷ 255 ∷ 173 ∷ 0 ∷ 1 ∷ 255 ∷ 0 ∷ 7 ∷ 236 ∷ 7 ∷ 1 ∷ 1 ∷ 81 ∷ 0 ∷ 0 ∷ 255 ∷ 0 ∷ 255 ∷ 7 ∷ 7 ∷ 1 ∷ 1 ∷ 7 ∷ 255 ∷ 7 ∷ 174 ∷ 1 ∷ 198 ∷ 124 ∷ 7 ∷ 1 ∷ 69 ∷ 7 ∷ 255 ∷ 7 ∷ 112 ∷ 1 ∷ 0 ∷ 1 ∷ 0 ∷ 195 ∷ 7 ∷ 7 ∷ 0 ∷ 0 ∷ 0 ∷ 1 ∷ 0 ∷ 1 ∷ 1 ∷ 255 ∷ 255 ∷ 7 ∷ 0 ∷ 7 ∷ 1 ∷ 239 ∷ 255 ∷ 0 ∷ 0 ∷ 255 ∷ 218 ∷ 0 ∷ 7 ∷ 1 ∷ 0 ∷ 7 ∷ 56 ∷ 180 ∷ 1 ∷ 7 ∷ 7 ∷ 255 ∷ 7 ∷ 7 ∷ 255 ∷ 1 ∷ 255 ∷ 255 ∷ 0 ∷ 0 ∷ 7 ∷ 255 ∷ 7 ∷ 62 ∷ 255 ∷ 1 ∷ 1 ∷ 1 ∷ 181 ∷ 1 ∷ 255 ∷ 21 ∷ 0 ∷ 255 ∷ 7 ∷ 255 ∷ 226 ∷ 1 ∷ 255 ∷ 255 ∷ 7 ∷ 42 ∷ 1 ∷ 7 ∷ 255 ∷ 0 ∷ 177 ∷ 255 ∷ 1 ∷ 1 ∷ 62 ∷ 0 ∷ 0 ∷ 170 ∷ 0 ∷ 0 ∷ 207 ∷ 7 ∷ 1 ∷ 7 ∷ 73 ∷ 255 ∷ 255 ∷ 179 ∷ 107 ∷ 255 ∷ 1 ∷ 0 ∷ 255 ∷ 0 ∷ 1 ∷ 142 ∷ 43 ∷ 0 ∷ 0 ∷ 7 ∷ 19 ∷ 255 ∷ 1 ∷ 1 ∷ 1 ∷ 0 ∷ 0 ∷ 25 ∷ 7 ∷ 1 ∷ 0 ∷ 255 ∷ 7 ∷ 0 ∷ 255 ∷ 0 ∷ 255 ∷ 0 ∷ 7 ∷ 177 ∷ 210 ∷ 7 ∷ 255 ∷ 0 ∷ 0 ∷ 255 ∷ 1 ∷ 7 ∷ 0 ∷ 1 ∷ 54 ∷ 255 ∷ 7 ∷ 7 ∷ 63 ∷ 110 ∷ 0 ∷ 1 ∷ 0 ∷ 255 ∷ 7 ∷ 199 ∷ 7 ∷ 7 ∷ 0 ∷ 255 ∷ 255 ∷ 7 ∷ 214 ∷ 255 ∷ 0 ∷ 0 ∷ 0 ∷ 0 ∷ 1 ∷ 1 ∷ 0 ∷ 0 ∷ 7 ∷ 255 ∷ 1 ∷ 0 ∷ 1 ∷ 255 ∷ 1 ∷ 255 ∷ 158 ∷ []) ≡ opened (state 2 (of_fields 0 0 0 []) false (overlay 0 0 0 0 (0 ∷ 0 ∷ []) 0 (budget false 0 0 0 0 0))) (Refused (ForeignStableMemoryImage)) (73 ∷ 67 ∷ 83 ∷ 81 ∷ 76 ∷ 73 ∷ 84 ∷ 68 ∷ 8 ∷ 0 ∷ 0 ∷ 0 ∷ 0 ∷ 64 ∷ 0 ∷ 0 ∷ 19 ∷ 0 ∷ 0 ∷ 0 ∷ 0 ∷ 0 ∷ 0 ∷ 0 ∷ 5 ∷ 0 ∷ 0 ∷ 0 ∷ 0 ∷ 0 ∷ 0 ∷ 0 ∷ 254 ∷ 255 ∷ 255 ∷ 255 ∷ 255 ∷ 255 ∷ 255 ∷ 255 ∷ 15 ∷ 0 ∷ 0 ∷ 0 ∷ 0 ∷ 0 ∷ 0 ∷ 0 ∷ 186 ∷ 0 ∷ 0 ∷ 0 ∷ 0 ∷ 0 ∷ 0 ∷ 0 ∷ 7 ∷ 0 ∷ 0 ∷ 0 ∷ 0 ∷ 0 ∷ 0 ∷ 0 ∷ 0 ∷ 0 ∷ 0 ∷ 0 ∷ 0 ∷ 0 ∷ 0 ∷ 0 ∷ 4 ∷ 0 ∷ 0 ∷ 0 ∷ 0 ∷ 0 ∷ 0 ∷ 0 ∷ 0 ∷ 1 ∷ 0 ∷ 0 ∷ 0 ∷ 0 ∷ 0 ∷ 0 ∷ 10 ∷ 0 ∷ 0 ∷ 0 ∷ 0 ∷ 0 ∷ 0 ∷ 0 ∷ 132 ∷ 0 ∷ 0 ∷ 0 ∷ 0 ∷ 0 ∷ 0 ∷ 0 ∷ 0 ∷ 0 ∷ 0 ∷ 0 ∷ 0 ∷ 0 ∷ 0 ∷ 0 ∷ 0 ∷ 1 ∷ 0 ∷ 0 ∷ 0 ∷ 0 ∷ 0 ∷ 0 ∷ 29 ∷ 0 ∷ 0 ∷ 0 ∷ 0 ∷ 0 ∷ 0 ∷ 0 ∷ 3 ∷ 0 ∷ 0 ∷ 0 ∷ 0 ∷ 0 ∷ 0 ∷ 0 ∷ 8 ∷ 0 ∷ 0 ∷ 0 ∷ 0 ∷ 0 ∷ 0 ∷ 0 ∷ 1 ∷ 0 ∷ 0 ∷ 0 ∷ 0 ∷ 0 ∷ 0 ∷ 0 ∷ 206 ∷ 158 ∷ 97 ∷ 91 ∷ 236 ∷ 172 ∷ 130 ∷ 187 ∷ 6 ∷ 0 ∷ 0 ∷ 0 ∷ 0 ∷ 0 ∷ 0 ∷ 0 ∷ 9 ∷ 0 ∷ 0 ∷ 0 ∷ 0 ∷ 0 ∷ 0 ∷ 0 ∷ 1 ∷ 0 ∷ 219 ∷ 7 ∷ 7 ∷ 1 ∷ 7 ∷ 0 ∷ 123 ∷ 0 ∷ 0 ∷ 255 ∷ 1 ∷ 23 ∷ 0 ∷ 0 ∷ 7 ∷ 7 ∷ 0 ∷ 255 ∷ 255 ∷ 0 ∷ 7 ∷ 140 ∷ 1 ∷ 1 ∷ 255 ∷ 7 ∷ 1 ∷ 0 ∷ 7 ∷ 73 ∷ 1 ∷ 7 ∷ 1 ∷ 0 ∷ 255 ∷ 1 ∷ 0 ∷ 7 ∷ 0 ∷ 255 ∷ 252 ∷ 154 ∷ 1 ∷ 7 ∷ 1 ∷ 39 ∷ 1 ∷ 7 ∷ 1 ∷ 7 ∷ 1 ∷ 255 ∷ 0 ∷ 0 ∷ 7 ∷ 7 ∷ 7 ∷ 202 ∷ 7 ∷ 7 ∷ 0 ∷ 1 ∷ 1 ∷ 1 ∷ 0 ∷ 7 ∷ 255 ∷ 255 ∷ 20 ∷ 7 ∷ 0 ∷ 1 ∷ 255 ∷ 156 ∷ 7 ∷ 255 ∷ 7 ∷ 21 ∷ 255 ∷ 0 ∷ 7 ∷ 0 ∷ 255 ∷ 1 ∷ 7 ∷ 255 ∷ 1 ∷ 1 ∷ 255 ∷ 1 ∷ 7 ∷ 155 ∷ 1 ∷ 7 ∷ 1 ∷ 7 ∷ 255 ∷ 7 ∷ 0 ∷ 1 ∷ 1 ∷ 1 ∷ 7 ∷ 7 ∷ 0 ∷ 7 ∷ 0 ∷ 7 ∷ 0 ∷ 7 ∷ 0 ∷ 1 ∷ 1 ∷ 7 ∷ 255 ∷ 0 ∷ 0 ∷ 0 ∷ 0 ∷ 155 ∷ 1 ∷ 7 ∷ 59 ∷ 1 ∷ 7 ∷ 7 ∷ 7 ∷ 0 ∷ 1 ∷ 7 ∷ 0 ∷ 255 ∷ 173 ∷ 0 ∷ 1 ∷ 255 ∷ 0 ∷ 7 ∷ 236 ∷ 7 ∷ 1 ∷ 1 ∷ 81 ∷ 0 ∷ 0 ∷ 255 ∷ 0 ∷ 255 ∷ 7 ∷ 7 ∷ 1 ∷ 1 ∷ 7 ∷ 255 ∷ 7 ∷ 174 ∷ 1 ∷ 198 ∷ 124 ∷ 7 ∷ 1 ∷ 69 ∷ 7 ∷ 255 ∷ 7 ∷ 112 ∷ 1 ∷ 0 ∷ 1 ∷ 0 ∷ 195 ∷ 7 ∷ 7 ∷ 0 ∷ 0 ∷ 0 ∷ 1 ∷ 0 ∷ 1 ∷ 1 ∷ 255 ∷ 255 ∷ 7 ∷ 0 ∷ 7 ∷ 1 ∷ 239 ∷ 255 ∷ 0 ∷ 0 ∷ 255 ∷ 218 ∷ 0 ∷ 7 ∷ 1 ∷ 0 ∷ 7 ∷ 56 ∷ 180 ∷ 1 ∷ 7 ∷ 7 ∷ 255 ∷ 7 ∷ 7 ∷ 255 ∷ 1 ∷ 255 ∷ 255 ∷ 0 ∷ 0 ∷ 7 ∷ 255 ∷ 7 ∷ 62 ∷ 255 ∷ 1 ∷ 1 ∷ 1 ∷ 181 ∷ 1 ∷ 255 ∷ 21 ∷ 0 ∷ 255 ∷ 7 ∷ 255 ∷ 226 ∷ 1 ∷ 255 ∷ 255 ∷ 7 ∷ 42 ∷ 1 ∷ 7 ∷ 255 ∷ 0 ∷ 177 ∷ 255 ∷ 1 ∷ 1 ∷ 62 ∷ 0 ∷ 0 ∷ 170 ∷ 0 ∷ 0 ∷ 207 ∷ 7 ∷ 1 ∷ 7 ∷ 73 ∷ 255 ∷ 255 ∷ 179 ∷ 107 ∷ 255 ∷ 1 ∷ 0 ∷ 255 ∷ 0 ∷ 1 ∷ 142 ∷ 43 ∷ 0 ∷ 0 ∷ 7 ∷ 19 ∷ 255 ∷ 1 ∷ 1 ∷ 1 ∷ 0 ∷ 0 ∷ 25 ∷ 7 ∷ 1 ∷ 0 ∷ 255 ∷ 7 ∷ 0 ∷ 255 ∷ 0 ∷ 255 ∷ 0 ∷ 7 ∷ 177 ∷ 210 ∷ 7 ∷ 255 ∷ 0 ∷ 0 ∷ 255 ∷ 1 ∷ 7 ∷ 0 ∷ 1 ∷ 54 ∷ 255 ∷ 7 ∷ 7 ∷ 63 ∷ 110 ∷ 0 ∷ 1 ∷ 0 ∷ 255 ∷ 7 ∷ 199 ∷ 7 ∷ 7 ∷ 0 ∷ 255 ∷ 255 ∷ 7 ∷ 214 ∷ 255 ∷ 0 ∷ 0 ∷ 0 ∷ 0 ∷ 1 ∷ 1 ∷ 0 ∷ 0 ∷ 7 ∷ 255 ∷ 1 ∷ 0 ∷ 1 ∷ 255 ∷ 1 ∷ 255 ∷ 158 ∷ [])) ×
    ((open' 4 256 2 6 18446744073709551615 real_codec 2 (73 ∷ 67 ∷ 83 ∷ 81 ∷ 76 ∷ 73 ∷ 84 ∷ 69 ∷ 8 ∷ 0 ∷ 0 ∷ 0 ∷ 0 ∷ 64 ∷ 0 ∷ 0 ∷ 19 ∷ 0 ∷ 0 ∷ 0 ∷ 0 ∷ 0 ∷ 0 ∷ 0 ∷ 5 ∷ 0 ∷ 0 ∷ 0 ∷ 0 ∷ 0 ∷ 0 ∷ 0 ∷ 0 ∷ 0 ∷ 0 ∷ 0 ∷ 0 ∷ 0 ∷ 0 ∷ 0 ∷ 11 ∷ 0 ∷ 0 ∷ 0 ∷ 0 ∷ 0 ∷ 0 ∷ 0 ∷ 3 ∷ 0 ∷ 0 ∷ 0 ∷ 0 ∷ 0 ∷ 0 ∷ 0 ∷ 1 ∷ 0 ∷ 0 ∷ 0 ∷ 0 ∷ 0 ∷ 0 ∷ 0 ∷ 1 ∷ 0 ∷ 0 ∷ 0 ∷ 0 ∷ 0 ∷ 0 ∷ 0 ∷ 1 ∷ 0 ∷ 0 ∷ 0 ∷ 0 ∷ 0 ∷ 0 ∷ 0 ∷ 4 ∷ 1 ∷ 0 ∷ 0 ∷ 0 ∷ 0 ∷ 0 ∷ 0 ∷ 0 ∷ 0 ∷ 0 ∷ 0 ∷ 0 ∷ 0 ∷ 0 ∷ 0 ∷ 0 ∷ 0 ∷ 0 ∷ 0 ∷ 0 ∷ 0 ∷ 0 ∷ 0 ∷ 0 ∷ 0 ∷ 0 ∷ 0 ∷ 0 ∷ 0 ∷ 0 ∷ 0 ∷ 2 ∷ 1 ∷ 0 ∷ 0 ∷ 0 ∷ 0 ∷ 0 ∷ 0 ∷ 0 ∷ 0 ∷ 0 ∷ 0 ∷ 0 ∷ 0 ∷ 0 ∷ 0 ∷ 5 ∷ 0 ∷ 0 ∷ 0 ∷ 0 ∷ 0 ∷ 0 ∷ 0 ∷ 7 ∷ 0 ∷ 0 ∷ 0 ∷ 0 ∷ 0 ∷ 0 ∷ 0 ∷ 2 ∷ 0 ∷ 0 ∷ 0 ∷ 0 ∷ 0 ∷ 0 ∷ 0 ∷ 216 ∷ 63 ∷ 196 ∷ 161 ∷ 202 ∷ 202 ∷ 59 ∷ 105 ∷ 5 ∷ 0 ∷ 0 ∷ 0 ∷ 0 ∷ 0 ∷ 0 ∷ 0 ∷ 6 ∷ 0 ∷ 0 ∷ 0 ∷ 0 ∷ 0 ∷ 0 ∷ 0 ∷ 1 ∷ 0 ∷ 0 ∷ 0 ∷ 0 ∷ 0 ∷ 0 ∷ 0 ∷ 2 ∷ 0 ∷ 0 ∷ 0 ∷ 0 ∷ 0 ∷ 0 ∷ 0 ∷ 0 ∷ 255 ∷ 1 ∷ 155 ∷ 0 ∷ 159 ∷ 255 ∷ 0 ∷ 255 ∷ 255 ∷ 255 ∷ 0 ∷ 1 ∷ 0 ∷ 7 ∷ 207 ∷ 30 ∷ 0 ∷ 255 ∷ 142 ∷ 1 ∷ 1 ∷ 255 ∷ 1 ∷ 0 ∷ 7 ∷ 203 ∷ 1 ∷ 0 ∷ 1 ∷ 7 ∷ 0 ∷ 1 ∷ 1 ∷ 1 ∷ 1 ∷ 66 ∷ 7 ∷ 255 ∷ 7 ∷ 7 ∷ 0 ∷ 1 ∷ 0 ∷ 1 ∷ 1 ∷ 1 ∷ 255 ∷ 7 ∷ 45 ∷ 19 ∷ 255 ∷ 1 ∷ 1 ∷ 121 ∷ 10 ∷ 0 ∷ 0 ∷ 1 ∷ 0 ∷ 7 ∷ 1 ∷ 7 ∷ 1 ∷ 1 ∷ 85 ∷ 1 ∷ 0 ∷ 0 ∷ 1 ∷ 220 ∷ 7 ∷ 7 ∷ 255 ∷ 1 ∷ 0 ∷ 7 ∷ 0 ∷ 255 ∷ 7 ∷ 0 ∷ 57 ∷ 255 ∷ 7 ∷ 0 ∷ 189 ∷ 0 ∷ 7 ∷ 0 ∷ 215 ∷ 181 ∷ 255 ∷ 7 ∷ 255 ∷ 255 ∷ 1 ∷ 1 ∷ 19 ∷ 20 ∷ 255 ∷ 0 ∷ 1 ∷ 0 ∷ 7 ∷ 1 ∷ 0 ∷ 255 ∷ 0 ∷ 250 ∷ 0 ∷ 0 ∷ 255 ∷ 24 ∷ 1 ∷ 7 ∷ 193 ∷ 0 ∷ 7 ∷ 1 ∷ 255 ∷ 32 ∷ 159 ∷ 0 ∷ 117 ∷ 74 ∷ 0 ∷ 54 ∷ 255 ∷ 0 ∷ 0 ∷ 0 ∷ 255 ∷ 1 ∷ 100 ∷ 1 ∷ 208 ∷ 0 ∷ 1 ∷ 7 ∷ 7 ∷ 1 ∷ 40 ∷ 7 ∷ 0 ∷ 255 ∷ 255 ∷ 0 ∷ 1 ∷ 255 ∷ 7 ∷ 1 ∷ 1 ∷ 0 ∷ 1 ∷ 255 ∷ 237 ∷ 7 ∷ 145 ∷ 255 ∷ 163 ∷ 7 ∷ 1 ∷ 255 ∷ 1 ∷ 163 ∷ 171 ∷ 1 ∷ 231 ∷ 255 ∷ 255 ∷ 255 ∷ 1 ∷ 255 ∷ 255 ∷ 1 ∷ 255 ∷ 216 ∷ 1 ∷ 164 ∷ 255 ∷ 7 ∷ 7 ∷ 1 ∷ 0 ∷ 245 ∷ 1 ∷ 0 ∷ 1 ∷ 7 ∷ 29 ∷ 2 ∷ 1 ∷ 0 ∷ 1 ∷ 1 ∷ 7 ∷ 1 ∷ 114 ∷ 1 ∷ 1 ∷ 0 ∷ 255 ∷ 1 ∷ 7 ∷ 7 ∷ 0 ∷ 0 ∷ 7 ∷ 227 ∷ 7 ∷ 223 ∷ 1 ∷ 7 ∷ 255 ∷ 1 ∷ 7 ∷ 255 ∷ 0 ∷ 7 ∷ 1 ∷ 121 ∷ 255 ∷ 0 ∷ 1 ∷ 255 ∷ 218 ∷ 0 ∷ 7 ∷ 1 ∷ 231 ∷ 1 ∷ 169 ∷ 255 ∷ 7 ∷ 0 ∷ 1 ∷ 7 ∷ 16 ∷ 0 ∷ 132 ∷ 0 ∷ 7 ∷ 0 ∷ 255 ∷ 255 ∷ 0 ∷ 209 ∷ 1 ∷ 0 ∷ 0 ∷ 1 ∷ 255 ∷ 53 ∷ 1 ∷ 7 ∷ 7 ∷ 0 ∷ 114 ∷ 7 ∷ 255 ∷ 7 ∷ 0 ∷ 1 ∷ 0 ∷ 255 ∷ 255 ∷ 0 ∷ 0 ∷ 255 ∷ 48 ∷ 1 ∷ 217 ∷ 255 ∷ 7 ∷ 0 ∷ 0 ∷ 0 ∷ 0 ∷ 255 ∷ 243 ∷ 214 ∷ 236 ∷ 1 ∷ 0 ∷ 0 ∷ 255 ∷ 255 ∷ 228 ∷ 0 ∷ 246 ∷ 7 ∷ 255 ∷ 7 ∷ 1 ∷ 255 ∷ 7 ∷ 0 ∷ 7 ∷ 1 ∷ 1 ∷ 0 ∷ 0 ∷ 1 ∷ 1 ∷ 255 ∷ 255 ∷ 7 ∷ 255 ∷ 7 ∷ 7 ∷ 0 ∷ 7 ∷ 1 ∷ 1 ∷ 0 ∷ 15 ∷ 255 ∷ 7 ∷ 52 ∷ 255 ∷ []) ≡ opened (state 2 (of_fields 0 0 0 []) false (overlay 0 0 0 0 (0 ∷ 0 ∷ []) 0 (budget false 0 0 0 0 0))) (Refused (UnsupportedLayoutVersion 7)) (73 ∷ 67 ∷ 83 ∷ 81 ∷ 76 ∷ 73 ∷ 84 ∷ 69 ∷ 8 ∷ 0 ∷ 0 ∷ 0 ∷ 0 ∷ 64 ∷ 0 ∷ 0 ∷ 19 ∷ 0 ∷ 0 ∷ 0 ∷ 0 ∷ 0 ∷ 0 ∷ 0 ∷ 5 ∷ 0 ∷ 0 ∷ 0 ∷ 0 ∷ 0 ∷ 0 ∷ 0 ∷ 0 ∷ 0 ∷ 0 ∷ 0 ∷ 0 ∷ 0 ∷ 0 ∷ 0 ∷ 11 ∷ 0 ∷ 0 ∷ 0 ∷ 0 ∷ 0 ∷ 0 ∷ 0 ∷ 3 ∷ 0 ∷ 0 ∷ 0 ∷ 0 ∷ 0 ∷ 0 ∷ 0 ∷ 1 ∷ 0 ∷ 0 ∷ 0 ∷ 0 ∷ 0 ∷ 0 ∷ 0 ∷ 1 ∷ 0 ∷ 0 ∷ 0 ∷ 0 ∷ 0 ∷ 0 ∷ 0 ∷ 1 ∷ 0 ∷ 0 ∷ 0 ∷ 0 ∷ 0 ∷ 0 ∷ 0 ∷ 4 ∷ 1 ∷ 0 ∷ 0 ∷ 0 ∷ 0 ∷ 0 ∷ 0 ∷ 0 ∷ 0 ∷ 0 ∷ 0 ∷ 0 ∷ 0 ∷ 0 ∷ 0 ∷ 0 ∷ 0 ∷ 0 ∷ 0 ∷ 0 ∷ 0 ∷ 0 ∷ 0 ∷ 0 ∷ 0 ∷ 0 ∷ 0 ∷ 0 ∷ 0 ∷ 0 ∷ 0 ∷ 2 ∷ 1 ∷ 0 ∷ 0 ∷ 0 ∷ 0 ∷ 0 ∷ 0 ∷ 0 ∷ 0 ∷ 0 ∷ 0 ∷ 0 ∷ 0 ∷ 0 ∷ 0 ∷ 5 ∷ 0 ∷ 0 ∷ 0 ∷ 0 ∷ 0 ∷ 0 ∷ 0 ∷ 7 ∷ 0 ∷ 0 ∷ 0 ∷ 0 ∷ 0 ∷ 0 ∷ 0 ∷ 2 ∷ 0 ∷ 0 ∷ 0 ∷ 0 ∷ 0 ∷ 0 ∷ 0 ∷ 216 ∷ 63 ∷ 196 ∷ 161 ∷ 202 ∷ 202 ∷ 59 ∷ 105 ∷ 5 ∷ 0 ∷ 0 ∷ 0 ∷ 0 ∷ 0 ∷ 0 ∷ 0 ∷ 6 ∷ 0 ∷ 0 ∷ 0 ∷ 0 ∷ 0 ∷ 0 ∷ 0 ∷ 1 ∷ 0 ∷ 0 ∷ 0 ∷ 0 ∷ 0 ∷ 0 ∷ 0 ∷ 2 ∷ 0 ∷ 0 ∷ 0 ∷ 0 ∷ 0 ∷ 0 ∷ 0 ∷ 0 ∷ 255 ∷ 1 ∷ 155 ∷ 0 ∷ 159 ∷ 255 ∷ 0 ∷ 255 ∷ 255 ∷ 255 ∷ 0 ∷ 1 ∷ 0 ∷ 7 ∷ 207 ∷ 30 ∷ 0 ∷ 255 ∷ 142 ∷ 1 ∷ 1 ∷ 255 ∷ 1 ∷ 0 ∷ 7 ∷ 203 ∷ 1 ∷ 0 ∷ 1 ∷ 7 ∷ 0 ∷ 1 ∷ 1 ∷ 1 ∷ 1 ∷ 66 ∷ 7 ∷ 255 ∷ 7 ∷ 7 ∷ 0 ∷ 1 ∷ 0 ∷ 1 ∷ 1 ∷ 1 ∷ 255 ∷ 7 ∷ 45 ∷ 19 ∷ 255 ∷ 1 ∷ 1 ∷ 121 ∷ 10 ∷ 0 ∷ 0 ∷ 1 ∷ 0 ∷ 7 ∷ 1 ∷ 7 ∷ 1 ∷ 1 ∷ 85 ∷ 1 ∷ 0 ∷ 0 ∷ 1 ∷ 220 ∷ 7 ∷ 7 ∷ 255 ∷ 1 ∷ 0 ∷ 7 ∷ 0 ∷ 255 ∷ 7 ∷ 0 ∷ 57 ∷ 255 ∷ 7 ∷ 0 ∷ 189 ∷ 0 ∷ 7 ∷ 0 ∷ 215 ∷ 181 ∷ 255 ∷ 7 ∷ 255 ∷ 255 ∷ 1 ∷ 1 ∷ 19 ∷ 20 ∷ 255 ∷ 0 ∷ 1 ∷ 0 ∷ 7 ∷ 1 ∷ 0 ∷ 255 ∷ 0 ∷ 250 ∷ 0 ∷ 0 ∷ 255 ∷ 24 ∷ 1 ∷ 7 ∷ 193 ∷ 0 ∷ 7 ∷ 1 ∷ 255 ∷ 32 ∷ 159 ∷ 0 ∷ 117 ∷ 74 ∷ 0 ∷ 54 ∷ 255 ∷ 0 ∷ 0 ∷ 0 ∷ 255 ∷ 1 ∷ 100 ∷ 1 ∷ 208 ∷ 0 ∷ 1 ∷ 7 ∷ 7 ∷ 1 ∷ 40 ∷ 7 ∷ 0 ∷ 255 ∷ 255 ∷ 0 ∷ 1 ∷ 255 ∷ 7 ∷ 1 ∷ 1 ∷ 0 ∷ 1 ∷ 255 ∷ 237 ∷ 7 ∷ 145 ∷ 255 ∷ 163 ∷ 7 ∷ 1 ∷ 255 ∷ 1 ∷ 163 ∷ 171 ∷ 1 ∷ 231 ∷ 255 ∷ 255 ∷ 255 ∷ 1 ∷ 255 ∷ 255 ∷ 1 ∷ 255 ∷ 216 ∷ 1 ∷ 164 ∷ 255 ∷ 7 ∷ 7 ∷ 1 ∷ 0 ∷ 245 ∷ 1 ∷ 0 ∷ 1 ∷ 7 ∷ 29 ∷ 2 ∷ 1 ∷ 0 ∷ 1 ∷ 1 ∷ 7 ∷ 1 ∷ 114 ∷ 1 ∷ 1 ∷ 0 ∷ 255 ∷ 1 ∷ 7 ∷ 7 ∷ 0 ∷ 0 ∷ 7 ∷ 227 ∷ 7 ∷ 223 ∷ 1 ∷ 7 ∷ 255 ∷ 1 ∷ 7 ∷ 255 ∷ 0 ∷ 7 ∷ 1 ∷ 121 ∷ 255 ∷ 0 ∷ 1 ∷ 255 ∷ 218 ∷ 0 ∷ 7 ∷ 1 ∷ 231 ∷ 1 ∷ 169 ∷ 255 ∷ 7 ∷ 0 ∷ 1 ∷ 7 ∷ 16 ∷ 0 ∷ 132 ∷ 0 ∷ 7 ∷ 0 ∷ 255 ∷ 255 ∷ 0 ∷ 209 ∷ 1 ∷ 0 ∷ 0 ∷ 1 ∷ 255 ∷ 53 ∷ 1 ∷ 7 ∷ 7 ∷ 0 ∷ 114 ∷ 7 ∷ 255 ∷ 7 ∷ 0 ∷ 1 ∷ 0 ∷ 255 ∷ 255 ∷ 0 ∷ 0 ∷ 255 ∷ 48 ∷ 1 ∷ 217 ∷ 255 ∷ 7 ∷ 0 ∷ 0 ∷ 0 ∷ 0 ∷ 255 ∷ 243 ∷ 214 ∷ 236 ∷ 1 ∷ 0 ∷ 0 ∷ 255 ∷ 255 ∷ 228 ∷ 0 ∷ 246 ∷ 7 ∷ 255 ∷ 7 ∷ 1 ∷ 255 ∷ 7 ∷ 0 ∷ 7 ∷ 1 ∷ 1 ∷ 0 ∷ 0 ∷ 1 ∷ 1 ∷ 255 ∷ 255 ∷ 7 ∷ 255 ∷ 7 ∷ 7 ∷ 0 ∷ 7 ∷ 1 ∷ 1 ∷ 0 ∷ 15 ∷ 255 ∷ 7 ∷ 52 ∷ 255 ∷ [])) ×
    ((open' 4 256 2 6 18446744073709551615 real_codec 2 (73 ∷ 67 ∷ 83 ∷ 81 ∷ 76 ∷ 73 ∷ 84 ∷ 69 ∷ 8 ∷ 0 ∷ 0 ∷ 0 ∷ 0 ∷ 64 ∷ 0 ∷ 0 ∷ 20 ∷ 0 ∷ 0 ∷ 0 ∷ 0 ∷ 0 ∷ 0 ∷ 0 ∷ 0 ∷ 0 ∷ 0 ∷ 0 ∷ 0 ∷ 0 ∷ 0 ∷ 0 ∷ 0 ∷ 0 ∷ 0 ∷ 0 ∷ 0 ∷ 0 ∷ 0 ∷ 0 ∷ 0 ∷ 0 ∷ 0 ∷ 0 ∷ 0 ∷ 0 ∷ 0 ∷ 0 ∷ 0 ∷ 0 ∷ 0 ∷ 0 ∷ 0 ∷ 0 ∷ 0 ∷ 0 ∷ 0 ∷ 0 ∷ 0 ∷ 0 ∷ 0 ∷ 0 ∷ 0 ∷ 0 ∷ 0 ∷ 0 ∷ 0 ∷ 0 ∷ 0 ∷ 0 ∷ 0 ∷ 0 ∷ 0 ∷ 0 ∷ 0 ∷ 0 ∷ 0 ∷ 0 ∷ 0 ∷ 0 ∷ 0 ∷ 0 ∷ 0 ∷ 0 ∷ 0 ∷ 0 ∷ 0 ∷ 0 ∷ 0 ∷ 0 ∷ 0 ∷ 0 ∷ 0 ∷ 0 ∷ 0 ∷ 0 ∷ 0 ∷ 0 ∷ 0 ∷ 0 ∷ 0 ∷ 0 ∷ 0 ∷ 0 ∷ 0 ∷ 0 ∷ 0 ∷ 0 ∷ 0 ∷ 0 ∷ 0 ∷ 0 ∷ 0 ∷ 1 ∷ 0 ∷ 0 ∷ 0 ∷ 0 ∷ 0 ∷ 0 ∷ 0 ∷ 0 ∷ 0 ∷ 0 ∷ 0 ∷ 0 ∷ 0 ∷ 0 ∷ 0 ∷ 0 ∷ 0 ∷ 0 ∷ 0 ∷ 0 ∷ 0 ∷ 0 ∷ 8 ∷ 0 ∷ 0 ∷ 0 ∷ 0 ∷ 0 ∷ 0 ∷ 0 ∷ 6 ∷ 0 ∷ 0 ∷ 0 ∷ 0 ∷ 0 ∷ 0 ∷ 0 ∷ 176 ∷ 212 ∷ 177 ∷ 165 ∷ 246 ∷ 113 ∷ 202 ∷ 109 ∷ 8 ∷ 0 ∷ 0 ∷ 0 ∷ 0 ∷ 0 ∷ 0 ∷ 0 ∷ 9 ∷ 0 ∷ 0 ∷ 0 ∷ 0 ∷ 0 ∷ 0 ∷ 0 ∷ 20 ∷ 0 ∷ 0 ∷ 0 ∷ 0 ∷ 0 ∷ 0 ∷ 0 ∷ 21 ∷ 0 ∷ 0 ∷ 0 ∷ 0 ∷ 0 ∷ 0 ∷ 0 ∷ 30 ∷ 0 ∷ 0 ∷ 0 ∷ 0 ∷ 0 ∷ 0 ∷ 0 ∷ 31 ∷ 0 ∷ 0 ∷ 0 ∷ 0 ∷ 0 ∷ 0 ∷ 0 ∷ 40 ∷ 0 ∷ 0 ∷ 0 ∷ 0 ∷ 0 ∷ 0 ∷ 0 ∷ 41 ∷ 0 ∷ 0 ∷ 0 ∷ 0 ∷ 0 ∷ 0 ∷ 0 ∷ 50 ∷ 0 ∷ 0 ∷ 0 ∷ 0 ∷ 0 ∷ 0 ∷ 0 ∷ 51 ∷ 0 ∷ 0 ∷ 0 ∷ 0 ∷ 0 ∷ 0 ∷ 0 ∷ 60 ∷ 0 ∷ 0 ∷ 0 ∷ 0 ∷ 0 ∷ 0 ∷ 0 ∷ 61 ∷ 0 ∷ 0 ∷ 0 ∷ 0 ∷ 0 ∷ 0 ∷ 0 ∷ 7 ∷ 255 ∷ 126 ∷ 255 ∷ 0 ∷ 0 ∷ 0 ∷ 0 ∷ 119 ∷ 255 ∷ 0 ∷ 1 ∷ 1 ∷ 1 ∷ 255 ∷ 212 ∷ 77 ∷ 7 ∷ 255 ∷ 255 ∷ 7 ∷ 255 ∷ 0 ∷ 126 ∷ 255 ∷ 0 ∷ 7 ∷ 0 ∷ 0 ∷ 255 ∷ 255 ∷ 1 ∷ 255 ∷ 92 ∷ 85 ∷ 1 ∷ 119 ∷ 237 ∷ 0 ∷ 7 ∷ 0 ∷ 255 ∷ 0 ∷ 7 ∷ 191 ∷ 0 ∷ 1 ∷ 12 ∷ 255 ∷ 1 ∷ 1 ∷ 1 ∷ 0 ∷ 0 ∷ 1 ∷ 1 ∷ 154 ∷ 143 ∷ 62 ∷ 0 ∷ 255 ∷ 60 ∷ 255 ∷ 1 ∷ 255 ∷ 1 ∷ 7 ∷ 0 ∷ 44 ∷ 0 ∷ 255 ∷ 7 ∷ 255 ∷ 204 ∷ 1 ∷ 7 ∷ 0 ∷ 255 ∷ 0 ∷ 107 ∷ 255 ∷ 0 ∷ 3 ∷ 1 ∷ 1 ∷ 0 ∷ 1 ∷ 0 ∷ 0 ∷ 0 ∷ 7 ∷ 7 ∷ 7 ∷ 0 ∷ 7 ∷ 1 ∷ 7 ∷ 0 ∷ 255 ∷ 126 ∷ 255 ∷ 0 ∷ 255 ∷ 0 ∷ 0 ∷ 7 ∷ 7 ∷ 255 ∷ 93 ∷ 0 ∷ 116 ∷ 0 ∷ 0 ∷ 255 ∷ 7 ∷ 1 ∷ 255 ∷ 1 ∷ 255 ∷ 7 ∷ 70 ∷ 72 ∷ 255 ∷ 0 ∷ 233 ∷ 1 ∷ 7 ∷ 255 ∷ 0 ∷ 255 ∷ 1 ∷ 0 ∷ 0 ∷ 55 ∷ 1 ∷ 7 ∷ 0 ∷ 130 ∷ 1 ∷ 1 ∷ 0 ∷ 0 ∷ 0 ∷ 107 ∷ 255 ∷ 125 ∷ 7 ∷ 0 ∷ 7 ∷ 255 ∷ 255 ∷ 0 ∷ 0 ∷ 7 ∷ 255 ∷ 7 ∷ 0 ∷ 0 ∷ 19 ∷ 0 ∷ 7 ∷ 255 ∷ 235 ∷ 1 ∷ 7 ∷ 255 ∷ 187 ∷ 255 ∷ 255 ∷ 255 ∷ 7 ∷ 1 ∷ 7 ∷ 255 ∷ 255 ∷ 0 ∷ 0 ∷ 160 ∷ 1 ∷ 44 ∷ 102 ∷ 1 ∷ 255 ∷ 7 ∷ 1 ∷ 7 ∷ 255 ∷ 7 ∷ 7 ∷ 255 ∷ 255 ∷ 54 ∷ 255 ∷ 255 ∷ 7 ∷ 0 ∷ 7 ∷ 1 ∷ 0 ∷ 1 ∷ 0 ∷ 7 ∷ 0 ∷ 0 ∷ 0 ∷ 7 ∷ 0 ∷ 7 ∷ 128 ∷ 228 ∷ 7 ∷ 0 ∷ 7 ∷ 0 ∷ 1 ∷ 22 ∷ 154 ∷ 1 ∷ 0 ∷ 136 ∷ 7 ∷ 7 ∷ 255 ∷ 0 ∷ 255 ∷ 7 ∷ 89 ∷ 7 ∷ 161 ∷ 7 ∷ 7 ∷ 186 ∷ 0 ∷ 255 ∷ 155 ∷ 7 ∷ 255 ∷ 255 ∷ 44 ∷ 255 ∷ 255 ∷ 0 ∷ 1 ∷ 255 ∷ 187 ∷ 92 ∷ 33 ∷ 0 ∷ 43 ∷ 7 ∷ 1 ∷ 1 ∷ 7 ∷ 7 ∷ zeros 258) ≡ opened (state 2 (of_fields 4995698478791476041 8 16384 (20 ∷ 0 ∷ 0 ∷ 0 ∷ 0 ∷ 0 ∷ 0 ∷ 0 ∷ 0 ∷ 0 ∷ 0 ∷ 0 ∷ 256 ∷ 0 ∷ 0 ∷ 8 ∷ 6 ∷ 7911260999585486000 ∷ [])) false (overlay 0 0 0 0 (0 ∷ 0 ∷ []) 0 (budget false 0 0 0 0 0))) (Done) (73 ∷ 67 ∷ 83 ∷ 81 ∷ 76 ∷ 73 ∷ 84 ∷ 69 ∷ 8 ∷ 0 ∷ 0 ∷ 0 ∷ 0 ∷ 64 ∷ 0 ∷ 0 ∷ 20 ∷ 0 ∷ 0 ∷ 0 ∷ 0 ∷ 0 ∷ 0 ∷ 0 ∷ 0 ∷ 0 ∷ 0 ∷ 0 ∷ 0 ∷ 0 ∷ 0 ∷ 0 ∷ 0 ∷ 0 ∷ 0 ∷ 0 ∷ 0 ∷ 0 ∷ 0 ∷ 0 ∷ 0 ∷ 0 ∷ 0 ∷ 0 ∷ 0 ∷ 0 ∷ 0 ∷ 0 ∷ 0 ∷ 0 ∷ 0 ∷ 0 ∷ 0 ∷ 0 ∷ 0 ∷ 0 ∷ 0 ∷ 0 ∷ 0 ∷ 0 ∷ 0 ∷ 0 ∷ 0 ∷ 0 ∷ 0 ∷ 0 ∷ 0 ∷ 0 ∷ 0 ∷ 0 ∷ 0 ∷ 0 ∷ 0 ∷ 0 ∷ 0 ∷ 0 ∷ 0 ∷ 0 ∷ 0 ∷ 0 ∷ 0 ∷ 0 ∷ 0 ∷ 0 ∷ 0 ∷ 0 ∷ 0 ∷ 0 ∷ 0 ∷ 0 ∷ 0 ∷ 0 ∷ 0 ∷ 0 ∷ 0 ∷ 0 ∷ 0 ∷ 0 ∷ 0 ∷ 0 ∷ 0 ∷ 0 ∷ 0 ∷ 0 ∷ 0 ∷ 0 ∷ 0 ∷ 0 ∷ 0 ∷ 0 ∷ 0 ∷ 0 ∷ 0 ∷ 1 ∷ 0 ∷ 0 ∷ 0 ∷ 0 ∷ 0 ∷ 0 ∷ 0 ∷ 0 ∷ 0 ∷ 0 ∷ 0 ∷ 0 ∷ 0 ∷ 0 ∷ 0 ∷ 0 ∷ 0 ∷ 0 ∷ 0 ∷ 0 ∷ 0 ∷ 0 ∷ 8 ∷ 0 ∷ 0 ∷ 0 ∷ 0 ∷ 0 ∷ 0 ∷ 0 ∷ 6 ∷ 0 ∷ 0 ∷ 0 ∷ 0 ∷ 0 ∷ 0 ∷ 0 ∷ 176 ∷ 212 ∷ 177 ∷ 165 ∷ 246 ∷ 113 ∷ 202 ∷ 109 ∷ 8 ∷ 0 ∷ 0 ∷ 0 ∷ 0 ∷ 0 ∷ 0 ∷ 0 ∷ 9 ∷ 0 ∷ 0 ∷ 0 ∷ 0 ∷ 0 ∷ 0 ∷ 0 ∷ 20 ∷ 0 ∷ 0 ∷ 0 ∷ 0 ∷ 0 ∷ 0 ∷ 0 ∷ 21 ∷ 0 ∷ 0 ∷ 0 ∷ 0 ∷ 0 ∷ 0 ∷ 0 ∷ 30 ∷ 0 ∷ 0 ∷ 0 ∷ 0 ∷ 0 ∷ 0 ∷ 0 ∷ 31 ∷ 0 ∷ 0 ∷ 0 ∷ 0 ∷ 0 ∷ 0 ∷ 0 ∷ 40 ∷ 0 ∷ 0 ∷ 0 ∷ 0 ∷ 0 ∷ 0 ∷ 0 ∷ 41 ∷ 0 ∷ 0 ∷ 0 ∷ 0 ∷ 0 ∷ 0 ∷ 0 ∷ 50 ∷ 0 ∷ 0 ∷ 0 ∷ 0 ∷ 0 ∷ 0 ∷ 0 ∷ 51 ∷ 0 ∷ 0 ∷ 0 ∷ 0 ∷ 0 ∷ 0 ∷ 0 ∷ 60 ∷ 0 ∷ 0 ∷ 0 ∷ 0 ∷ 0 ∷ 0 ∷ 0 ∷ 61 ∷ 0 ∷ 0 ∷ 0 ∷ 0 ∷ 0 ∷ 0 ∷ 0 ∷ 7 ∷ 255 ∷ 126 ∷ 255 ∷ 0 ∷ 0 ∷ 0 ∷ 0 ∷ 119 ∷ 255 ∷ 0 ∷ 1 ∷ 1 ∷ 1 ∷ 255 ∷ 212 ∷ 77 ∷ 7 ∷ 255 ∷ 255 ∷ 7 ∷ 255 ∷ 0 ∷ 126 ∷ 255 ∷ 0 ∷ 7 ∷ 0 ∷ 0 ∷ 255 ∷ 255 ∷ 1 ∷ 255 ∷ 92 ∷ 85 ∷ 1 ∷ 119 ∷ 237 ∷ 0 ∷ 7 ∷ 0 ∷ 255 ∷ 0 ∷ 7 ∷ 191 ∷ 0 ∷ 1 ∷ 12 ∷ 255 ∷ 1 ∷ 1 ∷ 1 ∷ 0 ∷ 0 ∷ 1 ∷ 1 ∷ 154 ∷ 143 ∷ 62 ∷ 0 ∷ 255 ∷ 60 ∷ 255 ∷ 1 ∷ 255 ∷ 1 ∷ 7 ∷ 0 ∷ 44 ∷ 0 ∷ 255 ∷ 7 ∷ 255 ∷ 204 ∷ 1 ∷ 7 ∷ 0 ∷ 255 ∷ 0 ∷ 107 ∷ 255 ∷ 0 ∷ 3 ∷ 1 ∷ 1 ∷ 0 ∷ 1 ∷ 0 ∷ 0 ∷ 0 ∷ 7 ∷ 7 ∷ 7 ∷ 0 ∷ 7 ∷ 1 ∷ 7 ∷ 0 ∷ 255 ∷ 126 ∷ 255 ∷ 0 ∷ 255 ∷ 0 ∷ 0 ∷ 7 ∷ 7 ∷ 255 ∷ 93 ∷ 0 ∷ 116 ∷ 0 ∷ 0 ∷ 255 ∷ 7 ∷ 1 ∷ 255 ∷ 1 ∷ 255 ∷ 7 ∷ 70 ∷ 72 ∷ 255 ∷ 0 ∷ 233 ∷ 1 ∷ 7 ∷ 255 ∷ 0 ∷ 255 ∷ 1 ∷ 0 ∷ 0 ∷ 55 ∷ 1 ∷ 7 ∷ 0 ∷ 130 ∷ 1 ∷ 1 ∷ 0 ∷ 0 ∷ 0 ∷ 107 ∷ 255 ∷ 125 ∷ 7 ∷ 0 ∷ 7 ∷ 255 ∷ 255 ∷ 0 ∷ 0 ∷ 7 ∷ 255 ∷ 7 ∷ 0 ∷ 0 ∷ 19 ∷ 0 ∷ 7 ∷ 255 ∷ 235 ∷ 1 ∷ 7 ∷ 255 ∷ 187 ∷ 255 ∷ 255 ∷ 255 ∷ 7 ∷ 1 ∷ 7 ∷ 255 ∷ 255 ∷ 0 ∷ 0 ∷ 160 ∷ 1 ∷ 44 ∷ 102 ∷ 1 ∷ 255 ∷ 7 ∷ 1 ∷ 7 ∷ 255 ∷ 7 ∷ 7 ∷ 255 ∷ 255 ∷ 54 ∷ 255 ∷ 255 ∷ 7 ∷ 0 ∷ 7 ∷ 1 ∷ 0 ∷ 1 ∷ 0 ∷ 7 ∷ 0 ∷ 0 ∷ 0 ∷ 7 ∷ 0 ∷ 7 ∷ 128 ∷ 228 ∷ 7 ∷ 0 ∷ 7 ∷ 0 ∷ 1 ∷ 22 ∷ 154 ∷ 1 ∷ 0 ∷ 136 ∷ 7 ∷ 7 ∷ 255 ∷ 0 ∷ 255 ∷ 7 ∷ 89 ∷ 7 ∷ 161 ∷ 7 ∷ 7 ∷ 186 ∷ 0 ∷ 255 ∷ 155 ∷ 7 ∷ 255 ∷ 255 ∷ 44 ∷ 255 ∷ 255 ∷ 0 ∷ 1 ∷ 255 ∷ 187 ∷ 92 ∷ 33 ∷ 0 ∷ 43 ∷ 7 ∷ 1 ∷ 1 ∷ 7 ∷ 7 ∷ zeros 258)) ×
    ((open' 4 256 2 6 18446744073709551615 real_codec 2 (73 ∷ 67 ∷ 83 ∷ 81 ∷ 76 ∷ 73 ∷ 84 ∷ 69 ∷ 8 ∷ 0 ∷ 0 ∷ 0 ∷ 0 ∷ 64 ∷ 0 ∷ 0 ∷ 9 ∷ 0 ∷ 0 ∷ 0 ∷ 0 ∷ 0 ∷ 0 ∷ 0 ∷ 0 ∷ 0 ∷ 0 ∷ 0 ∷ 0 ∷ 0 ∷ 0 ∷ 0 ∷ 0 ∷ 0 ∷ 0 ∷ 0 ∷ 0 ∷ 0 ∷ 0 ∷ 0 ∷ 1 ∷ 0 ∷ 0 ∷ 0 ∷ 0 ∷ 0 ∷ 0 ∷ 0 ∷ 172 ∷ 0 ∷ 0 ∷ 0 ∷ 0 ∷ 0 ∷ 0 ∷ 0 ∷ 3 ∷ 0 ∷ 0 ∷ 0 ∷ 0 ∷ 0 ∷ 0 ∷ 0 ∷ 5 ∷ 0 ∷ 0 ∷ 0 ∷ 0 ∷ 0 ∷ 0 ∷ 0 ∷ 5 ∷ 0 ∷ 0 ∷ 0 ∷ 0 ∷ 0 ∷ 0 ∷ 0 ∷ 2 ∷ 1 ∷ 0 ∷ 0 ∷ 0 ∷ 0 ∷ 0 ∷ 0 ∷ 0 ∷ 0 ∷ 0 ∷ 0 ∷ 0 ∷ 0 ∷ 0 ∷ 0 ∷ 0 ∷ 0 ∷ 0 ∷ 0 ∷ 0 ∷ 0 ∷ 0 ∷ 0 ∷ 0 ∷ 0 ∷ 0 ∷ 0 ∷ 0 ∷ 0 ∷ 0 ∷ 0 ∷ 0 ∷ 1 ∷ 0 ∷ 0 ∷ 0 ∷ 0 ∷ 0 ∷ 0 ∷ 0 ∷ 0 ∷ 0 ∷ 0 ∷ 0 ∷ 0 ∷ 0 ∷ 0 ∷ 3 ∷ 0 ∷ 0 ∷ 0 ∷ 0 ∷ 0 ∷ 0 ∷ 0 ∷ 8 ∷ 0 ∷ 0 ∷ 0 ∷ 0 ∷ 0 ∷ 0 ∷ 0 ∷ 4 ∷ 0 ∷ 0 ∷ 0 ∷ 0 ∷ 0 ∷ 0 ∷ 0 ∷ 54 ∷ 108 ∷ 163 ∷ 108 ∷ 203 ∷ 83 ∷ 41 ∷ 234 ∷ 2 ∷ 0 ∷ 0 ∷ 0 ∷ 0 ∷ 0 ∷ 0 ∷ 0 ∷ 5 ∷ 0 ∷ 0 ∷ 0 ∷ 0 ∷ 0 ∷ 0 ∷ 0 ∷ 7 ∷ 0 ∷ 0 ∷ 0 ∷ 0 ∷ 0 ∷ 0 ∷ 0 ∷ 10 ∷ 0 ∷ 0 ∷ 0 ∷ 0 ∷ 0 ∷ 0 ∷ 0 ∷ 11 ∷ 0 ∷ 0 ∷ 0 ∷ 0 ∷ 0 ∷ 0 ∷ 0 ∷ 14 ∷ 0 ∷ 0 ∷ 0 ∷ 0 ∷ 0 ∷ 0 ∷ 0 ∷ 15 ∷ 0 ∷ 0 ∷ 0 ∷ 0 ∷ 0 ∷ 0 ∷ 0 ∷ 17 ∷ 0 ∷ 0 ∷ 0 ∷ 0 ∷ 0 ∷ 0 ∷ 0 ∷ 255 ∷ 0 ∷ 0 ∷ 255 ∷ 47 ∷ 226 ∷ 255 ∷ 255 ∷ 0 ∷ 83 ∷ 1 ∷ 7 ∷ 255 ∷ 255 ∷ 255 ∷ 226 ∷ 0 ∷ 255 ∷ 7 ∷ 7 ∷ 255 ∷ 1 ∷ 255 ∷ 0 ∷ 7 ∷ 46 ∷ 1 ∷ 7 ∷ 0 ∷ 1 ∷ 23 ∷ 7 ∷ 255 ∷ 7 ∷ 255 ∷ 255 ∷ 1 ∷ 255 ∷ 105 ∷ 1 ∷ 0 ∷ 120 ∷ 7 ∷ 1 ∷ 175 ∷ 255 ∷ 7 ∷ 1 ∷ 255 ∷ 255 ∷ 136 ∷ 1 ∷ 255 ∷ 7 ∷ 0 ∷ 1 ∷ 1 ∷ 255 ∷ 0 ∷ 10 ∷ 0 ∷ 0 ∷ 7 ∷ 1 ∷ 7 ∷ 18 ∷ 7 ∷ 0 ∷ 116 ∷ 0 ∷ 1 ∷ 0 ∷ 0 ∷ 0 ∷ 1 ∷ 255 ∷ 255 ∷ 1 ∷ 7 ∷ 7 ∷ 1 ∷ 0 ∷ 0 ∷ 7 ∷ 255 ∷ 7 ∷ 0 ∷ 7 ∷ 7 ∷ 7 ∷ 0 ∷ 0 ∷ 255 ∷ 7 ∷ 0 ∷ 7 ∷ 255 ∷ 0 ∷ 7 ∷ 255 ∷ 255 ∷ 168 ∷ 1 ∷ 0 ∷ 0 ∷ 0 ∷ 1 ∷ 255 ∷ 248 ∷ 99 ∷ 1 ∷ 255 ∷ 255 ∷ 1 ∷ 7 ∷ 7 ∷ 255 ∷ 0 ∷ 255 ∷ 7 ∷ 255 ∷ 7 ∷ 1 ∷ 104 ∷ 255 ∷ 7 ∷ 7 ∷ 0 ∷ 7 ∷ 1 ∷ 7 ∷ 7 ∷ 0 ∷ 7 ∷ 255 ∷ 1 ∷ 203 ∷ 1 ∷ 159 ∷ 1 ∷ 0 ∷ 0 ∷ 0 ∷ 1 ∷ 143 ∷ 7 ∷ 72 ∷ 255 ∷ 94 ∷ 1 ∷ 1 ∷ 14 ∷ 255 ∷ 26 ∷ 255 ∷ 255 ∷ 255 ∷ 0 ∷ 7 ∷ 182 ∷ 116 ∷ 0 ∷ 1 ∷ 7 ∷ 7 ∷ 0 ∷ 255 ∷ 164 ∷ 7 ∷ 1 ∷ 0 ∷ 0 ∷ 0 ∷ 1 ∷ 255 ∷ 7 ∷ 7 ∷ 7 ∷ 255 ∷ 7 ∷ 255 ∷ 7 ∷ 0 ∷ 1 ∷ 255 ∷ 114 ∷ 0 ∷ 0 ∷ 167 ∷ 0 ∷ 0 ∷ 255 ∷ 1 ∷ 18 ∷ 64 ∷ 7 ∷ 1 ∷ 1 ∷ 1 ∷ 255 ∷ 7 ∷ 1 ∷ 196 ∷ 7 ∷ 0 ∷ 33 ∷ 255 ∷ 0 ∷ 255 ∷ 255 ∷ 0 ∷ 0 ∷ 1 ∷ 38 ∷ 7 ∷ 0 ∷ 7 ∷ 1 ∷ 255 ∷ 0 ∷ 0 ∷ 1 ∷ 0 ∷ 255 ∷ 127 ∷ 1 ∷ 1 ∷ 0 ∷ 0 ∷ 0 ∷ 255 ∷ 203 ∷ 99 ∷ 0 ∷ 255 ∷ 255 ∷ 255 ∷ 25 ∷ 1 ∷ 0 ∷ 7 ∷ 0 ∷ 241 ∷ 68 ∷ 1 ∷ 7 ∷ 27 ∷ 1 ∷ 159 ∷ 63 ∷ 0 ∷ 255 ∷ 1 ∷ 1 ∷ 1 ∷ 7 ∷ 7 ∷ 115 ∷ 7 ∷ 0 ∷ 0 ∷ 0 ∷ 0 ∷ 7 ∷ 62 ∷ 7 ∷ 1 ∷ 255 ∷ 7 ∷ 0 ∷ 1 ∷ 33 ∷ 0 ∷ 7 ∷ 255 ∷ 255 ∷ 1 ∷ 7 ∷ 255 ∷ 0 ∷ 10 ∷ 255 ∷ 121 ∷ 7 ∷ 7 ∷ 0 ∷ 255 ∷ 0 ∷ []) ≡ opened (state 2 (of_fields 4995698478791476041 8 16384 (9 ∷ 0 ∷ 0 ∷ 0 ∷ 172 ∷ 0 ∷ 0 ∷ 0 ∷ 0 ∷ 0 ∷ 0 ∷ 0 ∷ 256 ∷ 0 ∷ 3 ∷ 8 ∷ 4 ∷ 10728234817970267293 ∷ [])) false (overlay 0 0 0 0 (0 ∷ 0 ∷ []) 0 (budget false 0 0 0 0 0))) (Done) (73 ∷ 67 ∷ 83 ∷ 81 ∷ 76 ∷ 73 ∷ 84 ∷ 69 ∷ 8 ∷ 0 ∷ 0 ∷ 0 ∷ 0 ∷ 64 ∷ 0 ∷ 0 ∷ 9 ∷ 0 ∷ 0 ∷ 0 ∷ 0 ∷ 0 ∷ 0 ∷ 0 ∷ 0 ∷ 0 ∷ 0 ∷ 0 ∷ 0 ∷ 0 ∷ 0 ∷ 0 ∷ 0 ∷ 0 ∷ 0 ∷ 0 ∷ 0 ∷ 0 ∷ 0 ∷ 0 ∷ 0 ∷ 0 ∷ 0 ∷ 0 ∷ 0 ∷ 0 ∷ 0 ∷ 0 ∷ 172 ∷ 0 ∷ 0 ∷ 0 ∷ 0 ∷ 0 ∷ 0 ∷ 0 ∷ 0 ∷ 0 ∷ 0 ∷ 0 ∷ 0 ∷ 0 ∷ 0 ∷ 0 ∷ 0 ∷ 0 ∷ 0 ∷ 0 ∷ 0 ∷ 0 ∷ 0 ∷ 0 ∷ 0 ∷ 0 ∷ 0 ∷ 0 ∷ 0 ∷ 0 ∷ 0 ∷ 0 ∷ 0 ∷ 0 ∷ 0 ∷ 0 ∷ 0 ∷ 0 ∷ 0 ∷ 0 ∷ 0 ∷ 0 ∷ 0 ∷ 0 ∷ 0 ∷ 0 ∷ 0 ∷ 0 ∷ 0 ∷ 0 ∷ 0 ∷ 0 ∷ 0 ∷ 0 ∷ 0 ∷ 0 ∷ 0 ∷ 0 ∷ 0 ∷ 0 ∷ 0 ∷ 0 ∷ 0 ∷ 0 ∷ 0 ∷ 1 ∷ 0 ∷ 0 ∷ 0 ∷ 0 ∷ 0 ∷ 0 ∷ 0 ∷ 0 ∷ 0 ∷ 0 ∷ 0 ∷ 0 ∷ 0 ∷ 0 ∷ 3 ∷ 0 ∷ 0 ∷ 0 ∷ 0 ∷ 0 ∷ 0 ∷ 0 ∷ 8 ∷ 0 ∷ 0 ∷ 0 ∷ 0 ∷ 0 ∷ 0 ∷ 0 ∷ 4 ∷ 0 ∷ 0 ∷ 0 ∷ 0 ∷ 0 ∷ 0 ∷ 0 ∷ 157 ∷ 100 ∷ 24 ∷ 240 ∷ 185 ∷ 88 ∷ 226 ∷ 148 ∷ 2 ∷ 0 ∷ 0 ∷ 0 ∷ 0 ∷ 0 ∷ 0 ∷ 0 ∷ 5 ∷ 0 ∷ 0 ∷ 0 ∷ 0 ∷ 0 ∷ 0 ∷ 0 ∷ 7 ∷ 0 ∷ 0 ∷ 0 ∷ 0 ∷ 0 ∷ 0 ∷ 0 ∷ 10 ∷ 0 ∷ 0 ∷ 0 ∷ 0 ∷ 0 ∷ 0 ∷ 0 ∷ 11 ∷ 0 ∷ 0 ∷ 0 ∷ 0 ∷ 0 ∷ 0 ∷ 0 ∷ 14 ∷ 0 ∷ 0 ∷ 0 ∷ 0 ∷ 0 ∷ 0 ∷ 0 ∷ 15 ∷ 0 ∷ 0 ∷ 0 ∷ 0 ∷ 0 ∷ 0 ∷ 0 ∷ 17 ∷ 0 ∷ 0 ∷ 0 ∷ 0 ∷ 0 ∷ 0 ∷ 0 ∷ 255 ∷ 0 ∷ 0 ∷ 255 ∷ 47 ∷ 226 ∷ 255 ∷ 255 ∷ 0 ∷ 83 ∷ 1 ∷ 7 ∷ 255 ∷ 255 ∷ 255 ∷ 226 ∷ 0 ∷ 255 ∷ 7 ∷ 7 ∷ 255 ∷ 1 ∷ 255 ∷ 0 ∷ 7 ∷ 46 ∷ 1 ∷ 7 ∷ 0 ∷ 1 ∷ 23 ∷ 7 ∷ 255 ∷ 7 ∷ 255 ∷ 255 ∷ 1 ∷ 255 ∷ 105 ∷ 1 ∷ 0 ∷ 120 ∷ 7 ∷ 1 ∷ 175 ∷ 255 ∷ 7 ∷ 1 ∷ 255 ∷ 255 ∷ 136 ∷ 1 ∷ 255 ∷ 7 ∷ 0 ∷ 1 ∷ 1 ∷ 255 ∷ 0 ∷ 10 ∷ 0 ∷ 0 ∷ 7 ∷ 1 ∷ 7 ∷ 18 ∷ 7 ∷ 0 ∷ 116 ∷ 0 ∷ 1 ∷ 0 ∷ 0 ∷ 0 ∷ 1 ∷ 255 ∷ 255 ∷ 1 ∷ 7 ∷ 7 ∷ 1 ∷ 0 ∷ 0 ∷ 7 ∷ 255 ∷ 7 ∷ 0 ∷ 7 ∷ 7 ∷ 7 ∷ 0 ∷ 0 ∷ 255 ∷ 7 ∷ 0 ∷ 7 ∷ 255 ∷ 0 ∷ 7 ∷ 255 ∷ 255 ∷ 168 ∷ 1 ∷ 0 ∷ 0 ∷ 0 ∷ 1 ∷ 255 ∷ 248 ∷ 99 ∷ 1 ∷ 255 ∷ 255 ∷ 1 ∷ 7 ∷ 7 ∷ 255 ∷ 0 ∷ 255 ∷ 7 ∷ 255 ∷ 7 ∷ 1 ∷ 104 ∷ 255 ∷ 7 ∷ 7 ∷ 0 ∷ 7 ∷ 1 ∷ 7 ∷ 7 ∷ 0 ∷ 7 ∷ 255 ∷ 1 ∷ 203 ∷ 1 ∷ 159 ∷ 1 ∷ 0 ∷ 0 ∷ 0 ∷ 1 ∷ 143 ∷ 7 ∷ 72 ∷ 255 ∷ 94 ∷ 1 ∷ 1 ∷ 14 ∷ 255 ∷ 26 ∷ 255 ∷ 255 ∷ 255 ∷ 0 ∷ 7 ∷ 182 ∷ 116 ∷ 0 ∷ 1 ∷ 7 ∷ 7 ∷ 0 ∷ 255 ∷ 164 ∷ 7 ∷ 1 ∷ 0 ∷ 0 ∷ 0 ∷ 1 ∷ 255 ∷ 7 ∷ 7 ∷ 7 ∷ 255 ∷ 7 ∷ 255 ∷ 7 ∷ 0 ∷ 1 ∷ 255 ∷ 114 ∷ 0 ∷ 0 ∷ 167 ∷ 0 ∷ 0 ∷ 255 ∷ 1 ∷ 18 ∷ 64 ∷ 7 ∷ 1 ∷ 1 ∷ 1 ∷ 255 ∷ 7 ∷ 1 ∷ 196 ∷ 7 ∷ 0 ∷ 33 ∷ 255 ∷ 0 ∷ 255 ∷ 255 ∷ 0 ∷ 0 ∷ 1 ∷ 38 ∷ 7 ∷ 0 ∷ 7 ∷ 1 ∷ 255 ∷ 0 ∷ 0 ∷ 1 ∷ 0 ∷ 255 ∷ 127 ∷ 1 ∷ 1 ∷ 0 ∷ 0 ∷ 0 ∷ 255 ∷ 203 ∷ 99 ∷ 0 ∷ 255 ∷ 255 ∷ 255 ∷ 25 ∷ 1 ∷ 0 ∷ 7 ∷ 0 ∷ 241 ∷ 68 ∷ 1 ∷ 7 ∷ 27 ∷ 1 ∷ 159 ∷ 63 ∷ 0 ∷ 255 ∷ 1 ∷ 1 ∷ 1 ∷ 7 ∷ 7 ∷ 115 ∷ 7 ∷ 0 ∷ 0 ∷ 0 ∷ 0 ∷ 7 ∷ 62 ∷ 7 ∷ 1 ∷ 255 ∷ 7 ∷ 0 ∷ 1 ∷ 33 ∷ 0 ∷ 7 ∷ 255 ∷ 255 ∷ 1 ∷ 7 ∷ 255 ∷ 0 ∷ 10 ∷ 255 ∷ 121 ∷ 7 ∷ 7 ∷ 0 ∷ 255 ∷ 0 ∷ [])))))
unfolding count filled overwrite resize growMemory requiredPages normalized field_offset fields_in decodeBlock checksum_of seal prefix encoded_len block_bytes encode header header_of freshBlock word word_at mixed step fold fnv1a64 loadBlock judge block_runs checksum_in within merge insert add around piece remove flatRuns image_numbers image_count additions add_one remain plan put refill tabulate add_number_if span grown_numbers image_byte image_page push_run raw over_byte budget_bytes raised touch blank copy stretch patch finish grow grow_to chop tail truncated whole_page over_write written fresh look_up sized passing marked try_touch try_patch try_finish try_grow try_grow_to try_tail try_chop try_truncate try_write frame_count entry_count wiped cached short_buffers view overlay_of put_back dirty_page stored real_codec importing stale refreshing marks after_commit after_import_begin after_import_chunk after_import_cancel after_import_finish after_refresh after_refresh_step short store_plan no_overlay image_bytes unchanged planned_runs commit_over restore do_import_begin do_import_chunk do_import_finish do_import_cancel do_export image_sum do_checksum do_refresh refresh_from do_refresh_step store outside open_image closing open'
c31 = (refl, (refl, (refl, (refl))))
