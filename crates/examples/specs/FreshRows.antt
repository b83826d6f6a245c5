-- The rows on a fresh image: computed, at the real sizes and with the real superblock.
use Rattle.std.specs.Prelude.{◌≡◌, refl, ℕ, zero, suc, ◌+◌, ◌*◌, ◌/◌, ◌≤◌, ◌<◌, false, List, [], ◌∷◌, take}
use Rattle.std.proofs.Common.{ap, arith}
use Rattle.config.specs.Pages.{count}
use Rattle.memory.specs.Bytes.{zeros, overwrite, resize, filled}
use Rattle.memory.specs.Growth.{grow_to as growMemory, required as requiredPages}
use Rattle.words.specs.Words.{word, word_at}
use Rattle.fnv.specs.Fnv.{mixed, step, fold, fnv1a64}
use Rattle.meta.specs.Runs.{numbers_of, normalized}
use Rattle.meta.specs.Block.{header, header_of, block_bytes, encode, fields_in, decode, encoded_len, prefix, checksum_of, seal, store_in, fresh as freshBlock}
use Rattle.meta_load.specs.Load.{block_runs, checksum_in, judge as judgeBlock, load as loadBlock}
use Rattle.runs.specs.Sets.{within, merge, insert, add, around, piece, remove}
use Rattle.runs.specs.Flat.{runs_in as flatRuns}
use Rattle.image_runs.specs.Image.{image_count, image_numbers}
use Rattle.extents.specs.Plan.{additions}
use Rattle.update.specs.Lists.{put, refill, tabulate}
use Rattle.update.specs.Pages.{add_number_if, span, grown_numbers}
use Rattle.update.specs.Image.{image_byte, image_page}
use Rattle.update.specs.Update.{push_run, raw, over_byte, budget_bytes, raised, touch, blank, copy, stretch, patch, finish, grow, grow_to, chop, tail, truncated, whole_page, over_write, written, fresh, look_up, sized, passing, marked, try_touch, try_patch, try_finish, try_grow, try_grow_to, try_tail, try_chop, try_truncate, try_write}
use Rattle.update.specs.Buffers.{frame_count, entry_count, wiped, cached, short_buffers, view, overlay_of, put_back}
use Rattle.store.specs.declared.State.{State}
use Rattle.store.specs.Codec.{stored, real_codec}
use Rattle.store.specs.Blocks.{importing, stale, refreshing, marks, after_commit}
use Rattle.store.specs.Calls.{Call, begin, read, write, truncate, commit, Lent, Out, out, number, short, with_mem, Mode, idle, update, mode_of}
use Rattle.store.specs.Plan.{store_plan}
use Rattle.store.specs.Store.{no_overlay, image_bytes, unchanged, planned_runs, commit_over, store, runs_of, size_now}
use Rattle.store.specs.Opening.{Opened, outside, open_image, closing, open'}

-- the store at 01's sizes
abbrev pub real : State → Lent → Call → Out
real = store 16384 65536 8 1024 18446744073709551615 real_codec

-- what is seen after the last call: 01's number of the answer, the size, the record, the dirty pages, the image's runs, the count of stable pages, and the bytes read
pub record Seen : Type 0 where
  pub answer : ℕ
  pub size : ℕ
  pub recorded : List ℕ
  pub dirty : List ℕ
  pub runs : List ℕ
  pub stable : ℕ
  pub bytes : List ℕ

abbrev pub seen : ℕ → ℕ → List ℕ → List ℕ → List ℕ → ℕ → List ℕ → Seen
seen a s r d x c b = record { answer = a; size = s; recorded = r; dirty = d; runs = x; stable = c; bytes = b }

abbrev pub record_now : Mode → Lent → List ℕ
record_now idle l = []
record_now (update v) l = take (v.recorded * 2) l.bufs.recs

abbrev pub dirty_now : Mode → Lent → List ℕ
dirty_now idle l = []
dirty_now (update v) l = take v.dirty l.bufs.numbers

abbrev pub look : Out → Seen
look x = seen (number x.answer) (size_now 16384 65536 8 1024 18446744073709551615 real_codec x.state (mode_of x.state)) (record_now (mode_of x.state) x.lent) (dirty_now (mode_of x.state) x.lent)
    (numbers_of (runs_of 16384 65536 8 1024 18446744073709551615 real_codec x.state.block x.lent.mem)) x.state.count.0 x.filled

-- the calls one after the other, each lent what the one before left
abbrev pub after : Out → List Call → Out
after x [] = x
after x (c ∷ cs) = after (real x.state x.lent c) cs

-- memory of n stable pages of zeros, one frame, the clean frames, one record entry, the work list
unfoldable pub lent_fresh : ℕ → Lent
lent_fresh n = record {
  mem = zeros (n * 65536);
  bufs = record { frames = zeros 16384; numbers = zeros 1; clean = zeros 131072; recs = zeros 2 };
  work = zeros 2054;
}

abbrev pub started : Opened → Lent → Out
started o l = out o.state (with_mem o.mem l) o.answer []

unfoldable pub opened : ℕ → Out
opened n = started (open' 16384 65536 8 1024 18446744073709551615 real_codec 0 (lent_fresh n).mem) (lent_fresh n)

-- stable pages lent, calls, what is seen
pub record Row : Type 0 where
  pub lent : ℕ
  pub calls : List Call
  pub shows : Seen

abbrev pub row : ℕ → List Call → Seen → Row
row n cs s = record { lent = n; calls = cs; shows = s }

abbrev pub fresh_rows : List Row
fresh_rows =
    -- "Fresh, 1 byte written at 16,384: size 16,385, record 0-2, dirty 1"
    row 2 (begin false 0 0 ∷ write 16384 (7 ∷ []) ∷ []) (seen 0 16385 (0 ∷ 2 ∷ []) (1 ∷ []) [] 1 [])
    -- "runs after commit 0-1; memory 2 stable pages"
    ∷ row 2 (begin false 0 0 ∷ write 16384 (7 ∷ []) ∷ commit ∷ []) (seen 0 16385 [] [] (0 ∷ 1 ∷ []) 2 [])
    -- "Fresh, 1 byte at 0: no runs."
    ∷ row 2 (write 0 (7 ∷ []) ∷ []) (seen 0 1 [] [] [] 2 [])
    -- "From the first, cut to 16,384: runs 0-2."
    ∷ row 2 (begin false 0 0 ∷ write 16384 (7 ∷ []) ∷ commit ∷ truncate 16384 ∷ []) (seen 0 16384 [] [] (0 ∷ 2 ∷ []) 2 [])
    -- "Grown again to 16,385: byte 16,384 is 0."
    ∷ row 2 (begin false 0 0 ∷ write 16384 (7 ∷ []) ∷ commit ∷ truncate 16384 ∷ truncate 16385 ∷ read 16384 (9 ∷ []) ∷ []) (seen 0 16385 [] [] (0 ∷ 1 ∷ []) 2 (0 ∷ []))
    -- "Fresh, truncated to 2^64 − 65,536: 20."
    ∷ row 1 (truncate 18446744073709486080 ∷ []) (seen 20 0 [] [] [] 1 [])
    -- "2^64 − 65,537: 20, by its last page."
    ∷ row 1 (truncate 18446744073709486079 ∷ []) (seen 20 0 [] [] [] 1 [])
    -- "2^64 − 81,920: 32."
    ∷ row 1 (truncate 18446744073709469696 ∷ []) (seen 32 0 [] [] [] 1 [])
    -- "Empty write at 2^64 − 1: accepted."
    ∷ row 1 (write 18446744073709551615 [] ∷ []) (seen 0 0 [] [] [] 1 [])
    ∷ []

abbrev pub Right : List Row → Type 0
Right [] = Unit {0}
Right (r ∷ rs) = (look (after (opened r.lent) r.calls) ≡ r.shows) × Right rs

-- what is seen after each call
abbrev trace : Out → List Call → List Seen
trace x [] = []
trace x (c ∷ cs) = let y : Out = real x.state x.lent c in look y ∷ trace y cs

abbrev seen_at : ℕ → List Seen → Seen
seen_at i [] = seen 0 0 [] [] [] 0 []
seen_at zero (s ∷ l) = s
seen_at (suc i) (s ∷ l) = seen_at i l

-- four rows are one list of calls, computed once
first : trace (opened 2) (begin false 0 0 ∷ write 16384 (7 ∷ []) ∷ commit ∷ truncate 16384 ∷ truncate 16385 ∷ read 16384 (9 ∷ []) ∷ [])
    ≡ seen 0 0 [] [] [] 1 []
    ∷ seen 0 16385 (0 ∷ 2 ∷ []) (1 ∷ []) [] 1 []
    ∷ seen 0 16385 [] [] (0 ∷ 1 ∷ []) 2 []
    ∷ seen 0 16384 [] [] (0 ∷ 2 ∷ []) 2 []
    ∷ seen 0 16385 [] [] (0 ∷ 1 ∷ []) 2 []
    ∷ seen 0 16385 [] [] (0 ∷ 1 ∷ []) 2 (0 ∷ [])
    ∷ []
unfolding count filled overwrite resize growMemory requiredPages normalized word word_at mixed step fold fnv1a64 header header_of block_bytes encode fields_in decode encoded_len prefix checksum_of seal store_in freshBlock block_runs checksum_in judgeBlock loadBlock image_count image_numbers within merge insert add around piece remove flatRuns put refill tabulate add_number_if span grown_numbers image_byte image_page push_run raw over_byte budget_bytes raised touch blank copy stretch patch finish grow grow_to chop tail truncated whole_page over_write written fresh look_up sized passing marked try_touch try_patch try_finish try_grow try_grow_to try_tail try_chop try_truncate try_write frame_count entry_count wiped cached short_buffers view overlay_of put_back stored real_codec importing stale refreshing marks after_commit short store_plan no_overlay image_bytes unchanged planned_runs commit_over store outside open_image closing open' additions lent_fresh opened
first = refl

row1 : look (after (opened 2) (begin false 0 0 ∷ write 16384 (7 ∷ []) ∷ [])) ≡ seen 0 16385 (0 ∷ 2 ∷ []) (1 ∷ []) [] 1 []
row1 = ap (seen_at 1) first

row2 : look (after (opened 2) (begin false 0 0 ∷ write 16384 (7 ∷ []) ∷ commit ∷ [])) ≡ seen 0 16385 [] [] (0 ∷ 1 ∷ []) 2 []
row2 = ap (seen_at 2) first

row4 : look (after (opened 2) (begin false 0 0 ∷ write 16384 (7 ∷ []) ∷ commit ∷ truncate 16384 ∷ [])) ≡ seen 0 16384 [] [] (0 ∷ 2 ∷ []) 2 []
row4 = ap (seen_at 3) first

row5 : look (after (opened 2) (begin false 0 0 ∷ write 16384 (7 ∷ []) ∷ commit ∷ truncate 16384 ∷ truncate 16385 ∷ read 16384 (9 ∷ []) ∷ [])) ≡ seen 0 16385 [] [] (0 ∷ 1 ∷ []) 2 (0 ∷ [])
row5 = ap (seen_at 5) first

-- the others are computed each for itself
row3 : look (after (opened 2) (write 0 (7 ∷ []) ∷ [])) ≡ (seen 0 1 [] [] [] 2 [])
unfolding count filled overwrite resize growMemory requiredPages normalized word word_at mixed step fold fnv1a64 header header_of block_bytes encode fields_in decode encoded_len prefix checksum_of seal store_in freshBlock block_runs checksum_in judgeBlock loadBlock image_count image_numbers within merge insert add around piece remove flatRuns put refill tabulate add_number_if span grown_numbers image_byte image_page push_run raw over_byte budget_bytes raised touch blank copy stretch patch finish grow grow_to chop tail truncated whole_page over_write written fresh look_up sized passing marked try_touch try_patch try_finish try_grow try_grow_to try_tail try_chop try_truncate try_write frame_count entry_count wiped cached short_buffers view overlay_of put_back stored real_codec importing stale refreshing marks after_commit short store_plan no_overlay image_bytes unchanged planned_runs commit_over store outside open_image closing open' additions lent_fresh opened
row3 = refl

row6 : look (after (opened 1) (truncate 18446744073709486080 ∷ [])) ≡ (seen 20 0 [] [] [] 1 [])
unfolding count filled overwrite resize growMemory requiredPages normalized word word_at mixed step fold fnv1a64 header header_of block_bytes encode fields_in decode encoded_len prefix checksum_of seal store_in freshBlock block_runs checksum_in judgeBlock loadBlock image_count image_numbers within merge insert add around piece remove flatRuns put refill tabulate add_number_if span grown_numbers image_byte image_page push_run raw over_byte budget_bytes raised touch blank copy stretch patch finish grow grow_to chop tail truncated whole_page over_write written fresh look_up sized passing marked try_touch try_patch try_finish try_grow try_grow_to try_tail try_chop try_truncate try_write frame_count entry_count wiped cached short_buffers view overlay_of put_back stored real_codec importing stale refreshing marks after_commit short store_plan no_overlay image_bytes unchanged planned_runs commit_over store outside open_image closing open' additions lent_fresh opened
row6 = refl

row7 : look (after (opened 1) (truncate 18446744073709486079 ∷ [])) ≡ (seen 20 0 [] [] [] 1 [])
unfolding count filled overwrite resize growMemory requiredPages normalized word word_at mixed step fold fnv1a64 header header_of block_bytes encode fields_in decode encoded_len prefix checksum_of seal store_in freshBlock block_runs checksum_in judgeBlock loadBlock image_count image_numbers within merge insert add around piece remove flatRuns put refill tabulate add_number_if span grown_numbers image_byte image_page push_run raw over_byte budget_bytes raised touch blank copy stretch patch finish grow grow_to chop tail truncated whole_page over_write written fresh look_up sized passing marked try_touch try_patch try_finish try_grow try_grow_to try_tail try_chop try_truncate try_write frame_count entry_count wiped cached short_buffers view overlay_of put_back stored real_codec importing stale refreshing marks after_commit short store_plan no_overlay image_bytes unchanged planned_runs commit_over store outside open_image closing open' additions lent_fresh opened
row7 = refl

row8 : look (after (opened 1) (truncate 18446744073709469696 ∷ [])) ≡ (seen 32 0 [] [] [] 1 [])
unfolding count filled overwrite resize growMemory requiredPages normalized word word_at mixed step fold fnv1a64 header header_of block_bytes encode fields_in decode encoded_len prefix checksum_of seal store_in freshBlock block_runs checksum_in judgeBlock loadBlock image_count image_numbers within merge insert add around piece remove flatRuns put refill tabulate add_number_if span grown_numbers image_byte image_page push_run raw over_byte budget_bytes raised touch blank copy stretch patch finish grow grow_to chop tail truncated whole_page over_write written fresh look_up sized passing marked try_touch try_patch try_finish try_grow try_grow_to try_tail try_chop try_truncate try_write frame_count entry_count wiped cached short_buffers view overlay_of put_back stored real_codec importing stale refreshing marks after_commit short store_plan no_overlay image_bytes unchanged planned_runs commit_over store outside open_image closing open' additions lent_fresh opened
row8 = refl

row9 : look (after (opened 1) (write 18446744073709551615 [] ∷ [])) ≡ (seen 0 0 [] [] [] 1 [])
unfolding count filled overwrite resize growMemory requiredPages normalized word word_at mixed step fold fnv1a64 header header_of block_bytes encode fields_in decode encoded_len prefix checksum_of seal store_in freshBlock block_runs checksum_in judgeBlock loadBlock image_count image_numbers within merge insert add around piece remove flatRuns put refill tabulate add_number_if span grown_numbers image_byte image_page push_run raw over_byte budget_bytes raised touch blank copy stretch patch finish grow grow_to chop tail truncated whole_page over_write written fresh look_up sized passing marked try_touch try_patch try_finish try_grow try_grow_to try_tail try_chop try_truncate try_write frame_count entry_count wiped cached short_buffers view overlay_of put_back stored real_codec importing stale refreshing marks after_commit short store_plan no_overlay image_bytes unchanged planned_runs commit_over store outside open_image closing open' additions lent_fresh opened
row9 = refl

-- 20 "by its last page": base + size itself still fits, the end of the page that it ends in does not
pub record ByLastPage (base size : ℕ) : Type 0 where
  pub size_fits : base + size ≤ 18446744073709551615
  pub page_does_not : 18446744073709551615 < base + (size / 16384 + 1) * 16384

pub last_page : ByLastPage (opened 1).state.block.db_base_offset 18446744073709486079
unfolding count filled overwrite resize growMemory requiredPages normalized word word_at mixed step fold fnv1a64 header header_of block_bytes encode fields_in decode encoded_len prefix checksum_of seal store_in freshBlock block_runs checksum_in judgeBlock loadBlock image_count image_numbers within merge insert add around piece remove flatRuns put refill tabulate add_number_if span grown_numbers image_byte image_page push_run raw over_byte budget_bytes raised touch blank copy stretch patch finish grow grow_to chop tail truncated whole_page over_write written fresh look_up sized passing marked try_touch try_patch try_finish try_grow try_grow_to try_tail try_chop try_truncate try_write frame_count entry_count wiped cached short_buffers view overlay_of put_back stored real_codec importing stale refreshing marks after_commit short store_plan no_overlay image_bytes unchanged planned_runs commit_over store outside open_image closing open' additions lent_fresh opened
last_page = record { size_fits = omega arith; page_does_not = omega arith }

pub fresh_right : Right fresh_rows
fresh_right = (row1, (row2, (row3, (row4, (row5, (row6, (row7, (row8, (row9, tt)))))))))
