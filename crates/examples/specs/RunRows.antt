-- The rows on 1,024 runs: of any memory that is long enough, by laws. Each starts from what opening answers.
use Rattle.std.specs.Prelude.{◌≡◌, Bool, true, length, get_or, Ok}
use Rattle.std.proofs.Math.Path.{refl, sym, ap}
use Rattle.std.proofs.Common.{◌∙◌, arith}
use Prim.Native.Nat.{ℕ, zero, suc, ◌+◌, ◌*◌, ◌≤◌, ◌<◌}
use Rattle.std.proofs.Math.Bool.{false, cond}
use mathlib.Core.List.{List, [], ◌∷◌}
use borrow.Author.Tests.{le-ltb}
use Rattle.config.specs.Pages.{count}
use Rattle.config.specs.declared.refusal.Refusal.TheVariants.{ImageOutOfMemory}
use Rattle.memory.specs.Bytes.{zeros, filled}
use Rattle.memory.specs.Laws.{length-zeros}
use Rattle.memory.specs.Growth.{grow_to as growMemory, required as requiredPages}
use Rattle.meta.specs.declared.superblock.Superblock.{Superblock}
use Rattle.meta.specs.declared.ZeroExtent.{ZeroExtent}
use Rattle.meta.specs.Runs.{run, runs_of as pairsOf, numbers_of, normalized}
use Rattle.meta.specs.Block.{magic, of_fields, fields_of}
use Rattle.meta_load.specs.RoundTrip.{Wide, Fits as FitsBlock, stored_accepted}
use Rattle.meta_load.specs.Load.{load as loadBlock}
use Rattle.runs.specs.Sets.{within, merge, insert, add, around, piece, remove}
use Rattle.runs.specs.Flat.{runs_in as flatRuns}
use Rattle.runs.specs.FlatLaws.{length-numbers}
use Rattle.extents.specs.Plan.{additions, too_many, kept, Answer as Planned}
use Rattle.update.specs.Lists.{tabulate}
use Rattle.update.specs.Pages.{Page, add_number_if, span, grown_numbers}
use Rattle.update.specs.PageLaws.{EndsBy}
use Rattle.update.specs.Update.{Over, accepted, push_run, raw, budget_bytes, raised, touch, copy, stretch, patch, finish, grow, grow_to, chop, tail, truncated, whole_page, over_write, written, fresh, look_up, Tried, sized, passing, marked, try_touch, try_patch, try_finish, try_grow, try_grow_to, try_tail, try_chop, try_truncate, try_write}
use Rattle.update.specs.Buffers.{frame_count, entry_count, cached, short_buffers, view, overlay_of, put_back}
use Rattle.store.specs.declared.State.{State}
use Rattle.store.specs.Answers.{Done}
use Rattle.store.specs.Codec.{sealed, stored, real_codec, real_stored, real_sealed}
use Rattle.store.specs.Blocks.{importing, stale, refreshing, marks, after_commit}
use Rattle.store.specs.Calls.{Call, write, truncate, Uses, uses, these, Lent, Out, out, number, short}
use Rattle.store.specs.Plan.{store_plan}
use Rattle.store.specs.Store.{resting, act, swept, direct, no_overlay, budget_of, image, image_bytes, unchanged, planned_runs, settle, commit_over, store, runs_of}
use Rattle.store.specs.Lawful.{Fits}
use Rattle.store.specs.RealCodec.{real_lawful}
use Rattle.store.proofs.MemoryLaws.{stored-length}
use Rattle.store.specs.Opening.{Opened, outside, not_opened, open_loaded, open_image, open'}
use Rattle.store.proofs.ClosingLaws.{open_unmarked}
use Rattle.store.proofs.WaysOut.{import_free, store_done}
use Rattle.examples.specs.FreshRows.{real, after, started}

-- n runs of one page each, a page apart, from page a on
abbrev pub single : ℕ → ℕ → List ZeroExtent
single a zero = []
single a (suc n) = run a (a + 1) ∷ single (a + 2) n

-- an image of so many pages with 1,024 runs
unfoldable pub block_of : ℕ → Superblock
block_of pages = of_fields magic 8 16384 (pages * 16384 ∷ 0 ∷ 0 ∷ 0 ∷ 0 ∷ 0 ∷ 0 ∷ 0 ∷ 0 ∷ 0 ∷ 0 ∷ 0 ∷ 65536 ∷ 0 ∷ pages ∷ 8 ∷ 1024 ∷ 0 ∷ [])

-- in n bytes of memory
unfoldable pub lent_runs : ℕ → List ZeroExtent → ℕ → Lent
lent_runs pages rs n = record {
  mem = stored real_codec (block_of pages) rs (zeros n);
  bufs = record { frames = zeros 16384; numbers = zeros 1; clean = zeros 131072; recs = zeros 2 };
  work = zeros 2054;
}

-- it is opened, with the count of its stable pages: 516 hold 2,060 pages and the first stable page
unfoldable pub opened_runs : ℕ → List ZeroExtent → ℕ → Out
opened_runs pages rs n = started (open' 16384 65536 8 1024 18446744073709551615 real_codec 516 (lent_runs pages rs n).mem) (lent_runs pages rs n)

-- the state that opening answers
unfoldable state_runs : ℕ → List ZeroExtent → State
state_runs pages rs = resting 516 (sealed real_codec (block_of pages) rs) (no_overlay 16384 65536 8 1024 18446744073709551615 real_codec)

-- opening accepts the image, with its size and its runs, and a call on what it leaves has this number
pub record AfterOpening (pages : ℕ) (rs : List ZeroExtent) (c : Call) (n answer : ℕ) : Type 0 where
  pub accepted : number (opened_runs pages rs n).answer ≡ 0
  pub size : (opened_runs pages rs n).state.block.db_size ≡ pages * 16384
  pub runs : runs_of 16384 65536 8 1024 18446744073709551615 real_codec (opened_runs pages rs n).state.block (opened_runs pages rs n).lent.mem ≡ rs
  pub answered : number (after (opened_runs pages rs n) (c ∷ [])).answer ≡ answer

many_normalized : normalized (single 1 1024) ≡ true
unfolding normalized
many_normalized = refl

split_normalized : normalized (run 1 4 ∷ single 6 1023) ≡ true
unfolding normalized
split_normalized = refl

-- a list of numbers of 64 bits, one by one
abbrev AllWide : List ℕ → Type 0
AllWide [] = Unit {0}
AllWide (x ∷ l) = (x < 18446744073709551616) × AllWide l

widths : (l : List ℕ) → AllWide l → Wide l
widths [] h k = omega arith
widths (x ∷ l) h zero = h.0
widths (x ∷ l) h (suc k) = widths l h.1 k

single_ends : (a n : ℕ) → a + 2 * n ≤ 18446744073709551615 → EndsBy 18446744073709551615 (single a n)
single_ends a zero h = tt
single_ends a (suc n) h = (omega arith, single_ends (a + 2) n (omega arith))

single_wide : (a n k : ℕ) → a + 2 * n ≤ 18446744073709551615 → get_or (numbers_of (single a n)) k 0 < 18446744073709551616
single_wide a zero k h = omega arith
single_wide a (suc n) zero h = omega arith
single_wide a (suc n) (suc zero) h = omega arith
single_wide a (suc n) (suc (suc k)) h = single_wide (a + 2) n k (omega arith)

runs_again : (rs : List ZeroExtent) → pairsOf (numbers_of rs) ≡ rs
runs_again [] = refl
runs_again (x ∷ rs) = ap (λ (l : List ZeroExtent). x ∷ l) (runs_again rs)

module _ (pages : ℕ) (rs : List ZeroExtent) (few : length rs ≡ 1024) (sorted : normalized rs ≡ true) (ends : EndsBy 18446744073709551615 rs) (wide : Wide (numbers_of rs)) (small : pages ≤ 2060) (n : ℕ) (long : 516 * 65536 ≤ n) where
  fits : Fits 1024 18446744073709551615 (block_of pages) rs
  unfolding block_of
  fits = record { few = omega arith; counted = sym few; size = omega arith; base = omega arith; ends = ends; sorted = sorted }

  runs_are : runs_of 16384 65536 8 1024 18446744073709551615 real_codec (state_runs pages rs).block (stored real_codec (block_of pages) rs (zeros n)) ≡ rs
  unfolding block_of state_runs
  runs_are = ap (λ (j : ℕ). real_codec.runs_in j (stored real_codec (block_of pages) rs (zeros n))) (sym few) ∙ real_lawful.runs_is (block_of pages) rs (zeros n) fits (omega (arith, length-zeros n))

  mem_long : length (stored real_codec (block_of pages) rs (zeros n)) ≡ n
  mem_long = stored-length 65536 1024 18446744073709551615 real_codec real_lawful (block_of pages) rs fits (zeros n) ∙ length-zeros n

  lent_long : length (lent_runs pages rs n).mem ≡ n
  unfolding lent_runs
  lent_long = mem_long

  fits_block : FitsBlock (block_of pages)
  unfolding block_of
  fits_block = record { magic = omega arith; version = omega arith; size = omega arith; fields = widths (fields_of (block_of pages)) (omega arith) }

  loads : real_codec.load (lent_runs pages rs n).mem ≡ Ok (sealed real_codec (block_of pages) rs)
  unfolding lent_runs real_codec block_of
  loads =
      ap loadBlock (real_stored (block_of pages) rs (zeros n))
      ∙ stored_accepted (block_of pages) (numbers_of rs) (zeros n) fits_block (omega (arith, length-zeros n)) (omega arith) (length-numbers rs ∙ ap (λ (j : ℕ). j * 2) few) wide refl refl (ap normalized (runs_again rs) ∙ sorted)
      ∙ ap Ok (sym (real_sealed (block_of pages) rs))

  inside : outside 16384 65536 8 1024 18446744073709551615 real_codec 516 (sealed real_codec (block_of pages) rs) ≡ false
  unfolding outside block_of importing
  inside = rw (le-ltb (516 * 65536) (65536 + pages * 16384) (omega arith)) refl

  -- 01's opening accepts it
  image_is : open_image 16384 65536 8 1024 18446744073709551615 real_codec 516 (lent_runs pages rs n).mem ≡ record { state = state_runs pages rs; answer = Done; mem = (lent_runs pages rs n).mem }
  unfolding state_runs open_image
  image_is =
      let m : List ℕ = (lent_runs pages rs n).mem in
      rw (le-ltb (length m) (516 * 65536) (omega (arith, lent_long)))
      (ap (open_loaded 16384 65536 8 1024 18446744073709551615 real_codec 516 m) loads
      ∙ ap (λ (t : Bool). cond t (not_opened 16384 65536 8 1024 18446744073709551615 real_codec 516 m ImageOutOfMemory) record { state = state_runs pages rs; answer = Done; mem = m }) inside)

  unmarked : importing (state_runs pages rs).block ≡ false
  unfolding state_runs block_of importing
  unmarked = refl

  opened_is : opened_runs pages rs n ≡ out (state_runs pages rs) (lent_runs pages rs n) Done []
  unfolding opened_runs
  opened_is =
      let m : List ℕ = (lent_runs pages rs n).mem in
      ap (λ (x : Opened). started x (lent_runs pages rs n))
      (open_unmarked 16384 65536 8 1024 18446744073709551615 real_codec (omega arith) 516 m (ap (λ (x : Opened). importing x.state.block) image_is ∙ unmarked) ∙ image_is)

  after_opening : (c : Call) (answer : ℕ) → number (real (state_runs pages rs) (lent_runs pages rs n) c).answer ≡ answer → AfterOpening pages rs c n answer
  unfolding state_runs block_of lent_runs
  after_opening c answer h = record {
    accepted = ap (λ (x : Out). number x.answer) opened_is;
    size = ap (λ (x : Out). x.state.block.db_size) opened_is;
    runs = ap (λ (x : Out). runs_of 16384 65536 8 1024 18446744073709551615 real_codec x.state.block x.lent.mem) opened_is ∙ runs_are;
    answered = ap (λ (x : Out). number (real x.state x.lent c).answer) opened_is ∙ h;
  }

  -- 35 does not arise for a call that is lent everything
  not_short : (c : Call) → uses c ≡ these true true true → short 16384 65536 8 1024 (state_runs pages rs) (lent_runs pages rs n) c ≡ false
  unfolding short state_runs lent_runs frame_count filled
  not_short c e = rw (e, mem_long, le-ltb n (516 * 65536) long)

  done : (c : Call) → uses c ≡ these true true true → (real (state_runs pages rs) (lent_runs pages rs n) c).answer ≡ (act 16384 65536 8 1024 18446744073709551615 real_codec (state_runs pages rs) (lent_runs pages rs n) c).answer
  done c e =
      let s : State = state_runs pages rs in
      let l : Lent = lent_runs pages rs n in
      ap (λ (x : Out). x.answer) (store_done 16384 65536 8 1024 18446744073709551615 real_codec s l c (not_short c e) (import_free s c unmarked))
      ∙ ap (λ (z : Uses). (swept 16384 65536 8 1024 18446744073709551615 real_codec z.work? (act 16384 65536 8 1024 18446744073709551615 real_codec s l c)).answer) e

-- an update of these sizes, pages and record, with no cache and no budget
abbrev over_of : ℕ → List Page → List ZeroExtent → Over
over_of n d r = record { size = n; dirty = d; recorded = r; cache = []; budget = budget_of false 0 0 }

-- "Runs 1-2, 3-4, .. 2047-2048 (1,024 runs), size 2,049 pages: truncation to 2,050 pages is refused 31"
module _ (n : ℕ) (long : 516 * 65536 ≤ n) where
  abbrev s1 : State
  s1 = state_runs 2049 (single 1 1024)

  abbrev l1 : Lent
  l1 = lent_runs 2049 (single 1 1024) n

  wide1 : Wide (numbers_of (single 1 1024))
  wide1 k = single_wide 1 1024 k (omega arith)

  runs1 : runs_of 16384 65536 8 1024 18446744073709551615 real_codec s1.block l1.mem ≡ single 1 1024
  unfolding lent_runs
  runs1 = runs_are 2049 (single 1 1024) refl many_normalized (single_ends 1 1024 (omega arith)) wide1 (omega arith) n long

  grown_tried : try_truncate 16384 18446744073709551615 (frame_count 16384 l1.bufs) (entry_count l1.bufs) (image 16384 65536 8 1024 18446744073709551615 real_codec s1.block l1.mem) (2050 * 16384) (fresh 16384 s1.block.db_size (budget_of false 0 0))
      ≡ accepted (over_of (2050 * 16384) [] (run 2049 2050 ∷ []))
  unfolding count growMemory requiredPages normalized within merge insert add around piece remove flatRuns add_number_if span grown_numbers push_run budget_bytes raised touch stretch patch finish grow grow_to chop tail truncated whole_page over_write written fresh look_up sized passing marked try_touch try_patch try_finish try_grow try_grow_to try_tail try_chop try_truncate try_write frame_count entry_count cached short_buffers view overlay_of put_back importing stale refreshing marks after_commit short store_plan no_overlay image_bytes unchanged planned_runs commit_over store additions filled lent_runs state_runs block_of
  grown_tried = refl

  grown_plan : planned_runs 16384 65536 8 1024 18446744073709551615 real_codec s1 l1.mem (over_of (2050 * 16384) [] (run 2049 2050 ∷ [])) ≡ too_many
  unfolding planned_runs state_runs block_of store_plan additions count within merge insert add piece remove
  grown_plan = ap (λ (rs : List ZeroExtent). store_plan 16384 1024 (block_of 2049).db_size (2050 * 16384) rs (run 2049 2050 ∷ []) []) runs1 ∙ planned
    where
      planned : store_plan 16384 1024 (block_of 2049).db_size (2050 * 16384) (single 1 1024) (run 2049 2050 ∷ []) [] ≡ too_many
      planned = refl

  grown_is : number (real s1 l1 (truncate (2050 * 16384))).answer ≡ 31
  unfolding state_runs commit_over unchanged block_of
  grown_is =
      ap number (done 2049 (single 1 1024) refl many_normalized (single_ends 1 1024 (omega arith)) wide1 (omega arith) n long (truncate (2050 * 16384)) refl)
      ∙ ap (λ (t : Tried). number (direct 16384 65536 8 1024 18446744073709551615 real_codec s1 l1 t).answer) grown_tried
      ∙ ap (λ (x : Planned). number (settle 16384 65536 8 1024 18446744073709551615 real_codec false s1 l1 (over_of (2050 * 16384) [] (run 2049 2050 ∷ [])) x).answer) grown_plan

  pub grown31 : AfterOpening 2049 (single 1 1024) (truncate (2050 * 16384)) n 31
  grown31 = after_opening 2049 (single 1 1024) refl many_normalized (single_ends 1 1024 (omega arith)) wide1 (omega arith) n long (truncate (2050 * 16384)) 31 grown_is

  -- "a full page written there instead is accepted"
  module _ (bs : List ℕ) (page : length bs ≡ 16384) where
    abbrev bytes6 : List ℕ
    bytes6 = tabulate 16384 (λ i. copy 16384 (2049 * 16384) bs (2049 * 16384 + i) (raw 16384 (image 16384 65536 8 1024 18446744073709551615 real_codec s1.block l1.mem) (over_of (2050 * 16384) [] (run 2049 2050 ∷ [])) (2049 * 16384 + i)))

    abbrev over6 : Over
    over6 = over_of (2050 * 16384) (record { number = 2049; bytes = bytes6 } ∷ []) (run 2049 2050 ∷ [])

    page_tried : try_write 16384 18446744073709551615 (frame_count 16384 l1.bufs) (entry_count l1.bufs) (image 16384 65536 8 1024 18446744073709551615 real_codec s1.block l1.mem) (2049 * 16384) bs (fresh 16384 s1.block.db_size (budget_of false 0 0)) ≡ accepted over6
    unfolding count growMemory requiredPages normalized within merge insert add around piece remove flatRuns add_number_if span grown_numbers push_run budget_bytes raised touch stretch patch finish grow grow_to chop tail truncated whole_page over_write written fresh look_up sized passing marked try_touch try_patch try_finish try_grow try_grow_to try_tail try_chop try_truncate try_write frame_count entry_count cached short_buffers view overlay_of put_back importing stale refreshing marks after_commit short store_plan no_overlay image_bytes unchanged planned_runs commit_over store additions filled lent_runs state_runs block_of
    page_tried = rw (try_write, page)

    page_plan : planned_runs 16384 65536 8 1024 18446744073709551615 real_codec s1 l1.mem over6 ≡ kept (single 1 1024)
    unfolding planned_runs state_runs block_of store_plan additions count within merge insert add piece remove
    page_plan = ap (λ (rs : List ZeroExtent). store_plan 16384 1024 (block_of 2049).db_size (2050 * 16384) rs (run 2049 2050 ∷ []) (2049 ∷ [])) runs1 ∙ planned
      where
        planned : store_plan 16384 1024 (block_of 2049).db_size (2050 * 16384) (single 1 1024) (run 2049 2050 ∷ []) (2049 ∷ []) ≡ kept (single 1 1024)
        planned = refl

    page_is : number (real s1 l1 (write (2049 * 16384) bs)).answer ≡ 0
    unfolding state_runs commit_over unchanged block_of growMemory count
    page_is =
        ap number (done 2049 (single 1 1024) refl many_normalized (single_ends 1 1024 (omega arith)) wide1 (omega arith) n long (write (2049 * 16384) bs) refl)
        ∙ ap (λ (t : Tried). number (direct 16384 65536 8 1024 18446744073709551615 real_codec s1 l1 t).answer) page_tried
        ∙ ap (λ (x : Planned). number (settle 16384 65536 8 1024 18446744073709551615 real_codec false s1 l1 over6 x).answer) page_plan

    pub page0 : AfterOpening 2049 (single 1 1024) (write (2049 * 16384) bs) n 0
    page0 = after_opening 2049 (single 1 1024) refl many_normalized (single_ends 1 1024 (omega arith)) wide1 (omega arith) n long (write (2049 * 16384) bs) 0 page_is

  -- "1,024 runs, one being 1-4, page 2 written: 31."
  abbrev runs7 : List ZeroExtent
  runs7 = run 1 4 ∷ single 6 1023

  abbrev s7 : State
  s7 = state_runs 2060 runs7

  abbrev l7 : Lent
  l7 = lent_runs 2060 runs7 n

  ends7 : EndsBy 18446744073709551615 runs7
  ends7 = (omega arith, single_ends 6 1023 (omega arith))

  wide7 : Wide (numbers_of runs7)
  wide7 zero = omega arith
  wide7 (suc zero) = omega arith
  wide7 (suc (suc k)) = single_wide 6 1023 k (omega arith)

  is7 : runs_of 16384 65536 8 1024 18446744073709551615 real_codec s7.block l7.mem ≡ runs7
  unfolding lent_runs
  is7 = runs_are 2060 runs7 refl split_normalized ends7 wide7 (omega arith) n long

  abbrev bytes7 : List ℕ
  bytes7 = tabulate 16384 (λ i. copy 16384 (2 * 16384) (7 ∷ []) (2 * 16384 + i) (raw 16384 (image 16384 65536 8 1024 18446744073709551615 real_codec s7.block l7.mem) (over_of (2060 * 16384) [] []) (2 * 16384 + i)))

  abbrev over7 : Over
  over7 = over_of (2060 * 16384) (record { number = 2; bytes = bytes7 } ∷ []) []

  split_tried : try_write 16384 18446744073709551615 (frame_count 16384 l7.bufs) (entry_count l7.bufs) (image 16384 65536 8 1024 18446744073709551615 real_codec s7.block l7.mem) (2 * 16384) (7 ∷ []) (fresh 16384 s7.block.db_size (budget_of false 0 0)) ≡ accepted over7
  unfolding count growMemory requiredPages normalized within merge insert add around piece remove flatRuns add_number_if span grown_numbers push_run budget_bytes raised touch stretch patch finish grow grow_to chop tail truncated whole_page over_write written fresh look_up sized passing marked try_touch try_patch try_finish try_grow try_grow_to try_tail try_chop try_truncate try_write frame_count entry_count cached short_buffers view overlay_of put_back importing stale refreshing marks after_commit short store_plan no_overlay image_bytes unchanged planned_runs commit_over store additions filled lent_runs state_runs block_of
  split_tried = refl

  split_plan : planned_runs 16384 65536 8 1024 18446744073709551615 real_codec s7 l7.mem over7 ≡ too_many
  unfolding planned_runs state_runs block_of store_plan additions count within merge insert add piece remove
  split_plan = ap (λ (rs : List ZeroExtent). store_plan 16384 1024 (block_of 2060).db_size (2060 * 16384) rs [] (2 ∷ [])) is7 ∙ planned
    where
      planned : store_plan 16384 1024 (block_of 2060).db_size (2060 * 16384) runs7 [] (2 ∷ []) ≡ too_many
      planned = refl

  split_is : number (real s7 l7 (write (2 * 16384) (7 ∷ []))).answer ≡ 31
  unfolding state_runs commit_over unchanged block_of
  split_is =
      ap number (done 2060 runs7 refl split_normalized ends7 wide7 (omega arith) n long (write (2 * 16384) (7 ∷ [])) refl)
      ∙ ap (λ (t : Tried). number (direct 16384 65536 8 1024 18446744073709551615 real_codec s7 l7 t).answer) split_tried
      ∙ ap (λ (x : Planned). number (settle 16384 65536 8 1024 18446744073709551615 real_codec false s7 l7 over7 x).answer) split_plan

  pub split31 : AfterOpening 2060 runs7 (write (2 * 16384) (7 ∷ [])) n 31
  split31 = after_opening 2060 runs7 refl split_normalized ends7 wide7 (omega arith) n long (write (2 * 16384) (7 ∷ [])) 31 split_is
