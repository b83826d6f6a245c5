-- The claim has teeth: twelve wrong stores do not meet it. Each is our store, at small sizes, with something done wrong; a concrete list of calls shows the read,
-- the ground, the length or the file that differs.
use Rattle.std.specs.Prelude.{◌≡◌, refl, ℕ, zero, suc, ◌+◌, ◌/◌, ◌≤◌, Bool, true, false, cond, ◌&&◌, List, [], ◌∷◌, ◌++◌, ltb, length, take, drop}
use Rattle.std.proofs.Common.{ap, arith, ltb-true}
use Rattle.config.specs.Pages.{count}
use Rattle.config.specs.declared.refusal.Refusal.TheVariants.{OffsetOverflow, ZeroExtentLimitExceeded, BufferTooShort}
use Rattle.memory.specs.Bytes.{zeros, overwrite, resize, filled}
use Rattle.memory.specs.Laws.{split}
use Rattle.memory.specs.Growth.{grow_to as growMemory, required as requiredPages}
use Rattle.meta.specs.declared.superblock.Superblock.{Superblock}
use Rattle.words.specs.Words.{Bytes}
use Rattle.meta.specs.Runs.{normalized}
use Rattle.meta.specs.Block.{magic, of_fields}
use Rattle.runs.specs.Sets.{covers, within, merge, insert, add, around, piece, remove}
use Rattle.runs.specs.Flat.{runs_in as flatRuns}
use Rattle.extents.specs.Plan.{additions, add_one, remain, plan}
use Rattle.update.specs.declared.Overlay.{Overlay}
use Rattle.update.specs.Lists.{put, refill, tabulate}
use Rattle.update.specs.ListLaws.{clash}
use Rattle.update.specs.Pages.{add_number_if, span, grown_numbers}
use Rattle.update.specs.Image.{image_byte, image_page}
use Rattle.update.specs.Update.{Over, push_run, raw, over_byte, budget_bytes, raised, touch, blank, copy, stretch, patch, finish, grow, grow_to, chop, tail, truncated, whole_page, over_write, written, fresh, look_up, accepted, sized, passing, marked, try_touch, try_patch, try_finish, try_grow, try_grow_to, try_tail, try_chop, try_truncate, try_write}
use Rattle.update.specs.Buffers.{frame_count, entry_count, wiped, cached, short_buffers, view, overlay_of, put_back}
use Rattle.store.specs.declared.State.{State}
use Rattle.store.specs.Answers.{Done, Read, Refused}
use Rattle.store.specs.Codec.{stored}
use Rattle.store.specs.Small.{small_codec, small_sum, small_decode, small_runs, small_load, small_fresh, small_lawful}
use Rattle.store.specs.Blocks.{importing, stale, refreshing, marks, after_commit, after_import_begin, after_import_chunk}
use Rattle.store.specs.Calls.{Call, begin, read, write, truncate, commit, rollback, file_size, import_begin, import_chunk, import_finish, import_cancel, export, checksum, refresh, refresh_step, Lent, Out, out, number, Mode, idle, update, mode_of, short, with_mem, uses}
use Rattle.store.specs.Plan.{store_plan}
use Rattle.store.specs.Store.{refuse, working, no_overlay, image, image_bytes, over, unchanged, planned_runs, commit_over, in_update, store, restore, do_import_begin, do_import_chunk, act, swept}
use Rattle.store.specs.Opening.{outside, open_image, closing, open', Opened}
use Rattle.plain_file.specs.Plain.{closed, copied, spoil, new_run, pages_with, ends_within, grown_dirty, draft_write, draft_truncate, ground, file_ground, file_of, File}
use Rattle.plain_file.specs.Claim.{Step, Lends, laid, leaves, Turn, Promise, Claim}
use Rattle.plain_file.specs.Demand3.{meets}

-- ## At small sizes

-- pages of 2 bytes, stable pages of 24, 1 clean frame, 3 runs, numbers up to 1,000
unfoldable pub right : Step
right = store 2 24 1 3 1000 small_codec

abbrev pub Small : Step → Type 0
Small = Claim 2 24 1 3 1000 small_codec

-- the claim can be met
pub right_meets : Small right
unfolding right
right_meets = meets 2 24 1 3 1000 small_codec (omega arith) (omega arith) (omega arith) small_lawful

-- an image of n bytes behind the first stable page
abbrev block_of : ℕ → Superblock
block_of n = of_fields magic 8 2 (n ∷ 0 ∷ 0 ∷ 0 ∷ 0 ∷ 0 ∷ 0 ∷ 0 ∷ 0 ∷ 0 ∷ 0 ∷ 0 ∷ 24 ∷ 0 ∷ count 2 n ∷ 8 ∷ 0 ∷ 0 ∷ [])

-- bytes 5, 6, 7, 8, of which n are the file's
unfoldable lent_with : ℕ → Lent
lent_with n = record {
  mem = stored small_codec (block_of n) [] (zeros 24 ++ (5 ∷ 6 ∷ 7 ∷ 8 ∷ zeros 20));
  bufs = record { frames = zeros 6; numbers = zeros 3; clean = zeros 2; recs = zeros 8 };
  work = zeros 20;
}

-- slices lent as they were left
abbrev follow : Step → State → Lent → List Call → List (Turn 2 24 1 3 1000 small_codec)
follow step s w [] = []
follow step s w (c ∷ cs) = record { lent = w; call = c } ∷ follow step (step s w c).state (leaves 2 24 1 3 1000 small_codec (step s w c).lent w) cs

lends_self : (s : State) (w : Lent) → Lends 2 24 1 3 1000 small_codec s w w
lends_self s w = record { mem = λ i h j. refl; frames = λ i h j. refl; numbers = λ i h j. refl; clean = λ i h j. refl; recs = λ i h j. refl }

abbrev first : ℕ → State
first n = (open' 2 24 1 3 1000 small_codec 2 (lent_with n).mem).state

abbrev first_lent : ℕ → Lent
first_lent n = with_mem (open' 2 24 1 3 1000 small_codec 2 (lent_with n).mem).mem (lent_with n)

-- what the claim promises of a store on this image, for these calls
abbrev Promised : Step → ℕ → List Call → Type 0
Promised step n cs = Promise 2 24 1 3 1000 small_codec step (first n) (closed (file_of 2 24 3 1000 small_codec (open' 2 24 1 3 1000 small_codec 2 (lent_with n).mem).mem)) [] (first_lent n) (follow step (first n) (first_lent n) cs)

abbrev all_bytes : List ℕ → Bool
all_bytes [] = true
all_bytes (x ∷ l) = let rest = all_bytes l in ltb x 256 && rest

all_bytes_lem : (l : List ℕ) → all_bytes l ≡ true → Bytes l
all_bytes_lem [] h i = omega arith
all_bytes_lem (x ∷ l) h zero = split (ltb x 256) (λ t. ltb-true x 256 t) (λ f. clash h (rw f))
all_bytes_lem (x ∷ l) h (suc i) = split (ltb x 256) (λ t. all_bytes_lem l (rw t at h) i) (λ f. clash h (rw f))

-- both images are accepted
accepted4 : number (open' 2 24 1 3 1000 small_codec 2 (lent_with 4).mem).answer ≡ 0
unfolding count filled overwrite resize growMemory requiredPages normalized within merge insert add around remove flatRuns additions add_one remain plan put refill tabulate add_number_if span grown_numbers image_byte image_page push_run raw over_byte budget_bytes raised touch blank copy stretch patch finish grow grow_to chop tail truncated whole_page over_write written fresh look_up sized passing marked try_touch try_patch try_finish try_grow try_grow_to try_tail try_chop try_truncate try_write frame_count entry_count wiped cached short_buffers view overlay_of put_back stored small_codec small_sum small_decode small_runs small_load small_fresh importing stale refreshing marks after_commit short store_plan no_overlay image_bytes unchanged planned_runs commit_over store outside open_image closing open' copied spoil new_run pages_with ends_within grown_dirty draft_write draft_truncate ground file_ground file_of laid leaves lent_with
accepted4 = refl

accepted3 : number (open' 2 24 1 3 1000 small_codec 2 (lent_with 3).mem).answer ≡ 0
unfolding count filled overwrite resize growMemory requiredPages normalized within merge insert add around remove flatRuns additions add_one remain plan put refill tabulate add_number_if span grown_numbers image_byte image_page push_run raw over_byte budget_bytes raised touch blank copy stretch patch finish grow grow_to chop tail truncated whole_page over_write written fresh look_up sized passing marked try_touch try_patch try_finish try_grow try_grow_to try_tail try_chop try_truncate try_write frame_count entry_count wiped cached short_buffers view overlay_of put_back stored small_codec small_sum small_decode small_runs small_load small_fresh importing stale refreshing marks after_commit short store_plan no_overlay image_bytes unchanged planned_runs commit_over store outside open_image closing open' copied spoil new_run pages_with ends_within grown_dirty draft_write draft_truncate ground file_ground file_of laid leaves lent_with
accepted3 = refl

bytes4 : all_bytes (lent_with 4).mem ≡ true
unfolding count filled overwrite resize growMemory requiredPages normalized within merge insert add around remove flatRuns additions add_one remain plan put refill tabulate add_number_if span grown_numbers image_byte image_page push_run raw over_byte budget_bytes raised touch blank copy stretch patch finish grow grow_to chop tail truncated whole_page over_write written fresh look_up sized passing marked try_touch try_patch try_finish try_grow try_grow_to try_tail try_chop try_truncate try_write frame_count entry_count wiped cached short_buffers view overlay_of put_back stored small_codec small_sum small_decode small_runs small_load small_fresh importing stale refreshing marks after_commit short store_plan no_overlay image_bytes unchanged planned_runs commit_over store outside open_image closing open' copied spoil new_run pages_with ends_within grown_dirty draft_write draft_truncate ground file_ground file_of laid leaves lent_with
bytes4 = refl

bytes3 : all_bytes (lent_with 3).mem ≡ true
unfolding count filled overwrite resize growMemory requiredPages normalized within merge insert add around remove flatRuns additions add_one remain plan put refill tabulate add_number_if span grown_numbers image_byte image_page push_run raw over_byte budget_bytes raised touch blank copy stretch patch finish grow grow_to chop tail truncated whole_page over_write written fresh look_up sized passing marked try_touch try_patch try_finish try_grow try_grow_to try_tail try_chop try_truncate try_write frame_count entry_count wiped cached short_buffers view overlay_of put_back stored small_codec small_sum small_decode small_runs small_load small_fresh importing stale refreshing marks after_commit short store_plan no_overlay image_bytes unchanged planned_runs commit_over store outside open_image closing open' copied spoil new_run pages_with ends_within grown_dirty draft_write draft_truncate ground file_ground file_of laid leaves lent_with
bytes3 = refl

long4 : length (lent_with 4).mem ≤ 1000
unfolding count filled overwrite resize growMemory requiredPages normalized within merge insert add around remove flatRuns additions add_one remain plan put refill tabulate add_number_if span grown_numbers image_byte image_page push_run raw over_byte budget_bytes raised touch blank copy stretch patch finish grow grow_to chop tail truncated whole_page over_write written fresh look_up sized passing marked try_touch try_patch try_finish try_grow try_grow_to try_tail try_chop try_truncate try_write frame_count entry_count wiped cached short_buffers view overlay_of put_back stored small_codec small_sum small_decode small_runs small_load small_fresh importing stale refreshing marks after_commit short store_plan no_overlay image_bytes unchanged planned_runs commit_over store outside open_image closing open' copied spoil new_run pages_with ends_within grown_dirty draft_write draft_truncate ground file_ground file_of laid leaves lent_with
long4 = omega arith

long3 : length (lent_with 3).mem ≤ 1000
unfolding count filled overwrite resize growMemory requiredPages normalized within merge insert add around remove flatRuns additions add_one remain plan put refill tabulate add_number_if span grown_numbers image_byte image_page push_run raw over_byte budget_bytes raised touch blank copy stretch patch finish grow grow_to chop tail truncated whole_page over_write written fresh look_up sized passing marked try_touch try_patch try_finish try_grow try_grow_to try_tail try_chop try_truncate try_write frame_count entry_count wiped cached short_buffers view overlay_of put_back stored small_codec small_sum small_decode small_runs small_load small_fresh importing stale refreshing marks after_commit short store_plan no_overlay image_bytes unchanged planned_runs commit_over store outside open_image closing open' copied spoil new_run pages_with ends_within grown_dirty draft_write draft_truncate ground file_ground file_of laid leaves lent_with
long3 = omega arith

promised4 : (step : Step) → Small step → (cs : List Call) → Promised step 4 cs
unfolding Claim
promised4 step h cs = h 2 (lent_with 4) (all_bytes_lem (lent_with 4).mem bytes4) long4 accepted4 (follow step (first 4) (first_lent 4) cs)

promised3 : (step : Step) → Small step → (cs : List Call) → Promised step 3 cs
unfolding Claim
promised3 step h cs = h 2 (lent_with 3) (all_bytes_lem (lent_with 3).mem bytes3) long3 accepted3 (follow step (first 3) (first_lent 3) cs)

-- ## Calls done wrong

-- the calls that are done wrong below
pub data Kind : Type 0 where
  reading : ℕ → ℕ → Kind
  writing : ℕ → List ℕ → Kind
  truncating : ℕ → Kind
  committing other : Kind

abbrev pub kind_of : Call → Kind
kind_of (begin g a b) = other
kind_of (read o d) = reading o (length d)
kind_of (write o bs) = writing o bs
kind_of (truncate n) = truncating n
kind_of commit = committing
kind_of rollback = other
kind_of file_size = other
kind_of (import_begin a e) = other
kind_of (import_chunk o bs) = other
kind_of import_finish = other
kind_of import_cancel = other
kind_of (export o d) = other
kind_of checksum = other
kind_of refresh = other
kind_of (refresh_step n) = other

unfoldable begin0 : Call
begin0 = begin false 0 0

-- ## A commit that writes the size but no pages

abbrev pub no_pages : Kind → State → Lent → Out → Out
no_pages (reading o n) s l x = x
no_pages (writing o bs) s l x = x
no_pages (truncating n) s l x = x
no_pages other s l x = x
no_pages committing s l x = out x.state (with_mem (take 24 x.lent.mem ++ drop 24 l.mem) x.lent) x.answer x.filled

unfoldable pub size_only : Step
size_only s l c = no_pages (kind_of c) s l (right s l c)

unfoldable size_only_calls : List Call
size_only_calls = begin0 ∷ write 0 (9 ∷ []) ∷ commit ∷ read 0 (zeros 3) ∷ []

size_only-shows : Promised size_only 4 size_only_calls → ◌≡◌ {A = List ℕ} (5 ∷ 6 ∷ 7 ∷ []) (9 ∷ 6 ∷ 7 ∷ [])
unfolding count filled overwrite resize growMemory requiredPages normalized within merge insert add around remove flatRuns additions add_one remain plan put refill tabulate add_number_if span grown_numbers image_byte image_page push_run raw over_byte budget_bytes raised touch blank copy stretch patch finish grow grow_to chop tail truncated whole_page over_write written fresh look_up sized passing marked try_touch try_patch try_finish try_grow try_grow_to try_tail try_chop try_truncate try_write frame_count entry_count wiped cached short_buffers view overlay_of put_back stored small_codec small_sum small_decode small_runs small_load small_fresh importing stale refreshing marks after_commit short store_plan no_overlay image_bytes unchanged planned_runs commit_over store outside open_image closing open' copied spoil new_run pages_with ends_within grown_dirty draft_write draft_truncate ground file_ground file_of laid leaves lent_with right begin0 size_only_calls size_only
size_only-shows h = ((((h (lends_self _ _) tt).2 (lends_self _ _) tt).2 (lends_self _ _) tt).2 (lends_self _ _) tt).0.shown

pub size_only-fails : Small size_only → ⊥
size_only-fails h =
    let e : ◌≡◌ {A = List ℕ} (5 ∷ 6 ∷ 7 ∷ []) (9 ∷ 6 ∷ 7 ∷ []) = size_only-shows (promised4 size_only h size_only_calls) in
    let z : ◌≡◌ {A = ℕ} 5 9 = cc in omega arith

-- ## A commit that does nothing but end the update

abbrev pub ends_only : Kind → State → Lent → Out → Out
ends_only (reading o n) s l x = x
ends_only (writing o bs) s l x = x
ends_only (truncating n) s l x = x
ends_only other s l x = x
ends_only committing s l x = over 2 24 1 3 1000 small_codec s l Done

unfoldable pub idler : Step
idler s l c = ends_only (kind_of c) s l (right s l c)

unfoldable idler_calls : List Call
idler_calls = begin0 ∷ write 0 (9 ∷ []) ∷ commit ∷ read 0 (zeros 3) ∷ []

idler_shows : Promised idler 4 idler_calls → ◌≡◌ {A = List ℕ} (5 ∷ 6 ∷ 7 ∷ []) (9 ∷ 6 ∷ 7 ∷ [])
unfolding count filled overwrite resize growMemory requiredPages normalized within merge insert add around remove flatRuns additions add_one remain plan put refill tabulate add_number_if span grown_numbers image_byte image_page push_run raw over_byte budget_bytes raised touch blank copy stretch patch finish grow grow_to chop tail truncated whole_page over_write written fresh look_up sized passing marked try_touch try_patch try_finish try_grow try_grow_to try_tail try_chop try_truncate try_write frame_count entry_count wiped cached short_buffers view overlay_of put_back stored small_codec small_sum small_decode small_runs small_load small_fresh importing stale refreshing marks after_commit short store_plan no_overlay image_bytes unchanged planned_runs commit_over store outside open_image closing open' copied spoil new_run pages_with ends_within grown_dirty draft_write draft_truncate ground file_ground file_of laid leaves lent_with right begin0 idler_calls idler
idler_shows h = ((((h (lends_self _ _) tt).2 (lends_self _ _) tt).2 (lends_self _ _) tt).2 (lends_self _ _) tt).0.shown

pub idler_fails : Small idler → ⊥
idler_fails h =
    let e : ◌≡◌ {A = List ℕ} (5 ∷ 6 ∷ 7 ∷ []) (9 ∷ 6 ∷ 7 ∷ []) = idler_shows (promised4 idler h idler_calls) in
    let z : ◌≡◌ {A = ℕ} 5 9 = cc in omega arith

-- ## A write that copies its first page only

-- the update after the growth and the first page
abbrev pub one_touch : ℕ → List ℕ → Lent → State → Mode → Out → Out
one_touch o bs l s idle x = x
one_touch o bs l s (update v) x =
    let b : ℕ → ℕ = image 2 24 1 3 1000 small_codec s.block l.mem in
    let u : Over = touch 2 b true (copy 2 o bs) (o / 2) (grow_to 2 b (o + length bs) (view 2 1 v l.bufs)) in
    in_update 2 24 1 3 1000 small_codec s l v 0 (accepted u)

abbrev pub one_only : Kind → State → Lent → Out → Out
one_only (reading o n) s l x = x
one_only (truncating n) s l x = x
one_only committing s l x = x
one_only other s l x = x
one_only (writing o bs) s l x = one_touch o bs l s (mode_of s) x

unfoldable pub first_page : Step
first_page s l c = one_only (kind_of c) s l (right s l c)

unfoldable first_page_calls : List Call
first_page_calls = begin0 ∷ write 1 (9 ∷ 9 ∷ []) ∷ read 0 (zeros 4) ∷ []

first_page-shows : Promised first_page 4 first_page_calls → ◌≡◌ {A = List ℕ} (5 ∷ 9 ∷ 7 ∷ 8 ∷ []) (5 ∷ 9 ∷ 9 ∷ 8 ∷ [])
unfolding count filled overwrite resize growMemory requiredPages normalized within merge insert add around remove flatRuns additions add_one remain plan put refill tabulate add_number_if span grown_numbers image_byte image_page push_run raw over_byte budget_bytes raised touch blank copy stretch patch finish grow grow_to chop tail truncated whole_page over_write written fresh look_up sized passing marked try_touch try_patch try_finish try_grow try_grow_to try_tail try_chop try_truncate try_write frame_count entry_count wiped cached short_buffers view overlay_of put_back stored small_codec small_sum small_decode small_runs small_load small_fresh importing stale refreshing marks after_commit short store_plan no_overlay image_bytes unchanged planned_runs commit_over store outside open_image closing open' copied spoil new_run pages_with ends_within grown_dirty draft_write draft_truncate ground file_ground file_of laid leaves lent_with right begin0 first_page_calls first_page
first_page-shows h = (((h (lends_self _ _) tt).2 (lends_self _ _) tt).2 (lends_self _ _) tt).0.shown

pub first_page-fails : Small first_page → ⊥
first_page-fails h =
    let e : ◌≡◌ {A = List ℕ} (5 ∷ 9 ∷ 7 ∷ 8 ∷ []) (5 ∷ 9 ∷ 9 ∷ 8 ∷ []) = first_page-shows (promised4 first_page h first_page_calls) in
    let z : ◌≡◌ {A = ℕ} 7 9 = cc in omega arith

-- ## A read that is always short and zero

abbrev pub zero_reads : Kind → State → Lent → Out → Out
zero_reads (writing o bs) s l x = x
zero_reads (truncating n) s l x = x
zero_reads committing s l x = x
zero_reads other s l x = x
zero_reads (reading o n) s l x = out x.state x.lent (Read false) (zeros n)

unfoldable pub blind : Step
blind s l c = zero_reads (kind_of c) s l (right s l c)

unfoldable blind_calls : List Call
blind_calls = read 0 (zeros 3) ∷ []

blind_shows : Promised blind 4 blind_calls → ◌≡◌ {A = List ℕ} (0 ∷ 0 ∷ 0 ∷ []) (5 ∷ 6 ∷ 7 ∷ [])
unfolding count filled overwrite resize growMemory requiredPages normalized within merge insert add around remove flatRuns additions add_one remain plan put refill tabulate add_number_if span grown_numbers image_byte image_page push_run raw over_byte budget_bytes raised touch blank copy stretch patch finish grow grow_to chop tail truncated whole_page over_write written fresh look_up sized passing marked try_touch try_patch try_finish try_grow try_grow_to try_tail try_chop try_truncate try_write frame_count entry_count wiped cached short_buffers view overlay_of put_back stored small_codec small_sum small_decode small_runs small_load small_fresh importing stale refreshing marks after_commit short store_plan no_overlay image_bytes unchanged planned_runs commit_over store outside open_image closing open' copied spoil new_run pages_with ends_within grown_dirty draft_write draft_truncate ground file_ground file_of laid leaves lent_with right begin0 blind_calls blind
blind_shows h = (h (lends_self _ _) tt).0.shown

pub blind_fails : Small blind → ⊥
blind_fails h =
    let e : ◌≡◌ {A = List ℕ} (0 ∷ 0 ∷ 0 ∷ []) (5 ∷ 6 ∷ 7 ∷ []) = blind_shows (promised4 blind h blind_calls) in
    let z : ◌≡◌ {A = ℕ} 0 5 = cc in omega arith

-- ## A store that refuses every commit

abbrev pub refuses : Kind → State → Lent → Out → Out
refuses (reading o n) s l x = x
refuses (writing o bs) s l x = x
refuses (truncating n) s l x = x
refuses other s l x = x
refuses committing s l x = out x.state x.lent (Refused ZeroExtentLimitExceeded) []

unfoldable pub never : Step
never s l c = refuses (kind_of c) s l (right s l c)

unfoldable never_calls : List Call
never_calls = begin0 ∷ write 0 (9 ∷ []) ∷ commit ∷ []

never_shows : Promised never 4 never_calls → ◌≡◌ {A = ℕ} (31) (0)
unfolding count filled overwrite resize growMemory requiredPages normalized within merge insert add around remove flatRuns additions add_one remain plan put refill tabulate add_number_if span grown_numbers image_byte image_page push_run raw over_byte budget_bytes raised touch blank copy stretch patch finish grow grow_to chop tail truncated whole_page over_write written fresh look_up sized passing marked try_touch try_patch try_finish try_grow try_grow_to try_tail try_chop try_truncate try_write frame_count entry_count wiped cached short_buffers view overlay_of put_back stored small_codec small_sum small_decode small_runs small_load small_fresh importing stale refreshing marks after_commit short store_plan no_overlay image_bytes unchanged planned_runs commit_over store outside open_image closing open' copied spoil new_run pages_with ends_within grown_dirty draft_write draft_truncate ground file_ground file_of laid leaves lent_with right begin0 never_calls never
never_shows h = (((h (lends_self _ _) tt).2 (lends_self _ _) tt).2 (lends_self _ _) tt).0.0

pub never_fails : Small never → ⊥
never_fails h =
    let e : ◌≡◌ {A = ℕ} (31) (0) = never_shows (promised4 never h never_calls) in
    omega arith

-- ## A cut that only moves the end

abbrev pub moved : ℕ → Lent → State → Mode → Out → Out
moved n l s idle x = x
moved n l s (update v) x =
    let shorter : Overlay = record { base_size = v.base_size; size = n; dirty = v.dirty; recorded = v.recorded; cache = v.cache; budget = v.budget } in
    cond (ltb n v.size) (out (working s.count.0 s.block shorter) l Done []) x

abbrev pub cuts : Kind → State → Lent → Out → Out
cuts (reading o n) s l x = x
cuts (writing o bs) s l x = x
cuts committing s l x = x
cuts other s l x = x
cuts (truncating n) s l x = moved n l s (mode_of s) x

unfoldable pub end_only : Step
end_only s l c = cuts (kind_of c) s l (right s l c)

unfoldable end_only_calls : List Call
end_only_calls = begin0 ∷ write 2 (9 ∷ []) ∷ truncate 2 ∷ truncate 4 ∷ read 2 (zeros 1) ∷ []

end_only-shows : Promised end_only 4 end_only_calls → ◌≡◌ {A = List ℕ} (9 ∷ []) (0 ∷ [])
unfolding count filled overwrite resize growMemory requiredPages normalized within merge insert add around remove flatRuns additions add_one remain plan put refill tabulate add_number_if span grown_numbers image_byte image_page push_run raw over_byte budget_bytes raised touch blank copy stretch patch finish grow grow_to chop tail truncated whole_page over_write written fresh look_up sized passing marked try_touch try_patch try_finish try_grow try_grow_to try_tail try_chop try_truncate try_write frame_count entry_count wiped cached short_buffers view overlay_of put_back stored small_codec small_sum small_decode small_runs small_load small_fresh importing stale refreshing marks after_commit short store_plan no_overlay image_bytes unchanged planned_runs commit_over store outside open_image closing open' copied spoil new_run pages_with ends_within grown_dirty draft_write draft_truncate ground file_ground file_of laid leaves lent_with right begin0 end_only_calls end_only
end_only-shows h = (((((h (lends_self _ _) tt).2 (lends_self _ _) tt).2 (lends_self _ _) (omega arith)).2 (lends_self _ _) (omega arith)).2 (lends_self _ _) tt).0.shown

pub end_only-fails : Small end_only → ⊥
end_only-fails h =
    let e : ◌≡◌ {A = List ℕ} (9 ∷ []) (0 ∷ []) = end_only-shows (promised4 end_only h end_only_calls) in
    let z : ◌≡◌ {A = ℕ} 9 0 = cc in omega arith

-- ## The record asked before the dirty pages

abbrev pub masked : ℕ → ℕ → Lent → State → Mode → Out → Out
masked o n l s idle x = x
masked o n l s (update v) x =
    let b : ℕ → ℕ = image 2 24 1 3 1000 small_codec s.block l.mem in
    let u : Over = view 2 1 v l.bufs in
    out x.state x.lent x.answer (tabulate n (λ i. cond (covers u.recorded ((o + i) / 2)) 0 (over_byte 2 b u (o + i))))

abbrev pub asks : Kind → State → Lent → Out → Out
asks (writing o bs) s l x = x
asks (truncating n) s l x = x
asks committing s l x = x
asks other s l x = x
asks (reading o n) s l x = masked o n l s (mode_of s) x

unfoldable pub record_first : Step
record_first s l c = asks (kind_of c) s l (right s l c)

unfoldable record_first_calls : List Call
record_first_calls = begin0 ∷ write 4 (9 ∷ []) ∷ read 4 (zeros 1) ∷ []

record_first-shows : Promised record_first 4 record_first_calls → ◌≡◌ {A = List ℕ} (0 ∷ []) (9 ∷ [])
unfolding count filled overwrite resize growMemory requiredPages normalized within merge insert add around remove flatRuns additions add_one remain plan put refill tabulate add_number_if span grown_numbers image_byte image_page push_run raw over_byte budget_bytes raised touch blank copy stretch patch finish grow grow_to chop tail truncated whole_page over_write written fresh look_up sized passing marked try_touch try_patch try_finish try_grow try_grow_to try_tail try_chop try_truncate try_write frame_count entry_count wiped cached short_buffers view overlay_of put_back stored small_codec small_sum small_decode small_runs small_load small_fresh importing stale refreshing marks after_commit short store_plan no_overlay image_bytes unchanged planned_runs commit_over store outside open_image closing open' copied spoil new_run pages_with ends_within grown_dirty draft_write draft_truncate ground file_ground file_of laid leaves lent_with right begin0 record_first_calls record_first
record_first-shows h = (((h (lends_self _ _) tt).2 (lends_self _ _) tt).2 (lends_self _ _) tt).0.shown

pub record_first-fails : Small record_first → ⊥
record_first-fails h =
    let e : ◌≡◌ {A = List ℕ} (0 ∷ []) (9 ∷ []) = record_first-shows (promised4 record_first h record_first_calls) in
    let z : ◌≡◌ {A = ℕ} 0 9 = cc in omega arith

-- ## A growth that trusts the old last page's tail

-- a truncation whose growth records and touches the new last page, but leaves the old one alone
abbrev pub unpatched : ℕ → Lent → State → Mode → Out → Out
unpatched n l s idle x = x
unpatched n l s (update v) x =
    let b : ℕ → ℕ = image 2 24 1 3 1000 small_codec s.block l.mem in
    let u : Over = view 2 1 v l.bufs in
    let g : Over = tail 2 b n (chop 2 n (finish 2 b u.size n (stretch 2 n u))) in
    let y : Out = in_update 2 24 1 3 1000 small_codec s l v 0 (accepted g) in
    cond (ltb v.size n) y x

abbrev pub grows : Kind → State → Lent → Out → Out
grows (reading o n) s l x = x
grows (writing o bs) s l x = x
grows committing s l x = x
grows other s l x = x
grows (truncating n) s l x = unpatched n l s (mode_of s) x

unfoldable pub trusting : Step
trusting s l c = grows (kind_of c) s l (right s l c)

unfoldable trusting_calls : List Call
trusting_calls = begin0 ∷ truncate 4 ∷ commit ∷ read 3 (zeros 1) ∷ []

trusting_shows : Promised trusting 3 trusting_calls → ◌≡◌ {A = List ℕ} (8 ∷ []) (0 ∷ [])
unfolding count filled overwrite resize growMemory requiredPages normalized within merge insert add around remove flatRuns additions add_one remain plan put refill tabulate add_number_if span grown_numbers image_byte image_page push_run raw over_byte budget_bytes raised touch blank copy stretch patch finish grow grow_to chop tail truncated whole_page over_write written fresh look_up sized passing marked try_touch try_patch try_finish try_grow try_grow_to try_tail try_chop try_truncate try_write frame_count entry_count wiped cached short_buffers view overlay_of put_back stored small_codec small_sum small_decode small_runs small_load small_fresh importing stale refreshing marks after_commit short store_plan no_overlay image_bytes unchanged planned_runs commit_over store outside open_image closing open' copied spoil new_run pages_with ends_within grown_dirty draft_write draft_truncate ground file_ground file_of laid leaves lent_with right begin0 trusting_calls trusting
trusting_shows h = ((((h (lends_self _ _) tt).2 (lends_self _ _) (omega arith)).2 (lends_self _ _) tt).2 (lends_self _ _) tt).0.shown

pub trusting_fails : Small trusting → ⊥
trusting_fails h =
    let e : ◌≡◌ {A = List ℕ} (8 ∷ []) (0 ∷ []) = trusting_shows (promised3 trusting h trusting_calls) in
    let z : ◌≡◌ {A = ℕ} 8 0 = cc in omega arith

-- ## A store that asks for a thousand more stable pages after each call

abbrev pub more : State → State
more s = record { count = record { 0 = s.count.0 + 1000 }; block = s.block; updating = s.updating; overlay = s.overlay }

unfoldable pub hoard : Step
hoard s l c = let x : Out = right s l c in cond (short 2 24 1 3 s l c) (refuse s l c BufferTooShort) (out (more x.state) x.lent x.answer x.filled)

unfoldable hoard_calls : List Call
hoard_calls = read 0 (zeros 3) ∷ []

hoard_shows : Promised hoard 4 hoard_calls → 24048 ≤ 48
unfolding count filled overwrite resize growMemory requiredPages normalized within merge insert add around remove flatRuns additions add_one remain plan put refill tabulate add_number_if span grown_numbers image_byte image_page push_run raw over_byte budget_bytes raised touch blank copy stretch patch finish grow grow_to chop tail truncated whole_page over_write written fresh look_up sized passing marked try_touch try_patch try_finish try_grow try_grow_to try_tail try_chop try_truncate try_write frame_count entry_count wiped cached short_buffers view overlay_of put_back stored small_codec small_sum small_decode small_runs small_load small_fresh importing stale refreshing marks after_commit short store_plan no_overlay image_bytes unchanged planned_runs commit_over store outside open_image closing open' copied spoil new_run pages_with ends_within grown_dirty draft_write draft_truncate ground file_ground file_of laid leaves lent_with right hoard_calls hoard
hoard_shows h = (h (lends_self _ _) tt).1.memory (omega arith)

pub hoard_fails : Small hoard → ⊥
hoard_fails h = let e : 24048 ≤ 48 = hoard_shows (promised4 hoard h hoard_calls) in omega arith

-- ## A store that counts a thousand dirty pages more after each call of an update

abbrev pub fuller : Mode → State → State
fuller idle s = s
fuller (update v) s =
    let counted : Overlay = record { base_size = v.base_size; size = v.size; dirty = v.dirty + 1000; recorded = v.recorded; cache = v.cache; budget = v.budget } in
    record { count = s.count; block = s.block; updating = s.updating; overlay = counted }

unfoldable pub greedy : Step
greedy s l c = let x : Out = right s l c in cond (short 2 24 1 3 s l c) (refuse s l c BufferTooShort) (out (fuller (mode_of x.state) x.state) x.lent x.answer x.filled)

unfoldable greedy_calls : List Call
greedy_calls = begin0 ∷ []

greedy_shows : Promised greedy 4 greedy_calls → ◌≡◌ {A = Bool} true false
unfolding count filled overwrite resize growMemory requiredPages normalized within merge insert add around remove flatRuns additions add_one remain plan put refill tabulate add_number_if span grown_numbers image_byte image_page push_run raw over_byte budget_bytes raised touch blank copy stretch patch finish grow grow_to chop tail truncated whole_page over_write written fresh look_up sized passing marked try_touch try_patch try_finish try_grow try_grow_to try_tail try_chop try_truncate try_write frame_count entry_count wiped cached short_buffers view overlay_of put_back stored small_codec small_sum small_decode small_runs small_load small_fresh importing stale refreshing marks after_commit short store_plan no_overlay image_bytes unchanged planned_runs commit_over store outside open_image closing open' copied spoil new_run pages_with ends_within grown_dirty draft_write draft_truncate ground file_ground file_of laid leaves lent_with right begin0 greedy_calls greedy
greedy_shows h = (h (lends_self _ _) tt).1.buffers refl

pub greedy_fails : Small greedy → ⊥
greedy_fails h = let e : ◌≡◌ {A = Bool} true false = greedy_shows (promised4 greedy h greedy_calls) in clash refl e

-- ## A store that answers 20 to every write and truncation with no update open

abbrev pub range_only : State → Lent → Mode → Out → Out
range_only s l (update v) x = x
range_only s l idle x = over 2 24 1 3 1000 small_codec s l (Refused OffsetOverflow)

abbrev pub directs : Kind → State → Lent → Out → Out
directs (reading o n) s l x = x
directs (writing o bs) s l x = range_only s l (mode_of s) x
directs (truncating n) s l x = range_only s l (mode_of s) x
directs committing s l x = x
directs other s l x = x

unfoldable pub narrow : Step
narrow s l c = directs (kind_of c) s l (right s l c)

unfoldable narrow_calls : List Call
narrow_calls = write 0 (9 ∷ []) ∷ []

narrow_shows : Promised narrow 4 narrow_calls → ◌≡◌ {A = ℕ} 0 20
unfolding count filled overwrite resize growMemory requiredPages normalized within merge insert add around remove flatRuns additions add_one remain plan put refill tabulate add_number_if span grown_numbers image_byte image_page push_run raw over_byte budget_bytes raised touch blank copy stretch patch finish grow grow_to chop tail truncated whole_page over_write written fresh look_up sized passing marked try_touch try_patch try_finish try_grow try_grow_to try_tail try_chop try_truncate try_write frame_count entry_count wiped cached short_buffers view overlay_of put_back stored small_codec small_sum small_decode small_runs small_load small_fresh importing stale refreshing marks after_commit short store_plan no_overlay image_bytes unchanged planned_runs commit_over store outside open_image closing open' copied spoil new_run pages_with ends_within grown_dirty draft_write draft_truncate ground file_ground file_of laid leaves lent_with right narrow_calls narrow
narrow_shows h = (h (lends_self _ _) tt).0.range refl (omega arith)

pub narrow_fails : Small narrow → ⊥
narrow_fails h = let e : ◌≡◌ {A = ℕ} 0 20 = narrow_shows (promised4 narrow h narrow_calls) in omega arith

-- ## A store that makes direct calls while an import is open, as 01 had it

unfoldable pub unbarred : Step
unbarred s l c = cond (short 2 24 1 3 s l c) (refuse s l c BufferTooShort) (swept 2 24 1 3 1000 small_codec (uses c).work? (act 2 24 1 3 1000 small_codec s l c))

-- a fresh image has its base at the end of memory, and so has the import: the chunk comes to lie on the byte that was written
unfoldable unbarred_calls : List Call
unbarred_calls = import_begin 2 0 ∷ write 0 (9 ∷ []) ∷ import_chunk 0 (7 ∷ []) ∷ []

abbrev made_fresh : Opened
made_fresh = open' 2 24 1 3 1000 small_codec 0 (lent_with 4).mem

abbrev fresh_lent : Lent
fresh_lent = with_mem made_fresh.mem (lent_with 4)

abbrev PromisedFresh : Step → List Call → Type 0
PromisedFresh step cs = Promise 2 24 1 3 1000 small_codec step made_fresh.state (closed (file_of 2 24 3 1000 small_codec made_fresh.mem)) [] fresh_lent (follow step made_fresh.state fresh_lent cs)

accepted0 : number made_fresh.answer ≡ 0
unfolding count filled overwrite resize growMemory requiredPages normalized within merge insert add around remove flatRuns additions add_one remain plan put refill tabulate add_number_if span grown_numbers image_byte image_page push_run raw over_byte budget_bytes raised touch blank copy stretch patch finish grow grow_to chop tail truncated whole_page over_write written fresh look_up sized passing marked try_touch try_patch try_finish try_grow try_grow_to try_tail try_chop try_truncate try_write frame_count entry_count wiped cached short_buffers view overlay_of put_back stored small_codec small_sum small_decode small_runs small_load small_fresh importing stale refreshing marks after_commit short store_plan no_overlay image_bytes unchanged planned_runs commit_over store outside open_image closing open' copied spoil new_run pages_with ends_within grown_dirty draft_write draft_truncate ground file_ground file_of laid leaves lent_with right
accepted0 = refl

promised0 : (step : Step) → Small step → (cs : List Call) → PromisedFresh step cs
unfolding Claim
promised0 step h cs = h 0 (lent_with 4) (all_bytes_lem (lent_with 4).mem bytes4) long4 accepted0 (follow step made_fresh.state fresh_lent cs)

unbarred_shows : PromisedFresh unbarred unbarred_calls → ◌≡◌ {A = List ℕ} (7 ∷ []) (9 ∷ [])
unfolding count filled overwrite resize growMemory requiredPages normalized within merge insert add around remove flatRuns additions add_one remain plan put refill tabulate add_number_if span grown_numbers image_byte image_page push_run raw over_byte budget_bytes raised touch blank copy stretch patch finish grow grow_to chop tail truncated whole_page over_write written fresh look_up sized passing marked try_touch try_patch try_finish try_grow try_grow_to try_tail try_chop try_truncate try_write frame_count entry_count wiped cached short_buffers view overlay_of put_back stored small_codec small_sum small_decode small_runs small_load small_fresh importing stale refreshing marks after_commit short store_plan no_overlay image_bytes unchanged planned_runs commit_over store outside open_image closing open' copied spoil new_run pages_with ends_within grown_dirty draft_write draft_truncate ground file_ground file_of laid leaves lent_with right piece restore do_import_begin do_import_chunk after_import_begin after_import_chunk unbarred_calls unbarred
unbarred_shows h = ap (λ (f : File). f.bytes) (((h (lends_self _ _) tt).2 (lends_self _ _) tt).2 (lends_self _ _) tt).0

pub unbarred_fails : Small unbarred → ⊥
unbarred_fails h =
    let e : ◌≡◌ {A = List ℕ} (7 ∷ []) (9 ∷ []) = unbarred_shows (promised0 unbarred h unbarred_calls) in
    let z : ◌≡◌ {A = ℕ} 7 9 = cc in omega arith
