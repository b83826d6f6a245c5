-- `touch::load_dirty_page` meets its contract.
use mathlib.Core.Path.{◌≡◌, sym, ap, ◌∙◌}
use Prim.Native.Nat.{ℕ, ◌+◌, ◌-◌, ◌*◌, ◌≤◌, ◌<◌}
use native.Mathlib.Omega.{arith}
use mathlib.Core.Bool.{true}
use mathlib.Core.List.{List}
use Rattle.std.specs.Prelude.{Ok, Err}
use Rattle.std.proofs.Common.{length-take-le}
use Rattle.std.proofs.lemmas.Result.{err_from_is_err_and}
use lib.ListN.{length, take, drop, set}
use borrow.Rule.Slice.PartMut.{put_mid}
use Rattle.memory.specs.Bytes.{overwrite}
use Rattle.memory.specs.Laws.{part_back, length_part}
use Rattle.update.specs.declared.Overlay.{Overlay}
use Rattle.update.specs.declared.Budget.{Budget}
use Rattle.update.specs.declared.CleanCache.{CleanCache}
use Rattle.update.specs.Buffers.{Buffers, frame_count}
use Rattle.runs.specs.Flat.{runs_in}
use Rattle.runs.specs.Sets.{covers}
use Rattle.update.specs.Image.{image_in}
use Rattle.update.specs.Frames.{LoadOut, load_out, load_laid}
use Rattle.update.specs.Laid.{Laid, Fits, bufs, laid}
use Rattle.update.specs.TouchLaws.{place_last, moved, few_numbers, load_held, load_refused, load_new}
use Rattle.update.specs.Pages.{place_of}
use Rattle.pool.specs.PoolLaws.{found_at, found_none}
use Rattle.touch.proofs.Taken.{asked, room}
use Rattle.touch.proofs.load_dirty_page.Goals as goal
use Rattle.touch.proofs.load_dirty_page.Goals.{In_default, In_ok-at}

-- a page loaded into the frame behind the dirty ones
put : (v w : Overlay) (at : ℕ) (f ns ms rs : List ℕ) (p : ℕ) (g : Budget) (c : CleanCache) (y l : List ℕ) (x : LoadOut) (z : Laid)
    → at ≡ v.dirty → w ≡ moved v (v.dirty + 1) v.cache g → ms ≡ set ns v.dirty p → load_out c y l ≡ x → at * 16384 + 16384 ≤ length f
    → length y ≡ length (take (at * 16384 + 16384 - at * 16384) (drop (at * 16384) f))
    → z ≡ laid (moved v (v.dirty + 1) x.cache g) (bufs (overwrite (v.dirty * 16384) x.frame f) (set ns v.dirty p) x.clean rs) (Ok tt)
    → laid (record { base_size = w.base_size; size = w.size; dirty = w.dirty; recorded = w.recorded; cache = c; budget = w.budget })
    (bufs (put_mid (at * 16384) (at * 16384 + 16384 - at * 16384) f y) ms l rs) (Ok tt) ≡ z
put v w at f ns ms rs p g c y l x z a b s e h n d =
    let k : at * 16384 + 16384 - at * 16384 ≡ 16384 = omega arith in
    let m : length y ≡ 16384 = rw k at n ∙ length_part (at * 16384) 16384 f h in
    rw (k, part_back (at * 16384) 16384 f y m h)
    ((λ j. laid (record { base_size = (b j).base_size; size = (b j).size; dirty = (b j).dirty; recorded = (b j).recorded; cache = (e j).cache; budget = (b j).budget })
    (bufs (overwrite (a j * 16384) (e j).frame f) (s j) (e j).clean rs) (Ok tt)) ∙ sym d)

pub slice_bounds-find-end : goal.slice_bounds-find-end
slice_bounds-find-end c =
    few_numbers 16384 8 (omega arith) c.args.o.now (bufs c.args.frames.now c.args.numbers.now c.args.clean.now c.args.«record».now) c.requires.fits

-- how many page numbers are searched
many : (v : Overlay) (f n l w : List ℕ) → Fits 16384 8 v (bufs f n l w) → length (take v.dirty n) ≡ v.dirty
many v f n l w fits = length-take-le v.dirty n (few_numbers 16384 8 (omega arith) v (bufs f n l w) fits)

pub slice_bounds-find-end-2 : goal.slice_bounds-find-end-2
slice_bounds-find-end-2 c = sym (many c.args.o.now c.args.frames.now c.args.numbers.now c.args.clean.now c.args.«record».now c.requires.fits)

-- the page is not dirty
new : (c : In_default) → c.args.o.now.dirty ≤ place_of (take c.args.o.now.dirty c.args.numbers.now) c.args.page
new c =
    let a = c.args in
    omega (arith, found_none (take a.o.now.dirty a.numbers.now) a.page c.in_default.ensures, many a.o.now a.frames.now a.numbers.now a.clean.now a.«record».now c.requires.fits)

pub returns-in-Some-clause-done : goal.returns-in-Some-clause-done
returns-in-Some-clause-done c =
    let a = c.args in
    let at : c.in-Some.at ≡ place_of (take a.o.now.dirty a.numbers.now) a.page × c.in-Some.at < length (take a.o.now.dirty a.numbers.now) = found_at (take a.o.now.dirty a.numbers.now) a.page c.in-Some.at c.in-Some.ensures in
    sym (load_held 16384 8 (omega arith) a.o.now (bufs a.frames.now a.numbers.now a.clean.now a.«record».now) c.requires.fits 18446744073709551615 a.stored.image a.stored.mem.now a.page (omega (arith, many a.o.now a.frames.now a.numbers.now a.clean.now a.«record».now c.requires.fits)) true)

pub take_frame-requires : goal.take_frame-requires
unfolding frame_count
take_frame-requires c = c.requires.fits.0

pub returns-in_err-at-clause-done : goal.returns-in_err-at-clause-done
returns-in_err-at-clause-done c =
    let a = c.args in
    let p = err_from_is_err_and c.from_residual.result c.from_residual.ensures.1 in
    let same = c.in_err-at.ensures.err in
    let l : Buffers = bufs a.frames.now a.numbers.now a.clean.now a.«record».now in
    rw (p.1, p.2)
    ((λ i. laid (same.0 i) (bufs a.frames.now (same.1 i) a.clean.now a.«record».now) (Err c.in_err-at.field-0.0))
    ∙ sym (load_refused 16384 8 (omega arith) a.o.now l c.requires.fits 18446744073709551615 a.stored.image a.stored.mem.now a.page (new (goal.at.returns-in_err-at-clause-done c).In_default) c.take_frame.new.o.budget c.in_err-at.field-0.0
    (asked a.frames.now a.numbers.now a.o.now.dirty a.o.now.budget c.take_frame.new.o.budget a.clean.now a.«record».now (Err c.in_err-at.field-0.0) c.in_err-at.ensures.answer) true _))

-- the frame lies in the pool
fits : (c : In_ok-at) → c.in_ok-at.at * 16384 + 16384 ≤ length c.args.frames.now
fits c =
    room c.args.frames.now c.args.numbers.now c.args.o.now.dirty c.args.o.now.budget c.take_frame.new.o.budget c.in_ok-at.at c.in_ok-at.ensures.ok.0 c.in_ok-at.ensures.answer

pub overflow_mul-from : goal.overflow_mul-from
overflow_mul-from c = omega (arith, fits (goal.at.overflow_mul-from c).In_ok-at)

pub overflow_add-end : goal.overflow_add-end
overflow_add-end c = omega (arith, fits (goal.at.overflow_add-end c).In_ok-at)

pub slice_bounds-load-end : goal.slice_bounds-load-end
slice_bounds-load-end c = omega (arith, fits (goal.at.slice_bounds-load-end c).In_ok-at)

pub returns-clause-done : goal.returns-clause-done
returns-clause-done c =
    let a = c.args in
    let t = c.take_frame.new in
    let ok = c.in_ok-at.ensures.ok in
    let l : Buffers = bufs a.frames.now a.numbers.now a.clean.now a.«record».now in
    let x : LoadOut = load_laid 16384 8 a.o.now.cache a.clean.now (image_in 16384 a.stored.image a.stored.mem.now) (covers (runs_in a.o.now.recorded a.«record».now) a.page) a.page in
    let loaded : load_out c.load.new.c c.load.new.frame c.load.new.clean ≡ x =
    rw c.first-recorded.ensures at c.load.ensures
    ∙ ap (λ (v : Overlay). load_laid 16384 8 v.cache a.clean.now (image_in 16384 a.stored.image a.stored.mem.now) (covers (runs_in v.recorded a.«record».now) a.page) a.page) ok.1 in
    put a.o.now t.o c.in_ok-at.at a.frames.now a.numbers.now t.numbers a.«record».now a.page t.o.budget c.load.new.c c.load.new.frame c.load.new.clean x _
    ok.0 ok.1 ok.2 loaded (fits (goal.at.returns-clause-done c).In_ok-at) c.load.auto.frame
    (load_new 16384 8 (omega arith) a.o.now l c.requires.fits 18446744073709551615 a.stored.image a.stored.mem.now a.page (new (goal.at.returns-clause-done c).In_default) t.o.budget
    (asked a.frames.now a.numbers.now a.o.now.dirty a.o.now.budget t.o.budget a.clean.now a.«record».now (Ok tt) c.in_ok-at.ensures.answer))

pub returns-clause-place : goal.returns-clause-place
returns-clause-place c =
    let a = c.args in
    c.in_ok-at.ensures.ok.0
    ∙ sym (place_last 16384 8 (omega arith) a.o.now (bufs a.frames.now a.numbers.now a.clean.now a.«record».now) c.requires.fits a.page (new (goal.at.returns-clause-place c).In_default))
