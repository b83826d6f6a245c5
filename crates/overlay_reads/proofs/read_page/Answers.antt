-- `overlay_reads::read_page` meets its contract.
use mathlib.Core.Path.{◌≡◌, sym, ap, ◌∙◌}
use Prim.Native.Nat.{ℕ, ◌+◌, ◌*◌, ◌/◌, ◌%◌, ◌≤◌, ◌<◌}
use native.Mathlib.Omega.{arith}
use mathlib.Core.Bool.{true, false}
use mathlib.Core.List.{List}
use lib.ListN.{length, take, drop, length-take}
use lib.Seq.{length-take-le}
use Rattle.std.specs.Prelude.{Ok}
use Rattle.runs.specs.Flat.{runs_in}
use Rattle.runs.specs.Sets.{covers}
use Rattle.update.specs.Laid.{bufs, clean_seen}
use Rattle.update.specs.TouchLaws.{few_numbers, place_in, frame_held}
use Rattle.pool.specs.PoolLaws.{found_at, found_none}
use Rattle.overlay_reads.specs.Reads.{seen}
use Rattle.overlay_reads.specs.ReadLaws.{read_dirty, read_covered, read_uncovered}
use Rattle.update.specs.ListLaws.{copied}
use Rattle.overlay_reads.proofs.read_page.Goals as goal
use Rattle.overlay_reads.proofs.read_page.Goals.{In-Some, After-covered}

pub slice_bounds-find-end : goal.slice_bounds-find-end
slice_bounds-find-end c =
    let a = c.args in
    sym (length-take-le a.o.now.dirty a.frames.numbers.now (few_numbers 16384 8 (omega arith) a.o.now (bufs a.frames.bytes.now a.frames.numbers.now a.clean.now a.«record».now) c.requires.0))

-- the page's frame
frame : (c : In-Some) → let a = c.args in
    (c.in-Some.at ≡ place_in a.o.now (bufs a.frames.bytes.now a.frames.numbers.now a.clean.now a.«record».now) (a.offset / 16384)) × ((c.in-Some.at < a.o.now.dirty)
    × (c.in-Some.at * 16384 + c.page_offset-within.result + length a.dst.now ≤ length a.frames.bytes.now))
frame c =
    let a = c.args in
    let l = bufs a.frames.bytes.now a.frames.numbers.now a.clean.now a.«record».now in
    let f = found_at (take a.o.now.dirty a.frames.numbers.now) c.page_no-page.result.0 c.in-Some.at (sym c.in-Some.is ∙ c.find.ensures) in
    let k : c.in-Some.at ≡ place_in a.o.now l (a.offset / 16384) = f.0 ∙ ap (λ (p : ℕ). place_in a.o.now l p) c.page_no-page.ensures in
    let few : c.in-Some.at < a.o.now.dirty = omega (arith, f.1, length-take a.o.now.dirty a.frames.numbers.now) in
    let h = frame_held 16384 8 (omega arith) a.o.now l c.requires.0 0 a.stored.image a.stored.mem.now (a.offset / 16384) (omega (arith, k, few)) in
    (k, (few, omega (arith, h, k, c.requires.1, c.page_offset-within.ensures)))

-- it is not dirty
free : (c : After-covered) → let a = c.args in a.o.now.dirty ≤ place_in a.o.now (bufs a.frames.bytes.now a.frames.numbers.now a.clean.now a.«record».now) (a.offset / 16384)
free c =
    let a = c.args in
    let l = bufs a.frames.bytes.now a.frames.numbers.now a.clean.now a.«record».now in
    let f = found_none (take a.o.now.dirty a.frames.numbers.now) c.page_no-page.result.0 (sym c.in_default.is ∙ c.find.ensures) in
    omega (arith, f, ap (λ (p : ℕ). place_in a.o.now l p) c.page_no-page.ensures, length-take-le a.o.now.dirty a.frames.numbers.now (few_numbers 16384 8 (omega arith) a.o.now l c.requires.0))

pub overflow_mul-from : goal.overflow_mul-from
overflow_mul-from c = omega (arith, frame (goal.at.overflow_mul-from c).In-Some, c.well_formed, c.ranges)

pub overflow_add-from : goal.overflow_add-from
overflow_add-from c = omega (arith, frame (goal.at.overflow_add-from c).In-Some, c.well_formed, c.ranges)

pub slice_bounds-copy-count : goal.slice_bounds-copy-count
slice_bounds-copy-count c = omega (arith, frame (goal.at.slice_bounds-copy-count c).In-Some)

pub slice_bounds-copy-start : goal.slice_bounds-copy-start
slice_bounds-copy-start c = omega (arith, frame (goal.at.slice_bounds-copy-start c).In-Some)

pub returns-in-Some : goal.returns-in-Some
returns-in-Some c =
    let a = c.args in
    let at : ℕ = c.in-Some.at in
    let within : ℕ = c.page_offset-within.result in
    let f : List ℕ = a.frames.bytes.now in
    let l = bufs a.frames.bytes.now a.frames.numbers.now a.clean.now a.«record».now in
    let w = frame (goal.at.returns-in-Some c).In-Some in
    let bytes : c.copy.new.dst ≡ take (length a.dst.now) (drop (place_in a.o.now l (a.offset / 16384) * 16384 + a.offset % 16384) f) =
    c.copy.ensures ∙ copied (at * 16384 + within) f a.dst.now w.1.1
    ∙ (λ j. take (length a.dst.now) (drop (w.0 j * 16384 + c.page_offset-within.ensures j) f)) in
    ap (λ (x : List ℕ). seen a.o.now l x (Ok true)) bytes
    ∙ sym (read_dirty 16384 8 (omega arith) (omega arith) a.stored.image a.stored.mem.now a.o.now l c.requires.0 a.offset (length a.dst.now) c.requires.1 (omega (arith, w)))

pub returns-then-covered : goal.returns-then-covered
returns-then-covered c =
    let a = c.args in
    let l = bufs a.frames.bytes.now a.frames.numbers.now a.clean.now a.«record».now in
    let cover : covers (runs_in a.o.now.recorded a.«record».now) (a.offset / 16384) ≡ true =
    ap (covers (runs_in a.o.now.recorded a.«record».now)) (sym c.page_no-page.ensures) ∙ sym c.covered.ensures ∙ c.if-covered.true in
    ap (λ (x : List ℕ). seen a.o.now l x (Ok true)) c.fill.ensures
    ∙ sym (read_covered 16384 8 (omega arith) (omega arith) a.stored.image a.stored.mem.now a.o.now l c.requires.0 a.offset (length a.dst.now) c.requires.1 (free (goal.at.returns-then-covered c).After-covered) cover)

pub returns-else-covered : goal.returns-else-covered
returns-else-covered c =
    let a = c.args in
    let l = bufs a.frames.bytes.now a.frames.numbers.now a.clean.now a.«record».now in
    let cover : covers (runs_in a.o.now.recorded a.«record».now) (a.offset / 16384) ≡ false =
    ap (covers (runs_in a.o.now.recorded a.«record».now)) (sym c.page_no-page.ensures) ∙ sym c.covered.ensures ∙ c.if-covered.false in
    let x = clean_seen c.read_clean.new.c c.read_clean.new.clean c.read_clean.new.dst in
    read_uncovered 16384 8 (omega arith) (omega arith) a.stored.image a.stored.mem.now a.o.now l c.requires.0 a.offset (length a.dst.now) c.requires.1 (free (goal.at.returns-else-covered c).After-covered) cover
    c.page_no-page.result.0 c.page_offset-within.result c.page_no-page.ensures c.page_offset-within.ensures x c.read_clean.ensures
