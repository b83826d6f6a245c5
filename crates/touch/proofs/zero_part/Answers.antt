-- `touch::zero_part` meets its contract.
use mathlib.Core.Path.{◌≡◌, sym, ap, ◌∙◌}
use Prim.Native.Nat.{ℕ, ◌+◌, ◌-◌, ◌*◌, ◌≤◌, ◌<◌}
use native.Mathlib.Omega.{arith}
use mathlib.Core.List.{List}
use Rattle.std.specs.Prelude.{Ok}
use Rattle.std.proofs.lemmas.Result.{err_from_is_err_and}
use lib.ListN.{length, take, drop}
use borrow.Rule.Slice.PartMut.{put_mid}
use Rattle.memory.specs.Bytes.{zeros, overwrite}
use Rattle.memory.specs.Laws.{part_filled}
use Rattle.update.specs.Buffers.{Buffers}
use Rattle.update.specs.Laid.{bufs, laid}
use Rattle.update.specs.TouchLaws.{place_in, refused_alike, frame_loaded, touched_blank}
use Rattle.touch.proofs.zero_part.Goals as goal
use Rattle.touch.proofs.zero_part.Goals.{In_ok-at}

-- a part of frame `at`, filled and put back
filled : (at place from to : ℕ) (f new : List ℕ) → at ≡ place → from ≤ to → at * 16384 + to ≤ length f
    → new ≡ zeros (length (take (at * 16384 + to - (at * 16384 + from)) (drop (at * 16384 + from) f)))
    → put_mid (at * 16384 + from) (at * 16384 + to - (at * 16384 + from)) f new ≡ overwrite (place * 16384 + from) (zeros (to - from)) f
filled at place from to f new p h k e =
    let n : at * 16384 + to - (at * 16384 + from) ≡ to - from = omega arith in
    rw (e, n, ← p) (part_filled (at * 16384 + from) (to - from) f (omega arith))

-- the page's frame lies in the frames, which are as long as before
framed : (c : In_ok-at) → (c.in_ok-at.at * 16384 + 16384 ≤ length c.load_dirty_page.new.frames) × (length c.load_dirty_page.new.frames < 18446744073709551616)
framed c =
    let a = c.args in
    let l : Buffers = bufs a.frames.now a.numbers.now a.clean.now a.«record».now in (
      omega (
        arith,
        c.in_ok-at.ensures.place,
        c.load_dirty_page.auto.frames,
        frame_loaded 16384 8 (omega arith) a.o.now l c.requires.0 18446744073709551615 a.stored.image a.stored.mem.now a.page _ _ (sym c.in_ok-at.ensures.done),
      ),
      omega (arith, c.well_formed, c.load_dirty_page.auto.frames),
    )

pub returns-in_err-at : goal.returns-in_err-at
returns-in_err-at c =
    let a = c.args in
    let p = err_from_is_err_and c.from_residual.result c.from_residual.ensures.1 in
    let l : Buffers = bufs a.frames.now a.numbers.now a.clean.now a.«record».now in
    rw (p.1, p.2) (sym (refused_alike 16384 8 (omega arith) a.o.now l c.requires.0 18446744073709551615 a.stored.image a.stored.mem.now a.page _ _ _ _ (sym c.in_err-at.ensures.done)))

pub overflow_mul-start : goal.overflow_mul-start
overflow_mul-start c = omega (arith, framed (goal.at.overflow_mul-start c).In_ok-at)

pub overflow_add-start : goal.overflow_add-start
overflow_add-start c = omega (arith, framed (goal.at.overflow_add-start c).In_ok-at, c.requires)

pub overflow_mul-end : goal.overflow_mul-end
overflow_mul-end c = omega (arith, framed (goal.at.overflow_mul-end c).In_ok-at)

pub overflow_add-end : goal.overflow_add-end
overflow_add-end c = omega (arith, framed (goal.at.overflow_add-end c).In_ok-at, c.requires)

pub slice_bounds-fill-end : goal.slice_bounds-fill-end
slice_bounds-fill-end c = omega (arith, framed (goal.at.slice_bounds-fill-end c).In_ok-at, c.requires)

pub returns : goal.returns
returns c =
    let a = c.args in
    let t = c.load_dirty_page.new in
    let w : List ℕ = a.«record».now in
    let l : Buffers = bufs a.frames.now a.numbers.now a.clean.now w in
    let back : put_mid (c.in_ok-at.at * 16384 + a.from) (c.in_ok-at.at * 16384 + a.to - (c.in_ok-at.at * 16384 + a.from)) t.frames c.fill.new.dst ≡ overwrite (place_in a.o.now l a.page * 16384 + a.from) (zeros (a.to - a.from)) t.frames =
    filled c.in_ok-at.at (place_in a.o.now l a.page) a.from a.to t.frames c.fill.new.dst c.in_ok-at.ensures.place c.requires.1.1.0 (omega (arith, framed (goal.at.returns c).In_ok-at, c.requires)) c.fill.ensures in
    ap (λ (y : List ℕ). laid t.o (bufs y t.numbers t.clean w) (Ok tt)) back
    ∙ sym (touched_blank 16384 8 (omega arith) a.o.now l c.requires.0 18446744073709551615 a.stored.image a.stored.mem.now a.page a.from a.to c.requires.1.1.0 c.requires.1.1.1 t.o t.frames t.numbers t.clean w (sym c.in_ok-at.ensures.done))
