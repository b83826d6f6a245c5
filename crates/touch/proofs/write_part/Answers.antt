-- `touch::write_part` meets its contract.
use mathlib.Core.Path.{◌≡◌, sym, ap, ◌∙◌}
use Prim.Native.Nat.{ℕ, ◌+◌, ◌*◌, ◌/◌, ◌%◌, ◌≤◌, ◌<◌}
use native.Mathlib.Omega.{arith}
use mathlib.Core.List.{List}
use Rattle.std.specs.Prelude.{Ok}
use Rattle.std.proofs.lemmas.Result.{err_from_is_err_and}
use lib.ListN.{length}
use Rattle.memory.specs.Bytes.{overwrite}
use Rattle.update.specs.Buffers.{Buffers}
use Rattle.update.specs.Laid.{bufs, laid}
use Rattle.update.specs.TouchLaws.{place_in, refused_alike, frame_loaded, touched_copy}
use Rattle.touch.proofs.write_part.Goals as goal
use Rattle.touch.proofs.write_part.Goals.{In_ok-at}

-- the page's frame lies in the frames, which are as long as before
framed : (c : In_ok-at) → (c.in_ok-at.at * 16384 + 16384 ≤ length c.load_dirty_page.new.frames) × (length c.load_dirty_page.new.frames < 18446744073709551616)
framed c =
    let a = c.args in
    let l : Buffers = bufs a.frames.now a.numbers.now a.clean.now a.«record».now in (
      omega (
        arith,
        rw c.page_no-page.ensures at c.in_ok-at.ensures.place,
        c.load_dirty_page.auto.frames,
        frame_loaded 16384 8 (omega arith) a.o.now l c.requires.0 18446744073709551615 a.stored.image a.stored.mem.now (a.offset / 16384) _ _ (sym (rw c.page_no-page.ensures at c.in_ok-at.ensures.done)),
      ),
      omega (arith, c.well_formed, c.load_dirty_page.auto.frames),
    )

pub returns-in_err-at : goal.returns-in_err-at
returns-in_err-at c =
    let a = c.args in
    let p = err_from_is_err_and c.from_residual.result c.from_residual.ensures.1 in
    let l : Buffers = bufs a.frames.now a.numbers.now a.clean.now a.«record».now in
    rw (p.1, p.2) (sym (refused_alike 16384 8 (omega arith) a.o.now l c.requires.0 18446744073709551615 a.stored.image a.stored.mem.now (a.offset / 16384) _ _ _ _ (sym (rw c.page_no-page.ensures at c.in_err-at.ensures.done))))

pub overflow_mul-at : goal.overflow_mul-at
overflow_mul-at c = omega (arith, framed (goal.at.overflow_mul-at c).In_ok-at)

pub overflow_add-at : goal.overflow_add-at
overflow_add-at c = omega (arith, framed (goal.at.overflow_add-at c).In_ok-at, c.page_offset-within.ensures, c.requires)

pub returns : goal.returns
returns c =
    let a = c.args in
    let t = c.load_dirty_page.new in
    let w : List ℕ = a.«record».now in
    let l : Buffers = bufs a.frames.now a.numbers.now a.clean.now w in
    let p : ℕ = place_in a.o.now l (a.offset / 16384) in
    let at : c.in_ok-at.at * 16384 + c.page_offset-within.result ≡ p * 16384 + a.offset % 16384 = omega (arith, rw c.page_no-page.ensures at c.in_ok-at.ensures.place, c.page_offset-within.ensures) in
    let back : c.write.new.dst ≡ overwrite (p * 16384 + a.offset % 16384) a.bytes.now t.frames = c.write.ensures ∙ ap (λ (x : ℕ). overwrite x a.bytes.now t.frames) at in
    ap (λ (y : List ℕ). laid t.o (bufs y t.numbers t.clean w) (Ok tt)) back
    ∙ sym (touched_copy 16384 8 (omega arith) a.o.now l c.requires.0 18446744073709551615 a.stored.image a.stored.mem.now a.offset a.bytes.now c.requires.1 t.o t.frames t.numbers t.clean w (sym (rw c.page_no-page.ensures at c.in_ok-at.ensures.done)))
