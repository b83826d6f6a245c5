-- `touch::write_full_page` meets its contract.
use mathlib.Core.Path.{◌≡◌, sym, ap, ◌∙◌}
use Prim.Native.Nat.{ℕ, ◌*◌, ◌≤◌, ◌<◌}
use native.Mathlib.Omega.{arith}
use Rattle.std.specs.Prelude.{false, Ok, Err}
use Rattle.std.proofs.Common.{length-take-le}
use Rattle.std.proofs.lemmas.Result.{err_from_is_err_and}
use lib.ListN.{length, take}
use Rattle.memory.specs.Bytes.{overwrite}
use Rattle.update.specs.Buffers.{Buffers, frame_count}
use Rattle.update.specs.Laid.{bufs, laid}
use Rattle.update.specs.TouchLaws.{place_in, load_refused, whole_held, whole_new}
use Rattle.pool.specs.PoolLaws.{found_at, found_none}
use Rattle.touch.proofs.Taken.{asked}
use Rattle.touch.proofs.write_full_page.Goals as goal
use Rattle.touch.proofs.write_full_page.Goals.{in-Some, in-None+in_ok-at-in-None, Start}

-- the dirty pages lie in the slices
few : (c : Start) → (c.args.o.now.dirty * 16384 ≤ length c.args.frames.now) × (length (take c.args.o.now.dirty c.args.numbers.now) ≡ c.args.o.now.dirty)
unfolding frame_count
few c = (omega (arith, c.requires.0), length-take-le c.args.o.now.dirty c.args.numbers.now (omega (arith, c.requires.0)))

pub slice_bounds-find-end : goal.slice_bounds-find-end
unfolding frame_count
slice_bounds-find-end c = omega (arith, c.requires.0)

pub slice_bounds-find-end-2 : goal.slice_bounds-find-end-2
slice_bounds-find-end-2 c = sym (few (goal.at.slice_bounds-find-end-2 c).Start).1

pub take_frame-requires : goal.take_frame-requires
unfolding frame_count
take_frame-requires c = c.requires.0

pub returns-in_err-at-in-None : goal.returns-in_err-at-in-None
returns-in_err-at-in-None c = λ l w mem i fits.
    let a = c.args in
    let p = err_from_is_err_and c.from_residual.result c.from_residual.ensures.1 in
    let same = c.in_err-at-in-None.ensures.err in
    let r = c.in_err-at-in-None.field-0.0 in
    rw (p.1, p.2)
    ((λ k. laid (same.0 k) (bufs a.frames.now (same.1 k) l w) (Err r))
    ∙ sym (load_refused 16384 8 (omega arith) a.o.now (bufs a.frames.now a.numbers.now l w) fits 18446744073709551615 i mem a.page
    (omega (arith, found_none (take a.o.now.dirty a.numbers.now) a.page c.in-None.ensures, (few (goal.at.returns-in_err-at-in-None c).Start).1)) c.take_frame.new.o.budget r
    (asked a.frames.now a.numbers.now a.o.now.dirty a.o.now.budget c.take_frame.new.o.budget l w (Err r) c.in_err-at-in-None.ensures.answer) false _))

pub overflow_mul-at : goal.overflow_mul-at
overflow_mul-at c =
    let a = c.args in
    let few : (a.o.now.dirty * 16384 ≤ length a.frames.now) × (length (take a.o.now.dirty a.numbers.now) ≡ a.o.now.dirty) = few (goal.at.overflow_mul-at c).Start in
    elim c.match-find.branch [
      | in-Some w ↦ omega (arith, w.at-is, found_at (take a.o.now.dirty a.numbers.now) a.page w.in-Some.at w.in-Some.ensures)
      | in-None+in_ok-at-in-None w ↦ omega (arith, w.at-is, w.in_ok-at-in-None.ensures.ok)
    ]

pub returns : goal.returns
returns c = λ l w mem i fits.
    let a = c.args in
    let b : Buffers = bufs a.frames.now a.numbers.now l w in
    let many : length (take a.o.now.dirty a.numbers.now) ≡ a.o.now.dirty = (few (goal.at.returns c).Start).1 in
    let frames : (n : ℕ) → c.match-find.at ≡ n → c.write.new.dst ≡ overwrite (n * 16384) a.bytes.now a.frames.now =
    (λ n e. c.write.ensures ∙ ap (λ (x : ℕ). overwrite (x * 16384) a.bytes.now a.frames.now) e) in
    elim c.match-find.branch [
      | in-Some s ↦
          let found : (s.in-Some.at ≡ place_in a.o.now b a.page) × (s.in-Some.at < length (take a.o.now.dirty a.numbers.now)) = found_at (take a.o.now.dirty a.numbers.now) a.page s.in-Some.at s.in-Some.ensures in
          (λ k. laid (s.o-is k) (bufs (frames (place_in a.o.now b a.page) (s.at-is ∙ found.0) k) (s.numbers-is k) l w) (Ok tt))
          ∙ sym (whole_held 16384 8 (omega arith) a.o.now b fits 18446744073709551615 i mem a.page (omega (arith, found, many)) a.bytes.now c.requires.1)
      | in-None+in_ok-at-in-None s ↦
          let g = s.take_frame.new.o.budget in
          let ok = s.in_ok-at-in-None.ensures.ok in
          (λ k. laid ((s.o-is ∙ ok.1) k) (bufs (frames a.o.now.dirty (s.at-is ∙ ok.0) k) ((s.numbers-is ∙ ok.2) k) l w) (Ok tt))
          ∙ sym (whole_new 16384 8 (omega arith) a.o.now b fits 18446744073709551615 i mem a.page (omega (arith, found_none (take a.o.now.dirty a.numbers.now) a.page s.in-None.ensures, many)) g
          (asked a.frames.now a.numbers.now a.o.now.dirty a.o.now.budget g l w (Ok tt) s.in_ok-at-in-None.ensures.answer) a.bytes.now c.requires.1)
    ]
