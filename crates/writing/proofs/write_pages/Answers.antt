-- `writing::write_pages` meets its contract: the bytes that are left, written on, come to what all of them were to come to.
use mathlib.Core.Path.{◌≡◌, sym, ap, ◌∙◌}
use Prim.Native.Nat.{ℕ, ◌+◌, ◌-◌, ◌/◌, ◌%◌, ◌<◌, min}
use native.Mathlib.Omega.{arith}
use mathlib.Core.Bool.{true}
use lib.ListN.{length, take, drop}
use borrow.Author.Rules.{rules}
use Rattle.std.proofs.lemmas.Result.{err_from_is_err_and}
use Rattle.update.specs.Pages.{span}
use Rattle.update.specs.Update.{copy}
use Rattle.update.specs.Laid.{bufs, touched, touched_all}
use Rattle.update.specs.LeaveLaws.{told}
use Rattle.update.specs.FitLaws.{touched_fits}
use Rattle.writing.specs.WriteLaws.{pages_next, pages_stop, pages_aligned, pages_done}
use Rattle.writing.proofs.write_pages.Goals as goal
use Rattle.writing.proofs.write_pages.Goals.{After-write_part}

more : (c : After-write_part) → c.loop-at.at-iterator.done < length c.args.bytes.now
more c = let v = c.loop-at.invariant in omega (arith, v.end, c.in-Some.ensures.steps.0)

-- how long the part is
abbrev many : After-write_part → ℕ
many c = c.in-Some.place.end - c.in-Some.place.start

-- the part is what is left of its page, or of the bytes
part : (c : After-write_part) → many c ≡ min (16384 - (c.args.offset + c.loop-at.at-iterator.done) % 16384) (length c.args.bytes.now - c.loop-at.at-iterator.done)
part c =
    let v = c.loop-at.invariant in
    let s = c.in-Some.ensures.steps in
    omega (arith, v.at, v.end, s.2, s.3)

-- it is written as these bytes at this place
first : (c : After-write_part) → let a = c.args in let x = c.loop-at in let done : ℕ = x.at-iterator.done in let from : ℕ = c.in-Some.place.start in
    let l = bufs x.frames x.numbers x.clean a.«record».now in
    touched 16384 8 18446744073709551615 a.stored.image a.stored.mem.now x.o l true (copy 16384 (a.offset + done) (take (many c) (drop done a.bytes.now))) ((a.offset + done) / 16384)
    ≡ touched 16384 8 18446744073709551615 a.stored.image a.stored.mem.now x.o l true (copy 16384 c.in-Some.at (take (many c) (drop from a.bytes.now))) (c.in-Some.at / 16384)
first c =
    let a = c.args in
    let x = c.loop-at in
    let s = c.in-Some.ensures.steps in
    let o : a.offset + x.at-iterator.done ≡ c.in-Some.at = omega (arith, s.1, x.invariant.at) in
    let from : x.at-iterator.done ≡ c.in-Some.place.start = sym s.2 in
    λ j. touched 16384 8 18446744073709551615 a.stored.image a.stored.mem.now x.o (bufs x.frames x.numbers x.clean a.«record».now) true (copy 16384 (o j) (take (many c) (drop (from j) a.bytes.now))) (o j / 16384)

pub returns-in_err-write_part : goal.returns-in_err-write_part
returns-in_err-write_part c =
    let p = err_from_is_err_and c.from_residual.result c.from_residual.ensures.1 in
    let x = c.loop-at in
    let v = x.invariant in
    let w = (goal.at.returns-in_err-write_part c).After-write_part in
    let y = c.write_part.new in
    let r = bufs y.frames y.numbers y.clean c.args.«record».now in
    let t = told {l = r} c.write_part.ensures c.in_err-write_part.was in
    rw (p.1, p.2) (pages_stop 16384 8 (omega arith) _ _ v.fits _ _ _ _ _ x.at-iterator.done (many w) (more w) (part w) (λ h. v.aligned h (more w)) y.o r _ (first w ∙ t) ∙ v.written)

pub loop-at-preserved : goal.loop-at-preserved
loop-at-preserved c =
    let a = c.args in
    let x = c.loop-at in
    let l = bufs x.frames x.numbers x.clean a.«record».now in
    let v = x.invariant in
    let s = c.in-Some.ensures.steps in
    let w = (goal.at.loop-at-preserved c).After-write_part in
    let done : ℕ = x.at-iterator.done in
    let next : ℕ = c.next.new.self.done in
    let n : ℕ = many w in
    let e : next ≡ done + n = omega (arith, s.2, s.3, s.5) in
    let y = c.write_part.new in
    let r = bufs y.frames y.numbers y.clean a.«record».now in
    let t = told {l = r} c.write_part.ensures c.in_ok-write_part.was in
    let rest = λ (d : ℕ). touched_all 16384 8 18446744073709551615 a.stored.image a.stored.mem.now y.o r true (copy 16384 a.offset a.bytes.now) ((a.offset + d) / 16384) (span 16384 (a.offset + d) (length a.bytes.now - d)) in
    record {
      at = s.4 ∙ v.at;
      within = omega (arith, s.0, s.3, s.5, s.6);
      end = s.6 ∙ v.end;
      aligned = λ h k. rw e (pages_aligned 16384 8 (omega arith) x.o l v.fits 18446744073709551615 a.stored.image a.stored.mem.now a.offset a.bytes.now done n (more w) (part w) (λ h. v.aligned h (more w)) (omega (arith, h, e)) (omega (arith, k, e)));
      frames = search rules;
      numbers = search rules;
      clean = search rules;
      fits = touched_fits 16384 8 (omega arith) _ _ v.fits _ _ _ _ _ _ t;
      written = ap rest e ∙ pages_next 16384 8 (omega arith) _ _ v.fits _ _ _ _ _ done n (more w) (part w) (λ h. v.aligned h (more w)) y.o r (first w ∙ t) ∙ v.written;
    }

pub returns : goal.returns
returns c =
    let x = c.loop-at in
    let v = x.invariant in
    pages_done 16384 8 (omega arith) _ _ v.fits _ _ _ _ _ x.at-iterator.done (omega (arith, v.within, v.end, c.in-None.ensures.steps)) ∙ v.written
