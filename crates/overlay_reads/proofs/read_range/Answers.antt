-- `overlay_reads::read_range` meets its contract: after each turn the bytes read so far, and the overlay, are those of a read of as many.
use mathlib.Core.Path.{◌≡◌, sym, ap, ◌∙◌}
use mathlib.Core.Bool.{true}
use Prim.Native.Nat.{ℕ, ◌+◌, ◌-◌, ◌≤◌}
use native.Mathlib.Omega.{arith}
use mathlib.Core.List.{List, ◌++◌}
use lib.ListN.{length, take, drop}
use borrow.Rule.Slice.PartMut.{put_mid}
use borrow.Author.Rules.{rules}
use Rattle.std.specs.Prelude.{Ok}
use Rattle.memory.specs.Laws.{length_part}
use Rattle.update.specs.Laid.{bufs}
use Rattle.update.specs.ListLaws.{part_front}
use Rattle.overlay_reads.specs.Reads.{seen, page_read, range_read}
use Rattle.overlay_reads.specs.ReadLaws.{range_none, range_step, range_fits}
use Rattle.overlay_reads.proofs.read_range.Goals as goal

pub loop-at-init : goal.loop-at-init
loop-at-init c =
    let a = c.args in
    let i = c.into_iter-at-iterator in
    let is = i.ensures.into_iter_gives in
    let of = c.of-at-items.ensures in
    let done : i.result.done ≡ 0 = (λ j. (is j).done) ∙ of.1 in
    let len : i.result.len ≡ length a.dst.now = (λ j. (is j).len) ∙ of.2 in
    let b = bufs a.frames.bytes.now a.frames.numbers.now a.clean.now a.«record».now in
    let front = λ (d : ℕ). seen a.o.now b (take d a.dst.now) (Ok true) in
    let all = range_read 16384 8 a.stored.image a.stored.mem.now a.o.now b a.offset in
    record {
      at = (λ j. (is j).offset) ∙ of.0;
      within = omega (arith, done, len);
      end = len;
      dst = search rules;
      clean = search rules;
      read = ap front done ∙ sym (range_none 16384 8 (omega arith) (omega arith) _ _ _ _ c.requires.0 _) ∙ ap all (sym done);
    }

pub read_page-requires : goal.read_page-requires
read_page-requires c =
    let x = c.loop-at in
    let v = x.invariant in
    let s = c.in-Some.ensures.steps in
    let from : ℕ = c.in-Some.place.start in
    let k : ℕ = c.in-Some.place.end - from in
    let fit : from + k ≤ length x.dst = omega (arith, s.0, s.2, s.3, v.end) in
    let long : length (take k (drop from x.dst)) ≡ k = length_part from k x.dst fit in (
      range_fits 16384 8 (omega arith) (omega arith) _ _ _ _ c.requires.0 _ _ _ _ _ v.read,
      omega (arith, long, s.1, s.2, s.3),
    )

pub loop-at-preserved : goal.loop-at-preserved
loop-at-preserved c =
    let a = c.args in
    let x = c.loop-at in
    let v = x.invariant in
    let s = c.in-Some.ensures.steps in
    let p = c.read_page in
    let b = bufs a.frames.bytes.now a.frames.numbers.now in
    let l = b p.new.clean a.«record».now in
    let done : ℕ = x.at-iterator.done in
    let from : ℕ = c.in-Some.place.start in
    let k : ℕ = c.in-Some.place.end - from in
    let next : ℕ = c.next.new.self.done in
    let fit : from + k ≤ length x.dst = omega (arith, s.0, s.2, s.3, v.end) in
    let long : length (take k (drop from x.dst)) ≡ k = length_part from k x.dst fit in
    let o : c.in-Some.at ≡ a.offset + from = omega (arith, s.1, s.2, v.at) in
    let e : next ≡ from + k = omega (arith, s.2, s.3, s.5) in
    let part = p.ensures ∙ ap (λ (y : ℕ). page_read 16384 8 a.stored.image a.stored.mem.now x.o (b x.clean a.«record».now) y (length (take k (drop from x.dst)))) o in
    let so_far = ap (λ (d : ℕ). seen x.o (b x.clean a.«record».now) (take d x.dst) (Ok true)) s.2 ∙ v.read
    ∙ ap (range_read 16384 8 a.stored.image a.stored.mem.now a.o.now (b a.clean.now a.«record».now) a.offset) (sym s.2) in
    let all = range_step 16384 8 (omega arith) (omega arith) _ _ _ _ c.requires.0 a.offset from k _ _ _ so_far
    (omega (arith, s.0, s.2, s.3)) (omega (arith, s.1, s.2, s.3, v.at)) (omega (arith, c.requires.1, fit, v.dst, s.0, s.2, v.end))
    p.new.o l p.new.dst (length (take k (drop from x.dst))) long part in
    let new : List ℕ = p.new.dst in
    let front : take next (put_mid from k x.dst new) ≡ take from x.dst ++ new =
    ap (λ (m : ℕ). take m (put_mid from k x.dst new)) e ∙ part_front from k x.dst new (p.auto.dst ∙ long) fit in
    let same : length (put_mid from k x.dst new) ≡ length a.dst.now = search rules in
    record {
      at = s.4 ∙ v.at;
      within = omega (arith, s.0, s.3, s.5, s.6);
      end = s.6 ∙ v.end ∙ v.dst ∙ sym same;
      dst = same;
      clean = search rules;
      read = ap (λ (y : List ℕ). seen p.new.o l y (Ok true)) front ∙ all
          ∙ ap (range_read 16384 8 a.stored.image a.stored.mem.now a.o.now (b a.clean.now a.«record».now) a.offset) (sym e);
    }
