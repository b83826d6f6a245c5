-- `image::read_pages` meets its contract: before each turn the front of the destination holds the bytes read so far.
use Rattle.std.proofs.Common.{◌≡◌, ◌+◌, ◌-◌, ◌≤◌, refl, sym, ap, ◌∙◌, arith, ℕ, List, length, take, drop}
use borrow.Rule.Slice.PartMut.{put_mid}
use Rattle.memory.specs.Bytes.{overwrite}
use Rattle.memory.specs.Laws.{length_part, length-overwrite, overwrite_nil}
use Rattle.update.specs.Lists.{tabulate_from}
use Rattle.update.specs.Image.{image_in, image_part}
use Rattle.image.specs.ImageReads.{read_more, read_all}
use Rattle.image.proofs.read_pages.Goals as goal

pub loop-at-init : goal.loop-at-init
loop-at-init c =
    let a = c.args in
    let i = c.into_iter-at-iterator in
    let is = i.ensures.into_iter_gives in
    let of = c.of-at-items.ensures in
    let done : i.result.done ≡ 0 = (λ j. (is j).done) ∙ of.1 in
    let len : i.result.len ≡ length a.dst.now = (λ j. (is j).len) ∙ of.2 in
    let front = λ (d : ℕ). overwrite 0 (tabulate_from a.offset d (image_in 16384 a.stored.image a.stored.mem.now)) a.dst.now in
    ((λ j. (is j).offset) ∙ of.0, omega (arith, done, len), len, refl, sym (ap front done ∙ overwrite_nil 0 a.dst.now))

pub loop-at-preserved : goal.loop-at-preserved
loop-at-preserved c =
    let a = c.args in
    let x = c.loop-at in
    let v = x.invariant in
    let s = c.in-Some.ensures.steps in
    let p = c.read_image in
    let done : ℕ = x.at-iterator.done in
    let from : ℕ = c.in-Some.place.start in
    let k : ℕ = c.in-Some.place.end - from in
    let upto : ℕ → List ℕ = λ d. overwrite 0 (tabulate_from a.offset d (image_in 16384 a.stored.image a.stored.mem.now)) a.dst.now in
    let fit : from + k ≤ length x.dst = omega (arith, s.0, s.2, s.3, v.2) in
    let long : length (take k (drop from x.dst)) ≡ k = length_part from k x.dst fit in
    let o : c.in-Some.at ≡ a.offset + from = omega (arith, s.1, s.2, v.0) in
    let read : p.new.dst ≡ image_part 16384 a.stored.image a.stored.mem.now (a.offset + from) (length (take k (drop from x.dst))) =
    p.ensures ∙ ap (λ (y : ℕ). image_part 16384 a.stored.image a.stored.mem.now y (length (take k (drop from x.dst)))) o in
    let new : put_mid from k x.dst p.new.dst ≡ upto c.next.new.self.done =
    ap (λ (y : List ℕ). put_mid from k y p.new.dst) (v.4 ∙ ap upto (sym s.2))
    ∙ read_more 16384 (omega arith) a.stored.image a.stored.mem.now a.offset from k (length (take k (drop from x.dst))) a.dst.now p.new.dst long
    (omega (arith, s.1, s.2, s.3, v.0)) (omega (arith, fit, v.3)) read
    ∙ ap upto {x = from + k} {y = c.next.new.self.done} (omega (arith, s.2, s.3, s.5)) in
    let same : length (put_mid from k x.dst p.new.dst) ≡ length a.dst.now = ap length new ∙ length-overwrite 0 _ a.dst.now in (
      s.4 ∙ v.0,
      omega (arith, s.0, s.3, s.5, s.6),
      s.6 ∙ v.2 ∙ v.3 ∙ sym same,
      same,
      new,
    )

pub returns : goal.returns
returns c =
    let a = c.args in
    let x = c.loop-at in
    let v = x.invariant in
    v.4 ∙ read_all 16384 (omega arith) a.stored.image a.stored.mem.now a.offset x.at-iterator.done a.dst.now (omega (arith, v.1, v.2, v.3, c.in-None.ensures.steps))
