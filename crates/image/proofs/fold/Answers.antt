-- `image::fold` meets its contract: the checksum so far, taken on over the parts that are left, is the one asked for.
use Rattle.std.proofs.Common.{◌≡◌, ◌+◌, ◌-◌, ◌%◌, ◌≤◌, sym, ap, ◌∙◌, arith, ℕ, length, take, drop, length-append, length-take, length-drop}
use Rattle.fnv.specs.Fnv.{fold}
use Rattle.update.specs.Lists.{tabulate_from}
use Rattle.update.specs.Image.{image_in, image_part}
use Rattle.image.specs.ImageReads.{fold_more, fold_last}
use Rattle.image.proofs.fold.Goals as goal

pub loop-at-preserved : goal.loop-at-preserved
loop-at-preserved c =
    let a = c.args in
    let x = c.loop-at in
    let v = x.invariant in
    let n = c.len.result in
    let s = c.in-Some.ensures.steps in
    let at : ℕ = a.from + x.at-iterator.done in
    let f = c.fold_part-sum in
    let is : c.in-Some.at ≡ at = omega (arith, s.1, v.1) in
    let short : n ≤ 16384 - at % 16384 = omega (arith, c.len.ensures.value, s.2, s.3, v.1) in
    let whole : length (take n x.page) ≡ n = length-take n x.page ∙ omega (arith, short, v.0) in
    let hashed : f.result ≡ fold x.sum (image_part 16384 a.stored.image a.stored.mem.now at (length (take n x.page))) =
    f.ensures ∙ ap (λ (o : ℕ). fold x.sum (image_part 16384 a.stored.image a.stored.mem.now o (length (take n x.page)))) is in
    let next : a.from + c.next.new.self.done ≡ at + n = omega (arith, c.len.ensures.value, s.2, s.3, s.5) in (
      length-append f.new.page (drop n x.page) ∙ omega (arith, f.auto.page ∙ whole, short, v.0, length-drop n x.page),
      s.4 ∙ v.1,
      s.6 ∙ v.2,
      ap (λ (o : ℕ). fold f.result (tabulate_from o (a.end - o) (image_in 16384 a.stored.image a.stored.mem.now))) next
          ∙ fold_more 16384 (omega arith) a.stored.image a.stored.mem.now at a.end (length (take n x.page)) n x.sum f.result whole (omega (arith, c.len.ensures.value, s.0, s.2, s.3, v.2)) (omega (arith, short)) hashed
          ∙ v.3,
    )

pub returns : goal.returns
returns c =
    let a = c.args in
    let x = c.loop-at in
    let v = x.invariant in
    sym (fold_last 16384 (omega arith) a.stored.image a.stored.mem.now (a.from + x.at-iterator.done) a.end x.sum (omega (arith, c.in-None.ensures.steps, v.2))) ∙ v.3
