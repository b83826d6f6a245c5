-- `image::read` meets its contract: the bytes below the size are read, and those past it are zeros.
use Rattle.std.proofs.Common.{◌≡◌, ap, ◌∙◌, arith, ℕ, ◌-◌, min, length, take, length-take}
use Rattle.update.specs.Lists.{tabulate_from}
use Rattle.update.specs.Image.{image_in}
use Rattle.image.specs.ImageReads.{read_both}
use Rattle.image.proofs.read.Goals as goal

pub returns : goal.returns
returns c =
    let a = c.args in
    let n : ℕ = c.below_size-n.result in
    let few : n ≡ min (length a.dst.now) (a.stored.image.size - a.offset) = c.below_size-n.ensures in
    let front : length (take n a.dst.now) ≡ n = length-take n a.dst.now ∙ omega (arith, few) in
    read_both 16384 (omega arith) a.stored.image a.stored.mem.now a.offset n c.read_pages.new.dst a.dst.now c.fill.new.dst (omega (arith, few)) (λ h. omega (arith, few, h))
    (c.read_pages.ensures ∙ ap (λ (k : ℕ). tabulate_from a.offset k (image_in 16384 a.stored.image a.stored.mem.now)) front) c.fill.ensures
