-- `transfer::sums::sum_of` meets its contract.
use Rattle.std.proofs.Common.{◌≡◌, sym, ap, ◌∙◌, arith, ℕ, ◌-◌}
use Rattle.image.specs.Reading.{image_of}
use Rattle.fnv.specs.Fnv.{basis, fold}
use Rattle.update.specs.declared.Image.{Image}
use Rattle.update.specs.Lists.{tabulate_from}
use Rattle.update.specs.Image.{image_in}
use Rattle.transfer.specs.StoreCases.{sum_is}
use Rattle.transfer.proofs.sums.sum_of.Goals as goal

pub returns : goal.returns
returns c =
    let a = c.args in
    let n : a.block.db_size - 0 ≡ a.block.db_size = omega arith in
    c.fold.ensures
    ∙ ap (λ (i : Image). fold basis (tabulate_from 0 (a.block.db_size - 0) (image_in 16384 i a.mem.now))) c.image_of-image.ensures
    ∙ ap (λ (k : ℕ). fold basis (tabulate_from 0 k (image_in 16384 (image_of a.block) a.mem.now))) n
    ∙ sym (sum_is a.block a.mem.now)
