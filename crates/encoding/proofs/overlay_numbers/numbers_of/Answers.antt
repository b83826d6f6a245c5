-- `numbers_of` meets its contract.
use Rattle.std.proofs.Common.{sym, ◌∙◌, refl}
use Rattle.encoding.specs.StateBytes.{flag_of, eight_of, overlay_numbers}
use Rattle.encoding.proofs.overlay_numbers.numbers_of.Goals as goal

pub returns : goal.returns
unfolding overlay_numbers
returns c =  -- what the type of the cache's pages tells
    let pages = c.well_formed.0.1.1.1.1.1.1.0.1.1.0 in
    let eight = c.copy_from_slice-2.ensures.after ∙ sym (eight_of c.args.o.cache.pages pages.1.0.1) in
    (rw (c.copy_from_slice.ensures.after, eight, c.copy_from_slice-3.ensures.after, flag_of c.args.o.budget.limited c.from.ensures) refl, pages.1.0.1)
