-- `zero_pages::is_zero` meets its contract: a list of runs has a page exactly if one of them has it.
use Rattle.std.proofs.Common.{◌∙◌, rules}
use Rattle.std.proofs.lemmas.Iterator.{YieldsList-from_slice}
use Rattle.std.proofs.lemmas.Iterator.Search.{any_from_yields_List}
use Rattle.runs.specs.Sets.{within}
use Rattle.runs.specs.Lists.{any_has}
use Rattle.zero_pages.proofs.is_zero.Goals as goal

pub returns : goal.returns
returns c =
    any_from_yields_List (λ x. within x c.args.page) _ _ _ c.any.ensures.ran (YieldsList-from_slice _ c.iter.ensures.rest) (λ x b q k. search rules)
    ∙ any_has c.args.extents.now c.args.page
