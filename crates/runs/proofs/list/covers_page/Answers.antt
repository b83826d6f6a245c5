-- `runs::covers_page` meets its contract: a list of runs has a page exactly if one of them has it.
use Rattle.std.proofs.Common.{drop, ◌∙◌, rules}
use Rattle.std.proofs.lemmas.Iterator.Consumers.{YieldsList-from_first}
use Rattle.std.proofs.lemmas.Iterator.Search.{any_from_yields_List}
use Rattle.runs.specs.Sets.{within}
use Rattle.runs.specs.Lists.{any_has}
use Rattle.runs.proofs.list.covers_page.Goals as goal

pub returns : goal.returns
unfolding within
returns g c =
    let p = c.args.page in
    any_from_yields_List (λ x. within x p) _ _ _ c.any.ensures.ran (YieldsList-from_first (λ x. x) (λ it. drop it.next (g.L.RunList.runs it.list)) (g.L.RunList.runs c.args.list) c.iter.ensures)
    (λ x b q k. search rules)
    ∙ any_has (g.L.RunList.runs c.args.list) p
