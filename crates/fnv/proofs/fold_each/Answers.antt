-- `fnv::fold_each` meets its contract: the fold takes each byte.
use Rattle.std.proofs.Common.{◌∙◌, rules}
use Rattle.std.proofs.lemmas.Iterator.{YieldsList-from_slice}
use Rattle.std.proofs.lemmas.Iterator.Consumers.{fold_from_yields_List}
use Rattle.fnv.specs.Fnv.{step as taken}
use Rattle.fnv.specs.Parts.{each_folded}
use Rattle.fnv.proofs.fold_each.Goals as goal

pub returns : goal.returns
returns c =
    fold_from_yields_List _ taken c.args.hash c.fold.result c.fold.ensures.ran (YieldsList-from_slice _ c.iter.ensures.rest) (λ a x b q k. search rules)
    ∙ each_folded c.args.hash c.args.bytes.now
