-- `fnv::are_zeros` meets its contract: the fold asks each byte.
use Rattle.std.proofs.Common.{true, ◌&&◌, ◌==◌, ◌∙◌, rules}
use Rattle.std.proofs.lemmas.Iterator.{YieldsList-from_slice}
use Rattle.std.proofs.lemmas.Iterator.Consumers.{fold_from_yields_List}
use Rattle.fnv.specs.Zeros.{zeros_folded}
use Rattle.fnv.proofs.are_zeros.Goals as goal

pub returns : goal.returns
returns c =
    fold_from_yields_List _ (λ b x. b && x == 0) true c.fold.result c.fold.ensures.ran (YieldsList-from_slice _ c.iter.ensures.rest) (λ a x b q k. search rules)
    ∙ zeros_folded true c.args.bytes.now
