-- `fnv::fnv1a64` meets its contract.
use Rattle.std.proofs.Common.{sym, ◌∙◌}
use Rattle.fnv.specs.Fnv.{fnv_is}
use Rattle.fnv.proofs.fnv1a64.Goals as goal

pub returns : goal.returns
returns c = c.fold_fnv1a64.ensures ∙ sym (fnv_is _)
