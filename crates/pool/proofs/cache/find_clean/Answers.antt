-- `pool::cache::find_clean` meets its contract.
use Rattle.std.proofs.Common.{◌∙◌, sym, ap, List, ℕ}
use Rattle.pool.specs.Pool.{place_found}
use Rattle.pool.specs.CacheLaws.{settled_most, settled_cached}
use Rattle.pool.proofs.cache.find_clean.Goals as goal

pub shared_ref_as_front-find : goal.shared_ref_as_front-find
shared_ref_as_front-find c = settled_most 16384 8 c.args.c.now c.requires

pub returns : goal.returns
returns c = c.find.ensures ∙ ap (λ (ns : List ℕ). place_found ns c.args.page) (sym (settled_cached 16384 8 c.args.c.now c.requires))
