-- `pool::retain_clean_others` meets its contract: the pages that stay are all but one.
use Rattle.std.proofs.Common.{ap, ◌∙◌, false, rules}
use Rattle.update.specs.Buffers.{clean_pages}
use Rattle.update.specs.Frames.{cache_laid}
use Rattle.pool.specs.Pool.{stays}
use Rattle.pool.specs.WalkLaws.{retained_stays}
use Rattle.pool.proofs.cache.retain_clean_others.Goals as goal

pub returns : goal.returns
returns c =
    let a = c.args in
    c.retain_clean.ensures (stays false a.page) (λ n r says. search rules)
    ∙ ap (cache_laid 16384 8 a.c.now a.clean.now) (retained_stays false a.page (clean_pages 16384 8 a.c.now a.clean.now))
