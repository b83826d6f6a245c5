-- `pool::retain_others` meets its contract: the pages that stay are all but one.
use Rattle.std.proofs.Common.{◌∙◌, false, ap, take, rules}
use Rattle.update.specs.Pages.{Page, pages_in}
use mathlib.Core.List.{List}
use Rattle.update.specs.Frames.{relaid}
use Rattle.pool.specs.Pool.{stays}
use Rattle.pool.specs.WalkLaws.{retained_stays}
use Rattle.pool.proofs.pages.retain_others.Goals as goal

pub returns : goal.returns
returns c =
    let a = c.args in
    c.retain.ensures (stays false a.page) (λ n r says. search rules)
    ∙ ap (λ (d : List Page). relaid 16384 a.count d a.numbers.now a.frames.now) (retained_stays false a.page (pages_in 16384 (take a.count a.numbers.now) a.frames.now))
