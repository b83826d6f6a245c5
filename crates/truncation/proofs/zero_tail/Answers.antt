-- `truncation::zero_tail` meets its contract.
use mathlib.Core.Path.{sym, ◌∙◌}
use native.Mathlib.Omega.{arith}
use Rattle.growth.specs.GrowLaws.{tailed_none, tailed_touch}
use Rattle.truncation.proofs.zero_tail.Goals as goal

pub returns-then-within-eq0 : goal.returns-then-within-eq0
returns-then-within-eq0 c = tailed_none 16384 8 (omega arith) _ _ c.requires _ _ _ _ (sym c.page_offset-within.ensures ∙ c.if-within-eq0.true)

pub returns : goal.returns
returns c =
    c.zero_part.ensures
    ∙ tailed_touch 16384 8 (omega arith) _ _ c.requires _ _ _ _ (λ e. c.if-within-eq0.false (c.page_offset-within.ensures ∙ e)) _ _ c.page_no-page.ensures c.page_offset-within.ensures
