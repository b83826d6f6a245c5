-- `growth::zero_new_end` meets its contract.
use Rattle.std.proofs.Common.{◌≡◌, sym, ◌∙◌, arith, rules, tests}
use Rattle.growth.specs.GrowLaws.{finished_none, finished_same, finished_touch}
use Rattle.growth.proofs.zero_new_end.Goals as goal

pub returns-then-within-eq0 : goal.returns-then-within-eq0
returns-then-within-eq0 c = finished_none 16384 8 (omega arith) _ _ c.requires.0 _ _ _ _ _ (sym c.page_offset-within.ensures ∙ c.if-within-eq0.true)

pub returns-then-eq : goal.returns-then-eq
returns-then-eq c =
    let same : c.page_no-page.result.0 ≡ c.page_no-before.result.0 = search (rules, tests) in
    finished_same 16384 8 (omega arith) _ _ c.requires.0 _ _ _ _ _ (sym c.page_no-page.ensures ∙ same ∙ c.page_no-before.ensures)

pub returns : goal.returns
returns c =
    let other : c.page_no-page.result.0 ≡ c.page_no-before.result.0 → ⊥ = search (rules, tests) in
    c.zero_part.ensures
    ∙ finished_touch 16384 8 (omega arith) _ _ c.requires.0 _ _ _ _ _ (λ e. c.if-within-eq0.false (c.page_offset-within.ensures ∙ e)) (λ e. other (c.page_no-page.ensures ∙ e ∙ sym c.page_no-before.ensures)) _ _ c.page_no-page.ensures c.page_offset-within.ensures
