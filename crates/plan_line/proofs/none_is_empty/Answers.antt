-- `plan_line::none_is_empty` meets its contract.
use Rattle.std.proofs.Common.{◌<◌, ◌≤◌, ℕ, List, get_or, ◌∙◌, rules, tests}
use Rattle.std.proofs.lemmas.Iterator.{cases_from_all, YieldsList-from_slice}
use Rattle.plan_line.specs.Tests.{non_empty-answer}
use Rattle.plan_line.proofs.none_is_empty.Goals as goal

pub returns : goal.returns
returns c =
    non_empty-answer c.args.numbers.now _
    (cases_from_all _ _ _ (λ (x : List ℕ). get_or x 0 0 < get_or x 1 0) (λ (x : List ℕ). get_or x 1 0 ≤ get_or x 0 0) c.all.ensures.ran
    (YieldsList-from_slice _ (c.iter.ensures.rest ∙ c.as_chunks.ensures.front)) (λ x q k. search (rules, tests)) (λ x q k. search (rules, tests)))
