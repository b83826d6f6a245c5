-- `plan_line::are_distinct` meets its contract: each number is looked for behind its place.
use Rattle.std.proofs.Common.{◌≡◌, ap, not, ◌∙◌, ◌+◌, ◌-◌, length, take, drop, rules, tests}
use Rattle.std.specs.Prelude.{eqb}
use Rattle.std.specs.List.{list_any}
use Rattle.std.specs.Slice.Iter.{iter_rest}
use Rattle.std.proofs.lemmas.Iterator.{YieldsList-from_slice}
use Rattle.std.proofs.lemmas.Iterator.Consumers.{YieldsList-from_enumerate}
use Rattle.std.proofs.lemmas.Iterator.Search.{all_from_yields_List}
use Rattle.plan_line.specs.Tests.{is_last, distinct_answer, rest_has}
use Rattle.plan_line.proofs.are_distinct.Goals as goal

pub returns : goal.returns
returns c =
    let l = c.args.numbers.now in
    all_from_yields_List (is_last l) _ _ c.all.result c.all.ensures.ran
    (YieldsList-from_enumerate (YieldsList-from_slice l (ap iter_rest c.enumerate.ensures.source ∙ c.iter.ensures.rest)) c.enumerate.ensures.count)
    (λ x b q k.
    let looked : b ≡ not (list_any (λ y. eqb y x.1.now) (take (length l - (x.0 + 1)) (drop (x.0 + 1) l))) = search (rules, tests) in
    (search (rules, tests), looked ∙ ap not (rest_has x.1.now l (x.0 + 1))))
    ∙ distinct_answer l
