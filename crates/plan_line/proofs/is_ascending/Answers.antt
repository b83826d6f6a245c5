-- `plan_line::is_ascending` meets its contract.
use Rattle.std.proofs.Common.{ltb, rules, tests}
use Rattle.std.proofs.lemmas.List.Sorted.{answers_always}
use Rattle.plan_line.specs.Tests.{ascending_answer}
use Rattle.plan_line.proofs.is_ascending.Goals as goal

pub returns : goal.returns
returns c = ascending_answer c.args.numbers.now _ (c.is_sorted_by.ensures.cases ltb (answers_always _ _ _ (λ f a r g k. search (rules, tests))))
