-- `tell` meets its contract.
use mathlib.Core.Path.{sym, ◌∙◌}
use mathlib.Core.List.{[]}
use borrow.Author.Tests.{eqb-true, eqb-false}
use Rattle.store.specs.Answers.{answered}
use Rattle.store.specs.Calls.{number}
use Rattle.encoding.specs.Called.{answer_refused, answer_stored, is_number}
use Rattle.encoding.proofs.reply.tell.Goals as goal

pub returns-then-not-short : goal.returns-then-not-short
returns-then-not-short g c =
    let a = answered g.T.Values.answer c.args.given in
    let r = c.from-reply in
    let is = is_number [] c.args.answer.now a r.result r.ensures in
    let other = eqb-false (number a) 35 (sym c.is_short-short.ensures ∙ c.if-not-short.true) in
    λ st. answer_stored st c.args.answer.now a r.result r.ensures _ (λ q. other (sym is ∙ q)) c.write.ensures

pub returns-else-not-short : goal.returns-else-not-short
returns-else-not-short g c =
    let a = answered g.T.Values.answer c.args.given in
    let r = c.from-reply in
    let is = is_number [] c.args.answer.now a r.result r.ensures in
    let short = eqb-true (number a) 35 (sym c.is_short-short.ensures ∙ c.if-not-short.false) in
    λ st. answer_refused st c.args.answer.now a r.result r.ensures (is ∙ short)
