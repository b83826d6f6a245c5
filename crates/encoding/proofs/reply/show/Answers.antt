-- `show` meets its contract.
use mathlib.Core.Path.{sym, ap, ◌∙◌}
use mathlib.Core.List.{List}
use Prim.Native.Nat.{ℕ}
use borrow.Author.Tests.{eqb-true, eqb-false}
use Rattle.store.specs.Answers.{answered}
use Rattle.store.specs.Calls.{number}
use Rattle.encoding.specs.Called.{showing, step_refused, step_stored, told_number}
use Rattle.encoding.proofs.reply.show.Goals as goal
use Rattle.encoding.proofs.reply.show.Goals.{then-not-is_short, else-not-is_short}

pub returns : goal.returns
returns g c =
    let s = c.args.s.now in
    let a = answered g.T.Values.answer c.args.given in
    let t = c.tell in
    let told = told_number c.args.state.now c.args.answer.now _ a t.result t.ensures s in
    elim c.if-not-is_short.branch [
      | then-not-is_short w ↦
          let other = eqb-false (number a) 35 (sym c.is_short.ensures ∙ w.if-not-is_short.true) in
          ap (λ (x : List ℕ). showing t.result x t.new.answer) w.state-is
          ∙ step_stored c.args.state.now c.args.answer.now _ a t.result t.ensures s _ (λ q. other (sym told ∙ q)) w.encode.ensures
      | else-not-is_short w ↦
          let short = eqb-true (number a) 35 (sym c.is_short.ensures ∙ w.if-not-is_short.false) in
          ap (λ (x : List ℕ). showing t.result x t.new.answer) w.state-is
          ∙ step_refused c.args.state.now c.args.answer.now _ a t.result t.ensures s (told ∙ short)
    ]
