-- `decimal::is_at` meets its contract: a byte of the text, the line feed behind its end, or nothing.
use Rattle.std.proofs.Common.{sym, ap, ◌∙◌, nat_eq, ℕ, arith}
use borrow.Author.Tests.{ne_eqb}
use Rattle.decimal.specs.Read.{is_at_in, is_at_end, is_at_past}
use Rattle.decimal.proofs.read.is_at.Goals as goal

pub returns-in-Some : goal.returns-in-Some
returns-in-Some c =
    let found = c.in-Some.ensures.lookup.3 in
    sym (is_at_in c.args.byte _ _ found.0 ∙ ap (λ (x : ℕ). nat_eq x c.args.byte) (sym (found.1 0)))

pub returns-then-at-text : goal.returns-then-at-text
returns-then-at-text c = sym (is_at_end _ _ _ c.if-at-text.true)

pub returns-else-at-text : goal.returns-else-at-text
returns-else-at-text c =
    let past = c.in-None.ensures.lookup.3 in
    ne_eqb _ _ c.if-at-text.false ∙ sym (is_at_past c.args.byte c.args.text.now c.args.at (omega arith))
