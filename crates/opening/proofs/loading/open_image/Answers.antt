use Rattle.std.proofs.Common.{◌≡◌, sym, ap, ◌∙◌, ◌*◌, ◌≤◌, arith, ℕ, length}
use Rattle.std.proofs.lemmas.Result.{err_from_is_err_and}
use borrow.Author.Tests.{leb-true, leb-false}
use Rattle.store.specs.declared.State.{State}
use Rattle.store.specs.Answers.{Done}
use Rattle.opening.specs.Opened.{opened, opened_as}
use Rattle.opening.specs.OpeningCases.{open_short, open_fresh_lem, open_refused, open_outside, open_done}
use Rattle.opening.proofs.loading.open_image.Goals as goal

pub returns-then-not-is_lent : goal.returns-then-not-is_lent
returns-then-not-is_lent c =
    let a = c.args in
    sym (open_short a.count.0 a.mem.now (leb-false _ _ (sym c.is_lent.ensures ∙ c.if-not-is_lent.true)))

pub returns-then-count-eq0 : goal.returns-then-count-eq0
returns-then-count-eq0 c =
    let a = c.args in
    let held : a.count.0 * 65536 ≤ length a.mem.now = leb-true _ _ (sym c.is_lent.ensures ∙ c.if-not-is_lent.false) in
    ap (λ (n : ℕ). opened_as n c.open_fresh.result c.open_fresh.new.mem) c.if-count-eq0.true ∙ c.open_fresh.ensures ∙ sym (open_fresh_lem a.count.0 a.mem.now held c.if-count-eq0.true)

pub returns-in_err-block : goal.returns-in_err-block
returns-in_err-block c =
    let a = c.args in
    let held : a.count.0 * 65536 ≤ length a.mem.now = leb-true _ _ (sym c.is_lent.ensures ∙ c.if-not-is_lent.false) in
    let p = err_from_is_err_and c.from_residual.result c.from_residual.ensures.1 in
    rw (p.1, p.2) (sym (open_refused a.count.0 a.mem.now held c.if-count-eq0.false _ (sym c.in_err-block.was ∙ c.load.ensures)))

pub returns-then-is_outside : goal.returns-then-is_outside
returns-then-is_outside c =
    let a = c.args in
    let held : a.count.0 * 65536 ≤ length a.mem.now = leb-true _ _ (sym c.is_lent.ensures ∙ c.if-not-is_lent.false) in
    let end : c.capacity.result ≡ a.count.0 * 65536 = omega (arith, held, c.capacity.ensures, c.well_formed.0.0) in
    sym (open_outside a.count.0 a.mem.now held c.if-count-eq0.false _ (sym c.in_ok-block.was ∙ c.load.ensures) c.capacity.result end (sym c.is_outside.ensures ∙ c.if-is_outside.true))

pub returns : goal.returns
returns c =
    let a = c.args in
    let held : a.count.0 * 65536 ≤ length a.mem.now = leb-true _ _ (sym c.is_lent.ensures ∙ c.if-not-is_lent.false) in
    let end : c.capacity.result ≡ a.count.0 * 65536 = omega (arith, held, c.capacity.ensures, c.well_formed.0.0) in
    ap (λ (x : State). opened x Done a.mem.now) c.ended.ensures
    ∙ sym (open_done a.count.0 a.mem.now held c.if-count-eq0.false _ (sym c.in_ok-block.was ∙ c.load.ensures) c.capacity.result end (sym c.is_outside.ensures ∙ c.if-is_outside.false))
