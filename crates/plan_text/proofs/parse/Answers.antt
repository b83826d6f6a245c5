-- `plan_text::parse` meets its contract: the two sizes, then the lists.
use Rattle.std.proofs.Common.{sym, ◌∙◌}
use Rattle.plan_text.specs.Whole.{text_long, no_old, no_new, sizes_read}
use Rattle.plan_text.proofs.parse.Goals as goal

pub returns-then-text-gt-MOST_BYTES : goal.returns-then-text-gt-MOST_BYTES
returns-then-text-gt-MOST_BYTES c = text_long _ _ _ _ c.if-text-gt-MOST_BYTES.true

pub returns-in_err-old : goal.returns-in_err-old
returns-in_err-old c =
    let a = c.args in
    rw c.from_residual.ensures (no_old a.text.now a.extents.now a.recorded.now a.dirty.now c.if-text-gt-MOST_BYTES.false (sym c.in_err-old.ensures))

pub returns-in_err-new : goal.returns-in_err-new
returns-in_err-new c =
    let a = c.args in
    rw c.from_residual-in_err-new.ensures
    (no_new a.text.now a.extents.now a.recorded.now a.dirty.now c.if-text-gt-MOST_BYTES.false _ _ (sym c.in_ok-old.ensures) (sym c.in_err-new.ensures))

pub returns : goal.returns
returns c =
    let a = c.args in
    c.parse_lists.ensures
    ∙ sizes_read a.text.now a.extents.now a.recorded.now a.dirty.now c.if-text-gt-MOST_BYTES.false _ _ (sym c.in_ok-old.ensures) _ _ (sym c.in_ok-new.ensures)
