-- `decimal::skip` meets its contract. The loop's invariant: what is left of the word, read from here on, is the word read from `at` on;
-- and behind the first byte, here is at most one past the text's end.
use Rattle.std.proofs.Common.{◌≡◌, ℕ, ◌+◌, sym, ap, ◌∙◌, length, drop, arith}
use Rattle.decimal.specs.Text.{got, from, skip}
use Rattle.decimal.specs.Read.{is_at_within, skip_step, skip_stop, skip_done}
use Rattle.decimal.proofs.read.skip.Goals as goal

pub returns-then-not-is_at : goal.returns-then-not-is_at
returns-then-not-is_at c =
    let a = c.args in
    let l = c.loop-i in
    sym (skip_stop a.text.now (a.at + l.i) a.word.now l.i c.loop-i-test.true (sym c.if-not-is_at.ensures)) ∙ l.invariant.0

pub loop-i-preserved : goal.loop-i-preserved
loop-i-preserved c =
    let a = c.args in
    let l = c.loop-i in
    let e = sym c.if-not-is_at.ensures in
    let n : a.at + (l.i + 1) ≡ a.at + l.i + 1 = omega arith in (
      ap (λ (k : ℕ). skip (drop (l.i + 1) a.word.now) (from a.text.now k)) n
          ∙ skip_step a.text.now (a.at + l.i) a.word.now l.i c.loop-i-test.true e ∙ l.invariant.0,
      λ _. omega (arith, is_at_within _ a.text.now (a.at + l.i) e),
    )

pub returns : goal.returns
returns c =
    let a = c.args in
    let l = c.loop-i in
    let e : a.at + length a.word.now ≡ a.at + l.i = omega arith in
    ap (λ (k : ℕ). got tt (from a.text.now k)) e ∙ sym (skip_done a.text.now (a.at + l.i) a.word.now l.i (omega arith)) ∙ l.invariant.0
