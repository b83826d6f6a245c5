-- `growth::zero_old_end` meets its contract.
use mathlib.Core.Path.{◌≡◌, sym, ◌∙◌}
use Prim.Native.Nat.{ℕ, ◌+◌, ◌-◌, ◌*◌, ◌/◌, ◌<◌, ◌≤◌, min}
use native.Mathlib.Omega.{arith}
use Rattle.std.proofs.lemmas.Result.{err_from_is_err_and}
use Rattle.std.proofs.lemmas.Grind.{common_steps}
use Rattle.config.specs.declared.refusal.Refusal.TheVariants.{OffsetOverflow}
use Rattle.growth.specs.GrowLaws.{patched_none, patched_over, patched_touch}
use Rattle.growth.proofs.zero_old_end.Goals as goal

pub returns-then-within-eq0 : goal.returns-then-within-eq0
returns-then-within-eq0 c = patched_none 16384 8 (omega arith) _ _ c.requires.0 _ _ _ _ _ (sym c.page_offset-within.ensures ∙ c.if-within-eq0.true)

pub returns-in_err-next : goal.returns-in_err-next
returns-in_err-next c =
    let z : ℕ = c.args.old in
    let q : z / 16384 ≡ c.page_no-page.result.0 = sym c.page_no-page.ensures in
    let p = err_from_is_err_and c.from_residual.result c.from_residual.ensures.1 in
    let why : c.in_err-next.field-0.0 ≡ OffsetOverflow = grind (arith, common_steps) in
    let over : 18446744073709551615 < c.page_no-page.result.0 * 16384 + 16384 = grind (arith, common_steps) in
    rw (p.1, p.2, why) (patched_over 16384 8 (omega arith) _ _ c.requires.0 _ _ _ _ _ (λ e. c.if-within-eq0.false (c.page_offset-within.ensures ∙ e)) (omega (arith, q, over)))

pub returns : goal.returns
returns c =
    let z : ℕ = c.args.old in
    let q : c.page_no-page.result.0 ≡ z / 16384 = c.page_no-page.ensures in
    let s : ℕ = c.page_no-page.result.0 * 16384 in
    let next : (c.in_ok-next.next ≡ s + 16384) × (s + 16384 ≤ 18446744073709551615) = grind (arith, common_steps) in
    let e : c.min.result - s ≡ min 16384 (c.args.new - z / 16384 * 16384) = omega (arith, q, next, c.min.ensures) in
    c.zero_part.ensures
    ∙ patched_touch 16384 8 (omega arith) _ _ c.requires.0 _ _ _ z _ c.requires.1 (λ e. c.if-within-eq0.false (c.page_offset-within.ensures ∙ e)) (omega (arith, q, next)) _ _ _ q c.page_offset-within.ensures e
