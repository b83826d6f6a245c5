-- `imports::begin_import` meets its contract.
use Rattle.std.proofs.Common.{refl, sym, ap, ◌∙◌, ◌≡◌, arith, ℕ, ◌+◌, ◌*◌, ◌≤◌, ◌<◌, length}
use Rattle.std.proofs.lemmas.Result.{err_from_is_err_and}
use Rattle.std.proofs.lemmas.Grind.{common_steps}
use Rattle.meta.specs.declared.superblock.Superblock.{Superblock}
use Rattle.store.specs.Answers.{Done}
use Rattle.store.specs.Blocks.{after_import_begin}
use Rattle.store.specs.Calls.{import_begin}
use Rattle.transfer.specs.Steps.{restore_to}
use Rattle.transfer.specs.StoreCases.{refused_exit, admitted, admitted_lent, stored_as, answered_with, begin_open, begin_over, begin_done}
use Rattle.imports.proofs.begin_import.Goals as goal

pub returns-in_err-admit : goal.returns-in_err-admit
returns-in_err-admit c =
    let a = c.args in
    let p = err_from_is_err_and c.from_residual.result c.from_residual.ensures.1 in
    refused_exit a.s.now a.mem.now (import_begin a.total a.expected) refl (λ x. Done) c.from_residual.result _ _ p.1 p.2 (sym c.admit.ensures ∙ c.in_err-admit.was)

pub returns-then-is_importing : goal.returns-then-is_importing
returns-then-is_importing c =
    let a = c.args in
    λ b w. sym (admitted a.s.now a.mem.now (import_begin a.total a.expected) refl b w (sym c.admit.ensures ∙ c.in_ok-admit.was)
    ∙ begin_open a.s.now a.mem.now b w a.total a.expected (sym c.is_importing.ensures ∙ c.if-is_importing.true))

pub returns-then-is_none : goal.returns-then-is_none
returns-then-is_none c =
    let a = c.args in
    let lent : a.s.now.count.0 * 65536 ≤ length a.mem.now = admitted_lent a.s.now a.mem.now (sym c.admit.ensures ∙ c.in_ok-admit.was) in
    let past : 18446744073709551615 < c.capacity-base.result + a.total = grind (arith, common_steps) in
    let over : 18446744073709551615 < a.s.now.count.0 * 65536 + a.total = omega (arith, lent, c.capacity-base.ensures, past) in
    λ b w. sym (admitted a.s.now a.mem.now (import_begin a.total a.expected) refl b w (sym c.admit.ensures ∙ c.in_ok-admit.was)
    ∙ begin_over a.s.now a.mem.now b w a.total a.expected (sym c.is_importing.ensures ∙ c.if-is_importing.false) over)

pub returns : goal.returns
returns c =
    let a = c.args in
    let lent : a.s.now.count.0 * 65536 ≤ length a.mem.now = admitted_lent a.s.now a.mem.now (sym c.admit.ensures ∙ c.in_ok-admit.was) in
    let within : c.capacity-base.result + a.total ≤ 18446744073709551615 = grind (arith, common_steps) in
    let base : c.capacity-base.result ≡ a.s.now.count.0 * 65536 = omega (arith, lent, c.capacity-base.ensures, within) in
    let fits : a.s.now.count.0 * 65536 + a.total ≤ 18446744073709551615 = omega (arith, base, within) in
    let begun : c.after_import_begin-begun.result ≡ after_import_begin a.total a.expected (a.s.now.count.0 * 65536) a.s.now.block =
    c.after_import_begin-begun.ensures ∙ ap (λ (x : ℕ). after_import_begin a.total a.expected x a.s.now.block) base in
    λ b w. answered_with c.restore.new.s c.restore.new.mem Done b w _ _
    (stored_as a.s.now c.restore.new.s a.mem.now c.restore.new.mem _ Done c.restore.ensures ∙ ap (λ (k : Superblock). restore_to a.s.now a.mem.now k Done) begun)
    (admitted a.s.now a.mem.now (import_begin a.total a.expected) refl b w (sym c.admit.ensures ∙ c.in_ok-admit.was)
    ∙ begin_done a.s.now a.mem.now b w a.total a.expected (sym c.is_importing.ensures ∙ c.if-is_importing.false) fits)
