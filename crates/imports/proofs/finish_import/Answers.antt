-- `imports::finish_import` meets its contract.
use Rattle.std.proofs.Common.{refl, sym, ap, ◌∙◌, [], ℕ}
use Rattle.std.proofs.lemmas.Result.{err_from_is_err_and}
use Rattle.config.specs.declared.refusal.Refusal.TheVariants.{ChecksumMismatch}
use Rattle.meta.specs.declared.superblock.Superblock.{Superblock}
use Rattle.meta.specs.Block.{seal, store_in}
use Rattle.meta.specs.Stored.{Outcome}
use Rattle.store.specs.Answers.{Answer, Done, Refused}
use Rattle.store.specs.Calls.{import_finish}
use Rattle.store.specs.Store.{onward}
use Rattle.transfer.specs.Steps.{step_out, step, restore_to}
use Rattle.transfer.specs.StoreCases.{closed_exit, opened, admitted, stored_as, answered_with, finish_none, finish_incomplete, finish_wrong, finish_done}
use Rattle.imports.proofs.finish_import.Goals as goal

pub returns-in_err-admit : goal.returns-in_err-admit
returns-in_err-admit c =
    let a = c.args in
    let p = err_from_is_err_and c.from_residual.result c.from_residual.ensures.1 in
    closed_exit a.s.now a.mem.now import_finish refl (λ b w. finish_none a.s.now a.mem.now b w) c.from_residual.result _ _ p.1 p.2 (sym c.admit.ensures ∙ c.in_err-admit.was)

pub returns-then-block : goal.returns-then-block
returns-then-block c =
    let a = c.args in
    let o = opened a.s.now a.mem.now (sym c.admit.ensures ∙ c.in_ok-admit.was) in
    λ b w. sym (admitted a.s.now a.mem.now import_finish refl b w o.0 ∙ finish_incomplete a.s.now a.mem.now b w o.1 c.if-block.true)

pub returns-then-actual-expected : goal.returns-then-actual-expected
returns-then-actual-expected c =
    let a = c.args in
    let o = opened a.s.now a.mem.now (sym c.admit.ensures ∙ c.in_ok-admit.was) in
    let x : ℕ = c.sum_of-actual.result in
    let answer : Answer = Refused (ChecksumMismatch a.s.now.block.import_expected_checksum x) in
    λ b w. answered_with c.restore.new.s c.restore.new.mem answer b w _ _
    (stored_as a.s.now c.restore.new.s a.mem.now c.restore.new.mem _ answer c.restore.ensures ∙ ap (λ (k : Superblock). restore_to a.s.now a.mem.now k answer) c.after_import_cancel.ensures)
    (admitted a.s.now a.mem.now import_finish refl b w o.0 ∙ finish_wrong a.s.now a.mem.now b w o.1 c.if-block.false x c.sum_of-actual.ensures c.if-actual-expected.true)

pub returns : goal.returns
returns c =
    let a = c.args in
    let o = opened a.s.now a.mem.now (sym c.admit.ensures ∙ c.in_ok-admit.was) in
    let x : ℕ = c.sum_of-actual.result in
    λ b w. answered_with _ c.store-s.new.mem Done b w _ _
    (ap (λ (y : Outcome). step_out (step (onward a.s.now a.s.now.count.0 y.block) Done) y.mem) c.store-s.ensures
    ∙ ap (λ (k : Superblock). step_out (step (onward a.s.now a.s.now.count.0 (seal k [])) Done) (store_in k [] a.mem.now)) c.after_import_finish-finished.ensures)
    (admitted a.s.now a.mem.now import_finish refl b w o.0 ∙ finish_done a.s.now a.mem.now b w o.1 c.if-block.false x c.sum_of-actual.ensures c.if-actual-expected.false)
