-- `imports::import_chunk` meets its contract.
use Rattle.std.proofs.Common.{refl, ◌≡◌, sym, ◌∙◌, arith, ◌+◌, ◌≤◌, ◌<◌, length}
use Rattle.std.proofs.lemmas.Result.{err_from_is_err_and}
use Rattle.std.proofs.lemmas.Grind.{common_steps}
use Rattle.config.specs.declared.refusal.Refusal.TheVariants.{OffsetOverflow}
use Rattle.store.specs.Answers.{done}
use Rattle.store.specs.Calls.{import_chunk}
use Rattle.transfer.specs.StoreCases.{closed_exit, opened, admitted, answered_with, chunk_none, chunk_order, chunk_over, chunk_bounds, chunk_past, chunk_placed}
use Rattle.imports.proofs.import_chunk.Goals as goal
use Rattle.imports.proofs.import_chunk.Goals.{In_ok-end}

pub returns-in_err-admit : goal.returns-in_err-admit
returns-in_err-admit c =
    let a = c.args in
    let p = err_from_is_err_and c.from_residual.result c.from_residual.ensures.1 in
    closed_exit a.s.now a.mem.now (import_chunk a.offset a.bytes.now) refl (λ b w. chunk_none a.s.now a.mem.now b w a.offset a.bytes.now) c.from_residual.result _ _ p.1 p.2
    (sym c.admit.ensures ∙ c.in_err-admit.was)

pub returns-then-offset-block : goal.returns-then-offset-block
returns-then-offset-block c =
    let a = c.args in
    let o = opened a.s.now a.mem.now (sym c.admit.ensures ∙ c.in_ok-admit.was) in
    λ b w. sym (admitted a.s.now a.mem.now (import_chunk a.offset a.bytes.now) refl b w o.0 ∙ chunk_order a.s.now a.mem.now b w a.offset a.bytes.now o.1 c.if-offset-block.true)

pub returns-in_err-end : goal.returns-in_err-end
returns-in_err-end c =
    let a = c.args in
    let o = opened a.s.now a.mem.now (sym c.admit.ensures ∙ c.in_ok-admit.was) in
    let p = err_from_is_err_and c.from_residual-in_err-end.result c.from_residual-in_err-end.ensures.1 in
    let why : c.in_err-end.field-0.0 ≡ OffsetOverflow = grind (arith, common_steps) in
    let over : 18446744073709551615 < a.offset + length a.bytes.now = grind (arith, common_steps) in
    rw (p.1, p.2, why) (λ b w. sym (admitted a.s.now a.mem.now (import_chunk a.offset a.bytes.now) refl b w o.0
    ∙ chunk_over a.s.now a.mem.now b w a.offset a.bytes.now o.1 c.if-offset-block.false over))

-- the end of the chunk, once it is known to be a number
the_end : (c : In_ok-end) → (c.in_ok-end.end ≡ c.args.offset + length c.args.bytes.now) × (c.args.offset + length c.args.bytes.now ≤ 18446744073709551615)
the_end c = grind (arith, common_steps)

pub returns-then-block-end : goal.returns-then-block-end
returns-then-block-end c =
    let a = c.args in
    let o = opened a.s.now a.mem.now (sym c.admit.ensures ∙ c.in_ok-admit.was) in
    let e = the_end (goal.at.returns-then-block-end c).In_ok-end in
    λ b w. sym (admitted a.s.now a.mem.now (import_chunk a.offset a.bytes.now) refl b w o.0
    ∙ chunk_bounds a.s.now a.mem.now b w a.offset a.bytes.now o.1 c.if-offset-block.false e.1 (omega (arith, e, c.if-block-end.true)))

pub returns-then-is_none : goal.returns-then-is_none
returns-then-is_none c =
    let a = c.args in
    let o = opened a.s.now a.mem.now (sym c.admit.ensures ∙ c.in_ok-admit.was) in
    let e = the_end (goal.at.returns-then-is_none c).In_ok-end in
    let past : 18446744073709551615 < a.s.now.block.import_base_offset + c.in_ok-end.end = grind (arith, common_steps) in
    λ b w. sym (admitted a.s.now a.mem.now (import_chunk a.offset a.bytes.now) refl b w o.0
    ∙ chunk_past a.s.now a.mem.now b w a.offset a.bytes.now o.1 c.if-offset-block.false e.1 (omega (arith, e, c.if-block-end.false)) (omega (arith, e, past)))

pub returns : goal.returns
returns c =
    let a = c.args in
    let o = opened a.s.now a.mem.now (sym c.admit.ensures ∙ c.in_ok-admit.was) in
    let e = the_end (goal.at.returns c).In_ok-end in
    let whole : a.s.now.block.import_base_offset + c.in_ok-end.end ≤ 18446744073709551615 = grind (arith, common_steps) in
    λ b w. answered_with c.place_chunk.new.s c.place_chunk.new.mem (done c.place_chunk.result) b w _ _ c.place_chunk.ensures
    (admitted a.s.now a.mem.now (import_chunk a.offset a.bytes.now) refl b w o.0
    ∙ chunk_placed a.s.now a.mem.now b w a.offset a.bytes.now o.1 c.if-offset-block.false e.1 (omega (arith, e, c.if-block-end.false)) (omega (arith, e, whole)))
