use mathlib.Core.Path.{◌≡◌, sym, ap, ◌∙◌, subst}
use Prim.Native.Nat.{ℕ, ◌+◌, ◌≤◌, ◌<◌}
use native.Mathlib.Omega.{arith}
use lib.ListN.{length}
use Rattle.std.specs.Prelude.{refl, false, not, Option, Some, None, Ok, Err}
use Rattle.std.specs.Option.{SomeIff, is_some}
use Rattle.std.proofs.lemmas.Grind.{common_steps}
use Rattle.config.specs.declared.refusal.Refusal.TheVariants.{OffsetOverflow}
use Rattle.update.specs.declared.Overlay.{Overlay}
use Rattle.update.specs.Laid.{laid, bufs, Fits, settle, wrote}
use Rattle.update.specs.ListLaws.{clash}
use Rattle.update.specs.LeaveLaws.{told}
use Rattle.update.specs.SettleLaws.{settle_fits}
use Rattle.overlay_reads.specs.ReadLaws.{settle_size}
use Rattle.truncation.specs.CutLaws.{is_refused, is_accepted}
use Rattle.overlay.specs.CallLaws.{write_short, write_empty, write_over, write_done, write_refused}
use Rattle.overlay.proofs.changing.write_at.Goals as goal
use Rattle.overlay.proofs.changing.write_at.Goals.{After-write-written}

pub returns-then-are_short : goal.returns-then-are_short
returns-then-are_short c = write_short 16384 8 (omega arith) _ _ _ _ _ _ _ (sym c.are_short.ensures ∙ c.if-are_short.true)

pub returns-then-is_empty : goal.returns-then-is_empty
returns-then-is_empty c =
    let a = c.args in
    ap (λ (x : Overlay). laid x (bufs a.frames.now a.numbers.now a.clean.now a.«record».now) (Ok tt)) c.settle.ensures
    ∙ write_empty 16384 8 (omega arith) _ _ _ _ _ _ _ (sym c.are_short.ensures ∙ c.if-are_short.false) (grind (arith, common_steps))

-- a sum that is refused does not fit
no_sum : (r : Option ℕ) (n : ℕ) → SomeIff r (n < 18446744073709551616) n → is_some r ≡ false → 18446744073709551615 < n
no_sum None n h e = omega (arith, h)
no_sum (Some x) n h e = clash refl e

pub returns-then-is_none : goal.returns-then-is_none
returns-then-is_none c =
    let a = c.args in
    let some : 0 < length a.bytes.now = grind (arith, common_steps) in
    let over : 18446744073709551615 < a.offset + length a.bytes.now = no_sum _ _ c.checked_add.ensures (c.is_none.ensures ∙ ap not c.if-is_none.true) in
    ap (λ (x : Overlay). laid x (bufs a.frames.now a.numbers.now a.clean.now a.«record».now) (Err OffsetOverflow)) c.settle.ensures
    ∙ write_over 16384 8 (omega arith) _ _ _ _ _ _ _ (sym c.are_short.ensures ∙ c.if-are_short.false) (λ e. omega (arith, some, e)) over

pub write-written-requires : goal.write-written-requires
write-written-requires c =
    let a = c.args in
    let l = bufs a.frames.now a.numbers.now a.clean.now a.«record».now in
    (subst (λ (x : Overlay). Fits 16384 8 x l) (sym c.settle.ensures) (settle_fits 16384 8 a.o.now l (sym c.are_short.ensures ∙ c.if-are_short.false)), grind (arith, common_steps))

some : (c : After-write-written) → 0 < length c.args.bytes.now
some c = grind (arith, common_steps)

below : (c : After-write-written) → c.args.offset + length c.args.bytes.now ≤ 18446744073709551615
below c = grind (arith, common_steps)

-- what the write of the settled overlay gave
written : (c : After-write-written) → let a = c.args in let w = c.write-written in
    laid w.new.o (bufs w.new.frames w.new.numbers w.new.clean w.new.«record») w.result
    ≡ wrote 16384 8 18446744073709551615 a.stored.image a.stored.mem.now (settle 16384 8 a.o.now) (bufs a.frames.now a.numbers.now a.clean.now a.«record».now) a.offset a.bytes.now
written c =
    let a = c.args in
    c.write-written.ensures ∙ ap (λ (x : Overlay). wrote 16384 8 18446744073709551615 a.stored.image a.stored.mem.now x (bufs a.frames.now a.numbers.now a.clean.now a.«record».now) a.offset a.bytes.now) c.settle.ensures

pub returns-then-is_err : goal.returns-then-is_err
returns-then-is_err c =
    let x = (goal.at.returns-then-is_err c).After-write-written in
    let r = is_refused c.write-written.result (sym c.is_err.ensures.value ∙ c.if-is_err.true) in
    let same : c.settle.new.o.size ≡ c.args.o.now.size = ap (λ (v : Overlay). v.size) c.settle.ensures ∙ settle_size 16384 8 c.args.o.now in
    rw (r.1, same) (write_refused 16384 8 (omega arith) _ _ _ _ _ _ _ (sym c.are_short.ensures ∙ c.if-are_short.false) (λ e. omega (arith, some x, e)) (below x) _ _ _ (told (written x) r.1))

pub returns-else-is_err : goal.returns-else-is_err
returns-else-is_err c =
    let x = (goal.at.returns-else-is_err c).After-write-written in
    let r = is_accepted c.write-written.result (sym c.is_err.ensures.value ∙ c.if-is_err.false) in
    rw r (write_done 16384 8 (omega arith) _ _ _ _ _ _ _ (sym c.are_short.ensures ∙ c.if-are_short.false) (λ e. omega (arith, some x, e)) (below x) _ _ (told (written x) r))
