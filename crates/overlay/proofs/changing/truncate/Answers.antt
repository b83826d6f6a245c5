use mathlib.Core.Path.{sym, ap, ◌∙◌, subst}
use native.Mathlib.Omega.{arith}
use Rattle.update.specs.declared.Overlay.{Overlay}
use Rattle.update.specs.Laid.{bufs, Fits, resized}
use Rattle.update.specs.SettleLaws.{settle_fits}
use Rattle.overlay.specs.CallLaws.{truncate_short, truncate_long}
use Rattle.overlay.proofs.changing.truncate.Goals as goal

pub returns-then-are_short : goal.returns-then-are_short
returns-then-are_short c = truncate_short 16384 8 (omega arith) _ _ _ _ _ _ (sym c.are_short.ensures ∙ c.if-are_short.true)

pub resize-requires : goal.resize-requires
resize-requires c =
    let a = c.args in
    let l = bufs a.frames.now a.numbers.now a.clean.now a.«record».now in
    subst (λ (x : Overlay). Fits 16384 8 x l) (sym c.settle.ensures) (settle_fits 16384 8 a.o.now l (sym c.are_short.ensures ∙ c.if-are_short.false))

pub returns : goal.returns
returns c =
    let a = c.args in
    c.resize.ensures ∙ ap (λ (x : Overlay). resized 16384 8 18446744073709551615 a.stored.image a.stored.mem.now x (bufs a.frames.now a.numbers.now a.clean.now a.«record».now) a.size) c.settle.ensures
    ∙ truncate_long 16384 8 (omega arith) _ _ _ _ _ _ (sym c.are_short.ensures ∙ c.if-are_short.false)
