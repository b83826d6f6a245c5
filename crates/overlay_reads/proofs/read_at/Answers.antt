-- `overlay_reads::read_at` meets its contract.
use mathlib.Core.Path.{◌≡◌, sym, ap, ◌∙◌, subst}
use Prim.Native.Nat.{ℕ, ◌-◌, min}
use native.Mathlib.Omega.{arith}
use mathlib.Core.List.{List, ◌++◌}
use lib.ListN.{length}
use Rattle.std.specs.Prelude.{Ok, eqb}
use Rattle.memory.specs.Bytes.{zeros}
use Rattle.memory.specs.Laws.{length-zeros}
use Rattle.update.specs.declared.Overlay.{Overlay}
use Rattle.update.specs.Laid.{bufs, Fits}
use Rattle.update.specs.SettleLaws.{settle_fits}
use Rattle.overlay_reads.specs.Reads.{seen}
use Rattle.overlay_reads.specs.ReadLaws.{settle_size, at_short, at_split}
use Rattle.overlay_reads.proofs.read_at.Goals as goal
use Rattle.overlay_reads.proofs.read_at.Goals.{After-settle}

pub returns-then-are_short : goal.returns-then-are_short
returns-then-are_short c = at_short 16384 8 (omega arith) (omega arith) _ _ _ _ _ _ c.are_short.result c.are_short.ensures c.if-are_short.true

same_size : (c : After-settle) → c.settle.new.o.size ≡ c.args.o.now.size
same_size c = ap (λ (v : Overlay). v.size) c.settle.ensures ∙ settle_size 16384 8 c.args.o.now

pub read_range-requires : goal.read_range-requires
read_range-requires c =
    let a = c.args in
    let l = bufs a.frames.bytes.now a.frames.numbers.now a.clean.now a.«record».now in (
      subst (λ (v : Overlay). Fits 16384 8 v l) (sym c.settle.ensures) (settle_fits 16384 8 a.o.now l (sym c.are_short.ensures ∙ c.if-are_short.false)),
      omega (arith, c.split_at_mut-below.ensures.front_len, c.below_size-n.ensures),
      omega (arith, c.split_at_mut-below.ensures.front_len, c.below_size-n.ensures, c.ranges),
    )

pub returns : goal.returns
returns c =
    let a = c.args in
    let r = c.read_range.new in
    let part = c.split_at_mut-below in
    let n : ℕ = length part.result.0.now in
    let most : n ≡ min (a.o.now.size - a.offset) (length a.dst.now) =
    omega (arith, part.ensures.front_len, c.below_size-n.ensures, same_size (goal.at.returns c).After-settle) in
    let past : length part.result.1.now ≡ length a.dst.now - n = omega (arith, part.ensures.front_len, part.ensures.back_len) in
    let filled_count : length c.fill.new.dst ≡ length a.dst.now - n = ap length c.fill.ensures ∙ length-zeros (length part.result.1.now) ∙ past in
    ap (λ (y : List ℕ). seen r.o (bufs a.frames.bytes.now a.frames.numbers.now r.clean a.«record».now) (r.dst ++ y) (Ok c.is_empty.result)) (c.fill.ensures ∙ ap zeros past)
    ∙ at_split 16384 8 (omega arith) (omega arith) _ _ _ _ a.offset a.dst.now (sym c.are_short.ensures ∙ c.if-are_short.false) _ _ _ _ n _ c.settle.ensures most
    (c.is_empty.ensures ∙ ap (λ (x : ℕ). eqb x 0) filled_count) c.read_range.ensures
