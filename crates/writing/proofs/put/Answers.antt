use mathlib.Core.Path.{sym, ap, ◌∙◌}
use mathlib.Core.Bool.{false}
use Prim.Native.Nat.{ℕ, ◌*◌}
use native.Mathlib.Omega.{arith}
use lib.ListN.{length}
use Rattle.update.specs.Update.{copy}
use Rattle.update.specs.Buffers.{frame_count}
use Rattle.update.specs.Laid.{bufs, touched}
use Rattle.writing.specs.WriteLaws.{whole_is, puts_whole, puts_pages}
use Rattle.writing.proofs.put.Goals as goal

pub write_full_page-requires : goal.write_full_page-requires
unfolding frame_count
write_full_page-requires c =
    let a = c.args in
    (c.requires.0.0, (whole_is 16384 a.offset (length a.bytes.now) (sym c.is_full_page.ensures ∙ c.if-is_full_page.true)).0)

pub returns-then-is_full_page : goal.returns-then-is_full_page
returns-then-is_full_page c =
    let a = c.args in
    let t = sym c.is_full_page.ensures ∙ c.if-is_full_page.true in
    let w = c.write_full_page.ensures a.clean.now a.«record».now a.stored.mem.now a.stored.image c.requires.0 in
    w ∙ ap (λ (p : ℕ). touched 16384 8 18446744073709551615 a.stored.image a.stored.mem.now a.o.now (bufs a.frames.now a.numbers.now a.clean.now a.«record».now) false (copy 16384 (p * 16384) a.bytes.now) p) c.page_no-page.ensures
    ∙ puts_whole 16384 8 (omega arith) _ _ c.requires.0 _ _ _ _ _ t

pub returns : goal.returns
returns c = c.write_pages.ensures ∙ puts_pages 16384 8 (omega arith) _ _ c.requires.0 _ _ _ _ _ (sym c.is_full_page.ensures ∙ c.if-is_full_page.false)
