-- `image::fold_zeros` meets its contract: zeros, or for a page of them what they multiply by.
use mathlib.Core.Path.{◌≡◌, sym, ap, ◌∙◌}
use Prim.Native.Nat.{ℕ}
use lib.ListN.{length}
use Rattle.fnv.specs.Zeros.{fold_zeros}
use Rattle.image.specs.ImageReads.{fold_zeros_lem}
use Rattle.image.proofs.fold_zeros.Goals as goal

pub returns-then-page-eq-PAGE_LEN : goal.returns-then-page-eq-PAGE_LEN
returns-then-page-eq-PAGE_LEN c =
    let a = c.args in
    let n : length a.page.now ≡ 16384 = c.if-page-eq-PAGE_LEN.true in
    c.fold_zero_page.ensures ∙ ap (λ (k : ℕ). fold_zeros k a.hash) (sym n) ∙ fold_zeros_lem (length a.page.now) a.hash
