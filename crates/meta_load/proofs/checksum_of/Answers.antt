-- `meta::checksum_of` meets its contract: the hash goes on over three parts.
use mathlib.Core.Path.{◌≡◌, refl, ap, ◌∙◌}
use mathlib.Core.List.{List, [], ◌∷◌}
use Prim.Native.Nat.{ℕ}
use native.Mathlib.Omega.{arith}
use lib.ListN.{length, take, length-take}
use Rattle.std.proofs.Math.Seq.{take-length}
use Rattle.memory.specs.Bytes.{zeros, overwrite, filled}
use Rattle.fnv.specs.Fnv.{fnv_is, fold, basis, fnv1a64}
use Rattle.meta.specs.Block.{checksum_offset, offset_is}
use Rattle.meta_load.specs.LoadLaws.{checksum_parts}
use Rattle.meta_load.proofs.checksum_of.Goals as goal

eight : 0 ∷ 0 ∷ 0 ∷ 0 ∷ 0 ∷ 0 ∷ 0 ∷ 0 ∷ [] ≡ zeros 8
unfolding filled
eight = refl

pub slice_bounds-fnv1a64-end : goal.slice_bounds-fnv1a64-end
slice_bounds-fnv1a64-end c = simp length-take (omega (arith, c.field_offset-at.ensures ∙ offset_is 17))

pub returns : goal.returns
returns c = let b = c.args.block.now in
    let one = c.fnv1a64-before.ensures ∙ fnv_is (take c.field_offset-at.result b) ∙ ap (λ (k : ℕ). fold basis (take k b)) c.field_offset-at.ensures in
    c.fold_fnv1a64.ensures ∙ rw (c.fold_fnv1a64-field.ensures, one) (checksum_parts (length b) b _ c.requires (omega arith) eight)
    ∙ ap (λ (l : List ℕ). fnv1a64 (overwrite checksum_offset (zeros 8) l)) (take-length b)
