-- `fnv::fold_fnv1a64` meets its contract: the fold takes each chunk, and then the bytes that are left.
use Rattle.std.proofs.Common.{◌≡◌, ℕ, ◌*◌, ◌/◌, ◌∙◌, length, take, drop, ap, rules, take-append-drop}
use Rattle.std.proofs.lemmas.Iterator.{YieldsList-from_slice}
use Rattle.std.proofs.lemmas.Iterator.Consumers.{fold_from_yields_List}
use Rattle.std.specs.List.{fold as folded}
use Rattle.fnv.specs.Fnv.{fold, fold_join}
use Rattle.fnv.specs.Parts.{chunks_folded}
use Rattle.fnv.proofs.fold_fnv1a64.Goals as goal

pub returns : goal.returns
returns c =
    let l = c.args.bytes.now in
    let h = c.args.hash in
    let n : ℕ = length l / 8 * 8 in
    let front : c.fold-sum.result ≡ fold h (take n l) =
    fold_from_yields_List _ fold h c.fold-sum.result c.fold-sum.ensures.ran (YieldsList-from_slice _ c.iter.ensures.rest) (λ a x b q k. search rules)
    ∙ ap (folded fold h) c.as_chunks.ensures.front ∙ chunks_folded 8 (length l / 8) h l in
    c.fold_each.ensures ∙ (λ i. fold (front i) (c.as_chunks.ensures.back i)) ∙ fold_join h (take n l) (drop n l)
    ∙ ap (fold h) (take-append-drop n l)
