-- `memory::fill` meets its contract: each element is what the closure gives, the value.
use Rattle.std.proofs.Common.{◌≡◌, refl, ap, ◌∙◌, ℕ, List, [], ◌∷◌, length, replicate, rules, subst}
use Rattle.std.specs.List.{FoldsTo}
use Rattle.memory.specs.Bytes.{filled}
use Rattle.memory.proofs.part.fill.Goals as goal

-- what gives one value again and again, and stays as it is
all_same : {F X : Type 0} (R : F → X → F → Type 0) (v : X) (f : F) → ((x : X) (q : F) → R f x q → (x ≡ v) × (q ≡ f))
    → (xs : List X) (q : F) → FoldsTo R f xs q → xs ≡ replicate (length xs) v
all_same R v f h [] q k = refl
all_same {F} R v f h (x ∷ xs) q (j, r, k) =
    let e : x ≡ v = (h x j r).0 in
    let d : j ≡ f = (h x j r).1 in
    let k2 : FoldsTo R f xs q = subst (λ (p : F). FoldsTo R p xs q) d k in
    λ i. e i ∷ all_same R v f h xs q k2 i

pub returns : goal.returns
unfolding filled
returns g c =
    all_same _ c.args.value _ (λ x q r. search rules) c.fill_with.new.self _ c.fill_with.ensures.ran.1
    ∙ ap (λ (n : ℕ). replicate n c.args.value) c.fill_with.ensures.len
