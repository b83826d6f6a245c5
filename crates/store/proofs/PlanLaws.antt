-- It is 01's plan
use Rattle.std.specs.Prelude.{◌≡◌, ℕ, ◌+◌, true, List, [], ◌∷◌, length, ltb, leb}
use Rattle.std.proofs.Math.Path.{refl}
use Rattle.std.proofs.Common.{sym, ap, ◌∙◌, subst}
use Rattle.config.specs.Pages.{count}
use Rattle.meta.specs.declared.ZeroExtent.{ZeroExtent}
use Rattle.meta.specs.Runs.{normalized}
use Rattle.runs.specs.Sets.{maximal, without, add, remove}
use Rattle.runs.specs.SetLaws.{split, maximal_self, maximal_normalized, maximal_without}
use Rattle.extents.specs.Plan.{Answer, too_many, kept, pick, below, additions, add_one, add_each, remove_each, remain, plan}
use Rattle.extents.specs.Steps.{norm}
use Rattle.extents.specs.PlanLaws.{each_norm, remove_norm, plan_parts, plan_image}
use Rattle.store.specs.Plan.{step_add, step_adds, step_remain, step_removes, store_plan}

-- the runs are normalized
abbrev Tidy : Answer → Type 0
Tidy too_many = Unit {0}
Tidy (kept l) = normalized l ≡ true

tidy_norm : (a : Answer) → Tidy (norm a)
tidy_norm too_many = tt
tidy_norm (kept l) = maximal_normalized l

module _ (limit : ℕ) where
  step_norm : (x : ZeroExtent) (a : Answer) → Tidy a → step_add limit x a ≡ norm (add_one limit x a)
  unfolding add_one
  step_norm x too_many t = refl
  step_norm x (kept l) t =
      let e : maximal l ≡ l = maximal_self l t in
      split (ltb x.start x.end)
      (λ u. rw (u, e) (split (leb (length (add x l)) limit) (λ v. rw (v, e)) (λ v. rw v)))
      (λ u. rw (u, e))

  adds_norm : (xs : List ZeroExtent) (a : Answer) → Tidy a → step_adds limit xs a ≡ norm (add_each limit xs a)
  adds_norm [] too_many t = refl
  adds_norm [] (kept l) t = ap kept (sym (maximal_self l t))
  adds_norm (x ∷ xs) a t =
      let e : step_add limit x a ≡ norm (add_one limit x a) = step_norm x a t in
      ap (step_adds limit xs) e
      ∙ adds_norm xs (norm (add_one limit x a)) (tidy_norm (add_one limit x a))
      ∙ sym (each_norm limit xs (add_one limit x a))

  adds_tidy : (xs : List ZeroExtent) (a : Answer) → Tidy a → Tidy (step_adds limit xs a)
  adds_tidy xs a t = subst Tidy (sym (adds_norm xs a t)) (tidy_norm (add_each limit xs a))

removes_norm : (ps : List ℕ) (l : List ZeroExtent) → normalized l ≡ true → step_removes ps l ≡ maximal (remove_each ps l)
removes_norm [] l t = sym (maximal_self l t)
removes_norm (p ∷ ps) l t =
    let e : maximal (without p l) ≡ remove p l = maximal_without p l t in
    let n : normalized (remove p l) ≡ true = subst (λ (k : List ZeroExtent). normalized k ≡ true) e (maximal_normalized (without p l)) in
    removes_norm ps (remove p l) n
    ∙ ap (λ (k : List ZeroExtent). maximal (remove_each ps k)) (sym e)
    ∙ remove_norm ps (without p l)

remain_step : (top : ℕ) (ps : List ℕ) (a : Answer) → Tidy a → step_remain top ps a ≡ remain top ps a
unfolding remain
remain_step top ps too_many t = refl
remain_step top ps (kept l) t = ap (λ (k : List ZeroExtent). pick (leb (length k) top) (kept k) too_many) (removes_norm ps l t)

-- the store's plan is the plan on the set of zero pages
pub store_plan_lem : (P top old new : ℕ) (image recorded : List ZeroExtent) (dirty : List ℕ)
    → store_plan P top old new image recorded dirty ≡ plan P top old new image recorded dirty
unfolding store_plan
store_plan_lem P top old new image recorded dirty =
    let t : normalized (maximal image) ≡ true = maximal_normalized image in
    let ps : List ℕ = below (count P new) dirty in
    let most : ℕ = top + length ps in
    let a : Answer = step_adds most (additions P old new []) (kept (maximal image)) in
    let b : Answer = step_adds most recorded a in
    let ta : Tidy a = adds_tidy most (additions P old new []) (kept (maximal image)) t in
    remain_step top ps b (adds_tidy most recorded a ta)
    ∙ plan_parts P top old new (maximal image) recorded dirty a b (adds_norm most (additions P old new []) (kept (maximal image)) t) (adds_norm most recorded a ta)
    ∙ plan_image P top old new image recorded dirty
