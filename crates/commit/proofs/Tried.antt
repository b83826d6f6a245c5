-- The end that memory must reach, as `try_fold` takes it from page to page.
use Rattle.std.specs.Prelude.{◌≡◌, refl, ℕ, ◌≤◌, List, [], ◌∷◌, length, Option, Some, None, MatchOption}
use Rattle.std.proofs.Common.{sym, ap, ◌∙◌, subst, arith, Bor, Iter, ControlFlow, Continue, Break}
use Rattle.std.specs.List.{FoldsTo}
use Rattle.std.specs.ControlFlow.{continue_value}
use Rattle.std.specs.Iterator.{Yields, TryFoldTurn, TryFoldsItems}
use Rattle.std.specs.Slice.Iter.{iter_rest, iter_steps}
use denote.Param.Members.{Mut, Called}
use Rattle.extents.specs.Plan.{below}
use Rattle.store.specs.Plan.{required}
use Rattle.commit.specs.Reach.{reach, reach_at, reach_over, at_reach, over_reach, below_first, required_least}

abbrev ends : ℕ → ℕ → ℕ → List ℕ → ℕ → ℕ
ends P base c ns e = required P base (below c ns) e

abbrev goes : {E : Type 0} → Option ℕ → ControlFlow E ℕ → Type 0
goes v b = v ≡ continue_value b

none_left : (P base c a : ℕ) (ns : List ℕ) → length ns ≡ 0 → ends P base c ns a ≡ a
none_left P base c a [] h = refl
none_left P base c a (n ∷ ns) h = absurd (omega arith)

-- f takes an end so far to that of one page more, and stays as it is
module _ {F : Type 0} (E : Type 0) (g : Mut F (ℕ × (Bor ℕ × Unit {0})) (Option ℕ)) (f : F) (P base c : ℕ)
    (k : (e : ℕ) (x : Bor ℕ) (r : Option ℕ) (q : F) → Called g f (e, (x, tt)) r q → (q ≡ f) × (r ≡ reach (required P base (below c (x.now ∷ [])) e))) where
  turns : (xs : List (Bor ℕ)) (s t : Iter ℕ) (p q : F × ℕ) → p.0 ≡ f → p.1 ≤ 18446744073709551615 → Yields iter_steps s xs t → FoldsTo (TryFoldTurn g (goes {E = E})) p xs q
      → (q.0 ≡ f) × (q.1 ≤ 18446744073709551615) × (ends P base c (iter_rest t) q.1 ≡ ends P base c (iter_rest s) p.1)
  turns [] s t p q a l y h = (ap (λ w. w.0) (sym h) ∙ a, subst (λ (w : F × ℕ). w.1 ≤ 18446744073709551615) h l, λ i. ends P base c (iter_rest (sym y i)) (sym h i).1)
  turns (x ∷ xs) s t p q a l y h =
      let v = k p.1 x h.1.0 h.0.0 (subst (λ w. Called g w (p.1, (x, tt)) h.1.0 h.0.0) a h.1.1) in
      let m = at_reach _ _ (sym v.1 ∙ h.1.2) in
      let n = turns xs y.0 t h.0 q v.0 (omega (arith, m.0, m.1)) y.2 h.2 in
      (n.0, n.1, n.2 ∙ sym (ap (λ ns. ends P base c ns p.1) y.1 ∙ below_first P base c x.now (iter_rest y.0) p.1 ∙ ap (ends P base c (iter_rest y.0)) m.0))

  finished : (o : Option (Bor ℕ)) (t u : Iter ℕ) (a z : ℕ) (r : Option ℕ) → iter_steps t o u → a ≤ 18446744073709551615 → ends P base c (iter_rest t) a ≡ z
      → MatchOption o (goes {E = E} r (Continue a)) (λ x. (v : Option ℕ) × (h : F) × (b : E) × Called g f (a, (x, tt)) v h × goes v (Break b) × (r ≡ None)) → r ≡ reach z
  finished None t u a z r y l e d = d ∙ sym (ap reach (sym e ∙ none_left P base c a (iter_rest t) y.0) ∙ reach_at a l)
  finished (Some x) t u a z r y l e d =
      let o = over_reach _ (sym (k a x d.0 d.1 d.3).1 ∙ d.4) in
      let n = sym e ∙ ap (λ ns. ends P base c ns a) y ∙ below_first P base c x.now (iter_rest u) a in
      d.5 ∙ sym (reach_over z (omega (arith, o, n, required_least P base (below c (iter_rest u)) (ends P base c (x.now ∷ []) a))))

  pub tried : (s u : Iter ℕ) (e : ℕ) (r : Option ℕ) → e ≤ 18446744073709551615 → TryFoldsItems iter_steps g (goes {E = E}) (λ x r. r ≡ None) s f e r u → r ≡ reach (ends P base c (iter_rest s) e)
  tried s u e r l d =
      let n = turns d.0 s d.4.0 (f, e) (d.2, d.3) refl l d.4.1 d.5 in
      finished d.1 d.4.0 u d.3 _ r d.4.2 n.1 n.2 (subst (λ (w : F). MatchOption d.1 (goes {E = E} r (Continue d.3)) (λ x. (v : Option ℕ) × (h : F) × (b : E) × Called g w (d.3, (x, tt)) v h × goes v (Break b) × (r ≡ None))) n.0 d.6)
