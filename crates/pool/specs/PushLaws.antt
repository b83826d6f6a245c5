-- What a push answered says of the record.
use Rattle.std.specs.Prelude.{◌≡◌, ℕ, ◌*◌, ◌/◌, ◌+◌, true, ◌&&◌, List, [], ◌∷◌, ltb, leb, length, Ok, Err}
use Rattle.std.proofs.Common.{sym, ap, ◌∙◌, subst, ltb-true, ltb-false, leb-true, leb-false}
use Rattle.memory.specs.Bytes.{overwrite}
use Rattle.memory.specs.Laws.{split}
use Rattle.update.specs.PushLaws.{Free, pushed_count, pushed_recs}
use Rattle.config.specs.declared.refusal.Refusal.{Refusal}
use Rattle.config.specs.declared.refusal.Refusal.TheVariants.{RecordFull}
use Rattle.pool.specs.Pool.{Pushed, Pushes, pushes, pushed}
use Rattle.pool.specs.PoolLaws.{push_none, push_full, push_room}

abbrev Taken : Pushed → Type 0
Taken (Ok k) = Unit {0}
Taken (Err q) = ⊥

abbrev entries : Pushed → ℕ
entries (Ok k) = k
entries (Err q) = 0

abbrev why : Pushed → Refusal
why (Ok k) = RecordFull
why (Err q) = q

module _ (w : List ℕ) (n a e : ℕ) (x : List ℕ) where
  pub pushed_full : (q : Refusal) → pushes (Err q) x ≡ pushed w n a e → ((ltb a e && leb (length w / 2) n) ≡ true) × (x ≡ w) × (q ≡ RecordFull)
  pushed_full q p = split (ltb a e)
      (λ t. split (leb (length w / 2) n)
      (λ u. let e : ◌≡◌ {A = Pushes} (pushes (Err q) x) (pushes (Err RecordFull) w) = p ∙ push_full w n a e (ltb-true a e t) (leb-true (length w / 2) n u) in
      (rw (t, u), ap (λ (y : Pushes). y.recs) e, ap (λ (y : Pushes). why y.entries) e))
      (λ f. absurd (subst (λ (y : Pushes). Taken y.entries) (sym (p ∙ push_room w n a e (ltb-true a e t) (leb-false (length w / 2) n f))) tt)))
      (λ f. absurd (subst (λ (y : Pushes). Taken y.entries) (sym (p ∙ push_none w n a e (ltb-false a e f))) tt))

  pub record Went (k : ℕ) : Type 0 where
    pub free : Free n a e w
    pub count : k ≡ pushed_count n a e
    pub recs : x ≡ pushed_recs n a e w

  pub pushed_entries : (k : ℕ) → pushes (Ok k) x ≡ pushed w n a e → Went k
  unfolding pushed_count pushed_recs
  pushed_entries k p = split (ltb a e)
      (λ t. split (leb (length w / 2) n)
      (λ u. absurd (subst (λ (y : Pushes). Taken y.entries) (p ∙ push_full w n a e (ltb-true a e t) (leb-true (length w / 2) n u)) tt))
      (λ f. let q : pushes (Ok k) x ≡ pushes (Ok (n + 1)) (overwrite (n * 2) (a ∷ e ∷ []) w) = p ∙ push_room w n a e (ltb-true a e t) (leb-false (length w / 2) n f) in
      record { free = rw (t, f); count = rw t (ap (λ (y : Pushes). entries y.entries) q); recs = rw t (ap (λ (y : Pushes). y.recs) q) }))
      (λ f. let q : pushes (Ok k) x ≡ pushes (Ok n) w = p ∙ push_none w n a e (ltb-false a e f) in
      record { free = rw f; count = rw f (ap (λ (y : Pushes). entries y.entries) q); recs = rw f (ap (λ (y : Pushes). y.recs) q) })
