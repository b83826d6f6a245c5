-- Memory by its bytes: growth, pages written in place, the superblock.
use Rattle.std.specs.Prelude.{◌≡◌, refl, ℕ, ◌+◌, ◌-◌, ◌*◌, ◌/◌, ◌%◌, ◌≤◌, ◌<◌, false, List, [], ◌∷◌, ltb, leb, eqb, length, get_or, Ok, Err}
use Rattle.std.proofs.Common.{sym, ap, ◌∙◌, subst, div-add-mod', le-div_iff_mul-le, mul-le-mul_right, le_trans, arith, ltb-true, ltb-false, leb-true, leb-false, eqb-true, lt-ltb}
use Rattle.std.proofs.lemmas.Bool.{eqb-false}
use Rattle.config.specs.Pages.{count, page_lo, page_hi, page_at, count_ge}
use Rattle.config.specs.declared.refusal.Refusal.TheVariants.{GrowFailed}
use Rattle.memory.specs.Bytes.{zeros, overwrite}
use Rattle.memory.specs.Laws.{split, length-overwrite, overwrite_lo, overwrite_in, overwrite_hi}
use Rattle.memory.specs.Growth.{Outcome, grow_to, stable, grow_none, grow_more, grow_refused}
use Rattle.memory.specs.Growth.{Growth}
use Rattle.meta.specs.declared.superblock.Superblock.{Superblock}
use Rattle.meta.specs.declared.ZeroExtent.{ZeroExtent}
use Rattle.extents.specs.PlanLaws.{among}
use Rattle.update.specs.ListLaws.{tests}
use Rattle.update.specs.Pages.{Page, page_numbers, holds, page_byte}
use Rattle.update.specs.PageLaws.{Sized, Distinct, byte_clean, numbers_has}
use Rattle.store.specs.Codec.{Codec, stored}
use Rattle.store.specs.Store.{write_pages}
use Rattle.store.specs.Lawful.{Fits, Lawful}
use Rattle.store.specs.Facts.{Reaches}

-- ## Growth

module _ (S : ℕ) (pos : 0 < S) (c end : ℕ) (m : List ℕ) (held : c * S ≤ length m) where
  reach_of : (r : ℕ) → count S end ≤ r → end ≤ r * S
  reach_of r h = le_trans (count_ge S pos end) (mul-le-mul_right S h)

  -- memory grows, if it does, exactly when its ceiling reaches the end
  pub grow_cases : (Q : Growth → List ℕ → Type 0)
      → ((r : ℕ) (m' : List ℕ) → Reaches S c end m r m' → count S end ≤ length m / S → Q (Ok (stable r)) m')
      → (length m / S < count S end → Q (Err (GrowFailed (stable c) (stable (count S end)))) m)
      → Q (grow_to S c end m).growth (grow_to S c end m).mem
  grow_cases Q grown full = split (leb (count S end) c)
      (λ t. let le : count S end ≤ c = leb-true (count S end) c t in
      let u : c ≤ length m / S = (le-div_iff_mul-le {x = c} pos).1 held in
      subst (λ (o : Outcome). Q o.growth o.mem) (sym (grow_none S pos c end m le))
      (grown c m (record { more = omega arith; reach = reach_of c le; lent = held; same_length = refl; same = λ i h. refl }) (omega arith)))
      (λ f. let lt : c < count S end = leb-false (count S end) c f in
      split (leb (count S end) (length m / S))
      (λ t. let le : count S end ≤ length m / S = leb-true (count S end) (length m / S) t in
      let w : List ℕ = overwrite (c * S) (zeros ((count S end - c) * S)) m in
      subst (λ (o : Outcome). Q o.growth o.mem) (sym (grow_more S pos c end m (count S end) refl lt le))
      (grown (count S end) w (record {
        more = omega arith;
        reach = reach_of (count S end) (omega arith);
        lent = (le-div_iff_mul-le {x = count S end} pos).0 le;
        same_length = length-overwrite (c * S) (zeros ((count S end - c) * S)) m;
        same = λ i h. overwrite_lo (c * S) (zeros ((count S end - c) * S)) m i h;
      }) le))
      (λ g. let gt : length m / S < count S end = leb-false (count S end) (length m / S) g in
      subst (λ (o : Outcome). Q o.growth o.mem) (sym (grow_refused S pos c end m (count S end) refl lt gt)) (full gt)))

-- ## Pages written in place

module _ (P S C L M : ℕ) (k : Codec) where
  pub pages-length : (base c : ℕ) (d : List Page) (m : List ℕ) → length (write_pages P S C L M k base c d m) ≡ length m
  pages-length base c [] m = refl
  pages-length base c (g ∷ d) m = pages-length base c d _ ∙ split (ltb g.number c)
      (λ t. rw t (length-overwrite (base + g.number * P) g.bytes m))
      (λ f. rw f)

  pub pages_low : (base c : ℕ) (d : List Page) (m : List ℕ) (i : ℕ) → i < base → get_or (write_pages P S C L M k base c d m) i 0 ≡ get_or m i 0
  pages_low base c [] m i h = refl
  pages_low base c (g ∷ d) m i h = pages_low base c d _ i h ∙ split (ltb g.number c)
      (λ t. rw t (overwrite_lo (base + g.number * P) g.bytes m i (omega arith)))
      (λ f. rw f)

  module _ (pos : 0 < P) (base : ℕ) where
    -- a byte that is not in page q lies before it or after it
    apart : (q o : ℕ) → (q ≡ o / P → ⊥) → q * P ≤ o → q * P + P ≤ o
    apart q o ne lo = split (ltb o (q * P + P))
        (λ t. absurd (ne (sym (page_at P pos q o lo (ltb-true o (q * P + P) t)))))
        (λ f. ltb-false o (q * P + P) f)

    page_here : (m : List ℕ) (q : ℕ) (bs : List ℕ) (o : ℕ) → length bs ≡ P → q ≡ o / P → base + o < length m → get_or (overwrite (base + q * P) bs m) (base + o) 0 ≡ get_or bs (o % P) 0
    page_here m q bs o l e h =
        rw e (overwrite_in (base + o / P * P) bs m (base + o) (omega (arith, page_lo P pos o)) (omega (arith, page_hi P pos o)) h
        ∙ ap (λ (j : ℕ). get_or bs j 0) (omega (arith, div-add-mod' o P)))

    page_elsewhere : (m : List ℕ) (q : ℕ) (bs : List ℕ) (o : ℕ) → length bs ≡ P → (q ≡ o / P → ⊥) → get_or (overwrite (base + q * P) bs m) (base + o) 0 ≡ get_or m (base + o) 0
    page_elsewhere m q bs o l ne = split (ltb o (q * P))
        (λ t. overwrite_lo (base + q * P) bs m (base + o) (omega (arith, tests)))
        (λ f. overwrite_hi (base + q * P) bs m (base + o) (omega (arith, apart q o ne (ltb-false o (q * P) f))))

    -- a byte of a page below c is what its page has, if that was written, or what it was
    pub pages_at : (c : ℕ) (d : List Page) (m : List ℕ) (o : ℕ) → Sized P d → Distinct (page_numbers d) → o / P < c → base + o < length m
        → get_or (write_pages P S C L M k base c d m) (base + o) 0 ≡ page_byte P d o (get_or m (base + o) 0)
    pages_at c [] m o s u h l = refl
    pages_at c (g ∷ d) m o s u h l = split (eqb g.number (o / P))
        (λ t. let e : g.number ≡ o / P = eqb-true g.number (o / P) t in
        let w : List ℕ = overwrite (base + g.number * P) g.bytes m in
        let n : holds d (o / P) ≡ false = sym (numbers_has d (o / P)) ∙ ap (among (page_numbers d)) (sym e) ∙ u.0 in
        rw (lt-ltb g.number c (omega arith), t)
        (pages_at c d w o s.1 u.1 h (omega (arith, length-overwrite (base + g.number * P) g.bytes m))
        ∙ byte_clean P pos d o _ n ∙ page_here m g.number g.bytes o s.0 e l))
        (λ f. rw f (split (ltb g.number c)
        (λ v. rw v (pages_at c d (overwrite (base + g.number * P) g.bytes m) o s.1 u.1 h (omega (arith, length-overwrite (base + g.number * P) g.bytes m))
        ∙ ap (page_byte P d o) (page_elsewhere m g.number g.bytes o s.0 (eqb-false g.number (o / P) f))))
        (λ n. rw n (pages_at c d m o s.1 u.1 h l))))

-- ## The superblock

-- whatever is stored
pub stored_long : (k : Codec) (b : Superblock) (rs : List ZeroExtent) (m : List ℕ) → length (stored k b rs m) ≡ length m
unfolding stored
stored_long k b rs m = length-overwrite 0 (k.bytes b rs) m

module _ (S L M : ℕ) (k : Codec) (laws : Lawful S L M k) (b : Superblock) (rs : List ZeroExtent) (fit : Fits L M b rs) (m : List ℕ) where
  pub stored_high : (i : ℕ) → S ≤ i → get_or (stored k b rs m) i 0 ≡ get_or m i 0
  unfolding stored
  stored_high i j = overwrite_hi 0 (k.bytes b rs) m i (omega (arith, laws.short b rs fit))

  pub stored-length : length (stored k b rs m) ≡ length m
  stored-length = stored_long k b rs m
