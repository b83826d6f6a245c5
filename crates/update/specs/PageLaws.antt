-- Laws of pages, record and buffers, each by what a reader of it sees.
use Rattle.std.specs.Prelude.{◌≡◌, refl, ℕ, zero, suc, ◌+◌, ◌-◌, ◌*◌, ◌/◌, ◌%◌, ◌≤◌, ◌<◌, true, false, List, [], ◌∷◌, ◌++◌, ltb, eqb, length, take, drop, get_or}
use Rattle.std.proofs.Common.{sym, ap, ◌∙◌, subst, mod-lt, div-add-mod', suc-mul, arith, append_assoc, append-nil, length-append, length-drop, get_or-drop, drop_at, take-add, drop-drop, ltb-true, eqb-true, lt-ltb, le-ltb, eq-eqb, ne_eqb}
use Rattle.std.proofs.Math.Bool.{or-true, or-false}
use Rattle.std.proofs.lemmas.Bool.{eqb-false}
use Rattle.memory.specs.Bytes.{resize}
use Rattle.memory.specs.Laws.{split, length-resize, resize_alike, resize_in}
use Rattle.meta.specs.declared.ZeroExtent.{ZeroExtent}
use Rattle.meta.specs.Runs.{run}
use Rattle.runs.specs.Sets.{within, covers}
use Rattle.runs.specs.SetLaws.{covers_append, within_has, has_within}
use Rattle.extents.specs.Plan.{below}
use Rattle.extents.specs.PlanLaws.{among}
use Rattle.update.specs.ListLaws.{clash, tests, resize_seam, resize-take}
use Rattle.update.specs.Pages.{Page, page_numbers, flat, holds, put_page, keep_below, drop_page, add_number, page_byte, pages_in, place_of}
use Rattle.update.specs.Update.{push_run}
use Rattle.config.specs.Pages.{page_at}

-- ## Runs

pub within_lo : (a e q : ℕ) → q < a → within (run a e) q ≡ false
within_lo a e q h = split (within (run a e) q) (λ t. absurd (omega (arith, within_has (run a e) q t))) (λ f. f)

-- every run ends at M or before
abbrev pub EndsBy : ℕ → List ZeroExtent → Type 0
EndsBy M [] = Unit {0}
EndsBy M (r ∷ rs) = (r.end ≤ M) × EndsBy M rs

ends_append : (M : ℕ) (rs ss : List ZeroExtent) → EndsBy M rs → EndsBy M ss → EndsBy M (rs ++ ss)
ends_append M [] ss a b = b
ends_append M (r ∷ rs) ss a b = (a.0, ends_append M rs ss a.1 b)

pub ends_push : (M a e : ℕ) (rs : List ZeroExtent) → e ≤ M → EndsBy M rs → EndsBy M (push_run a e rs)
unfolding push_run
ends_push M a e rs h b = split (ltb a e) (λ t. rw t (ends_append M rs _ b (h, tt))) (λ f. rw f b)

-- every run has a page in it
abbrev pub Filled : List ZeroExtent → Type 0
Filled [] = Unit {0}
Filled (r ∷ rs) = (r.start < r.end) × Filled rs

filled_append : (rs ss : List ZeroExtent) → Filled rs → Filled ss → Filled (rs ++ ss)
filled_append [] ss a b = b
filled_append (r ∷ rs) ss a b = (a.0, filled_append rs ss a.1 b)

pub filled_push : (a e : ℕ) (rs : List ZeroExtent) → Filled rs → Filled (push_run a e rs)
unfolding push_run
filled_push a e rs b = split (ltb a e) (λ t. rw t (filled_append rs _ b (ltb-true a e t, tt))) (λ f. rw f b)

-- a page that is covered lies before M
pub ends_covers : (M : ℕ) (rs : List ZeroExtent) (q : ℕ) → EndsBy M rs → covers rs q ≡ true → q < M
ends_covers M [] q b h = clash h refl
ends_covers M (r ∷ rs) q b h = split (within r q)
    (λ t. omega (arith, within_has r q t, b.0))
    (λ f. ends_covers M rs q b.1 (rw f at h))

pub push_in : (a e : ℕ) (rs : List ZeroExtent) (q : ℕ) → a ≤ q → q < e → covers (push_run a e rs) q ≡ true
unfolding push_run
push_in a e rs q h k = rw (lt-ltb a e (omega arith), covers_append rs _ q, has_within (run a e) q (h, k)) (or-true (covers rs q))

pub push_lo : (a e : ℕ) (rs : List ZeroExtent) (q : ℕ) → q < a → covers (push_run a e rs) q ≡ covers rs q
unfolding push_run
push_lo a e rs q h = split (ltb a e) (λ t. rw (t, covers_append rs _ q, within_lo a e q h) (or-false (covers rs q))) (λ f. rw f)

pub push_none : (a e : ℕ) (rs : List ZeroExtent) → e ≤ a → push_run a e rs ≡ rs
unfolding push_run
push_none a e rs h = rw (le-ltb a e h)

pub push_keeps : (a e : ℕ) (rs : List ZeroExtent) (q : ℕ) → covers rs q ≡ true → covers (push_run a e rs) q ≡ true
unfolding push_run
push_keeps a e rs q h = split (ltb a e) (λ t. rw (t, covers_append rs _ q, h)) (λ f. rw f h)

-- ## offsets in a page

module _ (P : ℕ) (pos : 0 < P) where
  pub page_of : (p i : ℕ) → i < P → (p * P + i) / P ≡ p
  page_of p i h = page_at P pos p (p * P + i) (omega arith) (omega arith)

  pub place_of_lem : (p i : ℕ) → i < P → (p * P + i) % P ≡ i
  place_of_lem p i h = omega (arith, div-add-mod' (p * P + i) P, ap (λ (x : ℕ). x * P) (page_of p i h))

  -- offsets from o on that lie in o's page
  pub same_page : (o j : ℕ) → o % P + j < P → (o + j) / P ≡ o / P
  same_page o j h = page_at P pos (o / P) (o + j) (omega (arith, div-add-mod' o P)) (omega (arith, div-add-mod' o P))

  pub same_place : (o j : ℕ) → o % P + j < P → (o + j) % P ≡ o % P + j
  same_place o j h = omega (arith, div-add-mod' o P, div-add-mod' (o + j) P, ap (λ (x : ℕ). x * P) (same_page o j h))

-- ## dirty pages

pub put_page-hit : (p : ℕ) (bs : List ℕ) (d : List Page) → holds (put_page p bs d) p ≡ true
put_page-hit p bs [] = rw (eq-eqb p p refl)
put_page-hit p bs (g ∷ d) = split (eqb g.number p)
    (λ t. rw (t, eq-eqb p p refl))
    (λ f. rw (f, f) (put_page-hit p bs d))

pub put_page-miss : (p : ℕ) (bs : List ℕ) (d : List Page) (q : ℕ) → (p ≡ q → ⊥) → holds (put_page p bs d) q ≡ holds d q
put_page-miss p bs [] q ne = rw (ne_eqb p q ne)
put_page-miss p bs (g ∷ d) q ne = split (eqb g.number p)
    (λ t. rw (t, ne_eqb p q ne, eqb-true g.number p t, ne_eqb p q ne))
    (λ f. rw (f, put_page-miss p bs d q ne))

pub put_page-keeps : (p : ℕ) (bs : List ℕ) (d : List Page) (q : ℕ) → holds d q ≡ true → holds (put_page p bs d) q ≡ true
put_page-keeps p bs d q h = split (eqb p q)
    (λ t. rw (← eqb-true p q t) (put_page-hit p bs d))
    (λ f. put_page-miss p bs d q (eqb-false p q f) ∙ h)

pub keep_low : (c : ℕ) (d : List Page) (q : ℕ) → q < c → holds (keep_below c d) q ≡ holds d q
keep_low c [] q h = refl
keep_low c (g ∷ d) q h = split (ltb g.number c)
    (λ t. rw (t, keep_low c d q h))
    (λ f. rw (f, ne_eqb g.number q (omega (arith, tests))) (keep_low c d q h))

pub keep_high : (c : ℕ) (d : List Page) (q : ℕ) → c ≤ q → holds (keep_below c d) q ≡ false
keep_high c [] q h = refl
keep_high c (g ∷ d) q h = split (ltb g.number c)
    (λ t. rw (t, ne_eqb g.number q (omega (arith, tests))) (keep_high c d q h))
    (λ f. rw f (keep_high c d q h))

pub put_same : (p : ℕ) (bs : List ℕ) (d : List Page) → holds d p ≡ true → length (put_page p bs d) ≡ length d
put_same p bs [] h = clash h refl
put_same p bs (g ∷ d) h = split (eqb g.number p) (λ t. rw t) (λ f. rw f (ap suc (put_same p bs d (rw f at h))))

pub put_more : (p : ℕ) (bs : List ℕ) (d : List Page) → holds d p ≡ false → length (put_page p bs d) ≡ suc (length d)
put_more p bs [] h = refl
put_more p bs (g ∷ d) h = split (eqb g.number p) (λ t. clash (rw t) h) (λ f. rw f (ap suc (put_more p bs d (rw f at h))))

pub keep_few : (c : ℕ) (d : List Page) → length (keep_below c d) ≤ length d
keep_few c [] = omega arith
keep_few c (g ∷ d) = let r : length (keep_below c d) ≤ length d = keep_few c d in split (ltb g.number c) (λ t. rw t (omega arith)) (λ f. rw f (omega arith))

pub drop-few : (p : ℕ) (d : List Page) → length (drop_page p d) ≤ length d
drop-few p [] = omega arith
drop-few p (g ∷ d) = let r : length (drop_page p d) ≤ length d = drop-few p d in split (eqb g.number p) (λ t. rw t (omega arith)) (λ f. rw f (omega arith))

-- every page has P bytes
abbrev pub Sized : ℕ → List Page → Type 0
Sized P [] = Unit {0}
Sized P (g ∷ d) = (length g.bytes ≡ P) × Sized P d

pub sized-put_page : (P p : ℕ) (bs : List ℕ) (d : List Page) → length bs ≡ P → Sized P d → Sized P (put_page p bs d)
sized-put_page P p bs [] e h = (e, tt)
sized-put_page P p bs (g ∷ d) e h = split (eqb g.number p)
    (λ t. rw t (e, h.1))
    (λ f. rw f (h.0, sized-put_page P p bs d e h.1))

pub sized_keep : (P c : ℕ) (d : List Page) → Sized P d → Sized P (keep_below c d)
sized_keep P c [] h = tt
sized_keep P c (g ∷ d) h = split (ltb g.number c)
    (λ t. rw t (h.0, sized_keep P c d h.1))
    (λ f. rw f (sized_keep P c d h.1))

pub sized-drop_page : (P p : ℕ) (d : List Page) → Sized P d → Sized P (drop_page p d)
sized-drop_page P p [] s = tt
sized-drop_page P p (g ∷ d) s = split (eqb g.number p) (λ t. rw t (sized-drop_page P p d s.1)) (λ f. rw f (s.0, sized-drop_page P p d s.1))

pub sized-drop : (P n : ℕ) (d : List Page) → Sized P d → Sized P (drop n d)
sized-drop P zero d s = s
sized-drop P (suc n) [] s = tt
sized-drop P (suc n) (g ∷ d) s = sized-drop P n d s.1

pub sized_snoc : (P : ℕ) (d : List Page) (g : Page) → length g.bytes ≡ P → Sized P d → Sized P (d ++ g ∷ [])
sized_snoc P [] g e s = (e, tt)
sized_snoc P (x ∷ d) g e s = (s.0, sized_snoc P d g e s.1)

module _ (P : ℕ) (pos : 0 < P) where
  -- a clean page leaves the other byte; in a dirty one it does not matter
  pub byte_clean : (d : List Page) (o x : ℕ) → holds d (o / P) ≡ false → page_byte P d o x ≡ x
  byte_clean [] o x h = refl
  byte_clean (g ∷ d) o x h = split (eqb g.number (o / P))
      (λ t. clash (rw t) h)
      (λ f. rw f (byte_clean d o x (rw f at h)))

  pub byte_dirty : (d : List Page) (o x y : ℕ) → holds d (o / P) ≡ true → page_byte P d o x ≡ page_byte P d o y
  byte_dirty [] o x y h = clash h refl
  byte_dirty (g ∷ d) o x y h = split (eqb g.number (o / P))
      (λ t. rw t)
      (λ f. rw f (byte_dirty d o x y (rw f at h)))

  pub byte_hit : (p : ℕ) (bs : List ℕ) (d : List Page) (o x : ℕ) → p ≡ o / P → page_byte P (put_page p bs d) o x ≡ get_or bs (o % P) 0
  byte_hit p bs [] o x e = rw (eq-eqb p (o / P) e)
  byte_hit p bs (g ∷ d) o x e = split (eqb g.number p)
      (λ t. rw (t, eq-eqb p (o / P) e))
      (λ f. rw (f, ← e, f) (byte_hit p bs d o x e))

  pub byte_miss : (p : ℕ) (bs : List ℕ) (d : List Page) (o x : ℕ) → (p ≡ o / P → ⊥) → page_byte P (put_page p bs d) o x ≡ page_byte P d o x
  byte_miss p bs [] o x ne = rw (ne_eqb p (o / P) ne)
  byte_miss p bs (g ∷ d) o x ne = split (eqb g.number p)
      (λ t. rw (t, ne_eqb p (o / P) ne, eqb-true g.number p t, ne_eqb p (o / P) ne))
      (λ f. rw (f, byte_miss p bs d o x ne))

  pub byte_keep : (c : ℕ) (d : List Page) (o x : ℕ) → o / P < c → page_byte P (keep_below c d) o x ≡ page_byte P d o x
  byte_keep c [] o x h = refl
  byte_keep c (g ∷ d) o x h = split (ltb g.number c)
      (λ t. rw (t, byte_keep c d o x h))
      (λ f. rw (f, ne_eqb g.number (o / P) (omega (arith, tests))) (byte_keep c d o x h))

  pub byte-drop : (p : ℕ) (d : List Page) (o x : ℕ) → (p ≡ o / P → ⊥) → page_byte P (drop_page p d) o x ≡ page_byte P d o x
  byte-drop p [] o x ne = refl
  byte-drop p (g ∷ d) o x ne = split (eqb g.number p)
      (λ t. rw (t, eqb-true g.number p t, ne_eqb p (o / P) ne) (byte-drop p d o x ne))
      (λ f. rw (f, byte-drop p d o x ne))

-- ## numbers of pages

pub numbers-put_page : (p : ℕ) (bs : List ℕ) (d : List Page) → page_numbers (put_page p bs d) ≡ add_number p (page_numbers d)
numbers-put_page p bs [] = refl
numbers-put_page p bs (g ∷ d) = split (eqb g.number p) (λ t. rw t) (λ f. rw (f, numbers-put_page p bs d))

pub numbers_keep : (c : ℕ) (d : List Page) → page_numbers (keep_below c d) ≡ below c (page_numbers d)
numbers_keep c [] = refl
numbers_keep c (g ∷ d) = split (ltb g.number c) (λ t. rw (t, numbers_keep c d)) (λ f. rw (f, numbers_keep c d))

eqb_swap : (a b : ℕ) → eqb a b ≡ eqb b a
eqb_swap a b = split (eqb a b) (λ t. t ∙ sym (eq-eqb b a (sym (eqb-true a b t)))) (λ f. f ∙ sym (ne_eqb b a (λ e. eqb-false a b f (sym e))))

pub numbers_has : (d : List Page) (q : ℕ) → among (page_numbers d) q ≡ holds d q
numbers_has [] q = refl
numbers_has (g ∷ d) q = rw (eqb_swap q g.number, numbers_has d q)

pub numbers-length : (d : List Page) → length (page_numbers d) ≡ length d
numbers-length [] = refl
numbers-length (g ∷ d) = ap suc (numbers-length d)

pub place_most : (ns : List ℕ) (p : ℕ) → place_of ns p ≤ length ns
place_most [] p = omega arith
place_most (n ∷ ns) p = let r : place_of ns p ≤ length ns = place_most ns p in split (eqb n p) (λ t. rw t (omega arith)) (λ f. rw f (omega arith))

-- a page that is not there comes last
pub put_page-last : (p : ℕ) (bs : List ℕ) (d : List Page) → holds d p ≡ false → put_page p bs d ≡ d ++ record { number = p; bytes = bs } ∷ []
put_page-last p bs [] h = refl
put_page-last p bs (g ∷ d) h = split (eqb g.number p) (λ t. clash (rw t) h) (λ f. rw f (ap (λ (x : List Page). g ∷ x) (put_page-last p bs d (rw f at h))))

pub flat_snoc : (d : List Page) (g : Page) → flat (d ++ g ∷ []) ≡ flat d ++ g.bytes
flat_snoc [] g = append-nil g.bytes
flat_snoc (x ∷ d) g = rw (flat_snoc d g) (sym (append_assoc x.bytes (flat d) g.bytes))

pub numbers_snoc : (d : List Page) (g : Page) → page_numbers (d ++ g ∷ []) ≡ page_numbers d ++ g.number ∷ []
numbers_snoc [] g = refl
numbers_snoc (x ∷ d) g = ap (λ (l : List ℕ). x.number ∷ l) (numbers_snoc d g)

pub numbers_same : (p : ℕ) (bs : List ℕ) (d : List Page) → holds d p ≡ true → page_numbers (put_page p bs d) ≡ page_numbers d
numbers_same p bs [] h = clash h refl
numbers_same p bs (g ∷ d) h = split (eqb g.number p)
    (λ t. rw (t, eqb-true g.number p t))
    (λ f. rw f (ap (λ (l : List ℕ). g.number ∷ l) (numbers_same p bs d (rw f at h))))

-- ## pools

module _ (P : ℕ) where
  pub pages_in-sized : (ns pool : List ℕ) → Sized P (pages_in P ns pool)
  pages_in-sized [] pool = tt
  pages_in-sized (n ∷ ns) pool = (length-resize P pool, pages_in-sized ns (drop P pool))

  pub numbers-pages_in : (ns pool : List ℕ) → page_numbers (pages_in P ns pool) ≡ ns
  numbers-pages_in [] pool = refl
  numbers-pages_in (n ∷ ns) pool = rw (numbers-pages_in ns (drop P pool))

  -- the pages laid one behind the other are these pages
  pub pages_in-flat : (d : List Page) (t : List ℕ) → Sized P d → pages_in P (page_numbers d) (flat d ++ t) ≡ d
  pages_in-flat [] t s = refl
  pages_in-flat (g ∷ d) t s =
      let a : (g.bytes ++ flat d) ++ t ≡ g.bytes ++ (flat d ++ t) = append_assoc g.bytes (flat d) t in
      let e1 : resize P (g.bytes ++ (flat d ++ t)) ≡ g.bytes = subst (λ (n : ℕ). resize n (g.bytes ++ (flat d ++ t)) ≡ g.bytes) s.0 (resize_seam g.bytes (flat d ++ t)) in
      let e2 : drop P (g.bytes ++ (flat d ++ t)) ≡ flat d ++ t = drop_at g.bytes (flat d ++ t) P s.0 in
      rw (a, e1, e2, pages_in-flat d t s.1)

  pub pages_in-alike : (ns a b : List ℕ) → ((i : ℕ) → i < length ns * P → get_or a i 0 ≡ get_or b i 0) → pages_in P ns a ≡ pages_in P ns b
  pages_in-alike [] a b h = refl
  pages_in-alike (n ∷ ns) a b h =
      let e : resize P a ≡ resize P b = resize_alike P a b (λ i k. h i (omega (arith, suc-mul (length ns) P))) in
      let r : pages_in P ns (drop P a) ≡ pages_in P ns (drop P b) = pages_in-alike ns (drop P a) (drop P b)
      (λ i k. get_or-drop P a i 0 ∙ h (P + i) (omega (arith, suc-mul (length ns) P)) ∙ sym (get_or-drop P b i 0)) in
      λ j. record { number = n; bytes = e j } ∷ r j

  pub flat-length : (d : List Page) → Sized P d → length (flat d) ≡ length d * P
  flat-length [] s = omega arith
  flat-length (g ∷ d) s = omega (arith, length-append g.bytes (flat d), s.0, flat-length d s.1, suc-mul (length d) P)

  pub length-pages_in : (ns pool : List ℕ) → length (pages_in P ns pool) ≡ length ns
  length-pages_in [] pool = refl
  length-pages_in (n ∷ ns) pool = ap suc (length-pages_in ns (drop P pool))

  -- the pages' bytes are the pool's front
  pub flat-pages_in : (ns pool : List ℕ) → length ns * P ≤ length pool → flat (pages_in P ns pool) ≡ take (length ns * P) pool
  flat-pages_in [] pool h = let z : 0 * P ≡ 0 = omega arith in rw z
  flat-pages_in (n ∷ ns) pool h =
      let s : suc (length ns) * P ≡ P + length ns * P = omega (arith, suc-mul (length ns) P) in
      let a : resize P pool ≡ take P pool = resize-take P pool (omega (arith, suc-mul (length ns) P)) in
      let b : flat (pages_in P ns (drop P pool)) ≡ take (length ns * P) (drop P pool) = flat-pages_in ns (drop P pool) (omega (arith, suc-mul (length ns) P, length-drop P pool)) in
      rw (s, a, b) (sym (take-add P (length ns * P) pool))

  pub holds_place : (ns pool : List ℕ) (p : ℕ) → place_of ns p < length ns → holds (pages_in P ns pool) p ≡ true
  holds_place [] pool p h = absurd (omega arith)
  holds_place (n ∷ ns) pool p h = split (eqb n p) (λ t. rw t) (λ f. rw f (holds_place ns (drop P pool) p (let k : suc (place_of ns p) < suc (length ns) = rw f at h in omega arith)))

  pub free_place : (ns pool : List ℕ) (p : ℕ) → length ns ≤ place_of ns p → holds (pages_in P ns pool) p ≡ false
  free_place [] pool p h = refl
  free_place (n ∷ ns) pool p h = split (eqb n p)
      (λ t. let k : suc (length ns) ≤ 0 = rw t at h in absurd (omega arith))
      (λ f. rw f (free_place ns (drop P pool) p (let k : suc (length ns) ≤ suc (place_of ns p) = rw f at h in omega arith)))

  -- a page in the pool gets other bytes
  pub flat_put : (ns pool : List ℕ) (p : ℕ) (bs : List ℕ) → place_of ns p < length ns → length ns * P ≤ length pool → length bs ≡ P
      → flat (put_page p bs (pages_in P ns pool))
      ≡ take (place_of ns p * P) pool ++ (bs ++ take (length ns * P - (place_of ns p * P + P)) (drop (place_of ns p * P + P) pool))
  flat_put [] pool p bs h r e = absurd (omega arith)
  flat_put (n ∷ ns) pool p bs h r e =
      let s : suc (length ns) * P ≡ P + length ns * P = omega (arith, suc-mul (length ns) P) in
      let ld : length ns * P ≤ length (drop P pool) = omega (arith, length-drop P pool) in
      split (eqb n p)
      (λ t.
      let z : 0 * P ≡ 0 = omega arith in
      let o : 0 + P ≡ P = omega arith in
      let m : suc (length ns) * P - P ≡ length ns * P = omega arith in
      rw (t, z, o, m, flat-pages_in ns (drop P pool) ld))
      (λ f.
      let k : place_of ns p < length ns = (let k : suc (place_of ns p) < suc (length ns) = rw f at h in omega arith) in
      let a : ℕ = place_of ns p in
      let sa : suc a * P ≡ P + a * P = omega (arith, suc-mul a P) in
      let m : P + length ns * P - (P + a * P + P) ≡ length ns * P - (a * P + P) = omega arith in
      let w : resize P pool ≡ take P pool = resize-take P pool (omega arith) in
      let d : drop (P + a * P + P) pool ≡ drop (a * P + P) (drop P pool) = sym (drop-drop (a * P + P) P pool ∙ ap (λ (x : ℕ). drop x pool) {x = P + (a * P + P)} {y = P + a * P + P} (omega arith)) in
      rw (f, s, sa, m, d, take-add P (a * P) pool, w, flat_put ns (drop P pool) p bs k ld e) (sym (append_assoc (take P pool) (take (a * P) (drop P pool)) _)))

  pub byte_place : (ns pool : List ℕ) (o x : ℕ) → 0 < P → place_of ns (o / P) < length ns → page_byte P (pages_in P ns pool) o x ≡ get_or pool (place_of ns (o / P) * P + o % P) 0
  byte_place [] pool o x pos h = absurd (omega arith)
  byte_place (n ∷ ns) pool o x pos h = split (eqb n (o / P))
      (λ t. let z : 0 * P + o % P ≡ o % P = omega arith in rw (t, z) (resize_in P pool (o % P) (mod-lt o pos)))
      (λ f.
      let k : place_of ns (o / P) < length ns = (let k : suc (place_of ns (o / P)) < suc (length ns) = rw f at h in omega arith) in
      let s : suc (place_of ns (o / P)) * P + o % P ≡ P + (place_of ns (o / P) * P + o % P) = omega (arith, suc-mul (place_of ns (o / P)) P) in
      rw (f, s) (byte_place ns (drop P pool) o x pos k ∙ get_or-drop P pool (place_of ns (o / P) * P + o % P) 0))

-- ## Distinct pages

-- no number stands twice
abbrev pub Distinct : List ℕ → Type 0
Distinct [] = Unit {0}
Distinct (n ∷ ns) = (among ns n ≡ false) × Distinct ns

among_add : (p q : ℕ) (ns : List ℕ) → (q ≡ p → ⊥) → among (add_number p ns) q ≡ among ns q
among_add p q [] ne = rw (ne_eqb q p ne)
among_add p q (n ∷ ns) ne = split (eqb n p)
    (λ t. rw (t, ne_eqb q p ne, eqb-true n p t, ne_eqb q p ne))
    (λ f. rw (f, among_add p q ns ne))

pub distinct_add : (p : ℕ) (ns : List ℕ) → Distinct ns → Distinct (add_number p ns)
distinct_add p [] d = (refl, tt)
distinct_add p (n ∷ ns) d = split (eqb n p)
    (λ t. rw t (subst (λ (x : ℕ). among ns x ≡ false) (eqb-true n p t) d.0, d.1))
    (λ f. rw f (among_add p n ns (eqb-false n p f) ∙ d.0, distinct_add p ns d.1))

below_not : (c : ℕ) (ns : List ℕ) (q : ℕ) → among ns q ≡ false → among (below c ns) q ≡ false
below_not c [] q h = refl
below_not c (n ∷ ns) q h = split (eqb q n)
    (λ t. clash (rw t) h)
    (λ f. let r : among (below c ns) q ≡ false = below_not c ns q (rw f at h) in
    split (ltb n c) (λ t. rw (t, f) r) (λ g. rw g r))

pub distinct_below : (c : ℕ) (ns : List ℕ) → Distinct ns → Distinct (below c ns)
distinct_below c [] d = tt
distinct_below c (n ∷ ns) d = split (ltb n c)
    (λ t. rw t (below_not c ns n d.0, distinct_below c ns d.1))
    (λ f. rw f (distinct_below c ns d.1))

-- a page below c stays
pub among_below : (c : ℕ) (ns : List ℕ) (q : ℕ) → q < c → among (below c ns) q ≡ among ns q
among_below c [] q h = refl
among_below c (n ∷ ns) q h = split (ltb n c)
    (λ t. rw (t, among_below c ns q h))
    (λ f. rw (f, ne_eqb q n (omega (arith, tests))) (among_below c ns q h))
