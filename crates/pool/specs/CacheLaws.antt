-- Laws of the clean cache: a settled one, the pages it holds, and the pages laid into it anew.
use Rattle.std.specs.Prelude.{◌≡◌, Bool, true, false, ltb, eqb}
use Rattle.std.proofs.Math.Path.{refl, sym, ap}
use Rattle.std.proofs.Common.{◌∙◌, take_all, get_or-drop}
use Prim.Native.Nat.{ℕ, suc, ◌+◌, ◌-◌, ◌*◌, ◌≤◌, ◌<◌, min}
use Rattle.std.proofs.Math.Nat.{suc-mul, mul-le-mul_right}
use native.Mathlib.Omega.{arith}
use mathlib.Core.List.{List, [], ◌∷◌, ◌++◌}
use Rattle.std.proofs.Math.ListN.{length, take, drop, set, length-append, length-take, length-drop, get_or-eq_default}
use Rattle.std.proofs.Math.Seq.{get_or-take, set_at, ext_get_or}
use borrow.Author.Tests.{ltb-true, ltb-false}
use Rattle.memory.specs.Bytes.{zeros, resize, overwrite}
use Rattle.memory.specs.Laws.{split, below, length-zeros, zeros_at, length-resize, resize_in, resize_same, length-overwrite, overwrite_lo, overwrite_in, overwrite_out}
use Rattle.update.specs.declared.CleanCache.{CleanCache}
use Rattle.update.specs.Lists.{refill, tabulate}
use Rattle.update.specs.ListLaws.{tabulate_at, length-tabulate, tabulate_alike, refill_same, refill_more, refill_two, refill_fewer, resize_push}
use Rattle.update.specs.Pages.{Page, page_numbers, flat, place_of, drop_page, page_byte, pages_in}
use Rattle.update.specs.PageLaws.{numbers-pages_in, numbers-length, keep_few, drop-few, page_of, place_of_lem, length-pages_in, flat-pages_in, numbers_snoc, flat_snoc, byte_place, byte_clean, free_place}
use Rattle.update.specs.Image.{image_page}
use Rattle.update.specs.Buffers.{cached, settled, clean_pages}
use Rattle.update.specs.Frames.{Pool, relaid, retained, CacheOut, cache_out, cache_laid, inserted, load_out, load_laid}
use Rattle.pool.specs.Pool.{retained_by}
use Rattle.pool.specs.Cache.{room_made}

-- ## Pages in a pool

module _ (P : ℕ) where
  module _ (pos : 0 < P) where
    -- a clean page is read off its frame
    pub clean_hit : (ns l : List ℕ) (p : ℕ) (b : ℕ → ℕ) → place_of ns p < length ns
        → tabulate P (λ i. page_byte P (pages_in P ns l) (p * P + i) (b (p * P + i))) ≡ resize P (drop (place_of ns p * P) l)
    clean_hit ns l p b k = ext_get_or 0 _ _ (length-tabulate P _ ∙ sym (length-resize P _))
        (λ i h.
        let j : i < P = omega (arith, length-tabulate P (λ i. page_byte P (pages_in P ns l) (p * P + i) (b (p * P + i)))) in
        tabulate_at P _ i j ∙ byte_place P ns l (p * P + i) _ pos (rw (page_of P pos p i j) k)
        ∙ rw (page_of P pos p i j, place_of_lem P pos p i j) (sym (get_or-drop (place_of ns p * P) l i 0)) ∙ sym (resize_in P (drop (place_of ns p * P) l) i j))

    -- a page that is not cached is the image's
    pub clean_miss : (ns l : List ℕ) (p : ℕ) (b : ℕ → ℕ) → length ns ≤ place_of ns p
        → tabulate P (λ i. page_byte P (pages_in P ns l) (p * P + i) (b (p * P + i))) ≡ image_page P b p
    unfolding image_page
    clean_miss ns l p b k = tabulate_alike P _ _ (λ i h. byte_clean P pos (pages_in P ns l) (p * P + i) _ (rw (page_of P pos p i h) (free_place P ns l p k)))

  pub drop-missed : (ns l : List ℕ) (p : ℕ) → length ns ≤ place_of ns p → drop_page p (pages_in P ns l) ≡ pages_in P ns l
  drop-missed [] l p k = refl
  drop-missed (n ∷ ns) l p k = split (eqb n p)
      (λ t. absurd (omega (arith, rw t at k)))
      (λ f. rw (f, drop-missed ns (drop P l) p (omega (arith, rw f at k))))

-- ## Fewer pages

pub length_retained : (below : Bool) (p : ℕ) (d : List Page) → length (retained below p d) ≤ length d
length_retained true p d = keep_few p d
length_retained false p d = drop-few p d

pub length_retained_by : (keep : ℕ → Bool) (d : List Page) → length (retained_by keep d) ≤ length d
length_retained_by keep [] = omega arith
length_retained_by keep (g ∷ d) = split (keep g.number)
    (λ t. rw t (omega (arith, length_retained_by keep d)))
    (λ f. rw f (omega (arith, length_retained_by keep d)))

-- ## A settled cache

-- page size, cache pages
module _ (P C : ℕ) where
  -- a count above the capacity
  pub settled_full : (c : CleanCache) → length c.pages ≡ C → C ≤ c.count → record { pages = c.pages; count = C } ≡ settled P C c
  unfolding settled cached
  settled_full c l h =
      let m : min c.count C ≡ C = omega arith in
      let t : take (min c.count C) c.pages ≡ c.pages = rw m (take_all C c.pages (omega arith)) in
      let r : resize C c.pages ≡ c.pages = rw l at (resize_same c.pages) in
      rw (t, r, l)

  -- a count below it
  pub settled_part : (c : CleanCache) → length c.pages ≡ C → c.count ≤ C
      → record { pages = overwrite c.count (zeros (C - c.count)) c.pages; count = c.count } ≡ settled P C c
  unfolding settled cached
  settled_part c l h =
      let m : min c.count C ≡ c.count = omega arith in
      let n : length (take c.count c.pages) ≡ c.count = length-take c.count c.pages ∙ omega arith in
      let z : length (zeros (C - c.count)) ≡ C - c.count = length-zeros (C - c.count) in
      let e : overwrite c.count (zeros (C - c.count)) c.pages ≡ resize C (take c.count c.pages) =
      ext_get_or 0 _ _ (length-overwrite c.count (zeros (C - c.count)) c.pages ∙ l ∙ sym (length-resize C (take c.count c.pages)))
      (λ i k.
      let j : i < C = omega (arith, length-overwrite c.count (zeros (C - c.count)) c.pages) in
      below i c.count
      (λ lo. overwrite_lo c.count (zeros (C - c.count)) c.pages i lo ∙ sym (resize_in C (take c.count c.pages) i j ∙ get_or-take c.count c.pages i 0 lo))
      (λ hi. overwrite_in c.count (zeros (C - c.count)) c.pages i hi (omega arith) (omega arith) ∙ zeros_at _ _
      ∙ sym (resize_in C (take c.count c.pages) i j ∙ get_or-eq_default (take c.count c.pages) 0 (omega arith)))) in
      rw (m, n, e)

  -- any count
  pub settled_least : (c : CleanCache) → length c.pages ≡ C
      → record { pages = overwrite (min c.count C) (zeros (C - min c.count C)) c.pages; count = min c.count C } ≡ settled P C c
  settled_least c l = below c.count C
      (λ lo. let m : min c.count C ≡ c.count = omega arith in rw m (settled_part c l (omega arith)))
      (λ hi.
      let m : min c.count C ≡ C = omega arith in
      let o : overwrite C (zeros (C - C)) c.pages ≡ c.pages = overwrite_out C (zeros (C - C)) c.pages (omega arith) in
      rw (m, o) (settled_full c l hi))

  module _ (c : CleanCache) (ok : c ≡ settled P C c) where
    pub settled_numbers : c.pages ≡ resize C (cached P C c)
    unfolding settled
    settled_numbers = ap (λ (x : CleanCache). x.pages) ok

    pub settled-length : length c.pages ≡ C
    settled-length = ap length settled_numbers ∙ length-resize C (cached P C c)

    pub settled_count : length (cached P C c) ≡ c.count
    unfolding settled
    settled_count = sym (ap (λ (x : CleanCache). x.count) ok)

    pub settled_most : c.count ≤ C
    unfolding cached
    settled_most = omega (arith, settled_count, length-take (min c.count C) c.pages)

    pub settled_cached : cached P C c ≡ take c.count c.pages
    unfolding cached
    settled_cached = let m : min c.count C ≡ c.count = omega (arith, settled_most) in rw m

    -- ## Pages laid into it

    -- pages of the cache that stay, as a pool is laid again
    pub laid_relaid : (l : List ℕ) (d : List Page) (x : Pool) → length d ≤ c.count → x ≡ relaid P c.count d c.pages l
        → cache_out (record { pages = x.numbers; count = x.count }) x.frames ≡ cache_laid P C c l d
    unfolding relaid cache_laid
    laid_relaid l d x h e =
        let r : refill c.count (page_numbers d) c.pages ≡ resize C (page_numbers d) =
        ap (refill c.count (page_numbers d)) settled_numbers
        ∙ refill_fewer C c.count (page_numbers d) (cached P C c) settled_count settled_most (omega (arith, numbers-length d)) in
        rw (e, r, settled_count)

    -- the pages that it holds
    pub laid_same : (l : List ℕ) → C * P ≤ length l → cache_laid P C c l (clean_pages P C c l) ≡ cache_out c l
    unfolding cache_laid
    laid_same l h =
        let ns : List ℕ = cached P C c in
        let fits : length ns * P ≤ length l = omega (arith, mul-le-mul_right P settled_most, ap (λ (x : ℕ). x * P) settled_count) in
        let f : refill (length ns * P) (flat (pages_in P ns l)) l ≡ l =
        rw (flat-pages_in P ns l fits) (refill_same (length ns * P) l fits) in
        rw (f, numbers-pages_in P ns l, length-pages_in P ns l, settled_count, ← settled_numbers)

    -- one page more
    pub laid_push : (l : List ℕ) (p : ℕ) (bs : List ℕ) → C * P ≤ length l → c.count < C → length bs ≡ P
        → cache_out (record { pages = set c.pages c.count p; count = c.count + 1 }) (overwrite (c.count * P) bs l)
        ≡ cache_laid P C c l (clean_pages P C c l ++ record { number = p; bytes = bs } ∷ [])
    unfolding cache_laid
    laid_push l p bs h k e =
        let ns : List ℕ = cached P C c in
        let d : List Page = pages_in P ns l in
        let g : Page = record { number = p; bytes = bs } in
        let m : c.count * P + P ≤ length l = omega (arith, mul-le-mul_right P k, suc-mul c.count P) in
        let q : length ns * P ≡ c.count * P = ap (λ (x : ℕ). x * P) settled_count in
        let nums : set c.pages c.count p ≡ resize C (page_numbers (d ++ g ∷ [])) =
        ap (λ (x : List ℕ). set x c.count p) settled_numbers ∙ ap (λ (n : ℕ). set (resize C ns) n p) (sym settled_count)
        ∙ resize_push C ns p (omega (arith, settled_count))
        ∙ ap (resize C) (sym (numbers_snoc d g ∙ ap (λ (x : List ℕ). x ++ p ∷ []) (numbers-pages_in P ns l))) in
        let many : c.count + 1 ≡ length (d ++ g ∷ []) = sym (length-append d (g ∷ []) ∙ omega (arith, length-pages_in P ns l, settled_count)) in
        let fl : flat (d ++ g ∷ []) ≡ take (c.count * P) l ++ bs =
        flat_snoc d g ∙ rw (flat-pages_in P ns l (omega arith), q) in
        let frames : overwrite (c.count * P) bs l ≡ refill (length ns * P) (flat (d ++ g ∷ [])) l =
        sym (rw (fl, q) (refill_more (c.count * P) bs l (omega arith))) in
        λ j. cache_out (record { pages = nums j; count = many j }) (frames j)

    -- one page more, the oldest out
    pub laid_shift : (l : List ℕ) (p : ℕ) (bs : List ℕ) → 0 < C → C * P ≤ length l → C ≤ c.count → length bs ≡ P
        → cache_out (record { pages = set (drop 1 c.pages ++ 0 ∷ []) (C - 1) p; count = C - 1 + 1 }) (overwrite ((C - 1) * P) bs (overwrite 0 (take ((C - 1) * P) (drop P l)) l))
        ≡ cache_laid P C c l (drop 1 (clean_pages P C c l ++ record { number = p; bytes = bs } ∷ []))
    unfolding cache_laid
    laid_shift l p bs pos h k e = go (cached P C c) refl
      where
        go : (ns : List ℕ) → cached P C c ≡ ns
            → cache_out (record { pages = set (drop 1 c.pages ++ 0 ∷ []) (C - 1) p; count = C - 1 + 1 }) (overwrite ((C - 1) * P) bs (overwrite 0 (take ((C - 1) * P) (drop P l)) l))
            ≡ cache_out (record { pages = resize C (page_numbers (drop 1 (pages_in P ns l ++ record { number = p; bytes = bs } ∷ []))); count = length (drop 1 (pages_in P ns l ++ record { number = p; bytes = bs } ∷ [])) })
            (refill (length ns * P) (flat (drop 1 (pages_in P ns l ++ record { number = p; bytes = bs } ∷ []))) l)
        go [] z = absurd (omega (arith, settled_count, ap length z))
        go (n ∷ ns) z =
            let full : suc (length ns) ≡ C = sym (ap length z) ∙ settled_count ∙ omega (arith, settled_most) in
            let less : C - 1 ≡ length ns = omega arith in
            let r : List ℕ = drop P l in
            let d : List Page = pages_in P ns r in
            let g : Page = record { number = p; bytes = bs } in
            let m : suc (length ns) * P ≡ length ns * P + P = suc-mul (length ns) P in
            let q : C * P ≡ suc (length ns) * P = ap (λ (x : ℕ). x * P) (sym full) in
            let pg : c.pages ≡ n ∷ ns = settled_numbers ∙ ap (resize C) z ∙ ap (λ (x : ℕ). resize x (n ∷ ns)) (sym full) ∙ resize_same (n ∷ ns) in
            let nm : page_numbers (d ++ g ∷ []) ≡ ns ++ p ∷ [] = numbers_snoc d g ∙ ap (λ (x : List ℕ). x ++ p ∷ []) (numbers-pages_in P ns r) in
            let ln : length (ns ++ p ∷ []) ≡ C = length-append ns (p ∷ []) ∙ omega arith in
            let nums : set (drop 1 c.pages ++ 0 ∷ []) (C - 1) p ≡ resize C (page_numbers (d ++ g ∷ [])) =
            ap (λ (x : List ℕ). set (drop 1 x ++ 0 ∷ []) (C - 1) p) pg ∙ set_at ns 0 [] p (C - 1) (sym less)
            ∙ sym (ap (resize C) nm ∙ ap (λ (x : ℕ). resize x (ns ++ p ∷ [])) (sym ln) ∙ resize_same (ns ++ p ∷ [])) in
            let many : C - 1 + 1 ≡ length (d ++ g ∷ []) = sym (length-append d (g ∷ []) ∙ omega (arith, length-pages_in P ns r)) in
            let fl : flat (d ++ g ∷ []) ≡ take (length ns * P) r ++ bs =
            flat_snoc d g ∙ rw (flat-pages_in P ns r (omega (arith, length-drop P l))) in
            let frames : overwrite ((C - 1) * P) bs (overwrite 0 (take ((C - 1) * P) r) l) ≡ refill (suc (length ns) * P) (flat (d ++ g ∷ [])) l =
            sym (rw (fl, less) (refill_two (suc (length ns) * P) (length ns * P) (take (length ns * P) r) bs l (length-take (length ns * P) r ∙ omega (arith, length-drop P l)) (omega arith) (omega arith))) in
            λ j. cache_out (record { pages = nums j; count = many j }) (frames j)

    -- ## Room for one more

    module _ (l : List ℕ) (x : CacheOut) (pos : 0 < C) (made : x ≡ room_made P C c l) where
      pub room_count : x.cache.count < C
      unfolding room_made
      room_count = split (ltb c.count C)
          (λ t. let e : x ≡ cache_out c l = rw t at made in rw e (ltb-true c.count C t))
          (λ f. let e : x.cache.count ≡ C - 1 = ap (λ (y : CacheOut). y.cache.count) (rw f at made) in omega arith)

      pub room-length : length x.clean ≡ length l
      unfolding room_made
      room-length = split (ltb c.count C)
          (λ t. let e : x ≡ cache_out c l = rw t at made in rw e)
          (λ f. ap (λ (y : CacheOut). length y.clean) (rw f at made) ∙ length-overwrite 0 (take ((C - 1) * P) (drop P l)) l)

      -- the image's page put there
      pub laid_insert : (b : ℕ → ℕ) (p : ℕ) → C * P ≤ length l
          → cache_out (record { pages = set x.cache.pages x.cache.count p; count = x.cache.count + 1 }) (overwrite (x.cache.count * P) (image_page P b p) x.clean)
          ≡ cache_laid P C c l (inserted P C b p (clean_pages P C c l))
      unfolding room_made inserted image_page
      laid_insert b p h =
          let d : List Page = clean_pages P C c l in
          let n : length d ≡ c.count = length-pages_in P (cached P C c) l ∙ settled_count in
          split (ltb c.count C)
          (λ t.
          let e : x ≡ cache_out c l = rw t at made in
          let z : suc (length d) - C ≡ 0 = omega (arith, ltb-true c.count C t) in
          rw (e, z) (laid_push l p (image_page P b p) h (ltb-true c.count C t) (length-tabulate P _)))
          (λ f.
          let e : x ≡ cache_out (record { pages = drop 1 c.pages ++ 0 ∷ []; count = C - 1 }) (overwrite 0 (take ((C - 1) * P) (drop P l)) l) = rw f at made in
          let z : suc (length d) - C ≡ 1 = omega (arith, ltb-false c.count C f, settled_most) in
          rw (e, z) (laid_shift l p (image_page P b p) pos h (ltb-false c.count C f) (length-tabulate P _)))

    -- ## A page loaded

    module _ (l : List ℕ) (b : ℕ → ℕ) (covered : Bool) (p : ℕ) where
      pub load_covered : covered ≡ true → load_out c (zeros P) l ≡ load_laid P C c l b covered p
      unfolding load_laid
      load_covered t = rw t

      pub load_hit : (x : CacheOut) → covered ≡ false → 0 < P → place_of (cached P C c) p < c.count → x ≡ cache_laid P C c l (drop_page p (clean_pages P C c l))
          → load_out x.cache (resize P (drop (place_of (cached P C c) p * P) l)) x.clean ≡ load_laid P C c l b covered p
      unfolding load_laid
      load_hit x f pos h e = rw (f, e, clean_hit P pos (cached P C c) l p b (omega (arith, settled_count)))

      pub load_miss : covered ≡ false → 0 < P → C * P ≤ length l → c.count ≤ place_of (cached P C c) p → load_out c (image_page P b p) l ≡ load_laid P C c l b covered p
      unfolding load_laid
      load_miss f pos fits h =
          let k : length (cached P C c) ≤ place_of (cached P C c) p = omega (arith, settled_count) in
          rw (f, drop-missed P (cached P C c) l p k, laid_same l fits, clean_miss P pos (cached P C c) l p b k)
