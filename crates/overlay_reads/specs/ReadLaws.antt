-- Reads as the code does them: a part of a page from where it lies, pages one behind the other, and what lies past the size.
use Rattle.std.specs.Prelude.{◌≡◌, Bool, cond, ◌||◌, ltb, eqb, drop, Ok, Err}
use Rattle.std.proofs.Math.Path.{refl, sym, ap}
use Rattle.std.proofs.Common.{◌∙◌, subst, suc-mul, div-add-mod', ext_get_or, le-leb, eq-eqb, ne_eqb, eqb-true}
use Prim.Native.Nat.{ℕ, zero, suc, ◌+◌, ◌-◌, ◌*◌, ◌/◌, ◌%◌, ◌≤◌, ◌<◌, min, max}
use Rattle.std.proofs.Math.Nat.{mul-le-mul_right}
use native.Mathlib.Omega.{arith}
use Rattle.std.proofs.Math.Bool.{true, false, or-true}
use mathlib.Core.List.{List, [], ◌∷◌, ◌++◌}
use Rattle.std.proofs.Math.ListN.{length, take, get_or, length-append, length-drop}
use Rattle.std.proofs.Math.Seq.{length-take-le, drop-append-le}
use Rattle.std.proofs.lemmas.Bool.{lt-leb, eqb-false}
use Rattle.config.specs.Pages.{page_at}
use Rattle.config.specs.declared.refusal.Refusal.TheVariants.{BufferTooShort}
use Rattle.memory.specs.Bytes.{zeros, filled, resize}
use Rattle.memory.specs.Laws.{split, append_at}
use Rattle.meta.specs.Runs.{numbers_of}
use Rattle.runs.specs.Flat.{runs_in}
use Rattle.runs.specs.Sets.{covers}
use Rattle.update.specs.declared.Overlay.{Overlay}
use Rattle.update.specs.declared.CleanCache.{CleanCache}
use Rattle.update.specs.declared.Image.{Image}
use Rattle.update.specs.Lists.{refill, tabulate_from}
use Rattle.update.specs.ListLaws.{tabulate_from-at, length-tabulate_from, tabulate_at, refill_keeps, refill_in, refill_twice, refill_alike, part_of, none_of, empty}
use Rattle.update.specs.Pages.{Page, page_numbers, flat, holds, place_of, page_byte}
use Rattle.update.specs.PageLaws.{Sized, byte_clean, pages_in-sized, flat-length, length-pages_in, flat_snoc, holds_place, free_place, byte_place, same_page, same_place, sized-drop}
use Rattle.update.specs.Image.{image_in, image_page}
use Rattle.update.specs.Update.{Over, raw, look_up, read_over, read_bytes}
use Rattle.update.specs.Buffers.{Buffers, frame_count, entry_count, cached, settled, clean_pages, short_buffers, view, overlay_of, put_back}
use Rattle.update.specs.Frames.{CacheOut, cache_out, cache_laid, inserted}
use Rattle.update.specs.Laid.{bufs, Fits, settle, CleanSeen, clean_seen, clean_read}
use Rattle.update.specs.Rooms.{Room, read_room}
use Rattle.update.specs.BufferLaws.{view_put, view_size, length-cached_put, settled_put}
use Rattle.update.specs.LeaveLaws.{view_room}
use Rattle.update.specs.Chunks.{look_same, read_join, bytes_join, read_past, bytes_past, read_page, bytes_page}
use Rattle.update.specs.TouchLaws.{place_in, few_numbers, overlay_view, put_view, place_held, place_free, frame_held, dirty_view}
use Rattle.update.specs.SettleLaws.{settle_view, settle_fits, cached_settled}
use Rattle.pool.specs.CacheLaws.{settled_count, settled_most}
use Rattle.overlay_reads.specs.Reads.{Reading}
use Rattle.overlay_reads.specs.Reads.{Seen, seen, reading, showing, page_read, range_read, read_at}
use Rattle.update.specs.ImageLaws.{length-image_page}

-- ## A clean page

module _ (P C : ℕ) (pos : 0 < P) (some : 0 < C) (c : CleanCache) (l : List ℕ) (ok : c ≡ settled P C c) (room : C * P ≤ length l) (b : ℕ → ℕ) (p k n : ℕ) (within : k + n ≤ P) where
  abbrev held : List Page
  held = clean_pages P C c l

  page_of : (j : ℕ) → j < n → (p * P + k + j) / P ≡ p
  page_of j h = page_at P pos p (p * P + k + j) (omega arith) (omega arith)

  place_of_lem : (j : ℕ) → j < n → (p * P + k + j) % P ≡ k + j
  place_of_lem j h = omega (arith, div-add-mod' (p * P + k + j) P, ap (λ (x : ℕ). x * P) (page_of j h))

  pub hit_fits : place_of (cached P C c) p < c.count → place_of (cached P C c) p * P + k + n ≤ length l
  hit_fits h = omega (arith, room, suc-mul (place_of (cached P C c) p) P, mul-le-mul_right {m = suc (place_of (cached P C c) p)} {n = C} P (omega (arith, settled_most P C c ok)))

  -- from its frame
  pub read_hit : place_of (cached P C c) p < c.count → clean_read P C c l b p k n ≡ clean_seen c l (take n (drop (place_of (cached P C c) p * P + k) l))
  unfolding clean_read
  read_hit h =
      let ns : List ℕ = cached P C c in
      let t : holds held p ≡ true = holds_place P ns l p (omega (arith, settled_count P C c ok)) in
      let e : tabulate_from (p * P + k) n (λ o. page_byte P held o (b o)) ≡ take n (drop (place_of ns p * P + k) l) =
      part_of (p * P + k) n (place_of ns p * P + k) l (λ o. page_byte P held o (b o)) (hit_fits h)
      (λ j u. byte_place P ns l (p * P + k + j) _ pos (rw (page_of j u) (omega (arith, settled_count P C c ok))) ∙ rw (page_of j u, place_of_lem j u) (ap (λ (x : ℕ). get_or l x 0) (omega arith))) in
      rw (clean_read, t, e)

  -- the cache with the image's page
  abbrev taken : CacheOut
  taken = cache_laid P C c l (inserted P C b p (clean_pages P C c l))

  abbrev out : ℕ
  out = suc (length held) - C

  count_held : length held ≡ c.count
  count_held = length-pages_in P (cached P C c) l ∙ settled_count P C c ok

  inserted_is : inserted P C b p held ≡ drop out held ++ record { number = p; bytes = image_page P b p } ∷ []
  unfolding inserted
  inserted_is = drop-append-le out held _ (omega (arith, settled_most P C c ok, count_held))

  flat_inserted : flat (inserted P C b p held) ≡ flat (drop out held) ++ image_page P b p
  flat_inserted = ap flat inserted_is ∙ flat_snoc (drop out held) _

  kept-length : length (flat (drop out held)) ≡ length (drop out held) * P
  kept-length = flat-length P (drop out held) (sized-drop P out held (pages_in-sized P (cached P C c) l))

  pub taken_count : taken.cache.count ≡ suc (length (drop out held))
  unfolding cache_laid
  taken_count = ap length inserted_is ∙ length-append (drop out held) _ ∙ omega arith

  pub taken_few : (0 < taken.cache.count) × (taken.cache.count ≤ C)
  taken_few = omega (arith, taken_count, length-drop out held, count_held, settled_most P C c ok)

  flat_fits : length (flat (inserted P C b p held)) ≡ taken.cache.count * P
  flat_fits = ap length flat_inserted ∙ length-append (flat (drop out held)) (image_page P b p) ∙ omega (arith, kept-length, length-image_page P b p, suc-mul (length (drop out held)) P, ap (λ (x : ℕ). x * P) taken_count)

  pub taken-length : length taken.clean ≡ length l
  unfolding cache_laid
  taken-length = refill_keeps (length (cached P C c) * P) (flat (inserted P C b p held)) l
      (omega (arith, room, mul-le-mul_right {m = length (cached P C c)} {n = C} P (omega (arith, settled_most P C c ok, settled_count P C c ok))))
      (omega (arith, room, flat_fits, mul-le-mul_right {m = taken.cache.count} {n = C} P taken_few.1))

  pub miss_fits : (taken.cache.count - 1) * P + k + n ≤ length l
  miss_fits = omega (arith, room, suc-mul (taken.cache.count - 1) P, mul-le-mul_right {m = suc (taken.cache.count - 1)} {n = C} P (omega (arith, taken_few)))

  taken_at : (j : ℕ) → j < n → get_or taken.clean ((taken.cache.count - 1) * P + k + j) 0 ≡ b (p * P + k + j)
  unfolding cache_laid image_page
  taken_at j h =
      let m : ℕ = (taken.cache.count - 1) * P in
      let e : m ≡ length (flat (drop out held)) = omega (arith, kept-length, ap (λ (x : ℕ). (x - 1) * P) taken_count ∙ ap (λ (x : ℕ). x * P) {x = suc (length (drop out held)) - 1} {y = length (drop out held)} (omega arith)) in
      refill_in (length (cached P C c) * P) (flat (inserted P C b p held)) l (m + k + j) (omega (arith, ap length flat_inserted ∙ length-append (flat (drop out held)) (image_page P b p), length-image_page P b p))
      ∙ ap (λ (x : List ℕ). get_or x (m + k + j) 0) flat_inserted
      ∙ append_at (flat (drop out held)) (image_page P b p) (m + k + j) (omega arith)
      ∙ ap (λ (x : ℕ). get_or (image_page P b p) x 0) {y = k + j} (omega arith)
      ∙ tabulate_at P (λ i. b (p * P + i)) (k + j) (omega arith)
      ∙ ap b (omega arith)

  -- from the image, whose page the cache takes up
  pub read_miss : c.count ≤ place_of (cached P C c) p
      → clean_read P C c l b p k n ≡ clean_seen taken.cache taken.clean (take n (drop ((taken.cache.count - 1) * P + k) taken.clean))
  unfolding clean_read
  read_miss h =
      let ns : List ℕ = cached P C c in
      let f : holds held p ≡ false = free_place P ns l p (omega (arith, settled_count P C c ok)) in
      let e : tabulate_from (p * P + k) n (λ o. page_byte P held o (b o)) ≡ take n (drop ((taken.cache.count - 1) * P + k) taken.clean) =
      part_of (p * P + k) n ((taken.cache.count - 1) * P + k) taken.clean (λ o. page_byte P held o (b o)) (omega (arith, taken-length, miss_fits))
      (λ j u. byte_clean P pos held (p * P + k + j) _ (rw (page_of j u) f) ∙ sym (taken_at j u)) in
      rw (clean_read, f, e)

  -- the same, by what the cache and its frames are then: the page lies in the last of them in use
  pub miss_shown : (c' : CleanCache) (l' : List ℕ) → cache_out c' l' ≡ taken → c.count ≤ place_of (cached P C c) p
      → (c'.count - 1 < C) × (((c'.count - 1) * P + k + n ≤ length l') × (clean_seen c' l' (take n (drop ((c'.count - 1) * P + k) l')) ≡ clean_read P C c l b p k n))
  miss_shown c' l' e h = subst (λ (y : CacheOut). (y.cache.count - 1 < C) × (((y.cache.count - 1) * P + k + n ≤ length y.clean) × (clean_seen y.cache y.clean (take n (drop ((y.cache.count - 1) * P + k) y.clean)) ≡ clean_read P C c l b p k n)))
      (sym e) (omega (arith, taken_few), (omega (arith, taken-length, miss_fits), sym (read_miss h)))

-- ## A part of a page

-- an overlay with another cache
abbrev pub with_cache : Overlay → CleanCache → Overlay
with_cache v c = record { base_size = v.base_size; size = v.size; dirty = v.dirty; recorded = v.recorded; cache = c; budget = v.budget }

-- an update with other clean pages
abbrev recached : Over → List Page → Over
recached w q = record { size = w.size; dirty = w.dirty; recorded = w.recorded; cache = q; budget = w.budget }

module _ (P C : ℕ) (pos : 0 < P) (some : 0 < C) (i : Image) (mem : List ℕ) (v : Overlay) (l : Buffers) (fits : Fits P C v l) where
  abbrev b : ℕ → ℕ
  b = image_in P i mem

  abbrev w : Over
  w = view P C v l

  -- the cache with these pages
  abbrev relaid_to : List Page → CacheOut
  relaid_to q = cache_laid P C v.cache l.clean q

  shown : (q : List Page) (bs : List ℕ) (r : Reading) → showing P C i mem v l (recached w q) bs r ≡ seen (with_cache v (relaid_to q).cache) (bufs l.frames l.numbers (relaid_to q).clean l.recs) bs r
  unfolding overlay_of put_back cache_laid
  shown q bs r =
      let a : overlay_of P C v.base_size w ≡ v = overlay_view P C pos v l fits in
      let z : put_back P C v v.dirty w l ≡ l = put_view P C pos v l fits in
      λ j. seen
      record { base_size = v.base_size; size = (a j).size; dirty = (a j).dirty; recorded = (a j).recorded; cache = record { pages = resize C (page_numbers q); count = length q }; budget = (a j).budget }
      (bufs (z j).frames (z j).numbers (refill (length (cached P C v.cache) * P) (flat q) l.clean) (z j).recs) bs r

  shown_same : (bs : List ℕ) (r : Reading) → showing P C i mem v l w bs r ≡ seen v l bs r
  shown_same bs r =
      let a : overlay_of P C v.base_size w ≡ v = overlay_view P C pos v l fits in
      let z : put_back P C v v.dirty w l ≡ l = put_view P C pos v l fits in
      λ j. seen (a j) (z j) bs r

  module _ (o n : ℕ) where
    -- a page that is there is not looked up
    page_same : (holds w.dirty (o / P) || (covers w.recorded (o / P) || holds w.cache (o / P))) ≡ true
        → page_read P C i mem v l o n ≡ seen v l (tabulate_from o n (raw P b w)) (Ok true)
    unfolding page_read
    page_same e = ap (λ (x : Over). showing P C i mem v l x (tabulate_from o n (raw P b w)) (Ok true)) (look_same P C pos some b (o / P) w e) ∙ shown_same (tabulate_from o n (raw P b w)) (Ok true)

    -- from its frame
    pub read_dirty : o % P + n ≤ P → place_in v l (o / P) < v.dirty → page_read P C i mem v l o n ≡ seen v l (take n (drop (place_in v l (o / P) * P + o % P) l.frames)) (Ok true)
    unfolding raw
    read_dirty h k =
        let t : holds w.dirty (o / P) ≡ true = place_held P C pos v l fits (o / P) k in
        let m : ℕ = place_in v l (o / P) in
        let ns : List ℕ = take v.dirty l.numbers in
        let len : length ns ≡ v.dirty = length-take-le v.dirty l.numbers (few_numbers P C pos v l fits) in
        let e : tabulate_from o n (raw P b w) ≡ take n (drop (m * P + o % P) l.frames) =
        part_of o n (m * P + o % P) l.frames (raw P b w) (omega (arith, frame_held P C pos v l fits 0 i mem (o / P) k))
        (λ j u.
        let p : (o + j) / P ≡ o / P = same_page P pos o j (omega arith) in
        let q : (o + j) % P ≡ o % P + j = same_place P pos o j (omega arith) in
        ap (λ (d : List Page). page_byte P d (o + j) (cond (covers w.recorded ((o + j) / P)) 0 (page_byte P w.cache (o + j) (b (o + j))))) (dirty_view P C pos v l fits)
        ∙ byte_place P ns l.frames (o + j) _ pos (rw (p, len) k) ∙ rw (p, q) (ap (λ (x : ℕ). get_or l.frames x 0) (omega arith))) in
        page_same (rw t) ∙ ap (λ (x : List ℕ). seen v l x (Ok true)) e

    module _ (h : o % P + n ≤ P) (free : v.dirty ≤ place_in v l (o / P)) where
      not_dirty : holds w.dirty (o / P) ≡ false
      not_dirty = place_free P C pos v l fits (o / P) free

      record_is : w.recorded ≡ runs_in v.recorded l.recs
      unfolding view
      record_is = refl

      raw_free : (j : ℕ) → j < n → raw P b w (o + j) ≡ cond (covers w.recorded (o / P)) 0 (page_byte P w.cache (o + j) (b (o + j)))
      unfolding raw
      raw_free j u =
          let p : (o + j) / P ≡ o / P = same_page P pos o j (omega arith) in
          byte_clean P pos w.dirty (o + j) _ (rw p not_dirty) ∙ rw p

      -- zeros
      pub read_covered : covers (runs_in v.recorded l.recs) (o / P) ≡ true → page_read P C i mem v l o n ≡ seen v l (zeros n) (Ok true)
      read_covered c =
          let t : covers w.recorded (o / P) ≡ true = rw record_is c in
          page_same (rw (not_dirty, t)) ∙ ap (λ (x : List ℕ). seen v l x (Ok true)) (none_of o n (raw P b w) (λ j u. raw_free j u ∙ rw t))

      -- a clean page
      pub read_uncovered : covers (runs_in v.recorded l.recs) (o / P) ≡ false → (p k : ℕ) → p ≡ o / P → k ≡ o % P → (x : CleanSeen) → x ≡ clean_read P C v.cache l.clean (image_in P i mem) p k n
          → seen (with_cache v x.cache) (bufs l.frames l.numbers x.clean l.recs) x.bytes (Ok true) ≡ page_read P C i mem v l o n
      unfolding page_read clean_read look_up inserted view
      read_uncovered c p k g m x e =
          let d : p * P + k ≡ o = rw (g, m) (div-add-mod' o P) in
          let q : List Page = clean_pages P C v.cache l.clean in
          let bytes : tabulate_from (p * P + k) n (λ y. page_byte P q y (b y)) ≡ tabulate_from o n (raw P b w) =
          rw d (sym (ext_get_or 0 _ _ (length-tabulate_from o n (raw P b w) ∙ sym (length-tabulate_from o n (λ y. page_byte P q y (b y))))
          (λ j y. let u : j < n = omega (arith, length-tabulate_from o n (raw P b w)) in
          tabulate_from-at o n (raw P b w) j u ∙ raw_free j u ∙ rw c (sym (tabulate_from-at o n (λ y. page_byte P q y (b y)) j u))))) in
          split (holds q p)
          (λ t.
          let f : x ≡ clean_seen v.cache l.clean (tabulate_from o n (raw P b w)) = (rw (t, bytes) at e) in
          ap (λ (y : CleanSeen). seen (with_cache v y.cache) (bufs l.frames l.numbers y.clean l.recs) y.bytes (Ok true)) f
          ∙ sym (page_same (rw (not_dirty, c, ← g, t))))
          (λ f.
          let h : x ≡ clean_seen (relaid_to (inserted P C b p q)).cache (relaid_to (inserted P C b p q)).clean (tabulate_from o n (raw P b w)) = (rw (f, bytes) at e) in
          ap (λ (y : CleanSeen). seen (with_cache v y.cache) (bufs l.frames l.numbers y.clean l.recs) y.bytes (Ok true)) h
          ∙ sym (shown (inserted P C b p q) (tabulate_from o n (raw P b w)) (Ok true))
          ∙ ap (λ (y : Over). showing P C i mem v l y (tabulate_from o n (raw P b w)) (Ok true)) {y = look_up P C b (o / P) w} (rw (not_dirty, c, ← g, f)))

-- ## Pages one behind the other

-- only the clean pages change
kept : (x y z : Over) → recached x y.cache ≡ y → recached y z.cache ≡ z → recached x z.cache ≡ z
kept x y z e f = ap (λ (t : Over). recached t z.cache) e ∙ f

module _ (P C : ℕ) (b : ℕ → ℕ) where
  look_kept : (p : ℕ) (x : Over) → recached x (look_up P C b p x).cache ≡ look_up P C b p x
  unfolding look_up
  look_kept p x = split (holds x.dirty p || (covers x.recorded p || holds x.cache p)) (λ t. rw (look_up, t)) (λ f. rw (look_up, f))

  read_kept : (o n : ℕ) (x : Over) → recached x (read_over P C b o n x).cache ≡ read_over P C b o n x
  read_kept o zero x = refl
  read_kept o (suc n) x =
      let y : Over = cond (ltb o x.size) (look_up P C b (o / P) x) x in
      let e : recached x y.cache ≡ y = split (ltb o x.size) (λ t. rw t (look_kept (o / P) x)) (λ f. rw f) in
      kept x y (read_over P C b (suc o) n y) e (read_kept (suc o) n y)

  -- and never fewer of them
  look_more : (p : ℕ) (x : Over) → length x.cache ≤ C → (length x.cache ≤ length (look_up P C b p x).cache) × (length (look_up P C b p x).cache ≤ C)
  unfolding look_up
  look_more p x h = split (holds x.dirty p || (covers x.recorded p || holds x.cache p))
      (λ t. rw (look_up, t) (omega arith))
      (λ f. rw (look_up, f) (omega (arith, length-drop (suc (length x.cache) - C) (x.cache ++ record { number = p; bytes = image_page P b p } ∷ []), length-append x.cache (record { number = p; bytes = image_page P b p } ∷ []))))

  read_more : (o n : ℕ) (x : Over) → length x.cache ≤ C → (length x.cache ≤ length (read_over P C b o n x).cache) × (length (read_over P C b o n x).cache ≤ C)
  read_more o zero x h = omega arith
  read_more o (suc n) x h =
      let y : Over = cond (ltb o x.size) (look_up P C b (o / P) x) x in
      let e : (length x.cache ≤ length y.cache) × (length y.cache ≤ C) = split (ltb o x.size) (λ t. rw t (look_more (o / P) x h)) (λ f. rw f (omega arith)) in
      omega (arith, e, read_more (suc o) n y e.1)

module _ (P C : ℕ) (pos : 0 < P) (some : 0 < C) (i : Image) (mem : List ℕ) (v : Overlay) (l : Buffers) (fits : Fits P C v l) where
  abbrev r0 : Over
  r0 = view P C v l

  abbrev img : ℕ → ℕ
  img = image_in P i mem

  roomy : Room P (frame_count P l) (entry_count l) C r0
  roomy =
      let r = view_room P C pos v l fits in
      record { sized = r.sized; clean = r.clean; dirty = r.dirty; recs = r.recs; few = omega (arith, r.few, settled_count P C v.cache fits.1.1.1, settled_most P C v.cache fits.1.1.1) }

  -- the overlay and the slices with these clean pages
  abbrev v1 : List Page → Overlay
  v1 q = with_cache v (cache_laid P C v.cache l.clean q).cache

  abbrev l1 : List Page → Buffers
  l1 q = bufs l.frames l.numbers (cache_laid P C v.cache l.clean q).clean l.recs

  module _ (q : List Page) (few : length q ≤ C) (sized : Sized P q) where
    view_is : view P C (v1 q) (l1 q) ≡ recached r0 q
    view_is = ap (λ (x : Seen). view P C x.overlay x.bufs) (sym (shown P C pos some i mem v l fits q [] (Ok true))) ∙ view_put P C v.base_size v v.dirty (recached r0 q) l roomy.sized sized few

    cached_is : length (cached P C (v1 q).cache) ≡ length q
    unfolding cache_laid overlay_of
    cached_is = length-cached_put P C v.base_size (recached r0 q) few

    clean_kept : length (l1 q).clean ≡ length l.clean
    unfolding cache_laid
    clean_kept = refill_keeps (length (cached P C v.cache) * P) (flat q) l.clean
        (omega (arith, fits.1.1.0, mul-le-mul_right {m = length (cached P C v.cache)} {n = C} P (omega (arith, settled_count P C v.cache fits.1.1.1, settled_most P C v.cache fits.1.1.1))))
        (omega (arith, fits.1.1.0, flat-length P q sized, mul-le-mul_right {m = length q} {n = C} P few))

    fits_is : Fits P C (v1 q) (l1 q)
    unfolding frame_count cache_laid overlay_of
    fits_is = (fits.0, (fits.1.0, (omega (arith, clean_kept, fits.1.1.0), settled_put P C v.base_size (recached r0 q) few)))

    -- and then with others, not fewer
    clean_twice : (z : List Page) → length q ≤ length z → Sized P z → cache_laid P C (v1 q).cache (l1 q).clean z ≡ cache_laid P C v.cache l.clean z
    unfolding cache_laid
    clean_twice z h s =
        let k : ℕ = length (cached P C v.cache) * P in
        let m : length (cached P C (v1 q).cache) * P ≡ length q * P = ap (λ (x : ℕ). x * P) cached_is in
        let e : refill (length (cached P C (v1 q).cache) * P) (flat z) (refill k (flat q) l.clean) ≡ refill k (flat z) l.clean =
        refill_twice k (length (cached P C (v1 q).cache) * P) (flat q) (flat z) l.clean (omega (arith, flat-length P q sized))
        ∙ refill_alike (max k (length (cached P C (v1 q).cache) * P)) k (flat z) l.clean (omega (arith, flat-length P z s, mul-le-mul_right {m = length q} {n = length z} P h)) in
        λ j. record { cache = record { pages = resize C (page_numbers z); count = length z }; clean = e j }

  -- what a read leaves
  abbrev left : ℕ → ℕ → List Page
  left o n = (read_over P C img o n r0).cache

  range_shown : (o n : ℕ) → range_read P C i mem v l o n ≡ seen (v1 (left o n)) (l1 (left o n)) (read_bytes P C img o n r0) (Ok true)
  unfolding range_read
  range_shown o n = ap (λ (x : Over). showing P C i mem v l x (read_bytes P C img o n r0) (Ok true)) (sym (read_kept P C img o n r0)) ∙ shown P C pos some i mem v l fits (left o n) (read_bytes P C img o n r0) (Ok true)

  room_left : (o n : ℕ) → Room P (frame_count P l) (entry_count l) C (read_over P C img o n r0)
  room_left o n = read_room P 0 (frame_count P l) (entry_count l) C img o n r0 roomy

  pub range_none : (o : ℕ) → range_read P C i mem v l o 0 ≡ seen v l [] (Ok true)
  unfolding range_read
  range_none o = shown_same P C pos some i mem v l fits [] (Ok true)

  pub range_past : (o n : ℕ) → v.size ≤ o → range_read P C i mem v l o n ≡ seen v l (zeros n) (Ok true)
  unfolding range_read
  range_past o n h =
      let s : r0.size ≤ o = omega (arith, view_size P C v l) in
      (λ j. showing P C i mem v l (read_past P C pos some img o n r0 s j) (bytes_past P C pos some img o n r0 s j) (Ok true)) ∙ shown_same P C pos some i mem v l fits (zeros n) (Ok true)

  -- bytes of one page
  pub range_page : (o n : ℕ) → 0 < n → o % P + n ≤ P → o + n ≤ v.size → page_read P C i mem v l o n ≡ range_read P C i mem v l o n
  unfolding page_read range_read
  range_page o n some' h k =
      let s : o + n ≤ r0.size = omega (arith, view_size P C v l) in
      λ j. showing P C i mem v l (sym (read_page P C pos some img o n r0 some' h s) j) (sym (bytes_page P C pos some img o n r0 h s) j) (Ok true)

  -- ## What was read, and then more

  module _ (o k : ℕ) (v2 : Overlay) (l2 : Buffers) (bs : List ℕ) (e : seen v2 l2 bs (Ok true) ≡ range_read P C i mem v l o k) where
    abbrev is : seen v2 l2 bs (Ok true) ≡ seen (v1 (left o k)) (l1 (left o k)) (read_bytes P C img o k r0) (Ok true)
    is = e ∙ range_shown o k

    pub range_fits : Fits P C v2 l2
    range_fits = subst (λ (x : Seen). Fits P C x.overlay x.bufs) (sym is) (fits_is (left o k) (room_left o k).few (room_left o k).clean)

    pub range_size : v2.size ≡ v.size
    range_size = ap (λ (x : Seen). x.overlay.size) is

module _ (P C : ℕ) (pos : 0 < P) (some : 0 < C) (i : Image) (mem : List ℕ) (v : Overlay) (l : Buffers) (fits : Fits P C v l) (o k n : ℕ) where
  abbrev read1 : List Page
  read1 = left P C pos some i mem v l fits o k

  abbrev read2 : List Page
  read2 = left P C pos some i mem v l fits o (k + n)

  abbrev mid : Overlay
  mid = v1 P C pos some i mem v l fits read1

  abbrev midway : Buffers
  midway = l1 P C pos some i mem v l fits read1

  few1 : length read1 ≤ C
  few1 = (room_left P C pos some i mem v l fits o k).few

  sized1 : Sized P read1
  sized1 = (room_left P C pos some i mem v l fits o k).clean

  mid_fits : Fits P C mid midway
  mid_fits = fits_is P C pos some i mem v l fits read1 few1 sized1

  mid_view : view P C mid midway ≡ read_over P C (image_in P i mem) o k (view P C v l)
  mid_view = view_is P C pos some i mem v l fits read1 few1 sized1 ∙ read_kept P C (image_in P i mem) o k (view P C v l)

  joined : left P C pos some i mem mid midway mid_fits (o + k) n ≡ read2
  joined = ap (λ (x : Over). (read_over P C (image_in P i mem) (o + k) n x).cache) mid_view ∙ ap (λ (x : Over). x.cache) (sym (read_join P C pos some (image_in P i mem) o k n (view P C v l)))

  more : length read1 ≤ length read2
  more = subst (λ (x : Over). length read1 ≤ length x.cache) (sym (read_join P C pos some (image_in P i mem) o k n (view P C v l)))
      (read_more P C (image_in P i mem) (o + k) n (read_over P C (image_in P i mem) o k (view P C v l)) few1).0

  twice : seen (v1 P C pos some i mem mid midway mid_fits read2) (l1 P C pos some i mem mid midway mid_fits read2) (read_bytes P C (image_in P i mem) o (k + n) (view P C v l)) (Ok true) ≡ range_read P C i mem v l o (k + n)
  twice =
      let e : cache_laid P C mid.cache midway.clean read2 ≡ cache_laid P C v.cache l.clean read2 =
      clean_twice P C pos some i mem v l fits read1 few1 sized1 read2 more (room_left P C pos some i mem v l fits o (k + n)).clean in
      ap (λ (x : CacheOut). seen (with_cache v x.cache) (bufs l.frames l.numbers x.clean l.recs) (read_bytes P C (image_in P i mem) o (k + n) (view P C v l)) (Ok true)) e
      ∙ sym (range_shown P C pos some i mem v l fits o (k + n))

  then : (v3 : Overlay) (l3 : Buffers) (cs : List ℕ) → seen v3 l3 cs (Ok true) ≡ range_read P C i mem mid midway (o + k) n
      → seen v3 l3 (read_bytes P C (image_in P i mem) o k (view P C v l) ++ cs) (Ok true) ≡ range_read P C i mem v l o (k + n)
  then v3 l3 cs f =
      let bs : List ℕ = read_bytes P C (image_in P i mem) o k (view P C v l) in
      let g : bs ++ read_bytes P C (image_in P i mem) (o + k) n (view P C mid midway) ≡ read_bytes P C (image_in P i mem) o (k + n) (view P C v l) =
      ap (λ (x : Over). bs ++ read_bytes P C (image_in P i mem) (o + k) n x) mid_view ∙ sym (bytes_join P C pos some (image_in P i mem) o k n (view P C v l)) in
      ap (λ (x : Seen). seen x.overlay x.bufs (bs ++ x.bytes) (Ok true)) (f ∙ range_shown P C pos some i mem mid midway mid_fits (o + k) n)
      ∙ (λ j. seen (v1 P C pos some i mem mid midway mid_fits (joined j)) (l1 P C pos some i mem mid midway mid_fits (joined j)) (g j) (Ok true))
      ∙ twice

  -- two ranges, one behind the other
  pub range_join : (v2 : Overlay) (l2 : Buffers) (bs : List ℕ) → seen v2 l2 bs (Ok true) ≡ range_read P C i mem v l o k
      → (v3 : Overlay) (l3 : Buffers) (cs : List ℕ) → seen v3 l3 cs (Ok true) ≡ range_read P C i mem v2 l2 (o + k) n → seen v3 l3 (bs ++ cs) (Ok true) ≡ range_read P C i mem v l o (k + n)
  range_join v2 l2 bs e v3 l3 cs =
      subst (λ (x : Seen). seen v3 l3 cs (Ok true) ≡ range_read P C i mem x.overlay x.bufs (o + k) n → seen v3 l3 (x.bytes ++ cs) (Ok true) ≡ range_read P C i mem v l o (k + n))
      (sym (e ∙ range_shown P C pos some i mem v l fits o k)) (then v3 l3 cs)

  -- a range, and then a part of one page
  pub range_step : (v2 : Overlay) (l2 : Buffers) (bs : List ℕ) → seen v2 l2 bs (Ok true) ≡ range_read P C i mem v l o k → 0 < n → (o + k) % P + n ≤ P → o + k + n ≤ v.size
      → (v3 : Overlay) (l3 : Buffers) (cs : List ℕ) (m : ℕ) → m ≡ n → seen v3 l3 cs (Ok true) ≡ page_read P C i mem v2 l2 (o + k) m → seen v3 l3 (bs ++ cs) (Ok true) ≡ range_read P C i mem v l o (k + n)
  range_step v2 l2 bs e some' h z v3 l3 cs m q f =
      let now : Fits P C v2 l2 = range_fits P C pos some i mem v l fits o k v2 l2 bs e in
      let same : v2.size ≡ v.size = range_size P C pos some i mem v l fits o k v2 l2 bs e in
      range_join v2 l2 bs e v3 l3 cs (f ∙ ap (page_read P C i mem v2 l2 (o + k)) q ∙ range_page P C pos some i mem v2 l2 now (o + k) n some' h (omega arith))

-- ## Any read

pub settle_size : (P C : ℕ) (v : Overlay) → (settle P C v).size ≡ v.size
unfolding settle
settle_size P C v = refl

module _ (P C : ℕ) (pos : 0 < P) (some : 0 < C) (i : Image) (mem : List ℕ) (v : Overlay) (l : Buffers) (o : ℕ) (d : List ℕ) where
  pub at_short : (t : Bool) → t ≡ short_buffers P C v l → t ≡ true → seen v l d (Err BufferTooShort) ≡ read_at P C i mem v l o d
  unfolding read_at
  at_short t e h = rw (← e, h)

  -- any overlay counts as its settled one
  at_settled : short_buffers P C v l ≡ false
      → read_at P C i mem v l o d ≡ seen (range_read P C i mem (settle P C v) l o (length d)).overlay (range_read P C i mem (settle P C v) l o (length d)).bufs (range_read P C i mem (settle P C v) l o (length d)).bytes (reading v.size o (length d))
  unfolding read_at range_read put_back settle
  at_settled h =
      let s : view P C (settle P C v) l ≡ view P C v l = settle_view P C v l in
      let b : ℕ → ℕ = image_in P i mem in
      let x : Over → Over = read_over P C b o (length d) in
      rw h (λ j. seen (overlay_of P C v.base_size (x (sym s j)))
      (bufs (refill (v.dirty * P) (flat (x (sym s j)).dirty) l.frames) (refill v.dirty (page_numbers (x (sym s j)).dirty) l.numbers)
      (refill (length (sym (cached_settled P C v.cache) j) * P) (flat (x (sym s j)).cache) l.clean) (refill (v.recorded * 2) (numbers_of (x (sym s j)).recorded) l.recs))
      (read_bytes P C b o (length d) (sym s j)) (reading v.size o (length d)))

  module _ (lent : short_buffers P C v l ≡ false) where
    answer : (v2 : Overlay) (l2 : Buffers) (bs : List ℕ) (r : Reading) → reading v.size o (length d) ≡ r → seen v2 l2 bs (Ok true) ≡ range_read P C i mem (settle P C v) l o (length d)
        → seen v2 l2 bs r ≡ read_at P C i mem v l o d
    answer v2 l2 bs r h e = (λ j. seen (e j).overlay (e j).bufs (e j).bytes (sym h j)) ∙ sym (at_settled lent)

    pub at_empty : length d ≡ 0 → seen (settle P C v) l d (Ok true) ≡ read_at P C i mem v l o d
    at_empty z = answer (settle P C v) l d (Ok true) (rw (eq-eqb (length d) 0 z))
        (ap (λ (x : List ℕ). seen (settle P C v) l x (Ok true)) (empty d z) ∙ sym (range_none P C pos some i mem (settle P C v) l (settle_fits P C v l lent) o) ∙ ap (range_read P C i mem (settle P C v) l o) (sym z))

    short : 0 < length d → v.size < o + length d → reading v.size o (length d) ≡ (Ok false)
    short h k = rw (ne_eqb (length d) 0 (omega arith), lt-leb (o + length d) v.size k)

    whole : (n : ℕ) (full : Bool) → n ≡ min (v.size - o) (length d) → full ≡ eqb (length d - n) 0 → reading v.size o (length d) ≡ Ok full
    whole n full g t = split (eqb (length d - n) 0)
        (λ y. let f : full ≡ true = t ∙ y in
        let z : length d - n ≡ 0 = eqb-true (length d - n) 0 y in
        rw f (split (eqb (length d) 0)
        (λ u. rw u)
        (λ u. let h : o + length d ≤ v.size = omega (arith, g, z, eqb-false (length d) 0 u) in rw (u, le-leb (o + length d) v.size h))))
        (λ y. let f : full ≡ false = t ∙ y in
        let z : 0 < length d - n = omega (arith, eqb-false (length d - n) 0 y) in
        rw f (short (omega (arith, z)) (omega (arith, g, z))))

    pub at_past : 0 < length d → v.size ≤ o → seen (settle P C v) l (zeros (length d)) (Ok false) ≡ read_at P C i mem v l o d
    at_past h k = answer (settle P C v) l (zeros (length d)) (Ok false) (short h (omega arith)) (sym (range_past P C pos some i mem (settle P C v) l (settle_fits P C v l lent) o (length d) (omega (arith, settle_size P C v))))

    pub at_whole : o + length d ≤ v.size → (x v2 : Overlay) (l2 : Buffers) (bs : List ℕ) → x ≡ settle P C v → seen v2 l2 bs (Ok true) ≡ range_read P C i mem x l o (length d) → seen v2 l2 bs (Ok true) ≡ read_at P C i mem v l o d
    at_whole h x v2 l2 bs s e = answer v2 l2 bs (Ok true) (rw (le-leb (o + length d) v.size h, or-true)) (e ∙ ap (λ (y : Overlay). range_read P C i mem y l o (length d)) s)

    -- past the size, zeros
    pub at_cut : o ≤ v.size → v.size < o + length d → (x v2 : Overlay) (l2 : Buffers) (bs : List ℕ) (n : ℕ) → x ≡ settle P C v → n ≡ v.size - o → seen v2 l2 bs (Ok true) ≡ range_read P C i mem x l o n
        → seen v2 l2 (bs ++ zeros (length d - (v.size - o))) (Ok false) ≡ read_at P C i mem v l o d
    at_cut h k x v2 l2 bs n q g x-is =
        let e : seen v2 l2 bs (Ok true) ≡ range_read P C i mem (settle P C v) l o (v.size - o) = x-is ∙ (λ j. range_read P C i mem (q j) l o (g j)) in
        let s : Fits P C (settle P C v) l = settle_fits P C v l lent in
        let m : ℕ = length d - (v.size - o) in
        let f : Fits P C v2 l2 = range_fits P C pos some i mem (settle P C v) l s o (v.size - o) v2 l2 bs e in
        let z : v2.size ≤ o + (v.size - o) = omega (arith, settle_size P C v, range_size P C pos some i mem (settle P C v) l s o (v.size - o) v2 l2 bs e) in
        let w : v.size - o + m ≡ length d = omega arith in
        answer v2 l2 (bs ++ zeros m) (Ok false) (short (omega arith) k)
        (range_join P C pos some i mem (settle P C v) l s o (v.size - o) m v2 l2 bs e v2 l2 (zeros m) (sym (range_past P C pos some i mem v2 l2 f (o + (v.size - o)) m z))
        ∙ ap (range_read P C i mem (settle P C v) l o) w)

    -- the bytes below the size, then zeros; full if no byte is past it
    pub at_split : (x v2 : Overlay) (l2 : Buffers) (bs : List ℕ) (n : ℕ) (full : Bool) → x ≡ settle P C v → n ≡ min (v.size - o) (length d) → full ≡ eqb (length d - n) 0
        → seen v2 l2 bs (Ok true) ≡ range_read P C i mem x l o n → seen v2 l2 (bs ++ zeros (length d - n)) (Ok full) ≡ read_at P C i mem v l o d
    unfolding filled
    at_split x v2 l2 bs n full q g t x-is =
        let e : seen v2 l2 bs (Ok true) ≡ range_read P C i mem (settle P C v) l o n = x-is ∙ (λ j. range_read P C i mem (q j) l o n) in
        let s : Fits P C (settle P C v) l = settle_fits P C v l lent in
        let m : ℕ = length d - n in
        let w : n + m ≡ length d = omega (arith, g) in
        let f : Fits P C v2 l2 = range_fits P C pos some i mem (settle P C v) l s o n v2 l2 bs e in
        let same : v2.size ≡ v.size = range_size P C pos some i mem (settle P C v) l s o n v2 l2 bs e ∙ settle_size P C v in
        let zs : seen v2 l2 (zeros m) (Ok true) ≡ range_read P C i mem v2 l2 (o + n) m = split (eqb m 0)
        (λ y. let z : m ≡ 0 = eqb-true m 0 y in rw z (sym (range_none P C pos some i mem v2 l2 f (o + n))))
        (λ y. sym (range_past P C pos some i mem v2 l2 f (o + n) m (omega (arith, same, g, eqb-false m 0 y)))) in
        answer v2 l2 (bs ++ zeros m) (Ok full) (whole n full g t)
        (range_join P C pos some i mem (settle P C v) l s o n m v2 l2 bs e v2 l2 (zeros m) zs ∙ ap (range_read P C i mem (settle P C v) l o) w)
