-- A page made dirty in the lent slices, by each way out: what is in the slices then.
use Rattle.std.proofs.Math.Path.{◌≡◌, sym, ap}
use Rattle.std.specs.Prelude.{refl, Bool, not, cond, ◌&&◌, leb, eqb, take, Ok, Err}
use Rattle.std.proofs.Common.{◌∙◌, subst, length-take-le}
use Prim.Native.Nat.{ℕ, suc, ◌+◌, ◌-◌, ◌*◌, ◌/◌, ◌%◌, ◌≤◌, ◌<◌}
use Rattle.std.proofs.Math.Nat.{suc-mul, div-add-mod', mul-le-mul_right, mul-add-mod_self_right, mod-eq_of_lt}
use native.Mathlib.Omega.{arith}
use Rattle.std.proofs.Math.Bool.{true, false}
use mathlib.Core.List.{List, [], ◌∷◌}
use Rattle.std.proofs.Math.ListN.{length, get_or, set}
use borrow.Author.Tests.{leb-false, leb-true}
use Rattle.memory.specs.Bytes.{zeros, overwrite, resize}
use Rattle.memory.specs.Laws.{split, below, length-zeros, zeros_at, length-resize, set_overwrite}
use Rattle.meta.specs.declared.ZeroExtent.{ZeroExtent}
use Rattle.meta.specs.Runs.{numbers_of}
use Rattle.runs.specs.Flat.{runs_in}
use Rattle.runs.specs.FlatLaws.{length-runs_in}
use Rattle.runs.specs.Sets.{covers}
use Rattle.config.specs.declared.refusal.Refusal.{Refusal}
use Rattle.config.specs.declared.refusal.Refusal.TheVariants.{BudgetExceeded, FramesFull}
use Rattle.update.specs.declared.Overlay.{Overlay}
use Rattle.update.specs.declared.CleanCache.{CleanCache}
use Rattle.update.specs.declared.Budget.{Budget}
use Rattle.update.specs.declared.Image.{Image}
use Rattle.update.specs.Verdict.{Verdict}
use Rattle.update.specs.Admit.{Admission}
use Rattle.update.specs.Lists.{refill, tabulate, inside}
use Rattle.update.specs.ListLaws.{inside_yes, inside_lo, inside_hi, length-tabulate, tabulate_at, tabulate_alike, refill_same, refill_more, refill_part, resize-take, overwrite_own, overwrite_page, tabulate_own}
use Rattle.update.specs.Pages.{Page, page_numbers, flat, holds, put_page, drop_page, place_of, page_byte, pages_in}
use Rattle.update.specs.PageLaws.{numbers-pages_in, byte_clean, put_same, put_more, page_of, place_most, put_page-last, flat_snoc, numbers_snoc, numbers_same, length-pages_in, flat-pages_in, holds_place, free_place, flat_put, byte_place}
use Rattle.update.specs.Image.{image_in}
use Rattle.update.specs.Update.{Over, raw, raised, passing, touch, blank, copy, Tried, accepted, refused, marked, try_touch}
use Rattle.update.specs.Admit.{admitted, with_mark}
use Rattle.update.specs.Buffers.{Buffers, frame_count, entry_count, cached, settled, clean_pages, view, overlay_of, put_back}
use Rattle.update.specs.Frames.{LoadOut, cache_laid, load_laid}
use Rattle.update.specs.Laid.{Laid, bufs, laid, same, leave, Fits, touched}
use Rattle.update.specs.BufferLaws.{numbers-runs_in, cached_few, frames_fit, numbers_fit}

-- a whole page copied
pub copy_whole : (P o : ℕ) (bs : List ℕ) (g : ℕ → ℕ) → length bs ≡ P → tabulate P (λ j. copy P o bs (o + j) (g j)) ≡ bs
unfolding copy
copy_whole P o bs g e = tabulate_alike P _ _ (λ j h.
    let d : o + j - o ≡ j = omega arith in
    rw (inside_yes o (o + length bs) (o + j) (omega arith) (omega arith), d)) ∙ tabulate_own P bs e

-- ## What is asked of a budget and of the frames

never : (r : Refusal) → ◌≡◌ {A = Verdict} (Err r) (Ok tt) → ⊥
never r e = let z : ◌≡◌ {A = ℕ} 0 1 = cc in omega arith

why : (q r : Refusal) → ◌≡◌ {A = Verdict} (Err q) (Err r) → q ≡ r
why q r e = cc

-- refused or not
by_verdict : {X : Type 0} (g : Budget) (a : Verdict)
    → ((r : Refusal) → ◌≡◌ {A = Admission} (record { budget = g; verdict = a }) (record { budget = g; verdict = Err r }) → X)
    → (◌≡◌ {A = Admission} (record { budget = g; verdict = a }) (record { budget = g; verdict = Ok tt }) → X) → X
by_verdict g (Ok u) f h = h refl
by_verdict g (Err r) f h = f r refl

-- a page is admitted only where a frame is free
pub free_frame : (P F n : ℕ) (g h : Budget) → admitted P F n g ≡ record { budget = h; verdict = Ok tt } → n < F
unfolding admitted
free_frame P F n g h e = split (eqb (passing P (n + 1) g) 0)
    (λ t. split (leb F n)
    (λ u. absurd (never FramesFull (ap (λ (a : Admission). a.verdict) (rw (t, u) at e))))
    (λ u. leb-false F n u))
    (λ f. absurd (never BudgetExceeded (ap (λ (a : Admission). a.verdict) (rw f at e))))

-- one more page: what the update is then, by what the budget and the frames say
abbrev asking : ℕ → ℕ → ℕ → Budget → (Refusal → Budget → Tried) → (Budget → Tried) → Tried
asking P F n g deny allow =
    cond (not (eqb (passing P (n + 1) g) 0)) (deny BudgetExceeded (with_mark (passing P (n + 1) g) g))
    (cond (leb F n) (deny FramesFull g)
    (allow (raised P (n + 1) g)))

module _ (P F n : ℕ) (g h : Budget) (deny : Refusal → Budget → Tried) (allow : Budget → Tried) where
  asked_no : (r : Refusal) → admitted P F n g ≡ record { budget = h; verdict = Err r } → asking P F n g deny allow ≡ deny r h
  unfolding admitted
  asked_no r e = split (eqb (passing P (n + 1) g) 0)
      (λ t. split (leb F n)
      (λ u. let w : ◌≡◌ {A = Admission} (record { budget = g; verdict = Err FramesFull }) (record { budget = h; verdict = Err r }) = rw (t, u) at e in
      rw (t, u) (λ k. deny (why FramesFull r (ap (λ (a : Admission). a.verdict) w) k) (w k).budget))
      (λ u. let w : ◌≡◌ {A = Admission} (record { budget = raised P (n + 1) g; verdict = Ok tt }) (record { budget = h; verdict = Err r }) = rw (t, u) at e in
      absurd (never r (sym (ap (λ (a : Admission). a.verdict) w)))))
      (λ f. let w : ◌≡◌ {A = Admission} (record { budget = with_mark (passing P (n + 1) g) g; verdict = Err BudgetExceeded }) (record { budget = h; verdict = Err r }) = rw f at e in
      rw f (λ k. deny (why BudgetExceeded r (ap (λ (a : Admission). a.verdict) w) k) (w k).budget))

  asked_yes : admitted P F n g ≡ record { budget = h; verdict = Ok tt } → asking P F n g deny allow ≡ allow h
  unfolding admitted
  asked_yes e = split (eqb (passing P (n + 1) g) 0)
      (λ t. split (leb F n)
      (λ u. absurd (omega (arith, leb-true F n u, free_frame P F n g h e)))
      (λ u. let w : ◌≡◌ {A = Admission} (record { budget = raised P (n + 1) g; verdict = Ok tt }) (record { budget = h; verdict = Ok tt }) = rw (t, u) at e in
      rw (t, u) (ap (λ (a : Admission). allow a.budget) w)))
      (λ f. let w : ◌≡◌ {A = Admission} (record { budget = with_mark (passing P (n + 1) g) g; verdict = Err BudgetExceeded }) (record { budget = h; verdict = Ok tt }) = rw f at e in
      absurd (never BudgetExceeded (ap (λ (a : Admission). a.verdict) w)))

-- bytes written over the frames
abbrev after : ℕ → List ℕ → Laid → Laid
after at new y = laid y.overlay (bufs (overwrite at new y.bufs.frames) y.bufs.numbers y.bufs.clean y.bufs.recs) y.verdict

-- ## The update as it lies in the slices

-- an overlay's numbers with other dirty pages, another cache and another budget
abbrev pub moved : Overlay → ℕ → CleanCache → Budget → Overlay
moved v n c g = record { base_size = v.base_size; size = v.size; dirty = n; recorded = v.recorded; cache = c; budget = g }

-- where page p stands among the dirty pages; behind them where it is not one
abbrev pub place_in : Overlay → Buffers → ℕ → ℕ
place_in v l p = place_of (take v.dirty l.numbers) p

module _ (P C : ℕ) (pos : 0 < P) (v : Overlay) (l : Buffers) (fits : Fits P C v l) where
  pub few_numbers : v.dirty ≤ length l.numbers
  few_numbers = numbers_fit P v.dirty l fits.0

  pub few_frames : v.dirty * P ≤ length l.frames
  few_frames = frames_fit P v.dirty l pos fits.0

  few_clean : length (cached P C v.cache) * P ≤ length l.clean
  few_clean = omega (arith, mul-le-mul_right P (cached_few P C v.cache), fits.1.1.0)

  -- the dirty pages' numbers
  abbrev ns : List ℕ
  ns = take v.dirty l.numbers

  length-ns : length ns ≡ v.dirty
  length-ns = length-take-le v.dirty l.numbers few_numbers

  -- the dirty pages
  abbrev D : List Page
  D = pages_in P ns l.frames

  pub dirty_view : (view P C v l).dirty ≡ pages_in P (take v.dirty l.numbers) l.frames
  unfolding view
  dirty_view = ap (λ (x : List ℕ). pages_in P x l.frames) (resize-take v.dirty l.numbers few_numbers)

  flat_view : flat D ≡ take (v.dirty * P) l.frames
  flat_view = subst (λ (n : ℕ). flat D ≡ take (n * P) l.frames) length-ns (flat-pages_in P ns l.frames (rw length-ns few_frames))

  flat_clean : flat (clean_pages P C v.cache l.clean) ≡ take (length (cached P C v.cache) * P) l.clean
  flat_clean = flat-pages_in P (cached P C v.cache) l.clean few_clean

  pub overlay_view : overlay_of P C v.base_size (view P C v l) ≡ v
  unfolding overlay_of view settled
  overlay_view =
      let d : length (pages_in P (resize v.dirty l.numbers) l.frames) ≡ v.dirty = length-pages_in P (resize v.dirty l.numbers) l.frames ∙ length-resize v.dirty l.numbers in
      let r : length (runs_in v.recorded l.recs) ≡ v.recorded = length-runs_in l.recs v.recorded fits.1.0 in
      let n : page_numbers (clean_pages P C v.cache l.clean) ≡ cached P C v.cache = numbers-pages_in P (cached P C v.cache) l.clean in
      let k : length (clean_pages P C v.cache l.clean) ≡ length (cached P C v.cache) = length-pages_in P (cached P C v.cache) l.clean in
      let c : ◌≡◌ {A = CleanCache} (record { pages = resize C (page_numbers (clean_pages P C v.cache l.clean)); count = length (clean_pages P C v.cache l.clean) }) v.cache =
      (λ i. record { pages = resize C (n i); count = k i }) ∙ sym fits.1.1.1 in
      λ i. record { base_size = v.base_size; size = v.size; dirty = d i; recorded = r i; cache = c i; budget = v.budget }

  pub put_view : put_back P C v v.dirty (view P C v l) l ≡ l
  unfolding put_back view
  put_view =
      let e : pages_in P (resize v.dirty l.numbers) l.frames ≡ D = dirty_view in
      let f : refill (v.dirty * P) (flat (pages_in P (resize v.dirty l.numbers) l.frames)) l.frames ≡ l.frames =
      rw (e, flat_view) (refill_same (v.dirty * P) l.frames few_frames) in
      let n : refill v.dirty (page_numbers (pages_in P (resize v.dirty l.numbers) l.frames)) l.numbers ≡ l.numbers =
      rw (e, numbers-pages_in P ns l.frames) (refill_same v.dirty l.numbers few_numbers) in
      let c : refill (length (cached P C v.cache) * P) (flat (clean_pages P C v.cache l.clean)) l.clean ≡ l.clean =
      rw flat_clean (refill_same (length (cached P C v.cache) * P) l.clean few_clean) in
      let r : refill (v.recorded * 2) (numbers_of (runs_in v.recorded l.recs)) l.recs ≡ l.recs =
      rw (numbers-runs_in v.recorded l.recs fits.1.0) (refill_same (v.recorded * 2) l.recs fits.1.0) in
      λ i. record { frames = f i; numbers = n i; clean = c i; recs = r i }

  -- ## Where the page stands

  module _ (p : ℕ) where
    abbrev place : ℕ
    place = place_in v l p

    held_here : place < v.dirty → holds D p ≡ true
    held_here h = holds_place P ns l.frames p (rw length-ns h)

    free_here : v.dirty ≤ place → holds D p ≡ false
    free_here h = free_place P ns l.frames p (rw length-ns h)

    pub place_held : place_in v l p < v.dirty → holds (view P C v l).dirty p ≡ true
    place_held h = rw dirty_view (held_here h)

    pub place_free : v.dirty ≤ place_in v l p → holds (view P C v l).dirty p ≡ false
    place_free h = rw dirty_view (free_here h)

    pub place_last : v.dirty ≤ place_in v l p → place_in v l p ≡ v.dirty
    place_last h = omega (arith, place_most ns p, length-ns)

  -- ## What is left in the slices

  abbrev R : List ZeroExtent
  R = runs_in v.recorded l.recs

  -- the clean pages
  abbrev Q : List Page
  Q = clean_pages P C v.cache l.clean

  abbrev over : List Page → List Page → Budget → Over
  over d q g = record { size = v.size; dirty = d; recorded = R; cache = q; budget = g }

  view_over : view P C v l ≡ over D Q v.budget
  unfolding view
  view_over = λ i. record { size = v.size; dirty = dirty_view i; recorded = R; cache = Q; budget = v.budget }

  left_with : (d q : List Page) (g : Budget) (a : Verdict)
      → laid (overlay_of P C v.base_size (over d q g)) (put_back P C v v.dirty (over d q g) l) a
      ≡ laid (moved v (length d) (cache_laid P C v.cache l.clean q).cache g)
      (bufs (refill (v.dirty * P) (flat d) l.frames) (refill v.dirty (page_numbers d) l.numbers) (cache_laid P C v.cache l.clean q).clean l.recs) a
  unfolding overlay_of put_back cache_laid
  left_with d q g a =
      let r : length R ≡ v.recorded = length-runs_in l.recs v.recorded fits.1.0 in
      let w : refill (v.recorded * 2) (numbers_of R) l.recs ≡ l.recs = rw (numbers-runs_in v.recorded l.recs fits.1.0) (refill_same (v.recorded * 2) l.recs fits.1.0) in
      λ i. record {
        overlay = record { base_size = v.base_size; size = v.size; dirty = length d; recorded = r i; cache = record { pages = resize C (page_numbers q); count = length q }; budget = g };
        bufs = record {
          frames = refill (v.dirty * P) (flat d) l.frames;
          numbers = refill v.dirty (page_numbers d) l.numbers;
          clean = refill (length (cached P C v.cache) * P) (flat q) l.clean;
          recs = w i;
        };
        verdict = a;
      }

  cache_same : (cache_laid P C v.cache l.clean Q).cache ≡ v.cache
  unfolding cache_laid settled
  cache_same =
      let n : page_numbers Q ≡ cached P C v.cache = numbers-pages_in P (cached P C v.cache) l.clean in
      let k : length Q ≡ length (cached P C v.cache) = length-pages_in P (cached P C v.cache) l.clean in
      (λ i. record { pages = resize C (n i); count = k i }) ∙ sym fits.1.1.1

  clean_same : (cache_laid P C v.cache l.clean Q).clean ≡ l.clean
  unfolding cache_laid
  clean_same = rw flat_clean (refill_same (length (cached P C v.cache) * P) l.clean few_clean)

  module _ (M : ℕ) (i : Image) (mem : List ℕ) (p : ℕ) where
    abbrev F : ℕ
    F = frame_count P l

    abbrev b : ℕ → ℕ
    b = image_in P i mem

    -- page p's bytes as they are, and as they become
    abbrev bytes_of : (ℕ → ℕ → ℕ) → List ℕ
    bytes_of u = tabulate P (λ j. u (p * P + j) (raw P b (over D Q v.budget) (p * P + j)))

    -- the clean pages after it
    abbrev kept : Bool → List Page
    kept loaded = cond (loaded && not (covers R p)) (drop_page p Q) Q

    abbrev denied : Refusal → Budget → Tried
    denied r g = refused r (over D Q g)

    abbrev taken : Bool → (ℕ → ℕ → ℕ) → Budget → Tried
    taken loaded u g = accepted (over (put_page p (bytes_of u) D) (kept loaded) g)

    touched_try : (loaded : Bool) (u : ℕ → ℕ → ℕ)
        → touched P C M i mem v l loaded u p ≡ leave P C v l v.dirty (try_touch P M F (entry_count l) b loaded u p (over D Q v.budget))
    unfolding touched
    touched_try loaded u = ap (λ (w : Over). leave P C v l v.dirty (try_touch P M F (entry_count l) b loaded u p w)) view_over

    try_held : (loaded : Bool) (u : ℕ → ℕ → ℕ) → holds D p ≡ true
        → try_touch P M F (entry_count l) b loaded u p (over D Q v.budget) ≡ accepted (over (put_page p (bytes_of u) D) Q v.budget)
    unfolding try_touch touch
    try_held loaded u h = rw h

    try_free : (loaded : Bool) (u : ℕ → ℕ → ℕ) → holds D p ≡ false
        → try_touch P M F (entry_count l) b loaded u p (over D Q v.budget)
        ≡ asking P F v.dirty v.budget denied (taken loaded u)
    unfolding try_touch touch marked with_mark
    try_free loaded u h =
        let n : length D ≡ v.dirty = length-pages_in P ns l.frames ∙ length-ns in
        let s : suc v.dirty ≡ v.dirty + 1 = omega arith in
        rw (h, n, s)

    -- ## A page that is dirty

    -- each byte of it, from its frame
    held_bytes : place_in v l p < v.dirty → (u : ℕ → ℕ → ℕ) → bytes_of u ≡ tabulate P (λ j. u (p * P + j) (get_or l.frames (place_in v l p * P + j) 0))
    unfolding raw
    held_bytes h u = tabulate_alike P _ _ (λ j k.
        let q : (p * P + j) / P ≡ p = page_of P pos p j k in
        let r : (p * P + j) % P ≡ j = mul-add-mod_self_right p P j ∙ mod-eq_of_lt k in
        let e : page_byte P D (p * P + j) (cond (covers R ((p * P + j) / P)) 0 (page_byte P Q (p * P + j) (b (p * P + j)))) ≡ get_or l.frames (place_in v l p * P + j) 0 =
        byte_place P ns l.frames (p * P + j) _ pos (rw (q, length-ns) h) ∙ rw (q, r) in
        ap (u (p * P + j)) e)

    pub frame_held : place_in v l p < v.dirty → place_in v l p * P + P ≤ length l.frames
    frame_held h = omega (arith, mul-le-mul_right {m = suc (place_in v l p)} P h, suc-mul (place_in v l p) P, few_frames)

    pub touched_held : place_in v l p < v.dirty → (loaded : Bool) (u : ℕ → ℕ → ℕ)
        → touched P C M i mem v l loaded u p
        ≡ laid v (bufs (overwrite (place_in v l p * P) (tabulate P (λ j. u (p * P + j) (get_or l.frames (place_in v l p * P + j) 0))) l.frames) l.numbers l.clean l.recs) (Ok tt)
    unfolding leave
    touched_held h loaded u =
        let t : holds D p ≡ true = held_here p h in
        let n : length (put_page p (bytes_of u) D) ≡ v.dirty = put_same p (bytes_of u) D t ∙ length-pages_in P ns l.frames ∙ length-ns in
        let lb : length (bytes_of u) ≡ P = length-tabulate P _ in
        let ff : refill (v.dirty * P) (flat (put_page p (bytes_of u) D)) l.frames ≡ overwrite (place_in v l p * P) (bytes_of u) l.frames =
        rw (flat_put P ns l.frames p (bytes_of u) (rw length-ns h) (rw length-ns few_frames) lb, length-ns)
        (rw lb at (refill_part (v.dirty * P) (place_in v l p * P) (bytes_of u) l.frames few_frames (omega (arith, mul-le-mul_right {m = suc (place_in v l p)} P h, suc-mul (place_in v l p) P)))) in
        let fn : refill v.dirty (page_numbers (put_page p (bytes_of u) D)) l.numbers ≡ l.numbers =
        rw (numbers_same p (bytes_of u) D t, numbers-pages_in P ns l.frames) (refill_same v.dirty l.numbers few_numbers) in
        touched_try loaded u
        ∙ ap (leave P C v l v.dirty) (try_held loaded u t)
        ∙ left_with (put_page p (bytes_of u) D) Q v.budget (Ok tt)
        ∙ (λ k. laid (moved v (n k) (cache_same k) v.budget) (bufs (ff k) (fn k) (clean_same k) l.recs) (Ok tt))
        ∙ ap (λ (x : List ℕ). laid v (bufs (overwrite (place_in v l p * P) x l.frames) l.numbers l.clean l.recs) (Ok tt)) (held_bytes h u)

    -- it is left as it is
    pub load_held : place_in v l p < v.dirty → (loaded : Bool) → touched P C M i mem v l loaded same p ≡ laid v l (Ok tt)
    load_held h loaded = touched_held h loaded same ∙ ap (λ (x : List ℕ). laid v (bufs x l.numbers l.clean l.recs) (Ok tt)) (overwrite_own (place_in v l p * P) P l.frames)

    -- ## A page that is not dirty

    pub load_refused : v.dirty ≤ place_in v l p → (g : Budget) (r : Refusal) → admitted P (frame_count P l) v.dirty v.budget ≡ record { budget = g; verdict = Err r }
        → (loaded : Bool) (u : ℕ → ℕ → ℕ) → touched P C M i mem v l loaded u p ≡ laid (moved v v.dirty v.cache g) l (Err r)
    unfolding leave
    load_refused h g r e loaded u =
        let n : length D ≡ v.dirty = length-pages_in P ns l.frames ∙ length-ns in
        let ff : refill (v.dirty * P) (flat D) l.frames ≡ l.frames = rw flat_view (refill_same (v.dirty * P) l.frames few_frames) in
        let fn : refill v.dirty (page_numbers D) l.numbers ≡ l.numbers = rw (numbers-pages_in P ns l.frames) (refill_same v.dirty l.numbers few_numbers) in
        touched_try loaded u
        ∙ ap (leave P C v l v.dirty) (try_free loaded u (free_here p h) ∙ asked_no P F v.dirty v.budget g denied (taken loaded u) r e)
        ∙ left_with D Q g (Err r)
        ∙ (λ k. laid (moved v (n k) (cache_same k) g) (bufs (ff k) (fn k) (clean_same k) l.recs) (Err r))

    -- the page as it is loaded
    abbrev loads : LoadOut
    loads = load_laid P C v.cache l.clean b (covers R p) p

    load_byte : (j : ℕ) → j < P → get_or loads.frame j 0 ≡ cond (covers R p) 0 (page_byte P Q (p * P + j) (b (p * P + j)))
    unfolding load_laid
    load_byte j h = split (covers R p) (λ t. rw t (zeros_at P j)) (λ f. rw f (tabulate_at P _ j h))

    load-length : length loads.frame ≡ P
    unfolding load_laid
    load-length = split (covers R p) (λ t. rw t (length-zeros P)) (λ f. rw f (length-tabulate P _))

    load_cache : (cache_laid P C v.cache l.clean (kept true)).cache ≡ loads.cache
    unfolding load_laid
    load_cache = split (covers R p) (λ t. rw t cache_same) (λ f. rw f)

    load_clean : (cache_laid P C v.cache l.clean (kept true)).clean ≡ loads.clean
    unfolding load_laid
    load_clean = split (covers R p) (λ t. rw t clean_same) (λ f. rw f)

    free_bytes : v.dirty ≤ place_in v l p → (u : ℕ → ℕ → ℕ) → bytes_of u ≡ tabulate P (λ j. u (p * P + j) (get_or loads.frame j 0))
    unfolding raw
    free_bytes h u = tabulate_alike P _ _ (λ j k.
        let q : (p * P + j) / P ≡ p = page_of P pos p j k in
        let e : page_byte P D (p * P + j) (cond (covers R ((p * P + j) / P)) 0 (page_byte P Q (p * P + j) (b (p * P + j)))) ≡ get_or loads.frame j 0 =
        byte_clean P pos D (p * P + j) _ (rw q (free_here p h)) ∙ rw q (sym (load_byte j k)) in
        ap (u (p * P + j)) e)

    module _ (free : v.dirty ≤ place_in v l p) (g : Budget) (yes : admitted P (frame_count P l) v.dirty v.budget ≡ record { budget = g; verdict = Ok tt }) where
      room_left : v.dirty < F
      room_left = free_frame P F v.dirty v.budget g yes

      pub number_free : v.dirty + 1 ≤ length l.numbers
      number_free = omega (arith, numbers_fit P (suc v.dirty) l room_left)

      pub frame_free : v.dirty * P + P ≤ length l.frames
      frame_free = omega (arith, frames_fit P (suc v.dirty) l pos room_left, suc-mul v.dirty P)

      touched_new : (loaded : Bool) (u : ℕ → ℕ → ℕ)
          → touched P C M i mem v l loaded u p
          ≡ laid (moved v (v.dirty + 1) (cache_laid P C v.cache l.clean (kept loaded)).cache g)
          (bufs (overwrite (v.dirty * P) (tabulate P (λ j. u (p * P + j) (get_or loads.frame j 0))) l.frames) (set l.numbers v.dirty p) (cache_laid P C v.cache l.clean (kept loaded)).clean l.recs) (Ok tt)
      unfolding leave
      touched_new loaded u =
          let t : holds D p ≡ false = free_here p free in
          let n : length (put_page p (bytes_of u) D) ≡ v.dirty + 1 = put_more p (bytes_of u) D t ∙ omega (arith, length-pages_in P ns l.frames, length-ns) in
          let lb : length (bytes_of u) ≡ P = length-tabulate P _ in
          let ff : refill (v.dirty * P) (flat (put_page p (bytes_of u) D)) l.frames ≡ overwrite (v.dirty * P) (bytes_of u) l.frames =
          rw (put_page-last p (bytes_of u) D t, flat_snoc, flat_view) (refill_more (v.dirty * P) (bytes_of u) l.frames (rw lb frame_free)) in
          let fn : refill v.dirty (page_numbers (put_page p (bytes_of u) D)) l.numbers ≡ set l.numbers v.dirty p =
          rw (put_page-last p (bytes_of u) D t, numbers_snoc, numbers-pages_in P ns l.frames)
          (refill_more v.dirty (p ∷ []) l.numbers number_free ∙ sym (set_overwrite v.dirty p l.numbers (omega (arith, number_free)))) in
          touched_try loaded u
          ∙ ap (leave P C v l v.dirty) (try_free loaded u t ∙ asked_yes P F v.dirty v.budget g denied (taken loaded u) yes)
          ∙ left_with (put_page p (bytes_of u) D) (kept loaded) g (Ok tt)
          ∙ (λ k. laid (moved v (n k) (cache_laid P C v.cache l.clean (kept loaded)).cache g) (bufs (ff k) (fn k) (cache_laid P C v.cache l.clean (kept loaded)).clean l.recs) (Ok tt))
          ∙ ap (λ (x : List ℕ). laid (moved v (v.dirty + 1) (cache_laid P C v.cache l.clean (kept loaded)).cache g)
          (bufs (overwrite (v.dirty * P) x l.frames) (set l.numbers v.dirty p) (cache_laid P C v.cache l.clean (kept loaded)).clean l.recs) (Ok tt)) (free_bytes free u)

      pub load_new : touched P C M i mem v l true same p
          ≡ laid (moved v (v.dirty + 1) (load_laid P C v.cache l.clean (image_in P i mem) (covers (runs_in v.recorded l.recs) p) p).cache g)
          (bufs (overwrite (v.dirty * P) (load_laid P C v.cache l.clean (image_in P i mem) (covers (runs_in v.recorded l.recs) p) p).frame l.frames) (set l.numbers v.dirty p)
          (load_laid P C v.cache l.clean (image_in P i mem) (covers (runs_in v.recorded l.recs) p) p).clean l.recs) (Ok tt)
      load_new = touched_new true same
          ∙ (λ k. laid (moved v (v.dirty + 1) (load_cache k) g) (bufs (overwrite (v.dirty * P) (tabulate_own P loads.frame load-length k) l.frames) (set l.numbers v.dirty p) (load_clean k) l.recs) (Ok tt))

      -- without loading
      pub whole_new : (bs : List ℕ) → length bs ≡ P → touched P C M i mem v l false (copy P (p * P) bs) p
          ≡ laid (moved v (v.dirty + 1) v.cache g) (bufs (overwrite (v.dirty * P) bs l.frames) (set l.numbers v.dirty p) l.clean l.recs) (Ok tt)
      whole_new bs e = touched_new false (copy P (p * P) bs)
          ∙ (λ k. laid (moved v (v.dirty + 1) (cache_same k) g) (bufs (overwrite (v.dirty * P) (copy_whole P (p * P) bs (λ j. get_or loads.frame j 0) e k) l.frames) (set l.numbers v.dirty p) (clean_same k) l.recs) (Ok tt))

    pub whole_held : place_in v l p < v.dirty → (bs : List ℕ) → length bs ≡ P → touched P C M i mem v l false (copy P (p * P) bs) p
        ≡ laid v (bufs (overwrite (place_in v l p * P) bs l.frames) l.numbers l.clean l.recs) (Ok tt)
    whole_held h bs e = touched_held h false (copy P (p * P) bs)
        ∙ ap (λ (x : List ℕ). laid v (bufs (overwrite (place_in v l p * P) x l.frames) l.numbers l.clean l.recs) (Ok tt)) (copy_whole P (p * P) bs (λ j. get_or l.frames (place_in v l p * P + j) 0) e)

    -- ## The page loaded, and then changed

    pub refused_alike : (u : ℕ → ℕ → ℕ) (r : Refusal) (v' : Overlay) (l' : Buffers) → touched P C M i mem v l true same p ≡ laid v' l' (Err r)
        → touched P C M i mem v l true u p ≡ laid v' l' (Err r)
    refused_alike u r v' l' e = below (place_in v l p) v.dirty
        (λ lo. absurd (never r (ap (λ (y : Laid). y.verdict) (sym e ∙ load_held lo true))))
        (λ hi. by_verdict (admitted P F v.dirty v.budget).budget (admitted P F v.dirty v.budget).verdict
        (λ q d. load_refused hi _ q d true u ∙ sym (load_refused hi _ q d true same) ∙ e)
        (λ d. absurd (never r (ap (λ (y : Laid). y.verdict) (sym e ∙ load_new hi _ d)))))

    -- its frame lies in the pool
    pub frame_loaded : (v' : Overlay) (l' : Buffers) → touched P C M i mem v l true same p ≡ laid v' l' (Ok tt) → place_in v l p * P + P ≤ length l.frames
    frame_loaded v' l' e = below (place_in v l p) v.dirty
        (λ lo. frame_held lo)
        (λ hi. by_verdict (admitted P F v.dirty v.budget).budget (admitted P F v.dirty v.budget).verdict
        (λ q d. absurd (never q (ap (λ (y : Laid). y.verdict) (sym (load_refused hi _ q d true same) ∙ e))))
        (λ d. rw (place_last p hi) (frame_free hi _ d)))

    pub touched_over : (k : ℕ) (new : List ℕ) (u : ℕ → ℕ → ℕ) → k + length new ≤ P
        → ((j x : ℕ) → j < P → u (p * P + j) x ≡ cond (inside k (k + length new) j) (get_or new (j - k) 0) x)
        → (v' : Overlay) (f n c r : List ℕ) → touched P C M i mem v l true same p ≡ laid v' (bufs f n c r) (Ok tt)
        → touched P C M i mem v l true u p ≡ laid v' (bufs (overwrite (place_in v l p * P + k) new f) n c r) (Ok tt)
    touched_over k new u h w v' f n c r e = below (place_in v l p) v.dirty
        (λ lo.
        let a : ℕ = place_in v l p * P in
        touched_held lo true u
        ∙ ap (λ (x : List ℕ). laid v (bufs x l.numbers l.clean l.recs) (Ok tt))
        (sym (overwrite_page P a k new l.frames (λ j. u (p * P + j) (get_or l.frames (a + j) 0)) (λ j. get_or l.frames (a + j) 0) h (frame_held lo) (λ j m. w j _ m)))
        ∙ ap (after (a + k) new) (sym (touched_held lo true same) ∙ e))
        (λ hi. by_verdict (admitted P F v.dirty v.budget).budget (admitted P F v.dirty v.budget).verdict
        (λ q d. absurd (never q (ap (λ (y : Laid). y.verdict) (sym (load_refused hi _ q d true same) ∙ e))))
        (λ d.
        let a : ℕ = v.dirty * P in
        let s : overwrite (a + k) new (overwrite a (tabulate P (λ j. get_or loads.frame j 0)) l.frames) ≡ overwrite a (tabulate P (λ j. u (p * P + j) (get_or loads.frame j 0))) l.frames =
        overwrite_page P a k new l.frames (λ j. u (p * P + j) (get_or loads.frame j 0)) (λ j. get_or loads.frame j 0) h (frame_free hi _ d) (λ j m. w j _ m) in
        touched_new hi _ d true u
        ∙ ap (λ (x : List ℕ). laid (moved v (v.dirty + 1) (cache_laid P C v.cache l.clean (kept true)).cache (admitted P F v.dirty v.budget).budget)
        (bufs x (set l.numbers v.dirty p) (cache_laid P C v.cache l.clean (kept true)).clean l.recs) (Ok tt)) (sym s)
        ∙ ap (after (a + k) new) (sym (touched_new hi _ d true same) ∙ e)
        ∙ ap (λ (x : ℕ). laid v' (bufs (overwrite (x * P + k) new f) n c r) (Ok tt)) (sym (place_last p hi))))

    pub touched_blank : (a e : ℕ) → a ≤ e → e ≤ P → (v' : Overlay) (f n c r : List ℕ) → touched P C M i mem v l true same p ≡ laid v' (bufs f n c r) (Ok tt)
        → touched P C M i mem v l true (blank P (p * P + a) (p * P + e)) p ≡ laid v' (bufs (overwrite (place_in v l p * P + a) (zeros (e - a)) f) n c r) (Ok tt)
    unfolding blank
    touched_blank a e h k = touched_over a (zeros (e - a)) (blank P (p * P + a) (p * P + e)) (omega (arith, length-zeros (e - a)))
        (λ j x m.
        let z : length (zeros (e - a)) ≡ e - a = length-zeros (e - a) in
        below j a
        (λ lo. rw (inside_lo (p * P + a) (p * P + e) (p * P + j) (omega arith), inside_lo a (a + length (zeros (e - a))) j lo))
        (λ hi. below j e
        (λ near. rw (inside_yes (p * P + a) (p * P + e) (p * P + j) (omega arith) (omega arith), inside_yes a (a + length (zeros (e - a))) j hi (omega arith)) (sym (zeros_at (e - a) (j - a))))
        (λ past. rw (inside_hi (p * P + a) (p * P + e) (p * P + j) (omega arith), inside_hi a (a + length (zeros (e - a))) j (omega arith)))))

  pub touched_copy : (M : ℕ) (i : Image) (mem : List ℕ) (o : ℕ) (bs : List ℕ) → o % P + length bs ≤ P
      → (v' : Overlay) (f n c r : List ℕ) → touched P C M i mem v l true same (o / P) ≡ laid v' (bufs f n c r) (Ok tt)
      → touched P C M i mem v l true (copy P o bs) (o / P) ≡ laid v' (bufs (overwrite (place_in v l (o / P) * P + o % P) bs f) n c r) (Ok tt)
  unfolding copy
  touched_copy M i mem o bs h = touched_over M i mem (o / P) (o % P) bs (copy P o bs) h
      (λ j x m.
      let d : o / P * P + o % P ≡ o = div-add-mod' o P in
      below j (o % P)
      (λ lo. rw (inside_lo o (o + length bs) (o / P * P + j) (omega arith), inside_lo (o % P) (o % P + length bs) j lo))
      (λ hi. below j (o % P + length bs)
      (λ near.
      let s : o / P * P + j - o ≡ j - o % P = omega arith in
      rw (inside_yes o (o + length bs) (o / P * P + j) (omega arith) (omega arith), inside_yes (o % P) (o % P + length bs) j hi near, s))
      (λ past. rw (inside_hi o (o + length bs) (o / P * P + j) (omega arith), inside_hi (o % P) (o % P + length bs) j past))))
