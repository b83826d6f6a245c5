-- A write page by page, as the code goes: one page of it, then the rest.
use Rattle.std.specs.Prelude.{◌≡◌, refl, ℕ, suc, ◌+◌, ◌-◌, ◌*◌, ◌/◌, ◌%◌, ◌≤◌, ◌<◌, min, List, take, drop, eqb, Ok, Err}
use Rattle.std.proofs.Math.Path.{sym, ap}
use Rattle.std.proofs.Common.{◌∙◌, eqb-true, drop-drop}
use native.Mathlib.Omega.{arith}
use Rattle.std.proofs.Math.Bool.{true, false}
use Rattle.std.proofs.Math.ListN.{length, length-drop}
use Rattle.config.specs.Pages.{page_place}
use Rattle.config.specs.declared.refusal.Refusal.{Refusal}
use Rattle.update.specs.declared.Overlay.{Overlay}
use Rattle.update.specs.declared.Image.{Image}
use Rattle.memory.specs.Laws.{split}
use Rattle.update.specs.ListLaws.{clash}
use Rattle.update.specs.Pages.{span}
use Rattle.update.specs.Image.{image_in}
use Rattle.update.specs.Update.{Over, whole_page, copy, Tried, accepted, refused, and_then, try_touch, try_touch_all}
use Rattle.update.specs.Rooms.{try_touch_lem, try_all}
use Rattle.update.specs.Buffers.{Buffers, frame_count, entry_count, cached, view}
use Rattle.update.specs.Laid.{Laid, laid, leave, Fits, touched, touched_all, puts}
use Rattle.update.specs.LeaveLaws.{view_room}
use Rattle.update.specs.StepLaws.{all_more, next_more, stop}
use Rattle.update.specs.PushLaws.{accepted_same}
use Rattle.update.specs.Chunks.{span_none, span_step, next_page, copy_step}

-- nothing more to do
then_done : (t : Tried) → and_then t accepted ≡ t
then_done (accepted w) = refl
then_done (refused r w) = refl

pub whole_is : (P o n : ℕ) → whole_page P o n ≡ true → (n ≡ P) × (o % P ≡ 0)
unfolding whole_page
whole_is P o n h = split (eqb n P)
    (λ t. split (eqb (o % P) 0) (λ u. (eqb-true n P t, eqb-true (o % P) 0 u)) (λ f. clash h (rw (t, f))))
    (λ f. clash h (rw f))

-- an aligned page has its bytes in one page
span_whole : (P : ℕ) → 0 < P → (o : ℕ) → o % P ≡ 0 → span P o P ≡ 1
span_whole P pos o h =
    let z : o + 0 ≡ o = omega arith in
    let e : (o + 0) % P ≡ 0 = ap (λ (x : ℕ). x % P) z ∙ h in
    let d : P - (0 + P) ≡ 0 = omega arith in
    let w : P ≡ P - 0 = omega arith in
    ap (span P o) w
    ∙ ap (λ (x : ℕ). span P x (P - 0)) (sym z)
    ∙ span_step P pos o 0 P P pos (omega (arith, e))
    ∙ ap (λ (x : ℕ). suc (span P (o + 0 + P) x)) d
    ∙ ap suc (span_none P pos (o + 0 + P))

-- of the bytes bs, which go to byte o of the file on, what is left from byte `at` on: the part of it that goes to that byte's page, and what comes after it
pub record Cut (P o : ℕ) (bs : List ℕ) (at : ℕ) (left part after : List ℕ) : Type 0 where
  pub behind : o ≤ at
  pub is : left ≡ drop (at - o) bs
  pub more : 0 < length left
  pub front : part ≡ take (length part) left
  pub back : after ≡ drop (length part) left
  pub few : length part ≡ min (length left) (P - at % P)

module _ (P : ℕ) (pos : 0 < P) (o : ℕ) (bs : List ℕ) (at : ℕ) (left part after : List ℕ) (x : Cut P o bs at left part after) where
  cut_place : o + (at - o) ≡ at
  cut_place = omega (arith, x.behind)

  cut_left : length left ≡ length bs - (at - o)
  cut_left = omega (arith, ap length x.is, length-drop (at - o) bs)

  cut_more : at - o < length bs
  cut_more = omega (arith, cut_left, x.more)

  cut_part : length part ≡ min (P - (o + (at - o)) % P) (length bs - (at - o))
  cut_part = omega (arith, x.few, cut_left, ap (λ (y : ℕ). y % P) cut_place)

  cut_next : at + length part ≡ o + (at - o + length part)
  cut_next = omega (arith, x.behind)

  cut_after : length after ≡ length bs - (at - o + length part)
  cut_after = omega (arith, ap length x.back, length-drop (length part) left, cut_left)

  -- what comes after it is the rest of the bytes
  pub part_left : after ≡ drop (at + length part - o) bs
  part_left =
      let e : at - o + length part ≡ at + length part - o = omega (arith, x.behind) in
      x.back ∙ ap (drop (length part)) x.is ∙ drop-drop (length part) (at - o) bs ∙ ap (λ (y : ℕ). drop y bs) e

  -- and starts with a page
  pub part_aligned : 0 < length after → (at + length part) % P ≡ 0
  part_aligned h =
      let e : at + length part ≡ o + (at - o) + length part = omega (arith, cut_next) in
      ap (λ (y : ℕ). y % P) e ∙ (next_page P pos o (at - o) (length part) (length bs) cut_part (omega (arith, cut_after, h))).1

module _ (P C : ℕ) (pos : 0 < P) (v : Overlay) (l : Buffers) (fits : Fits P C v l) (M : ℕ) (i : Image) (mem : List ℕ) (o : ℕ) (bs : List ℕ) where
  abbrev F : ℕ
  F = frame_count P l

  abbrev R : ℕ
  R = entry_count l

  abbrev K : ℕ
  K = length (cached P C v.cache)

  abbrev b : ℕ → ℕ
  b = image_in P i mem

  abbrev U : Over
  U = view P C v l

  -- the bytes from k on
  abbrev pub rest : ℕ → Overlay → Buffers → Laid
  rest k x y = touched_all P C M i mem x y true (copy P o bs) ((o + k) / P) (span P (o + k) (length bs - k))

  module _ (k n : ℕ) (more : k < length bs) (part : n ≡ min (P - (o + k) % P) (length bs - k)) (aligned : 0 < k → (o + k) % P ≡ 0) where
    -- the page that byte k goes to
    abbrev first : Laid
    first = touched P C M i mem v l true (copy P (o + k) (take n (drop k bs))) ((o + k) / P)

    abbrev onward : ℕ → ℕ → Over → Tried
    onward x y = try_touch_all P M x y b true (copy P o bs) ((o + k + n) / P) (span P (o + k + n) (length bs - (k + n)))

    step : touched_all P C M i mem v l true (copy P o bs) ((o + k) / P) (span P (o + k) (length bs - k))
        ≡ leave P C v l v.dirty (and_then (try_touch P M F R b true (copy P (o + k) (take n (drop k bs))) ((o + k) / P) U) (onward F R))
    unfolding touched_all
    step = ap (leave P C v l v.dirty) (copy_step P M F R pos b true o bs k n U more part aligned)

    pub pages_next : (v1 : Overlay) (l1 : Buffers) → first ≡ laid v1 l1 (Ok tt) → rest (k + n) v1 l1 ≡ rest k v l
    unfolding touched touched_all
    pages_next v1 l1 e =
        let z : o + (k + n) ≡ o + k + n = omega arith in
        ap (λ (x : ℕ). touched_all P C M i mem v1 l1 true (copy P o bs) (x / P) (span P x (length bs - (k + n)))) z
        ∙ next_more P C pos v l fits (try_touch P M F R b true (copy P (o + k) (take n (drop k bs))) ((o + k) / P) U) onward
        (try_touch_lem P M F R K b true (copy P (o + k) (take n (drop k bs))) ((o + k) / P) U (view_room P C pos v l fits))
        (λ w. all_more P M F R b true (copy P o bs) ((o + k + n) / P) (span P (o + k + n) (length bs - (k + n))) w)
        (λ w z. try_all P M F R K b true (copy P o bs) ((o + k + n) / P) (span P (o + k + n) (length bs - (k + n))) w z)
        v1 l1 e
        ∙ sym step

    -- the rest starts with a page
    pub pages_aligned : 0 < k + n → k + n < length bs → (o + (k + n)) % P ≡ 0
    pages_aligned z h = let e : o + (k + n) ≡ o + k + n = omega arith in ap (λ (x : ℕ). x % P) e ∙ (next_page P pos o k n (length bs) part h).1

    pub pages_stop : (v1 : Overlay) (l1 : Buffers) (r : Refusal) → first ≡ laid v1 l1 (Err r) → laid v1 l1 (Err r) ≡ rest k v l
    unfolding touched
    pages_stop v1 l1 r e = sym (stop P C pos v l fits v.dirty (try_touch P M F R b true (copy P (o + k) (take n (drop k bs))) ((o + k) / P) U) (onward F R) v1 l1 r e) ∙ sym step

  -- from the first byte on
  pub pages_all : rest 0 v l ≡ touched_all P C M i mem v l true (copy P o bs) (o / P) (span P o (length bs))
  pages_all =
      let z : o + 0 ≡ o = omega arith in
      let y : length bs - 0 ≡ length bs = omega arith in
      ap (λ (x : ℕ). touched_all P C M i mem v l true (copy P o bs) (x / P) (span P x (length bs - 0))) z ∙ ap (λ (x : ℕ). touched_all P C M i mem v l true (copy P o bs) (o / P) (span P o x)) y

  pub pages_done : (k : ℕ) → length bs ≤ k → laid v l (Ok tt) ≡ rest k v l
  unfolding touched_all
  pages_done k h =
      let z : span P (o + k) (length bs - k) ≡ 0 = ap (span P (o + k)) {x = length bs - k} {y = 0} (omega arith) ∙ span_none P pos (o + k) in
      rw z (sym (accepted_same P C pos v l fits 0))

  -- ## Of what is left of the bytes, cut where a page ends

  -- what is left to write, n bytes from byte `at` of the file on
  abbrev pub ahead : ℕ → ℕ → Overlay → Buffers → Laid
  ahead at n x y = touched_all P C M i mem x y true (copy P o bs) (at / P) (span P at n)

  module _ (at : ℕ) (left part after : List ℕ) (x : Cut P o bs at left part after) (aligned : o < at → at % P ≡ 0) where
    aligned_is : 0 < at - o → (o + (at - o)) % P ≡ 0
    aligned_is h = ap (λ (y : ℕ). y % P) (cut_place P pos o bs at left part after x) ∙ aligned (omega arith)

    abbrev written : Laid
    written = touched P C M i mem v l true (copy P at part) (at / P)

    written_is : (z : Laid) → written ≡ z → first (at - o) (length part) (cut_more P pos o bs at left part after x) (cut_part P pos o bs at left part after x) aligned_is ≡ z
    written_is z e =
        (λ j. touched P C M i mem v l true (copy P (cut_place P pos o bs at left part after x j) (take (length part) (sym x.is j))) (cut_place P pos o bs at left part after x j / P))
        ∙ (λ j. touched P C M i mem v l true (copy P at (sym x.front j)) (at / P)) ∙ e

    rest_is : rest (at - o) v l ≡ ahead at (length left) v l
    rest_is = λ j. ahead (cut_place P pos o bs at left part after x j) (sym (cut_left P pos o bs at left part after x) j) v l

    pub part_next : (v1 : Overlay) (l1 : Buffers) → written ≡ laid v1 l1 (Ok tt) → ahead (at + length part) (length after) v1 l1 ≡ ahead at (length left) v l
    part_next v1 l1 e =
        (λ j. ahead (cut_next P pos o bs at left part after x j) (cut_after P pos o bs at left part after x j) v1 l1)
        ∙ pages_next (at - o) (length part) (cut_more P pos o bs at left part after x) (cut_part P pos o bs at left part after x) aligned_is v1 l1 (written_is (laid v1 l1 (Ok tt)) e) ∙ rest_is

    pub part_stop : (v1 : Overlay) (l1 : Buffers) (r : Refusal) → written ≡ laid v1 l1 (Err r) → laid v1 l1 (Err r) ≡ ahead at (length left) v l
    part_stop v1 l1 r e = pages_stop (at - o) (length part) (cut_more P pos o bs at left part after x) (cut_part P pos o bs at left part after x) aligned_is v1 l1 r (written_is (laid v1 l1 (Err r)) e) ∙ rest_is

  pub part_done : (at : ℕ) (left : List ℕ) → o ≤ at → left ≡ drop (at - o) bs → length left ≡ 0 → laid v l (Ok tt) ≡ ahead at (length left) v l
  part_done at left h is z =
      let e : o + (at - o) ≡ at = omega arith in
      let d : length bs - (at - o) ≡ length left = omega (arith, ap length is, length-drop (at - o) bs) in
      pages_done (at - o) (omega (arith, z, d)) ∙ (λ j. ahead (e j) (d j) v l)

  -- ## The two kinds of write

  pub puts_pages : whole_page P o (length bs) ≡ false → touched_all P C M i mem v l true (copy P o bs) (o / P) (span P o (length bs)) ≡ puts P C M i mem v l o bs
  unfolding touched_all puts
  puts_pages f = rw f

  pub puts_whole : whole_page P o (length bs) ≡ true → touched P C M i mem v l false (copy P (o / P * P) bs) (o / P) ≡ puts P C M i mem v l o bs
  unfolding touched puts
  puts_whole t =
      let h : (length bs ≡ P) × (o % P ≡ 0) = whole_is P o (length bs) t in
      let a : o / P * P ≡ o = omega (arith, page_place P pos o, h.1) in
      let n : span P o (length bs) ≡ 1 = ap (span P o) h.0 ∙ span_whole P pos o h.1 in
      rw (t, n, a) (ap (leave P C v l v.dirty) (sym (then_done (try_touch P M F R b false (copy P o bs) (o / P) U))))
