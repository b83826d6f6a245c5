-- Laws of a pool of pages as the code walks it.
use Rattle.std.specs.Prelude.{Option, Some, None, ◌≡◌, refl, ℕ, zero, suc, ◌+◌, ◌-◌, ◌*◌, ◌/◌, ◌≤◌, ◌<◌, min, Bool, true, false, ◌||◌, List, [], ◌∷◌, ◌++◌, ltb, eqb, length, take, drop, get_or, set, Ok, Err}
use Rattle.std.specs.List.{copy_within, position, position_or_len, fold}
use Rattle.std.specs.Option.{unwrap_or}
use Rattle.std.specs.Simd.{first_chunks}
use Rattle.std.proofs.lemmas.List.Sums.{prefix_len-le-length}
use Rattle.std.proofs.Common.{take_all, append_assoc, sym, ap, ◌∙◌, arith, true≢false, length-take, length-drop, drop_of_length-le, drop-cons, take-suc, get_or-take, get_or-drop, drop-drop}
use Rattle.std.proofs.Math.Numerals.{add-one}
use Rattle.std.proofs.lemmas.List.{set-get_or}
use borrow.Author.Tests.{ltb-true, ltb-false, eq-eqb, ne_eqb, lt-ltb, le-ltb, le-leb, lt-leb}
use Rattle.memory.specs.Bytes.{overwrite}
use Rattle.memory.specs.Laws.{split, length_part, length-overwrite, overwrite_hi, overwrite_join, set_overwrite}
use Rattle.update.specs.Pages.{place_of}
use Rattle.update.specs.Frames.{Pool, pool}
use Rattle.pool.specs.Pool.{among, place_found, stays, retained_one, retained_front, kept_one, walked, pushes, pushed}
use Rattle.config.specs.declared.refusal.Refusal.TheVariants.{RecordFull}
use Rattle.update.specs.ListLaws.{overwrite_self}

-- a part and the next element
part_more : (from k : ℕ) (xs : List ℕ) → from + k < length xs → take (suc k) (drop from xs) ≡ take k (drop from xs) ++ (get_or xs (from + k) 0 ∷ [])
part_more from k xs h = take-suc (drop from xs) k 0 (simp length-drop (omega arith)) ∙ rw (get_or-drop from xs k 0)

-- ## A search among the numbers

module _ (count : ℕ) (ns : List ℕ) (page i : ℕ) (h : i < min count (length ns)) where
  front : drop i (take count ns) ≡ get_or ns i 0 ∷ drop (i + 1) (take count ns)
  front = rw (add-one i) (drop-cons (take count ns) i 0 (simp length-take (omega arith)) ∙ rw (get_or-take count ns i 0 (omega arith)))

  pub place_hit : get_or ns i 0 ≡ page → i + place_of (drop i (take count ns)) page ≡ i
  place_hit e = rw (front, eq-eqb (get_or ns i 0) page e) (omega arith)

  pub place_miss : (get_or ns i 0 ≡ page → ⊥) → i + place_of (drop i (take count ns)) page ≡ i + 1 + place_of (drop (i + 1) (take count ns)) page
  place_miss ne = rw (front, ne_eqb (get_or ns i 0) page ne) (omega arith)

pub place_end : (count : ℕ) (ns : List ℕ) (page i : ℕ) → min count (length ns) ≤ i → i + place_of (drop i (take count ns)) page ≡ i
place_end count ns page i h = rw (drop_of_length-le (take count ns) {i = i} (simp length-take (omega arith))) (omega arith)

pub place_first : (ns : List ℕ) (q : ℕ) → position_or_len (λ (n : ℕ). eqb n q) ns ≡ place_of ns q
place_first [] q = refl
place_first (n ∷ ns) q = split (eqb n q) (λ t. rw t) (λ f. rw (f, place_first ns q) (omega arith))

-- ## Found or not

pub found_at : (ns : List ℕ) (q at : ℕ) → Some at ≡ place_found ns q → (at ≡ place_of ns q) × (at < length ns)
found_at ns q at e = split (ltb (place_of ns q) (length ns))
    (λ t. let w : ◌≡◌ {A = Option ℕ} (Some at) (Some (place_of ns q)) = rw t at e in
    let k : at ≡ place_of ns q = cc in
    (k, omega (arith, ltb-true (place_of ns q) (length ns) t)))
    (λ f. let w : ◌≡◌ {A = Option ℕ} (Some at) None = rw f at e in cc)

pub found_none : (ns : List ℕ) (q : ℕ) → None ≡ place_found ns q → length ns ≤ place_of ns q
found_none ns q e = split (ltb (place_of ns q) (length ns))
    (λ t. let w : ◌≡◌ {A = Option ℕ} None (Some (place_of ns q)) = rw t at e in cc)
    (λ f. ltb-false (place_of ns q) (length ns) f)

-- the numbers behind the first k, of which none is the page
module _ (k : ℕ) (ns rest : List ℕ) (q : ℕ) (past : place_of ns q ≡ k + place_of rest q) (l : k + length rest ≡ length ns) where
  pub rest_found : (at : ℕ) → Some at ≡ position (λ (n : ℕ). eqb n q) rest → Some (k + at) ≡ place_found ns q
  rest_found at e =
      let h : Some at ≡ place_found rest q = rw (place_first rest q) at e in
      let f : (at ≡ place_of rest q) × (at < length rest) = found_at rest q at h in
      let p : k + at ≡ place_of ns q = omega (arith, f, past) in
      let t : ltb (place_of ns q) (length ns) ≡ true = lt-ltb (place_of ns q) (length ns) (omega (arith, f, past, l)) in
      rw (t, p)

  pub rest_missed : None ≡ position (λ (n : ℕ). eqb n q) rest → None ≡ place_found ns q
  rest_missed e =
      let h : None ≡ place_found rest q = rw (place_first rest q) at e in
      let f : length rest ≤ place_of rest q = found_none rest q h in
      let t : ltb (place_of ns q) (length ns) ≡ false = le-ltb (place_of ns q) (length ns) (omega (arith, f, past, l)) in
      rw t

-- ## By blocks

or_swap : (a b c : Bool) → (a || (b || c)) ≡ (b || (a || c))
or_swap true true c = refl
or_swap true false c = refl
or_swap false b c = refl

among_more : (ns : List ℕ) (n q : ℕ) → among (ns ++ (n ∷ [])) q ≡ (eqb n q || among ns q)
among_more [] n q = refl
among_more (m ∷ ns) n q = rw (among_more ns n q) (or_swap (eqb m q) (eqb n q) (among ns q))

-- the place of a page that is not among the first k numbers is behind them
place_past : (k : ℕ) (ns : List ℕ) (q : ℕ) → k ≤ length ns → among (take k ns) q ≡ false → place_of ns q ≡ k + place_of (drop k ns) q
place_past zero ns q h f = omega arith
place_past (suc k) [] q h f = omega arith
place_past (suc k) (n ∷ ns) q h f =
    split (eqb n q)
    (λ t. absurd (true≢false (rw t at f)))
    (λ t. rw t (let r : place_of ns q ≡ k + place_of (drop k ns) q = place_past k ns q (omega arith) (rw t at f) in omega arith))

-- what the code asks of a block
abbrev pub has : ℕ → List ℕ → Bool
has q b = fold (λ (found : Bool) (n : ℕ). found || eqb n q) false b

had_before : (b : List ℕ) (q : ℕ) (was : Bool) → fold (λ (found : Bool) (n : ℕ). found || eqb n q) was b ≡ (was || among b q)
had_before [] q true = refl
had_before [] q false = refl
had_before (n ∷ b) q true = had_before b q true
had_before (n ∷ b) q false = had_before b q (eqb n q)

length-chunks : (k : ℕ) (ns : List ℕ) → length (first_chunks 8 k ns) ≡ k
length-chunks zero ns = refl
length-chunks (suc k) ns = rw (length-chunks k (drop 8 ns)) refl

-- the page's place is behind the blocks that have it not
blocks_walked : (k : ℕ) (ns : List ℕ) (q : ℕ) → k * 8 ≤ length ns
    → place_of ns q ≡ position_or_len (has q) (first_chunks 8 k ns) * 8 + place_of (drop (position_or_len (has q) (first_chunks 8 k ns) * 8) ns) q
blocks_walked zero ns q h = omega arith
blocks_walked (suc k) ns q h = split (has q (take 8 ns))
    (λ t. rw t (omega arith))
    (λ t. let m : ℕ = position_or_len (has q) (first_chunks 8 k (drop 8 ns)) in
    let f : among (take 8 ns) q ≡ false = rw (had_before (take 8 ns) q false) at t in
    let a : place_of ns q ≡ 8 + place_of (drop 8 ns) q = place_past 8 ns q (omega (arith, h)) f in
    let b : place_of (drop 8 ns) q ≡ m * 8 + place_of (drop (m * 8) (drop 8 ns)) q = blocks_walked k (drop 8 ns) q (simp length-drop (omega (arith, h))) in
    let e : 8 + m * 8 ≡ (1 + m) * 8 = omega arith in
    let d : drop (m * 8) (drop 8 ns) ≡ drop ((1 + m) * 8) ns = drop-drop (m * 8) 8 ns ∙ ap (λ j. drop j ns) e in
    let s : position_or_len (has q) (first_chunks 8 (suc k) ns) ≡ 1 + m = rw t refl in
    rw (s, a, b, d) (omega arith))

-- `position` gives r for the blocks, and so u of them have not the page
module _ (ns : List ℕ) (q : ℕ) (r : Option ℕ) (u : ℕ) (h : r ≡ position (has q) (first_chunks 8 (length ns / 8) ns)) (w : u ≡ unwrap_or r (length ns / 8)) where
  passed : (u * 8 ≤ length ns) × (place_of ns q ≡ u * 8 + place_of (drop (u * 8) ns) q)
  passed =
      let k : ℕ = length ns / 8 in
      let m : ℕ = position_or_len (has q) (first_chunks 8 k ns) in
      let l : m ≤ length (first_chunks 8 k ns) = prefix_len-le-length _ (first_chunks 8 k ns) in
      let c : length (first_chunks 8 k ns) ≡ k = length-chunks k ns in
      let s : u ≡ m = w ∙ split (ltb m (length (first_chunks 8 k ns)))
      (λ t. rw (h, t) refl)
      (λ t. rw (h, t) (let n : length (first_chunks 8 k ns) ≤ m = ltb-false m (length (first_chunks 8 k ns)) t in omega (arith, l, n, c))) in
      rw s (omega (arith, l, c), blocks_walked k ns q (omega arith))

  rest_length : u * 8 + length (drop (u * 8) ns) ≡ length ns
  rest_length = simp length-drop (omega (arith, passed))

  -- the rest, as the code slices it
  rest_whole : take (length ns - u * 8) (drop (u * 8) ns) ≡ drop (u * 8) ns
  rest_whole = take_all (length ns - u * 8) (drop (u * 8) ns) (omega (arith, rest_length))

  pub found_behind : (at : ℕ) → Some at ≡ position (λ (n : ℕ). eqb n q) (take (length ns - u * 8) (drop (u * 8) ns)) → Some (u * 8 + at) ≡ place_found ns q
  found_behind at e = rest_found (u * 8) ns (drop (u * 8) ns) q passed.1 rest_length at (rw rest_whole at e)

  pub missed_behind : None ≡ position (λ (n : ℕ). eqb n q) (take (length ns - u * 8) (drop (u * 8) ns)) → None ≡ place_found ns q
  missed_behind e = rest_missed (u * 8) ns (drop (u * 8) ns) q passed.1 rest_length (rw rest_whole at e)

module _ (count : ℕ) (ns : List ℕ) (page i : ℕ) where
  -- one number more of the block
  pub block_more : (k : ℕ) → i ≤ k → k < min count (length ns)
      → (eqb (get_or ns k 0) page || among (take (k - i) (drop i (take count ns))) page) ≡ among (take (k + 1 - i) (drop i (take count ns))) page
  block_more k le lt =
      let part : List ℕ = drop i (take count ns) in
      let at : i + (k - i) ≡ k = omega arith in
      let more : k + 1 - i ≡ suc (k - i) = omega arith in
      let e : take (suc (k - i)) part ≡ take (k - i) part ++ (get_or ns k 0 ∷ []) = part_more i (k - i) (take count ns) (simp length-take (omega arith)) ∙ rw (at, get_or-take count ns k 0 (omega arith)) in
      rw (more, e) (sym (among_more (take (k - i) part) (get_or ns k 0) page))

  -- the block has not the page
  pub block_missed : i + 8 ≤ min count (length ns) → among (take 8 (drop i (take count ns))) page ≡ false
      → i + place_of (drop i (take count ns)) page ≡ i + 8 + place_of (drop (i + 8) (take count ns)) page
  block_missed h f =
      let r : place_of (drop i (take count ns)) page ≡ 8 + place_of (drop 8 (drop i (take count ns))) page = place_past 8 (drop i (take count ns)) page (simp (length-drop, length-take) (omega arith)) f in
      let d : drop 8 (drop i (take count ns)) ≡ drop (i + 8) (take count ns) = drop-drop 8 i (take count ns) in
      rw (r, d) (omega arith)

-- ## Bytes moved down

-- one byte more
pub move_more : (to from k : ℕ) (fs : List ℕ) → to ≤ from → from + k < length fs
    → set (overwrite to (take k (drop from fs)) fs) (to + k) (get_or (overwrite to (take k (drop from fs)) fs) (from + k) 0) ≡ overwrite to (take (k + 1) (drop from fs)) fs
move_more to from k fs h f =
    let new : List ℕ = take k (drop from fs) in
    let n : length new ≡ k = length_part from k fs (omega arith) in
    let m : length (overwrite to new fs) ≡ length fs = length-overwrite to new fs in
    let e : take (k + 1) (drop from fs) ≡ new ++ (get_or fs (from + k) 0 ∷ []) = rw (add-one k) (part_more from k fs (omega arith)) in
    let r : get_or (overwrite to new fs) (from + k) 0 ≡ get_or fs (from + k) 0 = overwrite_hi to new fs (from + k) (omega arith) in
    rw (r, e) (set_overwrite (to + k) (get_or fs (from + k) 0) (overwrite to new fs) (omega arith)
    ∙ (rw n at (overwrite_join to new (get_or fs (from + k) 0 ∷ []) fs)))

-- ## A part moved

-- `copy_within`, as a part written over the list
pub moved : (to from n : ℕ) (xs : List ℕ) → from + n ≤ length xs → to + n ≤ length xs
    → copy_within xs from (from + n) to ≡ overwrite to (take n (drop from xs)) xs
unfolding overwrite
moved to from n xs h k =
    let m : from + n - from ≡ n = omega arith in
    let l : length (take n (drop from xs)) ≡ n = length_part from n xs h in
    let a : take (length xs - to) (take n (drop from xs)) ≡ take n (drop from xs) = take_all (length xs - to) (take n (drop from xs)) (omega arith) in
    rw (m, l, a) (append_assoc (take to xs) (take n (drop from xs)) (drop (to + n) xs))

-- ## The record

-- a run's two numbers stored
pub set_two : (w : List ℕ) (i a e : ℕ) → i + 1 < length w → set (set w i a) (i + 1) e ≡ overwrite i (a ∷ e ∷ []) w
set_two w i a e h =
    rw (set_overwrite i a w (omega arith)) (set_overwrite (i + 1) e (overwrite i (a ∷ []) w) (omega (arith, length-overwrite i (a ∷ []) w)) ∙ overwrite_join i (a ∷ []) (e ∷ []) w)

module _ (w : List ℕ) (n a e : ℕ) where
  pub push_none : e ≤ a → pushed w n a e ≡ pushes (Ok n) w
  unfolding pushed
  push_none h = rw (le-ltb a e h)

  module _ (h : a < e) where
    pub push_full : length w / 2 ≤ n → pushed w n a e ≡ pushes (Err RecordFull) w
    unfolding pushed
    push_full k = rw (lt-ltb a e h, le-leb (length w / 2) n k)

    pub push_room : n < length w / 2 → pushed w n a e ≡ pushes (Ok (n + 1)) (overwrite (n * 2) (a ∷ e ∷ []) w)
    unfolding pushed
    push_room k = rw (lt-ltb a e h, lt-leb (length w / 2) n k, add-one n)

-- ## One page

module _ (P : ℕ) (keep : ℕ → Bool) (ns fs : List ℕ) (i to : ℕ) where
  pub one_gone : keep (get_or ns i 0) ≡ false → retained_one P keep ns fs i to ≡ pool ns fs to
  unfolding retained_one
  one_gone e = rw e

  module _ (e : keep (get_or ns i 0) ≡ true) where
    pub one_moved : retained_one P keep ns fs i to ≡ pool (set ns to (get_or ns i 0)) (overwrite (to * P) (take P (drop (i * P) fs)) fs) (to + 1)
    unfolding retained_one
    one_moved = rw (e, add-one to)

    pub one_there : to ≡ i → i * P + P ≤ length fs → retained_one P keep ns fs i to ≡ pool ns fs (to + 1)
    one_there t h = one_moved ∙ rw (t, set-get_or ns i 0, overwrite_self (i * P) P fs)

  pub one_count : (x : Pool) → x ≡ retained_one P keep ns fs i to → x.count ≤ to + 1
  one_count x e = split (keep (get_or ns i 0))
      (λ t. omega (arith, ap (λ (y : Pool). y.count) (e ∙ one_moved t)))
      (λ f. omega (arith, ap (λ (y : Pool). y.count) (e ∙ one_gone f)))

  -- ## The walk

  module _ (n : ℕ) where
    pub front_step : i < n → (x : Pool) → x ≡ retained_one P keep ns fs i to
        → retained_front P keep (n - i) ns fs i to ≡ retained_front P keep (n - (i + 1)) x.numbers x.frames (i + 1) x.count
    front_step h x e =
        let m : n - i ≡ suc (n - suc i) = omega arith in
        rw m (rw (add-one i) (ap (λ (y : Pool). retained_front P keep (n - suc i) y.numbers y.frames (suc i) y.count) (sym e)))

    pub front_end : n ≤ i → retained_front P keep (n - i) ns fs i to ≡ pool ns fs to
    front_end h = let m : n - i ≡ 0 = omega arith in rw m

-- ## The same of the pages below p, or of all but p

module _ (P : ℕ) (low : Bool) (p : ℕ) (ns fs : List ℕ) (i to : ℕ) where
  pub kept_gone : stays low p (get_or ns i 0) ≡ false → kept_one P low p ns fs i to ≡ pool ns fs to
  unfolding kept_one
  kept_gone e = one_gone P (stays low p) ns fs i to e

  module _ (e : stays low p (get_or ns i 0) ≡ true) where
    pub kept_moved : kept_one P low p ns fs i to ≡ pool (set ns to (get_or ns i 0)) (overwrite (to * P) (take P (drop (i * P) fs)) fs) (to + 1)
    unfolding kept_one
    kept_moved = one_moved P (stays low p) ns fs i to e

    pub kept_there : to ≡ i → i * P + P ≤ length fs → kept_one P low p ns fs i to ≡ pool ns fs (to + 1)
    unfolding kept_one
    kept_there t h = one_there P (stays low p) ns fs i to e t h

  pub kept_count : (x : Pool) → x ≡ kept_one P low p ns fs i to → x.count ≤ to + 1
  unfolding kept_one
  kept_count x e = one_count P (stays low p) ns fs i to x e

  module _ (n : ℕ) where
    pub walk_step : i < n → (x : Pool) → x ≡ kept_one P low p ns fs i to
        → walked P low p (n - i) ns fs i to ≡ walked P low p (n - (i + 1)) x.numbers x.frames (i + 1) x.count
    unfolding kept_one
    walk_step h x e = front_step P (stays low p) ns fs i to n h x e

    pub walk_end : n ≤ i → walked P low p (n - i) ns fs i to ≡ pool ns fs to
    walk_end h = front_end P (stays low p) ns fs i to n h
