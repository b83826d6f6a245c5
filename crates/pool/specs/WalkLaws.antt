-- The walk over a pool leaves the pages that stay, and what is left over filled with zeros it is the pool laid anew.
use Rattle.std.specs.Prelude.{◌≡◌, refl, ℕ, zero, suc, ◌+◌, ◌-◌, ◌*◌, ◌≤◌, ◌<◌, Bool, true, false, eqb, drop, get_or, set}
use Rattle.std.proofs.Common.{sym, ◌∙◌, suc-mul, mul-le-mul_right, add-one, arith, length-drop, length-set, drop-cons, drop-drop, drop-set-lt, take-suc-set}
use Rattle.std.proofs.Math.Path.{ap, subst}
use Rattle.std.proofs.Math.Nat.{zero-mul, zero-add}
use mathlib.Core.List.{List, [], ◌∷◌, ◌++◌, append_assoc, append-nil}
use Rattle.std.proofs.Math.ListN.{length, take}
use Rattle.std.proofs.lemmas.Bool.{not-true, not-false}
use Rattle.memory.specs.Bytes.{zeros, overwrite, resize}
use Rattle.memory.specs.Laws.{split, length_part, length-overwrite}
use Rattle.update.specs.Lists.{refill}
use Rattle.update.specs.Pages.{Page, page_numbers, flat, pages_in}
use Rattle.update.specs.Frames.{Pool, pool, relaid, retained}
use Rattle.pool.specs.Pool.{stays, retained_by, retained_one, retained_front, walked}
use Rattle.pool.specs.PoolLaws.{one_moved, one_gone, one_count}
use Rattle.update.specs.ListLaws.{drop-overwrite, take_past, resize-take, zeros_refill}

-- ## The pages that stay

retained_hit : (low : Bool) (p : ℕ) (g : Page) (d : List Page) → stays low p g.number ≡ true → retained low p (g ∷ d) ≡ g ∷ retained low p d
retained_hit true p g d e = rw e
retained_hit false p g d e = rw (not-true (eqb g.number p) e)

retained_miss : (low : Bool) (p : ℕ) (g : Page) (d : List Page) → stays low p g.number ≡ false → retained low p (g ∷ d) ≡ retained low p d
retained_miss true p g d e = rw e
retained_miss false p g d e = rw (not-false (eqb g.number p) e)

retained_nil : (low : Bool) (p : ℕ) → retained low p [] ≡ []
retained_nil true p = refl
retained_nil false p = refl

pub retained_stays : (low : Bool) (p : ℕ) (d : List Page) → retained_by (stays low p) d ≡ retained low p d
retained_stays low p [] = sym (retained_nil low p)
retained_stays low p (g ∷ d) = split (stays low p g.number)
    (λ t. rw (t, retained_hit low p g d t, retained_stays low p d))
    (λ f. rw (f, retained_miss low p g d f, retained_stays low p d))

module _ (P : ℕ) (keep : ℕ → Bool) where
  -- of the n pages from place i on
  unfoldable later : ℕ → List ℕ → List ℕ → ℕ → List Page
  later n ns fs i = retained_by keep (pages_in P (take n (drop i ns)) (drop (i * P) fs))

  later_none : (ns fs : List ℕ) (i : ℕ) → later 0 ns fs i ≡ []
  unfolding later
  later_none ns fs i = refl

  later_alike : (n : ℕ) (ns fs ns' fs' : List ℕ) (i : ℕ) → drop i ns' ≡ drop i ns → drop (i * P) fs' ≡ drop (i * P) fs → later n ns' fs' i ≡ later n ns fs i
  unfolding later
  later_alike n ns fs ns' fs' i e f = rw (e, f)

  module _ (n : ℕ) (ns fs : List ℕ) (i : ℕ) (h : i < length ns) (k : i * P + P ≤ length fs) where
    abbrev at_place : Page
    at_place = record { number = get_or ns i 0; bytes = take P (drop (i * P) fs) }

    in_front : pages_in P (take (suc n) (drop i ns)) (drop (i * P) fs) ≡ at_place ∷ pages_in P (take n (drop (suc i) ns)) (drop (suc i * P) fs)
    in_front =
        let r : resize P (drop (i * P) fs) ≡ take P (drop (i * P) fs) = resize-take P (drop (i * P) fs) (simp length-drop (omega arith)) in
        let s : suc i * P ≡ i * P + P = suc-mul i P in
        rw (drop-cons ns i 0 h, drop-drop P (i * P) fs, s, r)

    later_hit : keep (get_or ns i 0) ≡ true → later (suc n) ns fs i ≡ at_place ∷ later n ns fs (suc i)
    unfolding later
    later_hit e = ap (retained_by keep) in_front ∙ rw e

    later_miss : keep (get_or ns i 0) ≡ false → later (suc n) ns fs i ≡ later n ns fs (suc i)
    unfolding later
    later_miss e = ap (retained_by keep) in_front ∙ rw e

-- ## The walk

-- x has the pages d behind the first `to` of ns and fs, and is as they are from place `end` on
record Walked (P end to : ℕ) (ns fs : List ℕ) (d : List Page) (x : Pool) : Type 0 where
  count : x.count ≡ to + length d
  numbers : take x.count x.numbers ≡ take to ns ++ page_numbers d
  frames : take (x.count * P) x.frames ≡ take (to * P) fs ++ flat d
  rest : drop end x.numbers ≡ drop end ns
  rest_frames : drop (end * P) x.frames ≡ drop (end * P) fs
  same : length x.numbers ≡ length ns
  same_frames : length x.frames ≡ length fs

module _ (P : ℕ) (keep : ℕ → Bool) where
  -- a page that stays, put behind the first `to`
  stay_step : (end i to : ℕ) (ns fs : List ℕ) (d : List Page) (x : Pool) → to ≤ i → i < end → end ≤ length ns → end * P ≤ length fs
      → Walked P end (suc to) (set ns to (get_or ns i 0)) (overwrite (to * P) (take P (drop (i * P) fs)) fs) d x
      → Walked P end to ns fs (record { number = get_or ns i 0; bytes = take P (drop (i * P) fs) } ∷ d) x
  stay_step end i to ns fs d x h k e f w =
      let v : ℕ = get_or ns i 0 in
      let part : List ℕ = take P (drop (i * P) fs) in
      let ti : to * P ≤ i * P = mul-le-mul_right P h in
      let ie : suc i * P ≤ end * P = mul-le-mul_right P k in
      let si : suc i * P ≡ i * P + P = suc-mul i P in
      let st : suc to * P ≡ to * P + P = suc-mul to P in
      let n : length part ≡ P = length_part (i * P) P fs (omega arith) in
      let t : take (suc to * P) (overwrite (to * P) part fs) ≡ take (to * P) fs ++ part = rw st (rw n at (take_past (to * P) part fs (omega arith))) in
      record {
        count = w.count ∙ omega arith;
        numbers = w.numbers ∙ rw (take-suc-set ns to v (omega arith), append_assoc (take to ns) (v ∷ []) (page_numbers d));
        frames = w.frames ∙ rw (t, append_assoc (take (to * P) fs) part (flat d));
        rest = w.rest ∙ drop-set-lt end ns to v (omega arith);
        rest_frames = w.rest_frames ∙ drop-overwrite (to * P) (end * P) part fs (omega arith);
        same = w.same ∙ length-set ns to v;
        same_frames = w.same_frames ∙ length-overwrite (to * P) part fs;
      }

  walk_is : (n : ℕ) (ns fs : List ℕ) (end i to : ℕ) → to ≤ i → i + n ≡ end → end ≤ length ns → end * P ≤ length fs
      → Walked P end to ns fs (later P keep n ns fs i) (retained_front P keep n ns fs i to)
  walk_is zero ns fs end i to h k e f = rw (later_none P keep ns fs i) record {
    count = omega arith;
    numbers = sym (append-nil (take to ns));
    frames = sym (append-nil (take (to * P) fs));
    rest = refl;
    rest_frames = refl;
    same = refl;
    same_frames = refl;
  }
  walk_is (suc n) ns fs end i to h k e f =
      let ie : suc i * P ≤ end * P = mul-le-mul_right P (omega arith) in
      let si : suc i * P ≡ i * P + P = suc-mul i P in
      let a : i < length ns = omega arith in
      let b : i * P + P ≤ length fs = omega arith in
      let go : Pool → Pool = λ y. retained_front P keep n y.numbers y.frames (suc i) y.count in
      split (keep (get_or ns i 0))
      (λ t.
      let v : ℕ = get_or ns i 0 in
      let part : List ℕ = take P (drop (i * P) fs) in
      let m : length part ≡ P = length_part (i * P) P fs b in
      let ns' : List ℕ = set ns to v in
      let fs' : List ℕ = overwrite (to * P) part fs in
      let y : Pool = pool ns' fs' (suc to) in
      let ti : to * P ≤ i * P = mul-le-mul_right P h in
      let w : Walked P end (suc to) ns' fs' (later P keep n ns' fs' (suc i)) (go y) =
      walk_is n ns' fs' end (suc i) (suc to) (omega arith) (omega arith) (omega (arith, length-set ns to v)) (omega (arith, length-overwrite (to * P) part fs)) in
      let q : later P keep n ns' fs' (suc i) ≡ later P keep n ns fs (suc i) =
      later_alike P keep n ns fs ns' fs' (suc i) (drop-set-lt (suc i) ns to v (omega arith)) (drop-overwrite (to * P) (suc i * P) part fs (omega arith)) in
      let r : go (retained_one P keep ns fs i to) ≡ go y = ap go (one_moved P keep ns fs i to t ∙ rw (add-one to)) in
      rw (later_hit P keep n ns fs i a b t) (subst (λ (x : Pool). Walked P end to ns fs (record { number = v; bytes = part } ∷ later P keep n ns fs (suc i)) x) (sym r)
      (stay_step end i to ns fs (later P keep n ns fs (suc i)) (go y) h (omega arith) e f (rw q at w))))
      (λ t.
      let r : go (retained_one P keep ns fs i to) ≡ go (pool ns fs to) = ap go (one_gone P keep ns fs i to t) in
      rw (later_miss P keep n ns fs i a b t) (subst (λ (x : Pool). Walked P end to ns fs (later P keep n ns fs (suc i)) x) (sym r)
      (walk_is n ns fs end (suc i) to (omega arith) (omega arith) e f)))

  walk_most : (n : ℕ) (ns fs : List ℕ) (i to : ℕ) → to ≤ i → (retained_front P keep n ns fs i to).count ≤ i + n
  walk_most zero ns fs i to h = omega arith
  walk_most (suc n) ns fs i to h =
      let x : Pool = retained_one P keep ns fs i to in
      omega (arith, walk_most n x.numbers x.frames (suc i) x.count (omega (arith, one_count P keep ns fs i to x refl)))

  pub front_count : (n : ℕ) (ns fs : List ℕ) (x : Pool) → x ≡ retained_front P keep n ns fs 0 0 → x.count ≤ n
  front_count n ns fs x e = omega (arith, walk_most n ns fs 0 0 (omega arith), ap (λ (y : Pool). y.count) e)

  -- what is left over becomes zeros
  pub front_relaid : (n : ℕ) (ns fs : List ℕ) (x : Pool) → n ≤ length ns → n * P ≤ length fs → x ≡ retained_front P keep n ns fs 0 0
      → pool (overwrite x.count (zeros (n - x.count)) x.numbers) (overwrite (x.count * P) (zeros (n * P - x.count * P)) x.frames) x.count
      ≡ relaid P n (retained_by keep (pages_in P (take n ns) fs)) ns fs
  unfolding relaid later
  front_relaid n ns fs x h k e =
      let d : List Page = retained_by keep (pages_in P (take n ns) fs) in
      let z : 0 * P ≡ 0 = zero-mul P in
      let s : later P keep n ns fs 0 ≡ d = rw z in
      let w : Walked P n 0 ns fs d x = subst (λ (y : Pool). Walked P n 0 ns fs d y) (sym e) (rw s at (walk_is n ns fs n 0 0 (omega arith) (omega arith) h k)) in
      let c : x.count ≤ n = front_count n ns fs x e in
      let f : take (x.count * P) x.frames ≡ flat d = rw z at w.frames in
      let ns' : overwrite x.count (zeros (n - x.count)) x.numbers ≡ refill n (page_numbers d) ns =
      zeros_refill x.count n (page_numbers d) ns x.numbers c (omega (arith, w.same)) w.numbers w.rest in
      let fs' : overwrite (x.count * P) (zeros (n * P - x.count * P)) x.frames ≡ refill (n * P) (flat d) fs =
      zeros_refill (x.count * P) (n * P) (flat d) fs x.frames (mul-le-mul_right P c) (omega (arith, w.same_frames)) f w.rest_frames in
      let many : x.count ≡ length d = w.count ∙ zero-add (length d) in
      λ j. pool (ns' j) (fs' j) (many j)

-- ## The same of the pages below p, or of all but p

module _ (P : ℕ) (low : Bool) (p : ℕ) (n : ℕ) (ns fs : List ℕ) (x : Pool) where
  pub walk_count : x ≡ walked P low p n ns fs 0 0 → x.count ≤ n
  walk_count e = front_count P (stays low p) n ns fs x e

  pub walk_relaid : n ≤ length ns → n * P ≤ length fs → x ≡ walked P low p n ns fs 0 0
      → pool (overwrite x.count (zeros (n - x.count)) x.numbers) (overwrite (x.count * P) (zeros (n * P - x.count * P)) x.frames) x.count
      ≡ relaid P n (retained low p (pages_in P (take n ns) fs)) ns fs
  walk_relaid h k e = rw (← retained_stays low p (pages_in P (take n ns) fs)) (front_relaid P (stays low p) n ns fs x h k e)
