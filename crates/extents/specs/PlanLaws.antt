-- The laws of the plan: that it depends on the set alone, and what each turn of the code makes of it.
use Rattle.std.specs.Prelude.{ℕ, suc, ◌+◌, ◌*◌, ◌≤◌, ◌<◌, ◌-◌, min, max, ◌≡◌, Bool, true, false, ◌&&◌, ◌||◌, get_or, take, drop, ltb, leb, eqb, Ok, Err, count_by, filter}
use Rattle.std.proofs.Math.Path.{refl, sym, ap}
use Rattle.std.proofs.Common.{◌∙◌, arith, length-take, drop_of_length-le, drop-cons, get_or-take, take_all, le-div_iff_mul-le}
use Rattle.std.proofs.Math.Nat.{div-mul-le_self}
use Rattle.std.specs.Result.{result_unwrap_or}
use Rattle.std.proofs.Math.Bool.{not, and-true, and-false, or_assoc, or_comm}
use mathlib.Core.List.{List, [], ◌∷◌, ◌++◌}
use Rattle.std.proofs.Math.ListN.{length}
use Rattle.std.proofs.Math.Seq.{take-length}
use Rattle.std.proofs.lemmas.List.Sums.{length-filter}
use borrow.Author.Tests.{ltb-true, ltb-false, leb-true, leb-false, lt-ltb, le-ltb, le-leb, lt-leb}
use Rattle.config.specs.Pages.{count}
use Rattle.config.specs.declared.refusal.Refusal.{Refusal}
use Rattle.config.specs.declared.refusal.Refusal.TheVariants.{ZeroExtentLimitExceeded}
use Rattle.meta.specs.declared.ZeroExtent.{ZeroExtent}
use Rattle.meta.specs.Runs.{run, numbers_of, normalized}
use Rattle.runs.specs.Sets.{within, covers, add, maximal, without}
use Rattle.runs.specs.SetLaws.{split, within_has, maximal_covers, maximal_alike, maximal_self, maximal_again, maximal_empty, maximal_normalized, without_alike, without_covers}
use Rattle.runs.specs.Flat.{runs_in, out, held, padded, laid, at, upto}
use Rattle.runs.specs.FlatLaws.{upto_more, upto_none, length-runs_in, held_count, held_runs, held_normalized, remove_count, laid_cleared, laid_runs}
use Rattle.runs.specs.Lists.{rest_more, rest_none}
use Rattle.extents.specs.Plan.{Answer, too_many, kept, pick, below, additions, add_one, add_each, remove_each, remain, plan}
use Rattle.extents.specs.Outcome.{Outcome, outcome, planned}
use Rattle.extents.specs.Steps.{norm, Within, IsKept, Left, Settled}
use Rattle.extents.specs.Outcome.{Planned}

-- ## Additions

module _ (limit : ℕ) where
  add_present : (x : ZeroExtent) (s : List ZeroExtent) → x.start < x.end → add_one limit x (kept s) ≡ pick (leb (length (maximal (x ∷ s))) limit) (kept (x ∷ s)) too_many
  unfolding add_one
  add_present x s h = rw (lt-ltb _ _ h)

  add_absent : (x : ZeroExtent) (s : List ZeroExtent) → x.end ≤ x.start → add_one limit x (kept s) ≡ kept s
  unfolding add_one
  add_absent x s h = rw (le-ltb _ _ h)

  add_stopped : (x : ZeroExtent) → add_one limit x too_many ≡ too_many
  unfolding add_one
  add_stopped x = refl

  one_norm : (x : ZeroExtent) (s : Answer) → norm (add_one limit x s) ≡ norm (add_one limit x (norm s))
  one_norm x too_many = refl
  one_norm x (kept s) =
      split (ltb x.start x.end)
      (λ t. let e : maximal (x ∷ maximal s) ≡ maximal (x ∷ s) = ap (λ (l : List ZeroExtent). add x l) (maximal_again s) in
      rw (add_present x s (ltb-true _ _ t), add_present x (maximal s) (ltb-true _ _ t), e)
      (split (leb (length (maximal (x ∷ s))) limit) (λ u. rw (u, e)) (λ u. rw u)))
      (λ f. rw (add_absent x s (ltb-false _ _ f), add_absent x (maximal s) (ltb-false _ _ f), maximal_again s))

  pub each_norm : (xs : List ZeroExtent) (s : Answer) → norm (add_each limit xs s) ≡ norm (add_each limit xs (norm s))
  each_norm [] too_many = refl
  each_norm [] (kept s) = ap kept (sym (maximal_again s))
  each_norm (x ∷ xs) s =
      each_norm xs (add_one limit x s)
      ∙ ap (λ (a : Answer). norm (add_each limit xs a)) (one_norm x s)
      ∙ sym (each_norm xs (add_one limit x (norm s)))

  pub each_append : (xs ys : List ZeroExtent) (s : Answer) → add_each limit (xs ++ ys) s ≡ add_each limit ys (add_each limit xs s)
  each_append [] ys s = refl
  each_append (x ∷ xs) ys s = each_append xs ys (add_one limit x s)

-- past the limit nothing is added any more
pub each_stopped : (limit : ℕ) (xs : List ZeroExtent) → add_each limit xs too_many ≡ too_many
each_stopped limit [] = refl
each_stopped limit (x ∷ xs) = rw (add_stopped limit x) (each_stopped limit xs)

never_kept {ℓ} : {X : Type ℓ} {s : List ZeroExtent} → too_many ≡ kept s → X
never_kept e = let z : ◌≡◌ {A = ℕ} 0 1 = cc in absurd (omega arith)

pub norm_stopped : (a : Answer) → norm a ≡ too_many → a ≡ too_many
norm_stopped too_many e = refl
norm_stopped (kept s) e = never_kept (sym e)

-- a run is added to n runs that are within the limit, which makes r of them
module _ (limit n r : ℕ) (w w' : List ℕ) (x : ZeroExtent) (g : Within limit n w) (e : out w' r ≡ held w (maximal (x ∷ runs_in n w))) where
  within_count : r ≡ length (maximal (x ∷ runs_in n w))
  within_count = held_count w w' r (maximal (x ∷ runs_in n w)) e

  within_says : r ≤ limit → maximal (x ∷ runs_in n w) ≡ runs_in r w' → kept (runs_in r w') ≡ norm (add_one limit x (kept (runs_in n w)))
  within_says h v =
      split (ltb x.start x.end)
      (λ t. rw (add_present limit x (runs_in n w) (ltb-true _ _ t), le-leb (length (maximal (x ∷ runs_in n w))) limit (omega (arith, within_count))) (ap kept (sym v)))
      (λ t. rw (add_absent limit x (runs_in n w) (ltb-false _ _ t)) (ap kept (sym v ∙ maximal_empty x (runs_in n w) (ltb-false _ _ t))))

  pub within_kept : r ≤ limit → IsKept limit r w' (add_one limit x (kept (runs_in n w)))
  within_kept h = record {
    few = h;
    tidy = held_normalized w w' r (x ∷ runs_in n w) e;
    says = within_says h (sym (held_runs w w' r (maximal (x ∷ runs_in n w)) e));
  }

  pub within_not : limit < r → add_one limit x (kept (runs_in n w)) ≡ too_many
  within_not h =
      split (ltb x.start x.end)
      (λ t. rw (add_present limit x (runs_in n w) (ltb-true _ _ t), lt-leb (length (maximal (x ∷ runs_in n w))) limit (omega (arith, within_count))))
      (λ t. let m : maximal (x ∷ runs_in n w) ≡ runs_in n w = maximal_empty x (runs_in n w) (ltb-false _ _ t) ∙ maximal_self (runs_in n w) g.tidy in
      absurd (omega (arith, within_count, ap length m, length-runs_in w n (omega (arith, g.room, g.few)), g.few)))

module _ (P old new : ℕ) (recorded : List ZeroExtent) where
  pub additions_rise : old < new → additions P old new recorded ≡ run (count P old) (count P new) ∷ recorded
  unfolding additions
  additions_rise h = rw (lt-ltb old new h, le-ltb new old (omega arith))

  pub additions_fall : new < old → additions P old new recorded ≡ run (count P new) (count P old) ∷ recorded
  unfolding additions
  additions_fall h = rw (lt-ltb new old h, le-ltb old new (omega arith))

  pub additions_same : old ≤ new → new ≤ old → additions P old new recorded ≡ recorded
  unfolding additions
  additions_same h k = rw (le-ltb new old h, le-ltb old new k)

  additions_split : additions P old new recorded ≡ additions P old new [] ++ recorded
  unfolding additions
  additions_split = split (ltb old new)
      (λ t. rw t (split (ltb new old) (λ u. rw u) (λ u. rw u)))
      (λ t. rw t (split (ltb new old) (λ u. rw u) (λ u. rw u)))

count_most : (P m n : ℕ) → 0 < P → m ≤ n → count P m ≤ count P n
unfolding count
count_most P m n pos h = (le-div_iff_mul-le {x = count P m} pos).1 (omega (arith, div-mul-le_self (m + (P - 1)) P))

-- the size rose, fell or stayed, from p pages to q: the run between them is empty if it stayed
pub resized_one : (P limit old new p q from to : ℕ) (s : List ZeroExtent) → 0 < P → p ≡ count P old → q ≡ count P new → from ≡ min p q → to ≡ max p q
    → add_one limit (run from to) (kept s) ≡ add_each limit (additions P old new []) (kept s)
resized_one P limit old new p q from to s pos e g lo hi =
    split (ltb old new)
    (λ t. let h : count P old ≤ count P new = count_most P old new pos (omega (arith, ltb-true _ _ t)) in
    let x : from ≡ count P old = omega (arith, e, g, lo, h) in
    let y : to ≡ count P new = omega (arith, e, g, hi, h) in
    rw (additions_rise P old new [] (ltb-true _ _ t), x, y))
    (λ t. let h : count P new ≤ count P old = count_most P new old pos (ltb-false _ _ t) in
    let x : from ≡ count P new = omega (arith, e, g, lo, h) in
    let y : to ≡ count P old = omega (arith, e, g, hi, h) in
    split (ltb new old)
    (λ u. rw (additions_fall P old new [] (ltb-true _ _ u), x, y))
    (λ u. rw (additions_same P old new [] (ltb-false _ _ u) (ltb-false _ _ t))
    (add_absent limit (run from to) s (omega (arith, x, y, count_most P old new pos (ltb-false _ _ u))))))

module _ (limit : ℕ) (v : List ℕ) (i n : ℕ) where
  pub record_step : (x : ZeroExtent) (a b : Answer) → i < n → x ≡ at v i → b ≡ norm (add_one limit x a) → norm (add_each limit (upto v (i + 1) n) b) ≡ norm (add_each limit (upto v i n) a)
  record_step x a b h e g = rw (upto_more v i n h, ← e, g) (sym (each_norm limit (upto v (i + 1) n) (add_one limit x a)))

  pub record_last : (a : Answer) → n ≤ i → add_each limit (upto v i n) a ≡ a
  record_last a h = rw (upto_none v i n h)

-- run i of a list is added
module _ (limit : ℕ) (l : List ZeroExtent) (i : ℕ) where
  pub run_added : (x : ZeroExtent) (a b : Answer) → i < length l → x ≡ get_or l i (run 0 0) → b ≡ norm (add_one limit x a) → norm (add_each limit (drop (i + 1) l) b) ≡ norm (add_each limit (drop i l) a)
  run_added x a b h e g = rw (rest_more l i x h e, g) (sym (each_norm limit (drop (i + 1) l) (add_one limit x a)))

  pub all_added : (a : Answer) → length l ≤ i → add_each limit (drop i l) a ≡ a
  all_added a h = rw (rest_none l i h)

-- ## Removals

remove_alike : (ps : List ℕ) (s t : List ZeroExtent) → ((q : ℕ) → covers s q ≡ covers t q) → (q : ℕ) → covers (remove_each ps s) q ≡ covers (remove_each ps t) q
remove_alike [] s t e q = e q
remove_alike (p ∷ ps) s t e q = remove_alike ps (without p s) (without p t) (without_alike p s t e) q

pub remove_norm : (ps : List ℕ) (s : List ZeroExtent) → maximal (remove_each ps (maximal s)) ≡ maximal (remove_each ps s)
remove_norm ps s = maximal_alike (remove_each ps (maximal s)) (remove_each ps s) (remove_alike ps (maximal s) s (maximal_covers s))

-- the first page, then the others
below_more : (final p : ℕ) (ps : List ℕ) (s : List ZeroExtent) → remove_each (below final (p ∷ ps)) s ≡ remove_each (below final ps) (remove_each (below final (p ∷ [])) s)
below_more final p ps s = split (ltb p final) (λ t. rw t) (λ f. rw f)

below_length : (final p : ℕ) (ps : List ℕ) → length (below final (p ∷ ps)) ≡ length (below final (p ∷ [])) + length (below final ps)
below_length final p ps = split (ltb p final) (λ t. rw t (omega arith)) (λ f. rw f (omega arith))

pub below_most : (final : ℕ) (ps : List ℕ) → length (below final ps) ≤ length ps
below_most final [] = omega arith
below_most final (p ∷ ps) = let r : length (below final ps) ≤ length ps = below_most final ps in
    split (ltb p final) (λ t. rw t (omega arith)) (λ f. rw f (omega arith))

pub page_past : (end p n : ℕ) (w : List ℕ) → end ≤ p → normalized (runs_in n w) ≡ true → Left (n + 1) n w (remove_each (below end (p ∷ [])) (runs_in n w))
page_past end p n w h f = record {
  most = omega arith;
  tidy = f;
  says = rw (le-ltb p end h, maximal_self (runs_in n w) f);
}

pub page_out : (end p n r : ℕ) (w w' : List ℕ) → p < end → n * 2 ≤ length w → normalized (runs_in n w) ≡ true
    → out w' r ≡ held w (maximal (without p (runs_in n w))) → Left (n + 1) r w' (remove_each (below end (p ∷ [])) (runs_in n w))
page_out end p n r w w' h k f e = record {
  most = remove_count w w' n r k f p e;
  tidy = held_normalized w w' r (without p (runs_in n w)) e;
  says = rw (lt-ltb p end h) (held_runs w w' r (maximal (without p (runs_in n w))) e);
}

-- page i of the first d numbers
next_page : (v : List ℕ) (d i : ℕ) → d ≤ length v → i < d → drop i (take d v) ≡ get_or v i 0 ∷ drop (i + 1) (take d v)
next_page v d i h k =
    let e : suc i ≡ i + 1 = omega arith in
    drop-cons (take d v) i 0 (omega (arith, length-take d v)) ∙ rw (e, get_or-take d v i 0 k)

no_page : (v : List ℕ) (d i : ℕ) → d ≤ i → drop i (take d v) ≡ []
no_page v d i h = drop_of_length-le (take d v) {i = i} (omega (arith, length-take d v))

module _ (final : ℕ) (v : List ℕ) (d i : ℕ) where
  pub pages_step : (s k : List ZeroExtent) → d ≤ length v → i < d → k ≡ maximal (remove_each (below final (get_or v i 0 ∷ [])) s)
      → maximal (remove_each (below final (drop (i + 1) (take d v))) k) ≡ maximal (remove_each (below final (drop i (take d v))) s)
  pages_step s k h j e =
      rw (next_page v d i h j, below_more final (get_or v i 0) (drop (i + 1) (take d v)) s, e)
      (remove_norm (below final (drop (i + 1) (take d v))) (remove_each (below final (get_or v i 0 ∷ [])) s))

  pub pages_last : (s : List ZeroExtent) → d ≤ i → normalized s ≡ true → maximal (remove_each (below final (drop i (take d v))) s) ≡ s
  pages_last s h f = rw (no_page v d i h) (maximal_self s f)

  pub tally_step : d ≤ length v → i < d → length (below final (drop i (take d v))) ≡ length (below final (get_or v i 0 ∷ [])) + length (below final (drop (i + 1) (take d v)))
  tally_step h j = rw (next_page v d i h j) (below_length final (get_or v i 0) (drop (i + 1) (take d v)))

  pub tally_last : d ≤ i → length (below final (drop i (take d v))) ≡ 0
  tally_last h = rw (no_page v d i h)

-- of a list of pages that are all dirty
module _ (final : ℕ) (ps : List ℕ) (i : ℕ) where
  pub page_removed : (s k : List ZeroExtent) → i < length ps → k ≡ maximal (remove_each (below final (get_or ps i 0 ∷ [])) s)
      → maximal (remove_each (below final (drop (i + 1) ps)) k) ≡ maximal (remove_each (below final (drop i ps)) s)
  page_removed s k h e = rw (take-length ps) at (pages_step final ps (length ps) i s k (omega arith) h e)

  pub all_removed : (s : List ZeroExtent) → length ps ≤ i → normalized s ≡ true → maximal (remove_each (below final (drop i ps)) s) ≡ s
  all_removed s h f = rw (take-length ps) at (pages_last final ps (length ps) i s h f)

below_filtered : (final : ℕ) (ps : List ℕ) → filter (λ (p : ℕ). ltb p final) ps ≡ below final ps
below_filtered final [] = refl
below_filtered final (p ∷ ps) = let r : filter (λ (q : ℕ). ltb q final) ps ≡ below final ps = below_filtered final ps in
    split (ltb p final) (λ t. rw (t, r)) (λ f. rw (f, r))

pub below_counted : (final : ℕ) (ps : List ℕ) → count_by (λ (p : ℕ). ltb p final) ps ≡ length (below final ps)
below_counted final ps = sym (length-filter (λ (p : ℕ). ltb p final) ps) ∙ ap length (below_filtered final ps)

-- ## The whole

remain_norm : (top : ℕ) (ps : List ℕ) (s : Answer) → remain top ps (norm s) ≡ remain top ps s
unfolding remain
remain_norm top ps too_many = refl
remain_norm top ps (kept s) = rw (remove_norm ps s)

module _ (P top old new : ℕ) (image recorded : List ZeroExtent) (dirty : List ℕ) where
  -- additions in two parts
  pub plan_parts : (a b : Answer) →
      a ≡ norm (add_each (top + length (below (count P new) dirty)) (additions P old new []) (kept image)) →
      b ≡ norm (add_each (top + length (below (count P new) dirty)) recorded a) →
      remain top (below (count P new) dirty) b ≡ plan P top old new image recorded dirty
  unfolding plan
  plan_parts a b e g =
      let limit = top + length (below (count P new) dirty) in
      let ps = below (count P new) dirty in
      let m : Answer = add_each limit (additions P old new []) (kept image) in
      ap (remain top ps) (g ∙ ap (λ (x : Answer). norm (add_each limit recorded x)) e ∙ sym (each_norm limit recorded m))
      ∙ remain_norm top ps (add_each limit recorded m)
      ∙ ap (remain top ps) (sym (each_append limit (additions P old new []) recorded (kept image)) ∙ ap (λ (xs : List ZeroExtent). add_each limit xs (kept image)) (sym (additions_split P old new recorded)))

  -- the image's runs or their maximal runs: the set is the same
  pub plan_image : plan P top old new (maximal image) recorded dirty ≡ plan P top old new image recorded dirty
  unfolding plan
  plan_image =
      let limit = top + length (below (count P new) dirty) in
      let ps = below (count P new) dirty in
      let xs = additions P old new recorded in
      sym (remain_norm top ps (add_each limit xs (kept (maximal image))))
      ∙ ap (remain top ps) (sym (each_norm limit xs (kept image)))
      ∙ remain_norm top ps (add_each limit xs (kept image))

pub remain_stopped : (top : ℕ) (ps : List ℕ) → remain top ps too_many ≡ too_many
unfolding remain
remain_stopped top ps = refl

-- q runs in w are what the removals left of the set s
module _ (top q : ℕ) (ps : List ℕ) (w : List ℕ) (s : List ZeroExtent) (e : runs_in q w ≡ maximal (remove_each ps s)) (k : q * 2 ≤ length w) where
  remain_count : q ≡ length (maximal (remove_each ps s))
  remain_count = sym (length-runs_in w q k) ∙ ap length e

  pub remain_kept : q ≤ top → remain top ps (kept s) ≡ kept (runs_in q w)
  unfolding remain
  remain_kept h = rw (le-leb (length (maximal (remove_each ps s))) top (omega (arith, remain_count))) (ap kept (sym e))

  pub remain_not : top < q → remain top ps (kept s) ≡ too_many
  unfolding remain
  remain_not h = rw (lt-leb (length (maximal (remove_each ps s))) top (omega (arith, remain_count)))

-- the code's numbers: the pages of the new size and the limit
module _ (P top old new limit end : ℕ) (image recorded : List ZeroExtent) (dirty : List ℕ)
    (e : end ≡ count P new) (l : limit ≡ top + length (below end dirty)) where
  settle_parts : (a b : Answer) → a ≡ norm (add_each limit (additions P old new []) (kept image)) → b ≡ norm (add_each limit recorded a)
      → remain top (below end dirty) b ≡ plan P top old new image recorded dirty
  settle_parts a b f g =
      let m : limit ≡ top + length (below (count P new) dirty) = l ∙ ap (λ (x : ℕ). top + length (below x dirty)) e in
      rw e (plan_parts P top old new image recorded dirty a b (rw m at f) (rw m at g))

  -- a step passed the limit
  pub settle_resized : add_each limit (additions P old new []) (kept image) ≡ too_many → plan P top old new image recorded dirty ≡ too_many
  settle_resized d = sym (settle_parts too_many too_many (ap norm (sym d)) (ap norm (sym (each_stopped limit recorded)))) ∙ remain_stopped top (below end dirty)

  module _ (g : ℕ) (w₁ : List ℕ) (resized : IsKept limit g w₁ (add_each limit (additions P old new []) (kept image))) where
    pub settle_recorded : add_each limit recorded (kept (runs_in g w₁)) ≡ too_many → plan P top old new image recorded dirty ≡ too_many
    settle_recorded d = sym (settle_parts (kept (runs_in g w₁)) too_many resized.says (ap norm (sym d))) ∙ remain_stopped top (below end dirty)

    -- none did, and q runs are left
    module _ (r m q : ℕ) (w₂ w₃ : List ℕ) (added : IsKept limit r w₂ (add_each limit recorded (kept (runs_in g w₁)))) (d : Left m q w₃ (remove_each (below end dirty) (runs_in r w₂))) (k : q * 2 ≤ length w₃) where
      whole : remain top (below end dirty) (kept (runs_in r w₂)) ≡ plan P top old new image recorded dirty
      whole = settle_parts (kept (runs_in g w₁)) (kept (runs_in r w₂)) resized.says added.says

      pub settle_left : q ≤ top → plan P top old new image recorded dirty ≡ kept (runs_in q w₃)
      settle_left h = sym whole ∙ remain_kept top q (below end dirty) w₃ (runs_in r w₂) d.says k h

      pub settle_not : top < q → plan P top old new image recorded dirty ≡ too_many
      settle_not h = sym whole ∙ remain_not top q (below end dirty) w₃ (runs_in r w₂) d.says k h

-- the dirty pages are no more than the numbers
pub take-most : (v : List ℕ) (d : ℕ) → take (min d (length v)) v ≡ take d v
take-most v d = split (leb d (length v))
    (λ t. let e : min d (length v) ≡ d = omega (arith, leb-true d (length v) t) in rw e)
    (λ f. let e : min d (length v) ≡ length v = omega (arith, leb-false d (length v) f) in rw (e, take-length v, take_all d v (omega (arith, leb-false d (length v) f))))

pub tally_most : (end d : ℕ) (v : List ℕ) → length (below end (take d v)) ≤ d
tally_most end d v = omega (arith, below_most end (take d v), length-take d v)

-- ## The answer and the list at the end

abbrev number : Planned → ℕ
number (Ok k) = 0
number (Err r) = 1

runs_same : {k m : ℕ} → ◌≡◌ {A = Planned} (Ok k) (Ok m) → k ≡ m
runs_same e = cc

refused_same : {r q : Refusal} → ◌≡◌ {A = Planned} (Err r) (Err q) → r ≡ q
refused_same e = cc

-- what is not used of the list becomes zeros
pub ends : (n : ℕ) (p : Planned) (w : List ℕ) (a : Answer) → Settled p w a → outcome p (padded n (take (result_unwrap_or p 0 * 2) w)) ≡ planned n a
unfolding planned laid
ends n (Ok r) w a s =
    let e : laid n (runs_in r w) ≡ out (padded n (take (r * 2) w)) r = sym (laid_cleared n r w (runs_in r w) s.0 refl) in
    rw s.1 (λ i. outcome (Ok (sym e i).count) (sym e i).work)
ends n (Err r) w a s = rw (s.0, s.1)

-- and what a caller learns from them
pub planned_runs_lem : (n k : ℕ) (w : List ℕ) (a : Answer) → outcome (Ok k) w ≡ planned n a → a ≡ kept (runs_in k w)
unfolding planned
planned_runs_lem n k w too_many e = let z : ◌≡◌ {A = ℕ} 0 1 = ap (λ (o : Outcome). number o.answer) e in absurd (omega arith)
planned_runs_lem n k w (kept l) e =
    let c : k ≡ length l = runs_same (ap (λ (o : Outcome). o.answer) e) in
    let f : w ≡ padded n (numbers_of l) = ap (λ (o : Outcome). o.work) e in
    ap kept (sym (rw (f, c) (laid_runs n l)))

pub planned_not : (n : ℕ) (r : Refusal) (w : List ℕ) (a : Answer) → outcome (Err r) w ≡ planned n a → (a ≡ too_many) × (r ≡ ZeroExtentLimitExceeded) × (w ≡ padded n [])
unfolding planned
planned_not n r w too_many e = (refl, refused_same (ap (λ (o : Outcome). o.answer) e), ap (λ (o : Outcome). o.work) e)
planned_not n r w (kept l) e = let z : ◌≡◌ {A = ℕ} 1 0 = ap (λ (o : Outcome). number o.answer) e in absurd (omega arith)

-- ## What the plan keeps

-- page p is one of the pages
abbrev pub among : List ℕ → ℕ → Bool
among [] p = false
among (q ∷ qs) p = eqb p q || among qs p

remove_covers : (ps : List ℕ) (s : List ZeroExtent) (p : ℕ) → covers (remove_each ps s) p ≡ (covers s p && not (among ps p))
remove_covers [] s p = sym (and-true (covers s p))
remove_covers (q ∷ ps) s p = remove_covers ps (without q s) p ∙ rw (without_covers q p s) (both_not (covers s p) (eqb p q) (among ps p))
  where
    both_not : (a b d : Bool) → ((a && not b) && not d) ≡ (a && not (b || d))
    both_not a true d = rw (and-false a) refl
    both_not a false d = rw (and-true a) refl

kept_same : {s t : List ZeroExtent} → kept s ≡ kept t → s ≡ t
kept_same e = cc

or_swap : (a b d : Bool) → (b || (a || d)) ≡ ((a || b) || d)
or_swap a b d = sym (or_assoc b a d) ∙ ap (λ (x : Bool). x || d) (or_comm b a)

each_covers : (limit : ℕ) (xs s t : List ZeroExtent) (p : ℕ) → add_each limit xs (kept s) ≡ kept t → covers t p ≡ (covers xs p || covers s p)
each_covers limit [] s t p e = ap (λ (l : List ZeroExtent). covers l p) (sym (kept_same e))
each_covers limit (x ∷ xs) s t p e =
    split (ltb x.start x.end)
    (λ u. let a = add_present limit x s (ltb-true _ _ u) in
    split (leb (length (maximal (x ∷ s))) limit)
    (λ v. let g : add_each limit xs (kept (x ∷ s)) ≡ kept t = rw (a, v) at e in
    each_covers limit xs (x ∷ s) t p g ∙ or_swap (within x p) (covers xs p) (covers s p))
    (λ v. let g : add_each limit xs too_many ≡ kept t = rw (a, v) at e in never_kept (sym (each_stopped limit xs) ∙ g)))
    (λ u. let h : x.end ≤ x.start = ltb-false _ _ u in
    let g : add_each limit xs (kept s) ≡ kept t = rw (add_absent limit x s h) at e in
    let f : within x p ≡ false = split (within x p) (λ v. absurd (omega (arith, within_has x p v))) (λ v. v) in
    rw f (each_covers limit xs s t p g))

-- the set before the removals, where some is kept
Before : ℕ → List ℕ → Answer → List ZeroExtent → Type 0
Before top ps a l = (s : List ZeroExtent) × (a ≡ kept s) × (l ≡ maximal (remove_each ps s)) × (length l ≤ top)

before : (top : ℕ) (ps : List ℕ) (a : Answer) (l : List ZeroExtent) → remain top ps a ≡ kept l → Before top ps a l
unfolding remain Before
before top ps too_many l e = never_kept e
before top ps (kept s) l e =
    let left = maximal (remove_each ps s) in
    split (leb (length left) top)
    (λ t. let h : length left ≤ top = leb-true (length left) top t in
    let g : left ≡ l = kept_same (rw t at e) in
    (s, refl, sym g, rw (← g) h))
    (λ f. never_kept (rw f at e))

module _ (P top old new : ℕ) (image recorded : List ZeroExtent) (dirty : List ℕ) (l : List ZeroExtent) (e : plan P top old new image recorded dirty ≡ kept l) where
  kept_before : Before top (below (count P new) dirty) (add_each (top + length (below (count P new) dirty)) (additions P old new recorded) (kept image)) l
  unfolding plan
  kept_before = before top (below (count P new) dirty) _ l e

  -- an accepted commit leaves normalized runs, at most 1,024
  pub plan_normalized : normalized l ≡ true
  unfolding Before
  plan_normalized = rw kept_before.2 (maximal_normalized (remove_each (below (count P new) dirty) kept_before.0))

  pub plan_most : length l ≤ top
  unfolding Before
  plan_most = kept_before.3

  -- they cover what the image's runs or an addition covers, but no dirty page below the final count
  pub plan_covers : (p : ℕ) → covers l p ≡ ((covers (additions P old new recorded) p || covers image p) && not (among (below (count P new) dirty) p))
  unfolding Before
  plan_covers p =
      let ps = below (count P new) dirty in
      let s = kept_before.0 in
      ap (λ (k : List ZeroExtent). covers k p) kept_before.2
      ∙ maximal_covers (remove_each ps s) p
      ∙ remove_covers ps s p
      ∙ ap (λ (b : Bool). b && not (among ps p)) (each_covers _ (additions P old new recorded) image s p kept_before.1)
