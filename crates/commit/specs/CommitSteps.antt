-- The commit as the code walks it.
use Rattle.std.specs.Prelude.{◌≡◌, refl, Bool, true, false, cond, ◌&&◌, List, [], ◌∷◌, ◌++◌, ltb, leb, eqb, length, take, replicate, Ok, Err, Option, Some, None}
use Rattle.std.proofs.Math.Path.{sym}
use Rattle.std.proofs.Common.{take_all, take_at, drop_at, ap, ◌∙◌, zero-mul, true≢false, length-drop, length-append, drop_of_length-le, lt-ltb, le-ltb, eq-eqb, ne_eqb}
use Prim.Native.Nat.{ℕ, suc, ◌+◌, ◌-◌, ◌*◌, ◌/◌, ◌≤◌, ◌<◌, min}
use Rattle.std.proofs.Math.Nat.{suc-mul}
use native.Mathlib.Omega.{arith}
use Rattle.std.proofs.Math.ListN.{drop, get_or, length-take}
use Rattle.std.proofs.Math.Seq.{drop-cons, drop-drop}
use Rattle.memory.specs.Bytes.{zeros, overwrite, resize}
use Rattle.memory.specs.Laws.{below as belowOr, overwrite_out}
use Rattle.update.specs.Lists.{null}
use Rattle.update.specs.ListLaws.{resize-take}
use Rattle.update.specs.Pages.{Page, page_numbers, pages_in}
use Rattle.update.specs.PageLaws.{numbers-pages_in}
use Rattle.config.specs.Pages.{count}
use Rattle.config.specs.declared.StablePages.{StablePages}
use Rattle.config.specs.declared.refusal.Refusal.{Refusal}
use Rattle.config.specs.declared.refusal.Refusal.TheVariants.{GrowFailed, OffsetOverflow, ZeroExtentLimitExceeded}
use Rattle.memory.specs.Growth.{grow_to, required, pick, stable, outcome as growth}
use Rattle.memory.specs.Growth.{Growth}
use Rattle.meta.specs.declared.superblock.Superblock.{Superblock}
use Rattle.meta.specs.declared.ZeroExtent.{ZeroExtent}
use Rattle.meta.specs.Block.{seal, store_in}
use Rattle.meta.specs.Runs.{runs_of, numbers_of}
use Rattle.meta.specs.Stored.{outcome as written}
use Rattle.runs.specs.Flat.{runs_in, padded}
use Rattle.runs.specs.FlatLaws.{length-numbers, length-runs_in, numbers_runs, laid_runs}
use Rattle.image_runs.specs.Image.{image_runs}
use Rattle.extents.specs.Plan.{below, plan, Answer as Plan, too_many, kept}
use Rattle.extents.specs.Outcome.{planned, outcome as plannedOut}
use Rattle.extents.specs.Outcome.{Planned}
use Rattle.store.specs.declared.State.{State}
use Rattle.store.specs.Answers.{Done, Refused}
use Rattle.store.specs.Blocks.{after_commit}
use Rattle.store.specs.Codec.{Codec, real_codec, sealed, stored, real_sealed, real_stored}
use Rattle.store.specs.Plan.{store_plan, required as end}
use Rattle.store.proofs.PlanLaws.{store_plan_lem}
use Rattle.store.specs.Store.{write_pages}
use Rattle.commit.specs.Committed.{Outcome, outcome, publish_to, settle_to, commit_to}
use Rattle.commit.specs.Committed.{Committed}
use Rattle.commit.specs.Reach.{reach}

-- past its end nothing of memory changes
pub overwrite_near : (at : ℕ) (new xs : List ℕ) → overwrite (min at (length xs)) new xs ≡ overwrite at new xs
overwrite_near at new xs = belowOr at (length xs)
    (λ h. let e : min at (length xs) ≡ at = omega arith in rw e)
    (λ h. let e : min at (length xs) ≡ length xs = omega arith in rw e (overwrite_out (length xs) new xs (omega arith) ∙ sym (overwrite_out at new xs h)))

module _ (P S C L M : ℕ) (k : Codec) (base c : ℕ) (numbers frames : List ℕ) where
  -- memory, after the pages from page i on
  unfoldable pub rest : ℕ → List ℕ → List ℕ
  rest i m = write_pages P S C L M k base c (pages_in P (drop i numbers) (drop (i * P) frames)) m

  module _ (i : ℕ) where
    turn : (page : ℕ) (m : List ℕ) → i < length numbers → page ≡ get_or numbers i 0
        → rest i m ≡ rest (i + 1) (cond (ltb page c) (overwrite (base + page * P) (resize P (drop (i * P) frames)) m) m)
    unfolding rest
    turn page m h e =
        let f : suc i ≡ i + 1 = omega arith in
        let g : i * P + P ≡ (i + 1) * P = sym (ap (λ (x : ℕ). x * P) (sym f) ∙ suc-mul i P) in
        let t : drop i numbers ≡ page ∷ drop (i + 1) numbers = drop-cons numbers i 0 h ∙ (λ j. sym e j ∷ drop (f j) numbers) in
        rw (t, drop-drop P (i * P) frames, g)

    pub rest_skip : (page : ℕ) (m : List ℕ) → i < length numbers → page ≡ get_or numbers i 0 → c ≤ page → rest (i + 1) m ≡ rest i m
    rest_skip page m h e k = sym (turn page m h e ∙ rw (le-ltb page c k))

    pub rest_page : (page at k : ℕ) (m m' : List ℕ) → i < length numbers → page ≡ get_or numbers i 0 → page < c → i * P + P ≤ length frames
        → at ≡ min (base + page * P) (length m) → k ≡ P → m' ≡ overwrite at (take k (drop (i * P) frames)) m → rest (i + 1) m' ≡ rest i m
    rest_page page at k m m' h e below room near size new =
        rw (new, near, size, overwrite_near (base + page * P) (take P (drop (i * P) frames)) m)
        (sym (turn page m h e ∙ rw (lt-ltb page c below, resize-take P (drop (i * P) frames) (omega (arith, length-drop (i * P) frames)))))

    pub rest_none : (m : List ℕ) → length numbers ≤ i → rest i m ≡ m
    unfolding rest
    rest_none m h = rw (drop_of_length-le numbers {i = i} h)

  pub rest_all : (m : List ℕ) → rest 0 m ≡ write_pages P S C L M k base c (pages_in P numbers frames) m
  unfolding rest
  rest_all m = rw (zero-mul P)

-- the first of the pages left: a turn writes it, or leaves memory
module _ (P S C L M : ℕ) (k : Codec) (base c n : ℕ) (ns bs fs : List ℕ) (long : length bs ≡ P) where
  turn_first : (m : List ℕ) → write_pages P S C L M k base c (pages_in P (n ∷ ns) (bs ++ fs)) m
      ≡ write_pages P S C L M k base c (pages_in P ns fs) (cond (ltb n c) (overwrite (base + n * P) bs m) m)
  turn_first m = rw (resize-take P (bs ++ fs) (omega (arith, length-append bs fs, long)), take_at bs fs P long, drop_at bs fs P long)

  module _ (all pool : List ℕ) (first : all ≡ n ∷ ns) (front : pool ≡ bs ++ fs) where
    pub fewer : length all * P ≤ length pool → length ns * P ≤ length fs
    fewer h = omega (arith, h, ap (λ (l : List ℕ). length l * P) first, ap length front, length-append bs fs, long, suc-mul (length ns) P)

    pub first_skip : (m : List ℕ) → c ≤ n
        → write_pages P S C L M k base c (pages_in P ns fs) m ≡ write_pages P S C L M k base c (pages_in P all pool) m
    first_skip m h = sym (rw (first, front, turn_first m, le-ltb n c h))

    pub first_page : (m m' : List ℕ) (at : ℕ) → n < c → at ≡ min (base + n * P) (length m) → m' ≡ overwrite at bs m
        → write_pages P S C L M k base c (pages_in P ns fs) m' ≡ write_pages P S C L M k base c (pages_in P all pool) m
    first_page m m' at h near new = sym (rw (first, front, turn_first m, lt-ltb n c h, new, near, overwrite_near (base + n * P) bs m))

-- ## The answer of growth

abbrev is_refused : Growth → Bool
is_refused (Err r) = true
is_refused (Ok c) = false

refused_keeps : (a b : Bool) (x y : StablePages) (z r : Refusal) (m₁ m₂ m : List ℕ) → (pick a (growth (Ok x) m₁) (pick b (growth (Ok y) m₂) (growth (Err z) m))).growth ≡ Err r
    → (pick a (growth (Ok x) m₁) (pick b (growth (Ok y) m₂) (growth (Err z) m))).mem ≡ m
refused_keeps true b x y z r m₁ m₂ m e = absurd (true≢false (sym (ap is_refused e)))
refused_keeps false true x y z r m₁ m₂ m e = absurd (true≢false (sym (ap is_refused e)))
refused_keeps false false x y z r m₁ m₂ m e = refl

-- growth that is refused leaves memory
grow_keeps : (S n end : ℕ) (m : List ℕ) (r : Refusal) → (grow_to S n end m).growth ≡ Err r → (grow_to S n end m).mem ≡ m
unfolding grow_to
grow_keeps S n end m r e = refused_keeps (leb end (n * S)) (leb (required S n end) (length m / S)) (stable n) (stable (required S n end)) (GrowFailed (stable n) (stable (required S n end))) r
    m (overwrite (n * S) (zeros ((required S n end - n) * S)) m) m e

module _ (P S C L M : ℕ) (u : Bool) (s : State) (m : List ℕ) (n : ℕ) (d : List Page) (v : List ℕ) (end : ℕ) (g : Growth) (m₁ : List ℕ) (grew : growth g m₁ ≡ grow_to S s.count.0 end m) where
  pub publish_refused : (r : Refusal) → g ≡ Err r
      → outcome (record { count = s.count; block = s.block; answer = Refused r }) m₁ ≡ publish_to P S C L M real_codec u s m n d (runs_of v) (grow_to S s.count.0 end m).mem (grow_to S s.count.0 end m).growth
  publish_refused r e =
      let a : (grow_to S s.count.0 end m).growth ≡ Err r = ap (λ o. o.growth) (sym grew) ∙ e in
      let b : m₁ ≡ m = ap (λ o. o.mem) grew ∙ grow_keeps S s.count.0 end m r a in
      rw (a, b)

  pub publish_grown : (c : StablePages) (pages : ℕ) (m₂ m₃ : List ℕ) (b b' : Superblock) → g ≡ Ok c → numbers_of (runs_of v) ≡ v → pages ≡ count P n
      → m₂ ≡ write_pages P S C L M real_codec s.block.db_base_offset pages d m₁
      → b ≡ after_commit P M u n (length v / 2) s.block
      → written b' m₃ ≡ written (seal b v) (store_in b v m₂)
      → outcome (record { count = c; block = b'; answer = Done }) m₃ ≡ publish_to P S C L M real_codec u s m n d (runs_of v) (grow_to S s.count.0 end m).mem (grow_to S s.count.0 end m).growth
  publish_grown c pages m₂ m₃ b b' e even is pagesIs blockIs storeIs =
      let a : (grow_to S s.count.0 end m).growth ≡ Ok c = ap (λ o. o.growth) (sym grew) ∙ e in
      let f : (grow_to S s.count.0 end m).mem ≡ m₁ = ap (λ o. o.mem) (sym grew) in
      let h : length v / 2 ≡ length (runs_of v) = omega (arith, length-numbers (runs_of v), ap length even) in
      let rs : List ZeroExtent = runs_of v in
      let B : Superblock = after_commit P M u n (length rs) s.block in
      let w : List ℕ = write_pages P S C L M real_codec s.block.db_base_offset (count P n) d m₁ in
      let x : b ≡ B = blockIs ∙ ap (λ (k : ℕ). after_commit P M u n k s.block) h in
      let y : m₂ ≡ w = pagesIs ∙ ap (λ (k : ℕ). write_pages P S C L M real_codec s.block.db_base_offset k d m₁) is in
      let p : b' ≡ sealed real_codec B rs = ap (λ o. o.block) storeIs ∙ (λ j. seal (x j) (sym even j)) ∙ sym (real_sealed B rs) in
      let q : m₃ ≡ stored real_codec B rs w = ap (λ o. o.mem) storeIs ∙ (λ j. store_in (x j) (sym even j) (y j)) ∙ sym (real_stored B rs w) in
      rw (a, f) (λ j. outcome (record { count = c; block = p j; answer = Done }) (q j))

-- ## The plan's answer

abbrev is_runs : Planned → Bool
is_runs (Ok k) = true
is_runs (Err r) = false

abbrev count_of : Planned → ℕ
count_of (Ok k) = k
count_of (Err r) = 0

abbrev refusal_of : Planned → Refusal
refusal_of (Ok k) = ZeroExtentLimitExceeded
refusal_of (Err r) = r

pub plan_refused : (n : ℕ) (a : Plan) (r : Planned) (w : List ℕ) (x : Refusal) → plannedOut r w ≡ planned n a → r ≡ Err x → (a ≡ too_many) × (x ≡ ZeroExtentLimitExceeded)
unfolding planned
plan_refused n too_many r w x says e = (refl, ap refusal_of (sym e ∙ ap (λ o. o.answer) says))
plan_refused n (kept l) r w x says e = absurd (true≢false (ap (λ o. is_runs o.answer) (sym says) ∙ ap is_runs e))

pub plan_room : (n : ℕ) (a : Plan) (r : Planned) (w : List ℕ) (k : ℕ) → plannedOut r w ≡ planned n a → r ≡ Ok k → k * 2 ≤ length w
unfolding planned padded
plan_room n too_many r w k says e = absurd (true≢false (sym (ap is_runs e) ∙ ap (λ o. is_runs o.answer) says))
plan_room n (kept l) r w k says e =
    let c : k ≡ length l = ap count_of (sym e) ∙ ap (λ o. count_of o.answer) says in
    omega (arith, ap (λ o. length o.work) says, length-append (numbers_of l) (replicate (n - length (numbers_of l)) 0), length-numbers l)

pub plan_kept : (n : ℕ) (a : Plan) (r : Planned) (w : List ℕ) (k : ℕ) → plannedOut r w ≡ planned n a → r ≡ Ok k → a ≡ kept (runs_of (take (k * 2) w))
unfolding planned runs_in
plan_kept n too_many r w k says e = absurd (true≢false (sym (ap is_runs e) ∙ ap (λ o. is_runs o.answer) says))
plan_kept n (kept l) r w k says e =
    let c : k ≡ length l = ap count_of (sym e) ∙ ap (λ o. count_of o.answer) says in
    let f : w ≡ padded n (numbers_of l) = ap (λ o. o.work) says in
    ap kept (sym (rw (c, f) (laid_runs n l)))

-- an even number of numbers is runs
pub front_even : (k : ℕ) (w : List ℕ) → k * 2 ≤ length w → numbers_of (runs_of (take (k * 2) w)) ≡ take (k * 2) w
front_even k w h = numbers_runs (take (k * 2) w) k (omega (arith, length-take (k * 2) w))

-- ## The end that memory must reach

abbrev is_over : Option ℕ → Bool
is_over None = true
is_over (Some n) = false

abbrev end_of : Option ℕ → ℕ
end_of None = 0
end_of (Some n) = n

over_if : (b : Bool) (n : ℕ) → ◌≡◌ {A = Option ℕ} (cond b None (Some n)) None → b ≡ true
over_if true n e = refl
over_if false n e = ap is_over e

at_if : (b : Bool) (n k : ℕ) → ◌≡◌ {A = Option ℕ} (cond b None (Some n)) (Some k) → (b ≡ false) × (n ≡ k)
at_if true n k e = absurd (true≢false (ap is_over e))
at_if false n k e = (refl, ap end_of e)

pub reach_over : (n : ℕ) → reach n ≡ None → ltb 18446744073709551615 n ≡ true
unfolding reach
reach_over n e = over_if (ltb 18446744073709551615 n) n e

pub reach_at : (n k : ℕ) → reach n ≡ Some k → (ltb 18446744073709551615 n ≡ false) × (n ≡ k)
unfolding reach
reach_at n k e = at_if (ltb 18446744073709551615 n) n k e

-- ## 31, 20 and 32

module _ (P S C L M : ℕ) (k : Codec) (u : Bool) (s : State) (m : List ℕ) (n : ℕ) (ns frames : List ℕ) (image recorded : List ZeroExtent) where
  -- what the plan answers, and the end that memory must reach
  abbrev the_plan : Plan
  the_plan = plan P L s.block.db_size n image recorded ns

  abbrev the_end : ℕ
  the_end = end P s.block.db_base_offset (below (count P n) ns) (s.block.db_base_offset + n)

  abbrev settled : Outcome
  settled = settle_to P S C L M k u s m n (pages_in P ns frames) (store_plan P L s.block.db_size n image recorded ns)

  same_plan : store_plan P L s.block.db_size n image recorded ns ≡ the_plan
  same_plan = store_plan_lem P L s.block.db_size n image recorded ns

  pub settle_refused : (r : Committed) → the_plan ≡ too_many → r ≡ record { count = s.count; block = s.block; answer = Refused ZeroExtentLimitExceeded } → outcome r m ≡ settled
  settle_refused r e is = rw (same_plan, e, is)

  module _ (rs : List ZeroExtent) (e : the_plan ≡ kept rs) (r : Committed) where
    pub settle_over : ltb M the_end ≡ true → r ≡ record { count = s.count; block = s.block; answer = Refused OffsetOverflow } → outcome r m ≡ settled
    settle_over t is = rw (same_plan, e, is, numbers-pages_in P ns frames, t)

    pub settle_on : (x : ℕ) (m' : List ℕ) → ltb M the_end ≡ false → the_end ≡ x
        → outcome r m' ≡ publish_to P S C L M k u s m n (pages_in P ns frames) rs (grow_to S s.count.0 x m).mem (grow_to S s.count.0 x m).growth
        → outcome r m' ≡ settled
    settle_on x m' f is h = h ∙ sym (rw (same_plan, e, numbers-pages_in P ns frames, f, is))

-- ## An overlay without a change

-- recorded runs, cut to what is in use
pub runs_cut : (n : ℕ) (w : List ℕ) → n * 2 ≤ length w → runs_in (length (take (n * 2) w) / 2) (take (n * 2) w) ≡ runs_in n w
unfolding runs_in
runs_cut n w h =
    let e : length (take (n * 2) w) / 2 ≡ n = omega (arith, length-take (n * 2) w) in
    rw e (ap runs_of (take_all (n * 2) (take (n * 2) w) (omega (arith, length-take (n * 2) w))))

null-length : {A : Type 0} (l : List A) → null l ≡ eqb (length l) 0
null-length [] = sym (eq-eqb 0 0 refl)
null-length (x ∷ l) = sym (ne_eqb (suc (length l)) 0 (λ e. omega arith))

module _ (P S C L M : ℕ) (u : Bool) (s : State) (m : List ℕ) (begun n dirty entries : ℕ) (numbers frames recorded : List ℕ) (few : dirty ≤ length numbers) (room : entries * 2 ≤ length recorded) where
  same_test : (eqb n begun && (null (page_numbers (pages_in P (take dirty numbers) frames)) && null (runs_in entries recorded))) ≡ (eqb n begun && (eqb dirty 0 && eqb entries 0))
  same_test =
      let d : length (take dirty numbers) ≡ dirty = omega (arith, length-take dirty numbers) in
      let a : null (page_numbers (pages_in P (take dirty numbers) frames)) ≡ eqb dirty 0 = ap null (numbers-pages_in P (take dirty numbers) frames) ∙ null-length (take dirty numbers) ∙ ap (λ (k : ℕ). eqb k 0) d in
      let b : null (runs_in entries recorded) ≡ eqb entries 0 = null-length (runs_in entries recorded) ∙ ap (λ (k : ℕ). eqb k 0) (length-runs_in recorded entries room) in
      λ j. eqb n begun && (a j && b j)

  pub commit_empty : (eqb n begun && (eqb dirty 0 && eqb entries 0)) ≡ true
      → outcome (record { count = s.count; block = s.block; answer = Done }) m ≡ commit_to P S C L M real_codec u s m begun n (pages_in P (take dirty numbers) frames) (runs_in entries recorded)
  unfolding commit_to
  commit_empty t = rw (same_test, t)

  pub commit_on : (o : Outcome) → (eqb n begun && (eqb dirty 0 && eqb entries 0)) ≡ false
      → o ≡ settle_to P S C L M real_codec u s m n (pages_in P (take dirty numbers) frames)
      (store_plan P L s.block.db_size n (image_runs s.block.zero_extent_count m) (runs_in entries recorded) (take dirty numbers))
      → o ≡ commit_to P S C L M real_codec u s m begun n (pages_in P (take dirty numbers) frames) (runs_in entries recorded)
  unfolding commit_to real_codec
  commit_on o f h = h ∙ sym (rw (same_test, f, numbers-pages_in P (take dirty numbers) frames))
