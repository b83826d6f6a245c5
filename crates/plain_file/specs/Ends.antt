-- The end of an update or a direct call: what a commit answers and leaves, beside what the plain file tests and becomes.
use Rattle.std.specs.Prelude.{◌≡◌, refl, Bool, true, false, ◌&&◌, ltb, eqb, get_or, Ok}
use Rattle.std.proofs.Math.Path.{sym, ap, subst}
use Rattle.std.proofs.Common.{◌∙◌}
use Prim.Native.Nat.{ℕ, ◌+◌, ◌*◌, ◌/◌, ◌≤◌, ◌<◌, max}
use native.Mathlib.Omega.{arith}
use Rattle.std.proofs.Math.Bool.{cond}
use mathlib.Core.List.{List, [], ◌∷◌}
use Rattle.std.proofs.Math.ListN.{length}
use Rattle.std.proofs.Math.Seq.{ext_get_or}
use borrow.Author.Tests.{ltb-false, eqb-true, lt-ltb, le-ltb}
use Rattle.config.specs.Pages.{count}
use Rattle.config.specs.Refusals.{numbers_of}
use Rattle.config.specs.declared.refusal.Refusal.{Refusal}
use Rattle.config.specs.declared.refusal.Refusal.TheVariants.{ZeroExtentLimitExceeded, OffsetOverflow, GrowFailed}
use Rattle.memory.specs.Growth.{stable}
use Rattle.meta.specs.declared.superblock.Superblock.{Superblock}
use Rattle.meta.specs.declared.ZeroExtent.{ZeroExtent}
use Rattle.runs.specs.Sets.{covers}
use Rattle.extents.specs.Plan.{Answer as Planned, too_many, kept, below, plan}
use Rattle.update.specs.Lists.{tabulate, null}
use Rattle.update.specs.ListLaws.{clash, length-tabulate, tabulate_at}
use Rattle.update.specs.Pages.{Page, page_numbers}
use Rattle.update.specs.Image.{image_byte}
use Rattle.update.specs.Update.{Over, raw}
use Rattle.update.specs.Refused.{Weak}
use Rattle.update.specs.Reading.{raw_weak}
use Rattle.store.specs.declared.State.{State}
use Rattle.store.specs.Cases.{by_test}
use Rattle.store.specs.Answers.{Done, Refused}
use Rattle.store.specs.Codec.{Codec}
use Rattle.store.specs.Calls.{Lent, Out, number, idle, mode_of}
use Rattle.store.specs.Plan.{required}
use Rattle.store.proofs.PlanLaws.{store_plan_lem}
use Rattle.store.specs.Store.{runs_of, image, over, publish, settle, unchanged, planned_runs, commit_over}
use Rattle.store.specs.Lawful.{Lawful, Good}
use Rattle.store.proofs.MemoryLaws.{grow_cases}
use Rattle.store.specs.Facts.{Reaches}
use Rattle.store.proofs.CommitLaws.{new_block, flushed, after, commit_good, commit_byte, after_size, after_base, after_count, after_runs}
use Rattle.plain_file.specs.Plain.{File, Draft, Verdict, fine, runs31, range20, ceiling32, verdict_number, farthest, judge, ground, file_ground, taken, file_of}
use Rattle.plain_file.specs.Invariant.{Draws}

and_both : (a b : Bool) → (a && b) ≡ true → (a ≡ true) × (b ≡ true)
and_both true b h = (refl, h)
and_both false b h = clash h refl

null_numbers : (d : List Page) → null (page_numbers d) ≡ true → d ≡ []
null_numbers [] h = refl
null_numbers (g ∷ d) h = clash h refl

null_runs : (d : List ZeroExtent) → null d ≡ true → d ≡ []
null_runs [] h = refl
null_runs (g ∷ d) h = clash h refl

module _ (P S L M : ℕ) (k : Codec) where
  -- the image in a memory, by its parts
  pub file_is : (m : List ℕ) (f : File) → (k.decode m).db_size ≡ length f.bytes → (k.decode m).db_base_offset ≡ f.base → k.runs_in (k.decode m).zero_extent_count m ≡ f.runs
      → ((o : ℕ) → o < length f.bytes → cond (covers f.runs (o / P)) 0 (get_or m (f.base + o) 0) ≡ get_or f.bytes o 0) → file_of P S L M k m ≡ f
  unfolding file_of
  file_is m f z b r h =
      let F : ℕ → ℕ = λ o. cond (covers (k.runs_in (k.decode m).zero_extent_count m) (o / P)) 0 (get_or m ((k.decode m).db_base_offset + o) 0) in
      let e : tabulate (k.decode m).db_size F ≡ f.bytes = ext_get_or 0 _ _ (length-tabulate (k.decode m).db_size F ∙ z)
      (λ i j. let lt : i < (k.decode m).db_size = omega (arith, length-tabulate (k.decode m).db_size F) in
      tabulate_at (k.decode m).db_size F i lt ∙ (λ x. cond (covers (r x) (i / P)) 0 (get_or m (b x + i) 0)) ∙ h i (omega arith)) in
      λ i. record { bytes = e i; base = b i; runs = r i }

  -- the store looks as far as the plain file
  far_required : (base : ℕ) (ns : List ℕ) (end : ℕ) → farthest P S L M base ns end ≡ required P base ns end
  far_required base [] end = refl
  far_required base (n ∷ ns) end = ap (max (base + (n + 1) * P)) (far_required base ns end)

module _ (P S C L M : ℕ) (k : Codec) (pos : 0 < P) (spos : 0 < S) (laws : Lawful S L M k) where
  -- ## The image of a memory in order, by its bytes

  module _ (c : ℕ) (h : Superblock) (m : List ℕ) (g : Good S L M k c h m) where
    pub file-length : length (file_of P S L M k m).bytes ≡ h.db_size
    unfolding file_of
    file-length = length-tabulate (k.decode m).db_size _ ∙ g.size_is

    pub file_base : (file_of P S L M k m).base ≡ h.db_base_offset
    unfolding file_of
    file_base = g.base_is

    pub file_runs : (file_of P S L M k m).runs ≡ runs_of P S C L M k h m
    unfolding file_of
    file_runs = ap (λ (n : ℕ). k.runs_in n m) g.count_is

    pub file_byte : (o : ℕ) → o < h.db_size → get_or (file_of P S L M k m).bytes o 0 ≡ image P S C L M k h m o
    unfolding file_of image_byte
    file_byte o lt =
        let F : ℕ → ℕ = λ o. cond (covers (k.runs_in (k.decode m).zero_extent_count m) (o / P)) 0 (get_or m ((k.decode m).db_base_offset + o) 0) in
        tabulate_at (k.decode m).db_size F o (omega (arith, g.size_is))
        ∙ rw (image_byte, lt-ltb o h.db_size lt) (λ i. cond (covers (k.runs_in (g.count_is i) m) (o / P)) 0 (get_or m (g.base_is i + o) 0))

  -- ## What a commit leaves

  pub record Committed (c : ℕ) (h : Superblock) (m : List ℕ) (u : Over) (x : Out) : Type 0 where
    pub mode : mode_of x.state ≡ idle
    pub good : Good S L M k x.state.count.0 x.state.block x.lent.mem
    pub kept : (number x.answer ≡ 0 → ⊥) → x.lent.mem ≡ m
    pub pages : (number x.answer ≡ 0 → ⊥) → x.state.count.0 ≡ c
    pub ground : (f : File) (d : Draft) → f ≡ file_of P S L M k m → Draws P (image P S C L M k h m) h.db_size u d → number x.answer ≡ verdict_number (file_ground P S L M f d (length m))
    pub file : (f : File) (d : Draft) → f ≡ file_of P S L M k m → Draws P (image P S C L M k h m) h.db_size u d → file_of P S L M k x.lent.mem ≡ taken P S L M f d (file_ground P S L M f d (length m))

  module _ (w : Bool) (s : State) (l : Lent) (g : Good S L M k s.count.0 s.block l.mem) (u : Over) (weak : Weak P C M (image P S C L M k s.block l.mem) u) where
    abbrev c : ℕ
    c = s.count.0

    abbrev h : Superblock
    h = s.block

    abbrev m : List ℕ
    m = l.mem

    abbrev ns : List ℕ
    ns = below (count P u.size) (page_numbers u.dirty)

    abbrev end : ℕ
    end = required P h.db_base_offset ns (h.db_base_offset + u.size)

    -- 01's plan of this update, and its verdict
    abbrev pl : Planned
    pl = plan P L h.db_size u.size (runs_of P S C L M k h m) u.recorded (page_numbers u.dirty)

    abbrev verdict_here : Verdict
    verdict_here = ground P S L M h.db_base_offset h.db_size (runs_of P S C L M k h m) u.size (page_numbers u.dirty) u.recorded (length m)

    -- the plain file's test is of the same numbers
    same_ground : (f : File) (d : Draft) → f ≡ file_of P S L M k m → Draws P (image P S C L M k h m) h.db_size u d → file_ground P S L M f d (length m) ≡ verdict_here
    unfolding file_ground
    same_ground f d e y =
        let eb : f.base ≡ h.db_base_offset = ap (λ (x : File). x.base) e ∙ file_base c h m g in
        let es : length f.bytes ≡ h.db_size = ap (λ (x : File). length x.bytes) e ∙ file-length c h m g in
        let er : f.runs ≡ runs_of P S C L M k h m = ap (λ (x : File). x.runs) e ∙ file_runs c h m g in
        λ i. ground P S L M (eb i) (es i) (er i) (sym y.like.size_is i) (sym y.numbers_is i) (sym y.recorded_is i) (length m)

    abbrev same : Bool
    same = unchanged P S C L M k h.db_size u

    still_ground : same ≡ true → verdict_here ≡ fine (runs_of P S C L M k h m)
    unfolding unchanged ground
    still_ground e = rw (ground, e)

    changed_ground : same ≡ false → verdict_here ≡ judge P S L M end (length m) pl
    unfolding unchanged ground
    changed_ground e = rw (ground, e) (ap (λ (x : ℕ). judge P S L M x (length m) pl) (far_required P S L M k h.db_base_offset ns (h.db_base_offset + u.size)))

    raw_is : (o : ℕ) → u.dirty ≡ [] → u.recorded ≡ [] → raw P (image P S C L M k h m) u o ≡ image P S C L M k h m o
    raw_is o ed ez = raw_weak P C M pos (image P S C L M k h m) u o weak ∙ rw (ed, ez)

    still_file : same ≡ true → (f : File) (d : Draft) → f ≡ file_of P S L M k m → Draws P (image P S C L M k h m) h.db_size u d
        → file_of P S L M k m ≡ record { bytes = d.bytes; base = f.base; runs = runs_of P S C L M k h m }
    unfolding unchanged image_byte
    still_file e f d ef y =
        let a1 : (eqb u.size h.db_size ≡ true) × ((null (page_numbers u.dirty) && null u.recorded) ≡ true) = and_both _ _ e in
        let a2 : (null (page_numbers u.dirty) ≡ true) × (null u.recorded ≡ true) = and_both _ _ a1.1 in
        let ed : u.dirty ≡ [] = null_numbers u.dirty a2.0 in
        let ez : u.recorded ≡ [] = null_runs u.recorded a2.1 in
        let es : u.size ≡ h.db_size = eqb-true u.size h.db_size a1.0 in
        let eb : f.base ≡ h.db_base_offset = ap (λ (x : File). x.base) ef ∙ file_base c h m g in
        let en : length d.bytes ≡ h.db_size = sym y.like.size_is ∙ es in
        file_is P S L M k m (record { bytes = d.bytes; base = f.base; runs = runs_of P S C L M k h m })
        (g.size_is ∙ sym en) (g.base_is ∙ sym eb) (ap (λ (n : ℕ). k.runs_in n m) g.count_is)
        (λ o lt. let lz : o < h.db_size = omega arith in
        let i : image P S C L M k h m o ≡ cond (covers (runs_of P S C L M k h m) (o / P)) 0 (get_or m (h.db_base_offset + o) 0) = rw (image_byte, lt-ltb o h.db_size lz) in
        rw eb (sym i ∙ sym (raw_is o ed ez) ∙ y.like.same_as o lt))

    -- refused: memory stays
    no_commit : (vd : Verdict) (r : Refusal) → verdict_here ≡ vd → (numbers_of r).number ≡ verdict_number vd → ((f : File) (d : Draft) → taken P S L M f d vd ≡ f)
        → Committed c h m u (over P S C L M k s l (Refused r))
    no_commit vd r e n stays = record {
      mode = refl;
      good = g;
      kept = λ z. refl;
      pages = λ z. refl;
      ground = λ f d ef y. n ∙ sym (ap verdict_number (same_ground f d ef y ∙ e));
      file = λ f d ef y. sym ef ∙ sym (ap (taken P S L M f d) (same_ground f d ef y ∙ e) ∙ stays f d);
    }

    still : same ≡ true → Committed c h m u (over P S C L M k s l Done)
    still e = record {
      mode = refl;
      good = g;
      kept = λ z. refl;
      pages = λ z. refl;
      ground = λ f d ef y. sym (ap verdict_number (same_ground f d ef y ∙ still_ground e));
      file = λ f d ef y. still_file e f d ef y ∙ sym (ap (taken P S L M f d) (same_ground f d ef y ∙ still_ground e));
    }

    module _ (rs : List ZeroExtent) (changed : same ≡ false) (e : pl ≡ kept rs) where
      verdict : verdict_here ≡ cond (ltb M end) range20 (cond (ltb (length m / S) (count S end)) ceiling32 (fine rs))
      verdict = changed_ground changed ∙ ap (judge P S L M end (length m)) e

      published : (r : ℕ) (grown : List ℕ) → Reaches S c end m r grown → ltb M end ≡ false → count S end ≤ length m / S
          → Committed c h m u (publish P S C L M k w s l u rs grown (Ok (stable r)))
      unfolding new_block flushed after
      published r grown q f reach =
          let ok : end ≤ M = ltb-false M end f in
          let is : verdict_here ≡ fine rs = verdict ∙ rw (f, le-ltb (length m / S) (count S end) reach) in
          record {
            mode = refl;
            good = commit_good P S C L M k pos laws w c h m g u weak rs e ok r grown q;
            kept = λ z. absurd (z refl);
            pages = λ z. absurd (z refl);
            ground = λ a d ea y. sym (ap verdict_number (same_ground a d ea y ∙ is));
            file = λ a d ea y.
                let eb : a.base ≡ h.db_base_offset = ap (λ (x : File). x.base) ea ∙ file_base c h m g in
                file_is P S L M k (after P S C L M k pos laws w c h m g u weak rs e ok r grown q) (record { bytes = d.bytes; base = a.base; runs = rs })
                (after_size P S C L M k pos laws w c h m g u weak rs e ok r grown q ∙ y.like.size_is)
                (after_base P S C L M k pos laws w c h m g u weak rs e ok r grown q ∙ sym eb)
                (ap (λ (n : ℕ). k.runs_in n (after P S C L M k pos laws w c h m g u weak rs e ok r grown q)) (after_count P S C L M k pos laws w c h m g u weak rs e ok r grown q) ∙ after_runs P S C L M k pos laws w c h m g u weak rs e ok r grown q)
                (λ o lt. rw eb (commit_byte P S C L M k pos laws w c h m g u weak rs e ok r grown q d.bytes y.like o lt))
                ∙ sym (ap (taken P S L M a d) (same_ground a d ea y ∙ is));
          }

      settled_kept : Committed c h m u (settle P S C L M k w s l u (kept rs))
      settled_kept = by_test (Committed c h m u) (ltb M end) _ _
          (λ t. no_commit range20 OffsetOverflow (verdict ∙ rw t) refl (λ f d. refl))
          (λ f. grow_cases S spos c end m g.lent (λ gr m'. Committed c h m u (publish P S C L M k w s l u rs m' gr))
          (λ r m' q reach. published r m' q f reach)
          (λ full. no_commit ceiling32 (GrowFailed (stable c) (stable (count S end))) (verdict ∙ rw (f, lt-ltb (length m / S) (count S end) full)) refl (λ a d. refl)))

    settled : (x : Planned) → same ≡ false → pl ≡ x → Committed c h m u (settle P S C L M k w s l u x)
    settled too_many n e = no_commit runs31 ZeroExtentLimitExceeded (changed_ground n ∙ ap (judge P S L M end (length m)) e) refl (λ f d. refl)
    settled (kept rs) n e = settled_kept rs n e

    same_plan : planned_runs P S C L M k s m u ≡ pl
    unfolding planned_runs
    same_plan = store_plan_lem P L h.db_size u.size (runs_of P S C L M k h m) u.recorded (page_numbers u.dirty)

    pub committed : Committed c h m u (commit_over P S C L M k w s l h.db_size u)
    unfolding commit_over
    committed = by_test (Committed c h m u) same _ _ still
        (λ f. subst (λ (x : Planned). Committed c h m u (settle P S C L M k w s l u x)) (sym same_plan) (settled pl f refl))
