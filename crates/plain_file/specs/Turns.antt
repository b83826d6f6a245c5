-- One call in an update: what is owed is paid, and the invariant holds again.
use Rattle.std.specs.Prelude.{◌≡◌, ◌&&◌, ◌||◌, leb, eqb}
use Rattle.std.proofs.Math.Path.{refl, sym, ap, subst, subst₂}
use Rattle.std.proofs.Common.{◌∙◌, le-div_iff_mul-le, mul-le-mul_right, pos_of_ne-zero}
use Prim.Native.Nat.{ℕ, ◌+◌, ◌*◌, ◌/◌, ◌≤◌, ◌<◌, max, min}
use native.Mathlib.Omega.{arith}
use Rattle.std.proofs.Math.Bool.{Bool, true, false}
use mathlib.Core.List.{List, []}
use Rattle.std.proofs.Math.Dec.{ltb}
use Rattle.std.proofs.Math.ListN.{length, get_or, take}
use borrow.Author.Tests.{ltb-false, eqb-false, ne_eqb}
use Rattle.config.specs.Pages.{count}
use Rattle.config.specs.Refusals.{numbers_of}
use Rattle.memory.specs.Laws.{split}
use Rattle.meta.specs.declared.superblock.Superblock.{Superblock}
use Rattle.meta.specs.Runs.{numbers_of as runNumbers}
use Rattle.runs.specs.FlatLaws.{length-numbers}
use Rattle.extents.specs.Plan.{below}
use Rattle.update.specs.declared.Overlay.{Overlay}
use Rattle.update.specs.ListLaws.{clash, take-alike, refill-length}
use Rattle.update.specs.Pages.{page_numbers, flat, add_numbers, add_number_if, partial, span, grown_numbers}
use Rattle.update.specs.PageLaws.{numbers-length, flat-length}
use Rattle.update.specs.Update.{Over, push_run, truncated, written, read_over, Tried, accepted, refused, left, try_write, try_truncate, truncate_reach}
use Rattle.update.specs.Buffers.{Buffers, frame_count, entry_count, cached, short_buffers, view, overlay_of, put_back}
use Rattle.update.specs.BufferLaws.{cached_put, view_put}
use Rattle.update.specs.Changes.{write_like, truncate_like, write_numbers, write_recorded, truncate_numbers, truncate_recorded}
use Rattle.update.specs.Refused.{Weak, all_sized, Outcome, write_out, truncate_out}
use Rattle.update.specs.Reading.{Seen, read_seen, read_bytes_lem, seen_like}
use Rattle.store.specs.declared.State.{State}
use Rattle.store.specs.Cases.{no_or}
use Rattle.store.specs.Answers.{Size, Read}
use Rattle.store.specs.Codec.{Codec}
use Rattle.store.specs.Blocks.{importing}
use Rattle.store.specs.Calls.{Call, begin, read, write, truncate, commit, rollback, file_size, import_begin, import_chunk, import_finish, import_cancel, export, checksum, refresh, refresh_step, Lent, Out, number, uses, Mode, update, mode_of, buffers_short, short, cleared, with_buffers}
use Rattle.store.specs.Store.{working, budget_of, image, answer_of, in_update, commit_over, do_begin, act, swept}
use Rattle.store.specs.Lawful.{Lawful, Good}
use Rattle.plain_file.specs.PlainLaws.{run_pushed, runs_pushed, pages_same, within_same, grown_same}
use Rattle.plain_file.specs.Plain.{File, Draft, Plain, closed, drafting, draft_write, draft_truncate, spoil, file_of, from_memory, changed, committed as committedFile, plain_step}
use Rattle.plain_file.specs.Claim.{Unspoiled, Owed, Lends, laid, leaves, told, at_begin, Word}
use Rattle.plain_file.specs.Invariant.{Draws, Facts, Inv, InvMode, Near, Long, laid_long, laid_back, good_near, file_near, inv_near, inv_long, inv_back, inv_out}
use Rattle.plain_file.specs.Ends.{Committed, committed}

module _ (P S C L M : ℕ) (k : Codec) where
  -- what is owed of a call, and the invariant after it
  pub record Turned (p : Plain) (m : List ℕ) (c : Call) (l : Lent) (x : Out) (w : Lent) : Type 0 where
    pub owed : Owed P S C L M k p m c l x (leaves P S C L M k x.lent w)
    pub inv : Inv P S C L M k x.state (plain_step P S L M k p c (told P S C L M k l x))
        (at_begin P S C L M k p (plain_step P S L M k p c (told P S C L M k l x)) m (take (x.state.count.0 * S) (leaves P S C L M k x.lent w).mem))
        (leaves P S C L M k x.lent w)

  -- ## Not short

  pub mem_lent : (s : State) (l : Lent) (c : Call) → (uses c).mem? ≡ true → short P S C L s l c ≡ false → s.count.0 * S ≤ length l.mem
  unfolding short
  mem_lent s l c u e =
      let a : ((uses c).mem? && ltb (length l.mem) (s.count.0 * S)) ≡ false = (no_or _ _ e).0 in
      ltb-false (length l.mem) (s.count.0 * S) (rw u at a)

  bufs_lent : (s : State) (l : Lent) (c : Call) → (uses c).bufs? ≡ true → short P S C L s l c ≡ false → buffers_short P S C L (mode_of s) l.bufs ≡ false
  unfolding short
  bufs_lent s l c u e =
      let X : Bool = (uses c).mem? && ltb (length l.mem) (s.count.0 * S) in
      let Y : Bool = (uses c).bufs? && buffers_short P S C L (mode_of s) l.bufs in
      let Z : Bool = (uses c).work? && ltb (length l.work) ((L + 1 + 2 * frame_count P l.bufs) * 2) in
      let b : Y ≡ false = (no_or Y Z (no_or X (Y || Z) e).1).0 in
      rw u at b

  pub record Held (v : Overlay) (l : Buffers) : Type 0 where
    pub frames : v.dirty * P ≤ length l.frames
    pub numbers : v.dirty ≤ length l.numbers
    pub recs : v.recorded * 2 ≤ length l.recs
    pub clean : C * P ≤ length l.clean

  buffers_held : 0 < P → (v : Overlay) (l : Buffers) → short_buffers P C v l ≡ false → Held v l
  unfolding short_buffers frame_count
  buffers_held pos v l e =
      let A : Bool = ltb (min (length l.frames / P) (length l.numbers)) v.dirty in
      let B : Bool = ltb (length l.recs) (v.recorded * 2) in
      let D : Bool = ltb (length l.clean) (C * P) in
      let a : v.dirty ≤ min (length l.frames / P) (length l.numbers) = ltb-false _ _ (no_or A (B || D) e).0 in
      let d : v.dirty ≤ length l.frames / P = omega arith in
      record {
        frames = (le-div_iff_mul-le {x = v.dirty} pos).0 d;
        numbers = omega arith;
        recs = ltb-false (length l.recs) (v.recorded * 2) (no_or B D (no_or A (B || D) e).1).0;
        clean = ltb-false (length l.clean) (C * P) (no_or B D (no_or A (B || D) e).1).1;
      }

  -- the work list is nobody's business
  pub work_inv : Lawful S L M k → (s : State) (p : Plain) (m : List ℕ) (x : Lent) → Inv P S C L M k s p m x → Inv P S C L M k s p m (cleared x)
  work_inv laws s p m x v =
      let g : Long P S C L M k laws s x = inv_long P S C L M k laws (mode_of s) s p m x refl v in
      inv_near P S C L M k laws (mode_of s) s p m x (cleared x) refl (record {
        mem = λ i h. refl;
        frames = λ i h. refl;
        numbers = λ i h. refl;
        clean = λ i h. refl;
        recs = λ i h. refl;
        mem_long = g.mem;
        frames_long = g.frames;
        numbers_long = g.numbers;
        clean_long = g.clean;
        recs_long = g.recs;
      }) v

-- ## Drafts

module _ (P : ℕ) (pos : 0 < P) (b : ℕ → ℕ) (z : ℕ) (v : Over) (d : Draft) (y : Draws P b z v d) where
  pub draws_write : (o : ℕ) (bs : List ℕ) → Draws P b z (written P b o bs v) (draft_write P o bs d)
  unfolding written draft_write
  draws_write o bs = split (eqb (length bs) 0)
      (λ t. rw (written, draft_write, t) y)
      (λ f. rw (written, draft_write, f) record {
        like = write_like P pos b z o bs v d.bytes y.like;
        numbers_is = write_numbers P pos b z o bs v
            ∙ (λ i. add_numbers (o / P) (span P o (length bs)) (grown_numbers P (y.like.size_is i) (o + length bs) (y.numbers_is i)))
            ∙ (λ i. add_numbers (o / P) (pages_same P pos o (length bs) (pos_of_ne-zero (eqb-false (length bs) 0 f)) i) (grown_same P pos (length d.bytes) (o + length bs) d.dirty i));
        recorded_is = write_recorded P pos b z o bs v
            ∙ (λ i. push_run (count P (y.like.size_is i)) (count P (o + length bs)) (y.recorded_is i))
            ∙ run_pushed (count P (length d.bytes)) (count P (o + length bs)) d.recorded;
      })

  pub draws_truncate : (n : ℕ) → Draws P b z (truncated P b n v) (draft_truncate P n d)
  unfolding draft_truncate
  draws_truncate n = record {
    like = truncate_like P pos b z n v d.bytes y.like;
    numbers_is = truncate_numbers P pos b z n v
        ∙ (λ i. add_number_if (partial P n) (n / P) (below (count P n) (grown_numbers P (y.like.size_is i) n (y.numbers_is i))))
        ∙ (λ i. add_number_if (within_same P pos n i) (n / P) (below (count P n) (grown_same P pos (length d.bytes) n d.dirty i)));
    recorded_is = truncate_recorded P pos b z n v
        ∙ (λ i. push_run (count P n) (count P (y.like.size_is i)) (push_run (count P (y.like.size_is i)) (count P n) (y.recorded_is i)))
        ∙ runs_pushed (count P (length d.bytes)) (count P n) d.recorded;
  }

write_spoiled : (P o : ℕ) (bs : List ℕ) (d : Draft) → (draft_write P o bs d).spoiled ≡ d.spoiled
unfolding draft_write
write_spoiled P o bs d = split (eqb (length bs) 0) (λ t. rw (draft_write, t)) (λ f. rw (draft_write, f))

truncate_spoiled : (P n : ℕ) (d : Draft) → (draft_truncate P n d).spoiled ≡ d.spoiled
unfolding draft_truncate
truncate_spoiled P n d = refl

unspoiled : (b : Bool) {A : Type 0} → (b ≡ false → A) → Unspoiled b A
unspoiled true f = tt
unspoiled false f = f refl

module _ (P S C L M : ℕ) (k : Codec) (pos : 0 < P) (spos : 0 < S) (laws : Lawful S L M k) where
  -- what a call leaves, as it is left
  pub inv_done : (y : Out) (p : Plain) (m : List ℕ) (w : Lent) → Inv P S C L M k y.state p m y.lent → Inv P S C L M k y.state p m (leaves P S C L M k y.lent w)
  inv_done y p m w v = inv_out P S C L M k laws y.state p m y.lent w v

  pub inv_swept : (y : Out) (p : Plain) (m : List ℕ) (w : Lent) → Inv P S C L M k y.state p m y.lent → Inv P S C L M k y.state p m (leaves P S C L M k (cleared y.lent) w)
  inv_swept y p m w v = inv_out P S C L M k laws y.state p m (cleared y.lent) w (work_inv P S C L M k laws y.state p m y.lent v)

  -- ## A commit's result

  pub closed_inv : (c : ℕ) (h : Superblock) (a : List ℕ) (u : Over) (y : Out) (m : List ℕ) (f : File) → Committed P S C L M k pos spos laws c h a u y → f ≡ file_of P S L M k y.lent.mem → Inv P S C L M k y.state (closed f) m y.lent
  closed_inv c h a u y m f q e = subst (λ (t : Mode). InvMode P S C L M k t y.state (closed f) m y.lent) (sym q.mode) (q.good, e)

  -- accepted: the plain file is set from memory; refused: it stays
  spoiled_inv : (c : ℕ) (h : Superblock) (a : List ℕ) (u : Over) (y : Out) (m now : List ℕ) (f g : File) (d : Draft) (b : Bool) → eqb (number y.answer) 0 ≡ b → Committed P S C L M k pos spos laws c h a u y → f ≡ file_of P S L M k a
      → Inv P S C L M k y.state (from_memory P S L M k b y.lent.mem (closed f)) (at_begin P S C L M k (drafting g d) (from_memory P S L M k b y.lent.mem (closed f)) m now) y.lent
  spoiled_inv c h a u y m now f g d true e q r = closed_inv c h a u y [] (file_of P S L M k y.lent.mem) q refl
  spoiled_inv c h a u y m now f g d false e q r = closed_inv c h a u y [] f q (r ∙ ap (file_of P S L M k) (sym (q.kept (eqb-false (number y.answer) 0 e))))

  commit_inv : (c : ℕ) (h : Superblock) (l : Lent) (u : Over) (y : Out) (m now : List ℕ) (f : File) (d : Draft) (b : Bool) → d.spoiled ≡ b → Committed P S C L M k pos spos laws c h l.mem u y → f ≡ file_of P S L M k l.mem
      → (d.spoiled ≡ false → Draws P (image P S C L M k h l.mem) h.db_size u d)
      → Inv P S C L M k y.state (committedFile P S L M k b f d (told P S C L M k l y)) (at_begin P S C L M k (drafting f d) (committedFile P S L M k b f d (told P S C L M k l y)) m now) y.lent
  commit_inv c h l u y m now f d true e q r s = spoiled_inv c h l.mem u y m now f f d (eqb (number y.answer) 0) refl q r
  commit_inv c h l u y m now f d false e q r s = closed_inv c h l.mem u y [] _ q (sym (q.file f d r (s e)))

  -- ## Changes in an update

  module _ (c : ℕ) (h : Superblock) (v : Overlay) (f : File) (d : Draft) (m : List ℕ) (l : Lent) (i : Inv P S C L M k (working c h v) (drafting f d) m l) where
    abbrev img : ℕ → ℕ
    img = image P S C L M k h l.mem

    put_inv : (n : ℕ) (u : Over) (e : Draft) → Weak P C M img u → (e.spoiled ≡ false → Draws P img h.db_size u e)
        → Inv P S C L M k (working c h (overlay_of P C v.base_size u)) (drafting f e) m (with_buffers (put_back P C v n u l.bufs) l)
    unfolding put_back overlay_of
    put_inv j u e w y =
        let q : cached P C (overlay_of P C v.base_size u).cache ≡ page_numbers u.cache = cached_put P C v.base_size u w.few in
        let n : length (cached P C (overlay_of P C v.base_size u).cache) ≡ length u.cache = ap length q ∙ numbers-length u.cache in (
          i.0,
          i.1,
          record {
            began = i.2.began;
            begun = i.2.begun;
            numbers = omega (arith, refill-length j (page_numbers u.dirty) l.bufs.numbers, numbers-length u.dirty);
            frames = omega (arith, refill-length (j * P) (flat u.dirty) l.bufs.frames, flat-length P u.dirty w.sized);
            recs = omega (arith, refill-length (v.recorded * 2) (runNumbers u.recorded) l.bufs.recs, length-numbers u.recorded);
            clean = rw n (omega (arith, refill-length (length (cached P C v.cache) * P) (flat u.cache) l.bufs.clean, flat-length P u.cache (all_sized P img u.cache w.cached)));
            few = rw n w.few;
            facts = subst (λ (x : Over). Facts P C M img h.db_size x e) (sym (view_put P C v.base_size v j u l.bufs w.sized (all_sized P img u.cache w.cached) w.few)) record { weak = w; draws = y };
          },
        )

    -- a change, accepted or refused
    change_inv : (j : ℕ) (G : Draft → Draft) (n : ℕ) (now : List ℕ) (t : Tried) (x : Over) → Outcome (Weak P C M img) t x → (d.spoiled ≡ false → Draws P img h.db_size x (G d)) → (G d).spoiled ≡ d.spoiled
        → Inv P S C L M k (working c h (overlay_of P C v.base_size (left t))) (changed P S L M k (eqb (number (answer_of P S C L M k t)) 0) G n (drafting f d))
        (at_begin P S C L M k (drafting f d) (changed P S L M k (eqb (number (answer_of P S C L M k t)) 0) G n (drafting f d)) m now) (with_buffers (put_back P C v j (left t) l.bufs) l)
    unfolding spoil
    change_inv j G n now (accepted u) x a y e = put_inv j u (G d) a.1 (λ z. subst (λ (q : Over). Draws P img h.db_size q (G d)) (sym a.0) (y (sym e ∙ z)))
    change_inv j G n now (refused r u) x a y e = rw (ne_eqb (numbers_of r).number 0 a.0.0) (put_inv j u (spoil d) a.1 (λ z. clash refl z))

  -- ## The turns of an update

  module _ (c : ℕ) (h : Superblock) (v : Overlay) (f : File) (d : Draft) (m : List ℕ) (w l : Lent)
      (i : Inv P S C L M k (working c h v) (drafting f d) m w) (t : Lends P S C L M k (working c h v) w l) where
    abbrev s : State
    s = working c h v

    nothing : Inv P S C L M k s (drafting f d) m (leaves P S C L M k l w)
    nothing = inv_back P S C L M k laws s (drafting f d) m l w t i

    near_in : (b : Call) → (uses b).mem? ≡ true → (uses b).bufs? ≡ true → short P S C L s l b ≡ false → Near P S C L M k s w l
    near_in b um ub e =
        let a : c * S ≤ length l.mem = mem_lent P S C L M k s l b um e in
        let q : Held P S C L M k v l.bufs = buffers_held P S C L M k pos v l.bufs (bufs_lent P S C L M k s l b ub e) in
        let u : length (cached P C v.cache) * P ≤ length l.bufs.clean = omega (arith, mul-le-mul_right P i.2.few, q.clean) in
        record {
          mem = λ j x. t.mem j x (omega arith);
          frames = λ j x. t.frames j x (omega (arith, q.frames));
          numbers = λ j x. t.numbers j x (omega (arith, q.numbers));
          clean = λ j x. t.clean j x (omega arith);
          recs = λ j x. t.recs j x (omega (arith, q.recs));
          mem_long = a;
          frames_long = q.frames;
          numbers_long = q.numbers;
          clean_long = u;
          recs_long = q.recs;
        }

    inside : (b : Call) → (uses b).mem? ≡ true → (uses b).bufs? ≡ true → short P S C L s l b ≡ false → Inv P S C L M k s (drafting f d) m l
    inside b um ub e = inv_near P S C L M k laws (update v) s (drafting f d) m w l refl (near_in b um ub e) i

    -- the memory when the update began
    still_there : take (c * S) (laid P S C L M k l.mem w.mem) ≡ m
    still_there = take-alike (c * S) (laid P S C L M k l.mem w.mem) w.mem (omega (arith, i.0.lent, laid_long P S C L M k l.mem w.mem)) i.0.lent (laid_back P S C L M k l.mem w.mem (c * S) t.mem) ∙ i.2.began

    begin_turn : (g : Bool) (a z : ℕ) (b : Bool) → Turned P S C L M k (drafting f d) m (begin g a z) l (do_begin P S C L M k s l (budget_of g a z) b (update v)) w
    begin_turn g a z true = record { owed = tt; inv = nothing }
    begin_turn g a z false = record { owed = tt; inv = nothing }

    view_size : (l : Buffers) → v.size ≡ (view P C v l).size
    unfolding view
    view_size l = refl

    size_turn : Turned P S C L M k (drafting f d) m file_size l (act P S C L M k s l file_size) w
    size_turn = record {
      owed = unspoiled d.spoiled (λ z. ap Size (view_size w.bufs ∙ (i.2.facts.draws z).like.size_is));
      inv = nothing;
    }

    read_turn : (o : ℕ) (dst : List ℕ) → short P S C L s l (read o dst) ≡ false → Turned P S C L M k (drafting f d) m (read o dst) l (act P S C L M k s l (read o dst)) w
    read_turn o dst e =
        let n : ℕ = length dst in
        let j : Inv P S C L M k s (drafting f d) m l = inside (read o dst) refl refl e in
        let b : ℕ → ℕ = image P S C L M k h l.mem in
        let u : Over = view P C v l.bufs in
        let x : Over = read_over P C b o n u in
        let a : Weak P C M b u = j.2.facts.weak in
        let q : Seen P C M b u x = read_seen P C M pos b o n u a in
        record {
          owed = unspoiled d.spoiled (λ z. let y : Draws P b h.db_size u d = j.2.facts.draws z in record {
            full = ap (λ (q : ℕ). Read (eqb n 0 || leb (o + n) q)) (view_size l.bufs ∙ y.like.size_is);
            shown = read_bytes_lem P C M pos b h.db_size u d.bytes o n a y.like;
          });
          inv = inv_done (act P S C L M k s l (read o dst)) (drafting f d) m w (put_inv c h v f d m l j v.dirty x d q.weak (λ z. let y : Draws P b h.db_size u d = j.2.facts.draws z in record {
            like = seen_like P C M pos b h.db_size (length d.bytes) u x d.bytes a q y.like;
            numbers_is = ap page_numbers q.dirty ∙ y.numbers_is;
            recorded_is = q.recorded ∙ y.recorded_is;
          }));
        }

    write_turn : (o : ℕ) (bs : List ℕ) → short P S C L s l (write o bs) ≡ false → Turned P S C L M k (drafting f d) m (write o bs) l (swept P S C L M k true (act P S C L M k s l (write o bs))) w
    write_turn o bs e =
        let j : Inv P S C L M k s (drafting f d) m l = inside (write o bs) refl refl e in
        let b : ℕ → ℕ = image P S C L M k h l.mem in
        let u : Over = view P C v l.bufs in
        let F : ℕ = frame_count P l.bufs in
        let R : ℕ = entry_count l.bufs in
        let tr : Tried = try_write P M F R b o bs u in
        let y : Out = in_update P S C L M k s l v 0 tr in
        let p : Plain = changed P S L M k (eqb (number (answer_of P S C L M k tr)) 0) (draft_write P o bs) (length l.mem) (drafting f d) in
        let now : List ℕ = take (c * S) (leaves P S C L M k (cleared y.lent) w).mem in
        record {
          owed = tt;
          inv = inv_swept y p (at_begin P S C L M k (drafting f d) p m now) w (change_inv c h v f d m l j (max v.dirty 0) (draft_write P o bs) (length l.mem) now tr (written P b o bs u)
              (write_out P C M pos b F R o bs u j.2.facts.weak)
              (λ z. draws_write P pos b h.db_size u d (j.2.facts.draws z) o bs)
              (write_spoiled P o bs d));
        }

    truncate_turn : (n : ℕ) → n ≤ M → short P S C L s l (truncate n) ≡ false → Turned P S C L M k (drafting f d) m (truncate n) l (swept P S C L M k true (act P S C L M k s l (truncate n))) w
    truncate_turn n word e =
        let j : Inv P S C L M k s (drafting f d) m l = inside (truncate n) refl refl e in
        let b : ℕ → ℕ = image P S C L M k h l.mem in
        let u : Over = view P C v l.bufs in
        let F : ℕ = frame_count P l.bufs in
        let R : ℕ = entry_count l.bufs in
        let tr : Tried = try_truncate P M F R b n u in
        let reach : ℕ = truncate_reach P M F R b n u in
        let y : Out = in_update P S C L M k s l v reach tr in
        let p : Plain = changed P S L M k (eqb (number (answer_of P S C L M k tr)) 0) (draft_truncate P n) (length l.mem) (drafting f d) in
        let now : List ℕ = take (c * S) (leaves P S C L M k (cleared y.lent) w).mem in
        record {
          owed = tt;
          inv = inv_swept y p (at_begin P S C L M k (drafting f d) p m now) w (change_inv c h v f d m l j (max v.dirty reach) (draft_truncate P n) (length l.mem) now tr (truncated P b n u)
              (truncate_out P C M pos b F R n u word j.2.facts.weak)
              (λ z. draws_truncate P pos b h.db_size u d (j.2.facts.draws z) n)
              (truncate_spoiled P n d));
        }

    commit_turn : short P S C L s l commit ≡ false → Turned P S C L M k (drafting f d) m commit l (swept P S C L M k true (act P S C L M k s l commit)) w
    unfolding leaves
    commit_turn e =
        let j : Inv P S C L M k s (drafting f d) m l = inside commit refl refl e in
        let u : Over = view P C v l.bufs in
        let y : Out = commit_over P S C L M k true s l v.base_size u in
        let q : Committed P S C L M k pos spos laws c h l.mem u y =
        subst (λ (z : ℕ). Committed P S C L M k pos spos laws c h l.mem u (commit_over P S C L M k true s l z u)) (sym j.2.begun)
        (committed P S C L M k pos spos laws true s l j.0 u j.2.facts.weak) in
        let p : Plain = committedFile P S L M k d.spoiled f d (told P S C L M k l y) in
        let now : List ℕ = take (y.state.count.0 * S) (leaves P S C L M k (cleared y.lent) w).mem in
        record {
          owed = (
            unspoiled d.spoiled (λ z. q.ground f d j.1 (j.2.facts.draws z)),
            λ ne. record {
              call = q.kept ne;
              began = subst₂ (λ (a : List ℕ) (b : ℕ). take (b * S) (laid P S C L M k a w.mem) ≡ m) (sym (q.kept ne)) (sym (q.pages ne)) still_there;
            },
          );
          inv = inv_swept y p (at_begin P S C L M k (drafting f d) p m now) w (commit_inv c h l u y m now f d d.spoiled refl q j.1 j.2.facts.draws);
        }

    rollback_turn : Turned P S C L M k (drafting f d) m rollback l (act P S C L M k s l rollback) w
    unfolding leaves
    rollback_turn =
        let g : Good S L M k c h w.mem = i.0 in
        let same : (n : ℕ) → n < c * S → get_or (laid P S C L M k l.mem w.mem) n 0 ≡ get_or w.mem n 0 = laid_back P S C L M k l.mem w.mem (c * S) t.mem in
        let long : c * S ≤ length (laid P S C L M k l.mem w.mem) = omega (arith, g.lent, laid_long P S C L M k l.mem w.mem) in
        record {
          owed = (refl, record { call = refl; began = still_there });
          inv = (
            good_near P S C L M k laws c h w.mem (laid P S C L M k l.mem w.mem) g same long,
            i.1 ∙ sym (file_near P S C L M k laws c h w.mem (laid P S C L M k l.mem w.mem) g same long),
          );
        }

    pub update_turn : (b : Call) → Word P S C L M k b → short P S C L s l b ≡ false → Turned P S C L M k (drafting f d) m b l (swept P S C L M k (uses b).work? (act P S C L M k s l b)) w
    update_turn (begin g a b) z e = begin_turn g a b (importing h)
    update_turn (read o dst) z e = read_turn o dst e
    update_turn (write o bs) z e = write_turn o bs e
    update_turn (truncate n) z e = truncate_turn n z e
    update_turn commit z e = commit_turn e
    update_turn rollback z e = rollback_turn
    update_turn file_size z e = size_turn
    update_turn (import_begin a b) z e = record { owed = tt; inv = nothing }
    update_turn (import_chunk o bs) z e = record { owed = tt; inv = nothing }
    update_turn import_finish z e = record { owed = tt; inv = nothing }
    update_turn import_cancel z e = record { owed = tt; inv = nothing }
    update_turn (export o dst) z e = record { owed = tt; inv = nothing }
    update_turn checksum z e = record { owed = tt; inv = nothing }
    update_turn refresh z e = record { owed = tt; inv = nothing }
    update_turn (refresh_step n) z e = record { owed = tt; inv = nothing }
