-- Laws of the calls that hold for any state and any bytes: memory keeps its length, a refused commit, and a direct call that is refused behind 35
-- and 10, leave memory as it was and zeros in the buffers, an accepted commit leaves the file that its update showed, and a read is full where it is to be.
use Rattle.std.specs.Prelude.{◌≡◌, Bool, true, false, not, ◌&&◌, ltb, leb, take, drop, get_or, Ok, Err}
use Rattle.std.proofs.Math.Path.{refl, ap}
use Rattle.std.proofs.Common.{◌∙◌, arith, le-leb, ne_eqb, eqb-true}
use Prim.Native.Nat.{ℕ, ◌+◌, ◌-◌, ◌*◌, ◌/◌, ◌≤◌, ◌<◌, max, min}
use Rattle.std.proofs.Math.Bool.{cond, or-true}
use mathlib.Core.List.{List, [], ◌∷◌}
use Rattle.std.proofs.Math.Dec.{eqb}
use Rattle.std.proofs.Math.ListN.{length}
use Rattle.std.proofs.lemmas.Bool.{lt-leb}
use Rattle.config.specs.Pages.{count}
use Rattle.memory.specs.Bytes.{zeros}
use Rattle.memory.specs.Laws.{split, length-overwrite}
use Rattle.memory.specs.Growth.{grow_to, required as requiredPages, stable}
use Rattle.memory.specs.Growth.{Growth}
use Rattle.meta.specs.declared.superblock.Superblock.{Superblock}
use Rattle.meta.specs.declared.ZeroExtent.{ZeroExtent}
use Rattle.extents.specs.Plan.{Answer as Planned, too_many, kept, below, plan}
use Rattle.extents.specs.PlanLaws.{among}
use Rattle.update.specs.ListLaws.{clash}
use Rattle.update.specs.Pages.{page_numbers}
use Rattle.update.specs.Update.{Over, fresh, Tried, accepted, refused, try_write, try_truncate, truncate_reach}
use Rattle.update.specs.Buffers.{frame_count, entry_count, wiped, view}
use Rattle.update.specs.Changes.{Like}
use Rattle.update.specs.Refused.{Weak}
use Rattle.store.specs.declared.State.{State}
use Rattle.store.specs.Answers.{Answer}
use Rattle.store.specs.Answers.{Done}
use Rattle.store.specs.Codec.{Codec}
use Rattle.store.specs.Blocks.{importing, refreshing}
use Rattle.store.specs.Calls.{Call, begin, read, write, truncate, commit, rollback, file_size, import_begin, import_chunk, import_finish, import_cancel, export, checksum, refresh, refresh_step, Lent, Out, out, uses, Mode, idle, update, mode_of}
use Rattle.store.specs.Plan.{required}
use Rattle.store.specs.Store.{budget_of, ended, image, runs_of, over, publish, settle, unchanged, planned_runs, commit_over, direct, change, do_begin, do_read, full, do_commit, do_rollback, restore, do_import_begin, place_chunk, do_import_chunk, do_import_finish, do_import_cancel, do_export, do_checksum, do_refresh, refresh_from, do_refresh_step, alone, act, swept, store}
use Rattle.store.specs.Lawful.{Lawful, Good}
use Rattle.store.proofs.MemoryLaws.{pages-length, stored_long}
use Rattle.store.specs.Facts.{Reaches}
use Rattle.store.proofs.CommitLaws.{new_block, flushed, after, commit_good, commit_image}
use Rattle.store.specs.Cases.{by_test}
use Rattle.store.specs.Facts.{Ends}
use Rattle.store.proofs.WaysOut.{store_cases}

grow-length : (S n end : ℕ) (m : List ℕ) → length (grow_to S n end m).mem ≡ length m
unfolding grow_to
grow-length S n end m = split (leb end (n * S))
    (λ t. rw t)
    (λ f. rw f (split (leb (requiredPages S n end) (length m / S))
    (λ t. rw t (length-overwrite (n * S) (zeros ((requiredPages S n end - n) * S)) m))
    (λ g. rw g)))

-- every dirty page that is written ends at the required end or before
pub required_page : (P base : ℕ) (ns : List ℕ) (end q : ℕ) → among ns q ≡ true → base + (q + 1) * P ≤ required P base ns end
required_page P base [] end q h = clash h refl
required_page P base (n ∷ ns) end q h = split (eqb q n)
    (λ t. rw (eqb-true q n t) (omega arith))
    (λ f. let r : base + (q + 1) * P ≤ required P base ns end = required_page P base ns end q (rw f at h) in omega arith)

module _ (P S C L M : ℕ) (k : Codec) where
  -- ## Reads

  -- full exactly when it is empty or ends at or before the size
  pub read_empty : (size o : ℕ) → full P S C L M k size o 0 ≡ true
  read_empty size o = refl

  pub read_inside : (size o n : ℕ) → o + n ≤ size → full P S C L M k size o n ≡ true
  read_inside size o n h = rw (le-leb (o + n) size h) (or-true (eqb n 0))

  pub read_past : (size o n : ℕ) → (n ≡ 0 → ⊥) → size < o + n → full P S C L M k size o n ≡ false
  read_past size o n ne h = rw (ne_eqb n 0 ne, lt-leb (o + n) size h)

  -- ## Commit

  module _ (u : Bool) (s : State) (l : Lent) (begun : ℕ) (w : Over) where
    -- an update that changed nothing stores no byte
    pub commit_unchanged : unchanged P S C L M k begun w ≡ true → commit_over P S C L M k u s l begun w ≡ out (ended P S C L M k s.count.0 s.block) (record { mem = l.mem; bufs = wiped l.bufs; work = l.work }) Done []
    unfolding commit_over
    commit_unchanged e = ap (λ (b : Bool). cond b (over P S C L M k s l Done) (settle P S C L M k u s l w (planned_runs P S C L M k s l.mem w))) e

  -- an accepted commit: the bytes that the update showed are the image's, which is in order
  module _ (pos : 0 < P) (laws : Lawful S L M k) (u : Bool) (s : State) (l : Lent) (g : Good S L M k s.count.0 s.block l.mem) (v : Over) (w : Weak P C M (image P S C L M k s.block l.mem) v) (rs : List ZeroExtent)
      (planned : plan P L s.block.db_size v.size (runs_of P S C L M k s.block l.mem) v.recorded (page_numbers v.dirty) ≡ kept rs)
      (range : required P s.block.db_base_offset (below (count P v.size) (page_numbers v.dirty)) (s.block.db_base_offset + v.size) ≤ M)
      (r : ℕ) (grown : List ℕ)
      (reaches : Reaches S s.count.0 (required P s.block.db_base_offset (below (count P v.size) (page_numbers v.dirty)) (s.block.db_base_offset + v.size)) l.mem r grown) where
    abbrev done : Out
    done = publish P S C L M k u s l v rs grown (Ok (stable r))

    pub commit_reads : (d : List ℕ) → Like P (image P S C L M k s.block l.mem) s.block.db_size v (length d) d
        → (o : ℕ) → o < length d → image P S C L M k done.state.block done.lent.mem o ≡ get_or d o 0
    unfolding new_block flushed after
    commit_reads d y o lt = commit_image P S C L M k pos laws u s.count.0 s.block l.mem g v w rs planned range r grown reaches d y o lt

    pub commit_in_order : Good S L M k done.state.count.0 done.state.block done.lent.mem
    unfolding new_block flushed after
    commit_in_order = commit_good P S C L M k pos laws u s.count.0 s.block l.mem g v w rs planned range r grown reaches

  -- ## The end of an update or of a direct call

  publish_ends : (u : Bool) (s : State) (l : Lent) (w : Over) (rs : List ZeroExtent) (m : List ℕ) (g : Growth) → Ends l (publish P S C L M k u s l w rs m g)
  publish_ends u s l w rs m (Err r) = record { over = refl; zeroed = refl; kept = λ h. refl }
  publish_ends u s l w rs m (Ok c) = record { over = refl; zeroed = refl; kept = λ h. absurd (h refl) }

  settle_ends : (u : Bool) (s : State) (l : Lent) (w : Over) (x : Planned) → Ends l (settle P S C L M k u s l w x)
  settle_ends u s l w too_many = record { over = refl; zeroed = refl; kept = λ h. refl }
  settle_ends u s l w (kept rs) =
      let end : ℕ = required P s.block.db_base_offset (below (count P w.size) (page_numbers w.dirty)) (s.block.db_base_offset + w.size) in
      by_test (Ends l) (ltb M end) _ _ (λ t. record { over = refl; zeroed = refl; kept = λ h. refl })
      (λ f. publish_ends u s l w rs (grow_to S s.count.0 end l.mem).mem (grow_to S s.count.0 end l.mem).growth)

  -- any commit of an update or of a direct call, accepted or not
  pub commit_ends : (u : Bool) (s : State) (l : Lent) (begun : ℕ) (w : Over) → Ends l (commit_over P S C L M k u s l begun w)
  unfolding commit_over
  commit_ends u s l begun w = by_test (Ends l) (unchanged P S C L M k begun w) _ _ (λ t. record { over = refl; zeroed = refl; kept = λ h. refl })
      (λ f. settle_ends u s l w (planned_runs P S C L M k s l.mem w))

  -- and a direct call that is refused before its commit
  pub direct_ends : (s : State) (l : Lent) (t : Tried) → Ends l (direct P S C L M k s l t)
  direct_ends s l (accepted w) = commit_ends false s l s.block.db_size w
  direct_ends s l (refused r w) = record { over = refl; zeroed = refl; kept = λ h. refl }

  -- ## Memory keeps its length

  abbrev Long : Lent → Out → Type 0
  Long l x = length x.lent.mem ≡ length l.mem

  publish_long : (u : Bool) (s : State) (l : Lent) (w : Over) (rs : List ZeroExtent) (m : List ℕ) (g : Growth) → length m ≡ length l.mem → Long l (publish P S C L M k u s l w rs m g)
  publish_long u s l w rs m (Err r) e = refl
  publish_long u s l w rs m (Ok c) e = stored_long k _ rs _ ∙ pages-length P S C L M k s.block.db_base_offset (count P w.size) w.dirty m ∙ e

  settle_long : (u : Bool) (s : State) (l : Lent) (w : Over) (x : Planned) → Long l (settle P S C L M k u s l w x)
  settle_long u s l w too_many = refl
  settle_long u s l w (kept rs) =
      let end : ℕ = required P s.block.db_base_offset (below (count P w.size) (page_numbers w.dirty)) (s.block.db_base_offset + w.size) in
      by_test (Long l) (ltb M end) _ _ (λ t. refl)
      (λ f. publish_long u s l w rs (grow_to S s.count.0 end l.mem).mem (grow_to S s.count.0 end l.mem).growth (grow-length S s.count.0 end l.mem))

  commit_long : (u : Bool) (s : State) (l : Lent) (begun : ℕ) (w : Over) → Long l (commit_over P S C L M k u s l begun w)
  unfolding commit_over
  commit_long u s l begun w = by_test (Long l) (unchanged P S C L M k begun w) _ _ (λ t. refl) (λ f. settle_long u s l w (planned_runs P S C L M k s l.mem w))

  direct_long : (s : State) (l : Lent) (t : Tried) → Long l (direct P S C L M k s l t)
  direct_long s l (accepted w) = commit_long false s l s.block.db_size w
  direct_long s l (refused r w) = refl

  change_long : (s : State) (l : Lent) (f : Over → Tried) (g : Over → ℕ) (t : Mode) → Long l (change P S C L M k s l f g t)
  change_long s l f g idle = direct_long s l (f (fresh P s.block.db_size (budget_of false 0 0)))
  change_long s l f g (update v) = refl

  restore_long : (s : State) (l : Lent) (b : Superblock) (a : Answer) → Long l (restore P S C L M k s l b a)
  unfolding restore
  restore_long s l b a = stored_long k b (runs_of P S C L M k b l.mem) l.mem

  place_long : (s : State) (l : Lent) (o : ℕ) (bs m : List ℕ) (g : Growth) → length m ≡ length l.mem → Long l (place_chunk P S C L M k s l o bs m g)
  place_long s l o bs m (Err r) e = refl
  place_long s l o bs m (Ok c) e = restore_long _ _ _ Done ∙ length-overwrite (s.block.import_base_offset + o) bs m ∙ e

  begin_long : (s : State) (l : Lent) (t e : ℕ) → Long l (do_import_begin P S C L M k s l t e)
  unfolding do_import_begin
  begin_long s l t e = by_test (Long l) (importing s.block) _ _ (λ x. refl) (λ x. by_test (Long l) (ltb M (s.count.0 * S + t)) _ _ (λ y. refl) (λ y. restore_long s l _ Done))

  chunk_long : (s : State) (l : Lent) (o : ℕ) (bs : List ℕ) → Long l (do_import_chunk P S C L M k s l o bs)
  unfolding do_import_chunk
  chunk_long s l o bs =
      let end : ℕ = o + length bs in
      let reach : ℕ = cond (eqb (length bs) 0) 0 (s.block.import_base_offset + end) in
      by_test (Long l) (not (importing s.block)) _ _ (λ x. refl)
      (λ x. by_test (Long l) (not (eqb o s.block.import_written_until)) _ _ (λ y. refl)
      (λ y. by_test (Long l) (ltb M end) _ _ (λ z. refl)
      (λ z. by_test (Long l) (ltb s.block.import_total_size end) _ _ (λ a. refl)
      (λ a. by_test (Long l) (ltb M (s.block.import_base_offset + end)) _ _ (λ b. refl)
      (λ b. place_long s l o bs (grow_to S s.count.0 reach l.mem).mem (grow_to S s.count.0 reach l.mem).growth (grow-length S s.count.0 reach l.mem))))))

  finish_long : (s : State) (l : Lent) → Long l (do_import_finish P S C L M k s l)
  unfolding do_import_finish
  finish_long s l = by_test (Long l) (not (importing s.block)) _ _ (λ x. refl)
      (λ x. by_test (Long l) (not (eqb s.block.import_written_until s.block.import_total_size)) _ _ (λ y. refl)
      (λ y. by_test (Long l) (not (eqb (k.hash k.seed (take s.block.import_total_size (drop s.block.import_base_offset l.mem))) s.block.import_expected_checksum)) _ _
      (λ z. restore_long s l _ _) (λ z. stored_long k _ [] l.mem)))

  cancel_long : (s : State) (l : Lent) → Long l (do_import_cancel P S C L M k s l)
  unfolding do_import_cancel
  cancel_long s l = by_test (Long l) (not (importing s.block)) _ _ (λ x. refl) (λ x. restore_long s l _ Done)

  refresh_long : (s : State) (l : Lent) → Long l (do_refresh P S C L M k s l)
  unfolding do_refresh
  refresh_long s l = restore_long s l _ _

  from_long : (s : State) (l : Lent) (n a x : ℕ) → Long l (refresh_from P S C L M k s l n a x)
  unfolding refresh_from
  from_long s l n a x = by_test (Long l) (eqb (max a (min s.block.db_size (a + n))) s.block.db_size) _ _ (λ y. restore_long s l _ _) (λ y. restore_long s l _ _)

  step_long : (s : State) (l : Lent) (n : ℕ) → Long l (do_refresh_step P S C L M k s l n)
  unfolding do_refresh_step
  step_long s l n = by_test (Long l) (eqb n 0) _ _ (λ x. refl) (λ x. by_test (Long l) (importing s.block) _ _ (λ y. refl)
      (λ y. by_test (Long l) (refreshing s.block && eqb s.block.checksum_refresh_tx_id s.block.last_tx_id) _ _
      (λ z. from_long s l n s.block.checksum_refresh_offset s.block.checksum_refresh_hash) (λ z. from_long s l n 0 k.seed)))

  alone_long : (s : State) (l : Lent) (c : Call) (x : Out) (t : Mode) → Long l x → Long l (alone P S C L M k s l c x t)
  alone_long s l c x idle h = h
  alone_long s l c x (update v) h = refl

  begun_long : (s : State) (l : Lent) (g : Bool) (p b : ℕ) (i : Bool) (t : Mode) → Long l (do_begin P S C L M k s l (budget_of g p b) i t)
  begun_long s l g p b true t = refl
  begun_long s l g p b false idle = refl
  begun_long s l g p b false (update v) = refl

  read_long : (s : State) (l : Lent) (o n : ℕ) (t : Mode) → Long l (do_read P S C L M k s l o n t)
  read_long s l o n idle = refl
  read_long s l o n (update v) = refl

  end_long : (s : State) (l : Lent) (t : Mode) → Long l (do_commit P S C L M k s l t)
  end_long s l idle = refl
  end_long s l (update v) = commit_long true s l v.base_size (view P C v l.bufs)

  back_long : (s : State) (l : Lent) (t : Mode) → Long l (do_rollback P S C L M k s l t)
  back_long s l idle = refl
  back_long s l (update v) = refl

  act_long : (s : State) (l : Lent) (c : Call) → Long l (act P S C L M k s l c)
  unfolding do_export do_checksum
  act_long s l (begin g p b) = begun_long s l g p b (importing s.block) (mode_of s)
  act_long s l (read o d) = read_long s l o (length d) (mode_of s)
  act_long s l (write o bs) = change_long s l (try_write P M (frame_count P l.bufs) (entry_count l.bufs) (image P S C L M k s.block l.mem) o bs) (λ v. 0) (mode_of s)
  act_long s l (truncate n) = change_long s l (try_truncate P M (frame_count P l.bufs) (entry_count l.bufs) (image P S C L M k s.block l.mem) n) (truncate_reach P M (frame_count P l.bufs) (entry_count l.bufs) (image P S C L M k s.block l.mem) n) (mode_of s)
  act_long s l commit = end_long s l (mode_of s)
  act_long s l rollback = back_long s l (mode_of s)
  act_long s l file_size = refl
  act_long s l (import_begin t e) = alone_long s l (import_begin t e) _ (mode_of s) (begin_long s l t e)
  act_long s l (import_chunk o bs) = alone_long s l (import_chunk o bs) _ (mode_of s) (chunk_long s l o bs)
  act_long s l import_finish = alone_long s l import_finish _ (mode_of s) (finish_long s l)
  act_long s l import_cancel = alone_long s l import_cancel _ (mode_of s) (cancel_long s l)
  act_long s l (export o d) = alone_long s l (export o d) _ (mode_of s) refl
  act_long s l checksum = alone_long s l checksum _ (mode_of s) refl
  act_long s l refresh = alone_long s l refresh _ (mode_of s) (refresh_long s l)
  act_long s l (refresh_step n) = alone_long s l (refresh_step n) _ (mode_of s) (step_long s l n)

  swept_long : (b : Bool) (l : Lent) (x : Out) → Long l x → Long l (swept P S C L M k b x)
  swept_long true l x h = h
  swept_long false l x h = h

  -- for any state, any bytes and any call
  pub memory-length : (s : State) (l : Lent) (c : Call) → length (store P S C L M k s l c).lent.mem ≡ length l.mem
  memory-length s l c = store_cases P S C L M k s l c (Long l) (λ t. refl) (λ f b. refl) (λ f b. swept_long (uses c).work? l (act P S C L M k s l c) (act_long s l c))
