-- Every lent slice of an update keeps its length, for any state, any bytes and any call; what a truncation leaves in frames that it took and gave up; and
-- that slices and memory which are long enough for the state before a call are so for the state after it.
use Rattle.std.specs.Prelude.{◌≡◌, not, ◌&&◌, ◌||◌, List, take, drop, get_or, Ok, Err}
use Rattle.std.proofs.Math.Path.{refl, sym, ap, subst}
use Rattle.std.proofs.Common.{◌∙◌, le-div_iff_mul-le, mul-le-mul_right}
use Prim.Native.Nat.{ℕ, ◌+◌, ◌*◌, ◌/◌, ◌≤◌, ◌<◌, max, min}
use Rattle.std.proofs.Math.Nat.{le_trans}
use native.Mathlib.Omega.{arith}
use Rattle.std.proofs.Math.Bool.{Bool, true, false, cond}
use Rattle.std.proofs.Math.Dec.{ltb, eqb}
use Rattle.std.proofs.Math.ListN.{length, length-take}
use borrow.Author.Tests.{ltb-false, le-ltb}
use Rattle.config.specs.Pages.{count}
use Rattle.memory.specs.Bytes.{resize}
use Rattle.memory.specs.Laws.{length-zeros, length-resize}
use Rattle.memory.specs.Growth.{grow_to}
use Rattle.memory.specs.Growth.{Growth}
use Rattle.meta.specs.declared.superblock.Superblock.{Superblock}
use Rattle.meta.specs.declared.ZeroExtent.{ZeroExtent}
use Rattle.runs.specs.FlatLaws.{length-runs_in}
use Rattle.extents.specs.Plan.{Answer as Planned, too_many, kept, below}
use Rattle.update.specs.declared.Overlay.{Overlay}
use Rattle.update.specs.Pages.{page_numbers, pages_in}
use Rattle.update.specs.PageLaws.{pages_in-sized, numbers-pages_in, numbers-length}
use Rattle.update.specs.Update.{Over, fresh, Tried, accepted, refused, left, try_write, try_truncate, truncate_reach}
use Rattle.update.specs.Buffers.{Buffers, frame_count, entry_count, wiped, cached, short_buffers, view, overlay_of, put_back}
use Rattle.update.specs.BufferLaws.{GivenBack, given_back}
use Rattle.update.specs.Rooms.{Room, write_room, truncate_room, try_grow_lem, read_room}
use Rattle.store.specs.declared.State.{State}
use Rattle.store.specs.Answers.{Answer}
use Rattle.store.specs.Codec.{Codec}
use Rattle.store.specs.Blocks.{importing, refreshing}
use Rattle.store.specs.Calls.{Call, begin, read, write, truncate, commit, rollback, file_size, import_begin, import_chunk, import_finish, import_cancel, export, checksum, refresh, refresh_step, Lent, Out, uses, Mode, idle, update, mode_of, buffers_short, short}
use Rattle.store.proofs.MemoryLaws.{grow_cases}
use Rattle.store.specs.Plan.{required}
use Rattle.store.specs.Store.{budget_of, image, publish, settle, unchanged, planned_runs, commit_over, direct, change, do_begin, do_read, do_commit, do_rollback, restore, do_import_begin, place_chunk, do_import_chunk, do_import_finish, do_import_cancel, do_export, do_checksum, do_refresh, refresh_from, do_refresh_step, alone, act, swept, store}
use Rattle.store.specs.Cases.{by_test, no_or}
use Rattle.store.specs.Facts.{SameLengths}
use Rattle.store.proofs.WaysOut.{store_cases}

same : (l : Buffers) → SameLengths l l
same l = record { frames = refl; numbers = refl; clean = refl; recs = refl }

wiped_same : (l : Buffers) → SameLengths l (wiped l)
unfolding wiped
wiped_same l = record { frames = length-zeros (length l.frames); numbers = length-zeros (length l.numbers); clean = length-zeros (length l.clean); recs = length-zeros (length l.recs) }

module _ (P S C L M : ℕ) (k : Codec) (pos : 0 < P) where
  -- what 35 leaves to hold
  module _ (v : Overlay) (l : Buffers) (e : short_buffers P C v l ≡ false) where
    abbrev A : Bool
    A = ltb (frame_count P l) v.dirty

    abbrev B : Bool
    B = ltb (length l.recs) (v.recorded * 2)

    abbrev D : Bool
    D = ltb (length l.clean) (C * P)

    held_dirty : v.dirty ≤ frame_count P l
    unfolding short_buffers
    held_dirty = ltb-false _ _ (no_or A (B || D) e).0

    held_recs : v.recorded * 2 ≤ length l.recs
    unfolding short_buffers
    held_recs = ltb-false _ _ (no_or B D (no_or A (B || D) e).1).0

    held_clean : C * P ≤ length l.clean
    unfolding short_buffers
    held_clean = ltb-false _ _ (no_or B D (no_or A (B || D) e).1).1

    few_cached : length (cached P C v.cache) ≤ C
    unfolding cached
    few_cached = omega (arith, length-take (min v.cache.count C) v.cache.pages)

    -- the update that is read off the slices fits them
    view_room : Room P (frame_count P l) (entry_count l) C (view P C v l)
    unfolding view entry_count
    view_room = record {
      sized = pages_in-sized P (resize v.dirty l.numbers) l.frames;
      clean = pages_in-sized P (cached P C v.cache) l.clean;
      dirty =
          let n : length (pages_in P (resize v.dirty l.numbers) l.frames) ≡ v.dirty =
          sym (numbers-length (pages_in P (resize v.dirty l.numbers) l.frames)) ∙ ap length (numbers-pages_in P (resize v.dirty l.numbers) l.frames) ∙ length-resize v.dirty l.numbers in
          omega (arith, held_dirty);
      recs = omega (arith, length-runs_in l.recs v.recorded held_recs, held_recs);
      few =
          let n : length (pages_in P (cached P C v.cache) l.clean) ≡ length (cached P C v.cache) =
          sym (numbers-length (pages_in P (cached P C v.cache) l.clean)) ∙ ap length (numbers-pages_in P (cached P C v.cache) l.clean) in
          omega (arith, few_cached);
    }

    fits : (n : ℕ) → n ≤ frame_count P l → (n * P ≤ length l.frames) × (n ≤ length l.numbers)
    unfolding frame_count
    fits n h = let d : n ≤ length l.frames / P = omega arith in ((le-div_iff_mul-le {x = n} pos).0 d, omega arith)

    -- and so does what is put back
    put_given : (n : ℕ) (w : Over) → n ≤ frame_count P l → Room P (frame_count P l) (entry_count l) C w → GivenBack P C v n w l (put_back P C v n w l)
    unfolding entry_count
    put_given n w h r = given_back P C v n w l record {
      sized = r.sized;
      clean = r.clean;
      was = (fits n h).0;
      was_numbers = (fits n h).1;
      was_recs = held_recs;
      was_clean = le_trans (mul-le-mul_right P few_cached) held_clean;
      frames = (fits (length w.dirty) r.dirty).0;
      numbers = (fits (length w.dirty) r.dirty).1;
      recs = omega (arith, r.recs);
      cache = le_trans (mul-le-mul_right P r.few) held_clean;
    }

    put_same : (n : ℕ) (w : Over) → n ≤ frame_count P l → Room P (frame_count P l) (entry_count l) C w → SameLengths l (put_back P C v n w l)
    put_same n w h r =
        let g : GivenBack P C v n w l (put_back P C v n w l) = put_given n w h r in
        record { frames = g.frames; numbers = g.numbers; clean = g.clean; recs = g.recs }

  abbrev Q : Lent → Out → Type 0
  Q l x = SameLengths l.bufs x.lent.bufs

  publish_same : (u : Bool) (s : State) (l : Lent) (w : Over) (rs : List ZeroExtent) (m : List ℕ) (g : Growth) → Q l (publish P S C L M k u s l w rs m g)
  publish_same u s l w rs m (Err r) = wiped_same l.bufs
  publish_same u s l w rs m (Ok c) = wiped_same l.bufs

  settle_same : (u : Bool) (s : State) (l : Lent) (w : Over) (x : Planned) → Q l (settle P S C L M k u s l w x)
  settle_same u s l w too_many = wiped_same l.bufs
  settle_same u s l w (kept rs) =
      let end : ℕ = required P s.block.db_base_offset (below (count P w.size) (page_numbers w.dirty)) (s.block.db_base_offset + w.size) in
      by_test (Q l) (ltb M end) _ _ (λ t. wiped_same l.bufs)
      (λ f. publish_same u s l w rs (grow_to S s.count.0 end l.mem).mem (grow_to S s.count.0 end l.mem).growth)

  commit_same : (u : Bool) (s : State) (l : Lent) (begun : ℕ) (w : Over) → Q l (commit_over P S C L M k u s l begun w)
  unfolding commit_over
  commit_same u s l begun w = by_test (Q l) (unchanged P S C L M k begun w) _ _ (λ t. wiped_same l.bufs) (λ f. settle_same u s l w (planned_runs P S C L M k s l.mem w))

  direct_same : (s : State) (l : Lent) (t : Tried) → Q l (direct P S C L M k s l t)
  direct_same s l (accepted w) = commit_same false s l s.block.db_size w
  direct_same s l (refused r w) = wiped_same l.bufs

  restore_same : (s : State) (l : Lent) (b : Superblock) (a : Answer) → Q l (restore P S C L M k s l b a)
  unfolding restore
  restore_same s l b a = same l.bufs

  place_same : (s : State) (l : Lent) (o : ℕ) (bs m : List ℕ) (g : Growth) → Q l (place_chunk P S C L M k s l o bs m g)
  unfolding restore
  place_same s l o bs m (Err r) = same l.bufs
  place_same s l o bs m (Ok c) = same l.bufs

  begin_same : (s : State) (l : Lent) (t e : ℕ) → Q l (do_import_begin P S C L M k s l t e)
  unfolding do_import_begin
  begin_same s l t e = by_test (Q l) (importing s.block) _ _ (λ x. same l.bufs) (λ x. by_test (Q l) (ltb M (s.count.0 * S + t)) _ _ (λ y. same l.bufs) (λ y. restore_same s l _ _))

  chunk_same : (s : State) (l : Lent) (o : ℕ) (bs : List ℕ) → Q l (do_import_chunk P S C L M k s l o bs)
  unfolding do_import_chunk
  chunk_same s l o bs =
      let end : ℕ = o + length bs in
      let reach : ℕ = cond (eqb (length bs) 0) 0 (s.block.import_base_offset + end) in
      by_test (Q l) (not (importing s.block)) _ _ (λ x. same l.bufs)
      (λ x. by_test (Q l) (not (eqb o s.block.import_written_until)) _ _ (λ y. same l.bufs)
      (λ y. by_test (Q l) (ltb M end) _ _ (λ z. same l.bufs)
      (λ z. by_test (Q l) (ltb s.block.import_total_size end) _ _ (λ a. same l.bufs)
      (λ a. by_test (Q l) (ltb M (s.block.import_base_offset + end)) _ _ (λ b. same l.bufs)
      (λ b. place_same s l o bs (grow_to S s.count.0 reach l.mem).mem (grow_to S s.count.0 reach l.mem).growth)))))

  finish_same : (s : State) (l : Lent) → Q l (do_import_finish P S C L M k s l)
  unfolding do_import_finish
  finish_same s l = by_test (Q l) (not (importing s.block)) _ _ (λ x. same l.bufs)
      (λ x. by_test (Q l) (not (eqb s.block.import_written_until s.block.import_total_size)) _ _ (λ y. same l.bufs)
      (λ y. by_test (Q l) (not (eqb (k.hash k.seed (take s.block.import_total_size (drop s.block.import_base_offset l.mem))) s.block.import_expected_checksum)) _ _
      (λ z. restore_same s l _ _) (λ z. same l.bufs)))

  cancel_same : (s : State) (l : Lent) → Q l (do_import_cancel P S C L M k s l)
  unfolding do_import_cancel
  cancel_same s l = by_test (Q l) (not (importing s.block)) _ _ (λ x. same l.bufs) (λ x. restore_same s l _ _)

  refresh_same : (s : State) (l : Lent) → Q l (do_refresh P S C L M k s l)
  unfolding do_refresh
  refresh_same s l = restore_same s l _ _

  from_same : (s : State) (l : Lent) (n a x : ℕ) → Q l (refresh_from P S C L M k s l n a x)
  unfolding refresh_from
  from_same s l n a x = by_test (Q l) (eqb (max a (min s.block.db_size (a + n))) s.block.db_size) _ _ (λ y. restore_same s l _ _) (λ y. restore_same s l _ _)

  step_same : (s : State) (l : Lent) (n : ℕ) → Q l (do_refresh_step P S C L M k s l n)
  unfolding do_refresh_step
  step_same s l n = by_test (Q l) (eqb n 0) _ _ (λ x. same l.bufs) (λ x. by_test (Q l) (importing s.block) _ _ (λ y. same l.bufs)
      (λ y. by_test (Q l) (refreshing s.block && eqb s.block.checksum_refresh_tx_id s.block.last_tx_id) _ _
      (λ z. from_same s l n s.block.checksum_refresh_offset s.block.checksum_refresh_hash) (λ z. from_same s l n 0 k.seed)))

  alone_same : (s : State) (l : Lent) (c : Call) (x : Out) (t : Mode) → Q l x → Q l (alone P S C L M k s l c x t)
  alone_same s l c x idle h = h
  alone_same s l c x (update v) h = same l.bufs

  begun_same : (s : State) (l : Lent) (g : Bool) (p b : ℕ) (i : Bool) (t : Mode) → Q l (do_begin P S C L M k s l (budget_of g p b) i t)
  begun_same s l g p b true t = same l.bufs
  begun_same s l g p b false idle = same l.bufs
  begun_same s l g p b false (update v) = same l.bufs

  -- a call that is lent the buffers of an update
  module _ (s : State) (l : Lent) where
    read_same : (o n : ℕ) (t : Mode) → buffers_short P S C L t l.bufs ≡ false → Q l (do_read P S C L M k s l o n t)
    read_same o n idle e = same l.bufs
    read_same o n (update v) e = put_same v l.bufs e v.dirty _ (held_dirty v l.bufs e) (read_room P M (frame_count P l.bufs) (entry_count l.bufs) C (image P S C L M k s.block l.mem) o n (view P C v l.bufs) (view_room v l.bufs e))

    write_same : (o : ℕ) (bs : List ℕ) (t : Mode) → buffers_short P S C L t l.bufs ≡ false
        → Q l (change P S C L M k s l (try_write P M (frame_count P l.bufs) (entry_count l.bufs) (image P S C L M k s.block l.mem) o bs) (λ u. 0) t)
    write_same o bs idle e = direct_same s l (try_write P M (frame_count P l.bufs) (entry_count l.bufs) (image P S C L M k s.block l.mem) o bs (fresh P s.block.db_size (budget_of false 0 0)))
    write_same o bs (update v) e = put_same v l.bufs e _ _ (omega (arith, held_dirty v l.bufs e)) (write_room P M (frame_count P l.bufs) (entry_count l.bufs) C (image P S C L M k s.block l.mem) o bs (view P C v l.bufs) (view_room v l.bufs e))

    abbrev cut : ℕ → Over → Tried
    cut n = try_truncate P M (frame_count P l.bufs) (entry_count l.bufs) (image P S C L M k s.block l.mem) n

    abbrev reach : ℕ → Over → ℕ
    reach n = truncate_reach P M (frame_count P l.bufs) (entry_count l.bufs) (image P S C L M k s.block l.mem) n

    reach_lent : (n : ℕ) (v : Overlay) → short_buffers P C v l.bufs ≡ false → max v.dirty (reach n (view P C v l.bufs)) ≤ frame_count P l.bufs
    reach_lent n v e =
        omega (arith, held_dirty v l.bufs e, (try_grow_lem P M (frame_count P l.bufs) (entry_count l.bufs) C (image P S C L M k s.block l.mem) n (view P C v l.bufs) (view_room v l.bufs e)).dirty)

    cut_room : (n : ℕ) (v : Overlay) → short_buffers P C v l.bufs ≡ false → Room P (frame_count P l.bufs) (entry_count l.bufs) C (left (cut n (view P C v l.bufs)))
    cut_room n v e = truncate_room P M (frame_count P l.bufs) (entry_count l.bufs) C (image P S C L M k s.block l.mem) n (view P C v l.bufs) (view_room v l.bufs e)

    truncate_same : (n : ℕ) (t : Mode) → buffers_short P S C L t l.bufs ≡ false → Q l (change P S C L M k s l (cut n) (reach n) t)
    truncate_same n idle e = direct_same s l (cut n (fresh P s.block.db_size (budget_of false 0 0)))
    truncate_same n (update v) e = put_same v l.bufs e _ _ (reach_lent n v e) (cut_room n v e)

    -- a frame that a truncation takes and leaves again is zeros
    pub truncate_freed : (n : ℕ) (v : Overlay) → short_buffers P C v l.bufs ≡ false
        → (i : ℕ) → length (left (cut n (view P C v l.bufs))).dirty * P ≤ i → i < reach n (view P C v l.bufs) * P
        → get_or (change P S C L M k s l (cut n) (reach n) (update v)).lent.bufs.frames i 0 ≡ 0
    truncate_freed n v e i h j =
        let m : ℕ = reach n (view P C v l.bufs) in
        let up : m * P ≤ max v.dirty m * P = mul-le-mul_right P (omega arith) in
        (put_given v l.bufs e (max v.dirty m) _ (reach_lent n v e) (cut_room n v e)).freed i h (omega arith)

    end_same : (t : Mode) → Q l (do_commit P S C L M k s l t)
    end_same idle = same l.bufs
    end_same (update v) = commit_same true s l v.base_size (view P C v l.bufs)

    back_same : (t : Mode) → Q l (do_rollback P S C L M k s l t)
    back_same idle = same l.bufs
    back_same (update v) = wiped_same l.bufs

    lent_bufs : (c : Call) → (uses c).bufs? ≡ true → short P S C L s l c ≡ false → buffers_short P S C L (mode_of s) l.bufs ≡ false
    unfolding short
    lent_bufs c u e =
        let X : Bool = (uses c).mem? && ltb (length l.mem) (s.count.0 * S) in
        let Y : Bool = (uses c).bufs? && buffers_short P S C L (mode_of s) l.bufs in
        let Z : Bool = (uses c).work? && ltb (length l.work) ((L + 1 + 2 * frame_count P l.bufs) * 2) in
        let b : Y ≡ false = (no_or Y Z (no_or X (Y || Z) e).1).0 in
        rw u at b

    act_same : (c : Call) → short P S C L s l c ≡ false → Q l (act P S C L M k s l c)
    unfolding do_export do_checksum
    act_same (begin g p b) e = begun_same s l g p b (importing s.block) (mode_of s)
    act_same (read o d) e = read_same o (length d) (mode_of s) (lent_bufs (read o d) refl e)
    act_same (write o bs) e = write_same o bs (mode_of s) (lent_bufs (write o bs) refl e)
    act_same (truncate n) e = truncate_same n (mode_of s) (lent_bufs (truncate n) refl e)
    act_same commit e = end_same (mode_of s)
    act_same rollback e = back_same (mode_of s)
    act_same file_size e = same l.bufs
    act_same (import_begin t x) e = alone_same s l (import_begin t x) _ (mode_of s) (begin_same s l t x)
    act_same (import_chunk o bs) e = alone_same s l (import_chunk o bs) _ (mode_of s) (chunk_same s l o bs)
    act_same import_finish e = alone_same s l import_finish _ (mode_of s) (finish_same s l)
    act_same import_cancel e = alone_same s l import_cancel _ (mode_of s) (cancel_same s l)
    act_same (export o d) e = alone_same s l (export o d) _ (mode_of s) (same l.bufs)
    act_same checksum e = alone_same s l checksum _ (mode_of s) (same l.bufs)
    act_same refresh e = alone_same s l refresh _ (mode_of s) (refresh_same s l)
    act_same (refresh_step n) e = alone_same s l (refresh_step n) _ (mode_of s) (step_same s l n)

    swept_same : (b : Bool) (x : Out) → Q l x → Q l (swept P S C L M k b x)
    swept_same true x h = h
    swept_same false x h = h

    -- for any state, any bytes and any call
    pub buffer_lengths : (c : Call) → SameLengths l.bufs (store P S C L M k s l c).lent.bufs
    buffer_lengths c = store_cases P S C L M k s l c (Q l) (λ t. same l.bufs) (λ f b. same l.bufs) (λ f b. swept_same (uses c).work? (act P S C L M k s l c) (act_same c f))

    -- ## What a call leaves in them is not short

    abbrev U : Out → Type 0
    U x = buffers_short P S C L (mode_of x.state) x.lent.bufs ≡ false

    long_bufs : (v : Overlay) (x : Buffers) → v.dirty ≤ frame_count P x → v.recorded * 2 ≤ length x.recs → C * P ≤ length x.clean → short_buffers P C v x ≡ false
    unfolding short_buffers
    long_bufs v x a b c = rw (le-ltb (frame_count P x) v.dirty a, le-ltb (length x.recs) (v.recorded * 2) b) (le-ltb (length x.clean) (C * P) c)

    same_frames : (x y : Buffers) → SameLengths x y → frame_count P y ≡ frame_count P x
    unfolding frame_count
    same_frames x y q = rw (q.frames, q.numbers)

    put_long : (v : Overlay) (x : Buffers) (e : short_buffers P C v x ≡ false) (begun n : ℕ) (w : Over) → n ≤ frame_count P x → Room P (frame_count P x) (entry_count x) C w
        → short_buffers P C (overlay_of P C begun w) (put_back P C v n w x) ≡ false
    unfolding overlay_of entry_count
    put_long v x e begun n w a r =
        let q : SameLengths x (put_back P C v n w x) = put_same v x e n w a r in
        long_bufs (overlay_of P C begun w) (put_back P C v n w x) (omega (arith, same_frames x (put_back P C v n w x) q, r.dirty)) (omega (arith, q.recs, r.recs)) (omega (arith, q.clean, held_clean v x e))

    clean_long : (t : Mode) (x : Buffers) → buffers_short P S C L t x ≡ false → C * P ≤ length x.clean
    clean_long idle x e = ltb-false _ _ e
    clean_long (update v) x e = held_clean v x e

    module _ (long : C * P ≤ length l.bufs.clean) where
      wiped_long : ltb (length (wiped l.bufs).clean) (C * P) ≡ false
      wiped_long = le-ltb (length (wiped l.bufs).clean) (C * P) (omega (arith, (wiped_same l.bufs).clean))

      settle_long : (u : Bool) (w : Over) (x : Planned) → U (settle P S C L M k u s l w x)
      settle_long u w too_many = wiped_long
      settle_long u w (kept rs) =
          let end : ℕ = required P s.block.db_base_offset (below (count P w.size) (page_numbers w.dirty)) (s.block.db_base_offset + w.size) in
          by_test U (ltb M end) _ _ (λ t. wiped_long) (λ f. published u w rs (grow_to S s.count.0 end l.mem).mem (grow_to S s.count.0 end l.mem).growth)
        where
          published : (u : Bool) (w : Over) (rs : List ZeroExtent) (m : List ℕ) (g : Growth) → U (publish P S C L M k u s l w rs m g)
          published u w rs m (Err r) = wiped_long
          published u w rs m (Ok c) = wiped_long

      commit_long : (u : Bool) (begun : ℕ) (w : Over) → U (commit_over P S C L M k u s l begun w)
      unfolding commit_over
      commit_long u begun w = by_test U (unchanged P S C L M k begun w) _ _ (λ t. wiped_long) (λ f. settle_long u w (planned_runs P S C L M k s l.mem w))

      direct_long : (t : Tried) → U (direct P S C L M k s l t)
      direct_long (accepted w) = commit_long false s.block.db_size w
      direct_long (refused r w) = wiped_long

    module _ (now : buffers_short P S C L (mode_of s) l.bufs ≡ false) where
      read_long : (o n : ℕ) (t : Mode) → buffers_short P S C L t l.bufs ≡ false → U (do_read P S C L M k s l o n t)
      read_long o n idle e = now
      read_long o n (update v) e = put_long v l.bufs e v.base_size v.dirty _ (held_dirty v l.bufs e) (read_room P M (frame_count P l.bufs) (entry_count l.bufs) C (image P S C L M k s.block l.mem) o n (view P C v l.bufs) (view_room v l.bufs e))

      write_long : (o : ℕ) (bs : List ℕ) (t : Mode) → buffers_short P S C L t l.bufs ≡ false
          → U (change P S C L M k s l (try_write P M (frame_count P l.bufs) (entry_count l.bufs) (image P S C L M k s.block l.mem) o bs) (λ u. 0) t)
      write_long o bs idle e = direct_long (clean_long idle l.bufs e) (try_write P M (frame_count P l.bufs) (entry_count l.bufs) (image P S C L M k s.block l.mem) o bs (fresh P s.block.db_size (budget_of false 0 0)))
      write_long o bs (update v) e = put_long v l.bufs e v.base_size _ _ (omega (arith, held_dirty v l.bufs e)) (write_room P M (frame_count P l.bufs) (entry_count l.bufs) C (image P S C L M k s.block l.mem) o bs (view P C v l.bufs) (view_room v l.bufs e))

      truncate_long : (n : ℕ) (t : Mode) → buffers_short P S C L t l.bufs ≡ false → U (change P S C L M k s l (cut n) (reach n) t)
      truncate_long n idle e = direct_long (clean_long idle l.bufs e) (cut n (fresh P s.block.db_size (budget_of false 0 0)))
      truncate_long n (update v) e = put_long v l.bufs e v.base_size _ _ (reach_lent n v e) (cut_room n v e)

      end_long : (t : Mode) → buffers_short P S C L t l.bufs ≡ false → U (do_commit P S C L M k s l t)
      end_long idle e = now
      end_long (update v) e = commit_long (clean_long (update v) l.bufs e) true v.base_size (view P C v l.bufs)

      back_long : (t : Mode) → buffers_short P S C L t l.bufs ≡ false → U (do_rollback P S C L M k s l t)
      back_long idle e = now
      back_long (update v) e = wiped_long (clean_long (update v) l.bufs e)

      restore_long : (x : State) (y : Lent) (b : Superblock) (r : Answer) → mode_of x ≡ mode_of s → y.bufs ≡ l.bufs → U (restore P S C L M k x y b r)
      unfolding restore
      restore_long x y b r e f = subst (λ (t : Mode). buffers_short P S C L t y.bufs ≡ false) (sym e) (subst (λ (z : Buffers). buffers_short P S C L (mode_of s) z ≡ false) (sym f) now)

      import_long : (t e : ℕ) → U (do_import_begin P S C L M k s l t e)
      unfolding do_import_begin
      import_long t e = by_test U (importing s.block) _ _ (λ x. now) (λ x. by_test U (ltb M (s.count.0 * S + t)) _ _ (λ y. now) (λ y. restore_long s l _ _ refl refl))

      place_long : (o : ℕ) (bs m : List ℕ) (g : Growth) → U (place_chunk P S C L M k s l o bs m g)
      place_long o bs m (Err r) = now
      place_long o bs m (Ok c) = restore_long _ _ _ _ refl refl

      chunk_long : (o : ℕ) (bs : List ℕ) → U (do_import_chunk P S C L M k s l o bs)
      unfolding do_import_chunk
      chunk_long o bs =
          let end : ℕ = o + length bs in
          let far : ℕ = cond (eqb (length bs) 0) 0 (s.block.import_base_offset + end) in
          by_test U (not (importing s.block)) _ _ (λ x. now)
          (λ x. by_test U (not (eqb o s.block.import_written_until)) _ _ (λ y. now)
          (λ y. by_test U (ltb M end) _ _ (λ z. now)
          (λ z. by_test U (ltb s.block.import_total_size end) _ _ (λ a. now)
          (λ a. by_test U (ltb M (s.block.import_base_offset + end)) _ _ (λ b. now)
          (λ b. place_long o bs (grow_to S s.count.0 far l.mem).mem (grow_to S s.count.0 far l.mem).growth)))))

      finish_long : U (do_import_finish P S C L M k s l)
      unfolding do_import_finish
      finish_long = by_test U (not (importing s.block)) _ _ (λ x. now)
          (λ x. by_test U (not (eqb s.block.import_written_until s.block.import_total_size)) _ _ (λ y. now)
          (λ y. by_test U (not (eqb (k.hash k.seed (take s.block.import_total_size (drop s.block.import_base_offset l.mem))) s.block.import_expected_checksum)) _ _
          (λ z. restore_long s l _ _ refl refl) (λ z. now)))

      cancel_long : U (do_import_cancel P S C L M k s l)
      unfolding do_import_cancel
      cancel_long = by_test U (not (importing s.block)) _ _ (λ x. now) (λ x. restore_long s l _ _ refl refl)

      refresh_long : U (do_refresh P S C L M k s l)
      unfolding do_refresh
      refresh_long = restore_long s l _ _ refl refl

      from_long : (n a x : ℕ) → U (refresh_from P S C L M k s l n a x)
      unfolding refresh_from
      from_long n a x = by_test U (eqb (max a (min s.block.db_size (a + n))) s.block.db_size) _ _ (λ y. restore_long s l _ _ refl refl) (λ y. restore_long s l _ _ refl refl)

      step_long : (n : ℕ) → U (do_refresh_step P S C L M k s l n)
      unfolding do_refresh_step
      step_long n = by_test U (eqb n 0) _ _ (λ x. now) (λ x. by_test U (importing s.block) _ _ (λ y. now)
          (λ y. by_test U (refreshing s.block && eqb s.block.checksum_refresh_tx_id s.block.last_tx_id) _ _
          (λ z. from_long n s.block.checksum_refresh_offset s.block.checksum_refresh_hash) (λ z. from_long n 0 k.seed)))

      alone_long : (c : Call) (x : Out) (t : Mode) → U x → U (alone P S C L M k s l c x t)
      alone_long c x idle y = y
      alone_long c x (update v) y = now

      begun_long : (g : Bool) (p b : ℕ) (i : Bool) (t : Mode) → U (do_begin P S C L M k s l (budget_of g p b) i t)
      unfolding overlay_of fresh
      begun_long g p b true t = now
      begun_long g p b false idle = long_bufs (overlay_of P C s.block.db_size (fresh P s.block.db_size (budget_of g p b))) l.bufs (omega arith) (omega arith) (clean_long (mode_of s) l.bufs now)
      begun_long g p b false (update v) = now

      act_long : (c : Call) → U (act P S C L M k s l c)
      unfolding do_export do_checksum
      act_long (begin g p b) = begun_long g p b (importing s.block) (mode_of s)
      act_long (read o d) = read_long o (length d) (mode_of s) now
      act_long (write o bs) = write_long o bs (mode_of s) now
      act_long (truncate n) = truncate_long n (mode_of s) now
      act_long commit = end_long (mode_of s) now
      act_long rollback = back_long (mode_of s) now
      act_long file_size = now
      act_long (import_begin t x) = alone_long (import_begin t x) _ (mode_of s) (import_long t x)
      act_long (import_chunk o bs) = alone_long (import_chunk o bs) _ (mode_of s) (chunk_long o bs)
      act_long import_finish = alone_long import_finish _ (mode_of s) finish_long
      act_long import_cancel = alone_long import_cancel _ (mode_of s) cancel_long
      act_long (export o d) = alone_long (export o d) _ (mode_of s) now
      act_long checksum = alone_long checksum _ (mode_of s) now
      act_long refresh = alone_long refresh _ (mode_of s) refresh_long
      act_long (refresh_step n) = alone_long (refresh_step n) _ (mode_of s) (step_long n)

    swept_long : (b : Bool) (x : Out) → U x → U (swept P S C L M k b x)
    swept_long true x h = h
    swept_long false x h = h

    -- slices that are long enough for an update are so after any call
    pub buffers_lent : buffers_short P S C L (mode_of s) l.bufs ≡ false → (c : Call)
        → buffers_short P S C L (mode_of (store P S C L M k s l c).state) (store P S C L M k s l c).lent.bufs ≡ false
    buffers_lent now c = store_cases P S C L M k s l c U (λ t. now) (λ f b. now) (λ f b. swept_long (uses c).work? (act P S C L M k s l c) (act_long now c))

    alike_short : (t : Mode) (x y : Buffers) → SameLengths x y → buffers_short P S C L t x ≡ buffers_short P S C L t y
    unfolding short_buffers frame_count
    alike_short idle x y q = rw q.clean
    alike_short (update v) x y q = rw (q.frames, q.numbers, q.recs, q.clean)

    -- what was long enough before a call is so after it
    pub buffers_again : buffers_short P S C L (mode_of s) l.bufs ≡ false → (c : Call) → buffers_short P S C L (mode_of (store P S C L M k s l c).state) l.bufs ≡ false
    buffers_again now c = alike_short (mode_of (store P S C L M k s l c).state) l.bufs (store P S C L M k s l c).lent.bufs (buffer_lengths c) ∙ buffers_lent now c

-- ## The count that a call answers is lent

module _ (P S C L M : ℕ) (k : Codec) (spos : 0 < S) (s : State) (l : Lent) (h : s.count.0 * S ≤ length l.mem) where
  abbrev T : Out → Type 0
  T x = x.state.count.0 * S ≤ length l.mem

  settle_count : (u : Bool) (w : Over) (x : Planned) → T (settle P S C L M k u s l w x)
  settle_count u w too_many = h
  settle_count u w (kept rs) =
      let end : ℕ = required P s.block.db_base_offset (below (count P w.size) (page_numbers w.dirty)) (s.block.db_base_offset + w.size) in
      by_test T (ltb M end) _ _ (λ t. h)
      (λ f. grow_cases S spos s.count.0 end l.mem h (λ g m. T (publish P S C L M k u s l w rs m g)) (λ r m' y z. y.lent) (λ z. h))

  commit_count : (u : Bool) (begun : ℕ) (w : Over) → T (commit_over P S C L M k u s l begun w)
  unfolding commit_over
  commit_count u begun w = by_test T (unchanged P S C L M k begun w) _ _ (λ t. h) (λ f. settle_count u w (planned_runs P S C L M k s l.mem w))

  direct_count : (t : Tried) → T (direct P S C L M k s l t)
  direct_count (accepted w) = commit_count false s.block.db_size w
  direct_count (refused r w) = h

  change_count : (f : Over → Tried) (g : Over → ℕ) (t : Mode) → T (change P S C L M k s l f g t)
  change_count f g idle = direct_count (f (fresh P s.block.db_size (budget_of false 0 0)))
  change_count f g (update v) = h

  restore_count : (b : Superblock) (a : Answer) → T (restore P S C L M k s l b a)
  unfolding restore
  restore_count b a = h

  begin_count : (t e : ℕ) → T (do_import_begin P S C L M k s l t e)
  unfolding do_import_begin
  begin_count t e = by_test T (importing s.block) _ _ (λ x. h) (λ x. by_test T (ltb M (s.count.0 * S + t)) _ _ (λ y. h) (λ y. restore_count _ _))

  chunk_count : (o : ℕ) (bs : List ℕ) → T (do_import_chunk P S C L M k s l o bs)
  unfolding do_import_chunk restore
  chunk_count o bs =
      let end : ℕ = o + length bs in
      let reach : ℕ = cond (eqb (length bs) 0) 0 (s.block.import_base_offset + end) in
      by_test T (not (importing s.block)) _ _ (λ x. h)
      (λ x. by_test T (not (eqb o s.block.import_written_until)) _ _ (λ y. h)
      (λ y. by_test T (ltb M end) _ _ (λ z. h)
      (λ z. by_test T (ltb s.block.import_total_size end) _ _ (λ a. h)
      (λ a. by_test T (ltb M (s.block.import_base_offset + end)) _ _ (λ b. h)
      (λ b. grow_cases S spos s.count.0 reach l.mem h (λ g m. T (place_chunk P S C L M k s l o bs m g)) (λ r m' y z. y.lent) (λ z. h))))))

  finish_count : T (do_import_finish P S C L M k s l)
  unfolding do_import_finish
  finish_count = by_test T (not (importing s.block)) _ _ (λ x. h)
      (λ x. by_test T (not (eqb s.block.import_written_until s.block.import_total_size)) _ _ (λ y. h)
      (λ y. by_test T (not (eqb (k.hash k.seed (take s.block.import_total_size (drop s.block.import_base_offset l.mem))) s.block.import_expected_checksum)) _ _
      (λ z. restore_count _ _) (λ z. h)))

  cancel_count : T (do_import_cancel P S C L M k s l)
  unfolding do_import_cancel
  cancel_count = by_test T (not (importing s.block)) _ _ (λ x. h) (λ x. restore_count _ _)

  refresh_count : T (do_refresh P S C L M k s l)
  unfolding do_refresh
  refresh_count = restore_count _ _

  from_count : (n a x : ℕ) → T (refresh_from P S C L M k s l n a x)
  unfolding refresh_from
  from_count n a x = by_test T (eqb (max a (min s.block.db_size (a + n))) s.block.db_size) _ _ (λ y. restore_count _ _) (λ y. restore_count _ _)

  step_count : (n : ℕ) → T (do_refresh_step P S C L M k s l n)
  unfolding do_refresh_step
  step_count n = by_test T (eqb n 0) _ _ (λ x. h) (λ x. by_test T (importing s.block) _ _ (λ y. h)
      (λ y. by_test T (refreshing s.block && eqb s.block.checksum_refresh_tx_id s.block.last_tx_id) _ _
      (λ z. from_count n s.block.checksum_refresh_offset s.block.checksum_refresh_hash) (λ z. from_count n 0 k.seed)))

  alone_count : (c : Call) (x : Out) (t : Mode) → T x → T (alone P S C L M k s l c x t)
  alone_count c x idle y = y
  alone_count c x (update v) y = h

  begun_count : (g : Bool) (p b : ℕ) (i : Bool) (t : Mode) → T (do_begin P S C L M k s l (budget_of g p b) i t)
  begun_count g p b true t = h
  begun_count g p b false idle = h
  begun_count g p b false (update v) = h

  read_count : (o n : ℕ) (t : Mode) → T (do_read P S C L M k s l o n t)
  read_count o n idle = h
  read_count o n (update v) = h

  end_count : (t : Mode) → T (do_commit P S C L M k s l t)
  end_count idle = h
  end_count (update v) = commit_count true v.base_size (view P C v l.bufs)

  back_count : (t : Mode) → T (do_rollback P S C L M k s l t)
  back_count idle = h
  back_count (update v) = h

  act_count : (c : Call) → T (act P S C L M k s l c)
  unfolding do_export do_checksum
  act_count (begin g p b) = begun_count g p b (importing s.block) (mode_of s)
  act_count (read o d) = read_count o (length d) (mode_of s)
  act_count (write o bs) = change_count (try_write P M (frame_count P l.bufs) (entry_count l.bufs) (image P S C L M k s.block l.mem) o bs) (λ v. 0) (mode_of s)
  act_count (truncate n) = change_count (try_truncate P M (frame_count P l.bufs) (entry_count l.bufs) (image P S C L M k s.block l.mem) n) (truncate_reach P M (frame_count P l.bufs) (entry_count l.bufs) (image P S C L M k s.block l.mem) n) (mode_of s)
  act_count commit = end_count (mode_of s)
  act_count rollback = back_count (mode_of s)
  act_count file_size = h
  act_count (import_begin t x) = alone_count (import_begin t x) _ (mode_of s) (begin_count t x)
  act_count (import_chunk o bs) = alone_count (import_chunk o bs) _ (mode_of s) (chunk_count o bs)
  act_count import_finish = alone_count import_finish _ (mode_of s) finish_count
  act_count import_cancel = alone_count import_cancel _ (mode_of s) cancel_count
  act_count (export o d) = alone_count (export o d) _ (mode_of s) h
  act_count checksum = alone_count checksum _ (mode_of s) h
  act_count refresh = alone_count refresh _ (mode_of s) refresh_count
  act_count (refresh_step n) = alone_count (refresh_step n) _ (mode_of s) (step_count n)

  swept_count : (b : Bool) (x : Out) → T x → T (swept P S C L M k b x)
  swept_count true x y = y
  swept_count false x y = y

  -- for any state whose count is lent, any bytes and any call: the same memory is long enough for the next call
  pub count_lent : (c : Call) → (store P S C L M k s l c).state.count.0 * S ≤ length l.mem
  count_lent c = store_cases P S C L M k s l c T (λ t. h) (λ f b. h) (λ f b. swept_count (uses c).work? (act P S C L M k s l c) (act_count c))
