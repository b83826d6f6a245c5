-- 35 comes of what is lent alone, and the 10 of a write or a truncation of an open import alone: without these a call answers something else.
use Rattle.std.specs.Prelude.{◌≡◌, Bool, true, false, not, ◌&&◌, List, ltb, leb, take, drop, Ok, Err}
use Prim.Native.Nat.{ℕ, ◌+◌, ◌*◌, ◌/◌}
use Rattle.std.proofs.Common.{arith}
use Rattle.std.proofs.Math.Bool.{cond}
use Rattle.std.proofs.Math.Dec.{eqb}
use Rattle.std.proofs.Math.ListN.{length}
use Rattle.config.specs.Pages.{count}
use Rattle.config.specs.declared.refusal.Refusal.{Refusal}
use Rattle.config.specs.Refusals.{numbers_of}
use Rattle.memory.specs.Growth.{Growth}
use Rattle.memory.specs.Growth.{Outcome, grow_to, required, pick}
use Rattle.meta.specs.declared.ZeroExtent.{ZeroExtent}
use Rattle.extents.specs.Plan.{too_many, kept, below, Answer as Planned}
use Rattle.update.specs.declared.Overlay.{Overlay}
use Rattle.update.specs.declared.Budget.{Budget}
use Rattle.update.specs.ListLaws.{clash}
use Rattle.update.specs.Pages.{page_numbers}
use Rattle.update.specs.Update.{Over, fresh, Tried, accepted, refused, try_write, try_truncate, truncate_reach}
use Rattle.update.specs.Buffers.{frame_count, entry_count, view}
use Rattle.store.specs.declared.State.{State}
use Rattle.store.specs.Codec.{Codec}
use Rattle.store.specs.Blocks.{importing, refreshing}
use Rattle.store.specs.Calls.{Call, begin, read, write, truncate, commit, rollback, file_size, import_begin, import_chunk, import_finish, import_cancel, export, checksum, refresh, refresh_step, Lent, Out, number, uses, Mode, idle, update, mode_of, short}
use Rattle.store.specs.Plan.{required as reachOf}
use Rattle.store.specs.Store.{budget_of, image, planned_runs, unchanged, settle, publish, commit_over, direct, change, in_update, restore, do_begin, do_read, do_commit, do_rollback, do_import_begin, place_chunk, do_import_chunk, do_import_finish, do_import_cancel, do_export, do_checksum, do_refresh, refresh_from, do_refresh_step, alone, barred, act, swept, store}
use Rattle.store.specs.Cases.{by_test}
use Rattle.store.specs.Tries.{RefusedBy, write_by, truncate_by}
use Rattle.store.proofs.WaysOut.{store_cases}

-- ## What a write, a truncation and a commit can answer beside 35 and 10

-- N holds of the numbers that they answer
pub record ChangeNumbers (N : ℕ → Type 0) : Type 0 where
  pub accepted : N 0
  pub overflow : N 20
  pub budget : N 30
  pub runs : N 31
  pub memory : N 32
  pub frames : N 33
  pub entries : N 34

module _ (N : ℕ → Type 0) where
  abbrev Grows : Growth → Type 0
  Grows (Ok c) = Unit {0}
  Grows (Err r) = N (numbers_of r).number

  grown_or : (b : Bool) (x y : Outcome) → Grows x.growth → Grows y.growth → Grows (pick b x y).growth
  grown_or true x y f g = f
  grown_or false x y f g = g

  growth_of : N 32 → (S n end : ℕ) (mem : List ℕ) → Grows (grow_to S n end mem).growth
  unfolding grow_to
  growth_of h S n end mem = grown_or (leb end (n * S)) _ _ tt (grown_or (leb (required S n end) (length mem / S)) _ _ tt h)

module _ (N : ℕ → Type 0) (y : ChangeNumbers N) (P S C L M : ℕ) (k : Codec) (s : State) (l : Lent) where
  abbrev Of : Refusal → Type 0
  Of r = N (numbers_of r).number

  abbrev A : Out → Type 0
  A x = N (number x.answer)

  publish_of : (u : Bool) (w : Over) (rs : List ZeroExtent) (m : List ℕ) (g : Growth) → Grows N g → A (publish P S C L M k u s l w rs m g)
  publish_of u w rs m (Ok c) h = y.accepted
  publish_of u w rs m (Err r) h = h

  settle_of : (u : Bool) (w : Over) (x : Planned) → A (settle P S C L M k u s l w x)
  settle_of u w too_many = y.runs
  settle_of u w (kept rs) =
      let end : ℕ = reachOf P s.block.db_base_offset (below (count P w.size) (page_numbers w.dirty)) (s.block.db_base_offset + w.size) in
      by_test A (ltb M end) _ _ (λ x. y.overflow) (λ x. publish_of u w rs (grow_to S s.count.0 end l.mem).mem (grow_to S s.count.0 end l.mem).growth (growth_of N y.memory S s.count.0 end l.mem))

  commit_of : (u : Bool) (begun : ℕ) (w : Over) → A (commit_over P S C L M k u s l begun w)
  unfolding commit_over
  commit_of u begun w = by_test A (unchanged P S C L M k begun w) _ _ (λ x. y.accepted) (λ x. settle_of u w (planned_runs P S C L M k s l.mem w))

  direct_of : (t : Tried) → RefusedBy Of t → A (direct P S C L M k s l t)
  direct_of (accepted w) h = commit_of false s.block.db_size w
  direct_of (refused r w) h = h

  in_of : (v : Overlay) (reach : ℕ) (t : Tried) → RefusedBy Of t → A (in_update P S C L M k s l v reach t)
  in_of v reach (accepted w) h = y.accepted
  in_of v reach (refused r w) h = h

  change_of : (f : Over → Tried) (g : Over → ℕ) (t : Mode) → ((v : Over) → RefusedBy Of (f v)) → A (change P S C L M k s l f g t)
  change_of f g idle h = direct_of (f (fresh P s.block.db_size (budget_of false 0 0))) (h _)
  change_of f g (update v) h = in_of v (g (view P C v l.bufs)) (f (view P C v l.bufs)) (h _)

  abbrev F : ℕ
  F = frame_count P l.bufs

  abbrev R : ℕ
  R = entry_count l.bufs

  abbrev img : ℕ → ℕ
  img = image P S C L M k s.block l.mem

  write_of : (o : ℕ) (bs : List ℕ) → A (act P S C L M k s l (write o bs))
  write_of o bs = change_of (try_write P M F R img o bs) (λ u. 0) (mode_of s) (λ v. write_by Of y.budget y.frames y.entries P M F R img v (λ t. y.overflow) o bs (λ t. y.overflow))

  truncate_of : (n : ℕ) → A (act P S C L M k s l (truncate n))
  truncate_of n = change_of (try_truncate P M F R img n) (truncate_reach P M F R img n) (mode_of s) (λ v. truncate_by Of y.budget y.frames y.entries P M F R img v (λ t. y.overflow) n)

-- ## 10 of a write or a truncation

abbrev Not10 : ℕ → Type 0
Not10 n = n ≡ 10 → ⊥

numbers_10 : ChangeNumbers Not10
numbers_10 = record { accepted = λ e. omega (arith, e); overflow = λ e. omega (arith, e); budget = λ e. omega (arith, e); runs = λ e. omega (arith, e); memory = λ e. omega (arith, e); frames = λ e. omega (arith, e); entries = λ e. omega (arith, e) }

-- 02, W-203: it "refuses with 10" only where it is barred, in any state and with anything lent (there it does: `store_barred`)
module _ (P S C L M : ℕ) (k : Codec) (s : State) (l : Lent) where
  abbrev Only : Call → Out → Type 0
  Only c x = number x.answer ≡ 10 → barred s c ≡ true

  pub write_10 : (o : ℕ) (bs : List ℕ) → Only (write o bs) (store P S C L M k s l (write o bs))
  write_10 o bs = store_cases P S C L M k s l (write o bs) (Only (write o bs)) (λ t e. absurd (omega (arith, e))) (λ f b e. b) (λ f b e. absurd (write_of Not10 numbers_10 P S C L M k s l o bs e))

  pub truncate_10 : (n : ℕ) → Only (truncate n) (store P S C L M k s l (truncate n))
  truncate_10 n = store_cases P S C L M k s l (truncate n) (Only (truncate n)) (λ t e. absurd (omega (arith, e))) (λ f b e. b) (λ f b e. absurd (truncate_of Not10 numbers_10 P S C L M k s l n e))

-- ## 35 of any call

abbrev Not35 : ℕ → Type 0
Not35 n = n ≡ 35 → ⊥

numbers_35 : ChangeNumbers Not35
numbers_35 = record { accepted = λ e. omega (arith, e); overflow = λ e. omega (arith, e); budget = λ e. omega (arith, e); runs = λ e. omega (arith, e); memory = λ e. omega (arith, e); frames = λ e. omega (arith, e); entries = λ e. omega (arith, e) }

module _ (P S C L M : ℕ) (k : Codec) (s : State) (l : Lent) where
  abbrev U : Out → Type 0
  U x = Not35 (number x.answer)

  begin_other : (g : Budget) (i : Bool) (t : Mode) → U (do_begin P S C L M k s l g i t)
  begin_other g true t = λ e. omega (arith, e)
  begin_other g false idle = λ e. omega (arith, e)
  begin_other g false (update v) = λ e. omega (arith, e)

  read_other : (o n : ℕ) (t : Mode) → U (do_read P S C L M k s l o n t)
  read_other o n idle = λ e. omega (arith, e)
  read_other o n (update v) = λ e. omega (arith, e)

  end_other : (t : Mode) → U (do_commit P S C L M k s l t)
  end_other idle = λ e. omega (arith, e)
  end_other (update v) = commit_of Not35 numbers_35 P S C L M k s l true v.base_size (view P C v l.bufs)

  back_other : (t : Mode) → U (do_rollback P S C L M k s l t)
  back_other idle = λ e. omega (arith, e)
  back_other (update v) = λ e. omega (arith, e)

  import_other : (t x : ℕ) → U (do_import_begin P S C L M k s l t x)
  unfolding do_import_begin restore
  import_other t x = by_test U (importing s.block) _ _ (λ y. λ e. omega (arith, e)) (λ y. by_test U (ltb M (s.count.0 * S + t)) _ _ (λ z. λ e. omega (arith, e)) (λ z. λ e. omega (arith, e)))

  place_other : (o : ℕ) (bs m : List ℕ) (g : Growth) → Grows Not35 g → U (place_chunk P S C L M k s l o bs m g)
  unfolding restore
  place_other o bs m (Ok c) h = λ e. omega (arith, e)
  place_other o bs m (Err r) h = h

  chunk_other : (o : ℕ) (bs : List ℕ) → U (do_import_chunk P S C L M k s l o bs)
  unfolding do_import_chunk
  chunk_other o bs =
      let end : ℕ = o + length bs in
      let far : ℕ = cond (eqb (length bs) 0) 0 (s.block.import_base_offset + end) in
      by_test U (not (importing s.block)) _ _ (λ x. λ e. omega (arith, e))
      (λ x. by_test U (not (eqb o s.block.import_written_until)) _ _ (λ y. λ e. omega (arith, e))
      (λ y. by_test U (ltb M end) _ _ (λ z. λ e. omega (arith, e))
      (λ z. by_test U (ltb s.block.import_total_size end) _ _ (λ a. λ e. omega (arith, e))
      (λ a. by_test U (ltb M (s.block.import_base_offset + end)) _ _ (λ b. λ e. omega (arith, e))
      (λ b. place_other o bs (grow_to S s.count.0 far l.mem).mem (grow_to S s.count.0 far l.mem).growth (growth_of Not35 numbers_35.memory S s.count.0 far l.mem))))))

  import_finish_other : U (do_import_finish P S C L M k s l)
  unfolding do_import_finish restore
  import_finish_other = by_test U (not (importing s.block)) _ _ (λ x. λ e. omega (arith, e))
      (λ x. by_test U (not (eqb s.block.import_written_until s.block.import_total_size)) _ _ (λ y. λ e. omega (arith, e))
      (λ y. by_test U (not (eqb (k.hash k.seed (take s.block.import_total_size (drop s.block.import_base_offset l.mem))) s.block.import_expected_checksum)) _ _
      (λ z. λ e. omega (arith, e)) (λ z. λ e. omega (arith, e))))

  cancel_other : U (do_import_cancel P S C L M k s l)
  unfolding do_import_cancel restore
  cancel_other = by_test U (not (importing s.block)) _ _ (λ x. λ e. omega (arith, e)) (λ x. λ e. omega (arith, e))

  refresh_other : U (do_refresh P S C L M k s l)
  unfolding do_refresh restore
  refresh_other = λ e. omega (arith, e)

  from_other : (n a x : ℕ) → U (refresh_from P S C L M k s l n a x)
  unfolding refresh_from restore
  from_other n a x = by_test U (eqb _ s.block.db_size) _ _ (λ y. λ e. omega (arith, e)) (λ y. λ e. omega (arith, e))

  step_other : (n : ℕ) → U (do_refresh_step P S C L M k s l n)
  unfolding do_refresh_step
  step_other n = by_test U (eqb n 0) _ _ (λ x. λ e. omega (arith, e)) (λ x. by_test U (importing s.block) _ _ (λ y. λ e. omega (arith, e))
      (λ y. by_test U (refreshing s.block && eqb s.block.checksum_refresh_tx_id s.block.last_tx_id) _ _
      (λ z. from_other n s.block.checksum_refresh_offset s.block.checksum_refresh_hash) (λ z. from_other n 0 k.seed)))

  alone_other : (c : Call) (x : Out) (t : Mode) → U x → U (alone P S C L M k s l c x t)
  alone_other c x idle h = h
  alone_other c x (update v) h = λ e. omega (arith, e)

  act_other : (c : Call) → U (act P S C L M k s l c)
  unfolding do_export do_checksum
  act_other (begin g p b) = begin_other (budget_of g p b) (importing s.block) (mode_of s)
  act_other (read o d) = read_other o (length d) (mode_of s)
  act_other (write o bs) = write_of Not35 numbers_35 P S C L M k s l o bs
  act_other (truncate n) = truncate_of Not35 numbers_35 P S C L M k s l n
  act_other commit = end_other (mode_of s)
  act_other rollback = back_other (mode_of s)
  act_other file_size = λ e. omega (arith, e)
  act_other (import_begin t x) = alone_other (import_begin t x) _ (mode_of s) (import_other t x)
  act_other (import_chunk o bs) = alone_other (import_chunk o bs) _ (mode_of s) (chunk_other o bs)
  act_other import_finish = alone_other import_finish _ (mode_of s) import_finish_other
  act_other import_cancel = alone_other import_cancel _ (mode_of s) cancel_other
  act_other (export o d) = alone_other (export o d) _ (mode_of s) (λ e. omega (arith, e))
  act_other checksum = alone_other checksum _ (mode_of s) (λ e. omega (arith, e))
  act_other refresh = alone_other refresh _ (mode_of s) refresh_other
  act_other (refresh_step n) = alone_other (refresh_step n) _ (mode_of s) (step_other n)

  swept_other : (b : Bool) (x : Out) → U x → U (swept P S C L M k b x)
  swept_other true x h = h
  swept_other false x h = h

  -- for any state, any bytes and any call: 35 is answered only where what is lent is too short
  pub only_short : (c : Call) → short P S C L s l c ≡ false → U (store P S C L M k s l c)
  only_short c f = store_cases P S C L M k s l c U (λ t. clash t f) (λ g b e. omega (arith, e)) (λ g b. swept_other (uses c).work? (act P S C L M k s l c) (act_other c))
