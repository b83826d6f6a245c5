-- A commit in the store's definition and in the code's, which clears the buffers in the end; and the store's definition at a commit and at a rollback: one
-- law for each way out.
use Rattle.std.specs.Prelude.{◌≡◌, ℕ, ◌+◌, ◌*◌, ◌≤◌, Bool, true, false, ltb, take, Ok, Err, cond}
use Rattle.std.proofs.Math.Path.{refl, sym, ap}
use Rattle.std.proofs.Common.{◌∙◌, arith}
use Rattle.std.proofs.Math.Bool.{or-false}
use mathlib.Core.List.{List, []}
use Rattle.std.proofs.Math.ListN.{length}
use borrow.Author.Tests.{ltb-false}
use Rattle.config.specs.Pages.{count}
use Rattle.config.specs.declared.refusal.Refusal.TheVariants.{OffsetOverflow, BufferTooShort}
use Rattle.memory.specs.Bytes.{zeros}
use Rattle.memory.specs.Growth.{grow_to, Outcome as GrowOut}
use Rattle.memory.specs.Growth.{Growth}
use Rattle.meta.specs.declared.ZeroExtent.{ZeroExtent}
use Rattle.runs.specs.Flat.{runs_in}
use Rattle.extents.specs.Plan.{too_many, kept, below, Answer as Planned}
use Rattle.update.specs.declared.Overlay.{Overlay}
use Rattle.update.specs.ListLaws.{resize-take}
use Rattle.update.specs.Pages.{page_numbers, pages_in}
use Rattle.update.specs.Update.{Over}
use Rattle.update.specs.Buffers.{Buffers, frame_count, wiped, view}
use Rattle.update.specs.BufferLaws.{frames_fit, numbers_fit}
use Rattle.update.specs.Laid.{Fits, settle as settled}
use Rattle.update.specs.SettleLaws.{settle_fits}
use Rattle.store.specs.declared.State.{State}
use Rattle.store.specs.Answers.{Done, Refused}
use Rattle.store.specs.Codec.{Codec, real_codec}
use Rattle.store.specs.Cases.{no_or}
use Rattle.store.proofs.WaysOut.{store_short, store_done}
use Rattle.store.specs.Calls.{commit, rollback, Lent, Out, out, mode_if, mode_of, buffers_short, short}
use Rattle.store.specs.Plan.{required}
use Rattle.store.specs.Store.{ended, unchanged, planned_runs, publish, settle, commit_over, do_commit, do_rollback, swept}
use Rattle.commit.specs.Committed.{Outcome, kept_as, publish_to, settle_to, commit_to}
use Rattle.commit.specs.Held.{Held}
use Rattle.transfer.specs.OnMemory.{lent}
use Rattle.lending.specs.Lending.{calls}

-- ## The commit

cond_as : {A B : Type 0} (f : A → B) (t : Bool) (x y : A) (x' y' : B) → x' ≡ f x → y' ≡ f y → cond t x' y' ≡ f (cond t x y)
cond_as f true x y x' y' e h = e
cond_as f false x y x' y' e h = h

module _ (P S C L M : ℕ) (k : Codec) where
  -- the update or the direct call is over
  abbrev pub ended_by : Buffers → List ℕ → Outcome → Out
  ended_by b work x = out (ended P S C L M k x.result.count.0 x.result.block) (lent x.mem (wiped b) work) x.result.answer []

  module _ (u : Bool) (s : State) (m : List ℕ) (b : Buffers) (work : List ℕ) (w : Over) where
    publish_is : (rs : List ZeroExtent) (g : List ℕ) (a : Growth)
        → publish P S C L M k u s (lent m b work) w rs g a ≡ ended_by b work (publish_to P S C L M k u s m w.size w.dirty rs g a)
    publish_is rs g (Err r) = refl
    publish_is rs g (Ok c) = refl

    settle_is : (p : Planned) → settle P S C L M k u s (lent m b work) w p ≡ ended_by b work (settle_to P S C L M k u s m w.size w.dirty p)
    settle_is too_many = refl
    settle_is (kept rs) =
        let end : ℕ = required P s.block.db_base_offset (below (count P w.size) (page_numbers w.dirty)) (s.block.db_base_offset + w.size) in
        let grown : GrowOut = grow_to S s.count.0 end m in
        cond_as (ended_by b work) (ltb M end) (kept_as P S C L M k s m (Refused OffsetOverflow)) (publish_to P S C L M k u s m w.size w.dirty rs grown.mem grown.growth) _ _ refl (publish_is rs grown.mem grown.growth)

    pub commit_is : (begun : ℕ)
        → commit_over P S C L M k u s (lent m b work) begun w ≡ ended_by b work (commit_to P S C L M k u s m begun w.size w.dirty w.recorded)
    unfolding commit_over commit_to unchanged planned_runs
    commit_is begun =
        let p : Planned = planned_runs P S C L M k s m w in
        cond_as (ended_by b work) (unchanged P S C L M k begun w) (kept_as P S C L M k s m Done) (settle_to P S C L M k u s m w.size w.dirty p) _ _ refl (settle_is p)

-- the commit of the overlay o, cleared
module _ (u : Bool) (s : State) (m : List ℕ) (b : Buffers) (work : List ℕ) (o : Overlay) (few : o.dirty ≤ length b.numbers) where
  abbrev pub commit_of : Outcome
  commit_of = commit_to 16384 65536 8 1024 18446744073709551615 real_codec u s m o.base_size o.size (pages_in 16384 (take o.dirty b.numbers) b.frames) (runs_in o.recorded b.recs)

  over_is : commit_over 16384 65536 8 1024 18446744073709551615 real_codec u s (lent m b work) o.base_size (view 16384 8 o b)
      ≡ ended_by 16384 65536 8 1024 18446744073709551615 real_codec b work commit_of
  unfolding view
  over_is =
      commit_is 16384 65536 8 1024 18446744073709551615 real_codec u s m b work (view 16384 8 o b) o.base_size
      ∙ ap (λ (ns : List ℕ). ended_by 16384 65536 8 1024 18446744073709551615 real_codec b work
      (commit_to 16384 65536 8 1024 18446744073709551615 real_codec u s m o.base_size o.size (pages_in 16384 ns b.frames) (runs_in o.recorded b.recs))) (resize-take o.dirty b.numbers few)

  pub concluded : (x : Outcome) (t : State) (l : Lent) → x ≡ commit_of → t ≡ ended 16384 65536 8 1024 18446744073709551615 real_codec x.result.count.0 x.result.block
      → l ≡ lent x.mem (wiped b) (zeros (length work))
      → out t l x.result.answer []
      ≡ swept 16384 65536 8 1024 18446744073709551615 real_codec true (commit_over 16384 65536 8 1024 18446744073709551615 real_codec u s (lent m b work) o.base_size (view 16384 8 o b))
  concluded x t l e f h =
      (λ i. out (f i) (h i) x.result.answer [])
      ∙ ap (λ (y : Outcome). swept 16384 65536 8 1024 18446744073709551615 real_codec true (ended_by 16384 65536 8 1024 18446744073709551615 real_codec b work y)) e
      ∙ sym (ap (swept 16384 65536 8 1024 18446744073709551615 real_codec true) over_is)

-- ## A commit

-- t: what the test of all that is lent found
module _ (s : State) (l : Lent) (t : Bool) (e : t ≡ short 16384 65536 8 1024 s l commit) where
  pub commit_short : t ≡ true → calls s l commit ≡ out s l (Refused BufferTooShort) []
  commit_short h = store_short 16384 65536 8 1024 18446744073709551615 real_codec s l commit (sym e ∙ h)

  module _ (h : t ≡ false) where
    commits : (u : Bool) → s.updating ≡ u → calls s l commit
        ≡ swept 16384 65536 8 1024 18446744073709551615 real_codec true (do_commit 16384 65536 8 1024 18446744073709551615 real_codec s l (mode_if u s.overlay))
    commits u g = store_done 16384 65536 8 1024 18446744073709551615 real_codec s l commit (sym e ∙ h) refl
        ∙ ap (λ (v : Bool). swept 16384 65536 8 1024 18446744073709551615 real_codec true (do_commit 16384 65536 8 1024 18446744073709551615 real_codec s l (mode_if v s.overlay))) g

    pub commit_idle : s.updating ≡ false → (w : List ℕ) → w ≡ zeros (length l.work) → out s (lent l.mem l.bufs w) Done [] ≡ calls s l commit
    commit_idle u w z = ap (λ (x : List ℕ). out s (lent l.mem l.bufs x) Done []) z ∙ sym (commits false u)

    pub commit_open : s.updating ≡ true → (x : Out)
        → x ≡ swept 16384 65536 8 1024 18446744073709551615 real_codec true (commit_over 16384 65536 8 1024 18446744073709551615 real_codec true s l s.overlay.base_size (view 16384 8 s.overlay l.bufs))
        → x ≡ calls s l commit
    commit_open u x z = z ∙ sym (commits true u)

    -- what is lent holds the update, and the work list its plan
    pub commit_fits : s.updating ≡ true
        → Held s.overlay l.bufs.frames l.bufs.numbers l.bufs.recs l.work
    unfolding short settled
    commit_fits u =
        let parts = no_or _ _ (no_or (ltb (length l.mem) (s.count.0 * 65536)) _ (sym e ∙ h)).1 in
        let fits : Fits 16384 8 (settled 16384 8 s.overlay) l.bufs = settle_fits 16384 8 s.overlay l.bufs
        (sym (ap (λ (v : Bool). buffers_short 16384 65536 8 1024 (mode_if v s.overlay) l.bufs) u) ∙ parts.0) in
        let long : (1024 + 1 + 2 * frame_count 16384 l.bufs) * 2 ≤ length l.work = ltb-false _ _ parts.1 in
        (numbers_fit 16384 s.overlay.dirty l.bufs fits.0, frames_fit 16384 s.overlay.dirty l.bufs (omega arith) fits.0, fits.1.0, omega (arith, fits.0, long))

-- ## A rollback

-- t: what the test of the buffers found
module _ (s : State) (b : Buffers) (m w : List ℕ) (t : Bool) (e : t ≡ buffers_short 16384 65536 8 1024 (mode_of s) b) where
  short_back : short 16384 65536 8 1024 s (lent m b w) rollback ≡ t
  unfolding short
  short_back = or-false (buffers_short 16384 65536 8 1024 (mode_of s) b) ∙ sym e

  pub back_short : t ≡ true → calls s (lent m b w) rollback ≡ out s (lent m b w) (Refused BufferTooShort) []
  back_short h = store_short 16384 65536 8 1024 18446744073709551615 real_codec s (lent m b w) rollback (short_back ∙ h)

  module _ (h : t ≡ false) where
    rolls : (u : Bool) → s.updating ≡ u → calls s (lent m b w) rollback ≡ do_rollback 16384 65536 8 1024 18446744073709551615 real_codec s (lent m b w) (mode_if u s.overlay)
    rolls u g = store_done 16384 65536 8 1024 18446744073709551615 real_codec s (lent m b w) rollback (short_back ∙ h) refl ∙ ap (λ (v : Bool). do_rollback 16384 65536 8 1024 18446744073709551615 real_codec s (lent m b w) (mode_if v s.overlay)) g

    pub back_idle : s.updating ≡ false → out s (lent m b w) Done [] ≡ calls s (lent m b w) rollback
    back_idle u = sym (rolls false u)

    pub back_open : s.updating ≡ true → (r : State) (b' : Buffers) → r ≡ ended 16384 65536 8 1024 18446744073709551615 real_codec s.count.0 s.block → b' ≡ wiped b
        → out r (lent m b' w) Done [] ≡ calls s (lent m b w) rollback
    back_open u r b' f g = (λ i. out (f i) (lent m (g i) w) Done []) ∙ sym (rolls true u)
