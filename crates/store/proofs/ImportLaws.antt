-- 02, W-202 with W-203: while an import is open no update is, and the import's bytes lie past the image's. An import begins at the end of memory, and
-- the image cannot grow while it is open.
use Rattle.std.specs.Prelude.{◌≡◌, Bool, true, not, ◌&&◌, ltb, take, drop, Ok, Err}
use Rattle.std.proofs.Math.Path.{refl, ap}
use Rattle.std.proofs.Common.{sym, ◌∙◌, subst, arith, eq-eqb}
use Prim.Native.Nat.{ℕ, ◌+◌, ◌*◌, ◌≤◌, max, min}
use Rattle.std.proofs.Math.Bool.{false, cond}
use mathlib.Core.List.{List, []}
use Rattle.std.proofs.Math.Dec.{eqb}
use Rattle.std.proofs.Math.ListN.{length}
use Rattle.config.specs.Pages.{count}
use Rattle.memory.specs.Laws.{split}
use Rattle.memory.specs.Growth.{grow_to}
use Rattle.memory.specs.Growth.{Growth}
use Rattle.meta.specs.declared.superblock.Superblock.{Superblock}
use Rattle.meta.specs.declared.ZeroExtent.{ZeroExtent}
use Rattle.extents.specs.Plan.{too_many, kept, below, Answer as Planned}
use Rattle.update.specs.declared.Overlay.{Overlay}
use Rattle.update.specs.ListLaws.{clash}
use Rattle.update.specs.Pages.{page_numbers}
use Rattle.update.specs.Update.{Over, fresh, Tried, accepted, refused, try_write, try_truncate}
use Rattle.update.specs.Buffers.{frame_count, entry_count, wiped, view}
use Rattle.store.specs.declared.State.{State}
use Rattle.store.specs.Answers.{Answer, Done}
use Rattle.store.specs.Codec.{Codec, sealed}
use Rattle.store.specs.Blocks.{importing, refreshing, after_commit, after_import_begin, after_import_chunk, after_import_cancel, after_import_finish, after_refresh, Keeps, KeepsImport}
use Rattle.store.proofs.BlockLaws.{after_commit_lem, after_begin, begin_keeps, after_chunk, after_cancel, after_finish, refresh_keeps, refresh_imports, step_keeps, step_imports, seal_importing}
use Rattle.store.specs.Calls.{Call, begin, read, write, truncate, commit, rollback, file_size, import_begin, import_chunk, import_finish, import_cancel, export, checksum, refresh, refresh_step, Lent, Out, out, uses, idle, update, mode_if, short, cleared, with_buffers}
use Rattle.store.specs.Plan.{required}
use Rattle.store.specs.Store.{made, resting, working, budget_of, barred, ended, runs_of, image, over, publish, settle, unchanged, planned_runs, commit_over, direct, change, do_begin, restore, do_import_begin, place_chunk, do_import_chunk, do_import_finish, do_import_cancel, do_export, do_checksum, do_refresh, refresh_from, do_refresh_step, act, swept, store}
use Rattle.store.specs.Cases.{by_test, not_false}
use Rattle.store.specs.Facts.{Apart}
use Rattle.store.proofs.WaysOut.{store_cases, store_done}
use Rattle.store.proofs.StoreLaws.{commit_unchanged}

must_be : (a b : Bool) → (not a && b) ≡ false → b ≡ true → a ≡ true
must_be true b h e = refl
must_be false b h e = clash e h

module _ (P S C L M : ℕ) (k : Codec) where
  abbrev A : Out → Type 0
  A x = Apart x.state

  sealed_importing : (b : Superblock) (rs : List ZeroExtent) → importing (sealed k b rs) ≡ importing b
  sealed_importing b rs = seal_importing (k.sum b rs) b

  -- ## Commits without an import

  module _ (s : State) (l : Lent) (none : importing s.block ≡ false) where
    publish_none : (u : Bool) (w : Over) (rs : List ZeroExtent) (m : List ℕ) (g : Growth) → A (publish P S C L M k u s l w rs m g)
    publish_none u w rs m (Err r) = λ z. clash z none
    publish_none u w rs m (Ok c) =
        let b : Superblock = after_commit P M u w.size (length rs) s.block in
        λ z. clash z (sealed_importing b rs ∙ (after_commit_lem P M u w.size (length rs) s.block).imports.mark ∙ none)

    settle_none : (u : Bool) (w : Over) (x : Planned) → A (settle P S C L M k u s l w x)
    settle_none u w too_many = λ z. clash z none
    settle_none u w (kept rs) =
        let end : ℕ = required P s.block.db_base_offset (below (count P w.size) (page_numbers w.dirty)) (s.block.db_base_offset + w.size) in
        by_test A (ltb M end) _ _ (λ t z. clash z none) (λ f. publish_none u w rs (grow_to S s.count.0 end l.mem).mem (grow_to S s.count.0 end l.mem).growth)

    commit_none : (u : Bool) (begun : ℕ) (w : Over) → A (commit_over P S C L M k u s l begun w)
    unfolding commit_over
    commit_none u begun w = by_test A (unchanged P S C L M k begun w) _ _ (λ t z. clash z none) (λ f. settle_none u w (planned_runs P S C L M k s l.mem w))

    direct_none : (t : Tried) → A (direct P S C L M k s l t)
    direct_none (accepted w) = commit_none false s.block.db_size w
    direct_none (refused r w) = λ z. clash z none

  -- ## The empty write

  empty_tried : (F R : ℕ) (b : ℕ → ℕ) (o : ℕ) (bs : List ℕ) (v : Over) → eqb (length bs) 0 ≡ true → try_write P M F R b o bs v ≡ accepted v
  unfolding try_write
  empty_tried F R b o bs v e = rw e

  fresh_unchanged : (z : ℕ) → unchanged P S C L M k z (fresh P z (budget_of false 0 0)) ≡ true
  unfolding unchanged fresh
  fresh_unchanged z = ap (λ (t : Bool). t && true) (eq-eqb z z refl)

  -- it ends as an update that changed nothing
  empty_direct : (s : State) (l : Lent) (F R : ℕ) (b : ℕ → ℕ) (o : ℕ) (bs : List ℕ) → eqb (length bs) 0 ≡ true
      → direct P S C L M k s l (try_write P M F R b o bs (fresh P s.block.db_size (budget_of false 0 0))) ≡ over P S C L M k s l Done
  empty_direct s l F R b o bs e =
      let u : Over = fresh P s.block.db_size (budget_of false 0 0) in
      ap (direct P S C L M k s l) (empty_tried F R b o bs u e)
      ∙ commit_unchanged P S C L M k false s l s.block.db_size u (fresh_unchanged s.block.db_size)

  -- 02, W-203: "an empty direct write is still accepted", whether an import is open or not: memory stays, the rest becomes zeros
  pub empty_accepted : (s : State) (l : Lent) (o : ℕ) → short P S C L s l (write o []) ≡ false → s.updating ≡ false
      → store P S C L M k s l (write o []) ≡ out (ended P S C L M k s.count.0 s.block) (cleared (with_buffers (wiped l.bufs) l)) Done []
  empty_accepted s l o e none =
      let F : ℕ = frame_count P l.bufs in
      let R : ℕ = entry_count l.bufs in
      let b : ℕ → ℕ = image P S C L M k s.block l.mem in
      store_done P S C L M k s l (write o []) e refl
      ∙ ap (λ (t : Bool). swept P S C L M k true (change P S C L M k s l (try_write P M F R b o []) (λ u. 0) (mode_if t s.overlay))) none
      ∙ ap (swept P S C L M k true) (empty_direct s l F R b o [] refl)

  -- ## With no update open

  module _ (c : ℕ) (h : Superblock) (v : Overlay) (l : Lent) (a : Apart (resting c h v)) where
    abbrev s : State
    s = resting c h v

    -- the block h' is stored
    restored : (h' : Superblock) (m : Lent) (r : ℕ) (x : Answer) → (importing h' ≡ true → h'.db_base_offset + h'.db_size ≤ h'.import_base_offset) → A (restore P S C L M k (resting r h v) m h' x)
    unfolding restore
    restored h' m r x past z = record { alone = refl; past = past (sym (sealed_importing h' (runs_of P S C L M k h' m.mem)) ∙ z) }

    same_past : (h' : Superblock) → Keeps h h' → KeepsImport h h' → importing h' ≡ true → h'.db_base_offset + h'.db_size ≤ h'.import_base_offset
    same_past h' n i z = omega (arith, n.base, n.size, i.base, (a (sym i.mark ∙ z)).past)

    begun_apart : (g : Bool) (p b : ℕ) (i : Bool) → importing h ≡ i → A (do_begin P S C L M k s l (budget_of g p b) i idle)
    begun_apart g p b true e = a
    begun_apart g p b false e = λ z. clash z e

    import_apart : h.db_base_offset + h.db_size ≤ c * S → (t e : ℕ) → A (do_import_begin P S C L M k s l t e)
    unfolding do_import_begin
    import_apart inside t e = by_test A (importing h) _ _ (λ x. a) (λ x. by_test A (ltb M (c * S + t)) _ _ (λ y. a)
        (λ y. restored (after_import_begin t e (c * S) h) l c Done
        (λ z. omega (arith, inside, (begin_keeps t e (c * S) h).base, (begin_keeps t e (c * S) h).size, (after_begin t e (c * S) h).base_is))))

    place_apart : (o : ℕ) (bs m : List ℕ) (g : Growth) → importing h ≡ true → A (place_chunk P S C L M k s l o bs m g)
    place_apart o bs m (Err r) y = a
    place_apart o bs m (Ok r) y =
        let end : ℕ = o + length bs in
        restored (after_import_chunk end h) _ r.0 Done
        (λ z. omega (arith, (a y).past, (after_chunk end h).keeps.base, (after_chunk end h).keeps.size, (after_chunk end h).base))

    chunk_apart : (o : ℕ) (bs : List ℕ) → A (do_import_chunk P S C L M k s l o bs)
    unfolding do_import_chunk
    chunk_apart o bs =
        let end : ℕ = o + length bs in
        let reach : ℕ = cond (eqb (length bs) 0) 0 (h.import_base_offset + end) in
        by_test A (not (importing h)) _ _ (λ x. a)
        (λ x. by_test A (not (eqb o h.import_written_until)) _ _ (λ y. a)
        (λ y. by_test A (ltb M end) _ _ (λ z. a)
        (λ z. by_test A (ltb h.import_total_size end) _ _ (λ b. a)
        (λ b. by_test A (ltb M (h.import_base_offset + end)) _ _ (λ d. a)
        (λ d. place_apart o bs (grow_to S c reach l.mem).mem (grow_to S c reach l.mem).growth (not_false (importing h) x))))))

    cancel_past : importing (after_import_cancel h) ≡ true → (after_import_cancel h).db_base_offset + (after_import_cancel h).db_size ≤ (after_import_cancel h).import_base_offset
    cancel_past z = clash z (after_cancel h)

    finish_apart : A (do_import_finish P S C L M k s l)
    unfolding do_import_finish
    finish_apart =
        let sum : ℕ = k.hash k.seed (take h.import_total_size (drop h.import_base_offset l.mem)) in
        by_test A (not (importing h)) _ _ (λ x. a)
        (λ x. by_test A (not (eqb h.import_written_until h.import_total_size)) _ _ (λ y. a)
        (λ y. by_test A (not (eqb sum h.import_expected_checksum)) _ _
        (λ z. restored (after_import_cancel h) l c _ cancel_past)
        (λ z q. clash q (sealed_importing (after_import_finish P sum h) [] ∙ (after_finish P sum h).mark))))

    cancel_apart : A (do_import_cancel P S C L M k s l)
    unfolding do_import_cancel
    cancel_apart = by_test A (not (importing h)) _ _ (λ x. a) (λ x. restored (after_import_cancel h) l c Done cancel_past)

    refreshed : (x : ℕ) (y : Answer) → A (restore P S C L M k s l (after_refresh x h) y)
    refreshed x y = restored (after_refresh x h) l c y (same_past (after_refresh x h) (refresh_keeps x h) (refresh_imports x h))

    refresh_apart : A (do_refresh P S C L M k s l)
    unfolding do_refresh
    refresh_apart = refreshed _ _

    from_apart : (n b x : ℕ) → A (refresh_from P S C L M k s l n b x)
    unfolding refresh_from
    from_apart n b x = by_test A (eqb (max b (min h.db_size (b + n))) h.db_size) _ _ (λ y. refreshed _ _)
        (λ y. restored _ l c _ (same_past _ (step_keeps _ _ h) (step_imports _ _ h)))

    step_apart : (n : ℕ) → A (do_refresh_step P S C L M k s l n)
    unfolding do_refresh_step
    step_apart n = by_test A (eqb n 0) _ _ (λ x. a) (λ x. by_test A (importing h) _ _ (λ y. a)
        (λ y. by_test A (refreshing h && eqb h.checksum_refresh_tx_id h.last_tx_id) _ _
        (λ z. from_apart n h.checksum_refresh_offset h.checksum_refresh_hash) (λ z. from_apart n 0 k.seed)))

    abbrev F : ℕ
    F = frame_count P l.bufs

    abbrev R : ℕ
    R = entry_count l.bufs

    abbrev img : ℕ → ℕ
    img = image P S C L M k h l.mem

    abbrev begun : Over
    begun = fresh P h.db_size (budget_of false 0 0)

    -- a direct write that is not barred: there is no import, or it is empty
    write_apart : (o : ℕ) (bs : List ℕ) → barred s (write o bs) ≡ false → A (act P S C L M k s l (write o bs))
    write_apart o bs free = split (importing h)
        (λ t. subst A (sym (empty_direct s l F R img o bs (must_be (eqb (length bs) 0) (importing h) free t))) (λ z. record { alone = refl; past = (a t).past }))
        (λ n. direct_none s l n (try_write P M F R img o bs begun))

    idle_apart : h.db_base_offset + h.db_size ≤ c * S → (b : Call) → barred s b ≡ false → A (act P S C L M k s l b)
    unfolding do_export do_checksum
    idle_apart inside (begin g p b) free = begun_apart g p b (importing h) refl
    idle_apart inside (read o d) free = a
    idle_apart inside (write o bs) free = write_apart o bs free
    idle_apart inside (truncate n) free = direct_none s l free (try_truncate P M F R img n begun)
    idle_apart inside commit free = a
    idle_apart inside rollback free = a
    idle_apart inside file_size free = a
    idle_apart inside (import_begin t e) free = import_apart inside t e
    idle_apart inside (import_chunk o bs) free = chunk_apart o bs
    idle_apart inside import_finish free = finish_apart
    idle_apart inside import_cancel free = cancel_apart
    idle_apart inside (export o d) free = a
    idle_apart inside checksum free = a
    idle_apart inside refresh free = refresh_apart
    idle_apart inside (refresh_step n) free = step_apart n

  -- ## In an update

  module _ (c : ℕ) (h : Superblock) (v : Overlay) (l : Lent) (a : Apart (working c h v)) where
    abbrev busy : State
    busy = working c h v

    no_import : importing h ≡ false
    no_import = split (importing h) (λ t. clash refl (a t).alone) (λ f. f)

    begun_busy : (g : Bool) (p b : ℕ) (i : Bool) → A (do_begin P S C L M k busy l (budget_of g p b) i (update v))
    begun_busy g p b true = a
    begun_busy g p b false = a

    update_apart : (b : Call) → A (act P S C L M k busy l b)
    update_apart (begin g p b) = begun_busy g p b (importing h)
    update_apart (read o d) = λ z. clash z no_import
    update_apart (write o bs) = λ z. clash z no_import
    update_apart (truncate n) = λ z. clash z no_import
    update_apart commit = commit_none busy l no_import true v.base_size (view P C v l.bufs)
    update_apart rollback = λ z. clash z no_import
    update_apart file_size = a
    update_apart (import_begin t e) = a
    update_apart (import_chunk o bs) = a
    update_apart import_finish = a
    update_apart import_cancel = a
    update_apart (export o d) = a
    update_apart checksum = a
    update_apart refresh = a
    update_apart (refresh_step n) = a

  -- ## Any call

  act_apart : (c : ℕ) (h : Superblock) (u : Bool) (v : Overlay) (l : Lent) → h.db_base_offset + h.db_size ≤ c * S → Apart (made c h u v)
      → (b : Call) → barred (made c h u v) b ≡ false → A (act P S C L M k (made c h u v) l b)
  act_apart c h true v l inside a b free = update_apart c h v l a b
  act_apart c h false v l inside a b free = idle_apart c h v l a inside b free

  swept_apart : (b : Bool) (x : Out) → A x → A (swept P S C L M k b x)
  swept_apart true x y = y
  swept_apart false x y = y

  -- for any state whose image lies within the count, and any call
  pub apart_after : (s : State) (l : Lent) (c : Call) → s.block.db_base_offset + s.block.db_size ≤ s.count.0 * S → Apart s → Apart (store P S C L M k s l c).state
  apart_after s l c inside a = store_cases P S C L M k s l c A (λ t. a) (λ f b. a)
      (λ f b. swept_apart (uses c).work? (act P S C L M k s l c) (act_apart s.count.0 s.block s.updating s.overlay l inside a c b))
