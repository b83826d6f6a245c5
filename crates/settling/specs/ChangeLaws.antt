-- A change that the overlay made, and then settled, is the store's call.
use Rattle.std.specs.Prelude.{◌≡◌, refl, Bool, ◌&&◌, ◌||◌, List, [], ltb, length, Ok, Err}
use Rattle.std.proofs.Math.Path.{sym, ap, subst}
use Rattle.std.proofs.Common.{◌∙◌, ltb-false, le-ltb}
use Prim.Native.Nat.{ℕ, ◌+◌, ◌*◌, ◌≤◌, max}
use native.Mathlib.Omega.{arith}
use Rattle.std.proofs.Math.Bool.{true, false, cond}
use Rattle.config.specs.Pages.{count}
use Rattle.config.specs.declared.refusal.Refusal.{Refusal}
use Rattle.config.specs.declared.refusal.Refusal.TheVariants.{ImportAlreadyStarted, OffsetOverflow, ZeroExtentLimitExceeded, BufferTooShort}
use Rattle.memory.specs.Bytes.{zeros}
use Rattle.memory.specs.Growth.{grow_to}
use Rattle.memory.specs.Growth.{Growth}
use Rattle.meta.specs.declared.superblock.Superblock.{Superblock}
use Rattle.meta.specs.declared.ZeroExtent.{ZeroExtent}
use Rattle.extents.specs.Plan.{too_many, kept, below, Answer as Planned}
use Rattle.image.specs.Reading.{image_of}
use Rattle.update.specs.declared.Overlay.{Overlay}
use Rattle.update.specs.declared.Budget.{Budget}
use Rattle.update.specs.Verdict.{Verdict}
use Rattle.update.specs.Pages.{page_numbers}
use Rattle.update.specs.Image.{image_in}
use Rattle.update.specs.Update.{Over, fresh, Tried, accepted, refused, left, try_write, try_truncate, truncate_reach}
use Rattle.update.specs.Rooms.{write_room, truncate_room, try_grow_lem}
use Rattle.update.specs.Buffers.{Buffers, frame_count, entry_count, wiped, cached, short_buffers, view, overlay_of, put_back}
use Rattle.update.specs.BufferLaws.{frames_fit, numbers_fit, entries_fit, cached_few, view_fresh, GivenBack, given_back}
use Rattle.update.specs.Laid.{Laid, laid, verdict_of, leave, Fits, settle, resized}
use Rattle.update.specs.LeaveLaws.{Fit, view_room, view_left, step_fits, step_frames}
use Rattle.update.specs.SettleLaws.{settle_view, settle_leave, settle_fits}
use Rattle.overlay.specs.Calls.{write_at, truncate_to}
use Rattle.store.specs.declared.State.{State}
use Rattle.store.specs.Answers.{Answer}
use Rattle.store.specs.Answers.{Done, Refused}
use Rattle.store.specs.Codec.{Codec, real_codec, sealed, stored}
use Rattle.store.specs.Blocks.{after_commit}
use Rattle.store.specs.Cases.{no_or}
use Rattle.store.proofs.WaysOut.{store_short, store_barred, store_done}
use Rattle.store.specs.Calls.{Call, write, truncate, commit, Uses, uses, Lent, out, Mode, idle, update, mode_if, mode_of, buffers_short, short}
use Rattle.store.specs.Plan.{required}
use Rattle.store.specs.Store.{budget_of, barred, ended, over, unchanged, planned_runs, publish, commit_over, direct, change, in_update, working, answer_of, swept, refuse, write_pages}
use Rattle.store.specs.Store.{settle as settlePlan}
use Rattle.commit.specs.Held.{Held}
use Rattle.transfer.specs.OnMemory.{lent}
use Rattle.lending.specs.Lending.{calls}
use Rattle.settling.specs.Changing.{verdict_answer, overlay_now, ending, settled}

abbrev most : ℕ
most = 18446744073709551615

-- ## The end of an update looks at its slices by their lengths

module _ (P S C L M : ℕ) (k : Codec) (s : State) (m w : List ℕ) (a b : Buffers) (e : wiped a ≡ wiped b) where
  over_alike : (x : Answer) → over P S C L M k s (lent m a w) x ≡ over P S C L M k s (lent m b w) x
  over_alike x = ap (λ (q : Buffers). out (ended P S C L M k s.count.0 s.block) (lent m q w) x []) e

  publish_alike : (u : Bool) (x : Over) (rs : List ZeroExtent) (n : List ℕ) (g : Growth) → publish P S C L M k u s (lent m a w) x rs n g ≡ publish P S C L M k u s (lent m b w) x rs n g
  publish_alike u x rs n (Err r) = over_alike (Refused r)
  publish_alike u x rs n (Ok c) =
      let t : Superblock = after_commit P M u x.size (length rs) s.block in
      ap (λ (q : Buffers). out (ended P S C L M k c.0 (sealed k t rs)) (lent (stored k t rs (write_pages P S C L M k s.block.db_base_offset (count P x.size) x.dirty n)) q w) Done []) e

  plan_alike : (u : Bool) (x : Over) (p : Planned) → settlePlan P S C L M k u s (lent m a w) x p ≡ settlePlan P S C L M k u s (lent m b w) x p
  plan_alike u x too_many = over_alike (Refused ZeroExtentLimitExceeded)
  plan_alike u x (kept rs) =
      let end : ℕ = required P s.block.db_base_offset (below (count P x.size) (page_numbers x.dirty)) (s.block.db_base_offset + x.size) in
      λ i. cond (ltb M end) (over_alike (Refused OffsetOverflow) i) (publish_alike u x rs (grow_to S s.count.0 end m).mem (grow_to S s.count.0 end m).growth i)

  commit_alike : (u : Bool) (z : ℕ) (x : Over) → commit_over P S C L M k u s (lent m a w) z x ≡ commit_over P S C L M k u s (lent m b w) z x
  unfolding commit_over
  commit_alike u z x = λ i. cond (unchanged P S C L M k z x) (over_alike Done i) (plan_alike u x (planned_runs P S C L M k s m x) i)

-- ## What a change left, in slices that are not short

module _ (v : Overlay) (b : Buffers) (h : short_buffers 16384 8 v b ≡ false) where
  abbrev U : Overlay
  U = settle 16384 8 v

  held : Fits 16384 8 U b
  held = settle_fits 16384 8 v b h

  room : Fit 16384 8 U b (view 16384 8 v b)
  room = subst (λ (x : Over). Fit 16384 8 U b x) (settle_view 16384 8 v b) (view_room 16384 8 (omega arith) U b held)

  module _ (n : ℕ) (x : Over) (busy : n ≤ frame_count 16384 b) (r : Fit 16384 8 U b x) where
    given : GivenBack 16384 8 U n x b (put_back 16384 8 U n x b)
    given = given_back 16384 8 U n x b record {
      sized = r.sized;
      clean = r.clean;
      was = frames_fit 16384 n b (omega arith) busy;
      was_numbers = numbers_fit 16384 n b busy;
      was_recs = held.1.0;
      was_clean = omega (arith, cached_few 16384 8 U.cache, held.1.1.0);
      frames = frames_fit 16384 (length x.dirty) b (omega arith) r.dirty;
      numbers = numbers_fit 16384 (length x.dirty) b r.dirty;
      recs = entries_fit (length x.recorded) b r.recs;
      cache = omega (arith, r.few, cached_few 16384 8 U.cache, held.1.1.0);
    }

    wiped_left : wiped (put_back 16384 8 U n x b) ≡ wiped b
    unfolding wiped
    wiped_left = λ i. record {
      frames = zeros (given.frames i);
      numbers = zeros (given.numbers i);
      clean = zeros (given.clean i);
      recs = zeros (given.recs i);
    }

  -- a change t, put back with n frames in use
  module _ (n : ℕ) (t : Tried) (busy : n ≤ frame_count 16384 b) (r : Fit 16384 8 U b (left t)) (v' : Overlay) (b' : Buffers) (a : Verdict) (e : laid v' b' a ≡ leave 16384 8 v b n t) where
    from_settled : leave 16384 8 U b n t ≡ laid v' b' a
    from_settled = settle_leave 16384 8 v b n t ∙ sym e

    -- what a commit of it asks of the slices
    pub room_left : (w : List ℕ) → (1025 + 2 * frame_count 16384 b) * 2 ≤ length w
        → Held v' b'.frames b'.numbers b'.recs w
    room_left w g =
        let f : Fits 16384 8 v' b' = step_fits 16384 8 (omega arith) U b held n t busy r v' b' a from_settled in
        let k : frame_count 16384 b' ≡ frame_count 16384 b = step_frames 16384 8 (omega arith) U b held n t busy r v' b' a from_settled in
        (numbers_fit 16384 v'.dirty b' f.0, frames_fit 16384 v'.dirty b' (omega arith) f.0, f.1.0, omega (arith, f.0))

  -- ## A direct call

  module _ (s : State) (m w : List ℕ) (z : v.base_size ≡ s.block.db_size) where
    direct_put : (n : ℕ) (t : Tried) → n ≤ frame_count 16384 b → Fit 16384 8 U b (left t)
        → ending s (lent m (put_back 16384 8 U n (left t) b) w) (overlay_of 16384 8 v.base_size (left t)) (verdict_of t) idle ≡ direct 16384 65536 8 1024 most real_codec s (lent m b w) t
    unfolding overlay_of settle
    direct_put n (accepted x) busy r =
        ap (λ (y : Over). commit_over 16384 65536 8 1024 most real_codec false s (lent m (put_back 16384 8 U n x b) w) v.base_size y) (view_left 16384 8 (omega arith) U b held n x busy r)
        ∙ ap (λ (y : ℕ). commit_over 16384 65536 8 1024 most real_codec false s (lent m (put_back 16384 8 U n x b) w) y x) z
        ∙ commit_alike 16384 65536 8 1024 most real_codec s m w (put_back 16384 8 U n x b) b (wiped_left n x busy r) false s.block.db_size x
    direct_put n (refused q x) busy r = over_alike 16384 65536 8 1024 most real_codec s m w (put_back 16384 8 U n x b) b (wiped_left n x busy r) (Refused q)

    pub direct_is : (n : ℕ) (t : Tried) → n ≤ frame_count 16384 b → Fit 16384 8 U b (left t) → (v' : Overlay) (b' : Buffers) (a : Verdict) → laid v' b' a ≡ leave 16384 8 v b n t
        → ending s (lent m b' w) v' a idle ≡ direct 16384 65536 8 1024 most real_codec s (lent m b w) t
    unfolding leave settle
    direct_is n t busy r v' b' a e =
        subst (λ (x : Laid). ending s (lent m x.bufs w) x.overlay x.verdict idle ≡ direct 16384 65536 8 1024 most real_codec s (lent m b w) t) (from_settled n t busy r v' b' a e) (direct_put n t busy r)

-- ## A call in an update

module _ (v : Overlay) (b : Buffers) (s : State) (m w : List ℕ) where
  answers_alike : (t : Tried) → verdict_answer (verdict_of t) ≡ answer_of 16384 65536 8 1024 most real_codec t
  answers_alike (accepted x) = refl
  answers_alike (refused q x) = refl

  pub update_is : (n : ℕ) (t : Tried) (v' : Overlay) (b' : Buffers) (a : Verdict) → laid v' b' a ≡ leave 16384 8 v b (max v.dirty n) t
      → ending s (lent m b' w) v' a (update v) ≡ in_update 16384 65536 8 1024 most real_codec s (lent m b w) v n t
  unfolding leave
  update_is n t v' b' a e =
      ap (λ (x : Laid). ending s (lent m x.bufs w) x.overlay x.verdict (update v)) e
      ∙ ap (λ (y : Answer). out (working s.count.0 s.block (overlay_of 16384 8 v.base_size (left t))) (lent m (put_back 16384 8 v (max v.dirty n) (left t) b) w) y []) (answers_alike t)

-- ## Both, by the mode

fresh_long : (s : State) (b : Buffers) → ltb (length b.clean) (8 * 16384) ≡ false → short_buffers 16384 8 (overlay_now s idle) b ≡ false
unfolding short_buffers overlay_of fresh
fresh_long s b h = rw (le-ltb (frame_count 16384 b) 0 (omega arith), le-ltb (length b.recs) 0 (omega arith), h)

fresh_begun : (s : State) → (overlay_now s idle).base_size ≡ s.block.db_size
unfolding overlay_of
fresh_begun s = refl

fresh_view : (s : State) (b : Buffers) → view 16384 8 (overlay_now s idle) b ≡ fresh 16384 s.block.db_size (budget_of false 0 0)
unfolding fresh
fresh_view s b = view_fresh 16384 8 s.block.db_size _ b refl refl refl

mode_long : (s : State) (b : Buffers) (μ : Mode) → buffers_short 16384 65536 8 1024 μ b ≡ false → short_buffers 16384 8 (overlay_now s μ) b ≡ false
mode_long s b idle h = fresh_long s b h
mode_long s b (update v) h = h

module _ (s : State) (m w : List ℕ) (b : Buffers) (f : Over → Tried) (reach : Over → ℕ) (v' : Overlay) (b' : Buffers) (a : Verdict) where
  settled_is : (μ : Mode) → (h : short_buffers 16384 8 (overlay_now s μ) b ≡ false)
      → let v : Overlay = overlay_now s μ in let x : Over = view 16384 8 v b in
      max v.dirty (reach x) ≤ frame_count 16384 b → Fit 16384 8 (settle 16384 8 v) b (left (f x)) → laid v' b' a ≡ leave 16384 8 v b (max v.dirty (reach x)) (f x)
      → ending s (lent m b' w) v' a μ ≡ change 16384 65536 8 1024 most real_codec s (lent m b w) f reach μ
  settled_is idle h busy r e =
      direct_is (overlay_now s idle) b h s m w (fresh_begun s) _ (f (view 16384 8 (overlay_now s idle) b)) busy r v' b' a e
      ∙ ap (λ (x : Over). direct 16384 65536 8 1024 most real_codec s (lent m b w) (f x)) (fresh_view s b)
  settled_is (update v) h busy r e = update_is v b s m w (reach (view 16384 8 v b)) (f (view 16384 8 v b)) v' b' a e

-- ## What 35 leaves to hold

module _ (s : State) (m w : List ℕ) (b : Buffers) (h : short 16384 65536 8 1024 s (lent m b w) commit ≡ false) where
  abbrev bufs_short : Bool
  bufs_short = buffers_short 16384 65536 8 1024 (mode_of s) b

  abbrev work_short : Bool
  work_short = ltb (length w) ((1024 + 1 + 2 * frame_count 16384 b) * 2)

  long : (bufs_short ≡ false) × (work_short ≡ false)
  unfolding short
  long = no_or bufs_short work_short (no_or (ltb (length m) (s.count.0 * 65536)) (bufs_short || work_short) h).1

  long_work : (1025 + 2 * frame_count 16384 b) * 2 ≤ length w
  long_work = ltb-false _ _ long.1

  long_buffers : short_buffers 16384 8 (overlay_now s (mode_of s)) b ≡ false
  long_buffers = mode_long s b (mode_of s) long.0

  abbrev v : Overlay
  v = overlay_now s (mode_of s)

  abbrev x : Over
  x = view 16384 8 v b

  abbrev byte : ℕ → ℕ
  byte = image_in 16384 (image_of s.block) m

  abbrev F : ℕ
  F = frame_count 16384 b

  abbrev R : ℕ
  R = entry_count b

  abbrev K : ℕ
  K = length (cached 16384 8 (settle 16384 8 v).cache)

  held_dirty : v.dirty ≤ F
  unfolding settle
  held_dirty = (held v b long_buffers).0

  module _ (v' : Overlay) (b' : Buffers) (a : Verdict) where
    -- ## Writes

    module _ (o : ℕ) (bs : List ℕ) (e : laid v' b' a ≡ write_at 16384 8 most (image_of s.block) m v b o bs) where
      abbrev writing : Over → Tried
      writing = try_write 16384 most F R byte o bs

      written : laid v' b' a ≡ leave 16384 8 v b (max v.dirty 0) (writing x)
      unfolding write_at
      written =
          let z : max v.dirty 0 ≡ v.dirty = omega arith in
          let q : write_at 16384 8 most (image_of s.block) m v b o bs ≡ leave 16384 8 v b v.dirty (writing x) = rw long_buffers in
          e ∙ q ∙ ap (λ (n : ℕ). leave 16384 8 v b n (writing x)) (sym z)

      write_fit : Fit 16384 8 (settle 16384 8 v) b (left (writing x))
      write_fit = write_room 16384 most F R K byte o bs x (room v b long_buffers)

      pub write_leaves : Held v' b'.frames b'.numbers b'.recs w
      write_leaves = room_left v b long_buffers (max v.dirty 0) (writing x) (omega (arith, held_dirty)) write_fit v' b' a written w long_work

      pub write_is : barred s (write o bs) ≡ false → settled s (lent m b' w) v' a (mode_of s) ≡ calls s (lent m b w) (write o bs)
      unfolding short real_codec
      write_is free =
          ap (swept 16384 65536 8 1024 most real_codec true) (settled_is s m w b writing (λ u. 0) v' b' a (mode_of s) long_buffers (omega (arith, held_dirty)) write_fit written)
          ∙ sym (store_done 16384 65536 8 1024 most real_codec s (lent m b w) (write o bs) h free)

    -- ## Truncations

    module _ (n : ℕ) (e : laid v' b' a ≡ truncate_to 16384 8 most (image_of s.block) m v b n) where
      abbrev cutting : Over → Tried
      cutting = try_truncate 16384 most F R byte n

      abbrev cut_reach : Over → ℕ
      cut_reach = truncate_reach 16384 most F R byte n

      cut : laid v' b' a ≡ leave 16384 8 v b (max v.dirty (cut_reach x)) (cutting x)
      unfolding truncate_to resized
      cut =
          let q : truncate_to 16384 8 most (image_of s.block) m v b n ≡ leave 16384 8 v b (max v.dirty (cut_reach x)) (cutting x) = rw long_buffers in
          e ∙ q

      cut_fit : Fit 16384 8 (settle 16384 8 v) b (left (cutting x))
      cut_fit = truncate_room 16384 most F R K byte n x (room v b long_buffers)

      cut_busy : max v.dirty (cut_reach x) ≤ F
      cut_busy = omega (arith, held_dirty, (try_grow_lem 16384 most F R K byte n x (room v b long_buffers)).dirty)

      pub truncate_leaves : Held v' b'.frames b'.numbers b'.recs w
      truncate_leaves = room_left v b long_buffers (max v.dirty (cut_reach x)) (cutting x) cut_busy cut_fit v' b' a cut w long_work

      pub truncate_is : barred s (truncate n) ≡ false → settled s (lent m b' w) v' a (mode_of s) ≡ calls s (lent m b w) (truncate n)
      unfolding short real_codec
      truncate_is free =
          ap (swept 16384 65536 8 1024 most real_codec true) (settled_is s m w b cutting cut_reach v' b' a (mode_of s) long_buffers cut_busy cut_fit cut)
          ∙ sym (store_done 16384 65536 8 1024 most real_codec s (lent m b w) (truncate n) h free)

-- ## 35, and 10 right after it

-- c is lent what a commit is, as writes and truncations are
module _ (s : State) (l : Lent) (c : Call) (e : uses c ≡ uses commit) where
  as_commit : short 16384 65536 8 1024 s l c ≡ short 16384 65536 8 1024 s l commit
  unfolding short
  as_commit = ap (λ (u : Uses). (u.mem? && ltb (length l.mem) (s.count.0 * 65536)) || ((u.bufs? && buffers_short 16384 65536 8 1024 (mode_of s) l.bufs) || (u.work? && ltb (length l.work) ((1024 + 1 + 2 * frame_count 16384 l.bufs) * 2)))) e

  pub change_short : short 16384 65536 8 1024 s l commit ≡ true → calls s l c ≡ refuse s l c BufferTooShort
  change_short h = store_short 16384 65536 8 1024 most real_codec s l c (as_commit ∙ h)

  pub change_barred : short 16384 65536 8 1024 s l commit ≡ false → barred s c ≡ true → calls s l c ≡ refuse s l c ImportAlreadyStarted
  change_barred h b = store_barred 16384 65536 8 1024 most real_codec s l c (as_commit ∙ h) b

-- ## The code's ways out

module _ (s : State) where
  pub overlay_open : s.updating ≡ true → s.overlay ≡ overlay_now s (mode_of s)
  overlay_open t = sym (ap (λ (u : Bool). overlay_now s (mode_if u s.overlay)) t)

  pub overlay_begun : s.updating ≡ false → (g : Budget) → g ≡ budget_of false 0 0
      → overlay_of 16384 8 s.block.db_size (fresh 16384 s.block.db_size g) ≡ overlay_now s (mode_of s)
  overlay_begun f g e =
      ap (λ (x : Budget). overlay_of 16384 8 s.block.db_size (fresh 16384 s.block.db_size x)) e
      ∙ sym (ap (λ (u : Bool). overlay_now s (mode_if u s.overlay)) f)

  module _ (m w : List ℕ) (b : Buffers) (v : Overlay) (a : Verdict) where
    pub settled_open : s.updating ≡ true → (w' : List ℕ) → w' ≡ zeros (length w) → (x : Answer) → x ≡ verdict_answer a
        → out (working s.count.0 s.block v) (lent m b w') x [] ≡ settled s (lent m b w) v a (mode_of s)
    settled_open t w' z x e =
        (λ i. out (working s.count.0 s.block v) (lent m b (z i)) (e i) [])
        ∙ sym (ap (λ (u : Bool). settled s (lent m b w) v a (mode_if u s.overlay)) t)

    module _ (f : s.updating ≡ false) where
      pub settled_accepted : a ≡ (Ok tt)
          → swept 16384 65536 8 1024 most real_codec true (commit_over 16384 65536 8 1024 most real_codec false s (lent m b w) v.base_size (view 16384 8 v b)) ≡ settled s (lent m b w) v a (mode_of s)
      settled_accepted e =
          sym (ap (λ (y : Verdict). settled s (lent m b w) v y (mode_of s)) e ∙ ap (λ (u : Bool). settled s (lent m b w) v (Ok tt) (mode_if u s.overlay)) f)

      pub settled_refused : (r : Refusal) → a ≡ Err r → (s' : State) → s' ≡ ended 16384 65536 8 1024 most real_codec s.count.0 s.block
          → (b' : Buffers) (w' : List ℕ) → lent [] b' w' ≡ lent [] (wiped b) (zeros (length w))
          → out s' (lent m b' w') (Refused r) [] ≡ settled s (lent m b w) v a (mode_of s)
      settled_refused r e s' d b' w' z =
          (λ i. out (d i) (lent m (z i).bufs (z i).work) (Refused r) [])
          ∙ sym (ap (λ (y : Verdict). settled s (lent m b w) v y (mode_of s)) e ∙ ap (λ (u : Bool). settled s (lent m b w) v (Err r) (mode_if u s.overlay)) f)
