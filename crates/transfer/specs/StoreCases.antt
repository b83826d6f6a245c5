-- The store's definition at the calls that are lent memory alone: one law for each way out.
use Rattle.std.specs.Prelude.{◌≡◌, Bool, true, false, ◌&&◌, ◌||◌, leb, take, drop, Result, Ok, Err, cond}
use Rattle.std.proofs.Math.Path.{refl, ap}
use Rattle.std.proofs.Common.{sym, ◌∙◌, arith, true≢false, ext_get_or, lt-ltb, le-ltb, eq-eqb, ne_eqb, leb-true, leb-false}
use Prim.Native.Nat.{ℕ, ◌+◌, ◌-◌, ◌*◌, ◌≤◌, ◌<◌, max, min}
use Rattle.std.proofs.Math.Bool.{not}
use mathlib.Core.List.{List, []}
use Rattle.std.proofs.Math.Dec.{ltb, eqb}
use Rattle.std.proofs.Math.ListN.{length}
use Rattle.config.specs.declared.StablePages.{StablePages}
use Rattle.config.specs.declared.refusal.Refusal.{Refusal}
use Rattle.config.specs.declared.refusal.Refusal.TheVariants.{ImportAlreadyStarted, ImportNotStarted, UpdateInProgress, OffsetOverflow, ImportOutOfOrder, ImportOutOfBounds, ImportIncomplete, ChecksumMismatch, ChecksumRefreshChunkEmpty, BufferTooShort}
use Rattle.memory.specs.Bytes.{overwrite}
use Rattle.memory.specs.Growth.{grow_to}
use Rattle.memory.specs.Growth.{Growth}
use Rattle.meta.specs.declared.superblock.Superblock.{Superblock}
use Rattle.fnv.specs.Fnv.{basis, fold, fnv1a64}
use Rattle.meta.specs.Block.{seal, store_in}
use Rattle.image.specs.Reading.{image_of, resealed, restored}
use Rattle.update.specs.Lists.{tabulate_from}
use Rattle.update.specs.ListLaws.{tabulate_from-at, tabulate_at, length-tabulate, length-tabulate_from}
use Rattle.update.specs.Image.{image_in}
use Rattle.update.specs.Buffers.{Buffers, frame_count}
use Rattle.store.specs.declared.State.{State}
use Rattle.store.specs.Answers.{Answer, Step}
use Rattle.store.specs.Answers.{Done, Exported, Checksum, Refreshed, Refused, answered, done}
use Rattle.store.specs.Codec.{real_codec, sealed, stored, real_sealed, real_stored}
use Rattle.store.specs.Blocks.{importing, refreshing, after_import_begin, after_import_cancel, after_import_finish, after_refresh, after_refresh_step}
use Rattle.store.specs.Calls.{Call, begin, read, write, truncate, commit, rollback, file_size, import_begin, import_chunk, import_finish, import_cancel, export, checksum, refresh, refresh_step, Lent, Out, out, Uses, uses, these, lent_bytes, mode_if, mode_of, buffers_short, short}
use Rattle.store.specs.Store.{store, act, alone, swept, onward, restore, image_bytes, image_sum, do_import_begin, do_import_chunk, do_import_finish, do_import_cancel, do_export, do_checksum, do_refresh, do_refresh_step, refresh_from, place_chunk, progress}
use Rattle.transfer.specs.OnMemory.{lent, OnMemory}
use Rattle.transfer.specs.Steps.{admission, admission_by, import_admission, import_admission_by, StepOut, step_out, step, BlockStored, block_stored, restore_to, place_to, chunk_reach, chunk_to, refresh_to, refresh_step_to}
use Rattle.store.proofs.WaysOut.{work_free, store_short, store_done}

abbrev pub most : ℕ
most = 18446744073709551615

-- the whole answer of a call that left this
abbrev pub out_of : StepOut → Buffers → List ℕ → Out
out_of x b w = out x.result.state (lent x.mem b w) x.result.answer []

if_true : {A : Type 0} (t : Bool) (x y : A) → t ≡ true → cond t x y ≡ x
if_true t x y h = ap (λ (u : Bool). cond u x y) h

if_false : {A : Type 0} (t : Bool) (x y : A) → t ≡ false → cond t x y ≡ y
if_false t x y h = ap (λ (u : Bool). cond u x y) h

or_none : (t : Bool) → (t || false) ≡ t
or_none true = refl
or_none false = refl

-- ## The tests that all of them have

-- what each does when no update is open
abbrev pub doing : State → Lent → Call → Out
doing s l (import_begin t e) = do_import_begin 16384 65536 8 1024 most real_codec s l t e
doing s l (import_chunk o bs) = do_import_chunk 16384 65536 8 1024 most real_codec s l o bs
doing s l import_finish = do_import_finish 16384 65536 8 1024 most real_codec s l
doing s l import_cancel = do_import_cancel 16384 65536 8 1024 most real_codec s l
doing s l (export o d) = do_export 16384 65536 8 1024 most real_codec s l o d
doing s l checksum = do_checksum 16384 65536 8 1024 most real_codec s l
doing s l refresh = do_refresh 16384 65536 8 1024 most real_codec s l
doing s l (refresh_step n) = do_refresh_step 16384 65536 8 1024 most real_codec s l n
doing s l (begin g p b) = act 16384 65536 8 1024 most real_codec s l (begin g p b)
doing s l (read o d) = act 16384 65536 8 1024 most real_codec s l (read o d)
doing s l (write o bs) = act 16384 65536 8 1024 most real_codec s l (write o bs)
doing s l (truncate n) = act 16384 65536 8 1024 most real_codec s l (truncate n)
doing s l commit = act 16384 65536 8 1024 most real_codec s l commit
doing s l rollback = act 16384 65536 8 1024 most real_codec s l rollback
doing s l file_size = act 16384 65536 8 1024 most real_codec s l file_size

act_is : (s : State) (l : Lent) (c : Call) → uses c ≡ these true false false → act 16384 65536 8 1024 most real_codec s l c ≡ alone 16384 65536 8 1024 most real_codec s l c (doing s l c) (mode_of s)
act_is s l (import_begin t e) u = refl
act_is s l (import_chunk o bs) u = refl
act_is s l import_finish u = refl
act_is s l import_cancel u = refl
act_is s l (export o d) u = refl
act_is s l checksum u = refl
act_is s l refresh u = refl
act_is s l (refresh_step n) u = refl
act_is s l (begin g p b) u = absurd (true≢false (ap (λ (z : Uses). z.mem?) (sym u)))
act_is s l (read o d) u = absurd (true≢false (ap (λ (z : Uses). z.bufs?) u))
act_is s l (write o bs) u = absurd (true≢false (ap (λ (z : Uses). z.bufs?) u))
act_is s l (truncate n) u = absurd (true≢false (ap (λ (z : Uses). z.bufs?) u))
act_is s l commit u = absurd (true≢false (ap (λ (z : Uses). z.bufs?) u))
act_is s l rollback u = absurd (true≢false (ap (λ (z : Uses). z.mem?) (sym u)))
act_is s l file_size u = absurd (true≢false (ap (λ (z : Uses). z.mem?) (sym u)))

module _ (s : State) (m : List ℕ) (b : Buffers) (w : List ℕ) (c : Call) (only : uses c ≡ these true false false) where
  short_is : short 16384 65536 8 1024 s (lent m b w) c ≡ ltb (length m) (s.count.0 * 65536)
  unfolding short
  short_is =
      ap (λ (u : Uses). (u.mem? && ltb (length m) (s.count.0 * 65536)) || ((u.bufs? && buffers_short 16384 65536 8 1024 (mode_of s) b) || (u.work? && ltb (length w) ((1024 + 1 + 2 * frame_count 16384 b) * 2)))) only
      ∙ or_none (ltb (length m) (s.count.0 * 65536))

  pub short_refused : length m < s.count.0 * 65536 → store 16384 65536 8 1024 most real_codec s (lent m b w) c ≡ out s (lent m b w) (Refused BufferTooShort) (lent_bytes c)
  short_refused h = store_short 16384 65536 8 1024 most real_codec s (lent m b w) c (short_is ∙ lt-ltb _ _ h)

  module _ (h : s.count.0 * 65536 ≤ length m) where
    acts : store 16384 65536 8 1024 most real_codec s (lent m b w) c ≡ alone 16384 65536 8 1024 most real_codec s (lent m b w) c (doing s (lent m b w) c) (mode_of s)
    acts =
        store_done 16384 65536 8 1024 most real_codec s (lent m b w) c (short_is ∙ le-ltb _ _ h) (work_free s c (ap (λ (u : Uses). u.work?) only))
        ∙ ap (λ (u : Uses). swept 16384 65536 8 1024 most real_codec u.work? (act 16384 65536 8 1024 most real_codec s (lent m b w) c)) only
        ∙ act_is s (lent m b w) c only

    pub updating_refused : s.updating ≡ true → store 16384 65536 8 1024 most real_codec s (lent m b w) c ≡ out s (lent m b w) (Refused UpdateInProgress) (lent_bytes c)
    updating_refused u = acts ∙ ap (λ (t : Bool). alone 16384 65536 8 1024 most real_codec s (lent m b w) c (doing s (lent m b w) c) (mode_if t s.overlay)) u

    pub idle_acts : s.updating ≡ false → store 16384 65536 8 1024 most real_codec s (lent m b w) c ≡ doing s (lent m b w) c
    idle_acts u = acts ∙ ap (λ (t : Bool). alone 16384 65536 8 1024 most real_codec s (lent m b w) c (doing s (lent m b w) c) (mode_if t s.overlay)) u

-- ## The same from the tests of a call

pub not_true : (t u : Bool) → t ≡ u → not t ≡ true → u ≡ false
not_true true u e h = absurd (true≢false (sym h))
not_true false u e h = sym e

pub not_false : (t u : Bool) → t ≡ u → not t ≡ false → u ≡ true
not_false true u e h = sym e
not_false false u e h = absurd (true≢false h)

abbrev is_accepted : {A : Type 0} → Result A Refusal → Bool
is_accepted (Ok x) = true
is_accepted (Err r) = false

module _ (s : State) (m : List ℕ) (c : Call) (only : uses c ≡ these true false false) where
  refused_by : (b : Buffers) (w : List ℕ) (t u : Bool) (r : Refusal) → leb (s.count.0 * 65536) (length m) ≡ t → s.updating ≡ u
      → admission_by t u ≡ Err r
      → store 16384 65536 8 1024 most real_codec s (lent m b w) c ≡ out s (lent m b w) (Refused r) (lent_bytes c)
  refused_by b w false u r e f h = short_refused s m b w c only (leb-false _ _ e) ∙ ap (λ (x : Result (Unit {0}) Refusal). out s (lent m b w) (done x) (lent_bytes c)) h
  refused_by b w true true r e f h = updating_refused s m b w c only (leb-true _ _ e) f ∙ ap (λ (x : Result (Unit {0}) Refusal). out s (lent m b w) (done x) (lent_bytes c)) h
  refused_by b w true false r e f h = absurd (true≢false (ap is_accepted h))

  admitted_by : (b : Buffers) (w : List ℕ) (t u : Bool) → leb (s.count.0 * 65536) (length m) ≡ t → s.updating ≡ u
      → admission_by t u ≡ Ok tt → store 16384 65536 8 1024 most real_codec s (lent m b w) c ≡ doing s (lent m b w) c
  admitted_by b w true false e f h = idle_acts s m b w c only (leb-true _ _ e) f
  admitted_by b w true true e f h = absurd (true≢false (ap is_accepted (sym h)))
  admitted_by b w false u e f h = absurd (true≢false (ap is_accepted (sym h)))

  -- a call that answers as its tests did leaves what was lent
  pub refused_exit : {A : Type 0} (f : A → Answer) (x : Result A Refusal) (y r : Refusal) → x ≡ Err y → y ≡ r → admission s m ≡ Err r → OnMemory s m c s m (answered f x) (lent_bytes c)
  refused_exit f x y r e g h b w =
      ap (λ (z : Result _ Refusal). out s (lent m b w) (answered f z) (lent_bytes c)) (e ∙ ap Err g) ∙ sym (refused_by b w _ _ r refl refl h)

  pub admitted : (b : Buffers) (w : List ℕ) → admission s m ≡ Ok tt → store 16384 65536 8 1024 most real_codec s (lent m b w) c ≡ doing s (lent m b w) c
  admitted b w h = admitted_by b w _ _ refl refl h

pub lent_by : (s : State) (m : List ℕ) (t u : Bool) → leb (s.count.0 * 65536) (length m) ≡ t → admission_by t u ≡ Ok tt → s.count.0 * 65536 ≤ length m
lent_by s m true u e h = leb-true _ _ e
lent_by s m false u e h = absurd (true≢false (ap is_accepted (sym h)))

pub admitted_lent : (s : State) (m : List ℕ) → admission s m ≡ Ok tt → s.count.0 * 65536 ≤ length m
admitted_lent s m h = lent_by s m _ _ refl h

-- with an import open
module _ (s : State) (m : List ℕ) where
  opened_by : (t : Bool) (a : Result (Unit {0}) Refusal) → importing s.block ≡ t → admission s m ≡ a → import_admission_by t a ≡ Ok tt → (admission s m ≡ Ok tt) × (importing s.block ≡ true)
  opened_by true (Ok u) e f h = (f, e)
  opened_by false (Ok u) e f h = absurd (true≢false (ap is_accepted (sym h)))
  opened_by t (Err r) e f h = absurd (true≢false (ap is_accepted (sym h)))

  pub opened : import_admission s m ≡ Ok tt → (admission s m ≡ Ok tt) × (importing s.block ≡ true)
  opened h = opened_by _ _ refl refl h

  module _ (c : Call) (only : uses c ≡ these true false false)
      (none : (b : Buffers) (w : List ℕ) → importing s.block ≡ false → doing s (lent m b w) c ≡ out s (lent m b w) (Refused ImportNotStarted) (lent_bytes c)) where
    closed_by : (b : Buffers) (w : List ℕ) (t : Bool) (a : Result (Unit {0}) Refusal) (r : Refusal) → importing s.block ≡ t → admission s m ≡ a → import_admission_by t a ≡ Err r
        → store 16384 65536 8 1024 most real_codec s (lent m b w) c ≡ out s (lent m b w) (Refused r) (lent_bytes c)
    closed_by b w t (Err q) r e f h = refused_by s m c only b w _ _ q refl refl f ∙ ap (λ (x : Result (Unit {0}) Refusal). out s (lent m b w) (done x) (lent_bytes c)) h
    closed_by b w false (Ok u) r e f h = admitted s m c only b w f ∙ none b w e ∙ ap (λ (x : Result (Unit {0}) Refusal). out s (lent m b w) (done x) (lent_bytes c)) h
    closed_by b w true (Ok u) r e f h = absurd (true≢false (ap is_accepted h))

    pub closed_exit : (x : Result (Unit {0}) Refusal) (y r : Refusal) → x ≡ Err y → y ≡ r → import_admission s m ≡ Err r → OnMemory s m c s m (done x) (lent_bytes c)
    closed_exit x y r e g h b w = ap (λ (z : Result (Unit {0}) Refusal). out s (lent m b w) (done z) (lent_bytes c)) (e ∙ ap Err g) ∙ sym (closed_by b w _ _ r refl refl h)

-- a state and memory with a block stored
pub stored_as : (s s' : State) (m m' : List ℕ) (k : Superblock) (a : Answer) → block_stored s' m' ≡ block_stored (onward s s.count.0 (resealed k m)) (restored k m) → step_out (step s' a) m' ≡ restore_to s m k a
stored_as s s' m m' k a e = ap (λ (x : BlockStored). step_out (step x.state a) x.mem) e

-- the whole answer of a call with a state and memory that it left
pub answered_with : (s' : State) (m' : List ℕ) (a : Answer) (b : Buffers) (w : List ℕ) (x : StepOut) (o : Out) → step_out (step s' a) m' ≡ x → o ≡ out_of x b w → out s' (lent m' b w) a [] ≡ o
answered_with s' m' a b w x o e h = ap (λ (y : StepOut). out_of y b w) e ∙ sym h

-- ## The same from a call's step

pub too_short_lem : (s : State) (m : List ℕ) (t : Bool) → t ≡ leb (s.count.0 * 65536) (length m) → not t ≡ true → length m < s.count.0 * 65536
too_short_lem s m t e f = leb-false _ _ (not_true t _ e f)

pub is_lent : (s : State) (m : List ℕ) (t : Bool) → t ≡ leb (s.count.0 * 65536) (length m) → not t ≡ false → s.count.0 * 65536 ≤ length m
is_lent s m t e f = leb-true _ _ (not_false t _ e f)

-- a refusal that leaves what was lent
pub refused_as : (s : State) (m : List ℕ) (b : Buffers) (w : List ℕ) (a : Refusal) (f : List ℕ) (r : Step) (o : Out) → r ≡ step s (Refused a) → o ≡ out s (lent m b w) (Refused a) f
    → out r.state (lent m b w) r.answer f ≡ o
refused_as s m b w a f r o e h = ap (λ (x : Step). out x.state (lent m b w) x.answer f) e ∙ sym h

pub answered_as : (b : Buffers) (w : List ℕ) (r : Step) (m : List ℕ) (x : StepOut) (o : Out) → step_out r m ≡ x → o ≡ out_of x b w → out r.state (lent m b w) r.answer [] ≡ o
answered_as b w r m x o e h = ap (λ (y : StepOut). out_of y b w) e ∙ sym h

-- ## The image's bytes and checksum

pub bytes_are : (k : Superblock) (m : List ℕ) (o n : ℕ) → image_bytes 16384 65536 8 1024 most real_codec k m o n ≡ tabulate_from o n (image_in 16384 (image_of k) m)
unfolding image_bytes real_codec
bytes_are k m o n = ext_get_or 0 _ _ (length-tabulate n _ ∙ sym (length-tabulate_from o n (image_in 16384 (image_of k) m)))
    (λ i h. let g : i < n = omega (arith, length-tabulate n (λ j. image_in 16384 (image_of k) m (o + j))) in tabulate_at n (λ j. image_in 16384 (image_of k) m (o + j)) i g ∙ sym (tabulate_from-at o n (image_in 16384 (image_of k) m) i g))

pub sum_is : (k : Superblock) (m : List ℕ) → image_sum 16384 65536 8 1024 most real_codec k m ≡ fold basis (tabulate_from 0 k.db_size (image_in 16384 (image_of k) m))
unfolding image_sum real_codec
sum_is k m = ap (fold basis) (bytes_are k m 0 k.db_size)

-- ## Each call, with no update open

module _ (s : State) (m : List ℕ) (b : Buffers) (w : List ℕ) where
  pub restore_is : (k : Superblock) (a : Answer) → restore 16384 65536 8 1024 most real_codec s (lent m b w) k a ≡ out_of (restore_to s m k a) b w
  unfolding restore resealed restored real_codec stored seal store_in
  restore_is k a = refl

  place_grown : (o : ℕ) (bs g : List ℕ) (c : StablePages) → place_chunk 16384 65536 8 1024 most real_codec s (lent m b w) o bs g (Ok c) ≡ out_of (place_to s m o bs g (Ok c)) b w
  unfolding restore resealed restored real_codec stored seal store_in
  place_grown o bs g c = refl

  module _ (t e : ℕ) where
    pub begin_open : importing s.block ≡ true → do_import_begin 16384 65536 8 1024 most real_codec s (lent m b w) t e ≡ out s (lent m b w) (Refused ImportAlreadyStarted) []
    unfolding do_import_begin
    begin_open h = if_true _ _ _ h

    pub begin_over : importing s.block ≡ false → most < s.count.0 * 65536 + t → do_import_begin 16384 65536 8 1024 most real_codec s (lent m b w) t e ≡ out s (lent m b w) (Refused OffsetOverflow) []
    unfolding do_import_begin
    begin_over h g = if_false _ _ _ h ∙ if_true _ _ _ (lt-ltb _ _ g)

    pub begin_done : importing s.block ≡ false → s.count.0 * 65536 + t ≤ most
        → do_import_begin 16384 65536 8 1024 most real_codec s (lent m b w) t e ≡ out_of (restore_to s m (after_import_begin t e (s.count.0 * 65536) s.block) Done) b w
    unfolding do_import_begin
    begin_done h g = if_false _ _ _ h ∙ if_false _ _ _ (le-ltb _ _ g) ∙ restore_is _ _

  pub cancel_none : importing s.block ≡ false → do_import_cancel 16384 65536 8 1024 most real_codec s (lent m b w) ≡ out s (lent m b w) (Refused ImportNotStarted) []
  unfolding do_import_cancel
  cancel_none h = if_true _ _ _ (ap not h)

  pub cancel_done : importing s.block ≡ true → do_import_cancel 16384 65536 8 1024 most real_codec s (lent m b w) ≡ out_of (restore_to s m (after_import_cancel s.block) Done) b w
  unfolding do_import_cancel
  cancel_done h = if_false _ _ _ (ap not h) ∙ restore_is _ _

  pub checksum_done : do_checksum 16384 65536 8 1024 most real_codec s (lent m b w) ≡ out s (lent m b w) (Checksum (image_sum 16384 65536 8 1024 most real_codec s.block m)) []
  unfolding do_checksum
  checksum_done = refl

  pub refresh_done : (x : ℕ) → x ≡ image_sum 16384 65536 8 1024 most real_codec s.block m
      → do_refresh 16384 65536 8 1024 most real_codec s (lent m b w) ≡ out_of (restore_to s m (after_refresh x s.block) (Checksum x)) b w
  unfolding do_refresh
  refresh_done x e = ap (λ (y : ℕ). restore 16384 65536 8 1024 most real_codec s (lent m b w) (after_refresh y s.block) (Checksum y)) (sym e) ∙ restore_is _ _

  pub export_done : (o n : ℕ) (d : List ℕ) → n ≡ min (length d) (s.block.db_size - o)
      → do_export 16384 65536 8 1024 most real_codec s (lent m b w) o d ≡ out s (lent m b w) (Exported n) (overwrite 0 (tabulate_from o n (image_in 16384 (image_of s.block) m)) d)
  unfolding do_export
  export_done o n d e =
      ap (λ (y : ℕ). out s (lent m b w) (Exported y) (overwrite 0 (image_bytes 16384 65536 8 1024 most real_codec s.block m o y) d)) (sym e)
      ∙ ap (λ (l : List ℕ). out s (lent m b w) (Exported n) (overwrite 0 l d)) (bytes_are s.block m o n)

  -- the checksum of what was imported
  abbrev pub imported : ℕ
  imported = fnv1a64 (take s.block.import_total_size (drop s.block.import_base_offset m))

  pub finish_none : importing s.block ≡ false → do_import_finish 16384 65536 8 1024 most real_codec s (lent m b w) ≡ out s (lent m b w) (Refused ImportNotStarted) []
  unfolding do_import_finish
  finish_none h = if_true _ _ _ (ap not h)

  module _ (h : importing s.block ≡ true) where
    pub finish_incomplete : (s.block.import_written_until ≡ s.block.import_total_size → ⊥)
        → do_import_finish 16384 65536 8 1024 most real_codec s (lent m b w) ≡ out s (lent m b w) (Refused ImportIncomplete) []
    unfolding do_import_finish
    finish_incomplete g = if_false _ _ _ (ap not h) ∙ if_true _ _ _ (ap not (ne_eqb _ _ g))

    -- with this checksum of what was imported
    abbrev finish_with : ℕ → Out
    finish_with x =
        cond (not (eqb x s.block.import_expected_checksum))
        (restore 16384 65536 8 1024 most real_codec s (lent m b w) (after_import_cancel s.block) (Refused (ChecksumMismatch s.block.import_expected_checksum x)))
        (out (onward s s.count.0 (sealed real_codec (after_import_finish 16384 x s.block) [])) (lent (stored real_codec (after_import_finish 16384 x s.block) [] m) b w) Done [])

    module _ (g : s.block.import_written_until ≡ s.block.import_total_size) (x : ℕ) (e : x ≡ imported) where
      finish_with_lem : do_import_finish 16384 65536 8 1024 most real_codec s (lent m b w) ≡ finish_with x
      unfolding do_import_finish real_codec fnv1a64
      finish_with_lem = if_false _ _ _ (ap not h) ∙ if_false _ _ _ (ap not (eq-eqb _ _ g)) ∙ ap finish_with (sym e)

      pub finish_wrong : (x ≡ s.block.import_expected_checksum → ⊥)
          → do_import_finish 16384 65536 8 1024 most real_codec s (lent m b w)
          ≡ out_of (restore_to s m (after_import_cancel s.block) (Refused (ChecksumMismatch s.block.import_expected_checksum x))) b w
      finish_wrong f = finish_with_lem ∙ if_true _ _ _ (ap not (ne_eqb _ _ f)) ∙ restore_is _ _

      pub finish_done : x ≡ s.block.import_expected_checksum
          → do_import_finish 16384 65536 8 1024 most real_codec s (lent m b w)
          ≡ out_of (step_out (step (onward s s.count.0 (seal (after_import_finish 16384 x s.block) [])) Done) (store_in (after_import_finish 16384 x s.block) [] m)) b w
      finish_done f = finish_with_lem ∙ if_false _ _ _ (ap not (eq-eqb _ _ f))
          ∙ (λ j. out (onward s s.count.0 (real_sealed (after_import_finish 16384 x s.block) [] j)) (lent (real_stored (after_import_finish 16384 x s.block) [] m j) b w) Done [])

  -- ### A chunk

  pub place_is : (o : ℕ) (bs g : List ℕ) (r : Growth) → place_chunk 16384 65536 8 1024 most real_codec s (lent m b w) o bs g r ≡ out_of (place_to s m o bs g r) b w
  place_is o bs g (Err r) = refl
  place_is o bs g (Ok c) = place_grown o bs g c

  module _ (o : ℕ) (bs : List ℕ) where
    pub chunk_none : importing s.block ≡ false → do_import_chunk 16384 65536 8 1024 most real_codec s (lent m b w) o bs ≡ out s (lent m b w) (Refused ImportNotStarted) []
    unfolding do_import_chunk
    chunk_none h = if_true _ _ _ (ap not h)

    module _ (h : importing s.block ≡ true) where
      pub chunk_order : (o ≡ s.block.import_written_until → ⊥) → do_import_chunk 16384 65536 8 1024 most real_codec s (lent m b w) o bs ≡ out s (lent m b w) (Refused ImportOutOfOrder) []
      unfolding do_import_chunk
      chunk_order g = if_false _ _ _ (ap not h) ∙ if_true _ _ _ (ap not (ne_eqb _ _ g))

      module _ (g : o ≡ s.block.import_written_until) where
        pub chunk_over : most < o + length bs → do_import_chunk 16384 65536 8 1024 most real_codec s (lent m b w) o bs ≡ out s (lent m b w) (Refused OffsetOverflow) []
        unfolding do_import_chunk
        chunk_over k = if_false _ _ _ (ap not h) ∙ if_false _ _ _ (ap not (eq-eqb _ _ g)) ∙ if_true _ _ _ (lt-ltb _ _ k)

        module _ (k : o + length bs ≤ most) where
          pub chunk_bounds : s.block.import_total_size < o + length bs → do_import_chunk 16384 65536 8 1024 most real_codec s (lent m b w) o bs ≡ out s (lent m b w) (Refused ImportOutOfBounds) []
          unfolding do_import_chunk
          chunk_bounds i = if_false _ _ _ (ap not h) ∙ if_false _ _ _ (ap not (eq-eqb _ _ g)) ∙ if_false _ _ _ (le-ltb _ _ k) ∙ if_true _ _ _ (lt-ltb _ _ i)

          module _ (i : o + length bs ≤ s.block.import_total_size) where
            pub chunk_past : most < s.block.import_base_offset + (o + length bs) → do_import_chunk 16384 65536 8 1024 most real_codec s (lent m b w) o bs ≡ out s (lent m b w) (Refused OffsetOverflow) []
            unfolding do_import_chunk
            chunk_past j = if_false _ _ _ (ap not h) ∙ if_false _ _ _ (ap not (eq-eqb _ _ g)) ∙ if_false _ _ _ (le-ltb _ _ k) ∙ if_false _ _ _ (le-ltb _ _ i) ∙ if_true _ _ _ (lt-ltb _ _ j)

            pub chunk_placed : s.block.import_base_offset + (o + length bs) ≤ most → do_import_chunk 16384 65536 8 1024 most real_codec s (lent m b w) o bs ≡ out_of (chunk_to s m o bs) b w
            unfolding do_import_chunk chunk_to
            chunk_placed j = if_false _ _ _ (ap not h) ∙ if_false _ _ _ (ap not (eq-eqb _ _ g)) ∙ if_false _ _ _ (le-ltb _ _ k) ∙ if_false _ _ _ (le-ltb _ _ i) ∙ if_false _ _ _ (le-ltb _ _ j) ∙ place_is o bs (grow_to 65536 s.count.0 (chunk_reach s.block.import_base_offset (o + length bs) (length bs)) m).mem (grow_to 65536 s.count.0 (chunk_reach s.block.import_base_offset (o + length bs) (length bs)) m).growth

  -- ### A step of a refresh

  abbrev come : ℕ → ℕ → Out
  come end sum = cond (eqb end s.block.db_size)
      (restore 16384 65536 8 1024 most real_codec s (lent m b w) (after_refresh sum s.block) (progress 16384 65536 8 1024 most real_codec true sum end s.block.db_size))
      (restore 16384 65536 8 1024 most real_codec s (lent m b w) (after_refresh_step end sum s.block) (progress 16384 65536 8 1024 most real_codec false sum end s.block.db_size))

  come_is : (t : Bool) (end sum size : ℕ)
      → cond t (restore 16384 65536 8 1024 most real_codec s (lent m b w) (after_refresh sum s.block) (progress 16384 65536 8 1024 most real_codec true sum end size))
      (restore 16384 65536 8 1024 most real_codec s (lent m b w) (after_refresh_step end sum s.block) (progress 16384 65536 8 1024 most real_codec false sum end size))
      ≡ out_of (cond t (restore_to s m (after_refresh sum s.block) (Refreshed (record { complete = t; checksum = sum; scanned_bytes = end; db_size = size })))
      (restore_to s m (after_refresh_step end sum s.block) (Refreshed (record { complete = t; checksum = sum; scanned_bytes = end; db_size = size })))) b w
  come_is true end sum size = restore_is _ _
  come_is false end sum size = restore_is _ _

  from_is : (n from x : ℕ) → refresh_from 16384 65536 8 1024 most real_codec s (lent m b w) n from x ≡ out_of (refresh_to s m s.block n from x) b w
  unfolding refresh_from refresh_to real_codec
  from_is n from x =
      let end : ℕ = max from (min s.block.db_size (from + n)) in
      let sum : ℕ = fold x (tabulate_from from (end - from) (image_in 16384 (image_of s.block) m)) in
      ap (λ (l : List ℕ). come end (fold x l)) (bytes_are s.block m from (end - from)) ∙ come_is (eqb end s.block.db_size) end sum s.block.db_size

  either_is : (t : Bool) (n from x : ℕ) → cond t (refresh_from 16384 65536 8 1024 most real_codec s (lent m b w) n from x) (refresh_from 16384 65536 8 1024 most real_codec s (lent m b w) n 0 basis)
      ≡ out_of (cond t (refresh_to s m s.block n from x) (refresh_to s m s.block n 0 basis)) b w
  either_is true n from x = from_is n from x
  either_is false n from x = from_is n 0 basis

  module _ (n : ℕ) where
    pub step_empty : n ≡ 0 → do_refresh_step 16384 65536 8 1024 most real_codec s (lent m b w) n ≡ out s (lent m b w) (Refused ChecksumRefreshChunkEmpty) []
    unfolding do_refresh_step
    step_empty z = if_true _ _ _ (eq-eqb _ _ z)

    module _ (z : n ≡ 0 → ⊥) where
      pub step_importing : importing s.block ≡ true → do_refresh_step 16384 65536 8 1024 most real_codec s (lent m b w) n ≡ out s (lent m b w) (Refused ImportAlreadyStarted) []
      unfolding do_refresh_step
      step_importing h = if_false _ _ _ (ne_eqb _ _ z) ∙ if_true _ _ _ h

      pub step_done : importing s.block ≡ false → do_refresh_step 16384 65536 8 1024 most real_codec s (lent m b w) n ≡ out_of (refresh_step_to s m s.block n) b w
      unfolding do_refresh_step refresh_step_to real_codec
      step_done h = if_false _ _ _ (ne_eqb _ _ z) ∙ if_false _ _ _ h
          ∙ either_is (refreshing s.block && eqb s.block.checksum_refresh_tx_id s.block.last_tx_id) n s.block.checksum_refresh_offset s.block.checksum_refresh_hash
