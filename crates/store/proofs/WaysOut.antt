-- A call by its ways out: 35, 10 of a direct call while an import is open, and what the call itself does.
use Rattle.std.specs.Prelude.{◌≡◌, refl, ℕ, Bool, true, false, not, ◌&&◌, List}
use Rattle.std.proofs.Common.{ap, ◌∙◌}
use Rattle.std.proofs.Math.Bool.{and-false}
use Rattle.config.specs.declared.refusal.Refusal.TheVariants.{ImportAlreadyStarted, BufferTooShort}
use Rattle.memory.specs.Laws.{split}
use Rattle.update.specs.ListLaws.{clash}
use Rattle.store.specs.declared.State.{State}
use Rattle.store.specs.Codec.{Codec}
use Rattle.store.specs.Blocks.{importing}
use Rattle.store.specs.Calls.{Call, begin, read, write, truncate, commit, rollback, file_size, import_begin, import_chunk, import_finish, import_cancel, export, checksum, refresh, refresh_step, Lent, Out, uses, short}
use Rattle.store.specs.Store.{changes, import_bars, barred, refuse, act, swept, store}
use Rattle.store.specs.Cases.{by_test}
use Rattle.store.specs.Facts.{Barred}

-- ## Which calls are barred

all_three : (a b c : Bool) → (a && (not b && c)) ≡ true → (a ≡ true) × (b ≡ false) × (c ≡ true)
all_three true true c h = clash h refl
all_three true false c h = (refl, refl, h)
all_three false b c h = clash h refl

module _ (s : State) (c : Call) where
  pub barred_is : barred s c ≡ true → Barred s c
  barred_is h =
      let q : (changes c ≡ true) × (s.updating ≡ false) × (importing s.block ≡ true) = all_three (changes c) s.updating (importing s.block) h in
      record { direct = q.1; importing_is = q.2; changes_is = q.0 }

  -- none in an update, and none without an import
  pub update_free : s.updating ≡ true → barred s c ≡ false
  update_free u = ap (λ (t : Bool). changes c && (not t && importing s.block)) u ∙ and-false (changes c)

  pub import_free : importing s.block ≡ false → barred s c ≡ false
  import_free n = ap (λ (t : Bool). changes c && (not s.updating && t)) n ∙ ap (λ (t : Bool). changes c && t) (and-false (not s.updating)) ∙ and-false (changes c)

-- only a write or a truncation changes the file
pub only_changes : (Q : Call → Type 0) → ((o : ℕ) (bs : List ℕ) → Q (write o bs)) → ((n : ℕ) → Q (truncate n)) → (c : Call) → changes c ≡ true → Q c
only_changes Q f g (begin l p b) e = clash e refl
only_changes Q f g (read o d) e = clash e refl
only_changes Q f g (write o bs) e = f o bs
only_changes Q f g (truncate n) e = g n
only_changes Q f g commit e = clash e refl
only_changes Q f g rollback e = clash e refl
only_changes Q f g file_size e = clash e refl
only_changes Q f g (import_begin t x) e = clash e refl
only_changes Q f g (import_chunk o bs) e = clash e refl
only_changes Q f g import_finish e = clash e refl
only_changes Q f g import_cancel e = clash e refl
only_changes Q f g (export o d) e = clash e refl
only_changes Q f g checksum e = clash e refl
only_changes Q f g refresh e = clash e refl
only_changes Q f g (refresh_step n) e = clash e refl

-- none of the calls that are lent no work list
no_work : (c : Call) → (uses c).work? ≡ false → changes c ≡ false
no_work c e = split (changes c) (λ t. clash (only_changes (λ b. (uses b).work? ≡ true) (λ o bs. refl) (λ n. refl) c t) e) (λ f. f)

pub work_free : (s : State) (c : Call) → (uses c).work? ≡ false → barred s c ≡ false
work_free s c e = ap (λ (t : Bool). t && import_bars s) (no_work c e)

-- ## The ways out

module _ (P S C L M : ℕ) (k : Codec) (s : State) (l : Lent) (c : Call) where
  abbrev done : Out
  done = swept P S C L M k (uses c).work? (act P S C L M k s l c)

  pub store_cases : (Q : Out → Type 0)
      → (short P S C L s l c ≡ true → Q (refuse s l c BufferTooShort))
      → (short P S C L s l c ≡ false → barred s c ≡ true → Q (refuse s l c ImportAlreadyStarted))
      → (short P S C L s l c ≡ false → barred s c ≡ false → Q done)
      → Q (store P S C L M k s l c)
  unfolding store
  store_cases Q f g h = by_test Q (short P S C L s l c) _ _ f (λ e. by_test Q (barred s c) _ _ (g e) (h e))

  -- "with nothing changed, lent frames and lists included": state and slices are those of before
  pub store_short : short P S C L s l c ≡ true → store P S C L M k s l c ≡ refuse s l c BufferTooShort
  store_short e = store_cases (λ x. x ≡ refuse s l c BufferTooShort) (λ t. refl) (λ f b. clash e f) (λ f b. clash e f)

  pub store_barred : short P S C L s l c ≡ false → barred s c ≡ true → store P S C L M k s l c ≡ refuse s l c ImportAlreadyStarted
  store_barred e b = store_cases (λ x. x ≡ refuse s l c ImportAlreadyStarted) (λ t. clash t e) (λ f q. refl) (λ f q. clash b q)

  pub store_done : short P S C L s l c ≡ false → barred s c ≡ false → store P S C L M k s l c ≡ done
  store_done e b = store_cases (λ x. x ≡ done) (λ t. clash t e) (λ f q. clash q b) (λ f q. refl)
