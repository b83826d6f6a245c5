-- 01's opening by its ways out: an image that it accepts is in order, the fresh one included, and only a fresh one is stored by it.
use Rattle.std.specs.Prelude.{◌≡◌, ℕ, ◌+◌, ◌*◌, ◌≤◌, ◌<◌, ◌||◌, List, [], eqb, length, Ok, Err}
use Rattle.std.proofs.Math.Path.{refl, ap}
use Rattle.std.proofs.Common.{sym, ◌∙◌, mul-le-mul_right, pos_of_ne-zero, one-mul, arith}
use Rattle.std.proofs.Math.Bool.{Bool, true, false}
use Rattle.std.proofs.Math.Dec.{ltb}
use borrow.Author.Tests.{ltb-false, eqb-true, eqb-false}
use Rattle.config.specs.declared.refusal.Refusal.{Refusal}
use Rattle.config.specs.declared.refusal.Refusal.TheVariants.{ForeignStableMemoryImage, UnsupportedLayoutVersion, MetaChecksumMismatch, ImageOutOfMemory, ImportAlreadyStarted, ImportNotStarted, UpdateInProgress, UpdateBegunTwice, OffsetOverflow, ImportOutOfOrder, ImportOutOfBounds, ImportIncomplete, ChecksumMismatch, ChecksumRefreshChunkEmpty, BudgetExceeded, ZeroExtentLimitExceeded, GrowFailed, FramesFull, RecordFull, BufferTooShort}
use Rattle.config.specs.Refusals.{numbers_of}
use Rattle.config.specs.Pages.{count}
use Rattle.memory.specs.Growth.{stable}
use Rattle.meta.specs.declared.superblock.Superblock.{Superblock}
use Rattle.meta_load.specs.Load.{Loaded}
use Rattle.words.specs.Words.{Bytes}
use Rattle.meta.specs.Runs.{normalized_nil}
use Rattle.update.specs.ListLaws.{clash}
use Rattle.store.specs.Answers.{Done}
use Rattle.store.specs.Codec.{Codec, sealed, stored}
use Rattle.store.specs.Blocks.{importing}
use Rattle.store.proofs.BlockLaws.{seal_importing}
use Rattle.store.specs.Calls.{number}
use Rattle.store.specs.Store.{resting, no_overlay}
use Rattle.store.specs.Opening.{Opened, outside, not_opened, open_fresh, open_loaded, open_image}
use Rattle.store.specs.Lawful.{Fits, LoadedAs, Lawful, Good}
use Rattle.store.proofs.MemoryLaws.{grow_cases, stored-length}
use Rattle.store.specs.Facts.{Reaches}
use Rattle.store.specs.Cases.{by_test, no_or}

-- a refusal has a number
pub refusal_number : (r : Refusal) → (numbers_of r).number ≡ 0 → ⊥
refusal_number ForeignStableMemoryImage e = omega arith
refusal_number (UnsupportedLayoutVersion v) e = omega arith
refusal_number MetaChecksumMismatch e = omega arith
refusal_number ImageOutOfMemory e = omega arith
refusal_number ImportAlreadyStarted e = omega arith
refusal_number ImportNotStarted e = omega arith
refusal_number UpdateInProgress e = omega arith
refusal_number UpdateBegunTwice e = omega arith
refusal_number OffsetOverflow e = omega arith
refusal_number ImportOutOfOrder e = omega arith
refusal_number ImportOutOfBounds e = omega arith
refusal_number ImportIncomplete e = omega arith
refusal_number (ChecksumMismatch x y) e = omega arith
refusal_number ChecksumRefreshChunkEmpty e = omega arith
refusal_number BudgetExceeded e = omega arith
refusal_number ZeroExtentLimitExceeded e = omega arith
refusal_number (GrowFailed x y) e = omega arith
refusal_number FramesFull e = omega arith
refusal_number RecordFull e = omega arith
refusal_number BufferTooShort e = omega arith

module _ (P S C L M : ℕ) (k : Codec) (spos : 0 < S) (n : ℕ) (m : List ℕ) where
  -- the image that is there, with this block
  abbrev there : Superblock → Opened
  there b = record { state = resting n b (no_overlay P S C L M k); answer = Done; mem = m }

  -- 01's opening by its ways out: refused, a fresh image, or one that is there
  module _ (Q : Opened → Type 0) (no : (c : ℕ) → c ≡ n → (r : Refusal) → Q (not_opened P S C L M k c m r))
      (made : n ≡ 0 → (r : ℕ) (g : List ℕ) → Reaches S 0 S m r g → Q (open_fresh P S C L M k m g (Ok (stable r))))
      (found : (n ≡ 0 → ⊥) → n * S ≤ length m → (b : Superblock) → k.load m ≡ Ok b → outside P S C L M k n b ≡ false → Q (there b)) where
    loaded_cases : (n ≡ 0 → ⊥) → n * S ≤ length m → (x : Loaded) → k.load m ≡ x → Q (open_loaded P S C L M k n m x)
    loaded_cases some held (Err r) e = no n refl r
    loaded_cases some held (Ok b) e = by_test Q (outside P S C L M k n b) _ _ (λ t. no n refl ImageOutOfMemory) (λ f. found some held b e f)

    pub image_cases : Q (open_image P S C L M k n m)
    unfolding open_image
    image_cases = by_test Q (ltb (length m) (n * S)) _ _
        (λ t. no n refl BufferTooShort)
        (λ f. by_test Q (eqb n 0) _ _
        (λ z. grow_cases S spos 0 S m (omega arith) (λ g m'. Q (open_fresh P S C L M k m m' g))
        (λ r m' q c. made (eqb-true n 0 z) r m' q)
        (λ c. no 0 (sym (eqb-true n 0 z)) (GrowFailed (stable 0) (stable (count S S)))))
        (λ z. loaded_cases (eqb-false n 0 z) (ltb-false (length m) (n * S) f) (k.load m) refl))

  -- an image that is there stays as it is, with the count that is given
  pub image_mem : (n ≡ 0 → ⊥) → (open_image P S C L M k n m).mem ≡ m
  image_mem some = image_cases (λ x. x.mem ≡ m) (λ c e r. refl) (λ z r g q. absurd (some z)) (λ h held b e f. refl)

  pub image_count_lem : (n ≡ 0 → ⊥) → (open_image P S C L M k n m).state.count.0 ≡ n
  image_count_lem some = image_cases (λ x. x.state.count.0 ≡ n) (λ c e r. e) (λ z r g q. absurd (some z)) (λ h held b e f. refl)

module _ (P S C L M : ℕ) (k : Codec) (spos : 0 < S) (laws : Lawful S L M k) where
  pub record Opens (x : Opened) : Type 0 where
    pub idle : x.state.updating ≡ false
    pub good : Good S L M k x.state.count.0 x.state.block x.mem

  abbrev Fine : Opened → Type 0
  Fine x = number x.answer ≡ 0 → Opens x

  fresh_fits : Fits L M k.fresh []
  fresh_fits = record { few = omega arith; counted = laws.fresh_count; size = omega (arith, laws.fresh_size); base = omega (arith, laws.fresh_base, laws.room); ends = tt; sorted = normalized_nil }

  fresh_good : (m : List ℕ) (r : ℕ) (g : List ℕ) → Reaches S 0 S m r g → Good S L M k r (sealed k k.fresh []) (stored k k.fresh [] g)
  fresh_good m r g q =
      let l : S ≤ length g = omega (arith, q.reach, q.lent, q.same_length) in
      let no : importing (sealed k k.fresh []) ≡ false = seal_importing (k.sum k.fresh []) k.fresh ∙ laws.fresh_import in
      let rs : k.runs_in k.fresh.zero_extent_count (stored k k.fresh [] g) ≡ [] = ap (λ (n : ℕ). k.runs_in n (stored k k.fresh [] g)) laws.fresh_count ∙ laws.runs_is k.fresh [] g fresh_fits l in
      record {
        size_is = laws.size_is k.fresh [] g fresh_fits l;
        base_is = laws.base_is k.fresh [] g fresh_fits l;
        count_is = laws.count_is k.fresh [] g fresh_fits l ∙ sym laws.fresh_count;
        counted = ap length rs ∙ sym laws.fresh_count;
        few = omega (arith, laws.fresh_count);
        sorted = rw rs normalized_nil;
        ends = rw rs tt;
        base_low = omega (arith, laws.fresh_base);
        inside = omega (arith, laws.fresh_base, laws.fresh_size, q.reach);
        range = omega (arith, laws.fresh_base, laws.fresh_size, laws.room);
        lent = omega (arith, stored-length S L M k laws k.fresh [] fresh_fits g, q.lent, q.same_length);
        import_low = λ y. clash y no;
        import_inside = λ y. clash y no;
        import_range = λ y. clash y no;
      }

  module _ (n : ℕ) (m : List ℕ) (bytes : Bytes m) (most : length m ≤ M) (held : n * S ≤ length m) where
    loaded_good : (b : Superblock) → S ≤ length m → k.load m ≡ Ok b → outside P S C L M k n b ≡ false → Good S L M k n b m
    unfolding outside
    loaded_good b l e t =
        let q : LoadedAs L M k b m = laws.loads b m bytes l e in
        let at : (f : Superblock → ℕ) → f (k.decode m) ≡ f b = λ f. ap f q.decoded in
        let t1 = no_or (ltb b.db_base_offset S) _ t in
        let t2 = no_or (ltb (n * S) (b.db_base_offset + b.db_size)) _ t1.1 in
        let lo : S ≤ b.db_base_offset = ltb-false b.db_base_offset S t1.0 in
        let hi : b.db_base_offset + b.db_size ≤ n * S = ltb-false (n * S) (b.db_base_offset + b.db_size) t2.0 in
        let I1 : Bool = ltb b.import_base_offset S in
        let I2 : Bool = ltb (n * S) (b.import_base_offset + b.import_written_until) in
        let I3 : Bool = ltb b.import_total_size b.import_written_until in
        let I4 : Bool = ltb M (b.import_base_offset + b.import_total_size) in
        let im : importing b ≡ true → (I1 || (I2 || (I3 || I4))) ≡ false = λ y. rw y at t2.1 in
        let i2 : importing b ≡ true → (I2 || (I3 || I4)) ≡ false = λ y. (no_or I1 (I2 || (I3 || I4)) (im y)).1 in
        record {
          size_is = at (λ x. x.db_size);
          base_is = at (λ x. x.db_base_offset);
          count_is = at (λ x. x.zero_extent_count);
          counted = q.counted;
          few = q.few;
          sorted = q.sorted;
          ends = q.ends;
          base_low = lo;
          inside = hi;
          range = omega arith;
          lent = held;
          import_low = λ y. ltb-false b.import_base_offset S (no_or I1 (I2 || (I3 || I4)) (im y)).0;
          import_inside = λ y. ltb-false (n * S) (b.import_base_offset + b.import_written_until) (no_or I2 (I3 || I4) (i2 y)).0;
          import_range = λ y. ltb-false M (b.import_base_offset + b.import_total_size) (no_or I3 I4 (no_or I2 (I3 || I4) (i2 y)).1).1;
        }

  -- every image that 01's opening accepts is in order
  pub image_opens : (n : ℕ) (m : List ℕ) → Bytes m → length m ≤ M → number (open_image P S C L M k n m).answer ≡ 0 → Opens (open_image P S C L M k n m)
  image_opens n m bytes most = image_cases P S C L M k spos n m Fine
      (λ c e r h. absurd (refusal_number r h))
      (λ z r g q h. record { idle = refl; good = fresh_good m r g q })
      (λ some held b e f h. let one : 1 ≤ n = pos_of_ne-zero some in
      record { idle = refl; good = loaded_good n m bytes most held b (omega (arith, mul-le-mul_right S one, one-mul S)) e f })
