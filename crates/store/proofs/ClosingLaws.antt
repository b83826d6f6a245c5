-- Opening as a whole (02, W-202): answered as 01's opening, and left as it leaves the image, but that no import is open.
use Rattle.std.specs.Prelude.{◌≡◌, ℕ, ◌*◌, ◌≤◌, ◌<◌, Bool, false, not, ◌||◌, length}
use Rattle.std.proofs.Math.Path.{refl, sym, ap, subst}
use Rattle.std.proofs.Common.{◌∙◌, arith, le-ltb}
use Rattle.std.proofs.Math.Bool.{true, cond}
use mathlib.Core.List.{List, []}
use Rattle.std.proofs.Math.ListN.{get_or}
use Rattle.config.specs.declared.StablePages.{StablePages}
use Rattle.config.specs.declared.refusal.Refusal.{Refusal}
use Rattle.config.specs.declared.refusal.Refusal.TheVariants.{ImportNotStarted, BufferTooShort}
use Rattle.memory.specs.Laws.{split, overwrite_hi}
use Rattle.meta.specs.declared.superblock.Superblock.{Superblock}
use Rattle.meta.specs.declared.ZeroExtent.{ZeroExtent}
use Rattle.words.specs.Words.{Bytes}
use Rattle.update.specs.ListLaws.{clash}
use Rattle.update.specs.Buffers.{Buffers}
use Rattle.store.specs.declared.State.{State}
use Rattle.store.specs.Answers.{Done, Refused}
use Rattle.store.specs.Codec.{Codec, sealed, stored}
use Rattle.store.specs.Blocks.{importing, after_import_cancel}
use Rattle.store.proofs.BlockLaws.{after_cancel, seal_importing}
use Rattle.store.specs.Calls.{import_cancel, Lent, out, number, mode_if, short}
use Rattle.store.specs.Store.{refuse, runs_of, restore, do_import_cancel, alone, act, store}
use Rattle.store.specs.Opening.{Opened, memory_alone, opened_by, not_opened, open_image, closing, closing_marked, closing_unmarked, open'}
use Rattle.store.specs.Lawful.{Lawful, Good}
use Rattle.store.proofs.MemoryLaws.{stored_long}
use Rattle.store.proofs.OpeningLaws.{Opens, image_cases, image_count_lem, image_opens}
use Rattle.store.proofs.RestoreLaws.{cancel_carries, restore_good}
use Rattle.store.specs.Facts.{Accepts}

module _ (P S C L M : ℕ) (k : Codec) where
  -- ## The cancel

  -- the block of x without its import, and the runs that are stored with it
  abbrev pub block_after : Opened → Superblock
  block_after x = after_import_cancel x.state.block

  abbrev pub runs_after : Opened → List ZeroExtent
  runs_after x = runs_of P S C L M k (block_after x) x.mem

  -- y is x with its import closed
  pub record Closes (x y : Opened) : Type 0 where
    pub block : y.state.block ≡ sealed k (block_after x) (runs_after x)
    pub mem : y.mem ≡ stored k (block_after x) (runs_after x) x.mem
    pub count : y.state.count ≡ x.state.count
    pub idle : y.state.updating ≡ false
    pub answer : y.answer ≡ Done

  module _ (s : State) (l : Lent) (held : s.count.0 * S ≤ length l.mem) (idle : s.updating ≡ false) (mark : importing s.block ≡ true) where
    cancel_acts : store P S C L M k s l import_cancel ≡ do_import_cancel P S C L M k s l
    unfolding store short
    cancel_acts =
        ap (λ (t : Bool). cond (t || false) (refuse s l import_cancel BufferTooShort) (act P S C L M k s l import_cancel)) (le-ltb (length l.mem) (s.count.0 * S) held)
        ∙ ap (λ (t : Bool). alone P S C L M k s l import_cancel (do_import_cancel P S C L M k s l) (mode_if t s.overlay)) idle

    cancel_restores : store P S C L M k s l import_cancel ≡ restore P S C L M k s l (after_import_cancel s.block) Done
    unfolding do_import_cancel
    cancel_restores = cancel_acts ∙ ap (λ (t : Bool). cond (not t) (out s l (Refused ImportNotStarted) []) (restore P S C L M k s l (after_import_cancel s.block) Done)) mark

  module _ (x : Opened) (a : Accepts S x) (mark : importing x.state.block ≡ true) where
    closed_by : (l : Lent) → l.mem ≡ x.mem → store P S C L M k x.state l import_cancel ≡ restore P S C L M k x.state l (block_after x) Done
    closed_by l e = cancel_restores x.state l (omega (arith, a.held, ap length e)) a.idle mark

    closes : Closes x (closing P S C L M k x)
    unfolding restore
    closes =
        subst (Closes x) (sym (closing_marked P S C L M k x mark ∙ ap opened_by (closed_by (memory_alone x.mem) refl)))
        (record { block = refl; mem = refl; count = refl; idle = a.idle; answer = refl })

    -- whatever else the caller of a cancel has
    closes_alike : (b : Buffers) (w : List ℕ) → closing P S C L M k x ≡ opened_by (store P S C L M k x.state (record { mem = x.mem; bufs = b; work = w }) import_cancel)
    unfolding restore
    closes_alike b w =
        closing_marked P S C L M k x mark ∙ ap opened_by (closed_by (memory_alone x.mem) refl) ∙ sym (ap opened_by (closed_by (record { mem = x.mem; bufs = b; work = w }) refl))

    closed_unmarked : importing (closing P S C L M k x).state.block ≡ false
    closed_unmarked = ap importing closes.block ∙ seal_importing (k.sum (block_after x) (runs_after x)) (block_after x) ∙ after_cancel x.state.block

  -- ## A refused opening

  no_mark : (c : ℕ) (m : List ℕ) (r : Refusal) → importing (not_opened P S C L M k c m r).state.block ≡ false
  unfolding importing
  no_mark c m r = refl

  stays_refused : (c : ℕ) (m : List ℕ) (r : Refusal) → closing P S C L M k (not_opened P S C L M k c m r) ≡ not_opened P S C L M k c m r
  stays_refused c m r = closing_unmarked P S C L M k (not_opened P S C L M k c m r) (no_mark c m r)

  module _ (spos : 0 < S) (n : ℕ) (m : List ℕ) where
    -- 01's opening, refused or accepted
    either : (Q : Opened → Type 0) → ((c : ℕ) (r : Refusal) → Q (not_opened P S C L M k c m r)) → ((x : Opened) → Accepts S x → Q x) → Q (open_image P S C L M k n m)
    either Q refused accepted = image_cases P S C L M k spos n m Q
        (λ c e r. refused c r)
        (λ z r g q. accepted _ (record { done = refl; idle = refl; held = omega (arith, q.lent, q.same_length, stored_long k k.fresh [] g) }))
        (λ some held b e f. accepted _ (record { done = refl; idle = refl; held = held }))

    -- ## Opening

    abbrev first : Opened
    first = open_image P S C L M k n m

    -- 02: "Images without the mark open as before."
    pub open_unmarked : importing first.state.block ≡ false → open' P S C L M k n m ≡ first
    unfolding open'
    open_unmarked e = closing_unmarked P S C L M k first e

    abbrev AsCall : Opened → Type 0
    AsCall x = importing x.state.block ≡ true → (b : Buffers) (w : List ℕ)
        → closing P S C L M k x ≡ opened_by (store P S C L M k x.state (record { mem = x.mem; bufs = b; work = w }) import_cancel)

    -- 02: "closes it as `cancel_import` would", whatever else the caller of that has
    pub open_marked : importing first.state.block ≡ true → (b : Buffers) (w : List ℕ)
        → open' P S C L M k n m ≡ opened_by (store P S C L M k first.state (record { mem = first.mem; bufs = b; work = w }) import_cancel)
    unfolding open'
    open_marked = either AsCall (λ c r e b w. absurd (clash e (no_mark c m r))) (λ x a e b w. closes_alike x a e b w)

    -- it is answered as by 01's checks
    pub open_answer : (open' P S C L M k n m).answer ≡ first.answer
    unfolding open'
    open_answer = either (λ x. (closing P S C L M k x).answer ≡ x.answer)
        (λ c r. ap (λ (x : Opened). x.answer) (stays_refused c m r))
        (λ x a. split (importing x.state.block)
        (λ t. (closes x a t).answer ∙ sym a.done)
        (λ f. ap (λ (y : Opened). y.answer) (closing_unmarked P S C L M k x f)))

    pub open_count : (open' P S C L M k n m).state.count ≡ first.state.count
    unfolding open'
    open_count = either (λ x. (closing P S C L M k x).state.count ≡ x.state.count)
        (λ c r. ap (λ (x : Opened). x.state.count) (stays_refused c m r))
        (λ x a. split (importing x.state.block)
        (λ t. (closes x a t).count)
        (λ f. ap (λ (y : Opened). y.state.count) (closing_unmarked P S C L M k x f)))

    -- 01: "Opening is given that count"
    pub count_given : (n ≡ 0 → ⊥) → (open' P S C L M k n m).state.count.0 ≡ n
    count_given h = ap (λ (c : StablePages). c.0) open_count ∙ image_count_lem P S C L M k spos n m h

    -- 01: refused with "memory unchanged"
    pub refused_unchanged : (number (open' P S C L M k n m).answer ≡ 0 → ⊥) → (open' P S C L M k n m).mem ≡ m
    unfolding open'
    refused_unchanged = either (λ x. (number (closing P S C L M k x).answer ≡ 0 → ⊥) → (closing P S C L M k x).mem ≡ m)
        (λ c r h. ap (λ (x : Opened). x.mem) (stays_refused c m r))
        (λ x a h. split (importing x.state.block)
        (λ t. absurd (h (ap number (closes x a t).answer)))
        (λ f. absurd (h (ap (λ (y : Opened). number y.answer) (closing_unmarked P S C L M k x f) ∙ ap number a.done))))

    -- 02: "An import no longer outlives the opening of the image."
    pub no_import : importing (open' P S C L M k n m).state.block ≡ false
    unfolding open'
    no_import = either (λ x. importing (closing P S C L M k x).state.block ≡ false)
        (λ c r. ap (λ (x : Opened). importing x.state.block) (stays_refused c m r) ∙ no_mark c m r)
        (λ x a. split (importing x.state.block)
        (λ t. closed_unmarked x a t)
        (λ f. ap (λ (y : Opened). importing y.state.block) (closing_unmarked P S C L M k x f) ∙ f))

    -- what is left of an image with the mark
    pub open_closes : importing first.state.block ≡ true → Closes first (open' P S C L M k n m)
    unfolding open'
    open_closes = either (λ x. importing x.state.block ≡ true → Closes x (closing P S C L M k x))
        (λ c r e. absurd (clash e (no_mark c m r)))
        (λ x a e. closes x a e)

    -- the bytes behind the block that is stored stay
    pub past_the_block : importing first.state.block ≡ true → (i : ℕ) → length (k.bytes (block_after first) (runs_after first)) ≤ i → get_or (open' P S C L M k n m).mem i 0 ≡ get_or first.mem i 0
    unfolding stored
    past_the_block e i h = ap (λ (x : List ℕ). get_or x i 0) (open_closes e).mem ∙ overwrite_hi 0 (k.bytes (block_after first) (runs_after first)) first.mem i (omega (arith, h))

    -- ## Every image that opening accepts is in order

    module _ (laws : Lawful S L M k) where
      closed_good : Opens P S C L M k spos laws first → importing first.state.block ≡ true → Opens P S C L M k spos laws (open' P S C L M k n m)
      closed_good o e =
          let c : Closes first (open' P S C L M k n m) = open_closes e in
          let b : Superblock = first.state.block in
          let good : Good S L M k first.state.count.0 (sealed k (block_after first) (runs_after first)) (stored k (block_after first) (runs_after first) first.mem) =
          restore_good P S C L M k laws first.state.count.0 b (after_import_cancel b) first.mem o.good (cancel_carries S M first.state.count.0 b) in
          record { idle = c.idle; good = rw (c.block, c.mem, c.count) good }

      pub opens : Bytes m → length m ≤ M → number (open' P S C L M k n m).answer ≡ 0 → Opens P S C L M k spos laws (open' P S C L M k n m)
      opens bytes most ok =
          let o : Opens P S C L M k spos laws first = image_opens P S C L M k spos laws n m bytes most (ap number (sym open_answer) ∙ ok) in
          split (importing first.state.block)
          (λ t. closed_good o t)
          (λ f. subst (Opens P S C L M k spos laws) (sym (open_unmarked f)) o)
