-- DEMAND 3 OF THE CODE, for a caller of crate blob: of the calls that were made, by what their own contracts say. Nothing is asked of arguments that no caller
-- can pass.
use Rattle.std.specs.Prelude.{◌≡◌, refl, ℕ, ◌*◌, Bool, true, false, List, [], ◌∷◌, eqb, take}
use Rattle.std.proofs.Common.{sym, ap, ◌∙◌, subst, arith, ne_eqb}
use Rattle.memory.specs.Laws.{split}
use Rattle.words.specs.Words.{Bytes}
use Rattle.update.specs.Buffers.{Buffers}
use Rattle.store.specs.declared.State.{State}
use Rattle.store.specs.Codec.{real_codec}
use Rattle.store.specs.Calls.{Call, import_begin, import_chunk, import_finish, import_cancel, Lent, Out, number}
use Rattle.store.specs.Blocks.{importing}
use Rattle.store.specs.Opening.{Opened, open'}
use Rattle.store.specs.RealCodec.{real_lawful}
use Rattle.store.proofs.ClosingLaws.{no_import, refused_unchanged}
use Rattle.transfer.specs.OnMemory.{lent}
use Rattle.lending.specs.Lending.{calls}
use Rattle.opening.specs.Opened.{opened}
use Rattle.plain_file.specs.Plain.{File, Plain, closed, from_memory}
use Rattle.plain_file.specs.Claim.{Claim}
use Rattle.plain_file.specs.Sizes.{short', plain_of, plain_step', told', Word', Lends', leaves', at_begin', Owed', Nothing', Enough', choose', Turn', Promise'}
use Rattle.plain_file.specs.Restored.{opened_file_given}
use Rattle.plain_file.specs.Demand3.{demand3}
use Rattle.plain_file.specs.BlobCalls.{Made, BlobCall, made_of, by_blob, typed, BlobOpened, memory_passed, count_passed, state_left, answer_given, memory_left, by_open, open_typed}

-- the plain file after a call that gave x
abbrev pub plain_after : Plain → Call → Lent → Out → Plain
plain_after p c l x = plain_step' p c (told' l x)

-- the memory when the update began, after a call that gave x, of the slices w as they were left before it
abbrev begin_after : Plain → List ℕ → Lent → Call → Lent → Out → List ℕ
begin_after p m w c l x = at_begin' p (plain_after p c l x) m (take (x.state.count.0 * 65536) (leaves' x.lent w).mem)

-- `Promise`, of what each call gave. Premises: it got the state that the call before answered, and the live part of each slice as it was last left
abbrev pub CallsPromise : State → Plain → List ℕ → Lent → List Made → Type 0
CallsPromise s p m w [] = Unit {0}
CallsPromise s p m w (e ∷ es) =
    let l : Lent = e.lent in
    let c : Call = e.call in
    let x : Out = e.gave in
    let w' : Lent = leaves' x.lent w in
    e.state ≡ s → Lends' s w l
    → choose' (short' s l c)
    (Nothing' s l c x × CallsPromise s p m w' es)
    (Owed' p m c l x w' × Enough' s l x × CallsPromise x.state (plain_after p c l x) (begin_after p m w c l x) w' es)

abbrev turns : List Made → List Turn'
turns [] = []
turns (e ∷ es) = record { lent = e.lent; call = e.call } ∷ turns es

-- each call gave what the store's definition gives
abbrev AllGave : List Made → Type 0
AllGave [] = Unit {0}
AllGave (e ∷ es) = ((e.gave ≡ calls e.state e.lent e.call) × Word' e.call) × AllGave es

keeps : (s : State) (p : Plain) (m : List ℕ) (w : Lent) (es : List Made) → AllGave es → Promise' s p m w (turns es) → CallsPromise s p m w es
keeps s p m w [] h g = tt
keeps s p m w (e ∷ es) h g = λ same lends.
    let l : Lent = e.lent in
    let c : Call = e.call in
    let is : calls s l c ≡ e.gave = sym (h.0.0 ∙ ap (λ (z : State). calls z l c) same) in
    split (short' s l c)
    (λ t. let r : Nothing' s l c (calls s l c) × Promise' s p m (leaves' (calls s l c).lent w) (turns es) = rw t at (g lends h.0.1) in
    rw t (
      subst (Nothing' s l c) is r.0,
      keeps s p m (leaves' e.gave.lent w) es h.1 (subst (λ (x : Out). Promise' s p m (leaves' x.lent w) (turns es)) is r.1),
    ))
    (λ f. let r = rw f at (g lends h.0.1) in
    rw f (
      subst (λ (x : Out). Owed' p m c l x (leaves' x.lent w)) is r.0,
      subst (Enough' s l) is r.1,
      keeps e.gave.state (plain_after p c l e.gave) (begin_after p m w c l e.gave) (leaves' e.gave.lent w) es h.1
          (subst (λ (x : Out). Promise' x.state (plain_after p c l x) (begin_after p m w c l x) (leaves' x.lent w) (turns es)) is r.2),
    ))

abbrev pub made_all : List BlobCall → List Made
made_all [] = []
made_all (c ∷ cs) = made_of c ∷ made_all cs

all_gave : (cs : List BlobCall) → AllGave (made_all cs)
all_gave [] = tt
all_gave (c ∷ cs) = ((by_blob c, typed c), all_gave cs)

-- THE CODE: `open` accepted an image, in a memory that is bytes; then the fifteen functions were called, in any order, with any arguments of their types.
-- Every call has what is owed
pub demand3_calls : (o : BlobOpened) → number (answer_given o) ≡ 0 → Bytes (memory_passed o) → (b : Buffers) (w : List ℕ) (cs : List BlobCall)
    → CallsPromise (state_left o) (plain_of (memory_left o)) [] (lent (memory_left o) b w) (made_all cs)
unfolding Claim
demand3_calls o ok bytes b w cs =
    let x : Opened = open' 16384 65536 8 1024 18446744073709551615 real_codec (count_passed o) (memory_passed o) in
    let is : x ≡ opened (state_left o) (answer_given o) (memory_left o) = sym (by_open o) in
    let accepted : number x.answer ≡ 0 = ap (λ (z : Opened). number z.answer) is ∙ ok in
    let g : Promise' x.state (plain_of x.mem) [] (lent x.mem b w) (turns (made_all cs)) =
    demand3 (count_passed o) (lent (memory_passed o) b w) bytes (open_typed o) accepted (turns (made_all cs)) in
    keeps (state_left o) (plain_of (memory_left o)) [] (lent (memory_left o) b w) (made_all cs) (all_gave cs)
    (subst (λ (z : Opened). Promise' z.state (plain_of z.mem) [] (lent z.mem b w) (turns (made_all cs))) is g)

-- ## The opening by itself (02, W-202)

-- whatever `open` answered: no import is open in the state that it gave
pub open_no_import : (o : BlobOpened) → importing (state_left o).block ≡ false
open_no_import o =
    ap (λ (x : Opened). importing x.state.block) (by_open o)
    ∙ no_import 16384 65536 8 1024 18446744073709551615 real_codec (omega arith) (count_passed o) (memory_passed o)

-- refused, it left memory as it was
pub open_refused : (o : BlobOpened) → (number (answer_given o) ≡ 0 → ⊥) → memory_left o ≡ memory_passed o
open_refused o refused =
    ap (λ (x : Opened). x.mem) (by_open o)
    ∙ refused_unchanged 16384 65536 8 1024 18446744073709551615 real_codec (omega arith) (count_passed o) (memory_passed o)
    (λ e. refused (ap (λ (x : Opened). number x.answer) (by_open o) ∙ e))

-- accepted, an image that was there is the plain file that it was, also if its import was closed
pub open_keeps : (o : BlobOpened) → number (answer_given o) ≡ 0 → Bytes (memory_passed o) → (count_passed o ≡ 0 → ⊥) → plain_of (memory_left o) ≡ plain_of (memory_passed o)
open_keeps o ok bytes some =
    ap (λ (x : Opened). plain_of x.mem) (by_open o)
    ∙ ap closed (opened_file_given 16384 65536 8 1024 18446744073709551615 real_codec (omega arith) (omega arith) real_lawful (count_passed o) (memory_passed o) bytes (open_typed o) some
    (sym (ap (λ (x : Opened). number x.answer) (by_open o)) ∙ ok))

-- ## Imports (02, W-202 with W-203)

set_same : (b : Bool) (m : List ℕ) (f : File) → plain_of m ≡ closed f → from_memory 16384 65536 1024 18446744073709551615 real_codec b m (closed f) ≡ closed f
set_same true m f e = e
set_same false m f e = refl

-- 01 sets the plain file by an import's calls "to the image in the memory they leave": where a begin, a chunk or a cancel has what is owed, that is the file
-- that it was, so that only an accepted finish changes it
module _ (f : File) (m : List ℕ) (l : Lent) (x : Out) (w : Lent) where
  pub begin_keeps : (t e : ℕ) → Owed' (closed f) m (import_begin t e) l x w → plain_after (closed f) (import_begin t e) l x ≡ closed f
  begin_keeps t e h = set_same (eqb (number x.answer) 0) x.lent.mem f (ap closed h)

  pub chunk_keeps : (o : ℕ) (bs : List ℕ) → Owed' (closed f) m (import_chunk o bs) l x w → plain_after (closed f) (import_chunk o bs) l x ≡ closed f
  chunk_keeps o bs h = set_same (eqb (number x.answer) 0) x.lent.mem f (ap closed h)

  pub cancel_keeps : Owed' (closed f) m import_cancel l x w → plain_after (closed f) import_cancel l x ≡ closed f
  cancel_keeps h = set_same (eqb (number x.answer) 0) x.lent.mem f (ap closed h)

  pub refused_finish_keeps : (number x.answer ≡ 0 → ⊥) → plain_after (closed f) import_finish l x ≡ closed f
  refused_finish_keeps refused = ap (λ (b : Bool). from_memory 16384 65536 1024 18446744073709551615 real_codec b x.lent.mem (closed f)) (ne_eqb (number x.answer) 0 refused)
