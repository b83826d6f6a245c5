-- DEMAND 3 FOR A HOST: whoever opens an image with the C function and makes any list of C calls has the plain file.
use Rattle.std.specs.Prelude.{◌≡◌, ℕ, ◌*◌, ◌≤◌, Bool, true, false, ◌||◌, ltb, eqb, length, take}
use Rattle.std.proofs.Math.Path.{refl, subst}
use Rattle.std.proofs.Common.{sym, ap, ◌∙◌, arith, eq-eqb, ne_eqb}
use mathlib.Core.List.{List, [], ◌∷◌}
use Rattle.memory.specs.Laws.{split}
use Rattle.words.specs.Words.{Bytes}
use Rattle.update.specs.Buffers.{Buffers}
use Rattle.store.specs.declared.State.{State}
use Rattle.store.specs.Codec.{real_codec}
use Rattle.store.specs.Calls.{Call, file_size, Lent, Out, number, short}
use Rattle.store.specs.Store.{store}
use Rattle.store.specs.Blocks.{importing}
use Rattle.store.specs.Opening.{Opened, open'}
use Rattle.store.specs.RealCodec.{real_lawful}
use Rattle.store.proofs.ClosingLaws.{no_import, refused_unchanged}
use Rattle.transfer.specs.OnMemory.{lent}
use Rattle.encoding.specs.StateBytes.{state_bytes, state_in, bytes_long}
use Rattle.encoding.specs.Called.{Shown, showing, pick, step_shown, too_short, out_of, OpenCalled, open_called, open_shown, open_at}
use Rattle.plain_file.specs.Plain.{Plain, closed, drafting}
use Rattle.plain_file.specs.Claim.{Claim}
use Rattle.plain_file.specs.Sizes.{short', plain_of, plain_step', Word', Lends', leaves', at_begin', Owed', Nothing', Turn', Promise'}
use Rattle.plain_file.specs.Restored.{opened_file_given}
use Rattle.plain_file.specs.Demand3.{demand3}
use Rattle.host_calls.specs.Made.{Made, AllByC}
use Rattle.host_calls.specs.CCalls.{CCall, made_all, COpened, state_passed, memory_passed, count_passed, answer_passed, state_left, memory_left, answer_left}
use Rattle.host_calls.proofs.CCallLaws.{all_by_c, open_by_c, open_typed}
use Rattle.host_calls.specs.HostClaim.{Untouched, too_little, plain_after, HostPromise}
use Rattle.host_calls.proofs.Seen.{seen, untouched_short, untouched_35, owed_seen, enough_seen}
use Rattle.host_calls.specs.Seen.{Seen}
use Rattle.host_calls.specs.Host.{Back, Opens, HostOpens}

-- a call whose answer has no room does what a question for the size does: nothing
abbrev turn_of : Bool → Made → Turn'
turn_of true e = record { lent = e.lent; call = file_size }
turn_of false e = record { lent = e.lent; call = e.call }

abbrev turns : List Made → List Turn'
turns [] = []
turns (e ∷ es) = turn_of (ltb (length e.answer) 4) e ∷ turns es

-- with no update open there is no memory of its begin
abbrev Begun : Plain → List ℕ → Type 0
Begun (closed f) m = m ≡ []
Begun (drafting f d) m = Unit {0}

begun_at : (p q : Plain) (m now : List ℕ) → Begun q (at_begin' p q m now)
begun_at p (closed f) m now = refl
begun_at (closed g) (drafting f d) m now = tt
begun_at (drafting g x) (drafting f d) m now = tt

begun_same : (p : Plain) (m now : List ℕ) → Begun p m → at_begin' p p m now ≡ m
begun_same (closed f) m now h = sym h
begun_same (drafting f d) m now h = refl

pub room : (st an : List ℕ) → length st ≡ 336 → (b : Bool) → ltb (length an) 4 ≡ b → too_short st an ≡ b
unfolding too_short
room st an n b e = rw (eq-eqb (length st) 336 n) e

-- one turn of the definition, by its cases
module _ (s : State) (p : Plain) (m : List ℕ) (w l : Lent) (lends : Lends' s w l) (ts : List Turn') where
  asked : Promise' s p m w (record { lent = l; call = file_size } ∷ ts) → Begun p m → Promise' s p m (leaves' l w) ts
  unfolding store short
  asked g b = subst (λ (x : List ℕ). Promise' s p x (leaves' l w) ts) (begun_same p m _ b) (g lends tt).2

abbrev after : Plain → Call → Lent → Back → Plain
after p c l y = plain_step' p c (record { number = y.number; length = length l.mem; after = y.lent.mem })

-- whether the call was lent too little, by the tests
module _ (st : List ℕ) (e : Made) where
  abbrev asks : Bool → Bool
  asks z = z || short' (state_in st) e.lent e.call

  no_answer : ltb (length e.answer) 4 ≡ true → too_little st e ≡ true
  no_answer t = ap asks t

  too_short_lem : ltb (length e.answer) 4 ≡ false → short' (state_in st) e.lent e.call ≡ true → too_little st e ≡ true
  too_short_lem f t = ap asks f ∙ t

  long_enough : ltb (length e.answer) 4 ≡ false → short' (state_in st) e.lent e.call ≡ false → too_little st e ≡ false
  long_enough f k = ap asks f ∙ k

-- from any state's bytes, any plain file and any slices
keeps : (st : List ℕ) (p : Plain) (m : List ℕ) (w : Lent) → length st ≡ 336 → Begun p m → (es : List Made) → AllByC es → Promise' (state_in st) p m w (turns es) → HostPromise st p m w es
keeps st p m w n b [] h g = tt
keeps st p m w n b (e ∷ es) h g = λ same lends.
    let word : Word' e.call = h.0.1 in
    let long : length e.state ≡ 336 = ap length same ∙ n in
    split (ltb (length e.answer) 4)
    (λ t. rw (no_answer st e t) (
    let u : Untouched e = untouched_short e h.0.0 (room e.state e.answer long true t) in
    let next : Promise' (state_in st) p m (leaves' e.lent w) (turns es) =
    asked (state_in st) p m w e.lent lends (turns es) (subst (λ (x : Bool). Promise' (state_in st) p m w (turn_of x e ∷ turns es)) t g) b in
    (u, keeps st p m (leaves' e.lent' w) n b es h.1 (subst (λ (x : Lent). Promise' (state_in st) p m (leaves' x w) (turns es)) (sym u.lent) next))))
    (λ f. let turn : Promise' (state_in st) p m w (record { lent = e.lent; call = e.call } ∷ turns es) = subst (λ (x : Bool). Promise' (state_in st) p m w (turn_of x e ∷ turns es)) f g in
    let fits : too_short e.state e.answer ≡ false = room e.state e.answer long false f in
    split (short' (state_in st) e.lent e.call)
    (λ t. rw (too_short_lem st e f t) (
    let u : Untouched e = untouched_35 e h.0.0 fits (ap (λ (x : List ℕ). short' (state_in x) e.lent e.call) same ∙ t) in
    let x : Out = out_of (state_in st) e.lent e.call in
    let r : Nothing' (state_in st) e.lent e.call x × Promise' (state_in st) p m (leaves' x.lent w) (turns es) = rw t at (turn lends word) in
    (u, keeps st p m (leaves' e.lent' w) n b es h.1 (subst (λ (y : Lent). Promise' (state_in st) p m (leaves' y w) (turns es)) (r.0.lent ∙ sym u.lent) r.1))))
    (λ k. rw (long_enough st e f k) (
    let x : Out = out_of (state_in st) e.lent e.call in
    let v : Seen e x = subst (λ (y : List ℕ). Seen e (out_of (state_in y) e.lent e.call)) same (seen e h.0.0 long fits (ap (λ (y : List ℕ). short' (state_in y) e.lent e.call) same ∙ k)) in
    let r = rw k at (turn lends word) in
    let back : ◌≡◌ {A = Back} (record { number = number x.answer; state = x.state; lent = x.lent }) (record { number = e.returned; state = state_in e.state'; lent = e.lent' }) =
    λ i. record { number = sym v.returned i; state = sym v.state i; lent = sym v.lent i } in (
      owed_seen e x v p m e.call (leaves' e.lent' w) (subst (λ (y : Lent). Owed' p m e.call e.lent x (leaves' y w)) (sym v.lent) r.0),
      enough_seen e x v st r.1,
      keeps e.state' (plain_after p e) _ (leaves' e.lent' w) v.long (begun_at p (plain_after p e) m _) es h.1
          (subst (λ (y : Back). Promise' y.state (after p e.call e.lent y) (at_begin' p (after p e.call e.lent y) m (take (y.state.count.0 * 65536) (leaves' y.lent w).mem)) (leaves' y.lent w) (turns es)) back r.2),
    ))))

-- ## Opening

module _ (st an m : List ℕ) (n r : ℕ) (st' m' an' : List ℕ) (h : open_called r st' m' an' ≡ open_at st an m n) where
  abbrev image : Opened
  image = open' 16384 65536 8 1024 18446744073709551615 real_codec n m

  open_short : too_short st an ≡ true → open_at st an m n ≡ open_called 35 st m an
  unfolding open_at
  open_short t = rw t refl

  open_long : too_short st an ≡ false → open_at st an m n ≡ open_shown st an image
  unfolding open_at
  open_long f = rw f refl

  pick_number_lem : (b : Bool) (a : ℕ) (y : Shown) → y.number ≡ a → (pick b (showing a st an) y).number ≡ a
  pick_number_lem true a y e = refl
  pick_number_lem false a y e = e

  shown_number : (step_shown st an image.state image.answer).number ≡ number image.answer
  unfolding step_shown
  shown_number = pick_number_lem (eqb (number image.answer) 35) (number image.answer) _ refl

  -- 35 for `state` or `answer` included
  refused_mem : (r ≡ 0 → ⊥) → m' ≡ m
  refused_mem refused = split (too_short st an)
      (λ t. ap (λ (z : OpenCalled). z.mem) (h ∙ open_short t))
      (λ f. let q : open_called r st' m' an' ≡ open_shown st an image = h ∙ open_long f in
      ap (λ (z : OpenCalled). z.mem) q
      ∙ refused_unchanged 16384 65536 8 1024 18446744073709551615 real_codec (omega arith) n m (λ e. refused (ap (λ (z : OpenCalled). z.number) q ∙ shown_number ∙ e)))

  module _ (ok : r ≡ 0) where
    accepts : too_short st an ≡ false → number image.answer ≡ 0
    accepts f = sym shown_number ∙ sym (ap (λ (z : OpenCalled). z.number) (h ∙ open_long f)) ∙ ok

    shown_state : number image.answer ≡ 0 → (step_shown st an image.state image.answer).next ≡ image.state
    unfolding step_shown
    shown_state e = rw (ne_eqb (number image.answer) 35 (λ q. omega (arith, e, q))) refl

    shown_bytes : number image.answer ≡ 0 → (step_shown st an image.state image.answer).state ≡ state_bytes image.state
    unfolding step_shown
    shown_bytes e = rw (ne_eqb (number image.answer) 35 (λ q. omega (arith, e, q))) refl

    pub opens : Opens st' m' image
    opens = split (too_short st an)
        (λ t. absurd (omega (arith, ok, ap (λ (z : OpenCalled). z.number) (h ∙ open_short t))))
        (λ f. let q : open_called r st' m' an' ≡ open_shown st an image = h ∙ open_long f in
        record {
          accepted = accepts f;
          state = ap (λ (z : OpenCalled). z.next) q ∙ shown_state (accepts f);
          long = ap (λ (z : OpenCalled). length z.state) q ∙ ap length (shown_bytes (accepts f)) ∙ bytes_long image.state;
          mem = ap (λ (z : OpenCalled). z.mem) q;
        })

-- ## The theorems

-- from the equations of the contracts
pub host_list : (st an m : List ℕ) (n r : ℕ) (st' m' an' : List ℕ) → open_called r st' m' an' ≡ open_at st an m n → r ≡ 0 → Bytes m → length m ≤ 18446744073709551615
    → (b : Buffers) (w : List ℕ) (es : List Made) → AllByC es → HostPromise st' (plain_of m') [] (lent m' b w) es
unfolding Claim
host_list st an m n r st' m' an' h ok bytes most b w es all =
    let x : Opened = open' 16384 65536 8 1024 18446744073709551615 real_codec n m in
    let o : Opens st' m' x = opens st an m n r st' m' an' h ok in
    let g : Promise' x.state (plain_of x.mem) [] (lent x.mem b w) (turns es) = demand3 n (lent m b w) bytes most o.accepted (turns es) in
    let there : Promise' (state_in st') (plain_of m') [] (lent m' b w) (turns es) =
    subst (λ (y : List ℕ). Promise' (state_in st') (plain_of y) [] (lent y b w) (turns es)) (sym o.mem)
    (subst (λ (y : State). Promise' y (plain_of x.mem) [] (lent x.mem b w) (turns es)) (sym o.state) g) in
    keeps st' (plain_of m') [] (lent m' b w) o.long refl es all there

-- DEMAND 3 FOR A HOST: `yuharopu_open` returned 0, on a memory that is bytes; then the fifteen C functions were called, in any order, with any arguments of
-- their types. Every call has what HostPromise says
pub host_demand3 : (o : COpened) → o.gave ≡ 0 → Bytes (memory_passed o) → (b : Buffers) (w : List ℕ) (cs : List CCall)
    → HostPromise (state_left o) (plain_of (memory_left o)) [] (lent (memory_left o) b w) (made_all cs)
host_demand3 o ok bytes b w cs =
    host_list (state_passed o) (answer_passed o) (memory_passed o) (count_passed o) o.gave (state_left o) (memory_left o) (answer_left o)
    (open_by_c o) ok bytes (open_typed o) b w (made_all cs) (all_by_c cs)

pub host_opens : (o : COpened) → o.gave ≡ 0 → HostOpens o
host_opens o ok =
    let x : Opened = open' 16384 65536 8 1024 18446744073709551615 real_codec (count_passed o) (memory_passed o) in
    let p : Opens (state_left o) (memory_left o) x =
    opens (state_passed o) (answer_passed o) (memory_passed o) (count_passed o) o.gave (state_left o) (memory_left o) (answer_left o) (open_by_c o) ok in
    record {
      none_open = ap (λ (s : State). importing s.block) p.state ∙ no_import 16384 65536 8 1024 18446744073709551615 real_codec (omega arith) (count_passed o) (memory_passed o);
      same_file = λ bytes some. ap plain_of p.mem
          ∙ ap closed (opened_file_given 16384 65536 8 1024 18446744073709551615 real_codec (omega arith) (omega arith) real_lawful (count_passed o) (memory_passed o) bytes (open_typed o) some p.accepted);
    }

-- it returned anything else: memory is as it was
pub host_refused : (o : COpened) → (o.gave ≡ 0 → ⊥) → memory_left o ≡ memory_passed o
host_refused o refused =
    refused_mem (state_passed o) (answer_passed o) (memory_passed o) (count_passed o) o.gave (state_left o) (memory_left o) (answer_left o) (open_by_c o) refused
