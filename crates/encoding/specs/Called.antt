-- What a C function of the store answers, and what it leaves in everything that it was lent. The state passes as 336 bytes, the answer's values as
-- four numbers in front of a list.
use Rattle.std.specs.Prelude.{◌≡◌, refl, ℕ, Bool, not, cond, ◌||◌, List, [], ◌∷◌, ltb, length, Option, Some, None, Result, Ok, Err}
use Rattle.std.proofs.Common.{sym, ◌∙◌}
use Rattle.std.proofs.Math.Path.{ap}
use Rattle.std.proofs.Math.Bool.{true, false}
use Rattle.std.proofs.Math.Dec.{eqb}
use borrow.Author.Tests.{eq-eqb, ne_eqb}
use Rattle.config.specs.declared.refusal.Refusal.{Refusal}
use Rattle.config.specs.Refusals.{numbers_of}
use Rattle.memory.specs.Bytes.{overwrite}
use Rattle.store.specs.declared.State.{State}
use Rattle.store.specs.Answers.{Answer, Done, Size, Read, Exported, Checksum, Refreshed, Refused, answered}
use Rattle.store.specs.Codec.{real_codec}
use Rattle.store.specs.Calls.{Call, Lent, Out, lent_bytes}
use Rattle.store.specs.Calls.{number as number_of}
use Rattle.store.specs.Store.{store}
use Rattle.store.specs.Opening.{Opened, open'}
use Rattle.encoding.specs.declared.reply.Reply.{Reply}
use Rattle.encoding.specs.StateBytes.{flag, state_bytes, state_in}

-- ## An answer's values

abbrev pub four : ℕ → ℕ → ℕ → ℕ → List ℕ
four a b c d = a ∷ b ∷ c ∷ d ∷ []

-- 0 where there is none
abbrev pub values : Answer → List ℕ
values Done = four 0 0 0 0
values (Size n) = four n 0 0 0
values (Read full) = four (flag full) 0 0 0
values (Exported n) = four n 0 0 0
values (Checksum n) = four n 0 0 0
values (Refreshed r) = four (flag r.complete) r.checksum r.scanned_bytes r.db_size
values (Refused r) = four (numbers_of r).first (numbers_of r).second 0 0

pub length-values : (a : Answer) → length (values a) ≡ 4
length-values Done = refl
length-values (Size n) = refl
length-values (Read full) = refl
length-values (Exported n) = refl
length-values (Checksum n) = refl
length-values (Refreshed r) = refl
length-values (Refused r) = refl

abbrev pub reply_of : Answer → Reply
reply_of a = record { number = number_of a; values = values a }

-- ## What is shown of a call: its number, the state's bytes, the state that they hold, and the list of the answer

pub record Shown : Type 0 where
  pub number : ℕ
  pub state : List ℕ
  pub next : State
  pub answer : List ℕ

abbrev pub showing : ℕ → List ℕ → List ℕ → Shown
showing n st an = record { number = n; state = st; next = state_in st; answer = an }

abbrev pub pick : Bool → Shown → Shown → Shown
pick true a b = a
pick false a b = b

-- a call left the state s and the answer a. 01, 35: "nothing changes"
unfoldable pub step_shown : List ℕ → List ℕ → State → Answer → Shown
step_shown st an s a =
    pick (eqb (number_of a) 35) (showing (number_of a) st an)
    record { number = number_of a; state = state_bytes s; next = s; answer = overwrite 0 (values a) an }

-- a call that looks alone leaves the state's bytes as they are
unfoldable pub answer_shown : List ℕ → List ℕ → Answer → Shown
answer_shown st an a = pick (eqb (number_of a) 35) (showing (number_of a) st an) (showing (number_of a) st (overwrite 0 (values a) an))

-- whatever the state's bytes are
abbrev pub Looked : Answer → List ℕ → ℕ → List ℕ → Type 0
Looked a an n an' = (st : List ℕ) → showing n st an' ≡ answer_shown st an a

-- ## Calls

pub record Called : Type 0 where
  pub number : ℕ
  pub state : List ℕ
  pub next : State
  pub lent : Lent
  pub answer : List ℕ
  pub filled : List ℕ

abbrev pub called_as : Shown → Lent → List ℕ → Called
called_as x l f = record { number = x.number; state = x.state; next = x.next; lent = l; answer = x.answer; filled = f }

abbrev pub called : ℕ → List ℕ → Lent → List ℕ → List ℕ → Called
called n st l an f = called_as (showing n st an) l f

-- the state's bytes are not as many as they must be, or the answer's four numbers have no room
unfoldable pub too_short : List ℕ → List ℕ → Bool
too_short st an = not (eqb (length st) 336) || ltb (length an) 4

-- the state that the bytes hold, unless they or the answer are too short
unfoldable pub state_given : List ℕ → List ℕ → Option State
state_given st an = cond (too_short st an) None (Some (state_in st))

abbrev pub shown : List ℕ → List ℕ → Out → Called
shown st an x = called_as (step_shown st an x.state x.answer) x.lent x.filled

abbrev pub told : List ℕ → List ℕ → Out → Called
told st an x = called_as (answer_shown st an x.answer) x.lent x.filled

abbrev pub refused_short : List ℕ → List ℕ → Lent → Call → Called
refused_short st an l c = called 35 st l an (lent_bytes c)

-- the store's definition at 01's sizes
abbrev pub out_of : State → Lent → Call → Out
out_of = store 16384 65536 8 1024 18446744073709551615 real_codec

unfoldable pub call : List ℕ → List ℕ → Lent → Call → Called
call st an l c = cond (too_short st an) (refused_short st an l c) (shown st an (out_of (state_in st) l c))

-- a call that looks alone: the file's size, an export, a checksum
unfoldable pub ask : List ℕ → List ℕ → Lent → Call → Called
ask st an l c = cond (too_short st an) (refused_short st an l c) (told st an (out_of (state_in st) l c))

-- ## Opening

pub record OpenCalled : Type 0 where
  pub number : ℕ
  pub state : List ℕ
  pub next : State
  pub mem : List ℕ
  pub answer : List ℕ

abbrev pub opened_as : Shown → List ℕ → OpenCalled
opened_as x m = record { number = x.number; state = x.state; next = x.next; mem = m; answer = x.answer }

abbrev pub open_called : ℕ → List ℕ → List ℕ → List ℕ → OpenCalled
open_called n st m an = opened_as (showing n st an) m

abbrev pub open_shown : List ℕ → List ℕ → Opened → OpenCalled
open_shown st an x = opened_as (step_shown st an x.state x.answer) x.mem

unfoldable pub open_at : List ℕ → List ℕ → List ℕ → ℕ → OpenCalled
open_at st an m n = cond (too_short st an) (open_called 35 st m an) (open_shown st an (open' 16384 65536 8 1024 18446744073709551615 real_codec n m))

-- ## Laws: what is known where a state was given, and where none was

module _ (st an : List ℕ) where
  given_none_by : (t : Bool) → None ≡ cond t None (Some (state_in st)) → t ≡ true
  given_none_by true e = refl
  given_none_by false e = cc

  pub given_none : None ≡ state_given st an → too_short st an ≡ true
  unfolding state_given
  given_none e = given_none_by (too_short st an) e

  given_some_by : (t : Bool) (s : State) → Some s ≡ cond t None (Some (state_in st)) → (t ≡ false) × (s ≡ state_in st)
  given_some_by true s e = cc
  given_some_by false s e = (refl, cc)

  pub given_some : (s : State) → Some s ≡ state_given st an → (too_short st an ≡ false) × (s ≡ state_in st)
  unfolding state_given
  given_some s e = given_some_by (too_short st an) s e

-- ## Laws: a call from what it is made of

pub call_short : (st an : List ℕ) (l : Lent) (c : Call) → too_short st an ≡ true → refused_short st an l c ≡ call st an l c
unfolding call
call_short st an l c h = rw h refl

pub ask_short : (st an : List ℕ) (l : Lent) (c : Call) → too_short st an ≡ true → refused_short st an l c ≡ ask st an l c
unfolding ask
ask_short st an l c h = rw h refl

pub open_short : (st an m : List ℕ) (n : ℕ) → too_short st an ≡ true → open_called 35 st m an ≡ open_at st an m n
unfolding open_at
open_short st an m n h = rw h refl

-- the bytes hold s, the store made x of it, and y of that was shown
module _ (st an : List ℕ) (long : too_short st an ≡ false) (y : Shown) where
  module _ (s : State) (l : Lent) (c : Call) (x : Out) (holds : s ≡ state_in st) (made : x ≡ out_of s l c) where
    pub call_done : y ≡ step_shown st an x.state x.answer → called_as y x.lent x.filled ≡ call st an l c
    unfolding call
    call_done h = rw long (ap (λ (z : Shown). called_as z x.lent x.filled) h ∙ ap (shown st an) (made ∙ ap (λ (z : State). out_of z l c) holds))

    pub ask_done : y ≡ answer_shown st an x.answer → called_as y x.lent x.filled ≡ ask st an l c
    unfolding ask
    ask_done h = rw long (ap (λ (z : Shown). called_as z x.lent x.filled) h ∙ ap (told st an) (made ∙ ap (λ (z : State). out_of z l c) holds))

  pub open_done : (m : List ℕ) (n : ℕ) (x : Opened) → x ≡ open' 16384 65536 8 1024 18446744073709551615 real_codec n m → y ≡ step_shown st an x.state x.answer → opened_as y x.mem ≡ open_at st an m n
  unfolding open_at
  open_done m n x made h = rw long (ap (λ (z : Shown). opened_as z x.mem) h ∙ ap (open_shown st an) made)

-- ## Laws: the same, by the state that was given

module _ (st an : List ℕ) (none : None ≡ state_given st an) where
  pub call_none : (l : Lent) (c : Call) → refused_short st an l c ≡ call st an l c
  call_none l c = call_short st an l c (given_none st an none)

  pub ask_none : (l : Lent) (c : Call) → refused_short st an l c ≡ ask st an l c
  ask_none l c = ask_short st an l c (given_none st an none)

  pub open_none : (m : List ℕ) (n : ℕ) → open_called 35 st m an ≡ open_at st an m n
  open_none m n = open_short st an m n (given_none st an none)

module _ (st an : List ℕ) (s : State) (some : Some s ≡ state_given st an) (y : Shown) where
  module _ (l : Lent) (c : Call) (x : Out) (made : x ≡ out_of s l c) where
    pub call_some : y ≡ step_shown st an x.state x.answer → called_as y x.lent x.filled ≡ call st an l c
    call_some = call_done st an (given_some st an s some).0 y s l c x (given_some st an s some).1 made

    pub ask_some : y ≡ answer_shown st an x.answer → called_as y x.lent x.filled ≡ ask st an l c
    ask_some = ask_done st an (given_some st an s some).0 y s l c x (given_some st an s some).1 made

  pub open_some : (m : List ℕ) (n : ℕ) (x : Opened) → x ≡ open' 16384 65536 8 1024 18446744073709551615 real_codec n m → y ≡ step_shown st an x.state x.answer → opened_as y x.mem ≡ open_at st an m n
  open_some = open_done st an (given_some st an s some).0 y

-- ## Laws: what is told, by the number of the reply

module _ (st an : List ℕ) (a : Answer) (r : Reply) (e : r ≡ reply_of a) where
  pub is_number : r.number ≡ number_of a
  is_number = ap (λ (x : Reply). x.number) e

  pub answer_refused : r.number ≡ 35 → showing r.number st an ≡ answer_shown st an a
  unfolding answer_shown
  answer_refused h = rw (eq-eqb (number_of a) 35 (sym is_number ∙ h)) (ap (λ (n : ℕ). showing n st an) is_number)

  pub answer_stored : (an' : List ℕ) → ¬ (r.number ≡ 35) → an' ≡ overwrite 0 r.values an → showing r.number st an' ≡ answer_shown st an a
  unfolding answer_shown
  answer_stored an' h put =
      let is-put : an' ≡ overwrite 0 (values a) an = put ∙ ap (λ (x : Reply). overwrite 0 x.values an) e in
      rw (ne_eqb (number_of a) 35 (λ q. h (is_number ∙ q))) (λ i. showing (is_number i) st (is-put i))

-- ## Laws: a number is shown alike, whatever it counts

module _ (st an : List ℕ) where
  pub exported_told : (r : Result ℕ Refusal) → answer_shown st an (answered Size r) ≡ answer_shown st an (answered Exported r)
  unfolding answer_shown
  exported_told (Ok n) = refl
  exported_told (Err r) = refl

  pub checksum_told : (r : Result ℕ Refusal) → answer_shown st an (answered Size r) ≡ answer_shown st an (answered Checksum r)
  unfolding answer_shown
  checksum_told (Ok n) = refl
  checksum_told (Err r) = refl

  pub checksum_shown : (s : State) (r : Result ℕ Refusal) → step_shown st an s (answered Size r) ≡ step_shown st an s (answered Checksum r)
  unfolding step_shown
  checksum_shown s (Ok n) = refl
  checksum_shown s (Err r) = refl

-- ## Laws: what is shown of a state too

pick_number_lem : (b : Bool) (n : ℕ) (st an an' : List ℕ) → (pick b (showing n st an) (showing n st an')).number ≡ n
pick_number_lem true n st an an' = refl
pick_number_lem false n st an an' = refl

module _ (st an an' : List ℕ) (a : Answer) (n : ℕ) (told : Looked a an n an') (s : State) where
  pub told_number : n ≡ number_of a
  unfolding answer_shown
  told_number = ap (λ (x : Shown). x.number) (told st) ∙ pick_number_lem (eqb (number_of a) 35) (number_of a) st an (overwrite 0 (values a) an)

  pub step_refused : n ≡ 35 → showing n st an' ≡ step_shown st an s a
  unfolding step_shown answer_shown
  step_refused h =
      let t : eqb (number_of a) 35 ≡ true = eq-eqb (number_of a) 35 (sym told_number ∙ h) in
      rw t (rw t at (told st))

  pub step_stored : (bs : List ℕ) → ¬ (n ≡ 35) → (bs ≡ state_bytes s) × (state_in bs ≡ s) → showing n bs an' ≡ step_shown st an s a
  unfolding step_shown answer_shown
  step_stored bs h b =
      let t : eqb (number_of a) 35 ≡ false = ne_eqb (number_of a) 35 (λ q. h (told_number ∙ q)) in
      let y : showing n st an' ≡ showing (number_of a) st (overwrite 0 (values a) an) = rw t at (told st) in
      rw t (λ i. record { number = told_number i; state = b.0 i; next = b.1 i; answer = (y i).answer })
