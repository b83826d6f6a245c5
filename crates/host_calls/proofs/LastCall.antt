-- DEMAND 3 FOR A HOST, OF THE LAST CALL: what a C call owes after any list of C calls; every read gives the bytes and the full-or-short answer of the plain
-- file.
use Rattle.std.specs.Prelude.{◌≡◌, refl, ℕ, false, List, [], ◌∷◌, ◌++◌, length}
use Rattle.std.proofs.Common.{subst}
use Rattle.memory.specs.Laws.{split}
use Rattle.words.specs.Words.{Bytes}
use Rattle.update.specs.Buffers.{Buffers}
use Rattle.store.specs.Calls.{Call, read, Lent}
use Rattle.transfer.specs.OnMemory.{lent}
use Rattle.plain_file.specs.Plain.{Plain, closed, drafting}
use Rattle.plain_file.specs.Sizes.{plain_of, leaves', choose'}
use Rattle.host_calls.specs.Made.{Made}
use Rattle.host_calls.specs.CCalls.{CCall, made_of, made_all, COpened, memory_passed, state_left, memory_left}
use Rattle.host_calls.specs.HostClaim.{Untouched, HostOwed, too_little, plain_after, HostPromise}
use Rattle.host_calls.proofs.Host.{host_demand3}
use Rattle.host_calls.specs.LastCall.{state_run, plain_run, left_run, begin_run, Premises, Last, Shows}

last : (st : List ℕ) (p : Plain) (m : List ℕ) (w : Lent) (es : List Made) (e : Made) → HostPromise st p m w (es ++ e ∷ []) → Premises st w (es ++ e ∷ []) → Last st p m w es e
last st p m w [] e g h = split (too_little st e)
    (λ t. let r = rw t at (g h.0.0 h.0.1) in rw t r.0)
    (λ t. let r = rw t at (g h.0.0 h.0.1) in rw t r.0)
last st p m w (x ∷ es) e g h = split (too_little st x)
    (λ t. let r = rw t at (g h.0.0 h.0.1) in rw t (last st p m (leaves' x.lent' w) es e r.1 (rw t at h.1)))
    (λ t. let r = rw t at (g h.0.0 h.0.1) in rw t (last x.state' (plain_after p x) _ (leaves' x.lent' w) es e r.2 (rw t at h.1)))

appended : (cs : List CCall) (c : CCall) → made_all (cs ++ c ∷ []) ≡ made_all cs ++ made_of c ∷ []
appended [] c = refl
appended (x ∷ cs) c = λ i. made_of x ∷ appended cs c i

shows : (p : Plain) (m : List ℕ) (w : Lent) (e : Made) (o : ℕ) (d : List ℕ) → HostOwed p m e (read o d) w → Shows p o (length d) e
shows (closed f) m w e o d h = h
shows (drafting f x) m w e o d h = h

last_read : (st : List ℕ) (p : Plain) (m : List ℕ) (w : Lent) (es : List Made) (e : Made) (o : ℕ) (d : List ℕ) → e.call ≡ read o d → too_little (state_run st es) e ≡ false → Last st p m w es e → Shows (plain_run st p es) o (length d) e
last_read st p m w es e o d is f h =
    let r : HostOwed (plain_run st p es) (begin_run st p m w es) e e.call (leaves' e.lent' (left_run w es)) = rw f at h in
    shows (plain_run st p es) (begin_run st p m w es) (leaves' e.lent' (left_run w es)) e o d (subst (λ (c : Call). HostOwed (plain_run st p es) (begin_run st p m w es) e c (leaves' e.lent' (left_run w es))) is r)

-- `yuharopu_open` returned 0, on a memory that is bytes; the host has the slices b and w; any C calls cs followed, and then c
module _ (o : COpened) (ok : o.gave ≡ 0) (bytes : Bytes (memory_passed o)) (b : Buffers) (w : List ℕ) (cs : List CCall) (c : CCall) where
  abbrev slices : Lent
  slices = lent (memory_left o) b w

  -- when c is called: the state's bytes, the plain file, the live memory when its update began, and the slices as they were last left
  abbrev pub state_now : List ℕ
  state_now = state_run (state_left o) (made_all cs)

  abbrev pub plain_now : Plain
  plain_now = plain_run (state_left o) (plain_of (memory_left o)) (made_all cs)

  abbrev pub begun_now : List ℕ
  begun_now = begin_run (state_left o) (plain_of (memory_left o)) [] slices (made_all cs)

  abbrev pub left_now : Lent
  left_now = left_run slices (made_all cs)

  -- what is asked of a host
  abbrev pub Chained : Type 0
  Chained = Premises (state_left o) slices (made_all cs ++ made_of c ∷ [])

  -- EVERY CALL: lent too little, it returned 35 and left everything; else it has what demand 3 owes
  pub host_last : Chained → choose' (too_little state_now (made_of c)) (Untouched (made_of c)) (HostOwed plain_now begun_now (made_of c) (made_of c).call (leaves' (made_of c).lent' left_now))
  host_last h =
      last (state_left o) (plain_of (memory_left o)) [] slices (made_all cs) (made_of c)
      (subst (HostPromise (state_left o) (plain_of (memory_left o)) [] slices) (appended cs c) (host_demand3 o ok bytes b w (cs ++ c ∷ []))) h

  -- EVERY READ of d at a that is lent enough: it returned 0, told 1 if it was full and 0 if it was short, and filled d with the plain file's bytes
  pub host_read : (a : ℕ) (d : List ℕ) → (made_of c).call ≡ read a d → Chained → too_little state_now (made_of c) ≡ false → Shows plain_now a (length d) (made_of c)
  host_read a d is h f = last_read (state_left o) (plain_of (memory_left o)) [] slices (made_all cs) (made_of c) a d is f (host_last h)
