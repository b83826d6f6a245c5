-- The last of a list of C calls: what the calls before it leave of the state's bytes, the plain file and the slices, and what is owed of it.
use Rattle.std.specs.Prelude.{◌≡◌, ℕ, cond, List, [], ◌∷◌, take}
use Rattle.store.specs.Calls.{Lent}
use Rattle.encoding.specs.StateBytes.{state_in}
use Rattle.plain_file.specs.Plain.{Plain, closed, drafting}
use Rattle.plain_file.specs.Claim.{Unspoiled}
use Rattle.plain_file.specs.Sizes.{Lends', leaves', at_begin', choose'}
use Rattle.host_calls.specs.Made.{Made}
use Rattle.host_calls.specs.HostClaim.{Untouched, HostReads, HostOwed, live, too_little, plain_after}

-- the state's bytes and the plain file after a call; 35 changes nothing
abbrev pub state_next : List ℕ → Made → List ℕ
state_next st e = cond (too_little st e) st e.state'

abbrev pub plain_next : List ℕ → Plain → Made → Plain
plain_next st p e = cond (too_little st e) p (plain_after p e)

-- and after a list
abbrev pub state_run : List ℕ → List Made → List ℕ
state_run st [] = st
state_run st (e ∷ es) = state_run (state_next st e) es

abbrev pub plain_run : List ℕ → Plain → List Made → Plain
plain_run st p [] = p
plain_run st p (e ∷ es) = plain_run (state_next st e) (plain_next st p e) es

-- the slices as they were last left, and the live memory when the update began
abbrev pub left_run : Lent → List Made → Lent
left_run w [] = w
left_run w (e ∷ es) = left_run (leaves' e.lent' w) es

abbrev pub begin_run : List ℕ → Plain → List ℕ → Lent → List Made → List ℕ
begin_run st p m w [] = m
begin_run st p m w (e ∷ es) =
    begin_run (state_next st e) (plain_next st p e)
    (cond (too_little st e) m (at_begin' p (plain_after p e) m (take (live e.state') (leaves' e.lent' w).mem)))
    (leaves' e.lent' w) es

-- each call got the state that the call before left, and the live part of each slice as it was last left
abbrev pub Premises : List ℕ → Lent → List Made → Type 0
Premises st w [] = Unit {0}
Premises st w (e ∷ es) = ((e.state ≡ st) × Lends' (state_in st) w e.lent) × Premises (state_next st e) (leaves' e.lent' w) es

-- what is owed of the last call
abbrev pub Last : List ℕ → Plain → List ℕ → Lent → List Made → Made → Type 0
Last st p m w es e =
    choose' (too_little (state_run st es) e) (Untouched e)
    (HostOwed (plain_run st p es) (begin_run st p m w es) e e.call (leaves' e.lent' (left_run w es)))

-- a read of n bytes at o sees the draft's in an update that is not spoiled, else the file's
abbrev pub Shows : Plain → ℕ → ℕ → Made → Type 0
Shows (closed f) o n e = HostReads f.bytes o n e
Shows (drafting f d) o n e = Unspoiled d.spoiled (HostReads d.bytes o n e)
