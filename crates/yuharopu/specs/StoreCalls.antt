-- What the store's C functions promise: each is the store's call on the state in its buffer, for whatever a function that is lent less cannot touch.
-- r is the result, an the numbers of the answer, st the state's bytes; ' marks what is left.
use Rattle.std.specs.Prelude.{◌≡◌, refl, ℕ, ◌≤◌, Bool, not, cond, ◌||◌, ltb, eqb, length}
use Rattle.std.proofs.Common.{sym, ◌∙◌, arith}
use borrow.Author.Tests.{ltb-false, eqb-true}
use Rattle.update.specs.ListLaws.{clash}
use Rattle.std.proofs.Math.Path.{ap}
use Rattle.std.proofs.Math.Bool.{true, false}
use mathlib.Core.List.{List, []}
use Rattle.memory.specs.Bytes.{overwrite}
use Rattle.update.specs.Buffers.{Buffers}
use Rattle.store.specs.declared.State.{State}
use Rattle.store.specs.Answers.{Exported}
use Rattle.store.specs.Codec.{real_codec}
use Rattle.store.specs.Calls.{Call, read, Lent, mode_of}
use Rattle.store.specs.Store.{dirty_in}
use Rattle.transfer.specs.OnMemory.{lent}
use Rattle.reading.specs.Views.{frames_short}
use Rattle.encoding.specs.StateBytes.{state_in}
use Rattle.encoding.specs.Called.{called, call, ask, too_short, values, answer_shown, Looked}

module _ (st an : List ℕ) where
  -- lent nothing
  abbrev pub CallsAlone : Call → ℕ → List ℕ → List ℕ → Type 0
  CallsAlone c r st' an' = (l : Lent) → called r st' l an' [] ≡ call st an l c

  abbrev pub AsksAlone : Call → ℕ → List ℕ → Type 0
  AsksAlone c r an' = (l : Lent) → called r st l an' [] ≡ ask st an l c

  -- lent memory
  abbrev pub CallsOnMemory : List ℕ → Call → ℕ → List ℕ → List ℕ → List ℕ → Type 0
  CallsOnMemory m c r st' an' m' = (b : Buffers) (w : List ℕ) → called r st' (lent m' b w) an' [] ≡ call st an (lent m b w) c

  -- f: the bytes that it was lent to fill
  abbrev pub AsksOnMemory : List ℕ → Call → ℕ → List ℕ → List ℕ → Type 0
  AsksOnMemory m c r an' f = (b : Buffers) (w : List ℕ) → called r st (lent m b w) an' f ≡ ask st an (lent m b w) c

  -- lent the buffers of an update
  abbrev pub CallsOnBuffers : Buffers → Call → ℕ → List ℕ → List ℕ → Buffers → Type 0
  CallsOnBuffers b c r st' an' b' = (m w : List ℕ) → called r st' (lent m b' w) an' [] ≡ call st an (lent m b w) c

  -- lent both, to read the bytes d at o
  abbrev pub CallsToRead : List ℕ → Buffers → ℕ → List ℕ → ℕ → List ℕ → List ℕ → Buffers → List ℕ → Type 0
  CallsToRead m b o d r st' an' b' f = (w : List ℕ) → called r st' (lent m b' w) an' f ≡ call st an (lent m b w) (read o d)

-- a limit that is not 0 is one
abbrev pub is_set : ℕ → Bool
is_set n = not (eqb n 0)

-- ## The dirty-page view

pub record Shown : Type 0 where
  pub number : ℕ
  pub answer : List ℕ
  pub bytes : List ℕ

abbrev pub shown : ℕ → List ℕ → List ℕ → Shown
shown r an d = record { number = r; answer = an; bytes = d }

-- 35, or the page in front of d, as far as that reaches, and its length
unfoldable pub dirty_shown : List ℕ → List ℕ → List ℕ → List ℕ → ℕ → List ℕ → Shown
dirty_shown st an frames numbers q d =
    let page : List ℕ = dirty_in 16384 65536 8 1024 18446744073709551615 real_codec (mode_of (state_in st)) frames numbers q in
    cond (too_short st an || frames_short (mode_of (state_in st)) frames numbers) (shown 35 an d) (shown 0 (overwrite 0 (values (Exported (length page))) an) (overwrite 0 page d))

module _ (st an frames numbers : List ℕ) (q : ℕ) (d : List ℕ) where
  pub dirty_short : too_short st an ≡ true → shown 35 an d ≡ dirty_shown st an frames numbers q d
  unfolding dirty_shown
  dirty_short h = rw h

  looked : (n r : ℕ) (an' : List ℕ) → Looked (Exported n) an r an' → (b : List ℕ) → shown r an' b ≡ shown 0 (overwrite 0 (values (Exported n)) an) b
  unfolding answer_shown
  looked n r an' h b = λ i. shown (h st i).number (h st i).answer b

  module _ (s : State) (long : too_short st an ≡ false) (holds : s ≡ state_in st) where
    frames_are : (t : Bool) → frames_short (mode_of s) frames numbers ≡ t → frames_short (mode_of (state_in st)) frames numbers ≡ t
    frames_are t e = ap (λ (z : State). frames_short (mode_of z) frames numbers) (sym holds) ∙ e

    pub dirty_frames : frames_short (mode_of s) frames numbers ≡ true → shown 35 an d ≡ dirty_shown st an frames numbers q d
    unfolding dirty_shown
    dirty_frames e = rw (long, frames_are true e)

    pub dirty_done : (page : List ℕ) (r : ℕ) (an' : List ℕ) → frames_short (mode_of s) frames numbers ≡ false
        → page ≡ dirty_in 16384 65536 8 1024 18446744073709551615 real_codec (mode_of s) frames numbers q → Looked (Exported (length page)) an r an' → shown r an' (overwrite 0 page d) ≡ dirty_shown st an frames numbers q d
    unfolding dirty_shown
    dirty_done page r an' e is h =
        let same : page ≡ dirty_in 16384 65536 8 1024 18446744073709551615 real_codec (mode_of (state_in st)) frames numbers q =
        is ∙ ap (λ (z : State). dirty_in 16384 65536 8 1024 18446744073709551615 real_codec (mode_of z) frames numbers q) holds in
        rw (long, frames_are false e) (looked (length page) r an' h (overwrite 0 page d) ∙ ap (λ (z : List ℕ). shown 0 (overwrite 0 (values (Exported (length z))) an) (overwrite 0 z d)) same)

-- ## What 35 leaves

module _ (st an : List ℕ) (t : Bool) (e : t ≡ too_short st an) where
  pub is_short : t ≡ true → too_short st an ≡ true
  is_short h = sym e ∙ h

  pub is_long : t ≡ false → too_short st an ≡ false
  is_long h = sym e ∙ h

  both : (a b : Bool) → not a || b ≡ false → (a ≡ true) × (b ≡ false)
  both true b h = (refl, h)
  both false b h = clash refl h

  pub lengths : t ≡ false → (length st ≡ 336) × (4 ≤ length an)
  unfolding too_short
  lengths h =
      let x = both (eqb (length st) 336) (ltb (length an) 4) (is_long h) in
      (eqb-true (length st) 336 x.0, ltb-false (length an) 4 x.1)

  pub enough : t ≡ false → 336 ≤ length st
  enough h = omega (arith, (lengths h).0)
