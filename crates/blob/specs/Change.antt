-- A write or a truncation as it is handed to `change`: a closure that changes the overlay in its lent slices.
use Rattle.std.specs.Prelude.{◌≡◌, ℕ, Bool, true, false, ◌&&◌, List, [], Result}
use Rattle.std.specs.Fn.{Once}
use denote.Ref.{MutBor}
use Rattle.config.specs.declared.refusal.Refusal.{Refusal}
use Rattle.config.specs.declared.refusal.Refusal.TheVariants.{BufferTooShort, ImportAlreadyStarted}
use Rattle.update.specs.declared.Overlay.{Overlay}
use Rattle.update.specs.declared.Stored.{Stored}
use Rattle.update.specs.declared.Image.{Image}
use Rattle.update.specs.Buffers.{Buffers}
use Rattle.update.specs.Laid.{bufs, Laid}
use Rattle.store.specs.declared.State.{State}
use Rattle.store.specs.Answers.{Refused}
use Rattle.store.specs.Calls.{Call, commit, Lent, out, mode_of, short}
use Rattle.store.specs.Store.{import_bars}
use Rattle.image.specs.Reading.{image_of}
use Rattle.commit.specs.Held.{Held}
use Rattle.transfer.specs.OnMemory.{lent}
use Rattle.lending.specs.Lending.{calls}
use Rattle.settling.specs.Changing.{overlay_now, settled}

-- the frames, their numbers, the clean frames and the record
abbrev pub Slices : Type 0
Slices = MutBor (List ℕ) × (MutBor (List ℕ) × (MutBor (List ℕ) × (MutBor (List ℕ) × Unit {0})))

abbrev pub Changer : Type 0 → Type 1
Changer F = Once F (MutBor Overlay × (Stored × Slices)) (Result (Unit {0}) Refusal × (MutBor Overlay × Slices))

abbrev pub seen : Slices → Buffers
seen x = bufs x.0.now x.1.0.now x.1.1.0.now x.1.1.1.0.now

module _ {F : Type 0} (g : Changer F) (f : F) where
  -- of the overlay v and the slices b, over the image i in memory m, f makes x
  pub record Makes (i : Image) (m : List ℕ) (v : Overlay) (b : Buffers) (x : Laid) : Type 0 where
    pub overlay : MutBor Overlay
    pub stored : Stored
    pub slices : Slices
    pub overlay' : MutBor Overlay
    pub slices' : Slices
    pub met : g.post f (overlay, (stored, slices)) (x.verdict, (overlay', slices'))
    pub given : (stored.image ≡ i) × (stored.mem.now ≡ m) × (overlay.now ≡ v) × (seen slices ≡ b)
    pub left : (overlay'.now ≡ x.overlay) × (seen slices' ≡ x.bufs)

  -- f is the change that the call c makes; `changes`: whether an open import bars it when it is direct. 35 comes before it, then that 10, and what it leaves can be settled
  -- and is then what c leaves
  pub record IsChange (s : State) (l : Lent) (changes : Bool) (c : Call) : Type 0 where
    pub first : short 16384 65536 8 1024 s l commit ≡ true → out s l (Refused BufferTooShort) [] ≡ calls s l c
    pub second : short 16384 65536 8 1024 s l commit ≡ false → (changes && import_bars s) ≡ true → out s l (Refused ImportAlreadyStarted) [] ≡ calls s l c
    pub after : (x : Laid) → short 16384 65536 8 1024 s l commit ≡ false → (changes && import_bars s) ≡ false
        → Makes (image_of s.block) l.mem (overlay_now s (mode_of s)) l.bufs x
        → Held x.overlay x.bufs.frames x.bufs.numbers x.bufs.recs l.work
        × (settled s (lent l.mem x.bufs l.work) x.overlay x.verdict (mode_of s) ≡ calls s l c)
