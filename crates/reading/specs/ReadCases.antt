-- The store's definition at the size and at a read: one law for each way out.
use Rattle.std.specs.Prelude.{◌≡◌, Bool, true, false, cond, ◌||◌, ltb, leb, Ok, Err}
use Rattle.std.proofs.Math.Path.{refl, ap}
use Rattle.std.proofs.Common.{sym, ◌∙◌, arith, lt-ltb, le-ltb, le-leb, leb-true, leb-false}
use Prim.Native.Nat.{ℕ, ◌+◌, ◌-◌, ◌*◌, ◌≤◌, ◌<◌}
use mathlib.Core.List.{List, []}
use Rattle.std.proofs.Math.ListN.{length}
use Rattle.std.proofs.lemmas.Bool.{lt-leb}
use Rattle.config.specs.declared.refusal.Refusal.TheVariants.{BufferTooShort}
use Rattle.image.specs.Reading.{image_of}
use Rattle.update.specs.Lists.{tabulate_from}
use Rattle.update.specs.Image.{image_in}
use Rattle.update.specs.Update.{Over, read_over, read_bytes}
use Rattle.update.specs.Buffers.{Buffers, short_buffers, view}
use Rattle.overlay_reads.specs.Reads.{Seen, seen, showing, read_at, reading}
use Rattle.store.specs.declared.State.{State}
use Rattle.store.specs.Answers.{Answer}
use Rattle.store.specs.Answers.{Size, Read, Refused}
use Rattle.store.specs.Codec.{real_codec}
use Rattle.store.specs.Calls.{read, file_size, Lent, Out, out, update, mode_if, mode_of, buffers_short, short}
use Rattle.store.specs.Store.{store, working, do_read, size_now, full}
use Rattle.transfer.specs.OnMemory.{lent}
use Rattle.transfer.specs.StoreCases.{most, bytes_are}
use Rattle.lending.specs.Lending.{calls}
use Rattle.lending.specs.FirstTests.{buffers_updating, either_true, neither}
use Rattle.reading.specs.Views.{read_answer}

-- ## The size

module _ (s : State) (l : Lent) where
  size_is : calls s l file_size ≡ out s l (Size (size_now 16384 65536 8 1024 most real_codec s (mode_of s))) []
  unfolding store short
  size_is = refl

  pub size_updating : s.updating ≡ true → calls s l file_size ≡ out s l (Size s.overlay.size) []
  size_updating e = size_is ∙ ap (λ (t : Bool). out s l (Size (size_now 16384 65536 8 1024 most real_codec s (mode_if t s.overlay))) []) e

  pub size_idle : s.updating ≡ false → calls s l file_size ≡ out s l (Size s.block.db_size) []
  size_idle e = size_is ∙ ap (λ (t : Bool). out s l (Size (size_now 16384 65536 8 1024 most real_codec s (mode_if t s.overlay))) []) e

-- ## Reads

pub past_is_short : (size o n : ℕ) → size < o → leb (o + n) size ≡ false
past_is_short size o n h = lt-leb (o + n) size (omega arith)

within : (size o n : ℕ) → o ≤ size → (t : Bool) → leb n (size - o) ≡ t → leb (o + n) size ≡ t
within size o n h true e = le-leb (o + n) size (omega (arith, leb-true n (size - o) e))
within size o n h false e = lt-leb (o + n) size (omega (arith, leb-false n (size - o) e))

pub within_is : (size o n : ℕ) → o ≤ size → leb (o + n) size ≡ leb n (size - o)
within_is size o n h = within size o n h (leb n (size - o)) refl

full_or_short : (t : Bool) → read_answer (cond t (Ok true) (Ok false)) ≡ Read t
full_or_short true = refl
full_or_short false = refl

module _ (s : State) (m : List ℕ) (b : Buffers) (w : List ℕ) (o : ℕ) (d : List ℕ) where
  read_is : calls s (lent m b w) (read o d)
      ≡ cond (ltb (length m) (s.count.0 * 65536) || (buffers_short 16384 65536 8 1024 (mode_of s) b || false))
      (out s (lent m b w) (Refused BufferTooShort) d) (do_read 16384 65536 8 1024 most real_codec s (lent m b w) o (length d) (mode_of s))
  unfolding store short
  read_is = refl

  reads_if : (t : Bool) → (ltb (length m) (s.count.0 * 65536) || (buffers_short 16384 65536 8 1024 (mode_of s) b || false)) ≡ t
      → calls s (lent m b w) (read o d) ≡ cond t (out s (lent m b w) (Refused BufferTooShort) d) (do_read 16384 65536 8 1024 most real_codec s (lent m b w) o (length d) (mode_of s))
  reads_if t e =
      read_is
      ∙ ap (λ (x : Bool). cond x (out s (lent m b w) (Refused BufferTooShort) d) (do_read 16384 65536 8 1024 most real_codec s (lent m b w) o (length d) (mode_of s))) e

  pub read_memory : length m < s.count.0 * 65536 → calls s (lent m b w) (read o d) ≡ out s (lent m b w) (Refused BufferTooShort) d
  read_memory h = reads_if true (either_true _ _ (lt-ltb _ _ h))

  module _ (h : s.count.0 * 65536 ≤ length m) where
    pub read_buffers : buffers_short 16384 65536 8 1024 (mode_of s) b ≡ true → calls s (lent m b w) (read o d) ≡ out s (lent m b w) (Refused BufferTooShort) d
    read_buffers g = reads_if true (neither _ _ (le-ltb _ _ h) ∙ either_true _ _ g)

    module _ (g : buffers_short 16384 65536 8 1024 (mode_of s) b ≡ false) where
      reads_in : (u : Bool) → s.updating ≡ u → calls s (lent m b w) (read o d) ≡ do_read 16384 65536 8 1024 most real_codec s (lent m b w) o (length d) (mode_if u s.overlay)
      reads_in u e =
          reads_if false (neither _ _ (le-ltb _ _ h) ∙ neither _ _ g)
          ∙ ap (λ (t : Bool). do_read 16384 65536 8 1024 most real_codec s (lent m b w) o (length d) (mode_if t s.overlay)) e

      pub read_idle : s.updating ≡ false
          → calls s (lent m b w) (read o d)
          ≡ out s (lent m b w) (Read (full 16384 65536 8 1024 most real_codec s.block.db_size o (length d))) (tabulate_from o (length d) (image_in 16384 (image_of s.block) m))
      read_idle e =
          reads_in false e
          ∙ ap (λ (f : List ℕ). out s (lent m b w) (Read (full 16384 65536 8 1024 most real_codec s.block.db_size o (length d))) f) (bytes_are s.block m o (length d))

      -- an update's read is the overlay's
      abbrev shown : Seen → Out
      shown x = out (working s.count.0 s.block x.overlay) (lent m x.bufs w) (read_answer x.reading) x.bytes

      seen_is : short_buffers 16384 8 s.overlay b ≡ false
          → shown (read_at 16384 8 (image_of s.block) m s.overlay b o d) ≡ do_read 16384 65536 8 1024 most real_codec s (lent m b w) o (length d) (update s.overlay)
      unfolding read_at real_codec
      seen_is f =
          let k : ℕ = length d in
          let w' : Over = read_over 16384 8 (image_in 16384 (image_of s.block) m) o k (view 16384 8 s.overlay b) in
          let bs : List ℕ = read_bytes 16384 8 (image_in 16384 (image_of s.block) m) o k (view 16384 8 s.overlay b) in
          let x : Seen = showing 16384 8 (image_of s.block) m s.overlay b w' bs (reading s.overlay.size o k) in
          ap (λ (t : Bool). shown (cond t (seen s.overlay b d (Err BufferTooShort)) x)) f
          ∙ ap (λ (a : Answer). out (working s.count.0 s.block x.overlay) (lent m x.bufs w) a bs) (full_or_short (full 16384 65536 8 1024 most real_codec s.overlay.size o k))

      pub read_updating : s.updating ≡ true → (x : Seen) → x ≡ read_at 16384 8 (image_of s.block) m s.overlay b o d → shown x ≡ calls s (lent m b w) (read o d)
      read_updating e x q = ap shown q ∙ seen_is (sym (buffers_updating s b e) ∙ g) ∙ sym (reads_in true e)
