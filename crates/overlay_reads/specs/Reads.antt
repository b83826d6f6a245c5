-- What a read of an update's file gives: the overlay's numbers, the slices that it was lent, the bytes and the answer.
use Rattle.std.specs.Prelude.{ℕ, ◌+◌, ◌/◌, cond, ◌||◌, List, leb, eqb, length, Bool, true, false, Result, Ok, Err}
use Rattle.config.specs.declared.refusal.Refusal.{Refusal}
use Rattle.config.specs.declared.refusal.Refusal.TheVariants.{BufferTooShort}
use Rattle.update.specs.declared.Overlay.{Overlay}
use Rattle.update.specs.declared.Image.{Image}
use Rattle.update.specs.Lists.{tabulate_from}
use Rattle.update.specs.Image.{image_in}
use Rattle.update.specs.Update.{Over, raw, look_up, read_over, read_bytes}
use Rattle.update.specs.Buffers.{Buffers, short_buffers, view, overlay_of, put_back}

-- whether the read is full; only 35 can refuse it
abbrev pub Reading : Type 0
Reading = Result Bool Refusal

-- with the bytes that the call was lent to fill
pub record Seen : Type 0 where
  pub overlay : Overlay
  pub bufs : Buffers
  pub bytes : List ℕ
  pub reading : Reading

abbrev pub seen : Overlay → Buffers → List ℕ → Reading → Seen
seen v l bs r = record { overlay = v; bufs = l; bytes = bs; reading = r }

-- 01: "A read is full exactly when it is empty or ends at or before the size, else short"
abbrev pub reading : ℕ → ℕ → ℕ → Reading
reading size o n = cond (eqb n 0 || leb (o + n) size) (Ok true) (Ok false)

module _ (P C : ℕ) (i : Image) (mem : List ℕ) (v : Overlay) (l : Buffers) where
  -- the update w is put back
  abbrev pub showing : Over → List ℕ → Reading → Seen
  showing w bs r = seen (overlay_of P C v.base_size w) (put_back P C v v.dirty w l) bs r

  -- n bytes from o on, all in o's page and below the size
  unfoldable pub page_read : ℕ → ℕ → Seen
  page_read o n = showing (look_up P C (image_in P i mem) (o / P) (view P C v l)) (tabulate_from o n (raw P (image_in P i mem) (view P C v l))) (Ok true)

  unfoldable pub range_read : ℕ → ℕ → Seen
  range_read o n = showing (read_over P C (image_in P i mem) o n (view P C v l)) (read_bytes P C (image_in P i mem) o n (view P C v l)) (Ok true)

  -- 01: "bytes past the size are zeros. Only 35 can refuse a read."
  unfoldable pub read_at : ℕ → List ℕ → Seen
  read_at o d =
      cond (short_buffers P C v l) (seen v l d (Err BufferTooShort))
      (showing (read_over P C (image_in P i mem) o (length d) (view P C v l)) (read_bytes P C (image_in P i mem) o (length d) (view P C v l)) (reading v.size o (length d)))
