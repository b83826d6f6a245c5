-- What writes and truncations on an overlay give: the overlay's numbers, every lent slice to its last element, and the answer.
use Rattle.std.specs.Prelude.{ℕ, cond, List, Err}
use Rattle.config.specs.declared.refusal.Refusal.TheVariants.{BufferTooShort}
use Rattle.update.specs.declared.Overlay.{Overlay}
use Rattle.update.specs.declared.Image.{Image}
use Rattle.update.specs.Image.{image_in}
use Rattle.update.specs.Update.{try_write}
use Rattle.update.specs.Buffers.{Buffers, frame_count, entry_count, short_buffers, view}
use Rattle.update.specs.Laid.{Laid, laid, leave, resized}

-- page size, cache pages, the largest number; the image, the memory, the overlay and what it is lent
module _ (P C M : ℕ) (i : Image) (mem : List ℕ) (v : Overlay) (l : Buffers) where
  -- 01, 35: "tested first everywhere, of what the call is lent .. nothing changes"
  abbrev pub too_short : Laid
  too_short = laid v l (Err BufferTooShort)

  -- 01: "A write tests 20 for its end, 34, 20 for the old last page's end, then page by page 30 and 33"
  unfoldable pub write_at : ℕ → List ℕ → Laid
  write_at o bs =
      cond (short_buffers P C v l) too_short
      (leave P C v l v.dirty (try_write P M (frame_count P l) (entry_count l) (image_in P i mem) o bs (view P C v l)))

  -- 01: "a truncation the same but the first"
  unfoldable pub truncate_to : ℕ → Laid
  truncate_to n = cond (short_buffers P C v l) too_short (resized P C M i mem v l n)
