-- An update in the lent slices, changed and put back: the overlay's numbers, every slice to its last element, and the answer.
use Rattle.std.specs.Prelude.{ℕ, ◌+◌, ◌*◌, ◌/◌, ◌≤◌, max, Bool, false, not, cond, ◌≡◌, List, length, take, Ok, Err}
use Rattle.update.specs.declared.Overlay.{Overlay}
use Rattle.update.specs.declared.CleanCache.{CleanCache}
use Rattle.update.specs.declared.Image.{Image}
use Rattle.update.specs.Verdict.{Verdict}
use Rattle.update.specs.Lists.{tabulate_from}
use Rattle.update.specs.Pages.{Page, holds, keep_below, page_byte, pages_in, span}
use Rattle.update.specs.Image.{image_in}
use Rattle.update.specs.Update.{whole_page, copy, Tried, accepted, refused, and_then, left, keep_size, try_touch, try_touch_all, try_patch, try_finish, try_grow, try_grow_to, try_chop, try_tail, try_truncate, truncate_reach}
use Rattle.update.specs.Buffers.{Buffers, frame_count, entry_count, settled, clean_pages, view, overlay_of, put_back}
use Rattle.update.specs.Frames.{Pool, relaid, CacheOut, cache_laid, inserted}

abbrev pub bufs : List ℕ → List ℕ → List ℕ → List ℕ → Buffers
bufs f n c r = record { frames = f; numbers = n; clean = c; recs = r }

-- the overlay's numbers, the lent slices, and the answer
pub record Laid : Type 0 where
  pub overlay : Overlay
  pub bufs : Buffers
  pub verdict : Verdict

abbrev pub laid : Overlay → Buffers → Verdict → Laid
laid v l a = record { overlay = v; bufs = l; verdict = a }

abbrev pub verdict_of : Tried → Verdict
verdict_of (accepted w) = Ok tt
verdict_of (refused r w) = Err r

-- each byte as it is
abbrev pub same : ℕ → ℕ → ℕ
same o x = x

-- page size, cache pages
module _ (P C : ℕ) where
  -- the overlay as every call leaves it
  unfoldable pub settle : Overlay → Overlay
  settle v = record { base_size = v.base_size; size = v.size; dirty = v.dirty; recorded = v.recorded; cache = settled P C v.cache; budget = v.budget }

  -- what a call made of the update that v and l hold, put back where n frames were in use, and its answer
  unfoldable pub leave : Overlay → Buffers → ℕ → Tried → Laid
  leave v l n t = laid (overlay_of P C v.base_size (left t)) (put_back P C v n (left t) l) (verdict_of t)

  -- the slices hold what the overlay's numbers say, and its cache is settled
  abbrev pub Fits : Overlay → Buffers → Type 0
  Fits v l = (v.dirty ≤ frame_count P l) × ((v.recorded * 2 ≤ length l.recs) × ((C * P ≤ length l.clean) × (v.cache ≡ settled P C v.cache)))

  -- a cut, without its tail
  unfoldable pub chopped : ℕ → Overlay → Buffers → ℕ → Laid
  chopped M v l n = leave v l v.dirty (try_chop P M (frame_count P l) (entry_count l) n (view P C v l))

  -- the largest number; the image, the memory, the overlay and what it is lent
  module _ (M : ℕ) (i : Image) (mem : List ℕ) (v : Overlay) (l : Buffers) where
    -- ## As the code is cut

    unfoldable pub touched : Bool → (ℕ → ℕ → ℕ) → ℕ → Laid
    touched loaded u p = leave v l v.dirty (try_touch P M (frame_count P l) (entry_count l) (image_in P i mem) loaded u p (view P C v l))

    unfoldable pub touched_all : Bool → (ℕ → ℕ → ℕ) → ℕ → ℕ → Laid
    touched_all loaded u p n = leave v l v.dirty (try_touch_all P M (frame_count P l) (entry_count l) (image_in P i mem) loaded u p n (view P C v l))

    -- growth once it is recorded: the old end, the new one, both
    unfoldable pub patched : ℕ → ℕ → Laid
    patched z n = leave v l v.dirty (try_patch P M (frame_count P l) (entry_count l) (image_in P i mem) z n (view P C v l))

    unfoldable pub finished : ℕ → ℕ → Laid
    finished z n = leave v l v.dirty (try_finish P M (frame_count P l) (entry_count l) (image_in P i mem) z n (view P C v l))

    unfoldable pub ended : ℕ → ℕ → Laid
    ended z n = leave v l v.dirty (and_then (try_patch P M (frame_count P l) (entry_count l) (image_in P i mem) z n (view P C v l)) (try_finish P M (frame_count P l) (entry_count l) (image_in P i mem) z n))

    unfoldable pub grown : ℕ → Laid
    grown n = leave v l v.dirty (try_grow P M (frame_count P l) (entry_count l) (image_in P i mem) n (view P C v l))

    -- growth of a truncation: refused, the size stays
    unfoldable pub grown_to : ℕ → Laid
    grown_to n = leave v l v.dirty (keep_size v.size (try_grow_to P M (frame_count P l) (entry_count l) (image_in P i mem) n (view P C v l)))

    unfoldable pub tailed : ℕ → Laid
    tailed n = leave v l v.dirty (try_tail P M (frame_count P l) (entry_count l) (image_in P i mem) n (view P C v l))

    -- the cut and the tail
    unfoldable pub cut_to : ℕ → Laid
    cut_to n = leave v l v.dirty (and_then (try_chop P M (frame_count P l) (entry_count l) n (view P C v l)) (try_tail P M (frame_count P l) (entry_count l) (image_in P i mem) n))

    -- a truncation may have more frames in use than before it and after it
    unfoldable pub resized : ℕ → Laid
    resized n = leave v l (max v.dirty (truncate_reach P M (frame_count P l) (entry_count l) (image_in P i mem) n (view P C v l)))
        (try_truncate P M (frame_count P l) (entry_count l) (image_in P i mem) n (view P C v l))

    -- a write's bytes; with its growth before them
    unfoldable pub puts : ℕ → List ℕ → Laid
    puts o bs = leave v l v.dirty (try_touch_all P M (frame_count P l) (entry_count l) (image_in P i mem) (not (whole_page P o (length bs))) (copy P o bs) (o / P) (span P o (length bs)) (view P C v l))

    unfoldable pub wrote : ℕ → List ℕ → Laid
    wrote o bs = leave v l v.dirty (and_then (try_grow_to P M (frame_count P l) (entry_count l) (image_in P i mem) (o + length bs) (view P C v l))
        (try_touch_all P M (frame_count P l) (entry_count l) (image_in P i mem) (not (whole_page P o (length bs))) (copy P o bs) (o / P) (span P o (length bs))))

-- a page written without loading: whatever the clean frames, the record and the image hold
abbrev pub WritesWhole : ℕ → ℕ → ℕ → Overlay → List ℕ → List ℕ → ℕ → List ℕ → Overlay → List ℕ → List ℕ → Verdict → Type 0
WritesWhole P C M v f n p bs v' f' n' a = (c w mem : List ℕ) (i : Image) → Fits P C v (bufs f n c w)
    → laid v' (bufs f' n' c w) a ≡ touched P C M i mem v (bufs f n c w) false (copy P (p * P) bs) p

-- ## As the code is cut

-- the dirty and the clean pages below a count
pub record Dropped : Type 0 where
  pub overlay : Overlay
  pub frames : List ℕ
  pub numbers : List ℕ
  pub clean : List ℕ

abbrev pub dropped : Overlay → List ℕ → List ℕ → List ℕ → Dropped
dropped v f n c = record { overlay = v; frames = f; numbers = n; clean = c }

-- a clean page's bytes, and the cache then
pub record CleanSeen : Type 0 where
  pub cache : CleanCache
  pub clean : List ℕ
  pub bytes : List ℕ

abbrev pub clean_seen : CleanCache → List ℕ → List ℕ → CleanSeen
clean_seen c l bs = record { cache = c; clean = l; bytes = bs }

module _ (P C : ℕ) where
  unfoldable pub below_count : Overlay → List ℕ → List ℕ → List ℕ → ℕ → ℕ → Dropped
  below_count v f n c count size =
      let p : Pool = relaid P v.dirty (keep_below count (pages_in P (take v.dirty n) f)) n f in
      let q : CacheOut = cache_laid P C v.cache c (keep_below count (clean_pages P C v.cache c)) in
      dropped (record { base_size = v.base_size; size = size; dirty = p.count; recorded = v.recorded; cache = q.cache; budget = v.budget }) p.frames p.numbers q.clean

  -- n bytes of page p from its place k on
  unfoldable pub clean_read : CleanCache → List ℕ → (ℕ → ℕ) → ℕ → ℕ → ℕ → CleanSeen
  clean_read c l b p k n =
      let d : List Page = clean_pages P C c l in
      let bs : List ℕ = tabulate_from (p * P + k) n (λ o. page_byte P d o (b o)) in
      let x : CacheOut = cache_laid P C c l (inserted P C b p d) in
      cond (holds d p) (clean_seen c l bs) (clean_seen x.cache x.clean bs)
