-- An update lies in the overlay's numbers and in lent slices: a table of page numbers with one pool of frames, the record as two numbers a
-- run, and the clean frames. Here it is read off them and put back, to the last element.
use Rattle.std.specs.Prelude.{ℕ, suc, ◌*◌, ◌/◌, min, Bool, cond, ◌&&◌, ◌||◌, List, [], ltb, leb, length, take, drop}
use Rattle.memory.specs.Bytes.{zeros, resize}
use Rattle.meta.specs.Runs.{numbers_of}
use Rattle.runs.specs.Flat.{runs_in}
use Rattle.update.specs.declared.Overlay.{Overlay}
use Rattle.update.specs.declared.CleanCache.{CleanCache}
use Rattle.update.specs.Lists.{refill}
use Rattle.update.specs.Pages.{Page, page_numbers, flat, place_of, pages_in}
use Rattle.update.specs.Update.{Over}

-- what a call that works on an update is lent beside memory and the work list
pub record Buffers : Type 0 where
  pub frames : List ℕ
  pub numbers : List ℕ
  pub clean : List ℕ
  -- the record
  pub recs : List ℕ

-- 01: "a frame is 16,384 lent bytes with one entry of the lent list of page numbers, the smaller count deciding"
unfoldable pub frame_count : ℕ → Buffers → ℕ
frame_count P l = min (length l.frames / P) (length l.numbers)

-- record entries that the lent list holds
unfoldable pub entry_count : Buffers → ℕ
entry_count l = length l.recs / 2

-- 01: "its frames, page numbers, clean frames and record, whole, become zeros, as they do after any ended update or direct call"
unfoldable pub wiped : Buffers → Buffers
wiped l = record {
  frames = zeros (length l.frames);
  numbers = zeros (length l.numbers);
  clean = zeros (length l.clean);
  recs = zeros (length l.recs);
}

-- page size, cache pages
module _ (P C : ℕ) where
  -- the cached pages' numbers; a count above the capacity counts as the capacity
  unfoldable pub cached : CleanCache → List ℕ
  cached c = take (min c.count C) c.pages

  -- the cache's numbers as every call leaves them: past the count they are 0
  unfoldable pub settled : CleanCache → CleanCache
  settled c = record { pages = resize C (cached c); count = length (cached c) }

  -- the cached pages
  abbrev pub clean_pages : CleanCache → List ℕ → List Page
  clean_pages c clean = pages_in P (cached c) clean

  -- 01, 35: "the frames or record shorter than what they hold, the clean frames under 8 pages"
  unfoldable pub short_buffers : Overlay → Buffers → Bool
  short_buffers v l = ltb (frame_count P l) v.dirty || (ltb (length l.recs) (v.recorded * 2) || ltb (length l.clean) (C * P))

  -- the update in the lent slices
  unfoldable pub view : Overlay → Buffers → Over
  view v l = record {
    size = v.size;
    dirty = pages_in P (resize v.dirty l.numbers) l.frames;
    recorded = runs_in v.recorded l.recs;
    cache = clean_pages v.cache l.clean;
    budget = v.budget;
  }

  -- the overlay's numbers of an update. Entries of the cache's array past its count are 0
  unfoldable pub overlay_of : ℕ → Over → Overlay
  overlay_of begun w = record {
    base_size = begun;
    size = w.size;
    dirty = length w.dirty;
    recorded = length w.recorded;
    cache = record { pages = resize C (page_numbers w.cache); count = length w.cache };
    budget = w.budget;
  }

  -- 01: "A frame or clean frame that is freed is used again: later pages move up, and the places left over become zeros." The overlay had v's numbers,
  -- and n frames were in use before the call or during it
  unfoldable pub put_back : Overlay → ℕ → Over → Buffers → Buffers
  put_back v n w l = record {
    frames = refill (n * P) (flat w.dirty) l.frames;
    numbers = refill n (page_numbers w.dirty) l.numbers;
    clean = refill (length (cached v.cache) * P) (flat w.cache) l.clean;
    recs = refill (v.recorded * 2) (numbers_of w.recorded) l.recs;
  }

  -- ## The dirty-page view

  -- 01: "A dirty page is shown to callers as the part of the lent frames that holds it, empty if it is not dirty."
  unfoldable pub dirty_page : Overlay → List ℕ → List ℕ → ℕ → List ℕ
  dirty_page v frames numbers q =
      let ns = take v.dirty numbers in
      let part = take P (drop (place_of ns q * P) frames) in
      cond (ltb (place_of ns q) (length ns) && leb (suc (place_of ns q) * P) (length frames)) part []
