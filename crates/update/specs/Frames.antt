-- What is put back into lent slices in parts: a pool of pages, the clean cache, a page that is loaded.
use Rattle.std.specs.Prelude.{ℕ, suc, ◌+◌, ◌-◌, ◌*◌, Bool, true, false, cond, List, [], ◌∷◌, ◌++◌, length, drop}
use Rattle.memory.specs.Bytes.{zeros, resize}
use Rattle.update.specs.declared.CleanCache.{CleanCache}
use Rattle.update.specs.Lists.{refill, tabulate}
use Rattle.update.specs.Pages.{Page, page_numbers, flat, keep_below, drop_page, page_byte}
use Rattle.update.specs.Image.{image_page}
use Rattle.update.specs.Buffers.{cached, clean_pages}

-- page numbers and frames, and how many are in use
pub record Pool : Type 0 where
  pub numbers : List ℕ
  pub frames : List ℕ
  pub count : ℕ

abbrev pub pool : List ℕ → List ℕ → ℕ → Pool
pool ns fs n = record { numbers = ns; frames = fs; count = n }

-- a pool of which n places were in use, with the pages d instead: what is left over becomes zeros
unfoldable pub relaid : ℕ → ℕ → List Page → List ℕ → List ℕ → Pool
relaid P n d ns fs = pool (refill n (page_numbers d) ns) (refill (n * P) (flat d) fs) (length d)

-- the pages below p, or all but p
abbrev pub retained : Bool → ℕ → List Page → List Page
retained true p d = keep_below p d
retained false p d = drop_page p d

pub record CacheOut : Type 0 where
  pub cache : CleanCache
  pub clean : List ℕ

abbrev pub cache_out : CleanCache → List ℕ → CacheOut
cache_out c l = record { cache = c; clean = l }

pub record LoadOut : Type 0 where
  pub cache : CleanCache
  pub frame : List ℕ
  pub clean : List ℕ

abbrev pub load_out : CleanCache → List ℕ → List ℕ → LoadOut
load_out c f l = record { cache = c; frame = f; clean = l }

-- page size, cache pages
module _ (P C : ℕ) where
  -- a cache that holds the pages d instead: frames left over become zeros
  unfoldable pub cache_laid : CleanCache → List ℕ → List Page → CacheOut
  cache_laid c l d = cache_out (record { pages = resize C (page_numbers d); count = length d }) (refill (length (cached P C c) * P) (flat d) l)

  -- the image's page p behind the others, of which the oldest goes out if there is no room
  unfoldable pub inserted : (ℕ → ℕ) → ℕ → List Page → List Page
  inserted b p d = drop (suc (length d) - C) (d ++ record { number = p; bytes = image_page P b p } ∷ [])

  -- page p where it is not dirty, and the cache then
  unfoldable pub load_laid : CleanCache → List ℕ → (ℕ → ℕ) → Bool → ℕ → LoadOut
  load_laid c l b covered p =
      let d : List Page = clean_pages P C c l in
      let x : CacheOut = cache_laid c l (drop_page p d) in
      cond covered (load_out c (zeros P) l)
      (load_out x.cache (tabulate P (λ i. page_byte P d (p * P + i) (b (p * P + i)))) x.clean)
