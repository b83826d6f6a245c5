-- The clean cache with its frames, and the oldest page out of a full one.
use Rattle.std.specs.Prelude.{◌≡◌, ◌≤◌, ℕ, ◌-◌, ◌*◌, cond, List, [], ◌∷◌, ◌++◌, ltb, length, take, drop}
use Rattle.memory.specs.Bytes.{overwrite}
use Rattle.update.specs.declared.CleanCache.{CleanCache}
use Rattle.update.specs.Buffers.{settled}
use Rattle.update.specs.Frames.{CacheOut, cache_out}

-- page size, cache pages: the cache is as every call leaves it, and its frames are lent whole
abbrev pub CacheFits : ℕ → ℕ → CleanCache → List ℕ → Type 0
CacheFits P C c l = (c ≡ settled P C c) × (C * P ≤ length l)

-- page size, cache pages: the others move up, in the numbers and in the frames
unfoldable pub room_made : ℕ → ℕ → CleanCache → List ℕ → CacheOut
room_made P C c l =
    cond (ltb c.count C) (cache_out c l)
    (cache_out (record { pages = drop 1 c.pages ++ 0 ∷ []; count = C - 1 }) (overwrite 0 (take ((C - 1) * P) (drop P l)) l))
