-- The tests of a superblock's bytes at opening.
use Rattle.std.specs.Prelude.{ℕ, Bool, true, false, List, take, drop, leb, eqb, Result, Ok, Err}
use Rattle.config.specs.declared.refusal.Refusal.{Refusal}
use Rattle.config.specs.declared.refusal.Refusal.TheVariants.{ForeignStableMemoryImage, UnsupportedLayoutVersion, MetaChecksumMismatch}
use Rattle.memory.specs.Bytes.{zeros, overwrite}
use Rattle.meta.specs.declared.superblock.Superblock.{Superblock}
use Rattle.meta.specs.declared.ZeroExtent.{ZeroExtent}
use Rattle.fnv.specs.Fnv.{fnv1a64}
use Rattle.meta.specs.Runs.{runs_in, normalized}
use Rattle.meta.specs.Block.{magic, decode, encoded_len, checksum_offset}

-- the block, or 1, 2 or 3
abbrev pub Loaded : Type 0
Loaded = Result Superblock Refusal

-- the runs of the block in some bytes
unfoldable pub block_runs : List ℕ → List ZeroExtent
block_runs bs = runs_in (decode bs).zero_extent_count (drop 160 bs)

-- 01: "how many of them are stored and hashed, with the checksum field as 0"
unfoldable pub checksum_in : List ℕ → ℕ
checksum_in bs = fnv1a64 (overwrite checksum_offset (zeros 8) (take (encoded_len (decode bs)) bs))

abbrev pub pick : Bool → Loaded → Loaded → Loaded
pick true a b = a
pick false a b = b

-- 01: "at opening, in this order: 1 magic differs. 2 version or layout is not 8, with the number. 3 run count above 1,024, checksum wrong,
-- or runs not normalized. The page-size field is not tested." The block as decoded, the checksum of its bytes, and whether its runs are normalized
unfoldable pub judge : Superblock → ℕ → Bool → Loaded
judge b sum sorted =
    pick (eqb b.magic magic)
    (pick (eqb b.version 8)
    (pick (eqb b.layout_version 8)
    (pick (leb b.zero_extent_count 1024)
    (pick (eqb b.meta_checksum sum)
    (pick sorted (Ok b) (Err MetaChecksumMismatch))
    (Err MetaChecksumMismatch))
    (Err MetaChecksumMismatch))
    (Err (UnsupportedLayoutVersion b.layout_version)))
    (Err (UnsupportedLayoutVersion b.version)))
    (Err ForeignStableMemoryImage)

unfoldable pub load : List ℕ → Loaded
load bs = judge (decode bs) (checksum_in bs) (normalized (block_runs bs))
