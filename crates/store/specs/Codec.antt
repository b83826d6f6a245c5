-- How a superblock with its runs lies in memory: what the calls need of it. The real one is built of meta's definitions; a small one lets the
-- calls be run by computation at small sizes.
use Rattle.std.specs.Prelude.{◌≡◌, refl, ℕ, List}
use Rattle.memory.specs.Bytes.{overwrite}
use Rattle.meta.specs.declared.superblock.Superblock.{Superblock}
use Rattle.meta.specs.declared.ZeroExtent.{ZeroExtent}
use Rattle.meta_load.specs.Load.{Loaded}
use Rattle.meta.specs.Runs.{numbers_of}
use Rattle.fnv.specs.Fnv.{basis, fold}
use Rattle.meta.specs.Block.{prefix, sealed_by, checksum_of, seal, store_in, decode as decodeBlock, fresh as freshBlock}
use Rattle.meta_load.specs.Load.{load as loadBlock}
use Rattle.image_runs.specs.Image.{image_runs}

pub record Codec : Type 0 where
  -- the checksum of the block with these runs
  pub sum : Superblock → List ZeroExtent → ℕ
  -- the bytes that are stored for it
  pub bytes : Superblock → List ZeroExtent → List ℕ
  -- the block in a memory
  pub decode : List ℕ → Superblock
  -- that many runs in a memory
  pub runs_in : ℕ → List ℕ → List ZeroExtent
  -- the tests 1 to 3 at opening
  pub load : List ℕ → Loaded
  -- the block of a new image
  pub fresh : Superblock
  -- the image's checksum, taken on over bytes
  pub hash : ℕ → List ℕ → ℕ
  -- the checksum of no bytes
  pub seed : ℕ

-- the block as it is stored: with version 8 and its checksum
abbrev pub sealed : Codec → Superblock → List ZeroExtent → Superblock
sealed k b rs = sealed_by (k.sum b rs) b

-- the block goes to the front of memory
unfoldable pub stored : Codec → Superblock → List ZeroExtent → List ℕ → List ℕ
stored k b rs mem = overwrite 0 (k.bytes b rs) mem

-- 01's superblock and hash
unfoldable pub real_codec : Codec
real_codec = record {
  sum = λ b rs. checksum_of b (numbers_of rs);
  bytes = λ b rs. prefix (seal b (numbers_of rs)) (numbers_of rs);
  decode = decodeBlock;
  runs_in = image_runs;
  load = loadBlock;
  fresh = freshBlock;
  hash = fold;
  seed = basis;
}

-- what meta stores, and the block that it answers
pub real_stored : (b : Superblock) (rs : List ZeroExtent) (mem : List ℕ) → stored real_codec b rs mem ≡ store_in b (numbers_of rs) mem
unfolding stored real_codec store_in
real_stored b rs mem = refl

pub real_sealed : (b : Superblock) (rs : List ZeroExtent) → sealed real_codec b rs ≡ seal b (numbers_of rs)
unfolding real_codec seal
real_sealed b rs = refl
