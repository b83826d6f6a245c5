-- The image of a superblock, and the superblock stored anew with the runs that are there.
use Rattle.std.specs.Prelude.{List, ℕ}
use Rattle.meta.specs.declared.superblock.Superblock.{Superblock}
use Rattle.meta.specs.Runs.{numbers_of}
use Rattle.meta.specs.Block.{seal, store_in}
use Rattle.image_runs.specs.Image.{image_runs}
use Rattle.update.specs.declared.Image.{Image}

abbrev pub image_of : Superblock → Image
image_of b = record { size = b.db_size; base = b.db_base_offset; runs = b.zero_extent_count }

unfoldable pub resealed : Superblock → List ℕ → Superblock
resealed b mem = seal b (numbers_of (image_runs b.zero_extent_count mem))

unfoldable pub restored : Superblock → List ℕ → List ℕ
restored b mem = store_in b (numbers_of (image_runs b.zero_extent_count mem)) mem
