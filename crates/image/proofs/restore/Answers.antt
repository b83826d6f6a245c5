-- `image::restore` meets its contract: the runs are copied out of memory, and the block is stored with them.
use Rattle.std.proofs.Common.{◌≡◌, refl, sym, ap, ◌∙◌, arith, ℕ, ◌+◌, ◌*◌, ◌≤◌, ◌/◌, List, length, take, length-take}
use Rattle.words.specs.Words.{words_in}
use Rattle.meta.specs.declared.superblock.Superblock.{Superblock}
use Rattle.meta.specs.Block.{seal, store_in}
use Rattle.meta.specs.Runs.{runs_in as stored}
use Rattle.meta.specs.Stored.{outcome}
use Rattle.runs.specs.Lists.{length-stored}
use Rattle.image_runs.specs.Image.{image_runs, image_most}
use Rattle.image.specs.Reading.{resealed, restored}
use Rattle.image.specs.ImageReads.{numbers_image, stored_count, stored_numbers}
use Rattle.image.proofs.restore.Goals as goal

-- room for k runs takes no more bytes than they have
room : (k n : ℕ) (l : List ℕ) → k * 16 ≤ n → 0 + length (take (k * 2) l) * 8 ≤ n
room k n l h = omega (arith, length-take (k * 2) l)

module _ (s : Superblock) (mem b : List ℕ) (e : stored (length b / 16) b ≡ image_runs s.zero_extent_count mem) where
  stored_with : (k : ℕ) (l used : List ℕ) → k ≡ length (stored (length b / 16) b) → length l ≡ 2048 → used ≡ words_in (length (take (k * 2) l)) b
      → outcome (seal s used) (store_in s used mem) ≡ outcome (resealed s mem) (restored s mem)
  unfolding resealed restored
  stored_with k l used h g u =
      let n = s.zero_extent_count in
      ap (λ (x : List ℕ). outcome (seal s x) (store_in s x mem))
      (u ∙ stored_numbers n mem b e (length (take (k * 2) l)) (omega (arith, length-take (k * 2) l, stored_count n mem b e, image_most n mem)) ∙ sym (numbers_image n mem))

pub read_into-requires : goal.read_into-requires
read_into-requires c =
    let b = c.stored-stored.result.bytes.now in
    room c.count.result (length b) _ (omega (arith, c.count.ensures, length-stored (length b / 16) b))

pub returns : goal.returns
returns c =
    let a = c.args in
    let s = c.stored-stored in
    c.store.ensures ∙ stored_with a.b a.mem.now s.result.bytes.now s.ensures.runs c.count.result _ c.read_into.new.numbers c.count.ensures refl c.read_into.ensures
