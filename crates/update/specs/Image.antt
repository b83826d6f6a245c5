-- The image below an update, by its bytes.
use Rattle.std.specs.Prelude.{ℕ, ◌+◌, ◌-◌, ◌*◌, ◌/◌, cond, List, ltb, get_or, take, drop}
use Rattle.memory.specs.Bytes.{zeros, resize}
use Rattle.meta.specs.declared.ZeroExtent.{ZeroExtent}
use Rattle.runs.specs.Sets.{covers}
use Rattle.image_runs.specs.Image.{image_runs}
use Rattle.update.specs.declared.Image.{Image}
use Rattle.update.specs.Lists.{tabulate}

module _ (P : ℕ) where
  -- 01: "The image's page is zeros if an image run covers it, else the bytes at base + page × 16,384; past the size it is zeros."
  -- An offset that leads out of the lent memory, as only a forged state has it, reads as 0
  unfoldable pub image_byte : ℕ → ℕ → List ZeroExtent → List ℕ → ℕ → ℕ
  image_byte size base runs mem o = cond (ltb o size) (cond (covers runs (o / P)) 0 (get_or mem (base + o) 0)) 0

  -- page p of an image whose byte at offset o is b o
  unfoldable pub image_page : (ℕ → ℕ) → ℕ → List ℕ
  image_page b p = tabulate P (λ i. b (p * P + i))

  -- an image in the lent memory, with its runs there
  abbrev pub image_in : Image → List ℕ → ℕ → ℕ
  image_in i mem = image_byte i.size i.base (image_runs i.runs mem) mem

  -- n of its bytes from offset o on, all in o's page
  unfoldable pub image_part : Image → List ℕ → ℕ → ℕ → List ℕ
  image_part i mem o n = cond (covers (image_runs i.runs mem) (o / P)) (zeros n) (resize n (take (i.size - o) (drop (i.base + o) mem)))
