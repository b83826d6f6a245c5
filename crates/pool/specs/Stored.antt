-- The image's bytes as memory holds them, where no run covers their page.
use Rattle.std.specs.Prelude.{◌≡◌, true, false, List, take, drop}
use Rattle.std.proofs.Math.Path.{sym, ap, subst}
use Rattle.std.proofs.Common.{◌∙◌, arith, length-take, ext_get_or}
use Prim.Native.Nat.{ℕ, ◌+◌, ◌-◌, ◌/◌, ◌≤◌, ◌<◌, min}
use Rattle.std.proofs.Math.ListN.{length, get_or, length-drop}
use Rattle.std.proofs.Math.Seq.{get_or-take, get_or-drop}
use Rattle.memory.specs.Bytes.{zeros, resize}
use Rattle.memory.specs.Laws.{length_part, length-resize, resize_in}
use Rattle.runs.specs.Sets.{covers}
use Rattle.image_runs.specs.Image.{image_runs}
use Rattle.update.specs.declared.Image.{Image}
use Rattle.update.specs.Image.{image_part}
use Rattle.update.specs.ListLaws.{resize-take}

-- n bytes from offset o on: "the bytes at base + page × 16,384; past the size it is zeros", and past the end of memory too
unfoldable pub stored : Image → List ℕ → ℕ → ℕ → List ℕ
stored i mem o n = resize n (take (i.size - o) (drop (i.base + o) mem))

-- ## Laws

cut : (end from a : ℕ) → from ≡ min a end → end - from ≡ end - a
cut end from a g = omega arith

reaches : (b s o n end : ℕ) → end ≡ min (b + s) n → end - (b + o) ≡ min (s - o) (n - (b + o))
reaches b s o n end e = omega arith

starts : (end from a k : ℕ) → from ≡ min a end → k < end - from → (from ≡ a) × (from + k < end)
starts end from a k g l = omega arith

shorter : (end a n : ℕ) → end ≡ min a n → min end n ≡ end
shorter end a n e = omega arith

within : (k x s t : ℕ) → k < x → x ≡ min s t → k < s
within k x s t l e = omega arith

module _ (P : ℕ) (i : Image) (mem : List ℕ) (o n : ℕ) where
  pub part_covered : covers (image_runs i.runs mem) (o / P) ≡ true → image_part P i mem o n ≡ zeros n
  unfolding image_part
  part_covered t = rw t

  pub part_stored : covers (image_runs i.runs mem) (o / P) ≡ false → image_part P i mem o n ≡ stored i mem o n
  unfolding image_part stored
  part_stored f = rw f

module _ (i : Image) (mem : List ℕ) (o n : ℕ) where
  -- the memory up to the image's end, from the offset on
  pub stored_read : (end from : ℕ) → end ≡ min (i.base + i.size) (length mem) → from ≡ min (i.base + o) end → resize n (drop from (take end mem)) ≡ stored i mem o n
  unfolding stored
  stored_read end from e g =
      let few : length (drop from (take end mem)) ≡ end - from = length-drop from (take end mem) ∙ ap (λ (x : ℕ). x - from) (length-take end mem ∙ shorter end (i.base + i.size) (length mem) e) in
      let alike : end - from ≡ min (i.size - o) (length mem - (i.base + o)) = cut end from (i.base + o) g ∙ reaches i.base i.size o (length mem) end e in
      ap (resize n) (ext_get_or 0 _ _ (few ∙ alike ∙ sym (length-take (i.size - o) (drop (i.base + o) mem) ∙ ap (min (i.size - o)) (length-drop (i.base + o) mem)))
      (λ k h.
      let l : k < end - from = subst (λ (x : ℕ). k < x) few h in
      let t : (from ≡ i.base + o) × (from + k < end) = starts end from (i.base + o) k g l in
      get_or-drop from (take end mem) k 0 ∙ get_or-take end mem (from + k) 0 t.1 ∙ ap (λ (x : ℕ). get_or mem (x + k) 0) t.0
      ∙ sym (get_or-take (i.size - o) (drop (i.base + o) mem) k 0 (within k (end - from) _ _ l alike) ∙ get_or-drop (i.base + o) mem k 0)))

  -- all of it in memory, below the size
  pub stored_inside : (end from : ℕ) → end ≡ min (i.base + i.size) (length mem) → from ≡ min (i.base + o) end → n ≤ end - from → stored i mem o n ≡ take n (drop from mem)
  stored_inside end from e g le =
      let few : length (take n (drop from mem)) ≡ n = length_part from n mem (omega arith) in
      sym (stored_read end from e g)
      ∙ ext_get_or 0 _ _ (length-resize n (drop from (take end mem)) ∙ sym few)
      (λ k h.
      let l : k < n = subst (λ (x : ℕ). k < x) (length-resize n (drop from (take end mem))) h in
      resize_in n (drop from (take end mem)) k l ∙ get_or-drop from (take end mem) k 0 ∙ get_or-take end mem (from + k) 0 (omega arith)
      ∙ sym (get_or-take n (drop from mem) k 0 l ∙ get_or-drop from mem k 0))

-- enough of it in memory, below the size
pub stored_whole : (i : Image) (mem : List ℕ) (o n : ℕ) → n ≤ length (take (i.size - o) (drop (i.base + o) mem)) → stored i mem o n ≡ take n (take (i.size - o) (drop (i.base + o) mem))
unfolding stored
stored_whole i mem o n h = resize-take n (take (i.size - o) (drop (i.base + o) mem)) h
