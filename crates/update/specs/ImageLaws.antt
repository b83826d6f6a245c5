-- The image's bytes read by parts: a part that lies in one page holds the bytes at its offsets.
use Rattle.std.specs.Prelude.{◌≡◌, refl, ℕ, ◌+◌, ◌-◌, ◌*◌, ◌/◌, ◌%◌, ◌≤◌, ◌<◌, Bool, true, false, cond, List, ltb, length, take, drop}
use Rattle.std.proofs.Math.Path.{sym, ap}
use Rattle.std.proofs.Common.{◌∙◌, arith, get_or-take, lt-ltb, le-ltb}
use Rattle.std.proofs.Math.Nat.{div-add-mod'}
use Rattle.std.proofs.Math.ListN.{get_or, length-take, get_or-eq_default}
use Rattle.std.proofs.Math.Seq.{get_or-drop, ext_get_or}
use Rattle.config.specs.Pages.{page_at}
use Rattle.memory.specs.Laws.{split, below, length-zeros, zeros_at, length-resize, resize_in}
use Rattle.runs.specs.Sets.{covers}
use Rattle.image_runs.specs.Image.{image_runs}
use Rattle.update.specs.declared.Image.{Image}
use Rattle.update.specs.Lists.{tabulate_from}
use Rattle.update.specs.ListLaws.{tabulate_at, length-tabulate, tabulate_from-at, length-tabulate_from}
use Rattle.update.specs.Image.{image_byte, image_in, image_page, image_part}
use Rattle.update.specs.PageLaws.{same_page}

same_either : {A : Type 0} (b : Bool) (x : A) → cond b x x ≡ x
same_either true x = refl
same_either false x = refl

pub length-image_page : (P : ℕ) (b : ℕ → ℕ) (p : ℕ) → length (image_page P b p) ≡ P
unfolding image_page
length-image_page P b p = length-tabulate P _

module _ (P : ℕ) (pos : 0 < P) where
  module _ (i : Image) (mem : List ℕ) where
    pub length-image_part : (o n : ℕ) → length (image_part P i mem o n) ≡ n
    unfolding image_part
    length-image_part o n = split (covers (image_runs i.runs mem) (o / P)) (λ t. rw t (length-zeros n)) (λ f. rw f (length-resize n _))

    pub part_at : (o n k : ℕ) → o % P + n ≤ P → k < n → get_or (image_part P i mem o n) k 0 ≡ image_in P i mem (o + k)
    unfolding image_part image_byte
    part_at o n k h j = rw (same_page P pos o k (omega arith)) (split (covers (image_runs i.runs mem) (o / P))
        (λ t. rw t (zeros_at n k ∙ sym (same_either (ltb (o + k) i.size) 0)))
        (λ f. rw f (resize_in n _ k j ∙ below (o + k) i.size
        (λ lo. rw (lt-ltb (o + k) i.size lo) (get_or-take (i.size - o) (drop (i.base + o) mem) k 0 (omega arith) ∙ get_or-drop (i.base + o) mem k 0 ∙ ap (λ (x : ℕ). get_or mem x 0) (omega arith)))
        (λ hi. rw (le-ltb (o + k) i.size hi) (get_or-eq_default (take (i.size - o) (drop (i.base + o) mem)) 0 (omega (arith, length-take (i.size - o) (drop (i.base + o) mem))))))))

    -- the part of a page is the image's bytes at its offsets
    pub part_is : (o n : ℕ) → o % P + n ≤ P → image_part P i mem o n ≡ tabulate_from o n (image_in P i mem)
    part_is o n h = ext_get_or 0 _ _ (length-image_part o n ∙ sym (length-tabulate_from o n (image_in P i mem)))
        (λ k j. let l : k < n = omega (arith, length-image_part o n) in part_at o n k h l ∙ sym (tabulate_from-at o n (image_in P i mem) k l))

    -- a whole page
    pub page_is : (p : ℕ) → image_part P i mem (p * P) P ≡ image_page P (image_in P i mem) p
    unfolding image_page
    page_is p =
        let q : p * P / P ≡ p = page_at P pos p (p * P) (omega arith) (omega arith) in
        let h : p * P % P + P ≤ P = omega (arith, div-add-mod' (p * P) P, ap (λ (x : ℕ). x * P) q) in
        ext_get_or 0 _ _ (length-image_part (p * P) P ∙ sym (length-tabulate P _))
        (λ k j. let l : k < P = omega (arith, length-image_part (p * P) P) in part_at (p * P) P k h l ∙ sym (tabulate_at P _ k l))
