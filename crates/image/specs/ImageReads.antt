-- The image's bytes read page by page, and its runs number by number.
use Rattle.std.specs.Prelude.{◌≡◌, ℕ, zero, suc, ◌+◌, ◌-◌, ◌*◌, ◌/◌, ◌%◌, ◌≤◌, ◌<◌, min, List, [], ◌∷◌, ◌++◌, length, take, drop, get_or, set}
use Rattle.std.proofs.Common.{sym, ap, ◌∙◌, zero-add, suc-add, add-zero, arith, ext_get_or, take_all, le-ltb}
use borrow.Rule.Slice.PartMut.{put_mid}
use Rattle.memory.specs.Bytes.{zeros, overwrite, filled}
use Rattle.memory.specs.Laws.{length-zeros, zeros_at, length-overwrite, overwrite_join, overwrite_all, overwrite_more, take-overwrite, part_back}
use Rattle.fnv.specs.Fnv.{fold, fold_join, fold_nil}
use Rattle.fnv.specs.Zeros.{fold_zeros, fold_zeros-is}
use Rattle.meta.specs.Runs.{numbers_of}
use Rattle.meta.specs.Runs.{runs_in as stored}
use Rattle.words.specs.Words.{word_at, word_at-drop, words_in, words_in_at, length-words_in}
use Rattle.runs.specs.FlatLaws.{numbers_runs}
use Rattle.runs.specs.Lists.{length-runs_of, length-stored}
use Rattle.image_runs.specs.Image.{image_count, image_numbers, image_runs, length-image, words_runs}
use Rattle.update.specs.declared.Image.{Image}
use Rattle.update.specs.Lists.{tabulate_from}
use Rattle.update.specs.ListLaws.{tabulate_from-at, length-tabulate_from, part_tail}
use Rattle.update.specs.Image.{image_byte, image_in, image_part}
use Rattle.update.specs.ImageLaws.{part_is}

-- ## Bytes by offset

pub tabulate_join : (o n m : ℕ) (f : ℕ → ℕ) → tabulate_from o (n + m) f ≡ tabulate_from o n f ++ tabulate_from (o + n) m f
tabulate_join o zero m f = rw (zero-add m, add-zero o)
tabulate_join o (suc n) m f =
    let e : o + suc n ≡ suc o + n = omega arith in
    rw (suc-add n m, e) (ap (λ (l : List ℕ). f o ∷ l) (tabulate_join (suc o) n m f))

module _ (P : ℕ) (pos : 0 < P) (i : Image) (mem : List ℕ) where
  abbrev byte : ℕ → ℕ
  byte = image_in P i mem

  -- one part more of a page, behind the bytes read so far
  pub read_more : (o done k n : ℕ) (d new : List ℕ) → n ≡ k → (o + done) % P + k ≤ P → done + k ≤ length d → new ≡ image_part P i mem (o + done) n
      → put_mid done k (overwrite 0 (tabulate_from o done byte) d) new ≡ overwrite 0 (tabulate_from o (done + k) byte) d
  read_more o done k n d new l h g e =
      let w : new ≡ tabulate_from (o + done) k byte = e ∙ ap (image_part P i mem (o + done)) l ∙ part_is P pos i mem (o + done) k h in
      let m : length new ≡ k = ap length w ∙ length-tabulate_from (o + done) k byte in
      let z : 0 + length (tabulate_from o done byte) ≡ done = omega (arith, length-tabulate_from o done byte) in
      part_back done k (overwrite 0 (tabulate_from o done byte) d) new m (omega (arith, length-overwrite 0 (tabulate_from o done byte) d))
      ∙ ap (λ (x : ℕ). overwrite x new (overwrite 0 (tabulate_from o done byte) d)) (sym z)
      ∙ overwrite_join 0 (tabulate_from o done byte) new d
      ∙ ap (λ (x : List ℕ). overwrite 0 (tabulate_from o done byte ++ x) d) w
      ∙ ap (λ (x : List ℕ). overwrite 0 x d) (sym (tabulate_join o done k byte))

  -- all of them
  pub read_all : (o n : ℕ) (d : List ℕ) → n ≡ length d → overwrite 0 (tabulate_from o n byte) d ≡ tabulate_from o (length d) byte
  read_all o n d e = ap (λ (x : ℕ). overwrite 0 (tabulate_from o x byte) d) e ∙ overwrite_all (tabulate_from o (length d) byte) d (length-tabulate_from o (length d) byte)

  -- past the size
  byte_past : (o : ℕ) → i.size ≤ o → byte o ≡ 0
  unfolding image_byte
  byte_past o h = rw (le-ltb o i.size h)

  pub read_past : (o n : ℕ) → (0 < n → i.size ≤ o) → zeros n ≡ tabulate_from o n byte
  read_past o n h = ext_get_or 0 _ _ (length-zeros n ∙ sym (length-tabulate_from o n byte))
      (λ k j.
      let u : k < n = omega (arith, length-zeros n) in
      let p : i.size ≤ o = h (omega arith) in
      zeros_at n k ∙ sym (tabulate_from-at o n byte k u ∙ byte_past (o + k) (omega arith)))

  -- up to the size, and past it
  pub read_both : (o n : ℕ) (new d z : List ℕ) → n ≤ length d → (n < length d → i.size ≤ o + n) → new ≡ tabulate_from o n byte
      → z ≡ zeros (length (take (length (new ++ drop n d) - n) (drop n (new ++ drop n d))))
      → put_mid n (length (new ++ drop n d) - n) (new ++ drop n d) z ≡ tabulate_from o (length d) byte
  read_both o n new d z h p e f =
      let m : length new ≡ n = ap length e ∙ length-tabulate_from o n byte in
      let s : n + (length d - n) ≡ length d = omega arith in
      part_tail n new d z m h f ∙ (λ j. e j ++ read_past (o + n) (length d - n) (λ x. p (omega arith)) j)
      ∙ sym (tabulate_join o n (length d - n) byte) ∙ ap (λ (x : ℕ). tabulate_from o x byte) s

  -- the checksum taken on over a part of a page
  pub fold_more : (at end k n sum next : ℕ) → k ≡ n → at + n ≤ end → at % P + n ≤ P → next ≡ fold sum (image_part P i mem at k)
      → fold next (tabulate_from (at + n) (end - (at + n)) byte) ≡ fold sum (tabulate_from at (end - at) byte)
  fold_more at end k n sum next l h g e =
      let rest : List ℕ = tabulate_from (at + n) (end - (at + n)) byte in
      let s : n + (end - (at + n)) ≡ end - at = omega arith in
      ap (λ (x : ℕ). fold x rest) e ∙ fold_join sum (image_part P i mem at k) rest
      ∙ ap (λ (x : List ℕ). fold sum (x ++ rest)) (ap (image_part P i mem at) l ∙ part_is P pos i mem at n g)
      ∙ ap (fold sum) (sym (tabulate_join at n (end - (at + n)) byte) ∙ ap (λ (x : ℕ). tabulate_from at x byte) s)

  pub fold_last : (at end sum : ℕ) → end ≤ at → fold sum (tabulate_from at (end - at) byte) ≡ sum
  fold_last at end sum h = let z : end - at ≡ 0 = omega arith in rw z (fold_nil sum)

-- ## Zeros

pub fold_zeros_lem : (n h : ℕ) → fold_zeros n h ≡ fold h (zeros n)
unfolding filled
fold_zeros_lem n h = fold_zeros-is n h

-- ## Runs by number

pub count_none : (count : ℕ) (mem : List ℕ) → length mem < 160 → image_count count mem ≡ 0
unfolding image_count
count_none count mem h = omega arith

pub count_is : (count : ℕ) (mem : List ℕ) (a n : ℕ) → a ≡ min count 1024 → n ≡ min a ((length mem - 160) / 16) → n ≡ image_count count mem
unfolding image_count
count_is count mem a n h k = omega arith

pub number_fits : (count k : ℕ) (mem : List ℕ) → k < image_count count mem * 2 → 160 + k * 8 + 8 ≤ length mem
unfolding image_count
number_fits count k mem h = omega arith

pub numbers_none : (count : ℕ) (mem : List ℕ) → image_count count mem ≡ 0 → image_numbers count mem ≡ []
unfolding image_numbers
numbers_none count mem z = rw z

pub number_at : (count k : ℕ) (mem : List ℕ) → k < image_count count mem * 2 → get_or (image_numbers count mem) k 0 ≡ word_at (160 + k * 8) mem
unfolding image_numbers
number_at count k mem h = words_in_at (image_count count mem * 2) k (drop 160 mem) h ∙ word_at-drop 160 (k * 8) mem

pub numbers_more : (count k x : ℕ) (mem w : List ℕ) → k < image_count count mem * 2 → k < length w → x ≡ word_at (160 + k * 8) mem
    → set (overwrite 0 (take k (image_numbers count mem)) w) k x ≡ overwrite 0 (take (k + 1) (image_numbers count mem)) w
numbers_more count k x mem w h g e =
    ap (set (overwrite 0 (take k (image_numbers count mem)) w) k) (e ∙ sym (number_at count k mem h))
    ∙ overwrite_more (image_numbers count mem) w k (omega (arith, length-image count mem)) g

pub numbers_all : (count n : ℕ) (mem w : List ℕ) → n ≡ image_count count mem * 2 → n ≤ length w
    → take n (overwrite 0 (take n (image_numbers count mem)) w) ≡ image_numbers count mem
numbers_all count n mem w e h =
    let ns : List ℕ = image_numbers count mem in
    let m : n ≡ length ns = e ∙ sym (length-image count mem) in
    ap (λ (x : List ℕ). take n (overwrite 0 x w)) (take_all n ns (omega arith)) ∙ ap (λ (x : ℕ). take x (overwrite 0 ns w)) m ∙ take-overwrite ns w (omega arith)

pub numbers_image : (count : ℕ) (mem : List ℕ) → numbers_of (image_runs count mem) ≡ image_numbers count mem
numbers_image count mem = numbers_runs (image_numbers count mem) (image_count count mem) (length-image count mem)

-- the image's runs in bytes b: as many of them, and the same numbers
module _ (count : ℕ) (mem b : List ℕ) (e : stored (length b / 16) b ≡ image_runs count mem) where
  pub stored_count : length (stored (length b / 16) b) ≡ image_count count mem
  stored_count = ap length e ∙ length-runs_of (image_numbers count mem) ∙ omega (arith, length-image count mem)

  pub stored_numbers : (k : ℕ) → k ≡ image_count count mem * 2 → words_in k b ≡ image_numbers count mem
  stored_numbers k h =
      let n : ℕ = length b / 16 in
      let m : k ≡ n * 2 = omega (arith, stored_count, length-stored n b) in
      ap (λ (x : ℕ). words_in x b) m ∙ sym (numbers_runs (words_in (n * 2) b) n (length-words_in (n * 2) b))
      ∙ ap numbers_of (words_runs n b ∙ e) ∙ numbers_image count mem
