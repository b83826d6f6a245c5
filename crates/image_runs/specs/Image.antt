-- The runs of an image, in its bytes.
use Rattle.std.specs.Prelude.{ℕ, zero, suc, refl, ◌+◌, ◌-◌, ◌*◌, ◌/◌, ◌≤◌, ◌<◌, min, ◌≡◌, List, ◌∷◌, length, get_or, take, drop}
use Rattle.std.proofs.Common.{sym, ap, ◌∙◌, arith, get_or-drop, drop-drop, take_all, length-take, length-drop}
use Rattle.std.proofs.lemmas.List.{get_or-take}
use Rattle.meta.specs.declared.ZeroExtent.{ZeroExtent}
use Rattle.meta.specs.Runs.{run, runs_of, runs_in-alike}
use Rattle.meta.specs.Runs.{runs_in as stored}
use Rattle.words.specs.Words.{de, word_at, words_in, word_at-drop, words_in_at, length-words_in}
use Rattle.runs.specs.Flat.{runs_in, at, upto}
use Rattle.runs.specs.FlatLaws.{runs_in-upto, length-upto}

-- 01: "From 160 follow at most 1,024 zero runs of 16 bytes". Of n such runs, those that lie whole in the bytes
unfoldable pub image_count : ℕ → List ℕ → ℕ
image_count n mem = min (min n 1024) ((length mem - 160) / 16)

-- "a start and an end page": their numbers
unfoldable pub image_numbers : ℕ → List ℕ → List ℕ
image_numbers n mem = words_in (image_count n mem * 2) (drop 160 mem)

abbrev pub image_runs : ℕ → List ℕ → List ZeroExtent
image_runs n mem = runs_of (image_numbers n mem)

pub length-image : (n : ℕ) (mem : List ℕ) → length (image_numbers n mem) ≡ image_count n mem * 2
unfolding image_numbers
length-image n mem = length-words_in (image_count n mem * 2) (drop 160 mem)

pub image_most : (n : ℕ) (mem : List ℕ) → image_count n mem ≤ 1024
unfolding image_count
image_most n mem = omega arith

pub image_fits : (n i : ℕ) (mem : List ℕ) → i < image_count n mem → 176 + i * 16 ≤ length mem
unfolding image_count
image_fits n i mem h = omega arith

-- an image that an opening accepted has them all
pub image_all : (n : ℕ) (mem : List ℕ) → n ≤ 1024 → 160 + n * 16 ≤ length mem → image_count n mem ≡ n
unfolding image_count
image_all n mem h k = omega arith

pub image_whole : (n : ℕ) (mem : List ℕ) → n ≤ 1024 → 160 + n * 16 ≤ length mem → image_runs n mem ≡ runs_of (words_in (n * 2) (drop 160 mem))
unfolding image_numbers
image_whole n mem h k = rw (image_all n mem h k)

pub image_upto : (n : ℕ) (mem : List ℕ) → upto (image_numbers n mem) 0 (image_count n mem) ≡ image_runs n mem
unfolding runs_in
image_upto n mem =
    sym (runs_in-upto (image_numbers n mem) (image_count n mem) (omega (arith, length-image n mem)))
    ∙ ap runs_of (take_all (image_count n mem * 2) (image_numbers n mem) (omega (arith, length-image n mem)))

-- the same numbers, as runs in bytes
pub words_runs : (n : ℕ) (l : List ℕ) → runs_of (words_in (n * 2) l) ≡ stored n l
words_runs zero l = refl
words_runs (suc n) l =
    let e : suc n * 2 ≡ suc (suc (n * 2)) = omega arith in
    let y : word_at 0 (drop 8 l) ≡ word_at 8 l = word_at-drop 8 0 l in
    let d : drop 8 (drop 8 l) ≡ drop 16 l = drop-drop 8 8 l in
    ap (λ (k : ℕ). runs_of (words_in k l)) e
    ∙ (λ i. run (word_at 0 l) (y i) ∷ (ap (λ (t : List ℕ). runs_of (words_in (n * 2) t)) d ∙ words_runs n (drop 16 l)) i)

-- the image's runs in the bytes that hold them and no more
pub image_stored : (n : ℕ) (mem : List ℕ) → let b = take (image_count n mem * 16) (drop 160 mem) in stored (length b / 16) b ≡ image_runs n mem
unfolding image_count image_numbers
image_stored n mem =
    let k : ℕ = image_count n mem in
    let l : List ℕ = drop 160 mem in
    let h : length (take (k * 16) l) / 16 ≡ k = omega (arith, length-take (k * 16) l, length-drop 160 mem) in
    rw h (runs_in-alike k (take (k * 16) l) l (λ i j. get_or-take (k * 16) l i 0 j) ∙ sym (words_runs k l))

pub image_few : (n : ℕ) (mem : List ℕ) → length (image_runs n mem) ≤ 1024
image_few n mem = omega (arith, ap length (image_upto n mem), length-upto (image_numbers n mem) 0 (image_count n mem), image_most n mem)

-- run i of the image
pub image_at : (n i : ℕ) (mem : List ℕ) → i < image_count n mem → at (image_numbers n mem) i ≡ run (word_at (160 + i * 16) mem) (word_at (168 + i * 16) mem)
unfolding at image_numbers
image_at n i mem h =
    let a : 160 + i * 2 * 8 ≡ 160 + i * 16 = omega arith in
    let b : 160 + (i * 2 + 1) * 8 ≡ 168 + i * 16 = omega arith in
    let s : get_or (words_in (image_count n mem * 2) (drop 160 mem)) (i * 2) 0 ≡ word_at (160 + i * 16) mem =
    words_in_at (image_count n mem * 2) (i * 2) (drop 160 mem) (omega arith) ∙ word_at-drop 160 (i * 2 * 8) mem ∙ ap (λ (o : ℕ). word_at o mem) a in
    let e : get_or (words_in (image_count n mem * 2) (drop 160 mem)) (i * 2 + 1) 0 ≡ word_at (168 + i * 16) mem =
    words_in_at (image_count n mem * 2) (i * 2 + 1) (drop 160 mem) (omega arith) ∙ word_at-drop 160 ((i * 2 + 1) * 8) mem ∙ ap (λ (o : ℕ). word_at o mem) b in
    λ k. run (s k) (e k)

de_more : (k o i : ℕ) (l : List ℕ) → de (suc k) (drop (o + i) l) ≡ get_or l (o + i) 0 + 256 * de k (drop (o + suc i) l)
de_more k o i l =
    let z : o + i + 0 ≡ o + i = omega arith in
    let y : o + i + 1 ≡ o + suc i = omega arith in
    simp (drop-drop, get_or-drop, z, y)

-- a number by its bytes
pub word_bytes : (o : ℕ) (l : List ℕ) → word_at o l ≡
    get_or l o 0 + get_or l (o + 1) 0 * 256 + get_or l (o + 2) 0 * 65536 + get_or l (o + 3) 0 * 16777216
    + get_or l (o + 4) 0 * 4294967296 + get_or l (o + 5) 0 * 1099511627776 + get_or l (o + 6) 0 * 281474976710656 + get_or l (o + 7) 0 * 72057594037927936
unfolding word_at
word_bytes o l =
    let z : o + 0 ≡ o = omega arith in
    let e : de 8 (drop o l) ≡ get_or l o 0 + 256 * de 7 (drop (o + 1) l) = rw z at (de_more 7 o 0 l) in
    omega (arith, de_more 6 o 1 l, de_more 5 o 2 l, de_more 4 o 3 l, de_more 3 o 4 l, de_more 2 o 5 l, de_more 1 o 6 l, de_more 0 o 7 l)
