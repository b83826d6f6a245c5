-- Laws of the superblock's bytes.
use Rattle.std.specs.Prelude.{◌≡◌, length, get_or, take, drop}
use Rattle.std.proofs.Math.Path.{refl, sym, ap}
use Rattle.std.proofs.Common.{◌∙◌, take_all, drop_at}
use mathlib.Core.List.{List, [], ◌∷◌, ◌++◌, append_assoc, append-nil}
use Prim.Native.Nat.{ℕ, zero, suc, ◌+◌, ◌*◌, ◌≤◌, ◌<◌, min}
use native.Mathlib.Omega.{arith}
use Rattle.std.proofs.Math.ListN.{length-append}
use Rattle.memory.specs.Bytes.{zeros, overwrite, resize}
use Rattle.memory.specs.Laws.{length-resize, resize_in, overwrite_join, overwrite_cut, overwrite_zeros, length-overwrite, below, resize_patch}
use Rattle.meta.specs.declared.superblock.Superblock.{Superblock}
use Rattle.words.specs.Words.{take_words, words_append, word_halves, le, word, words, word_at, words_in_at, word_at_word, word_at-drop, word_at_alike, length-words_in, length-word, length-words}
use Rattle.meta.specs.Block.{other_fields, fields_of, sealed_by, fields_in, field_offset, checksum_offset, offset_is, runs_begin, header, header_of, block_bytes, encode, encoded_len}

-- ## The fields in bytes

pub length-fields_in : (bs : List ℕ) → length (fields_in bs) ≡ 18
unfolding fields_in
length-fields_in bs = length-words_in 18 (drop 16 bs)

pub fields_in-at : (bs : List ℕ) (k : ℕ) → k < 18 → get_or (fields_in bs) k 0 ≡ word_at (field_offset k) bs
unfolding fields_in
fields_in-at bs k h = words_in_at 18 k (drop 16 bs) h ∙ word_at-drop 16 (k * 8) bs ∙ ap (λ (o : ℕ). word_at o bs) (sym (offset_is k))

-- ## The bytes of a block

-- the runs past the end of the block are left out
runs_cut : (n : ℕ) (runs out : List ℕ) → n ≡ min (length runs) 2048 → length out ≡ 16544 → overwrite 160 (words (take n runs)) out ≡ overwrite 160 (words runs) out
runs_cut n runs out e l = below (length runs) 2048
    (λ lo. ap (λ (t : List ℕ). overwrite 160 (words t) out) (take_all n runs (omega arith)))
    (λ hi. ap (λ (t : List ℕ). overwrite 160 t out) (sym (take_words n runs)) ∙ overwrite_cut 160 (n * 8) (words runs) out (omega arith))

module _ (m v p : ℕ) (f : List ℕ) where
  -- the fields end where the next one would lie
  length_fields : length (header_of m v p f) ≡ field_offset (length f)
  unfolding header_of
  length_fields =
      length-append (word m) (le 4 v ++ (le 4 p ++ words f)) ∙ omega (arith, length-word m, length-words f, offset_is (length f))

  length-header_of : length f ≡ 18 → length (header_of m v p f) ≡ 160
  length-header_of h = length_fields ∙ ap field_offset h ∙ runs_begin

  front_is : v < 4294967296 → word m ++ word (v + p * 4294967296) ++ words f ≡ header_of m v p f
  unfolding header_of
  front_is h = rw (word_halves v p h) (append_assoc (word m) (le 4 v ++ le 4 p) (words f))

  module _ (runs out : List ℕ) where
    -- the parts, written one behind the other
    pub encode_parts : (n : ℕ) → n ≡ min (length runs) 2048 → length out ≡ 16544 → v < 4294967296 → length f ≡ 18
        → overwrite 160 (words (take n runs)) (overwrite 16 (words f) (overwrite 8 (word (v + p * 4294967296)) (overwrite 0 (word m) out)))
        ≡ overwrite 0 (header_of m v p f ++ words runs) out
    encode_parts n e l h k =
        let w : List ℕ = word (v + p * 4294967296) in
        let one : overwrite 8 w (overwrite 0 (word m) out) ≡ overwrite 0 (word m ++ w) out =
        (let z : 0 + length (word m) ≡ 8 = omega (arith, length-word m) in rw z at (overwrite_join 0 (word m) w out)) in
        let two : overwrite 16 (words f) (overwrite 0 (word m ++ w) out) ≡ overwrite 0 (word m ++ w ++ words f) out =
        (let z : 0 + length (word m ++ w) ≡ 16 = omega (arith, length-append (word m) w, length-word m, length-word (v + p * 4294967296)) in
        rw z at (overwrite_join 0 (word m ++ w) (words f) out)) in
        let three : overwrite 160 (words runs) (overwrite 0 (header_of m v p f) out) ≡ overwrite 0 (header_of m v p f ++ words runs) out =
        (let z : 0 + length (header_of m v p f) ≡ 160 = omega (arith, length-header_of k) in rw z at (overwrite_join 0 (header_of m v p f) (words runs) out)) in
        rw (one, two, front_is h) (runs_cut n runs (overwrite 0 (header_of m v p f) out) e (length-overwrite 0 (header_of m v p f) out ∙ l) ∙ three)

pub length-header : (b : Superblock) → length (header b) ≡ 160
unfolding header
length-header b = length-header_of b.magic b.version b.sqlite_page_size (fields_of b) refl

-- ## Where the fields lie

words_at : (k : ℕ) (ns t : List ℕ) → k < length ns → get_or ns k 0 < 18446744073709551616 → word_at (k * 8) (words ns ++ t) ≡ get_or ns k 0
words_at k [] t h b = absurd (omega arith)
words_at zero (n ∷ ns) t h b = ap (word_at 0) (append_assoc (word n) (words ns) t) ∙ word_at_word n (words ns ++ t) b
words_at (suc k) (n ∷ ns) t h b =
    let e : suc k * 8 ≡ 8 + k * 8 = omega arith in
    ap (λ (o : ℕ). word_at o (words (n ∷ ns) ++ t)) e
    ∙ sym (word_at-drop 8 (k * 8) (words (n ∷ ns) ++ t))
    ∙ ap (word_at (k * 8)) (ap (drop 8) (append_assoc (word n) (words ns) t) ∙ drop_at (word n) (words ns ++ t) 8 (length-word n))
    ∙ words_at k ns t (omega arith) b

header_at : (m v p : ℕ) (f t : List ℕ) (k : ℕ) → k < length f → get_or f k 0 < 18446744073709551616 → word_at (field_offset k) (header_of m v p f ++ t) ≡ get_or f k 0
unfolding header_of
header_at m v p f t k h b =
    let front : List ℕ = word m ++ (le 4 v ++ le 4 p) in
    let e : (word m ++ (le 4 v ++ (le 4 p ++ words f))) ++ t ≡ front ++ (words f ++ t) = simp append_assoc in
    let l : length front ≡ 16 = simp (length-append, length-word) in
    (λ i. word_at (offset_is k i) (e i)) ∙ sym (word_at-drop 16 (k * 8) (front ++ (words f ++ t))) ∙ ap (word_at (k * 8)) (drop_at front (words f ++ t) 16 l) ∙ words_at k f t h b

-- field k of a block is the number at its offset
pub field_at : (b : Superblock) (runs : List ℕ) (k : ℕ) → k < 18 → get_or (fields_of b) k 0 < 18446744073709551616 → word_at (field_offset k) (encode b runs) ≡ get_or (fields_of b) k 0
unfolding encode block_bytes header
field_at b runs k h w =
    word_at_alike (field_offset k) (encode b runs) (header b ++ words runs) (λ j lo hi. resize_in 16544 (header b ++ words runs) j (omega (arith, offset_is k)))
    ∙ header_at b.magic b.version b.sqlite_page_size (fields_of b) (words runs) k h w

-- ## The checksum's field

-- it comes behind the others
header_split : (m v p c : ℕ) (g r : List ℕ) → header_of m v p (g ++ (c ∷ [])) ++ r ≡ header_of m v p g ++ (word c ++ r)
unfolding header_of
header_split m v p c g r = simp (words_append, append-nil, append_assoc)

module _ (b : Superblock) (runs : List ℕ) where
  pub length-encode : length (encode b runs) ≡ 16544
  unfolding encode
  length-encode = length-resize 16544 (block_bytes b runs)

  pub encode_is : overwrite 0 (block_bytes b runs) (zeros 16544) ≡ encode b runs
  unfolding encode
  encode_is = overwrite_zeros 16544 (block_bytes b runs)

  pub encoded_len-lo : 160 ≤ encoded_len b
  unfolding encoded_len
  encoded_len-lo = omega arith

  pub encoded_len-hi : encoded_len b ≤ 16544
  unfolding encoded_len
  encoded_len-hi = omega arith

  pub sealed_len : (c : ℕ) → encoded_len (sealed_by c b) ≡ encoded_len b
  unfolding encoded_len
  sealed_len c = refl

  -- another checksum changes its eight bytes
  pub reseal : (a c : ℕ) → overwrite checksum_offset (word c) (encode (sealed_by a b) runs) ≡ encode (sealed_by c b) runs
  unfolding encode block_bytes header
  reseal a c =
      let m : ℕ = b.magic in
      let p : ℕ = b.sqlite_page_size in
      let g : List ℕ = other_fields b in
      ap (λ (l : List ℕ). overwrite checksum_offset (word c) (resize 16544 l)) (header_split m 8 p a g (words runs))
      ∙ resize_patch 16544 checksum_offset (header_of m 8 p g) (word a) (word c) (words runs) (length_fields m 8 p g) (length-word c ∙ sym (length-word a))
      ∙ ap (resize 16544) (sym (header_split m 8 p c g (words runs)))
