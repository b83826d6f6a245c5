-- Encoding and decoding undo each other, and a block that was stored is accepted again.
use Rattle.std.specs.Prelude.{◌≡◌, true, Ok}
use Rattle.std.proofs.Math.Path.{refl, sym, ap, subst}
use Rattle.std.proofs.Common.{◌∙◌, mod-lt, ext_get_or, drop-drop, take-add}
use mathlib.Core.List.{List, [], ◌∷◌, ◌++◌, append_assoc, append-nil}
use Prim.Native.Nat.{ℕ, zero, suc, ◌+◌, ◌-◌, ◌*◌, ◌≤◌, ◌<◌, min}
use native.Mathlib.Omega.{arith}
use Rattle.std.proofs.Math.ListN.{length, get_or, take, drop, length-take, length-drop}
use Rattle.std.proofs.Math.Seq.{get_or-take, get_or-drop, drop_at}
use Rattle.memory.specs.Bytes.{zeros, overwrite, resize, filled}
use Rattle.memory.specs.Laws.{append_at, resize_in, overwrite_in, length-zeros, take-overwrite, take-resize, overwrite-take}
use Rattle.meta.specs.declared.superblock.Superblock.{Superblock}
use Rattle.words.specs.Words.{le, de, de_le, de_alike, le_de, length-le, word, words, word_at, words_in, word_at_word, word_at-drop, word_at_alike, length-word, Bytes, bytes_drop}
use Rattle.fnv.specs.Fnv.{step, fold, fnv1a64, basis}
use Rattle.meta.specs.Runs.{run, runs_of, runs_in, runs_in-alike, normalized}
use Rattle.meta.specs.Block.{magic, fields_of, other_fields, of_fields, fields_in, checksum_offset, offset_is, header_of, header, block_bytes, encode, decode, encoded_len, prefix, sealed_by, checksum_of, seal, store_in}
use Rattle.meta.specs.BlockLaws.{length-fields_in, length-header, length-encode, encoded_len-lo, encoded_len-hi, sealed_len, reseal}
use Rattle.meta_load.specs.Load.{block_runs, checksum_in, load}
use Rattle.meta_load.specs.LoadLaws.{judge_runs, load_is}

-- numbers of 64 bits
abbrev pub Wide : List ℕ → Type 0
Wide l = (k : ℕ) → get_or l k 0 < 18446744073709551616

-- a block whose fields are numbers of their widths, as every block in a program is
pub record Fits (b : Superblock) : Type 0 where
  pub magic : b.magic < 18446744073709551616
  pub version : b.version < 4294967296
  pub size : b.sqlite_page_size < 4294967296
  pub fields : Wide (fields_of b)

-- ## Decode after encode

words_back : (ns t : List ℕ) → Wide ns → words_in (length ns) (words ns ++ t) ≡ ns
words_back [] t w = refl
words_back (n ∷ ns) t w =
    let a : word n ++ words ns ++ t ≡ word n ++ (words ns ++ t) = append_assoc (word n) (words ns) t in
    let d : drop 8 (word n ++ words ns ++ t) ≡ words ns ++ t = ap (drop 8) a ∙ drop_at (word n) (words ns ++ t) 8 (length-word n) in
    λ i. (ap (word_at 0) a ∙ word_at_word n (words ns ++ t) (w 0)) i ∷ (ap (words_in (length ns)) d ∙ words_back ns t (λ k. w (suc k))) i

module _ (m v p : ℕ) (f t : List ℕ) where
  joined : header_of m v p f ++ t ≡ word m ++ (le 4 v ++ (le 4 p ++ (words f ++ t)))
  unfolding header_of
  joined = simp append_assoc

  decode_header : m < 18446744073709551616 → v < 4294967296 → p < 4294967296 → length f ≡ 18 → Wide f → decode (header_of m v p f ++ t) ≡ of_fields m v p f
  unfolding decode fields_in
  decode_header hm hv hp l w =
      let at8 : drop 8 (header_of m v p f ++ t) ≡ le 4 v ++ (le 4 p ++ (words f ++ t)) = ap (drop 8) joined ∙ drop_at (word m) _ 8 (length-word m) in
      let at12 : drop 12 (header_of m v p f ++ t) ≡ le 4 p ++ (words f ++ t) =
      sym (drop-drop 4 8 (header_of m v p f ++ t)) ∙ ap (drop 4) at8 ∙ drop_at (le 4 v) _ 4 (length-le 4 v) in
      let at16 : drop 16 (header_of m v p f ++ t) ≡ words f ++ t =
      sym (drop-drop 4 12 (header_of m v p f ++ t)) ∙ ap (drop 4) at12 ∙ drop_at (le 4 p) _ 4 (length-le 4 p) in
      let a : word_at 0 (header_of m v p f ++ t) ≡ m = ap (word_at 0) joined ∙ word_at_word m _ hm in
      let b : de 4 (drop 8 (header_of m v p f ++ t)) ≡ v = ap (de 4) at8 ∙ de_le 4 v (le 4 p ++ (words f ++ t)) hv in
      let c : de 4 (drop 12 (header_of m v p f ++ t)) ≡ p = ap (de 4) at12 ∙ de_le 4 p (words f ++ t) hp in
      let d : words_in 18 (drop 16 (header_of m v p f ++ t)) ≡ f = ap (words_in 18) at16 ∙ subst (λ (n : ℕ). words_in n (words f ++ t) ≡ f) l (words_back f t w) in
      λ i. of_fields (a i) (b i) (c i) (d i)

-- only the first 160 bytes count
pub decode_alike : (a b : List ℕ) → ((i : ℕ) → i < 160 → get_or a i 0 ≡ get_or b i 0) → decode a ≡ decode b
unfolding decode fields_in
decode_alike a b h =
    let part : (o k : ℕ) → o + k ≤ 160 → (i : ℕ) → i < k → get_or (drop o a) i 0 ≡ get_or (drop o b) i 0 =
    λ o k le i lt. get_or-drop o a i 0 ∙ h (o + i) (omega arith) ∙ sym (get_or-drop o b i 0) in
    let m : word_at 0 a ≡ word_at 0 b = word_at_alike 0 a b (λ i lo hi. h i (omega arith)) in
    let v : de 4 (drop 8 a) ≡ de 4 (drop 8 b) = de_alike 4 (drop 8 a) (drop 8 b) (part 8 4 (omega arith)) in
    let p : de 4 (drop 12 a) ≡ de 4 (drop 12 b) = de_alike 4 (drop 12 a) (drop 12 b) (part 12 4 (omega arith)) in
    let f : words_in 18 (drop 16 a) ≡ words_in 18 (drop 16 b) = words_alike 18 (drop 16 a) (drop 16 b) (part 16 (18 * 8) (omega arith)) in
    λ i. of_fields (m i) (v i) (p i) (f i)
  where
    words_alike : (n : ℕ) (a b : List ℕ) → ((i : ℕ) → i < n * 8 → get_or a i 0 ≡ get_or b i 0) → words_in n a ≡ words_in n b
    words_alike zero a b h = refl
    words_alike (suc n) a b h =
        let x : word_at 0 a ≡ word_at 0 b = word_at_alike 0 a b (λ i lo hi. h i (omega arith)) in
        let r : words_in n (drop 8 a) ≡ words_in n (drop 8 b) = words_alike n (drop 8 a) (drop 8 b) (λ i k. get_or-drop 8 a i 0 ∙ h (8 + i) (omega arith) ∙ sym (get_or-drop 8 b i 0)) in
        λ j. x j ∷ r j

module _ (b : Superblock) (runs : List ℕ) (fits : Fits b) where
  pub decode_encode : decode (encode b runs) ≡ b
  unfolding encode block_bytes header
  decode_encode =
      decode_alike (encode b runs) (header b ++ words runs) (λ i h. resize_in 16544 (header b ++ words runs) i (omega arith))
      ∙ decode_header b.magic b.version b.sqlite_page_size (fields_of b) (words runs) fits.magic fits.version fits.size refl fits.fields

-- ## The runs

-- runs from their numbers
runs_back : (n : ℕ) (ns t : List ℕ) → length ns ≡ n * 2 → Wide ns → runs_in n (words ns ++ t) ≡ runs_of ns
runs_back zero [] t l w = refl
runs_back zero (a ∷ ns) t l w = absurd (omega arith)
runs_back (suc n) [] t l w = absurd (omega arith)
runs_back (suc n) (a ∷ []) t l w = absurd (omega arith)
runs_back (suc n) (a ∷ b ∷ ns) t l w =
    let two : words (a ∷ b ∷ ns) ++ t ≡ word a ++ (word b ++ (words ns ++ t)) = simp append_assoc in
    let at8 : drop 8 (words (a ∷ b ∷ ns) ++ t) ≡ word b ++ (words ns ++ t) = ap (drop 8) two ∙ drop_at (word a) (word b ++ (words ns ++ t)) 8 (length-word a) in
    let at16 : drop 16 (words (a ∷ b ∷ ns) ++ t) ≡ words ns ++ t =
    sym (drop-drop 8 8 (words (a ∷ b ∷ ns) ++ t)) ∙ ap (drop 8) at8 ∙ drop_at (word b) (words ns ++ t) 8 (length-word b) in
    let x : word_at 0 (words (a ∷ b ∷ ns) ++ t) ≡ a = ap (word_at 0) two ∙ word_at_word a (word b ++ (words ns ++ t)) (w 0) in
    let z : 8 + 0 ≡ 8 = refl in
    let y : word_at 8 (words (a ∷ b ∷ ns) ++ t) ≡ b =
    sym (word_at-drop 8 0 (words (a ∷ b ∷ ns) ++ t)) ∙ ap (word_at 0) at8 ∙ word_at_word b (words ns ++ t) (w 1) in
    let r : runs_in n (drop 16 (words (a ∷ b ∷ ns) ++ t)) ≡ runs_of ns = ap (runs_in n) at16 ∙ runs_back n ns t (omega arith) (λ k. w (suc (suc k))) in
    λ i. run (x i) (y i) ∷ r i

module _ (b : Superblock) (runs : List ℕ) where
  pub runs_encode : (n : ℕ) → n ≤ 1024 → length runs ≡ n * 2 → Wide runs → runs_in n (drop 160 (encode b runs)) ≡ runs_of runs
  unfolding encode block_bytes
  runs_encode n few l w =
      runs_in-alike n (drop 160 (encode b runs)) (words runs ++ []) (λ i h.
      get_or-drop 160 (encode b runs) i 0 ∙ resize_in 16544 (header b ++ words runs) (160 + i) (omega arith)
      ∙ append_at (header b) (words runs) (160 + i) (omega (arith, length-header b))
      ∙ (let e : 160 + i - length (header b) ≡ i = omega (arith, length-header b) in ap (λ (k : ℕ). get_or (words runs) k 0) e)
      ∙ ap (λ (t : List ℕ). get_or t i 0) (sym (append-nil (words runs))))
      ∙ runs_back n runs [] l w

-- ## Encode after decode

le_numbers : (n : ℕ) (l : List ℕ) → Bytes l → n * 8 ≤ length l → words (words_in n l) ≡ take (n * 8) l
unfolding word word_at
le_numbers zero l b h = refl
le_numbers (suc n) l b h =
    let e : suc n * 8 ≡ 8 + n * 8 = omega arith in
    let a : le 8 (de 8 (drop 0 l)) ≡ take 8 l = le_de 8 l b (omega arith) in
    let r : words (words_in n (drop 8 l)) ≡ take (n * 8) (drop 8 l) = le_numbers n (drop 8 l) (bytes_drop 8 l b) (omega (arith, length-drop 8 l)) in
    (λ i. a i ++ r i) ∙ sym (take-add 8 (n * 8) l) ∙ ap (λ (k : ℕ). take k l) (sym e)

-- the numbers of the runs of a block in bytes
abbrev pub numbers_in : List ℕ → List ℕ
numbers_in bs = words_in (min (decode bs).zero_extent_count 1024 * 2) (drop 160 bs)

-- parts of a list, one behind the other
header_parts : (n : ℕ) (bs : List ℕ) (m v p : ℕ) (f : List ℕ) → word m ≡ take 8 bs → le 4 v ≡ take 4 (drop 8 bs) → le 4 p ≡ take 4 (drop 12 bs) → words f ≡ take n (drop 16 bs)
    → header_of m v p f ≡ take (8 + (4 + (4 + n))) bs
unfolding header_of
header_parts n bs m v p f a b c d =
    let two : take 4 (drop 12 bs) ++ take n (drop 16 bs) ≡ take (4 + n) (drop 12 bs) =
    ap (λ (l : List ℕ). take 4 (drop 12 bs) ++ take n l) (sym (drop-drop 4 12 bs)) ∙ sym (take-add 4 n (drop 12 bs)) in
    let three : take 4 (drop 8 bs) ++ take (4 + n) (drop 12 bs) ≡ take (4 + (4 + n)) (drop 8 bs) =
    ap (λ (l : List ℕ). take 4 (drop 8 bs) ++ take (4 + n) l) (sym (drop-drop 4 8 bs)) ∙ sym (take-add 4 (4 + n) (drop 8 bs)) in
    (λ i. a i ++ (b i ++ (c i ++ d i))) ∙ ap (λ (l : List ℕ). take 8 bs ++ (take 4 (drop 8 bs) ++ l)) two
    ∙ ap (λ (l : List ℕ). take 8 bs ++ l) three ∙ sym (take-add 8 (4 + (4 + n)) bs)

-- f k, f (k + 1), .. : n values
abbrev values : (ℕ → ℕ) → ℕ → ℕ → List ℕ
values f k zero = []
values f k (suc n) = f k ∷ values f (suc k) n

-- a list is the list of its elements
spelled : (l : List ℕ) (n : ℕ) → length l ≡ n → values (λ k. get_or l k 0) 0 n ≡ l
spelled l n e = ext_get_or 0 _ _ (length-values 0 n ∙ sym e) (λ i h. value_at 0 n i (omega (arith, length-values 0 n)) ∙ ap (λ (j : ℕ). get_or l j 0) {x = 0 + i} {y = i} (omega arith))
  where
    length-values : (k n : ℕ) → length (values (λ j. get_or l j 0) k n) ≡ n
    length-values k zero = refl
    length-values k (suc n) = ap suc (length-values (suc k) n)

    value_at : (k n i : ℕ) → i < n → get_or (values (λ j. get_or l j 0) k n) i 0 ≡ get_or l (k + i) 0
    value_at k zero i h = absurd (omega arith)
    value_at k (suc n) zero h = ap (λ (j : ℕ). get_or l j 0) (omega arith)
    value_at k (suc n) (suc i) h = value_at (suc k) n i (omega arith) ∙ ap (λ (j : ℕ). get_or l j 0) (omega arith)

module _ (bs : List ℕ) (bytes : Bytes bs) (len : length bs ≡ 16544) where
  magic_decode : word (decode bs).magic ≡ take 8 bs
  unfolding decode word word_at
  magic_decode = le_de 8 bs bytes (omega arith)

  version_decode : le 4 (decode bs).version ≡ take 4 (drop 8 bs)
  unfolding decode
  version_decode = le_de 4 (drop 8 bs) (bytes_drop 8 bs bytes) (omega (arith, length-drop 8 bs))

  size_decode : le 4 (decode bs).sqlite_page_size ≡ take 4 (drop 12 bs)
  unfolding decode
  size_decode = le_de 4 (drop 12 bs) (bytes_drop 12 bs bytes) (omega (arith, length-drop 12 bs))

  fields_decode : words (fields_of (decode bs)) ≡ take (18 * 8) (drop 16 bs)
  unfolding decode
  fields_decode =
      ap words (spelled (fields_in bs) 18 (length-fields_in bs)) ∙ (unfold fields_in in le_numbers 18 (drop 16 bs) (bytes_drop 16 bs bytes) (omega (arith, length-drop 16 bs)))

  header_decode : header (decode bs) ≡ take 160 bs
  unfolding header
  header_decode = header_parts (18 * 8) bs (decode bs).magic (decode bs).version (decode bs).sqlite_page_size (fields_of (decode bs))
      magic_decode version_decode size_decode fields_decode

  pub encode_decode : prefix (decode bs) (numbers_in bs) ≡ take (encoded_len (decode bs)) bs
  unfolding prefix encode block_bytes encoded_len
  encode_decode =
      let k : ℕ = min (decode bs).zero_extent_count 1024 in
      let n : k * 2 * 8 ≡ k * 16 = omega arith in
      let r : words (numbers_in bs) ≡ take (k * 16) (drop 160 bs) =
      le_numbers (k * 2) (drop 160 bs) (bytes_drop 160 bs bytes) (omega (arith, length-drop 160 bs)) ∙ ap (λ (x : ℕ). take x (drop 160 bs)) n in
      let e : header (decode bs) ++ words (numbers_in bs) ≡ take (160 + k * 16) bs = (λ i. header_decode i ++ r i) ∙ sym (take-add 160 (k * 16) bs) in
      let l : length (take (160 + k * 16) bs) ≡ 160 + k * 16 = length-take (160 + k * 16) bs ∙ omega arith in
      ap (λ (x : List ℕ). take (160 + k * 16) (resize 16544 x)) e
      ∙ ap (λ (x : ℕ). take x (resize 16544 (take (160 + k * 16) bs))) (sym l) ∙ take-resize 16544 (take (160 + k * 16) bs) (omega arith)

-- ## A stored block is accepted again

-- a hash is a number of 64 bits
fold_lt : (h : ℕ) (l : List ℕ) → h < 18446744073709551616 → fold h l < 18446744073709551616
unfolding fold step
fold_lt h [] k = k
fold_lt h (x ∷ l) k = fold_lt (step h x) l (mod-lt (_) (omega arith))

pub fnv_lt : (l : List ℕ) → fnv1a64 l < 18446744073709551616
unfolding fnv1a64
fnv_lt l = fold_lt basis l (omega arith)

module _ (b : Superblock) (runs : List ℕ) (fits : Fits b) where
  pub seal_fits : Fits (seal b runs)
  unfolding seal checksum_of
  seal_fits = record {
    magic = fits.magic;
    version = omega arith;
    size = fits.size;
    fields = λ k. last_lt (other_fields b) b.meta_checksum (checksum_of b runs) (fnv_lt _) fits.fields k;
  }
    where
      last_lt : (l : List ℕ) (x y : ℕ) → y < 18446744073709551616 → Wide (l ++ (x ∷ [])) → Wide (l ++ (y ∷ []))
      last_lt [] x y h w zero = h
      last_lt [] x y h w (suc k) = omega arith
      last_lt (z ∷ l) x y h w zero = w 0
      last_lt (z ∷ l) x y h w (suc k) = last_lt l x y h (λ j. w (suc j)) k

module _ (b : Superblock) (runs : List ℕ) where
  seal_len : encoded_len (seal b runs) ≡ encoded_len b
  unfolding seal
  seal_len = sealed_len b runs (checksum_of b runs)

  prefix_long : length (prefix (seal b runs) runs) ≡ encoded_len b
  unfolding prefix
  prefix_long = length-take (encoded_len (seal b runs)) (encode (seal b runs) runs) ∙ omega (arith, seal_len, encoded_len-hi b runs, length-encode (seal b runs) runs)

  -- the stored bytes are those of the block
  pub stored_at : (mem : List ℕ) → 16544 ≤ length mem → (i : ℕ) → i < encoded_len b → get_or (store_in b runs mem) i 0 ≡ get_or (encode (seal b runs) runs) i 0
  unfolding store_in prefix
  stored_at mem lent i h =
      let p : List ℕ = prefix (seal b runs) runs in
      overwrite_in 0 p mem i (omega arith) (omega (arith, prefix_long)) (omega (arith, encoded_len-hi b runs))
      ∙ ap (λ (k : ℕ). get_or p k 0) {x = i - 0} {y = i} (omega arith)
      ∙ get_or-take (encoded_len (seal b runs)) (encode (seal b runs) runs) i 0 (omega (arith, seal_len))

module _ (b : Superblock) (runs mem : List ℕ) (fits : Fits b) (lent : 16544 ≤ length mem) where
  pub decode_stored : decode (store_in b runs mem) ≡ seal b runs
  decode_stored =
      decode_alike (store_in b runs mem) (encode (seal b runs) runs) (λ i h. stored_at b runs mem lent i (omega (arith, encoded_len-lo b runs)))
      ∙ decode_encode (seal b runs) runs (seal_fits b runs fits)

  zero_word : zeros 8 ≡ word 0
  unfolding filled word
  zero_word = refl

  -- with the checksum field as 0 they are the bytes that were hashed
  blank : overwrite checksum_offset (zeros 8) (prefix (seal b runs) runs) ≡ prefix (sealed_by 0 b) runs
  unfolding prefix seal
  blank =
      let n : ℕ = encoded_len (sealed_by (checksum_of b runs) b) in
      overwrite-take checksum_offset n (zeros 8) (encode (sealed_by (checksum_of b runs) b) runs) (omega (arith, length-zeros 8, offset_is 17, encoded_len-lo (sealed_by (checksum_of b runs) b) runs))
      ∙ ap (λ (z : List ℕ). take n (overwrite checksum_offset z (encode (sealed_by (checksum_of b runs) b) runs))) zero_word
      ∙ ap (take n) (reseal b runs (checksum_of b runs) 0)
      ∙ ap (λ (k : ℕ). take k (encode (sealed_by 0 b) runs)) (sealed_len b runs (checksum_of b runs) ∙ sym (sealed_len b runs 0))

  front : take (length (prefix (seal b runs) runs)) (store_in b runs mem) ≡ prefix (seal b runs) runs
  unfolding store_in
  front = take-overwrite (prefix (seal b runs) runs) mem (omega (arith, prefix_long b runs, encoded_len-hi b runs))

  seal_count : (seal b runs).zero_extent_count ≡ b.zero_extent_count
  unfolding seal
  seal_count = refl

  pub sum_stored : checksum_in (store_in b runs mem) ≡ checksum_of b runs
  unfolding checksum_in checksum_of
  sum_stored =
      let p : List ℕ = prefix (seal b runs) runs in
      let n : encoded_len (decode (store_in b runs mem)) ≡ length p = ap encoded_len decode_stored ∙ seal_len b runs ∙ sym (prefix_long b runs) in
      ap (λ (k : ℕ). fnv1a64 (overwrite checksum_offset (zeros 8) (take k (store_in b runs mem)))) n
      ∙ ap (λ (l : List ℕ). fnv1a64 (overwrite checksum_offset (zeros 8) l)) front
      ∙ ap fnv1a64 blank

  module _ (few : b.zero_extent_count ≤ 1024) (count : length runs ≡ b.zero_extent_count * 2) (wide : Wide runs) where
    pub runs_stored : block_runs (store_in b runs mem) ≡ runs_of runs
    unfolding block_runs encoded_len
    runs_stored =
        let n : ℕ = b.zero_extent_count in
        ap (λ (k : ℕ). runs_in k (drop 160 (store_in b runs mem))) (ap (λ (x : Superblock). x.zero_extent_count) decode_stored ∙ seal_count)
        ∙ runs_in-alike n (drop 160 (store_in b runs mem)) (drop 160 (encode (seal b runs) runs)) (λ i h.
        get_or-drop 160 (store_in b runs mem) i 0 ∙ stored_at b runs mem lent (160 + i) (omega arith) ∙ sym (get_or-drop 160 (encode (seal b runs) runs) i 0))
        ∙ runs_encode (seal b runs) runs n few count wide

    -- 01's tests 1 to 3 pass on what was stored, whatever memory held before
    pub stored_accepted : b.magic ≡ magic → b.layout_version ≡ 8 → normalized (runs_of runs) ≡ true → load (store_in b runs mem) ≡ Ok (seal b runs)
    unfolding seal
    stored_accepted m l sorted =
        load_is (store_in b runs mem) (seal b runs) (sym decode_stored)
        ∙ judge_runs (seal b runs) (checksum_in (store_in b runs mem)) (normalized (block_runs (store_in b runs mem))) m refl l few (sym sum_stored)
        ∙ rw (runs_stored, sorted)
