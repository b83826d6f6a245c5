-- Little-endian numbers in bytes. 01: "`encode` is little-endian".
use Rattle.std.specs.Prelude.{◌≡◌, refl, List, [], ◌∷◌, ◌++◌, ℕ, zero, suc, ◌+◌, ◌-◌, ◌*◌, ◌/◌, ◌%◌, ◌≤◌, ◌<◌, length, get_or, take, drop}
use Rattle.std.proofs.Common.{sym, ap, ◌∙◌, append_assoc, append-nil, add-zero, add_assoc, zero-add, suc-add, mul_left_comm, arith, length-append, length-take, add-one, get_or-drop, drop-drop, take_all, take-suc, get_or-take}
use Rattle.std.specs.Int.{from_le_bytes, to_le_bytes}
use Rattle.std.proofs.Common.{w64}
use Rattle.memory.specs.Bytes.{overwrite}
use Rattle.memory.specs.Laws.{overwrite_join}
use Rattle.std.proofs.lemmas.List.Edits.{sets, sets-eq}
use Rattle.std.proofs.Math.Seq.{take-nil, take-append-add}

-- the k bytes of n, the lowest first
abbrev pub le : ℕ → ℕ → List ℕ
le zero n = []
le (suc k) n = n % 256 ∷ le k (n / 256)

-- the number in the first k bytes of a list, whose bytes past the end count as 0
abbrev pub de : ℕ → List ℕ → ℕ
de zero l = 0
de (suc k) l = get_or l 0 0 + 256 * de k (drop 1 l)

-- 256 to the power k
abbrev pub width : ℕ → ℕ
width zero = 1
width (suc k) = 256 * width k

-- every element is a byte
abbrev pub Bytes : List ℕ → Type 0
Bytes l = (i : ℕ) → get_or l i 0 < 256

-- ## One number

pub length-le : (k n : ℕ) → length (le k n) ≡ k
length-le zero n = refl
length-le (suc k) n = ap suc (length-le k (n / 256))

pub de_le : (k n : ℕ) (t : List ℕ) → n < width k → de k (le k n ++ t) ≡ n
de_le zero n t h = omega arith
de_le (suc k) n t h = let r : de k (le k (n / 256) ++ t) ≡ n / 256 = de_le k (n / 256) t (omega arith) in omega arith

pub bytes_drop : (k : ℕ) (l : List ℕ) → Bytes l → Bytes (drop k l)
bytes_drop k l b i = rw (get_or-drop k l i 0) (b (k + i))

pub de_lt : (k : ℕ) (l : List ℕ) → Bytes l → de k l < width k
de_lt zero l b = omega arith
de_lt (suc k) l b = omega (arith, b 0, de_lt k (drop 1 l) (bytes_drop 1 l b))

pub le_de : (k : ℕ) (l : List ℕ) → Bytes l → k ≤ length l → le k (de k l) ≡ take k l
le_de zero l b h = refl
le_de (suc k) [] b h = absurd (omega arith)
le_de (suc k) (x ∷ l) b h =
    let lo : (x + 256 * de k l) % 256 ≡ x = omega (arith, b 0) in
    let hi : (x + 256 * de k l) / 256 ≡ de k l = omega (arith, b 0) in
    let r : le k (de k l) ≡ take k l = le_de k l (λ i. b (suc i)) (omega arith) in
    λ j. lo j ∷ (ap (le k) hi ∙ r) j

-- only the first k bytes count
pub de_alike : (k : ℕ) (a b : List ℕ) → ((i : ℕ) → i < k → get_or a i 0 ≡ get_or b i 0) → de k a ≡ de k b
de_alike zero a b h = refl
de_alike (suc k) a b h =
    let e : get_or a 0 0 ≡ get_or b 0 0 = h 0 (omega arith) in
    let r : de k (drop 1 a) ≡ de k (drop 1 b) = de_alike k (drop 1 a) (drop 1 b) (λ i j. get_or-drop 1 a i 0 ∙ h (1 + i) (omega arith) ∙ sym (get_or-drop 1 b i 0)) in
    λ j. e j + 256 * r j

-- ## Numbers of 64 bits

unfoldable pub word : ℕ → List ℕ
word n = le 8 n

-- the number at a byte offset
unfoldable pub word_at : ℕ → List ℕ → ℕ
word_at o l = de 8 (drop o l)

-- numbers one behind the other
abbrev pub words : List ℕ → List ℕ
words [] = []
words (n ∷ ns) = word n ++ words ns

-- n numbers from the front of the bytes on
abbrev pub words_in : ℕ → List ℕ → List ℕ
words_in zero l = []
words_in (suc n) l = word_at 0 l ∷ words_in n (drop 8 l)

pub length-word : (n : ℕ) → length (word n) ≡ 8
unfolding word
length-word n = length-le 8 n

pub length-words : (ns : List ℕ) → length (words ns) ≡ length ns * 8
length-words [] = refl
length-words (n ∷ ns) = omega (arith, length-append (word n) (words ns), length-word n, length-words ns)

pub length-words_in : (n : ℕ) (l : List ℕ) → length (words_in n l) ≡ n
length-words_in zero l = refl
length-words_in (suc n) l = ap suc (length-words_in n (drop 8 l))

pub word_at_lt : (o : ℕ) (l : List ℕ) → Bytes l → word_at o l < 18446744073709551616
unfolding word_at
word_at_lt o l b = de_lt 8 (drop o l) (bytes_drop o l b)

pub word_at-drop : (a o : ℕ) (l : List ℕ) → word_at o (drop a l) ≡ word_at (a + o) l
unfolding word_at
word_at-drop a o l = ap (de 8) (drop-drop o a l)

pub word_at_alike : (o : ℕ) (a b : List ℕ) → ((i : ℕ) → o ≤ i → i < o + 8 → get_or a i 0 ≡ get_or b i 0) → word_at o a ≡ word_at o b
unfolding word_at
word_at_alike o a b h = de_alike 8 (drop o a) (drop o b) (λ i j. get_or-drop o a i 0 ∙ h (o + i) (omega arith) (omega arith) ∙ sym (get_or-drop o b i 0))

-- a number that was written is read again
pub word_at_word : (n : ℕ) (t : List ℕ) → n < 18446744073709551616 → word_at 0 (word n ++ t) ≡ n
unfolding word_at word
word_at_word n t h = de_le 8 n t h

-- the number at word i
pub words_in_at : (n i : ℕ) (l : List ℕ) → i < n → get_or (words_in n l) i 0 ≡ word_at (i * 8) l
words_in_at zero i l h = absurd (omega arith)
words_in_at (suc n) zero l h = refl
words_in_at (suc n) (suc i) l h =
    words_in_at n i (drop 8 l) (omega arith) ∙ word_at-drop 8 (i * 8) l
    ∙ (let e : 8 + i * 8 ≡ suc i * 8 = omega arith in ap (λ (o : ℕ). word_at o l) e)

-- the number at a byte offset, byte by byte
pub word_at_sum : (o : ℕ) (l : List ℕ) → word_at o l ≡
    get_or l o 0 + get_or l (o + 1) 0 * 0x100 + get_or l (o + 2) 0 * 0x10000 + get_or l (o + 3) 0 * 0x1000000 + get_or l (o + 4) 0 * 0x100000000
    + get_or l (o + 5) 0 * 0x10000000000 + get_or l (o + 6) 0 * 0x1000000000000 + get_or l (o + 7) 0 * 0x100000000000000
unfolding word_at
word_at_sum o l = simp (drop-drop, get_or-drop, add-zero, add_assoc) (omega arith)

-- it is what the library makes of those eight bytes
pub word_at_bytes : (o : ℕ) (l : List ℕ) → from_le_bytes w64 (take 8 (drop o l)) ≡ word_at o l
unfolding word_at
word_at_bytes o l =
    sym (word_at_sum 0 (take 8 (drop o l))) ∙ de_alike 8 (take 8 (drop o l)) (drop o l) (λ i h. get_or-take 8 (drop o l) i 0 h)

-- a number's bytes by division
abbrev pub eight : ℕ → List ℕ
eight x =
    x % 0x100 ∷ x / 0x100 % 0x100 ∷ x / 0x10000 % 0x100 ∷ x / 0x1000000 % 0x100 ∷ x / 0x100000000 % 0x100
    ∷ x / 0x10000000000 % 0x100 ∷ x / 0x1000000000000 % 0x100 ∷ x / 0x100000000000000 ∷ []

pub word_eight : (x : ℕ) → x < 18446744073709551616 → word x ≡ eight x
unfolding word
word_eight x h =
    let two : x / 256 / 256 ≡ x / 0x10000 = omega arith in
    let three : x / 256 / 256 / 256 ≡ x / 0x1000000 = omega arith in
    let four : x / 256 / 256 / 256 / 256 ≡ x / 0x100000000 = omega arith in
    let five : x / 256 / 256 / 256 / 256 / 256 ≡ x / 0x10000000000 = omega arith in
    let six : x / 256 / 256 / 256 / 256 / 256 / 256 ≡ x / 0x1000000000000 = omega arith in
    let seven : x / 256 / 256 / 256 / 256 / 256 / 256 / 256 % 256 ≡ x / 0x100000000000000 = omega arith in
    λ i. x % 256 ∷ x / 256 % 256 ∷ two i % 256 ∷ three i % 256 ∷ four i % 256 ∷ five i % 256 ∷ six i % 256 ∷ seven i ∷ []

-- they are the bytes that the library gives
pub word_bytes : (x : ℕ) → x < 18446744073709551616 → word x ≡ to_le_bytes w64 x
word_bytes x h = word_eight x h ∙ (let top : x / 0x100000000000000 ≡ x / 0x100000000000000 % 256 = omega arith in λ i.
    x % 256 ∷ x / 256 % 256 ∷ x / 0x10000 % 256 ∷ x / 0x1000000 % 256 ∷ x / 0x100000000 % 256 ∷ x / 0x10000000000 % 256 ∷ x / 0x1000000000000 % 256 ∷ top i ∷ [])

-- stores one behind the other
pub sets_overwrite : (vs l : List ℕ) (at : ℕ) → at + length vs ≤ length l → sets l at vs ≡ overwrite at vs l
unfolding overwrite
sets_overwrite vs l at h = sets-eq vs l at h ∙ rw (take_all (length l - at) vs (omega arith)) (append_assoc (take at l) vs (drop (at + length vs) l))

pub words_append : (a b : List ℕ) → words (a ++ b) ≡ words a ++ words b
words_append [] b = refl
words_append (n ∷ a) b = ap (λ (l : List ℕ). word n ++ l) (words_append a b) ∙ sym (append_assoc (word n) (words a) (words b))

-- one number more
pub words_more : (ns l : List ℕ) (at k : ℕ) → k < length ns
    → overwrite (at + k * 8) (word (get_or ns k 0)) (overwrite at (words (take k ns)) l) ≡ overwrite at (words (take (k + 1) ns)) l
words_more ns l at k h =
    let n : length (words (take k ns)) ≡ k * 8 = length-words (take k ns) ∙ omega (arith, length-take k ns) in
    let e : take (k + 1) ns ≡ take k ns ++ (get_or ns k 0 ∷ []) = rw (add-one k) (take-suc ns k 0 h) in
    let f : words (take k ns ++ (get_or ns k 0 ∷ [])) ≡ words (take k ns) ++ word (get_or ns k 0) = words_append (take k ns) (get_or ns k 0 ∷ []) ∙ ap (λ (t : List ℕ). words (take k ns) ++ t) (append-nil (word (get_or ns k 0))) in
    rw (e, f, ← n) (overwrite_join at (words (take k ns)) (word (get_or ns k 0)) l)

-- a number and another above it are one number
pub le_join : (k j a b : ℕ) → a < width k → le (k + j) (a + b * width k) ≡ le k a ++ le j b
le_join zero j a b h =
    let e : a + b * 1 ≡ b = omega arith in
    rw (zero-add, e)
le_join (suc k) j a b h =
    let m : b * (256 * width k) ≡ 256 * (b * width k) = mul_left_comm b 256 (width k) in
    let lo : (a + b * (256 * width k)) % 256 ≡ a % 256 = omega (arith, m) in
    let hi : (a + b * (256 * width k)) / 256 ≡ a / 256 + b * width k = omega (arith, m) in
    rw (suc-add k j, lo, hi) (ap (λ (l : List ℕ). a % 256 ∷ l) (le_join k j (a / 256) b (omega arith)))

pub word_halves : (a b : ℕ) → a < 4294967296 → word (a + b * 4294967296) ≡ le 4 a ++ le 4 b
unfolding word
word_halves a b h = le_join 4 4 a b h

pub de_halves : (o : ℕ) (l : List ℕ) → Bytes l → (word_at o l % 4294967296 ≡ de 4 (drop o l)) × (word_at o l / 4294967296 ≡ de 4 (drop (o + 4) l))
unfolding word_at
de_halves o l b =
    let hi : de 4 (drop 1 (drop 1 (drop 1 (drop 1 (drop o l))))) ≡ de 4 (drop (o + 4) l) = simp (drop-drop, add_assoc) in
    let lt : de 4 (drop o l) < 4294967296 = de_lt 4 (drop o l) (bytes_drop o l b) in
    omega (arith, hi, lt)

pub take_words : (n : ℕ) (ns : List ℕ) → take (n * 8) (words ns) ≡ words (take n ns)
take_words zero ns = refl
take_words (suc n) [] = take-nil (suc n * 8)
take_words (suc n) (x ∷ ns) =
    let e : suc n * 8 ≡ length (word x) + n * 8 = omega (arith, length-word x) in
    rw e (take-append-add (word x) (words ns) (n * 8)) ∙ ap (λ (l : List ℕ). word x ++ l) (take_words n ns)
