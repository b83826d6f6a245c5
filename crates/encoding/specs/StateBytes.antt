-- A store's state as bytes: 42 numbers of 64 bits, each with its lowest byte first.
use Rattle.std.specs.Prelude.{◌≡◌, Bool, true, false, not, eqb, get_or, drop}
use Rattle.std.proofs.Math.Path.{refl, sym, ap}
use Rattle.std.proofs.Common.{◌∙◌, subst, arith, drop_at}
use Rattle.std.specs.Int.{from_bool}
use Prim.Native.Nat.{ℕ, zero, suc, ◌+◌, ◌*◌, ◌%◌, ◌<◌}
use mathlib.Core.List.{List, [], ◌∷◌, ◌++◌, append_assoc}
use Rattle.std.proofs.Math.ListN.{length, length-append}
use Rattle.memory.specs.Bytes.{overwrite}
use Rattle.memory.specs.Laws.{overwrite_join, overwrite_all}
use Rattle.memory.specs.Growth.{stable}
use Rattle.meta.specs.declared.superblock.Superblock.{Superblock}
use Rattle.meta.specs.Block.{numbers_of, of_numbers}
use Rattle.words.specs.Words.{word, words, words_in, word_at_word, length-word, length-words, words_append}
use Rattle.meta_load.specs.RoundTrip.{Wide}
use Rattle.update.specs.declared.Budget.{Budget}
use Rattle.update.specs.declared.Overlay.{Overlay}
use Rattle.store.specs.declared.State.{State}

-- ## Numbers of an overlay

abbrev pub flag : Bool → ℕ
flag true = 1
flag false = 0

-- what `u64::from` makes of a bool
pub flag_of : (b : Bool) {n : ℕ} → n ≡ from_bool b → n ≡ flag b
flag_of true e = e
flag_of false e = e

abbrev pub budget_numbers : ℕ → Budget → List ℕ
budget_numbers limited g = limited ∷ g.max_pages ∷ g.max_bytes ∷ g.passed ∷ g.peak_pages ∷ g.peak_bytes ∷ []

-- the first eight of a list
abbrev pub eight : List ℕ → List ℕ
eight p = get_or p 0 0 ∷ get_or p 1 0 ∷ get_or p 2 0 ∷ get_or p 3 0 ∷ get_or p 4 0 ∷ get_or p 5 0 ∷ get_or p 6 0 ∷ get_or p 7 0 ∷ []

abbrev pub numbers_with : ℕ → Overlay → List ℕ
numbers_with limited v = v.base_size ∷ v.size ∷ v.dirty ∷ v.recorded ∷ v.cache.count ∷ eight v.cache.pages ++ budget_numbers limited v.budget

unfoldable pub overlay_numbers : Overlay → List ℕ
overlay_numbers v = numbers_with (flag v.budget.limited) v

-- of any numbers; a limit that is not 0 is one
unfoldable pub overlay_of : List ℕ → Overlay
overlay_of n = record {
  base_size = get_or n 0 0;
  size = get_or n 1 0;
  dirty = get_or n 2 0;
  recorded = get_or n 3 0;
  cache = record {
    pages = get_or n 5 0 ∷ get_or n 6 0 ∷ get_or n 7 0 ∷ get_or n 8 0 ∷ get_or n 9 0 ∷ get_or n 10 0 ∷ get_or n 11 0 ∷ get_or n 12 0 ∷ [];
    count = get_or n 4 0;
  };
  budget = record {
    limited = not (eqb (get_or n 13 0) 0);
    max_pages = get_or n 14 0;
    max_bytes = get_or n 15 0;
    passed = get_or n 16 0;
    peak_pages = get_or n 17 0;
    peak_bytes = get_or n 18 0;
  };
}

-- ## Numbers and bytes of a state

-- the count of stable pages, the block's 21 numbers, whether an update is open, and the overlay's 19
unfoldable pub state_numbers : State → List ℕ
state_numbers s = s.count.0 ∷ numbers_of s.block ++ (flag s.updating ∷ overlay_numbers s.overlay)

unfoldable pub state_bytes : State → List ℕ
state_bytes s = words (state_numbers s)

-- of any numbers; a mark of an open update that is not 0 is one
unfoldable pub state_of : List ℕ → State
state_of n = record { count = stable (get_or n 0 0); block = of_numbers (drop 1 n); updating = not (eqb (get_or n 22 0) 0); overlay = overlay_of (drop 23 n) }

-- of any bytes, which past their end count as 0
unfoldable pub state_in : List ℕ → State
state_in bs = state_of (words_in 42 bs)

-- ## A state comes back from its bytes

pub eight_of : (p : List ℕ) → length p ≡ 8 → eight p ≡ p
eight_of [] k = absurd (omega (arith, k))
eight_of (a ∷ []) k = absurd (omega (arith, k))
eight_of (a ∷ b ∷ []) k = absurd (omega (arith, k))
eight_of (a ∷ b ∷ c ∷ []) k = absurd (omega (arith, k))
eight_of (a ∷ b ∷ c ∷ d ∷ []) k = absurd (omega (arith, k))
eight_of (a ∷ b ∷ c ∷ d ∷ e ∷ []) k = absurd (omega (arith, k))
eight_of (a ∷ b ∷ c ∷ d ∷ e ∷ f ∷ []) k = absurd (omega (arith, k))
eight_of (a ∷ b ∷ c ∷ d ∷ e ∷ f ∷ g ∷ []) k = absurd (omega (arith, k))
eight_of (a ∷ b ∷ c ∷ d ∷ e ∷ f ∷ g ∷ h ∷ []) k = refl
eight_of (a ∷ b ∷ c ∷ d ∷ e ∷ f ∷ g ∷ h ∷ x ∷ xs) k = absurd (omega (arith, k))

flag_back : (b : Bool) → not (eqb (flag b) 0) ≡ b
flag_back true = refl
flag_back false = refl

pub overlay_round : (v : Overlay) → length v.cache.pages ≡ 8 → overlay_of (overlay_numbers v) ≡ v
unfolding overlay_of overlay_numbers
overlay_round v k = rw (eight_of v.cache.pages k, flag_back v.budget.limited) refl

low_half : (n : ℕ) → n < 4294967296 → n % 4294967296 ≡ n
low_half n h = omega arith

block_round : (b : Superblock) (t : List ℕ) → b.version < 4294967296 → b.sqlite_page_size < 4294967296 → of_numbers (numbers_of b ++ t) ≡ b
block_round b t v p = rw (low_half b.version v, low_half b.sqlite_page_size p) refl

-- numbers of 64 bits come back from their bytes
words_round : (ns : List ℕ) → Wide ns → words_in (length ns) (words ns) ≡ ns
words_round [] w = refl
words_round (n ∷ ns) w =
    let d : drop 8 (word n ++ words ns) ≡ words ns = drop_at (word n) (words ns) 8 (length-word n) in
    λ i. word_at_word n (words ns) (w 0) i ∷ (ap (words_in (length ns)) d ∙ words_round ns (λ k. w (suc k))) i

module _ (s : State) where
  numbers_long : length (state_numbers s) ≡ 42
  unfolding state_numbers overlay_numbers
  numbers_long = refl

  pub bytes_long : length (state_bytes s) ≡ 336
  unfolding state_bytes
  bytes_long = length-words (state_numbers s) ∙ ap (λ (n : ℕ). n * 8) numbers_long

  module _ (version : s.block.version < 4294967296) (size : s.block.sqlite_page_size < 4294967296) (pages : length s.overlay.cache.pages ≡ 8) where
    numbers_round : state_of (state_numbers s) ≡ s
    unfolding state_of state_numbers
    numbers_round =
        let b : Superblock = s.block in
        λ i. record {
          count = s.count;
          block = block_round b (flag s.updating ∷ overlay_numbers s.overlay) version size i;
          updating = flag_back s.updating i;
          overlay = overlay_round s.overlay pages i;
        }

    -- the premises hold of every state in a program, by the types of its fields
    pub state_round : Wide (state_numbers s) → state_in (state_bytes s) ≡ s
    unfolding state_in state_bytes
    state_round w = ap state_of (ap (λ (n : ℕ). words_in n (words (state_numbers s))) (sym numbers_long) ∙ words_round (state_numbers s) w) ∙ numbers_round

-- ## Bytes that are written in four parts

words_join : (at k : ℕ) (ns ms xs : List ℕ) → k ≡ at + length ns * 8 → overwrite k (words ms) (overwrite at (words ns) xs) ≡ overwrite at (words (ns ++ ms)) xs
words_join at k ns ms xs e =
    let n : k ≡ at + length (words ns) = e ∙ ap (λ (x : ℕ). at + x) (sym (length-words ns)) in
    rw (n, words_append ns ms) (overwrite_join at (words ns) (words ms) xs)

wide_append : (a b : List ℕ) → Wide a → Wide b → Wide (a ++ b)
wide_append [] b v w k = w k
wide_append (x ∷ a) b v w zero = v 0
wide_append (x ∷ a) b v w (suc k) = wide_append a b (λ j. v (suc j)) w k

-- numbers went to a place, and are of 64 bits
abbrev pub Put : ℕ → List ℕ → List ℕ → List ℕ → Type 0
Put at ns xs ys = (ys ≡ overwrite at (words ns) xs) × Wide ns

module _ (s : State) (xs x1 x2 x3 x4 b v : List ℕ) (u : ℕ) (is_b : b ≡ numbers_of s.block) (isU : u ≡ flag s.updating) (isV : v ≡ overlay_numbers s.overlay) (p1 : Put 0 (s.count.0 ∷ []) xs x1) (p2 : Put 8 b x1 x2) (p3 : Put 176 (u ∷ []) x2 x3) (p4 : Put 184 v x3 x4) where
  all_numbers : (s.count.0 ∷ b) ++ (u ∷ v) ≡ state_numbers s
  unfolding state_numbers
  all_numbers = λ i. (s.count.0 ∷ is_b i) ++ (isU i ∷ isV i)

  pub parts_wide : Wide (state_numbers s)
  parts_wide = subst Wide all_numbers (wide_append (s.count.0 ∷ []) (b ++ (u ∷ v)) p1.1 (wide_append b (u ∷ v) p2.1 (wide_append (u ∷ []) v p3.1 p4.1)))

  pub parts_bytes : length xs ≡ 336 → x4 ≡ state_bytes s
  unfolding state_bytes
  parts_bytes long =
      let c : List ℕ = s.count.0 ∷ [] in
      let nb : length b ≡ 21 = ap length is_b in
      let two : x2 ≡ overwrite 0 (words (c ++ b)) xs = p2.0 ∙ ap (overwrite 8 (words b)) p1.0 ∙ words_join 0 8 c b xs refl in
      let three : x3 ≡ overwrite 0 (words ((c ++ b) ++ (u ∷ []))) xs =
      p3.0 ∙ ap (overwrite 176 (words (u ∷ []))) two ∙ words_join 0 176 (c ++ b) (u ∷ []) xs (omega (arith, nb)) in
      let four : x4 ≡ overwrite 0 (words (((c ++ b) ++ (u ∷ [])) ++ v)) xs =
      p4.0 ∙ ap (overwrite 184 (words v)) three ∙ words_join 0 184 ((c ++ b) ++ (u ∷ [])) v xs (omega (arith, nb, length-append (c ++ b) (u ∷ []))) in
      four ∙ ap (λ (ns : List ℕ). overwrite 0 (words ns) xs) (append_assoc (c ++ b) (u ∷ []) v ∙ all_numbers)
      ∙ overwrite_all (words (state_numbers s)) xs (bytes_long s ∙ sym long)
