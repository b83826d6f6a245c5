-- 01's superblock is a lawful codec: by meta's laws.
use Rattle.std.specs.Prelude.{◌≡◌, refl, Bool, true, get_or, drop, leb, eqb, Ok, Err}
use Rattle.std.proofs.Math.Path.{sym}
use Rattle.std.proofs.Common.{ap, ◌∙◌, subst, leb-true, arith, length-take, drop-drop}
use Prim.Native.Nat.{ℕ, zero, suc, ◌+◌, ◌-◌, ◌*◌, ◌/◌, ◌≤◌, ◌<◌, min}
use mathlib.Core.List.{List, [], ◌∷◌}
use Rattle.std.proofs.Math.ListN.{length}
use Rattle.std.proofs.Math.Seq.{get_or-drop}
use Rattle.config.specs.declared.refusal.Refusal.TheVariants.{ForeignStableMemoryImage, UnsupportedLayoutVersion, MetaChecksumMismatch}
use Rattle.memory.specs.Laws.{length-overwrite}
use Rattle.meta.specs.declared.superblock.Superblock.{Superblock}
use Rattle.meta.specs.declared.ZeroExtent.{ZeroExtent}
use Rattle.meta_load.specs.Load.{Loaded}
use Rattle.words.specs.Words.{word_at, words_in, word_at-drop, word_at_alike, word_at_lt, Bytes, bytes_drop}
use Rattle.meta.specs.Runs.{run, runs_of, numbers_of, runs_in, runs_in-alike, normalized}
use Rattle.meta.specs.Block.{magic, decode, encode, encoded_len, prefix, seal, store_in, fields_of, fields_in, field_offset, offset_is, fresh}
use Rattle.meta.specs.BlockLaws.{fields_in-at, field_at, length-encode, encoded_len-lo}
use Rattle.meta_load.specs.LoadLaws.{pick_block}
use Rattle.meta_load.specs.Load.{pick, judge, load, block_runs}
use Rattle.meta_load.specs.RoundTrip.{Wide, decode_alike, stored_at, runs_encode}
use Rattle.runs.specs.Members.{From}
use Rattle.runs.specs.SetLaws.{normalized_from}
use Rattle.image_runs.specs.Image.{image_count, image_numbers, image_runs, image_all}
use Rattle.runs.specs.FlatLaws.{length-numbers}
use Rattle.update.specs.PageLaws.{EndsBy}
use Rattle.store.specs.Codec.{stored, real_codec}
use Rattle.store.specs.Blocks.{importing}
use Rattle.store.specs.Lawful.{Fits, LoadedAs, Lawful, Alike}

-- ## Fields

module _ (b : Superblock) (runs mem : List ℕ) (lent : 16544 ≤ length mem) where
  -- a field that is a number of 64 bits is read again
  field_stored : (i : ℕ) → i < 18 → get_or (fields_of (seal b runs)) i 0 < 18446744073709551616 → get_or (fields_in (store_in b runs mem)) i 0 ≡ get_or (fields_of (seal b runs)) i 0
  field_stored i lt w =
      let z : Superblock = seal b runs in
      fields_in-at (store_in b runs mem) i lt
      ∙ word_at_alike (field_offset i) (store_in b runs mem) (encode z runs) (λ j lo hi. stored_at b runs mem lent j (omega (arith, encoded_len-lo b runs, offset_is i)))
      ∙ field_at z runs i lt w

-- ## Runs

length-runs_in : (n : ℕ) (l : List ℕ) → length (runs_in n l) ≡ n
length-runs_in zero l = refl
length-runs_in (suc n) l = ap suc (length-runs_in n (drop 16 l))

words_runs : (n : ℕ) (l : List ℕ) → runs_of (words_in (n * 2) l) ≡ runs_in n l
words_runs zero l = refl
words_runs (suc n) l =
    let e : suc n * 2 ≡ suc (suc (n * 2)) = omega arith in
    let y : word_at 0 (drop 8 l) ≡ word_at 8 l = word_at-drop 8 0 l in
    let d : drop 8 (drop 8 l) ≡ drop 16 l = drop-drop 8 8 l in
    ap (λ (k : ℕ). runs_of (words_in k l)) e
    ∙ (λ i. run (word_at 0 l) (y i) ∷ (ap (λ (t : List ℕ). runs_of (words_in (n * 2) t)) d ∙ words_runs n (drop 16 l)) i)

-- the runs of an image whose memory holds them
image_runs_lem : (n : ℕ) (m : List ℕ) → n ≤ 1024 → 16544 ≤ length m → image_runs n m ≡ runs_in n (drop 160 m)
unfolding image_numbers
image_runs_lem n m h l = ap (λ (k : ℕ). runs_of (words_in (k * 2) (drop 160 m))) (image_all n m h (omega arith)) ∙ words_runs n (drop 160 m)

runs_wide : (m : ℕ) (rs : List ZeroExtent) → From m rs → EndsBy 18446744073709551615 rs → Wide (numbers_of rs)
runs_wide m [] f e k = omega arith
runs_wide m (x ∷ rs) f e zero = omega (arith, f.1, e.0)
runs_wide m (x ∷ rs) f e (suc zero) = omega (arith, e.0)
runs_wide m (x ∷ rs) f e (suc (suc k)) = runs_wide (suc x.end) rs f.2 e.1 k

runs_again : (rs : List ZeroExtent) → runs_of (numbers_of rs) ≡ rs
runs_again [] = refl
runs_again (x ∷ rs) = ap (λ (l : List ZeroExtent). x ∷ l) (runs_again rs)

-- what is read from bytes is a number of 64 bits
runs_end : (n : ℕ) (l : List ℕ) → Bytes l → EndsBy 18446744073709551615 (runs_in n l)
runs_end zero l b = tt
runs_end (suc n) l b = (omega (arith, word_at_lt 8 l b), runs_end n (drop 16 l) (bytes_drop 16 l b))

module _ (b : Superblock) (rs : List ZeroExtent) (mem : List ℕ) (fit : Fits 1024 18446744073709551615 b rs) (lent : 65536 ≤ length mem) where
  runs_stored : image_runs (length rs) (store_in b (numbers_of rs) mem) ≡ rs
  unfolding encoded_len store_in seal
  runs_stored =
      let ns : List ℕ = numbers_of rs in
      let long : length (store_in b ns mem) ≡ length mem = length-overwrite 0 (prefix (seal b ns) ns) mem in
      image_runs_lem (length rs) (store_in b ns mem) fit.few (omega arith)
      ∙ runs_in-alike (length rs) (drop 160 (store_in b ns mem)) (drop 160 (encode (seal b ns) ns)) (λ i h.
      get_or-drop 160 (store_in b ns mem) i 0 ∙ stored_at b ns mem (omega arith) (160 + i) (omega (arith, fit.counted, fit.few)) ∙ sym (get_or-drop 160 (encode (seal b ns) ns) i 0))
      ∙ runs_encode (seal b ns) ns (length rs) fit.few (length-numbers rs) (runs_wide 0 rs (normalized_from rs fit.sorted) fit.ends)
      ∙ runs_again rs

-- ## The tests at opening

record Judged (b x : Superblock) (t : Bool) : Type 0 where
  is : b ≡ x
  few : b.zero_extent_count ≤ 1024
  sorted : t ≡ true

judged : (b : Superblock) (s : ℕ) (t : Bool) (x : Superblock) → judge b s t ≡ Ok x → Judged b x t
unfolding judge
judged b s t x e =
    let bad : Loaded = Err MetaChecksumMismatch in
    let a6 : Loaded = pick t (Ok b) bad in
    let a5 : Loaded = pick (eqb b.meta_checksum s) a6 bad in
    let a4 : Loaded = pick (leb b.zero_extent_count 1024) a5 bad in
    let a3 : Loaded = pick (eqb b.layout_version 8) a4 (Err (UnsupportedLayoutVersion b.layout_version)) in
    let a2 : Loaded = pick (eqb b.version 8) a3 (Err (UnsupportedLayoutVersion b.version)) in
    let e1 : a2 ≡ Ok x = (pick_block (eqb b.magic magic) a2 ForeignStableMemoryImage x e).1 in
    let e2 : a3 ≡ Ok x = (pick_block (eqb b.version 8) a3 (UnsupportedLayoutVersion b.version) x e1).1 in
    let e3 : a4 ≡ Ok x = (pick_block (eqb b.layout_version 8) a4 (UnsupportedLayoutVersion b.layout_version) x e2).1 in
    let e4 : (leb b.zero_extent_count 1024 ≡ true) × (a5 ≡ Ok x) = pick_block (leb b.zero_extent_count 1024) a5 MetaChecksumMismatch x e3 in
    let e5 : a6 ≡ Ok x = (pick_block (eqb b.meta_checksum s) a6 MetaChecksumMismatch x e4.1).1 in
    let e6 : (t ≡ true) × (Ok b ≡ Ok x) = pick_block t (Ok b) MetaChecksumMismatch x e5 in
    let q : Ok b ≡ Ok x = e6.1 in
    record { is = cc; few = leb-true b.zero_extent_count 1024 e4.0; sorted = e6.0 }

loaded : (b : Superblock) (m : List ℕ) → Bytes m → 65536 ≤ length m → load m ≡ Ok b → LoadedAs 1024 18446744073709551615 real_codec b m
unfolding load real_codec block_runs
loaded b m bytes l e =
    let j : Judged (decode m) b (normalized (block_runs m)) = judged (decode m) _ (normalized (block_runs m)) b e in
    let n : (decode m).zero_extent_count ≡ b.zero_extent_count = ap (λ (x : Superblock). x.zero_extent_count) j.is in
    let few : b.zero_extent_count ≤ 1024 = omega (arith, j.few) in
    let r : image_runs b.zero_extent_count m ≡ runs_in b.zero_extent_count (drop 160 m) = image_runs_lem b.zero_extent_count m few (omega arith) in
    record {
      decoded = j.is;
      counted = ap length r ∙ length-runs_in b.zero_extent_count (drop 160 m);
      few = few;
      ends = subst (EndsBy 18446744073709551615) (sym r) (runs_end b.zero_extent_count (drop 160 m) (bytes_drop 160 m bytes));
      sorted = subst (λ (x : List ZeroExtent). normalized x ≡ true) (sym (r ∙ ap (λ (x : ℕ). runs_in x (drop 160 m)) (sym n))) j.sorted;
    }

near_runs : (n : ℕ) (a b : List ℕ) → 65536 ≤ length a → 65536 ≤ length b → Alike 65536 a b → image_runs n a ≡ image_runs n b
unfolding image_numbers image_count
near_runs n a b p q h =
    let ea : min (min n 1024) ((length a - 160) / 16) ≡ min n 1024 = omega arith in
    let eb : min (min n 1024) ((length b - 160) / 16) ≡ min n 1024 = omega arith in
    ap (λ (k : ℕ). runs_of (words_in (k * 2) (drop 160 a))) ea
    ∙ words_runs (min n 1024) (drop 160 a)
    ∙ runs_in-alike (min n 1024) (drop 160 a) (drop 160 b) (λ i j. get_or-drop 160 a i 0 ∙ h (160 + i) (omega arith) ∙ sym (get_or-drop 160 b i 0))
    ∙ sym (words_runs (min n 1024) (drop 160 b))
    ∙ sym (ap (λ (k : ℕ). runs_of (words_in (k * 2) (drop 160 b))) eb)

short_real : (b : Superblock) (ns : List ℕ) → length (prefix (seal b ns) ns) ≤ 65536
unfolding prefix
short_real b ns = omega (arith, length-take (encoded_len (seal b ns)) (encode (seal b ns) ns), length-encode (seal b ns) ns)

pub real_lawful : Lawful 65536 1024 18446744073709551615 real_codec
unfolding real_codec stored store_in decode seal fresh importing
real_lawful = record {
  short = λ b rs f. short_real b (numbers_of rs);
  size_is = λ b rs m f l. field_stored b (numbers_of rs) m (omega arith) 0 (omega arith) (omega (arith, f.size));
  base_is = λ b rs m f l. field_stored b (numbers_of rs) m (omega arith) 12 (omega arith) (omega (arith, f.base));
  count_is = λ b rs m f l. field_stored b (numbers_of rs) m (omega arith) 16 (omega arith) (omega (arith, f.counted, f.few)) ∙ f.counted;
  runs_is = λ b rs m f l. runs_stored b rs m f l;
  near_block = λ a b h. decode_alike a b (λ i j. h i (omega arith));
  near_runs = near_runs;
  loads = loaded;
  fresh_size = refl;
  fresh_base = refl;
  fresh_count = refl;
  fresh_import = refl;
  room = omega arith;
}
