-- A small codec: the calls can be run by computation with it, at pages of 2 bytes and stable pages of 24. A field of the superblock, or a number
-- of a run, takes one element of memory; at most 3 runs; numbers up to 1,000.
use Rattle.std.specs.Prelude.{◌≡◌, refl, true, List, [], ◌∷◌, ◌++◌, leb, eqb, take, drop, Ok, Err}
use Rattle.std.proofs.Common.{sym, ap, ◌∙◌, append_assoc, length-append, length-drop, get_or-drop, leb-true}
use Prim.Native.Nat.{ℕ, zero, suc, ◌+◌, ◌*◌, ◌%◌, ◌≤◌, min}
use native.Mathlib.Omega.{arith}
use Rattle.std.proofs.Math.ListN.{length}
use Rattle.config.specs.declared.refusal.Refusal.TheVariants.{MetaChecksumMismatch}
use Rattle.memory.specs.Laws.{overwrite_mid}
use Rattle.meta.specs.declared.superblock.Superblock.{Superblock}
use Rattle.meta.specs.declared.ZeroExtent.{ZeroExtent}
use Rattle.meta_load.specs.Load.{Loaded}
use Rattle.words.specs.Words.{Bytes}
use Rattle.meta.specs.Runs.{runs_of, numbers_of, normalized}
use Rattle.meta.specs.Block.{magic, fields_of, other_fields, of_fields, sealed_by}
use Rattle.meta_load.specs.LoadLaws.{pick_block}
use Rattle.meta_load.specs.Load.{pick}
use Rattle.runs.specs.Flat.{runs_in}
use Rattle.runs.specs.FlatLaws.{length-numbers, length-runs_in, runs_numbers}
use Rattle.update.specs.ListLaws.{take-alike}
use Rattle.update.specs.PageLaws.{EndsBy}
use Rattle.store.specs.Codec.{Codec, stored}
use Rattle.store.specs.Blocks.{importing}
use Rattle.store.specs.Lawful.{LoadedAs, Lawful, Alike}

abbrev pub small_hash : ℕ → List ℕ → ℕ
small_hash h [] = h
small_hash h (x ∷ l) = small_hash ((h * 7 + x + 1) % 251) l

-- the checksum of all other fields and of the runs
unfoldable pub small_sum : Superblock → List ZeroExtent → ℕ
small_sum b rs = small_hash 1 (other_fields b ++ numbers_of rs)

unfoldable pub small_decode : List ℕ → Superblock
small_decode m = of_fields magic 8 2 m

unfoldable pub small_runs : ℕ → List ℕ → List ZeroExtent
small_runs n m = runs_in (min n 3) (drop 18 m)

-- 3: too many runs, a wrong checksum, or runs that are not normalized
unfoldable pub small_load : List ℕ → Loaded
small_load m =
    let b : Superblock = small_decode m in
    let rs : List ZeroExtent = small_runs b.zero_extent_count m in
    let bad : Loaded = Err MetaChecksumMismatch in
    pick (leb b.zero_extent_count 3) (pick (eqb b.meta_checksum (small_sum b rs)) (pick (normalized rs) (Ok b) bad) bad) bad

-- the database of a new image follows the first stable page
unfoldable pub small_fresh : Superblock
small_fresh = of_fields magic 8 2 (0 ∷ 0 ∷ 0 ∷ 0 ∷ 0 ∷ 0 ∷ 0 ∷ 0 ∷ 0 ∷ 0 ∷ 0 ∷ 0 ∷ 24 ∷ 0 ∷ 0 ∷ 8 ∷ 0 ∷ 0 ∷ [])

unfoldable pub small_codec : Codec
small_codec = record {
  sum = small_sum;
  bytes = λ b rs. fields_of (sealed_by (small_sum b rs) b) ++ numbers_of rs;
  decode = small_decode;
  runs_in = small_runs;
  load = small_load;
  fresh = small_fresh;
  hash = small_hash;
  seed = 1;
}

-- ## It is lawful

module _ (b : Superblock) (rs : List ZeroExtent) (m : List ℕ) (few : length rs ≤ 3) (long : 24 ≤ length m) where
  abbrev bytes : List ℕ
  bytes = fields_of (sealed_by (small_sum b rs) b) ++ numbers_of rs

  bytes-length : length bytes ≤ 24
  bytes-length = omega (arith, length-append (fields_of (sealed_by (small_sum b rs) b)) (numbers_of rs), length-numbers rs)

  in_front : stored small_codec b rs m ≡ fields_of (sealed_by (small_sum b rs) b) ++ (numbers_of rs ++ drop (length bytes) m)
  unfolding stored small_codec
  in_front = overwrite_mid 0 bytes m (omega (arith, bytes-length)) ∙ (let z : 0 + length bytes ≡ length bytes = omega arith in rw z (simp append_assoc))

  small_runs_lem : small_runs (length rs) (stored small_codec b rs m) ≡ rs
  unfolding small_runs runs_in
  small_runs_lem =
      let e : min (length rs) 3 ≡ length rs = omega arith in
      rw (e, in_front) (runs_numbers rs (drop (length bytes) m))

  small_block : small_decode (stored small_codec b rs m) ≡ of_fields magic 8 2 (fields_of (sealed_by (small_sum b rs) b))
  unfolding small_decode
  small_block = rw in_front

runs_ends : (n : ℕ) (w : List ℕ) → Bytes w → EndsBy 1000 (runs_of (take (n * 2) w))
runs_ends zero w b = tt
runs_ends (suc n) [] b = let e : suc n * 2 ≡ suc (suc (n * 2)) = omega arith in rw e tt
runs_ends (suc n) (x ∷ []) b = let e : suc n * 2 ≡ suc (suc (n * 2)) = omega arith in rw e tt
runs_ends (suc n) (x ∷ y ∷ w) b =
    let e : suc n * 2 ≡ suc (suc (n * 2)) = omega arith in
    rw e (omega (arith, b 1), runs_ends n w (λ i. b (suc (suc i))))

ends_in : (n : ℕ) (w : List ℕ) → Bytes w → EndsBy 1000 (runs_in n w)
unfolding runs_in
ends_in n w b = runs_ends n w b

bytes_drop : (k : ℕ) (l : List ℕ) → Bytes l → Bytes (drop k l)
bytes_drop k l b i = rw (get_or-drop k l i 0) (b (k + i))

small_loads : (b : Superblock) (m : List ℕ) → Bytes m → 24 ≤ length m → small_load m ≡ Ok b → LoadedAs 3 1000 small_codec b m
unfolding small_load small_codec small_runs
small_loads b m bytes long e =
    let x : Superblock = small_decode m in
    let rs : List ZeroExtent = small_runs x.zero_extent_count m in
    let bad : Loaded = Err MetaChecksumMismatch in
    let a3 : Loaded = pick (normalized rs) (Ok x) bad in
    let a2 : Loaded = pick (eqb x.meta_checksum (small_sum x rs)) a3 bad in
    let e1 : (leb x.zero_extent_count 3 ≡ true) × (a2 ≡ Ok b) = pick_block (leb x.zero_extent_count 3) a2 MetaChecksumMismatch b e in
    let e2 : a3 ≡ Ok b = (pick_block (eqb x.meta_checksum (small_sum x rs)) a3 MetaChecksumMismatch b e1.1).1 in
    let e3 : (normalized rs ≡ true) × (Ok x ≡ Ok b) = pick_block (normalized rs) (Ok x) MetaChecksumMismatch b e2 in
    let q : Ok x ≡ Ok b = e3.1 in
    let is : x ≡ b = cc in
    let few : x.zero_extent_count ≤ 3 = leb-true x.zero_extent_count 3 e1.0 in
    rw (← is) (record {
      decoded = refl;
      counted =
          let n : min x.zero_extent_count 3 ≡ x.zero_extent_count = omega arith in
          ap (λ (j : ℕ). length (runs_in j (drop 18 m))) n ∙ length-runs_in (drop 18 m) x.zero_extent_count (omega (arith, length-drop 18 m));
      few = few;
      ends = ends_in (min x.zero_extent_count 3) (drop 18 m) (bytes_drop 18 m bytes);
      sorted = e3.0;
    })

small_near : (n : ℕ) (a b : List ℕ) → 24 ≤ length a → 24 ≤ length b → Alike 24 a b → small_runs n a ≡ small_runs n b
unfolding small_runs runs_in
small_near n a b p q h = ap runs_of (take-alike (min n 3 * 2) (drop 18 a) (drop 18 b) (omega (arith, length-drop 18 a)) (omega (arith, length-drop 18 b))
    (λ i j. get_or-drop 18 a i 0 ∙ h (18 + i) (omega arith) ∙ sym (get_or-drop 18 b i 0)))

small_same : (a b : List ℕ) → Alike 24 a b → small_decode a ≡ small_decode b
unfolding small_decode
small_same a b h = λ i. record {
  magic = magic;
  version = 8;
  sqlite_page_size = 2;
  db_size = h 0 (omega arith) i;
  schema_version = h 1 (omega arith) i;
  last_tx_id = h 2 (omega arith) i;
  flags = h 3 (omega arith) i;
  checksum = h 4 (omega arith) i;
  import_expected_checksum = h 5 (omega arith) i;
  import_written_until = h 6 (omega arith) i;
  import_total_size = h 7 (omega arith) i;
  import_base_offset = h 8 (omega arith) i;
  checksum_refresh_offset = h 9 (omega arith) i;
  checksum_refresh_hash = h 10 (omega arith) i;
  checksum_refresh_tx_id = h 11 (omega arith) i;
  db_base_offset = h 12 (omega arith) i;
  page_table_offset = h 13 (omega arith) i;
  page_count = h 14 (omega arith) i;
  layout_version = h 15 (omega arith) i;
  zero_extent_count = h 16 (omega arith) i;
  meta_checksum = h 17 (omega arith) i;
}

pub small_lawful : Lawful 24 3 1000 small_codec
unfolding small_codec small_fresh importing
small_lawful = record {
  short = λ b rs f. omega (arith, length-append (fields_of (sealed_by (small_sum b rs) b)) (numbers_of rs), length-numbers rs, f.few);
  size_is = λ b rs m f l. ap (λ (x : Superblock). x.db_size) (small_block b rs m f.few l);
  base_is = λ b rs m f l. ap (λ (x : Superblock). x.db_base_offset) (small_block b rs m f.few l);
  count_is = λ b rs m f l. ap (λ (x : Superblock). x.zero_extent_count) (small_block b rs m f.few l) ∙ f.counted;
  runs_is = λ b rs m f l. small_runs_lem b rs m f.few l;
  near_block = small_same;
  near_runs = small_near;
  loads = small_loads;
  fresh_size = refl;
  fresh_base = refl;
  fresh_count = refl;
  fresh_import = refl;
  room = omega arith;
}
