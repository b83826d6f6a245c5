-- Laws of the tests at opening.
use Rattle.std.specs.Prelude.{◌≡◌, refl, List, Bool, true, false, take, drop, Ok, Err}
use Rattle.std.proofs.Common.{sym, ◌∙◌, take-take, get_or-take}
use Rattle.std.proofs.Math.Path.{ap}
use Prim.Native.Nat.{ℕ, ◌+◌, ◌-◌, ◌*◌, ◌/◌, ◌≤◌, ◌<◌}
use native.Mathlib.Omega.{arith}
use borrow.Author.Tests.{eq-eqb, ne_eqb, le-leb, lt-leb}
use Rattle.std.proofs.Math.ListN.{length, length-take, length-drop}
use Rattle.memory.specs.Bytes.{zeros, overwrite}
use Rattle.memory.specs.Laws.{overwrite_mid, length-zeros, drop-take}
use Rattle.config.specs.declared.refusal.Refusal.{Refusal}
use Rattle.config.specs.declared.refusal.Refusal.TheVariants.{ForeignStableMemoryImage, UnsupportedLayoutVersion, MetaChecksumMismatch}
use Rattle.meta.specs.declared.superblock.Superblock.{Superblock}
use Rattle.meta.specs.Runs.{runs_in, runs_in-alike, normalized}
use Rattle.meta.specs.Block.{magic, decode, encoded_len, checksum_offset, offset_is}
use Rattle.meta_load.specs.Load.{Loaded, block_runs, checksum_in, pick, judge, load}
use Rattle.fnv.specs.Fnv.{fold, fold_join, basis, fnv1a64, fnv_is}

-- the hash with the checksum field as 0, in three parts
pub checksum_parts : (n : ℕ) (bs z : List ℕ) → 160 ≤ n → n ≤ length bs → z ≡ zeros 8
    → fold (fold (fold basis (take checksum_offset bs)) z) (take (n - 160) (drop 160 bs)) ≡ fnv1a64 (overwrite checksum_offset (zeros 8) (take n bs))
checksum_parts n bs z lo hi e =
    let t : take checksum_offset (take n bs) ≡ take checksum_offset bs = take-take checksum_offset n bs (omega (arith, offset_is 17)) in
    let l : length (take n bs) ≡ n = length-take n bs ∙ omega arith in
    let k : checksum_offset + length (zeros 8) ≡ 160 = omega (arith, length-zeros 8, offset_is 17) in
    let d : drop 160 (take n bs) ≡ take (n - 160) (drop 160 bs) = drop-take 160 n bs in
    rw (fnv_is, overwrite_mid checksum_offset (zeros 8) (take n bs) (omega (arith, offset_is 17)), k, t, d, e, fold_join, fold_join)

-- a list of runs needs no byte past its last run
pub runs_in-take : (n : ℕ) (l : List ℕ) → runs_in n (take (n * 16) l) ≡ runs_in n l
runs_in-take n l = runs_in-alike n (take (n * 16) l) l (λ i h. get_or-take (n * 16) l i 0 h)

-- a test before which a block was loaded had passed
pub pick_block : (t : Bool) (a : Loaded) (r : Refusal) (b : Superblock) → pick t a (Err r) ≡ Ok b → (t ≡ true) × (a ≡ Ok b)
pick_block true a r b e = (refl, e)
pick_block false a r b e = let z : ◌≡◌ {A = ℕ} 0 1 = cc in absurd (omega arith)

module _ (b : Superblock) (sum : ℕ) (sorted : Bool) where
  pub judge_foreign : (b.magic ≡ magic → ⊥) → judge b sum sorted ≡ Err ForeignStableMemoryImage
  unfolding judge
  judge_foreign h = rw (ne_eqb b.magic magic h)

  module _ (m : b.magic ≡ magic) where
    pub judge_version : (b.version ≡ 8 → ⊥) → judge b sum sorted ≡ Err (UnsupportedLayoutVersion b.version)
    unfolding judge
    judge_version h = rw (eq-eqb b.magic magic m, ne_eqb b.version 8 h)

    module _ (v : b.version ≡ 8) where
      pub judge_layout : (b.layout_version ≡ 8 → ⊥) → judge b sum sorted ≡ Err (UnsupportedLayoutVersion b.layout_version)
      unfolding judge
      judge_layout h = rw (eq-eqb b.magic magic m, eq-eqb b.version 8 v, ne_eqb b.layout_version 8 h)

      module _ (l : b.layout_version ≡ 8) where
        pub judge_count : 1024 < b.zero_extent_count → judge b sum sorted ≡ Err MetaChecksumMismatch
        unfolding judge
        judge_count h = rw (eq-eqb b.magic magic m, eq-eqb b.version 8 v, eq-eqb b.layout_version 8 l, lt-leb b.zero_extent_count 1024 h)

        module _ (n : b.zero_extent_count ≤ 1024) where
          pub judge_sum : (b.meta_checksum ≡ sum → ⊥) → judge b sum sorted ≡ Err MetaChecksumMismatch
          unfolding judge
          judge_sum h = rw (eq-eqb b.magic magic m, eq-eqb b.version 8 v, eq-eqb b.layout_version 8 l, le-leb b.zero_extent_count 1024 n, ne_eqb b.meta_checksum sum h)

          pub judge_runs : b.meta_checksum ≡ sum → judge b sum sorted ≡ pick sorted (Ok b) (Err MetaChecksumMismatch)
          unfolding judge
          judge_runs h = rw (eq-eqb b.magic magic m, eq-eqb b.version 8 v, eq-eqb b.layout_version 8 l, le-leb b.zero_extent_count 1024 n, eq-eqb b.meta_checksum sum h)

-- what the code reads is what the definition speaks of
module _ (bs : List ℕ) (b : Superblock) (is : b ≡ decode bs) where
  pub load_is : load bs ≡ judge b (checksum_in bs) (normalized (block_runs bs))
  unfolding load
  load_is = ap (λ (x : Superblock). judge x (checksum_in bs) (normalized (block_runs bs))) (sym is)

  module _ (n : ℕ) (len : n ≡ encoded_len b) where
    pub sum_is : fnv1a64 (overwrite checksum_offset (zeros 8) (take n bs)) ≡ checksum_in bs
    unfolding checksum_in
    sum_is = ap (λ (k : ℕ). fnv1a64 (overwrite checksum_offset (zeros 8) (take k bs))) (len ∙ ap encoded_len is)

    pub runs_are : 16544 ≤ length bs → b.zero_extent_count ≤ 1024
        → runs_in (length (take (n - 160) (drop 160 bs)) / 16) (take (n - 160) (drop 160 bs)) ≡ block_runs bs
    unfolding block_runs encoded_len
    runs_are long few =
        let k : ℕ = b.zero_extent_count in
        let e : n - 160 ≡ k * 16 = omega arith in
        let l : length (take (n - 160) (drop 160 bs)) / 16 ≡ k = omega (arith, length-take (n - 160) (drop 160 bs), length-drop 160 bs) in
        rw (l, e) (runs_in-take k (drop 160 bs)) ∙ ap (λ (x : Superblock). runs_in x.zero_extent_count (drop 160 bs)) is
