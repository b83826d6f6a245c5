-- What a codec must do, and when the image in a memory is in order.
use Rattle.std.specs.Prelude.{◌≡◌, ℕ, ◌+◌, ◌*◌, ◌≤◌, ◌<◌, true, false, List, length, get_or, Ok}
use Rattle.meta.specs.declared.superblock.Superblock.{Superblock}
use Rattle.meta.specs.declared.ZeroExtent.{ZeroExtent}
use Rattle.words.specs.Words.{Bytes}
use Rattle.meta.specs.Runs.{normalized}
use Rattle.update.specs.PageLaws.{EndsBy}
use Rattle.store.specs.Codec.{Codec, stored}
use Rattle.store.specs.Blocks.{importing}

-- a block and runs that go into a superblock of at most L runs and of numbers up to M
pub record Fits (L M : ℕ) (b : Superblock) (rs : List ZeroExtent) : Type 0 where
  pub few : length rs ≤ L
  pub counted : b.zero_extent_count ≡ length rs
  pub size : b.db_size ≤ M
  pub base : b.db_base_offset ≤ M
  pub ends : EndsBy M rs
  pub sorted : normalized rs ≡ true

-- what the tests 1 to 3 promise of an accepted block
pub record LoadedAs (L M : ℕ) (k : Codec) (b : Superblock) (m : List ℕ) : Type 0 where
  pub decoded : k.decode m ≡ b
  pub counted : length (k.runs_in b.zero_extent_count m) ≡ b.zero_extent_count
  pub few : b.zero_extent_count ≤ L
  pub ends : EndsBy M (k.runs_in b.zero_extent_count m)
  pub sorted : normalized (k.runs_in b.zero_extent_count m) ≡ true

abbrev pub Alike : ℕ → List ℕ → List ℕ → Type 0
Alike n a b = (i : ℕ) → i < n → get_or a i 0 ≡ get_or b i 0

-- a block with its runs lies in the first stable page and is read from there
pub record Lawful (S L M : ℕ) (k : Codec) : Type 0 where
  pub short : (b : Superblock) (rs : List ZeroExtent) → Fits L M b rs → length (k.bytes b rs) ≤ S
  pub size_is : (b : Superblock) (rs : List ZeroExtent) (m : List ℕ) → Fits L M b rs → S ≤ length m → (k.decode (stored k b rs m)).db_size ≡ b.db_size
  pub base_is : (b : Superblock) (rs : List ZeroExtent) (m : List ℕ) → Fits L M b rs → S ≤ length m → (k.decode (stored k b rs m)).db_base_offset ≡ b.db_base_offset
  pub count_is : (b : Superblock) (rs : List ZeroExtent) (m : List ℕ) → Fits L M b rs → S ≤ length m → (k.decode (stored k b rs m)).zero_extent_count ≡ length rs
  pub runs_is : (b : Superblock) (rs : List ZeroExtent) (m : List ℕ) → Fits L M b rs → S ≤ length m → k.runs_in (length rs) (stored k b rs m) ≡ rs
  pub near_block : (a b : List ℕ) → Alike S a b → k.decode a ≡ k.decode b
  pub near_runs : (n : ℕ) (a b : List ℕ) → S ≤ length a → S ≤ length b → Alike S a b → k.runs_in n a ≡ k.runs_in n b
  pub loads : (b : Superblock) (m : List ℕ) → Bytes m → S ≤ length m → k.load m ≡ Ok b → LoadedAs L M k b m
  -- a fresh image is empty and lies behind the first stable page
  pub fresh_size : k.fresh.db_size ≡ 0
  pub fresh_base : k.fresh.db_base_offset ≡ S
  pub fresh_count : k.fresh.zero_extent_count ≡ 0
  pub fresh_import : importing k.fresh ≡ false
  pub room : S ≤ M

-- the image in memory m of c stable pages is in order, and b is its block
pub record Good (S L M : ℕ) (k : Codec) (c : ℕ) (b : Superblock) (m : List ℕ) : Type 0 where
  pub size_is : (k.decode m).db_size ≡ b.db_size
  pub base_is : (k.decode m).db_base_offset ≡ b.db_base_offset
  pub count_is : (k.decode m).zero_extent_count ≡ b.zero_extent_count
  pub counted : length (k.runs_in b.zero_extent_count m) ≡ b.zero_extent_count
  pub few : b.zero_extent_count ≤ L
  pub sorted : normalized (k.runs_in b.zero_extent_count m) ≡ true
  pub ends : EndsBy M (k.runs_in b.zero_extent_count m)
  pub base_low : S ≤ b.db_base_offset
  pub inside : b.db_base_offset + b.db_size ≤ c * S
  pub range : b.db_base_offset + b.db_size ≤ M
  pub lent : c * S ≤ length m
  pub import_low : importing b ≡ true → S ≤ b.import_base_offset
  pub import_inside : importing b ≡ true → b.import_base_offset + b.import_written_until ≤ c * S
  pub import_range : importing b ≡ true → b.import_base_offset + b.import_total_size ≤ M
