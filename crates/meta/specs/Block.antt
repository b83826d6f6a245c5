-- The superblock: its fields, its bytes and its checksum.
use Rattle.std.specs.Prelude.{◌≡◌, refl, ℕ, ◌+◌, ◌*◌, ◌%◌, min, List, [], ◌∷◌, ◌++◌, get_or, take, drop}
use Rattle.std.proofs.Common.{arith}
use Rattle.memory.specs.Bytes.{overwrite, resize}
use Rattle.meta.specs.declared.superblock.Superblock.{Superblock}
use Rattle.words.specs.Words.{le, de, word, words, word_at, words_in}
use Rattle.fnv.specs.Fnv.{fnv1a64}

-- 01: "magic `ICSQLITE` at 0"; the eight letters read as a little-endian number
abbrev pub magic : ℕ
magic = de 8 (73 ∷ 67 ∷ 83 ∷ 81 ∷ 76 ∷ 73 ∷ 84 ∷ 69 ∷ [])

-- 01: "then eighteen 64-bit fields", "in the order of `encode`"
abbrev pub other_fields : Superblock → List ℕ
other_fields b =
    b.db_size ∷ b.schema_version ∷ b.last_tx_id ∷ b.flags ∷ b.checksum ∷ b.import_expected_checksum ∷ b.import_written_until ∷ b.import_total_size ∷ b.import_base_offset ∷ b.checksum_refresh_offset ∷ b.checksum_refresh_hash ∷ b.checksum_refresh_tx_id ∷ b.db_base_offset ∷ b.page_table_offset ∷ b.page_count ∷ b.layout_version ∷ b.zero_extent_count ∷ []

-- the last is the checksum
abbrev pub fields_of : Superblock → List ℕ
fields_of b = other_fields b ++ (b.meta_checksum ∷ [])

abbrev pub of_fields : ℕ → ℕ → ℕ → List ℕ → Superblock
of_fields m v p f = record {
  magic = m;
  version = v;
  sqlite_page_size = p;
  db_size = get_or f 0 0;
  schema_version = get_or f 1 0;
  last_tx_id = get_or f 2 0;
  flags = get_or f 3 0;
  checksum = get_or f 4 0;
  import_expected_checksum = get_or f 5 0;
  import_written_until = get_or f 6 0;
  import_total_size = get_or f 7 0;
  import_base_offset = get_or f 8 0;
  checksum_refresh_offset = get_or f 9 0;
  checksum_refresh_hash = get_or f 10 0;
  checksum_refresh_tx_id = get_or f 11 0;
  db_base_offset = get_or f 12 0;
  page_table_offset = get_or f 13 0;
  page_count = get_or f 14 0;
  layout_version = get_or f 15 0;
  zero_extent_count = get_or f 16 0;
  meta_checksum = get_or f 17 0;
}

-- 02, W-204: "Its eighteen 64-bit fields lie at 16 + 8k for k from 0 to 17."
unfoldable pub field_offset : ℕ → ℕ
field_offset k = 16 + 8 * k

-- the last is the checksum
abbrev pub checksum_offset : ℕ
checksum_offset = field_offset 17

pub offset_is : (k : ℕ) → field_offset k ≡ 16 + k * 8
unfolding field_offset
offset_is k = omega arith

-- 01: "From 160 follow at most 1,024 zero runs": behind the eighteen fields
pub runs_begin : field_offset 18 ≡ 160
unfolding field_offset
runs_begin = refl

-- 01: "version 8 and page size as 32 bits at 8 and 12, then eighteen 64-bit fields"
unfoldable pub header_of : ℕ → ℕ → ℕ → List ℕ → List ℕ
header_of m v p f = word m ++ (le 4 v ++ (le 4 p ++ words f))

unfoldable pub header : Superblock → List ℕ
header b = header_of b.magic b.version b.sqlite_page_size (fields_of b)

-- 01: "From 160 follow at most 1,024 zero runs of 16 bytes, a start and an end page"; here two numbers a run
unfoldable pub block_bytes : Superblock → List ℕ → List ℕ
block_bytes b runs = header b ++ words runs

-- 01: "A block is built in a zeroed array of 16,544 bytes."
unfoldable pub encode : Superblock → List ℕ → List ℕ
encode b runs = resize 16544 (block_bytes b runs)

-- the fields in any bytes
unfoldable pub fields_in : List ℕ → List ℕ
fields_in bs = words_in 18 (drop 16 bs)

unfoldable pub decode : List ℕ → Superblock
decode bs = of_fields (word_at 0 bs) (de 4 (drop 8 bs)) (de 4 (drop 12 bs)) (fields_in bs)

-- 01: "`encoded_len` says how many of them are stored and hashed"
unfoldable pub encoded_len : Superblock → ℕ
encoded_len b = 160 + min b.zero_extent_count 1024 * 16

unfoldable pub prefix : Superblock → List ℕ → List ℕ
prefix b runs = take (encoded_len b) (encode b runs)

-- the block with version 8 and a checksum
abbrev pub sealed_by : ℕ → Superblock → Superblock
sealed_by c b = record {
  magic = b.magic;
  version = 8;
  sqlite_page_size = b.sqlite_page_size;
  db_size = b.db_size;
  schema_version = b.schema_version;
  last_tx_id = b.last_tx_id;
  flags = b.flags;
  checksum = b.checksum;
  import_expected_checksum = b.import_expected_checksum;
  import_written_until = b.import_written_until;
  import_total_size = b.import_total_size;
  import_base_offset = b.import_base_offset;
  checksum_refresh_offset = b.checksum_refresh_offset;
  checksum_refresh_hash = b.checksum_refresh_hash;
  checksum_refresh_tx_id = b.checksum_refresh_tx_id;
  db_base_offset = b.db_base_offset;
  page_table_offset = b.page_table_offset;
  page_count = b.page_count;
  layout_version = b.layout_version;
  zero_extent_count = b.zero_extent_count;
  meta_checksum = c;
}

-- 01: hashed "with the checksum field as 0"
unfoldable pub checksum_of : Superblock → List ℕ → ℕ
checksum_of b runs = fnv1a64 (prefix (sealed_by 0 b) runs)

-- the block as it is stored
unfoldable pub seal : Superblock → List ℕ → Superblock
seal b runs = sealed_by (checksum_of b runs) b

-- the prefix goes to the front of memory, and nothing after it changes
unfoldable pub store_in : Superblock → List ℕ → List ℕ → List ℕ
store_in b runs mem = overwrite 0 (prefix (seal b runs) runs) mem

-- 01: "database region from 65,536"; all other fields of a fresh image are 0
abbrev pub unsealed : Superblock
unsealed = of_fields magic 8 16384 (0 ∷ 0 ∷ 0 ∷ 0 ∷ 0 ∷ 0 ∷ 0 ∷ 0 ∷ 0 ∷ 0 ∷ 0 ∷ 0 ∷ 65536 ∷ 0 ∷ 0 ∷ 8 ∷ 0 ∷ 0 ∷ [])

unfoldable pub fresh : Superblock
fresh = seal unsealed []

-- a block as a list of numbers
abbrev pub numbers_of : Superblock → List ℕ
numbers_of b = b.magic ∷ b.version ∷ b.sqlite_page_size ∷ fields_of b

abbrev pub of_numbers : List ℕ → Superblock
of_numbers n = of_fields (get_or n 0 0) (get_or n 1 0 % 4294967296) (get_or n 2 0 % 4294967296) (drop 3 n)
