-- What each call makes of the superblock. Page size, schema version (but for the end of an import) and unknown bits of the flags are carried on.
use Rattle.std.specs.Prelude.{ℕ, suc, ◌+◌, ◌*◌, ◌/◌, ◌%◌, min, Bool, cond, [], ◌∷◌}
use Rattle.std.proofs.Math.Bool.{true, false}
use Rattle.std.proofs.Math.Dec.{eqb}
use Rattle.config.specs.Pages.{count}
use Rattle.meta.specs.declared.superblock.Superblock.{Superblock}
use Rattle.meta.specs.Block.{of_fields}
use Rattle.std.specs.Prelude.{◌≡◌}

-- ## Flags: bit 1 an import is open, bit 2 the checksum is stale, bit 4 a refresh of it is under way

abbrev pub bit : Bool → ℕ
bit true = 1
bit false = 0

unfoldable pub importing : Superblock → Bool
importing b = eqb (b.flags % 2) 1

unfoldable pub stale : Superblock → Bool
stale b = eqb (b.flags / 2 % 2) 1

unfoldable pub refreshing : Superblock → Bool
refreshing b = eqb (b.flags / 4 % 2) 1

-- the flags f with these three marks
unfoldable pub marks : Bool → Bool → Bool → ℕ → ℕ
marks i s r f = f / 8 * 8 + (bit i + 2 * bit s + 4 * bit r)

-- ## Groups of fields

-- the block with these flags
abbrev pub set_flags : ℕ → Superblock → Superblock
set_flags f b = of_fields b.magic b.version b.sqlite_page_size (b.db_size ∷ b.schema_version ∷ b.last_tx_id ∷ f ∷ b.checksum ∷ b.import_expected_checksum ∷ b.import_written_until ∷ b.import_total_size ∷ b.import_base_offset ∷ b.checksum_refresh_offset ∷ b.checksum_refresh_hash ∷ b.checksum_refresh_tx_id ∷ b.db_base_offset ∷ b.page_table_offset ∷ b.page_count ∷ b.layout_version ∷ b.zero_extent_count ∷ b.meta_checksum ∷ [])

-- of a database of n bytes at this base, with so many runs
abbrev pub set_image : ℕ → ℕ → ℕ → ℕ → Superblock → Superblock
set_image P base n runs b = of_fields b.magic b.version b.sqlite_page_size (n ∷ b.schema_version ∷ b.last_tx_id ∷ b.flags ∷ b.checksum ∷ b.import_expected_checksum ∷ b.import_written_until ∷ b.import_total_size ∷ b.import_base_offset ∷ b.checksum_refresh_offset ∷ b.checksum_refresh_hash ∷ b.checksum_refresh_tx_id ∷ base ∷ 0 ∷ count P n ∷ 8 ∷ runs ∷ b.meta_checksum ∷ [])

abbrev pub set_import : ℕ → ℕ → ℕ → ℕ → Superblock → Superblock
set_import expected written total base b = of_fields b.magic b.version b.sqlite_page_size (b.db_size ∷ b.schema_version ∷ b.last_tx_id ∷ b.flags ∷ b.checksum ∷ expected ∷ written ∷ total ∷ base ∷ b.checksum_refresh_offset ∷ b.checksum_refresh_hash ∷ b.checksum_refresh_tx_id ∷ b.db_base_offset ∷ b.page_table_offset ∷ b.page_count ∷ b.layout_version ∷ b.zero_extent_count ∷ b.meta_checksum ∷ [])

abbrev pub set_refresh : ℕ → ℕ → ℕ → Superblock → Superblock
set_refresh offset hash tx b = of_fields b.magic b.version b.sqlite_page_size (b.db_size ∷ b.schema_version ∷ b.last_tx_id ∷ b.flags ∷ b.checksum ∷ b.import_expected_checksum ∷ b.import_written_until ∷ b.import_total_size ∷ b.import_base_offset ∷ offset ∷ hash ∷ tx ∷ b.db_base_offset ∷ b.page_table_offset ∷ b.page_count ∷ b.layout_version ∷ b.zero_extent_count ∷ b.meta_checksum ∷ [])

-- schema version, transaction number and checksum
abbrev pub set_numbers : ℕ → ℕ → ℕ → Superblock → Superblock
set_numbers schema tx sum b = of_fields b.magic b.version b.sqlite_page_size (b.db_size ∷ schema ∷ tx ∷ b.flags ∷ sum ∷ b.import_expected_checksum ∷ b.import_written_until ∷ b.import_total_size ∷ b.import_base_offset ∷ b.checksum_refresh_offset ∷ b.checksum_refresh_hash ∷ b.checksum_refresh_tx_id ∷ b.db_base_offset ∷ b.page_table_offset ∷ b.page_count ∷ b.layout_version ∷ b.zero_extent_count ∷ b.meta_checksum ∷ [])

-- ## After each call

-- 01: "then the superblock: size, runs and page count; page-table offset 0; transaction number plus one, stopping at 2^64 − 1; checksum marked
-- stale; refresh cleared. A direct write or truncation commits alike, but leaves transaction number, stale mark and refresh progress."
unfoldable pub after_commit : ℕ → ℕ → Bool → ℕ → ℕ → Superblock → Superblock
after_commit P M update n runs b =
    let image : Superblock = set_image P b.db_base_offset n runs b in
    let moved : Superblock = set_numbers b.schema_version (min (suc b.last_tx_id) M) b.checksum (set_flags (marks (importing b) true false b.flags) (set_refresh 0 0 0 image)) in
    cond update moved image

-- an import of so many bytes begins at this base; refresh is cleared
unfoldable pub after_import_begin : ℕ → ℕ → ℕ → Superblock → Superblock
after_import_begin total expected base b = set_flags (marks true (stale b) false b.flags) (set_refresh 0 0 0 (set_import expected 0 total base b))

unfoldable pub after_import_chunk : ℕ → Superblock → Superblock
after_import_chunk written b = set_import b.import_expected_checksum written b.import_total_size b.import_base_offset b

-- the import is closed, the rest unchanged
unfoldable pub after_import_cancel : Superblock → Superblock
after_import_cancel b = set_flags (marks false (stale b) (refreshing b) b.flags) (set_import 0 0 0 0 b)

-- what was imported, with this checksum, is the database; no runs; schema version 0; the transaction number stays
unfoldable pub after_import_finish : ℕ → ℕ → Superblock → Superblock
after_import_finish P sum b =
    set_numbers 0 b.last_tx_id sum (set_flags (marks false false false b.flags) (set_refresh 0 0 0 (set_import 0 0 0 0 (set_image P b.import_base_offset b.import_total_size 0 b))))

-- the checksum is this; not stale, refresh cleared
unfoldable pub after_refresh : ℕ → Superblock → Superblock
after_refresh sum b = set_numbers b.schema_version b.last_tx_id sum (set_flags (marks (importing b) false false b.flags) (set_refresh 0 0 0 b))

-- refresh is under way and reached this offset with this hash
unfoldable pub after_refresh_step : ℕ → ℕ → Superblock → Superblock
after_refresh_step offset hash b = set_flags (marks (importing b) (stale b) true b.flags) (set_refresh offset hash b.last_tx_id b)

-- the database is where it was, and an open import is what it was
pub record Keeps (b b' : Superblock) : Type 0 where
  pub size : b'.db_size ≡ b.db_size
  pub base : b'.db_base_offset ≡ b.db_base_offset
  pub runs : b'.zero_extent_count ≡ b.zero_extent_count

pub record KeepsImport (b b' : Superblock) : Type 0 where
  pub mark : importing b' ≡ importing b
  pub base : b'.import_base_offset ≡ b.import_base_offset
  pub written : b'.import_written_until ≡ b.import_written_until
  pub total : b'.import_total_size ≡ b.import_total_size

pub record Commits (n runs : ℕ) (b b' : Superblock) : Type 0 where
  pub size : b'.db_size ≡ n
  pub base : b'.db_base_offset ≡ b.db_base_offset
  pub count : b'.zero_extent_count ≡ runs
  pub imports : KeepsImport b b'

pub record ImportBegins (total base : ℕ) (b' : Superblock) : Type 0 where
  pub mark : importing b' ≡ true
  pub base_is : b'.import_base_offset ≡ base
  pub written : b'.import_written_until ≡ 0
  pub total_is : b'.import_total_size ≡ total

pub record ChunkKeeps (written : ℕ) (b b' : Superblock) : Type 0 where
  pub keeps : Keeps b b'
  pub mark : importing b' ≡ importing b
  pub base : b'.import_base_offset ≡ b.import_base_offset
  pub written_is : b'.import_written_until ≡ written
  pub total : b'.import_total_size ≡ b.import_total_size

-- 02, W-202, "as `cancel_import` would": the mark goes and the four import fields become 0, nothing else of the block changes before it is sealed
pub record Cancels (b b' : Superblock) : Type 0 where
  pub mark : importing b' ≡ false
  pub expected : b'.import_expected_checksum ≡ 0
  pub written : b'.import_written_until ≡ 0
  pub total : b'.import_total_size ≡ 0
  pub base : b'.import_base_offset ≡ 0
  pub stale_mark : stale b' ≡ stale b
  pub refresh_mark : refreshing b' ≡ refreshing b
  pub unknown_bits : b'.flags / 8 ≡ b.flags / 8
  -- with flags and import as they were it is the block that it was
  pub rest : set_flags b.flags (set_import b.import_expected_checksum b.import_written_until b.import_total_size b.import_base_offset b') ≡ b

pub record Finishes (b b' : Superblock) : Type 0 where
  pub size : b'.db_size ≡ b.import_total_size
  pub base : b'.db_base_offset ≡ b.import_base_offset
  pub count : b'.zero_extent_count ≡ 0
  pub mark : importing b' ≡ false
