-- The examples of the scope document (01) that it marks as proved: one table, one theorem.
use Rattle.std.specs.Prelude.{◌≡◌, ℕ, ◌*◌, ◌≤◌, List, [], ◌∷◌, length}
use Rattle.fnv.specs.Fnv.{basis, fnv1a64, fnv_of_none}
use Rattle.meta.specs.Runs.{run}
use Rattle.store.specs.Calls.{write, truncate}
use Rattle.examples.specs.FreshRows.{opened, fresh_rows, Right, ByLastPage, last_page, fresh_right}
use Rattle.examples.specs.RunRows.{single, AfterOpening, grown31, page0, split31}

pub record Table : Type 0 where
  -- the rows on a fresh image
  pub fresh : Right fresh_rows
  -- "2^64 − 65,537: 20, by its last page"
  pub by_last_page : ByLastPage (opened 1).state.block.db_base_offset 18446744073709486079
  -- "Runs 1-2, 3-4, .. 2047-2048 (1,024 runs), size 2,049 pages: truncation to 2,050 pages is refused 31"
  pub grown : (n : ℕ) → 516 * 65536 ≤ n → AfterOpening 2049 (single 1 1024) (truncate (2050 * 16384)) n 31
  -- "a full page written there instead is accepted"
  pub page : (n : ℕ) → 516 * 65536 ≤ n → (bs : List ℕ) → length bs ≡ 16384 → AfterOpening 2049 (single 1 1024) (write (2049 * 16384) bs) n 0
  -- "1,024 runs, one being 1-4, page 2 written: 31."
  pub split : (n : ℕ) → 516 * 65536 ≤ n → AfterOpening 2060 (run 1 4 ∷ single 6 1023) (write (2 * 16384) (7 ∷ [])) n 31
  -- "FNV-1a of no bytes is the start value."
  pub hash : fnv1a64 [] ≡ basis

pub examples : Table
examples = record { fresh = fresh_right; by_last_page = last_page; grown = grown31; page = page0; split = split31; hash = fnv_of_none }
