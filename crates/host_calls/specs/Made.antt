-- A C call that was made: what a host passed, and what it had then; and what the contracts of the C functions say of it, as one equation.
use Rattle.std.specs.Prelude.{◌≡◌, ℕ, Bool, true, false, cond, List, [], ◌∷◌}
use Rattle.store.specs.Calls.{Call, begin, read, write, truncate, commit, rollback, file_size, import_begin, import_chunk, import_finish, import_cancel, export, checksum, refresh, refresh_step, Lent}
use Rattle.encoding.specs.Called.{Called, called, call, ask}
use Rattle.plain_file.specs.Sizes.{Word'}

pub record Made : Type 0 where
  -- the state's bytes, the list for the answer's four values, every slice that the host has, and which function with which arguments
  pub state : List ℕ
  pub answer : List ℕ
  pub lent : Lent
  pub call : Call
  -- the number that it returned, and what is left; filled: the bytes that a read or an export was lent to fill
  pub returned : ℕ
  pub state' : List ℕ
  pub answer' : List ℕ
  pub lent' : Lent
  pub filled : List ℕ

-- the file's size, an export and a checksum look alone: they are lent the state's bytes to read
abbrev pub looks : Call → Bool
looks (begin g p b) = false
looks (read o d) = false
looks (write o bs) = false
looks (truncate n) = false
looks commit = false
looks rollback = false
looks file_size = true
looks (import_begin t e) = false
looks (import_chunk o bs) = false
looks import_finish = false
looks import_cancel = false
looks (export o d) = true
looks checksum = true
looks refresh = false
looks (refresh_step n) = false

-- what the contracts promise
abbrev pub promised : List ℕ → List ℕ → Lent → Call → Called
promised st an l c = cond (looks c) (ask st an l c) (call st an l c)

-- what came out
abbrev pub gives : Made → Called
gives e = called e.returned e.state' e.lent' e.answer' e.filled

-- the call was made as its contract says
abbrev pub ByC : Made → Type 0
ByC e = gives e ≡ promised e.state e.answer e.lent e.call

-- and its arguments are of their types, as far as the claim asks
abbrev pub AllByC : List Made → Type 0
AllByC [] = Unit {0}
AllByC (e ∷ es) = (ByC e × Word' e.call) × AllByC es
