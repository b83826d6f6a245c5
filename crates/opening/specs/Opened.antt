-- Opening: the answer with the state and memory that it leaves.
use Rattle.std.specs.Prelude.{ℕ, ◌+◌, Bool, ◌&&◌, ◌||◌, ltb, List, Result, Ok, Err}
use Rattle.store.specs.declared.State.{State}
use Rattle.config.specs.declared.refusal.Refusal.{Refusal}
use Rattle.store.specs.Answers.{Answer, Done, Refused}
use Rattle.store.specs.Codec.{real_codec}
use Rattle.store.specs.Store.{ended}
use Rattle.meta.specs.declared.superblock.Superblock.{Superblock}
use Rattle.store.specs.Blocks.{importing}
use Rattle.store.specs.Opening.{Opened, no_block}

abbrev pub opened : State → Answer → List ℕ → Opened
opened s a m = record { state = s; answer = a; mem = m }

-- what 01's opening answers, given the count n: a state, or a refusal that leaves none
abbrev pub opened_as : ℕ → Result State Refusal → List ℕ → Opened
opened_as n (Ok s) m = opened s Done m
opened_as n (Err r) m = opened (ended 16384 65536 8 1024 18446744073709551615 real_codec n no_block) (Refused r) m

-- 4 by the end of memory
abbrev pub import_outside : ℕ → Superblock → Bool
import_outside end b =
    ltb b.import_base_offset 65536 || (ltb end (b.import_base_offset + b.import_written_until)
    || (ltb b.import_total_size b.import_written_until || ltb 18446744073709551615 (b.import_base_offset + b.import_total_size)))

abbrev pub outside_of : ℕ → Superblock → Bool
outside_of end b = ltb b.db_base_offset 65536 || (ltb end (b.db_base_offset + b.db_size) || (importing b && import_outside end b))
