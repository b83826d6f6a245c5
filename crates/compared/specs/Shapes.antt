-- Short forms of states, lent slices and refusals, for the compared calls.
use Rattle.std.specs.Prelude.{ℕ, Bool, true, false, List, []}
use Rattle.memory.specs.Growth.{stable}
use Rattle.meta.specs.declared.superblock.Superblock.{Superblock}
use Rattle.update.specs.declared.Overlay.{Overlay}
use Rattle.update.specs.declared.Budget.{Budget}
use Rattle.update.specs.Buffers.{Buffers}
use Rattle.store.specs.declared.State.{State}
use Rattle.store.specs.Answers.{Answer}
use Rattle.store.specs.Answers.{Refreshed}
use Rattle.store.specs.Calls.{Lent}
use Rattle.store.specs.Opening.{Opened}

abbrev pub budget : Bool → ℕ → ℕ → ℕ → ℕ → ℕ → Budget
budget g p b x pp pb = record { limited = g; max_pages = p; max_bytes = b; passed = x; peak_pages = pp; peak_bytes = pb }

abbrev pub overlay : ℕ → ℕ → ℕ → ℕ → List ℕ → ℕ → Budget → Overlay
overlay begun size dirty recorded pages count g = record {
  base_size = begun;
  size = size;
  dirty = dirty;
  recorded = recorded;
  cache = record { pages = pages; count = count };
  budget = g;
}

abbrev pub state : ℕ → Superblock → Bool → Overlay → State
state c b u v = record { count = stable c; block = b; updating = u; overlay = v }

-- memory, frames, page numbers, clean frames, record, work list
abbrev pub lent : List ℕ → List ℕ → List ℕ → List ℕ → List ℕ → List ℕ → Lent
lent m f n c r w = record { mem = m; bufs = record { frames = f; numbers = n; clean = c; recs = r }; work = w }

abbrev pub refreshed : Bool → ℕ → ℕ → ℕ → Answer
refreshed full sum offset size = Refreshed (record { complete = full; checksum = sum; scanned_bytes = offset; db_size = size })

abbrev pub opened : State → Answer → List ℕ → Opened
opened s a m = record { state = s; answer = a; mem = m }
