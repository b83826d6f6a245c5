-- The answer of a read, and what the dirty-page view is lent.
use Rattle.std.specs.Prelude.{ℕ, ◌/◌, min, Bool, false, List, ltb, length}
use Rattle.overlay_reads.specs.Reads.{Reading}
use Rattle.store.specs.Answers.{Answer, Read, answered}
use Rattle.store.specs.Calls.{Mode, idle, update}

-- "A read is full .. else short"; "Only 35 can refuse a read."
abbrev pub read_answer : Reading → Answer
read_answer = answered Read

-- 01, 35: "the frames .. shorter than what they hold", of frames and their numbers alone; without an update they hold nothing
abbrev pub frames_short : Mode → List ℕ → List ℕ → Bool
frames_short idle frames numbers = false
frames_short (update v) frames numbers = ltb (min (length frames / 16384) (length numbers)) v.dirty
