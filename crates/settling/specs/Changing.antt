-- A write or a truncation as the code is cut: the overlay it starts from, and what becomes of the change that the overlay made.
use Rattle.std.specs.Prelude.{true, false, [], Ok, Err}
use Rattle.update.specs.declared.Overlay.{Overlay}
use Rattle.update.specs.Verdict.{Verdict}
use Rattle.update.specs.Update.{fresh}
use Rattle.update.specs.Buffers.{view, overlay_of}
use Rattle.store.specs.declared.State.{State}
use Rattle.store.specs.Answers.{Answer, Refused, done}
use Rattle.store.specs.Codec.{real_codec}
use Rattle.store.specs.Calls.{Lent, Out, out, Mode, idle, update}
use Rattle.store.specs.Store.{budget_of, working, over, commit_over, swept}

abbrev pub verdict_answer : Verdict → Answer
verdict_answer = done

-- 01: a direct call "is a begin, itself and a commit"; "It has no budget."
abbrev pub overlay_now : State → Mode → Overlay
overlay_now s idle = overlay_of 16384 8 s.block.db_size (fresh 16384 s.block.db_size (budget_of false 0 0))
overlay_now s (update v) = v

-- the change left the overlay v and the lent slices l
abbrev pub ending : State → Lent → Overlay → Verdict → Mode → Out
ending s l v (Ok u) idle = commit_over 16384 65536 8 1024 18446744073709551615 real_codec false s l v.base_size (view 16384 8 v l.bufs)
ending s l v (Err r) idle = over 16384 65536 8 1024 18446744073709551615 real_codec s l (Refused r)
ending s l v a (update u) = out (working s.count.0 s.block v) l (verdict_answer a) []

abbrev pub settled : State → Lent → Overlay → Verdict → Mode → Out
settled s l v a m = swept 16384 65536 8 1024 18446744073709551615 real_codec true (ending s l v a m)
