-- `memory::read` meets its contract: what there is, then zeros.
use Rattle.std.proofs.Common.{◌≡◌, ◌-◌, arith, drop, length, length-drop}
use Rattle.memory.specs.Bytes.{overwrite}
use Rattle.memory.specs.Laws.{tail_is, length-overwrite, overwrite_rest}
use Rattle.memory.proofs.part.read.Goals as goal

pub returns : goal.returns
returns c = let s = c.args in
    let there = drop s.at s.src.now in
    let from = c.min-from in
    let copied : c.copy.new.dst ≡ overwrite 0 there s.dst.now = rw (tail_is s.src.now s.at from.result from.ensures) at c.copy.ensures in
    let n : length s.src.now - from.result ≡ length there = omega (arith, from.ensures, length-drop s.at s.src.now) in
    rw (c.fill_at.ensures, n, copied) (overwrite_rest there s.dst.now (length (overwrite 0 there s.dst.now)) (omega (arith, length-overwrite 0 there s.dst.now)))
