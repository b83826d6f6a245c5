use native.Mathlib.Omega.{arith}
use mathlib.Core.Path.{sym}
use Rattle.update.specs.TouchLaws.{free_frame}
use Rattle.touch.proofs.take_frame.Goals as goal

pub bounds-numbers-at : goal.bounds-numbers-at
bounds-numbers-at c =
    omega (arith, c.frame_count.ensures, free_frame 16384 c.frame_count.result c.args.o.now.dirty c.args.o.now.budget c.admit.new.self (sym c.in_ok-admit.ensures))
