-- `given` meets its contract.
use mathlib.Core.Path.{refl, ap}
use native.Mathlib.Omega.{arith}
use lib.ListN.{length}
use Rattle.std.proofs.Common.{Some, le-ltb, lt-ltb}
use borrow.Author.Tests.{eq-eqb, ne_eqb}
use Rattle.encoding.specs.Called.{state_given, too_short}
use Rattle.encoding.proofs.reply.given.Goals as goal

pub returns-then-state-ne-STATE_BYTES-clause-state : goal.returns-then-state-ne-STATE_BYTES-clause-state
unfolding state_given too_short
returns-then-state-ne-STATE_BYTES-clause-state c = rw (ne_eqb (length c.args.state.now) 336 (λ q. omega (arith, q))) refl

pub returns-then-answer-lt-ANSWER_NUMBERS-clause-state : goal.returns-then-answer-lt-ANSWER_NUMBERS-clause-state
unfolding state_given too_short
returns-then-answer-lt-ANSWER_NUMBERS-clause-state c = rw (eq-eqb (length c.args.state.now) 336 (omega arith), lt-ltb (length c.args.answer.now) 4 (omega arith)) refl

pub returns-clause-state : goal.returns-clause-state
unfolding state_given too_short
returns-clause-state c = rw (eq-eqb (length c.args.state.now) 336 (omega arith), le-ltb (length c.args.answer.now) 4 (omega arith)) (ap Some c.decode.ensures)
