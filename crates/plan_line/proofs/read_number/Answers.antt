-- `plan_line::read_number` meets its contract: each return is the definition with what the calls before it answered.
use Rattle.std.proofs.Common.{sym}
use Rattle.plan_line.specs.Readers.{read_number}
use Rattle.plan_line.proofs.read_number.Goals as goal

pub returns-in_err-found : goal.returns-in_err-found
unfolding read_number
returns-in_err-found c =
    let e = sym c.in_err-found.ensures in
    simp (c.from_residual.ensures, e)

pub returns-in_err-next : goal.returns-in_err-next
unfolding read_number
returns-in_err-next c =
    let e = sym c.in_ok-found.ensures in
    let f = sym c.in_err-next.ensures in
    simp (c.from_residual-in_err-next.ensures, e, f)

pub returns : goal.returns
unfolding read_number
returns c =
    let e = sym c.in_ok-found.ensures in
    let f = sym c.in_ok-next.ensures in
    simp (e, f)
