-- `plan_line::read_field` meets its contract: each return is the definition with what the calls before it answered.
use Rattle.std.proofs.Common.{sym}
use Rattle.plan_line.specs.Readers.{read_field}
use Rattle.plan_line.proofs.read_field.Goals as goal

pub returns-in_err-value : goal.returns-in_err-value
unfolding read_field
returns-in_err-value c =
    let e = sym c.in_err-value.ensures in
    simp (c.from_residual.ensures, e)

pub returns : goal.returns
unfolding read_field
returns c =
    let e = sym c.in_ok-value.ensures in
    simp e c.read_number.ensures
