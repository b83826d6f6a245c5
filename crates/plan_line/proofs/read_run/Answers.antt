-- `plan_line::read_run` meets its contract: each return is the definition with what the calls before it answered.
use Rattle.std.proofs.Common.{sym}
use Rattle.plan_line.specs.Readers.{read_run}
use Rattle.plan_line.proofs.read_run.Goals as goal

pub returns-in_err-first : goal.returns-in_err-first
unfolding read_run
returns-in_err-first c =
    let e = sym c.in_err-first.ensures in
    simp (c.from_residual.ensures, e)

pub returns-in_err-dash : goal.returns-in_err-dash
unfolding read_run
returns-in_err-dash c =
    let e = sym c.in_ok-first.ensures in
    let f = sym c.in_err-dash.ensures in
    simp (c.from_residual-in_err-dash.ensures, e, f)

pub returns-in_err-second : goal.returns-in_err-second
unfolding read_run
returns-in_err-second c =
    let e = sym c.in_ok-first.ensures in
    let f = sym c.in_ok-dash.ensures in
    let g = sym c.in_err-second.ensures in
    simp (c.from_residual-in_err-second.ensures, e, f, g)

pub returns : goal.returns
unfolding read_run
returns c =
    let e = sym c.in_ok-first.ensures in
    let f = sym c.in_ok-dash.ensures in
    let g = sym c.in_ok-second.ensures in
    simp (e, f, g)
