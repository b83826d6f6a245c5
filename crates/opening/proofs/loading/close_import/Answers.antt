use Rattle.std.proofs.Common.{ap}
use mathlib.Core.Bool.{not}
use Rattle.store.specs.Answers.{Done, done}
use Rattle.opening.specs.OpeningCases.{close_none, close_done}
use Rattle.opening.proofs.loading.close_import.Goals as goal

pub returns-then-is_importing : goal.returns-then-is_importing
returns-then-is_importing c =
    let a = c.args in
    let k = c.cancel_import in
    close_done a.s.now Done a.mem.now c.is_importing.result c.is_importing.ensures (ap not c.if-is_importing.true) k.new.s (done k.result) k.new.mem k.ensures

pub returns : goal.returns
returns c =
    let a = c.args in
    close_none a.s.now Done a.mem.now c.is_importing.result c.is_importing.ensures (ap not c.if-is_importing.false)
