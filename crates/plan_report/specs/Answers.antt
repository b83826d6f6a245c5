-- The text that zeroplan writes.
use Rattle.std.specs.Prelude.{Result, Ok, Err, List, ◌++◌, ℕ, length}
use Rattle.meta.specs.declared.ZeroExtent.{ZeroExtent}
use Rattle.plan_line.specs.Values.{ascii, number_value, run_value, lines}
use Rattle.plan_report.specs.declared.PlanError.{PlanError}

-- 01: "`result=accepted`, `pages=2`, `extents=1`, `extent=0-1` (page count, run count, each run). Otherwise one line, `result=extents` for 31 or `result=malformed`"
unfoldable pub report : Result ℕ PlanError → List ZeroExtent → List ℕ
report (Ok pages) runs =
    ascii "result=accepted\n"
    ++ (ascii "pages=" ++ (number_value pages
    ++ (ascii "extents=" ++ (number_value (length runs)
    ++ lines (ascii "extent=") run_value runs))))
report (Err PlanError.Extents) runs = ascii "result=extents\n"
report (Err PlanError.Malformed) runs = ascii "result=malformed\n"
