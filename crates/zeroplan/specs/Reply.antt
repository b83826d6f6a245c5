-- The answer to an input. 01: "prints .. page count, run count, each run. Otherwise one line, `result=extents` for 31 or `result=malformed`"
use Rattle.std.specs.Prelude.{Option, Some, None, Result, Ok, Err, ℕ, List, []}
use Rattle.config.specs.Pages.{count}
use Rattle.runs.specs.Flat.{runs_in}
use Rattle.extents.specs.Plan.{plan, too_many, kept}
use Rattle.extents.specs.Plan.{Answer as Planned}
use Rattle.plan_report.specs.declared.PlanError.{PlanError}
use Rattle.plan_text.specs.declared.Parsed.{Parsed}
use Rattle.plan_text.specs.Grammar.{Input}
use Rattle.plan_report.specs.Answers.{report}
use Rattle.plan_text.specs.Parse.{Reading, parse}

abbrev pub by_plan : ℕ → Planned → List ℕ
by_plan pages too_many = report (Err PlanError.Extents) []
by_plan pages (kept runs) = report (Ok pages) runs

-- the plan of what an input says
unfoldable pub reply_to : Input → List ℕ
reply_to i = by_plan (count 16384 i.new) (plan 16384 1024 i.old i.new i.extents i.records i.dirty)

abbrev pub by_reading : Option Parsed → Reading → List ℕ
by_reading (Some p) x = reply_to (record { old = p.old_size; new = p.new_size; extents = x.extents; records = x.records; dirty = x.dirty })
by_reading None x = report (Err PlanError.Malformed) []

-- of any text
unfoldable pub reply : List ℕ → List ℕ
reply t = by_reading (parse t).parsed (parse t)

-- the reply to a plan of so many pages, whose runs stand in front of a list; or to none
abbrev pub reply_of : Result (ℕ × ℕ) PlanError → List ℕ → List ℕ
reply_of (Ok (pages, count)) work = report (Ok pages) (runs_in count work)
reply_of (Err error) work = report (Err error) []
