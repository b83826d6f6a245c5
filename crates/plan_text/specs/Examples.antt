-- 01's sample, computed by the definitions, and texts that are malformed.
use Rattle.std.specs.Prelude.{◌≡◌, refl, Option, None, Ok, [], ◌∷◌}
use Prim.Native.String.{String}
use Rattle.meta.specs.Runs.{run, normalized}
use Rattle.decimal.specs.Decimal.{decimal}
use Rattle.decimal.specs.Text.{from, is_at, skip, is_digit, digits, number}
use Rattle.plan_text.specs.declared.Parsed.{Parsed}
use Rattle.plan_text.specs.Grammar.{Input, spell}
use Rattle.plan_line.specs.Values.{ascii, number_value, run_value, non_empty, member, distinct}
use Rattle.plan_report.specs.Answers.{report}
use Rattle.plan_text.specs.Parse.{section, accepted, parse_end, parse_dirty, parse_records, parse_extents, parse_sizes, parse}
use Rattle.plan_line.specs.Readers.{read_number, read_run, read_field}

abbrev sample : Input
sample = record { old = 0; new = 16385; extents = []; records = run 0 2 ∷ []; dirty = 1 ∷ [] }

spelled : spell sample ≡ ascii "old_size=0\nnew_size=16385\nrecord=0-2\ndirty=1\n"
unfolding spell number_value run_value decimal
spelled = refl

read : parse (ascii "old_size=0\nnew_size=16385\nrecord=0-2\ndirty=1\n") ≡ accepted sample
unfolding parse parse_sizes parse_extents parse_records parse_dirty parse_end read_field read_number read_run section normalized non_empty distinct member from is_at skip is_digit digits number accepted
read = refl

-- the last line feed is missing
read_open : parse (ascii "old_size=0\nnew_size=16385\nrecord=0-2\ndirty=1") ≡ accepted sample
unfolding parse parse_sizes parse_extents parse_records parse_dirty parse_end read_field read_number read_run section normalized non_empty distinct member from is_at skip is_digit digits number accepted
read_open = refl

written : report (Ok 2) (run 0 1 ∷ []) ≡ ascii "result=accepted\npages=2\nextents=1\nextent=0-1\n"
unfolding report number_value run_value decimal
written = refl

-- the answer to a text
abbrev answer : String → Option Parsed
unfolding parse parse_sizes parse_extents parse_records parse_dirty parse_end read_field read_number read_run section normalized non_empty distinct member from is_at skip is_digit digits number accepted
answer t = (parse (ascii t)).parsed

malformed :
    (answer "" ≡ None)
    × (answer "old_size=1\n" ≡ None)
    × (answer "new_size=1\nold_size=1\n" ≡ None)
    × (answer "old_size=01\nnew_size=1\n" ≡ None)
    × (answer "old_size=+1\nnew_size=1\n" ≡ None)
    × (answer "old_size=1\nnew_size=18446744073709551616\n" ≡ None)
    × (answer "old_size=1\r\nnew_size=1\r\n" ≡ None)
    × (answer "old_size=1\n\nnew_size=1\n" ≡ None)
    × (answer "old_size=1\nnew_size=1\n\n" ≡ None)
    × (answer "old_size=1\nnew_size=1\nextent=1-2\nextent=2-3\n" ≡ None)
    × (answer "old_size=1\nnew_size=1\nrecord=3-3\n" ≡ None)
    × (answer "old_size=1\nnew_size=1\ndirty=3\ndirty=3\n" ≡ None)
    × (answer "old_size=1\nnew_size=1\ndirty=3\nrecord=1-2\n" ≡ None)
unfolding parse parse_sizes parse_extents parse_records parse_dirty parse_end read_field read_number read_run section normalized non_empty distinct member from is_at skip is_digit digits number accepted
malformed = (refl, refl, refl, refl, refl, refl, refl, refl, refl, refl, refl, refl, refl)
