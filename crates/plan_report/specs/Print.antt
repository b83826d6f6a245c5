-- The text of an answer in a buffer.
use Rattle.std.specs.Prelude.{◌≡◌, refl, Option, Some, None, Result, Ok, Err, cond, List, [], ◌∷◌, ◌++◌, map, ℕ, zero, suc, ◌+◌, ◌-◌, ◌*◌, ◌/◌, ◌≤◌, ◌<◌, length, take, drop, get_or, leb}
use Rattle.std.proofs.Common.{ap, ◌∙◌, add-one, drop-cons, drop_of_length-le, append_assoc, arith, length-append, length-drop, take_at, drop_at, le-leb}
use Rattle.std.proofs.lemmas.Bool.{lt-leb}
use Rattle.std.specs.Simd.{first_chunks}
use Rattle.meta.specs.declared.ZeroExtent.{ZeroExtent}
use Rattle.meta.specs.Runs.{run, runs_of}
use Rattle.decimal.specs.Decimal.{decimal, decimal-length}
use Rattle.decimal.specs.Write.{Written, written, write, write_is, next_write, write_then, write_none}
use Rattle.plan_report.specs.declared.PlanError.{PlanError}
use Rattle.plan_line.specs.Values.{ascii, number_value, run_value, lines}
use Rattle.plan_report.specs.Answers.{report}
use Rattle.plan_line.specs.Tests.{drop-two}

-- its length, and the buffer with it at the front, where there is room for the longest answer with as many runs
unfoldable pub printed : Result ℕ PlanError → List ZeroExtent → List ℕ → Written
printed answer runs out = cond (leb (72 + 49 * length runs) (length out)) (write 0 (report answer runs) out) (written 0 out)

-- the length that the code answers, where there is room; and nothing is put where there is none
abbrev pub put_length : Option ℕ → ℕ
put_length (Some n) = n
put_length None = 0

-- ## How long

pub value-length : (n : ℕ) → length (number_value n) ≤ 21
unfolding number_value
value-length n = omega (arith, length-append (decimal n) (ascii "\n"), decimal-length n)

pub run_length : (x : ZeroExtent) → length (ascii "extent=" ++ run_value x) ≤ 49
unfolding run_value
run_length x =
    omega (arith, length-append (decimal x.start) (ascii "-" ++ (decimal x.end ++ ascii "\n")), length-append (decimal x.end) (ascii "\n"), decimal-length x.start, decimal-length x.end)

lines-length : (runs : List ZeroExtent) → length (lines (ascii "extent=") run_value runs) ≤ 49 * length runs
lines-length [] = omega arith
lines-length (x ∷ runs) = omega (arith, length-append (run_value x) (lines (ascii "extent=") run_value runs), run_length x, lines-length runs)

pub report-length : (answer : Result ℕ PlanError) (runs : List ZeroExtent) → length (report answer runs) ≤ 72 + 49 * length runs
unfolding report
report-length (Ok pages) runs =
    omega (
      arith,
      length-append (number_value pages) (ascii "extents=" ++ (number_value (length runs) ++ lines (ascii "extent=") run_value runs)),
      length-append (number_value (length runs)) (lines (ascii "extent=") run_value runs),
      value-length pages,
      value-length (length runs),
      lines-length runs,
    )
report-length (Err PlanError.Extents) runs = omega arith
report-length (Err PlanError.Malformed) runs = omega arith

-- without a plan no runs are told
pub error_report : (error : PlanError) (runs : List ZeroExtent) → report (Err error) [] ≡ report (Err error) runs
unfolding report
error_report PlanError.Extents runs = refl
error_report PlanError.Malformed runs = refl

pub runs_half : (l : List ℕ) → length (runs_of l) ≡ length l / 2
runs_half [] = refl
runs_half (a ∷ []) = refl
runs_half (a ∷ b ∷ l) = omega (arith, runs_half l)

-- ## What is in the buffer

module _ (answer : Result ℕ PlanError) (runs : List ZeroExtent) (out : List ℕ) where
  pub printed_room : 72 + 49 * length runs ≤ length out → printed answer runs out ≡ write 0 (report answer runs) out
  unfolding printed
  printed_room h = rw (le-leb _ _ h)

  pub printed_short : length out < 72 + 49 * length runs → printed answer runs out ≡ written 0 out
  unfolding printed
  printed_short h = rw (lt-leb _ _ h)

  -- the bytes that are answered are the text, and the others stay
  pub printed_is : 72 + 49 * length runs ≤ length out
      → ((printed answer runs out).next ≡ length (report answer runs))
      × (take (printed answer runs out).next (printed answer runs out).bytes ≡ report answer runs)
      × (drop (printed answer runs out).next (printed answer runs out).bytes ≡ drop (length (report answer runs)) out)
  printed_is h =
      let w : List ℕ = report answer runs in
      let k : 0 + length w ≤ length out = omega (arith, report-length answer runs) in
      let n : (write 0 w out).next ≡ length w = next_write 0 w out ∙ omega arith in
      let z : 0 + length w ≡ length w = omega arith in
      rw (printed_room h, n, write_is 0 w out k, z) (refl, take_at w (drop (length w) out) (length w) refl, drop_at w (drop (length w) out) (length w) refl)

-- ## Line by line

-- a run's line, then those of the runs behind it
pub runs_go : (l : List ℕ) (i at : ℕ) (out : List ℕ) (n : ℕ) (o : List ℕ) → 1 ≤ i → i < length l
    → written n o ≡ write at (ascii "extent=" ++ run_value (run (get_or l (i - 1) 0) (get_or l i 0))) out
    → write n (lines (ascii "extent=") run_value (runs_of (drop (i + 2 - 1) l))) o ≡ write at (lines (ascii "extent=") run_value (runs_of (drop (i - 1) l))) out
runs_go l i at out n o lo h e =
    let x : ZeroExtent = run (get_or l (i - 1) 0) (get_or l i 0) in
    let more : List ℕ = lines (ascii "extent=") run_value (runs_of (drop (i + 1) l)) in
    let w : Written = write n more o in
    let z : i + 2 - 1 ≡ i + 1 = omega arith in
    rw (z, drop-two l i lo h)
    (write_then at (ascii "extent=" ++ run_value x) out n o e w.next w.bytes more refl
    ∙ ap (λ (t : List ℕ). write at t out) (append_assoc (ascii "extent=") (run_value x) more))

-- the runs as pairs of numbers, as the library cuts them
abbrev pub pair : List ℕ → ZeroExtent
pair x = run (get_or x 0 0) (get_or x 1 0)

pub pairs_are : (n : ℕ) (l : List ℕ) → n ≡ length l / 2 → map pair (first_chunks 2 n l) ≡ runs_of l
pairs_are zero [] e = refl
pairs_are zero (a ∷ []) e = refl
pairs_are zero (a ∷ b ∷ l) e = absurd (omega arith)
pairs_are (suc n) [] e = absurd (omega arith)
pairs_are (suc n) (a ∷ []) e = absurd (omega arith)
pairs_are (suc n) (a ∷ b ∷ l) e = ap (λ (r : List ZeroExtent). run a b ∷ r) (pairs_are n l (omega arith))

pub pairs_go : (ps : List (List ℕ)) (i at : ℕ) (out : List ℕ) (n : ℕ) (o : List ℕ) → i < length ps
    → written n o ≡ write at (ascii "extent=" ++ run_value (pair (get_or ps i []))) out
    → write n (lines (ascii "extent=") run_value (map pair (drop (i + 1) ps))) o ≡ write at (lines (ascii "extent=") run_value (map pair (drop i ps))) out
pairs_go ps i at out n o h e =
    let x : ZeroExtent = pair (get_or ps i []) in
    let more : List ℕ = lines (ascii "extent=") run_value (map pair (drop (suc i) ps)) in
    let w : Written = write n more o in
    rw (add-one i, drop-cons ps i [] h)
    (write_then at (ascii "extent=" ++ run_value x) out n o e w.next w.bytes more refl
    ∙ ap (λ (t : List ℕ). write at t out) (append_assoc (ascii "extent=") (run_value x) more))

pub pairs_end : (ps : List (List ℕ)) (i at : ℕ) (out : List ℕ) → length ps ≤ i → write at (lines (ascii "extent=") run_value (map pair (drop i ps))) out ≡ written at out
pairs_end ps i at out h = rw (drop_of_length-le ps {i = i} h) (write_none at out)

no_runs : (l : List ℕ) → length l ≤ 1 → runs_of l ≡ []
no_runs [] h = refl
no_runs (a ∷ []) h = refl
no_runs (a ∷ b ∷ l) h = absurd (omega arith)

pub runs_end : (l : List ℕ) (i at : ℕ) (out : List ℕ) → length l ≤ i → write at (lines (ascii "extent=") run_value (runs_of (drop (i - 1) l))) out ≡ written at out
runs_end l i at out h =
    ap (λ (x : List ZeroExtent). write at (lines (ascii "extent=") run_value x) out) (no_runs (drop (i - 1) l) (omega (arith, length-drop (i - 1) l))) ∙ write_none at out
