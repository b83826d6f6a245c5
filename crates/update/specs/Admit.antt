-- One more dirty page asked of a budget and of the frames.
use Rattle.std.specs.Prelude.{ℕ, ◌+◌, not, cond, leb, eqb, Ok, Err}
use Rattle.config.specs.declared.refusal.Refusal.TheVariants.{BudgetExceeded, FramesFull}
use Rattle.update.specs.declared.Budget.{Budget}
use Rattle.update.specs.Verdict.{Verdict}
use Rattle.update.specs.Update.{passing, raised}

-- the budget after one more page was asked for, and the answer
pub record Admission : Type 0 where
  pub budget : Budget
  pub verdict : Verdict

abbrev pub admission : Budget → Verdict → Admission
admission g a = record { budget = g; verdict = a }

-- a budget that keeps a mark
unfoldable pub with_mark : ℕ → Budget → Budget
with_mark m g = record {
  limited = g.limited;
  max_pages = g.max_pages;
  max_bytes = g.max_bytes;
  passed = m;
  peak_pages = g.peak_pages;
  peak_bytes = g.peak_bytes;
}

-- page size, frames lent, dirty pages. 01: "page by page 30 and 33"; 33 "before a peak rises"
unfoldable pub admitted : ℕ → ℕ → ℕ → Budget → Admission
admitted P F n g =
    cond (not (eqb (passing P (n + 1) g) 0)) (record { budget = with_mark (passing P (n + 1) g) g; verdict = Err BudgetExceeded })
    (cond (leb F n) (record { budget = g; verdict = Err FramesFull })
    (record { budget = raised P (n + 1) g; verdict = Ok tt }))
