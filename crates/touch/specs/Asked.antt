-- One more dirty page, asked for and answered.
use Rattle.std.specs.Prelude.{◌≡◌, ℕ, Result, Ok, Err}
use Rattle.std.proofs.Common.{sym, ◌∙◌}
use Rattle.config.specs.declared.refusal.Refusal.{Refusal}
use Rattle.update.specs.declared.Budget.{Budget}
use Rattle.update.specs.Verdict.{Verdict}
use Rattle.update.specs.Admit.{Admission, admitted}

-- the answer without the page's place
abbrev pub verdict : Result ℕ Refusal → Verdict
verdict (Ok at) = Ok tt
verdict (Err r) = Err r

-- the budget that came back, with the verdict that the code tells apart
pub answered : (P f n : ℕ) (g : Budget) (a : Admission) (x : Verdict) → a ≡ admitted P f n g → a.verdict ≡ x → admitted P f n g ≡ record { budget = a.budget; verdict = x }
answered P f n g a x e d = sym e ∙ (λ k. record { budget = a.budget; verdict = d k })
