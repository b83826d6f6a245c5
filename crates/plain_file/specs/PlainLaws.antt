-- The plain file has its own words for what a draft records and makes dirty. They are the store's.
use Rattle.std.specs.Prelude.{◌≡◌, ℕ, suc, ◌+◌, ◌-◌, ◌*◌, ◌/◌, ◌%◌, ◌≤◌, ◌<◌, Bool, ◌&&◌, List, [], ◌∷◌, ◌++◌, ltb, eqb}
use Rattle.std.proofs.Math.Path.{refl}
use Rattle.std.proofs.Common.{sym, ap, ◌∙◌, mul-le-mul_right, arith, append-nil, append_assoc}
use Rattle.std.proofs.Math.Nat.{div-add-mod'}
use Rattle.std.proofs.Math.Bool.{not, cond}
use borrow.Author.Tests.{ltb-true, ltb-false, eqb-true, eqb-false, lt-ltb, le-ltb, le-leb, lt-leb, ne_eqb}
use Rattle.config.specs.Pages.{count, page_lo, page_hi, count_is}
use Rattle.memory.specs.Laws.{split}
use Rattle.meta.specs.declared.ZeroExtent.{ZeroExtent}
use Rattle.meta.specs.Runs.{run}
use Rattle.update.specs.Pages.{add_number_if, partial, span, grown_numbers}
use Rattle.update.specs.Update.{push_run}
use Rattle.plain_file.specs.Plain.{new_run, pages_with, ends_within, grown_dirty}

-- a run pushed on the record
pub run_pushed : (a e : ℕ) (rs : List ZeroExtent) → push_run a e rs ≡ rs ++ new_run a e
unfolding push_run new_run
run_pushed a e rs = split (ltb a e)
    (λ t. rw (push_run, t) (ap (λ (none : Bool). rs ++ cond none [] (run a e ∷ [])) (sym (lt-leb e a (ltb-true a e t)))))
    (λ f. rw (push_run, f) (sym (append-nil rs) ∙ ap (λ (none : Bool). rs ++ cond none [] (run a e ∷ [])) (sym (le-leb e a (ltb-false a e f)))))

-- growth and a cut, of which one records nothing
pub runs_pushed : (a e : ℕ) (rs : List ZeroExtent) → push_run e a (push_run a e rs) ≡ rs ++ (new_run a e ++ new_run e a)
runs_pushed a e rs = run_pushed e a (push_run a e rs) ∙ ap (λ (xs : List ZeroExtent). xs ++ new_run e a) (run_pushed a e rs) ∙ append_assoc rs (new_run a e) (new_run e a)

module _ (P : ℕ) (pos : 0 < P) where
  -- the pages of n bytes end with the last byte's
  last_page : (n : ℕ) → 0 < n → count P n ≡ suc ((n - 1) / P)
  last_page n h = count_is P pos (suc ((n - 1) / P)) n (omega (arith, page_hi P pos (n - 1)))
      (λ p lt. let up : p ≤ (n - 1) / P = omega arith in omega (arith, mul-le-mul_right P up, page_lo P pos (n - 1)))

  -- the pages that a write has a byte in
  pub pages_same : (o n : ℕ) → 0 < n → span P o n ≡ pages_with P o n
  unfolding span pages_with
  pages_same o n h = rw (span, pages_with, ne_eqb n 0 (λ e. omega (arith, h, e)), last_page (o + n) (omega arith)) refl

  -- a partial last page
  pub within_same : (n : ℕ) → partial P n ≡ ends_within P n
  unfolding ends_within
  within_same n = split (eqb (n % P) 0)
      (λ t. rw (ends_within, t) (sym (le-ltb (n / P * P) n (omega (arith, div-add-mod' n P, eqb-true (n % P) 0 t)))))
      (λ f. rw (ends_within, f) (sym (lt-ltb (n / P * P) n (omega (arith, div-add-mod' n P, eqb-false (n % P) 0 f)))))

  -- the pages that growth makes dirty
  pub grown_same : (old new : ℕ) (ns : List ℕ) → grown_numbers P old new ns ≡ grown_dirty P old new ns
  unfolding grown_numbers grown_dirty
  grown_same old new ns = λ i. cond (ltb old new) (add_number_if (within_same new i && not (eqb (old / P) (new / P))) (new / P) (add_number_if (within_same old i) (old / P) ns)) ns
