-- When a call in an update is refused: 33 and 34 only where nothing is free, 30 only by the budget, and what a budget without limits keeps.
use Rattle.std.specs.Prelude.{◌≡◌, ℕ, suc, ◌≤◌, ◌<◌, max, Bool, true, false, ltb, eqb, length}
use Rattle.std.proofs.Math.Path.{ap}
use Rattle.std.proofs.Math.Bool.{cond}
use borrow.Author.Tests.{eqb-true, lt-ltb, le-ltb, le-leb, lt-leb}
use Rattle.config.specs.declared.refusal.Refusal.TheVariants.{BudgetExceeded, FramesFull, RecordFull}
use Rattle.memory.specs.Laws.{split}
use Rattle.update.specs.declared.Budget.{Budget}
use Rattle.update.specs.Pages.{holds}
use Rattle.update.specs.Update.{Over, budget_bytes, touch, raised, Tried, accepted, refused, passing, marked, try_touch, room}

-- without limits no peak rises
pub raised_unlimited : (P n : ℕ) (g : Budget) → g.limited ≡ false → raised P n g ≡ g
unfolding raised
raised_unlimited P n g e = λ i. record {
  limited = g.limited;
  max_pages = g.max_pages;
  max_bytes = g.max_bytes;
  passed = g.passed;
  peak_pages = ap (λ (b : Bool). cond b (max g.peak_pages n) g.peak_pages) e i;
  peak_bytes = ap (λ (b : Bool). cond b (max g.peak_bytes (budget_bytes P n)) g.peak_bytes) e i;
}

module _ (P M F R : ℕ) where
  -- without limits 30 does not arise
  pub unlimited : (n : ℕ) (g : Budget) → g.limited ≡ false → passing P n g ≡ 0
  unfolding passing
  unlimited n g e = ap (λ (b : Bool). cond b (cond (eqb g.passed 0) (cond (ltb g.max_pages n) 1 (cond (ltb g.max_bytes (budget_bytes P n)) 2 0)) g.passed) 0) e

  module _ (b : ℕ → ℕ) (l : Bool) (u : ℕ → ℕ → ℕ) (p : ℕ) (v : Over) where
    -- a dirty page is written whatever the budget and the frames say
    pub dirty_accepted : holds v.dirty p ≡ true → try_touch P M F R b l u p v ≡ accepted (touch P b l u p v)
    unfolding try_touch
    dirty_accepted h = rw (try_touch, h)

    -- with a free frame and a budget that is not passed, one more page is dirty
    pub free_accepted : passing P (suc (length v.dirty)) v.budget ≡ 0 → length v.dirty < F → try_touch P M F R b l u p v ≡ accepted (touch P b l u p v)
    unfolding try_touch
    free_accepted h k = split (holds v.dirty p)
        (λ t. rw (try_touch, t))
        (λ f. rw (try_touch, f, h, lt-leb F (length v.dirty) k))

    -- a budget that is passed comes before frames that are full, and is marked
    pub passed_refused : holds v.dirty p ≡ false → (passing P (suc (length v.dirty)) v.budget ≡ 0 → ⊥) → try_touch P M F R b l u p v ≡ refused BudgetExceeded (marked P M F R v)
    unfolding try_touch
    passed_refused h k = split (eqb (passing P (suc (length v.dirty)) v.budget) 0)
        (λ t. absurd (k (eqb-true _ 0 t)))
        (λ f. rw (try_touch, h, f))

    -- 33: every frame holds a dirty page, and nothing changes
    pub full_refused : holds v.dirty p ≡ false → passing P (suc (length v.dirty)) v.budget ≡ 0 → F ≤ length v.dirty → try_touch P M F R b l u p v ≡ refused FramesFull v
    unfolding try_touch
    full_refused h k q = rw (try_touch, h, k, le-leb F (length v.dirty) q)

  -- 34: only where no entry is free
  pub entry_free : (a e : ℕ) (v : Over) (k : Over → Tried) → length v.recorded < R → room P M F R a e v k ≡ k v
  entry_free a e v k h = split (ltb a e) (λ t. rw (t, lt-leb R (length v.recorded) h)) (λ f. rw f)

  pub nothing_recorded : (a e : ℕ) (v : Over) (k : Over → Tried) → e ≤ a → room P M F R a e v k ≡ k v
  nothing_recorded a e v k h = rw (le-ltb a e h)

  pub record_full : (a e : ℕ) (v : Over) (k : Over → Tried) → a < e → R ≤ length v.recorded → room P M F R a e v k ≡ refused RecordFull v
  record_full a e v k h q = rw (lt-ltb a e h, le-leb R (length v.recorded) q)
