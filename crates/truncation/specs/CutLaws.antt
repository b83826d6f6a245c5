-- A cut, once its run was pushed.
use Rattle.std.specs.Prelude.{◌≡◌, refl, true, false, ℕ, ◌<◌, List, Ok, Err}
use Rattle.std.specs.Result.{is_err}
use Rattle.std.proofs.Common.{sym, ap, ◌∙◌}
use Rattle.config.specs.Pages.{count}
use Rattle.config.specs.declared.refusal.Refusal.{Refusal}
use Rattle.update.specs.declared.Overlay.{Overlay}
use Rattle.update.specs.Verdict.{Verdict}
use Rattle.update.specs.ListLaws.{clash}
use Rattle.update.specs.Buffers.{Buffers}
use Rattle.update.specs.Laid.{Laid, laid, bufs, Fits, Dropped, below_count, chopped}
use Rattle.update.specs.PushLaws.{recording, chopped_full, chopped_some}
use Rattle.pool.specs.Pool.{Pushed, pushes, pushed}
use Rattle.pool.specs.PushLaws.{Went, pushed_full, pushed_entries}

-- an answer, by whether it is refused
pub is_refused : (a : Verdict) → is_err a ≡ true → (r : Refusal) × (a ≡ Err r)
is_refused (Ok u) t = clash t refl
is_refused (Err r) t = (r, refl)

pub is_accepted : (a : Verdict) → is_err a ≡ false → a ≡ Ok tt
is_accepted (Ok u) f = refl
is_accepted (Err r) f = clash refl f

-- to n bytes; r was answered, and x is the record then
module _ (P C : ℕ) (pos : 0 < P) (v : Overlay) (l : Buffers) (fits : Fits P C v l) (n : ℕ)
    (r : Pushed) (x : List ℕ) (p e : ℕ) (last : p ≡ count P n) (before : e ≡ count P v.size) (push : pushes r x ≡ pushed l.recs v.recorded p e) (M : ℕ) where
  asked : pushes r x ≡ pushed l.recs v.recorded (count P n) (count P v.size)
  asked = push ∙ (λ j. pushed l.recs v.recorded (last j) (before j))

  pub chopped_refused : (q : Refusal) → r ≡ Err q → laid v (bufs l.frames l.numbers l.clean x) (Err q) ≡ chopped P C M v l n
  chopped_refused q h =
      let f = pushed_full l.recs v.recorded (count P n) (count P v.size) x q (ap (λ (y : Pushed). pushes y x) (sym h) ∙ asked) in
      (λ j. laid v (bufs l.frames l.numbers l.clean (f.1 j)) (Err (f.2 j))) ∙ sym (chopped_full P C pos v l fits n M f.0)

  module _ (k : ℕ) (h : r ≡ Ok k) where
    went : Went l.recs v.recorded (count P n) (count P v.size) x k
    went = pushed_entries l.recs v.recorded (count P n) (count P v.size) x k (ap (λ (y : Pushed). pushes y x) (sym h) ∙ asked)

    -- with k runs recorded
    abbrev numbers_then : ℕ → Overlay
    numbers_then k = record { base_size = v.base_size; size = v.size; dirty = v.dirty; recorded = k; cache = v.cache; budget = v.budget }

    abbrev laid_then : Dropped → List ℕ → Laid
    laid_then d y = laid d.overlay (bufs d.frames d.numbers d.clean y) (Ok tt)

    -- the pages that are dropped do not hang on the size before
    dropped_so : below_count P C (numbers_then k) l.frames l.numbers l.clean p n
        ≡ below_count P C (recording P C pos v l fits n (count P n) (count P v.size)) l.frames l.numbers l.clean (count P n) n
    unfolding below_count
    dropped_so = λ j. below_count P C (numbers_then (went.count j)) l.frames l.numbers l.clean (last j) n

    pub chopped_dropped : (d : Dropped) → d ≡ below_count P C (numbers_then k) l.frames l.numbers l.clean p n → laid_then d x ≡ chopped P C M v l n
    chopped_dropped d q =
        ap (λ (y : Dropped). laid_then y x) (q ∙ dropped_so)
        ∙ ap (λ (y : List ℕ). laid_then (below_count P C (recording P C pos v l fits n (count P n) (count P v.size)) l.frames l.numbers l.clean (count P n) n) y) went.recs
        ∙ sym (chopped_some P C pos v l fits n M went.free)
