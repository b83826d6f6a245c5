-- Laws of the answer: what the buffers hold after an input was read, and after the plan.
use Rattle.std.proofs.Math.Path.{◌≡◌, ap, subst}
use Rattle.std.specs.Option.{ok_or}
use Rattle.std.specs.Result.{MatchResult, IsErrAnd, result_ok}
use Rattle.std.specs.Prelude.{refl, Option, Some, None, Result, Ok, Err, List, [], ◌∷◌, ℕ, ◌+◌, ◌*◌, ◌/◌, ◌≤◌, min, drop}
use Rattle.std.proofs.Common.{sym, ◌∙◌, take_at, take_all, length-take}
use Rattle.std.proofs.Math.Logic.{⊎_elim}
use native.Mathlib.Omega.{arith}
use Rattle.std.proofs.Math.ListN.{length, take}
use Rattle.std.proofs.Math.Seq.{sets, length-sets}
use Rattle.std.proofs.lemmas.List.Edits.{sets-eq}
use Rattle.config.specs.Pages.{count}
use Rattle.meta.specs.declared.ZeroExtent.{ZeroExtent}
use Rattle.meta.specs.Runs.{runs_of, numbers_of}
use Rattle.runs.specs.Flat.{runs_in, padded}
use Rattle.runs.specs.FlatLaws.{length-numbers}
use Rattle.config.specs.declared.refusal.Refusal.{Refusal}
use Rattle.extents.specs.Plan.{plan, too_many, kept}
use Rattle.extents.specs.Plan.{Answer as Planned}
use Rattle.extents.specs.PlanLaws.{plan_most}
use Rattle.plan_report.specs.Print.{report-length}
use Rattle.extents.specs.Outcome.{outcome, planned, Outcome}
use Rattle.plan_report.specs.declared.PlanError.{PlanError}
use Rattle.plan_text.specs.declared.Parsed.{Parsed}
use Rattle.plan_text.specs.Grammar.{Input, Valid}
use Rattle.plan_report.specs.Answers.{report}
use Rattle.plan_text.specs.Parse.{Reading, parsed_as, same_parsed, parse, accepted}
use Rattle.plan_text.specs.Means.{accepted_is_well_formed, malformed_or_accepted}
use Rattle.plan_text.specs.Fill.{filled_by}
use Rattle.plan_text.specs.Fill.{Outcome as Read, outcome as read}
use Rattle.zeroplan.specs.Reply.{by_plan, reply_to, by_reading, reply}

-- ## Runs in buffers

pub runs_numbers : (l : List ZeroExtent) → runs_of (numbers_of l) ≡ l
runs_numbers [] = refl
runs_numbers (x ∷ l) = ap (λ (r : List ZeroExtent). x ∷ r) (runs_numbers l)

front : (v w : List ℕ) → length v ≤ length w → take (length v) (sets w 0 v) ≡ v
front v w h = rw (sets-eq v w 0 (omega arith)) (take_at v (drop (0 + length v) w) (length v) refl)

runs_read : (l : List ZeroExtent) (w : List ℕ) → length l * 2 ≤ length w → runs_in (length l) (sets w 0 (numbers_of l)) ≡ l
unfolding runs_in
runs_read l w h =
    ap (λ (k : ℕ). runs_of (take k (sets w 0 (numbers_of l)))) (sym (length-numbers l))
    ∙ ap runs_of (front (numbers_of l) w (omega (arith, length-numbers l))) ∙ runs_numbers l

-- the runs of the part of a list that holds n of them
pub runs_cut : (n : ℕ) (w : List ℕ) → n * 2 ≤ length w → runs_in (length (take (n * 2) w) / 2) (take (n * 2) w) ≡ runs_in n w
unfolding runs_in
runs_cut n w h =
    let l : length (take (n * 2) w) ≡ n * 2 = length-take (n * 2) w ∙ min_left (n * 2) (length w) h in
    let m : length (take (n * 2) w) / 2 ≡ n = ap (λ (k : ℕ). k / 2) l ∙ halves n in
    ap (λ (k : ℕ). runs_of (take (k * 2) (take (n * 2) w))) m ∙ ap runs_of (take_all (n * 2) (take (n * 2) w) (omega (arith, l)))
  where
    min_left : (a b : ℕ) → a ≤ b → min a b ≡ a
    min_left a b g = omega arith

    halves : (k : ℕ) → k * 2 / 2 ≡ k
    halves k = omega arith

-- ## What was read

-- an accepted text says i, and the buffers hold it
pub record Said (t : List ℕ) (old new n k j : ℕ) (e r d : List ℕ) : Type 0 where
  pub input : Input
  pub old_is : old ≡ input.old
  pub new_is : new ≡ input.new
  pub extents : runs_in n e ≡ input.extents
  pub records : runs_in k r ≡ input.records
  pub dirty : take j d ≡ input.dirty
  pub few : n ≤ 1024
  pub many : k ≤ 1024
  pub pages : j ≤ 1024
  pub extents_in : n * 2 ≤ length e
  pub records_in : k * 2 ≤ length r
  pub dirty_in : j ≤ length d
  pub reply_is : reply t ≡ reply_to input

module _ (t : List ℕ) (old new n k j : ℕ) (e r d e₀ r₀ d₀ : List ℕ) (le : length e₀ ≡ 2048) (lr : length r₀ ≡ 2048) (ld : length d₀ ≡ 1024) where
  held : (i : Input) → parse t ≡ accepted i → read (parsed_as old new n k j) e r d ≡ filled_by (parse t) e₀ r₀ d₀ → Said t old new n k j e r d
  unfolding filled_by accepted reply
  held i p q =
      let v : Valid i = (accepted_is_well_formed t i p).valid in
      let f : read (parsed_as old new n k j) e r d ≡ filled_by (accepted i) e₀ r₀ d₀ = q ∙ ap (λ (x : Reading). filled_by x e₀ r₀ d₀) p in
      let a : parsed_as old new n k j ≡ parsed_as i.old i.new (length i.extents) (length i.records) (length i.dirty) = ap (λ (x : Read). x.parsed) f in
      let b = same_parsed _ _ a in
      let o : old ≡ i.old = ap (λ (x : Parsed). x.old_size) b in
      let w : new ≡ i.new = ap (λ (x : Parsed). x.new_size) b in
      let es : n ≡ length i.extents = ap (λ (x : Parsed). x.extents) b in
      let rs : k ≡ length i.records = ap (λ (x : Parsed). x.recorded) b in
      let ds : j ≡ length i.dirty = ap (λ (x : Parsed). x.dirty) b in
      let x : e ≡ sets e₀ 0 (numbers_of i.extents) = ap (λ (x : Read). x.extents) f in
      let y : r ≡ sets r₀ 0 (numbers_of i.records) = ap (λ (x : Read). x.records) f in
      let z : d ≡ sets d₀ 0 i.dirty = ap (λ (x : Read). x.dirty) f in
      record {
        input = i;
        old_is = o;
        new_is = w;
        extents = (λ s. runs_in (es s) (x s)) ∙ runs_read i.extents e₀ (omega (arith, v.extents_count));
        records = (λ s. runs_in (rs s) (y s)) ∙ runs_read i.records r₀ (omega (arith, v.records_count));
        dirty = (λ s. take (ds s) (z s)) ∙ front i.dirty d₀ (omega (arith, v.dirty_count));
        few = omega (arith, v.extents_count);
        many = omega (arith, v.records_count);
        pages = omega (arith, v.dirty_count);
        extents_in = omega (arith, v.extents_count, ap length x ∙ length-sets e₀ 0 (numbers_of i.extents));
        records_in = omega (arith, v.records_count, ap length y ∙ length-sets r₀ 0 (numbers_of i.records));
        dirty_in = omega (arith, v.dirty_count, ap length z ∙ length-sets d₀ 0 i.dirty);
        reply_is = ap (λ (x : Reading). by_reading x.parsed x) p;
      }

  pub said : read (parsed_as old new n k j) e r d ≡ filled_by (parse t) e₀ r₀ d₀ → Said t old new n k j e r d
  unfolding filled_by
  said q = ⊎_elim
      (λ m. absurd (clash (ap (λ (x : Read). x.parsed) q ∙ m)))
      (λ x. held x.0 x.1 q)
      (malformed_or_accepted t)
    where
      clash : parsed_as old new n k j ≡ None → ⊥
      clash p = let z : ◌≡◌ {A = ℕ} 0 1 = cc in omega arith

-- a refused text
pub unread : (t e r d e₀ r₀ d₀ : List ℕ) → read None e r d ≡ filled_by (parse t) e₀ r₀ d₀ → reply t ≡ report (Err PlanError.Malformed) []
unfolding filled_by reply
unread t e r d e₀ r₀ d₀ q = ap (λ (p : Option Parsed). by_reading p (parse t)) (sym (ap (λ (x : Read). x.parsed) q))

-- ## What the plan answered

pub too_many_lem : (n : ℕ) (r : Refusal) (w : List ℕ) (a : Planned) → outcome (Err r) w ≡ planned n a → a ≡ too_many
unfolding planned
too_many_lem n r w too_many q = refl
too_many_lem n r w (kept l) q = let p = ap (λ (x : Outcome). x.answer) q in let z : ◌≡◌ {A = ℕ} 0 1 = cc in absurd (omega arith)

-- c runs, in front of the list
pub record Kept (n c : ℕ) (w : List ℕ) (a : Planned) : Type 0 where
  pub runs : List ZeroExtent
  pub answer : a ≡ kept runs
  pub count : c ≡ length runs
  pub list : w ≡ padded n (numbers_of runs)

pub enough : (n c : ℕ) (w : List ℕ) (a : Planned) → outcome (Ok c) w ≡ planned n a → Kept n c w a
unfolding planned
enough n c w too_many q = let p = ap (λ (x : Outcome). x.answer) q in let z : ◌≡◌ {A = ℕ} 0 1 = cc in absurd (omega arith)
enough n c w (kept l) q =
    let p = ap (λ (x : Outcome). x.answer) q in
    record { runs = l; answer = refl; count = cc; list = ap (λ (x : Outcome). x.work) q }

pub runs_shown : (n : ℕ) (l : List ZeroExtent) → runs_of (take (length l * 2) (padded n (numbers_of l))) ≡ l
unfolding padded
runs_shown n l = ap runs_of (take_at (numbers_of l) _ (length l * 2) (length-numbers l)) ∙ runs_numbers l

-- runs that are kept lie in front of the list
pub runs_kept : {n c : ℕ} {w : List ℕ} {a : Planned} (k : Kept n c w a) → runs_in c w ≡ k.runs
unfolding runs_in
runs_kept {n = n} k = (λ i. runs_of (take (k.count i * 2) (k.list i))) ∙ runs_shown n k.runs

-- ## Results on their way out

-- what `ok_or` made of an option
pub some_was : {T E : Type 0} (o : Option T) (r : Result T E) (x : T) → o ≡ result_ok r → r ≡ Ok x → o ≡ Some x
some_was o r x e f = e ∙ ap result_ok f

pub none_was : {T E : Type 0} (o : Option T) (r : Result T E) (d e : E) → r ≡ ok_or o d → o ≡ result_ok r → r ≡ Err e → (o ≡ None) × (e ≡ d)
none_was {T = T} {E = E} o r d e v k f =
    let n : o ≡ None = k ∙ ap result_ok f in
    let q : ◌≡◌ {A = Result T E} (Err e) (Err d) = sym f ∙ v ∙ ap (λ (x : Option T). ok_or x d) n in
    (n, cc)

-- what `map_err` made of a result
module _ {T E D : Type 0} (P : E → D → Type 0) where
  pub ok_was : (r : Result T E) (s : Result T D) (x : T) → MatchResult r (λ y. s ≡ Ok y) (λ e. IsErrAnd s (P e)) → s ≡ Ok x → r ≡ Ok x
  ok_was (Ok y) s x h f = let k : ◌≡◌ {A = Result T D} (Ok y) (Ok x) = sym h ∙ f in let z : y ≡ x = cc in ap (λ (v : T). Ok v) z
  ok_was (Err e) s x h f = absurd (subst (λ (z : Result T D). IsErrAnd z (P e)) f h)

  pub err_was : (r : Result T E) (s : Result T D) (d : D) → MatchResult r (λ y. s ≡ Ok y) (λ e. IsErrAnd s (P e)) → s ≡ Err d → (e : E) × (r ≡ Err e) × P e d
  err_was (Ok y) s d h f = let k : ◌≡◌ {A = Result T D} (Ok y) (Err d) = sym h ∙ f in let z : ◌≡◌ {A = ℕ} 0 1 = cc in absurd (omega arith)
  err_was (Err e) s d h f = (e, refl, subst (λ (z : Result T D). IsErrAnd z (P e)) f h)

-- ## The answer of each kind

module _ (t : List ℕ) (i : Input) (is : reply t ≡ reply_to i) where
  pub reply_extents : plan 16384 1024 i.old i.new i.extents i.records i.dirty ≡ too_many → reply t ≡ report (Err PlanError.Extents) []
  unfolding reply_to
  reply_extents e = is ∙ ap (by_plan (count 16384 i.new)) e

  pub reply_runs : (l : List ZeroExtent) → plan 16384 1024 i.old i.new i.extents i.records i.dirty ≡ kept l
      → reply t ≡ report (Ok (count 16384 i.new)) l
  unfolding reply_to
  reply_runs l e = is ∙ ap (by_plan (count 16384 i.new)) e

-- the buffers keep their lengths
pub lengths : (x : Reading) (p : Option Parsed) (e r d e₀ r₀ d₀ : List ℕ) → read p e r d ≡ filled_by x e₀ r₀ d₀
    → (length e ≡ length e₀) × (length r ≡ length r₀) × (length d ≡ length d₀)
unfolding filled_by
lengths x p e r d e₀ r₀ d₀ q = (
  ap length (ap (λ (y : Read). y.extents) q) ∙ length-sets e₀ 0 (numbers_of x.extents),
  ap length (ap (λ (y : Read). y.records) q) ∙ length-sets r₀ 0 (numbers_of x.records),
  ap length (ap (λ (y : Read). y.dirty) q) ∙ length-sets d₀ 0 x.dirty,
)

-- ## How long an answer is: 1,024 runs at the most

reply_to-length : (i : Input) → length (reply_to i) ≤ 50248
unfolding reply_to
reply_to-length i = go (plan 16384 1024 i.old i.new i.extents i.records i.dirty) refl
  where
    go : (a : Planned) → plan 16384 1024 i.old i.new i.extents i.records i.dirty ≡ a → length (by_plan (count 16384 i.new) a) ≤ 50248
    go too_many e = omega (arith, report-length (Err PlanError.Extents) [])
    go (kept l) e = omega (arith, report-length (Ok (count 16384 i.new)) l, plan_most 16384 1024 i.old i.new i.extents i.records i.dirty l e)

pub reply-length : (t : List ℕ) → length (reply t) ≤ 50248
unfolding reply
reply-length t = go (parse t).parsed
  where
    go : (p : Option Parsed) → length (by_reading p (parse t)) ≤ 50248
    go (Some p) = reply_to-length _
    go None = omega (arith, report-length (Err PlanError.Malformed) [])
