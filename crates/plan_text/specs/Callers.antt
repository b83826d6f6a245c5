-- What a caller of the parser knows from its contract.
use Rattle.std.proofs.Math.Path.{◌≡◌, ap}
use Rattle.std.specs.Prelude.{None, List, ℕ, ◌*◌, ◌≤◌, take}
use Rattle.std.proofs.Common.{sym, ◌∙◌, arith}
use Rattle.std.proofs.Math.Logic.{⊎_elim}
use Rattle.std.proofs.Math.ListN.{length}
use Rattle.std.proofs.lemmas.List.Edits.{sets}
use Rattle.meta.specs.Runs.{numbers_of}
use Rattle.plan_text.specs.declared.Parsed.{Parsed}
use Rattle.plan_text.specs.Grammar.{Input, WellFormed}
use Rattle.plan_text.specs.Parse.{Reading, parsed_as, same_parsed, accepted, parse}
use Rattle.plan_text.specs.Means.{accepted_is_well_formed, malformed_or_accepted, malformed_is_not_well_formed}
use Rattle.plan_text.specs.Fill.{Outcome, outcome, filled_by}
use Rattle.plan_line.specs.Tests.{length-numbers}
use Rattle.plan_text.specs.Tested.{front}

-- the sizes, the counts and the buffers of an accepted text: they are those of its one meaning
pub record Says (t : List ℕ) (old new a b c : ℕ) (e r d : List ℕ) : Type 0 where
  pub input : Input
  pub well_formed : WellFormed t input
  pub old_is : old ≡ input.old
  pub new_is : new ≡ input.new
  pub extents_count : a ≡ length input.extents
  pub records_count : b ≡ length input.records
  pub dirty_count : c ≡ length input.dirty
  pub extents_are : take (a * 2) e ≡ numbers_of input.extents
  pub records_are : take (b * 2) r ≡ numbers_of input.records
  pub dirty_are : take c d ≡ input.dirty

numbers_front : (xs l out : List ℕ) (n : ℕ) → n ≡ length xs → length xs ≤ length out → l ≡ sets out 0 xs → take n l ≡ xs
numbers_front xs l out n z h e = ap (take n) e ∙ ap (λ (k : ℕ). take k (sets out 0 xs)) z ∙ front xs out h

module _ (t e r d e' r' d' : List ℕ) where
  pub accepted_says : (old new a b c : ℕ) → length e ≡ 2048 → length r ≡ 2048 → length d ≡ 1024
      → outcome (parsed_as old new a b c) e' r' d' ≡ filled_by (parse t) e r d → Says t old new a b c e' r' d'
  unfolding filled_by accepted
  accepted_says old new a b c E R D q = ⊎_elim
      (λ m.
      let p : parsed_as old new a b c ≡ (parse t).parsed = ap (λ (o : Outcome). o.parsed) q in
      let z : ◌≡◌ {A = ℕ} 0 1 = cc in
      absurd (omega arith))
      (λ (i, p).
      let s : outcome (parsed_as old new a b c) e' r' d' ≡ filled_by (accepted i) e r d = q ∙ ap (λ (x : Reading). filled_by x e r d) p in
      let h : parsed_as old new a b c ≡ parsed_as i.old i.new (length i.extents) (length i.records) (length i.dirty) = ap (λ (o : Outcome). o.parsed) s in
      let w : WellFormed t i = accepted_is_well_formed t i p in
      let k = same_parsed _ _ h in
      let A : a ≡ length i.extents = ap (λ (x : Parsed). x.extents) k in
      let B : b ≡ length i.records = ap (λ (x : Parsed). x.recorded) k in
      let C : c ≡ length i.dirty = ap (λ (x : Parsed). x.dirty) k in
      record {
        input = i;
        well_formed = w;
        old_is = ap (λ (x : Parsed). x.old_size) k;
        new_is = ap (λ (x : Parsed). x.new_size) k;
        extents_count = A;
        records_count = B;
        dirty_count = C;
        extents_are = numbers_front (numbers_of i.extents) e' e (a * 2) (omega (arith, length-numbers i.extents))
            (omega (arith, length-numbers i.extents, w.valid.extents_count)) (ap (λ (o : Outcome). o.extents) s);
        records_are = numbers_front (numbers_of i.records) r' r (b * 2) (omega (arith, length-numbers i.records))
            (omega (arith, length-numbers i.records, w.valid.records_count)) (ap (λ (o : Outcome). o.records) s);
        dirty_are = numbers_front i.dirty d' d c C (omega (arith, w.valid.dirty_count)) (ap (λ (o : Outcome). o.dirty) s);
      })
      (malformed_or_accepted t)

  pub malformed_says : outcome None e' r' d' ≡ filled_by (parse t) e r d → (i : Input) → WellFormed t i → ⊥
  unfolding filled_by
  malformed_says q = malformed_is_not_well_formed t (sym (ap (λ (o : Outcome). o.parsed) q))
