-- What a text says, computed from its front: the definition that the parser is proved against.
use Rattle.std.specs.Prelude.{◌≡◌, Option, Some, None, Bool, cond, List, [], ◌∷◌, ℕ, zero, suc, length, leb}
use Rattle.meta.specs.declared.ZeroExtent.{ZeroExtent}
use Rattle.meta.specs.Runs.{normalized}
use Rattle.decimal.specs.Text.{Got, got, wrong, from, skip}
use Rattle.plan_line.specs.Values.{ascii, non_empty, distinct}
use Rattle.plan_line.specs.Readers.{read_number, read_run, read_field}
use Rattle.plan_text.specs.Grammar.{Input}
use Rattle.plan_text.specs.declared.Parsed.{Parsed}

-- ## Lines of one kind

-- they end where another text begins; or they break, and what was read until then stays
pub data Section (A : Type 0) : Type 0 where
  ended : List A → List ℕ → Section A
  broken : List A → Section A

abbrev pub more : {A : Type 0} → A → Section A → Section A
more x (ended xs r) = ended (x ∷ xs) r
more x (broken xs) = broken (x ∷ xs)

abbrev pub keyed : {A : Type 0} → Got (Unit {0}) → (List ℕ → Section A) → Section A → Section A
keyed (got _ m) f other = f m
keyed wrong f other = other

abbrev pub valued : {A : Type 0} → Got A → (A → List ℕ → Section A) → Section A
valued (got x r) f = f x r
valued wrong f = broken []

-- at most k lines
unfoldable pub section : {A : Type 0} → (List ℕ → Got A) → List ℕ → ℕ → List ℕ → Section A
section value key zero l = keyed (skip key l) (λ m. broken []) (ended [] l)
section value key (suc k) l = keyed (skip key l) (λ m. valued (value m) (λ x r. more x (section value key k r))) (ended [] l)

-- a test of all that was read
abbrev pub tested : {A : Type 0} → (List A → Bool) → Section A → Section A
tested ok (ended xs r) = cond (ok xs) (ended xs r) (broken xs)
tested ok (broken xs) = broken xs

-- ## The whole text

-- the code's answer to a text that says something
abbrev pub parsed_as : ℕ → ℕ → ℕ → ℕ → ℕ → Option Parsed
parsed_as old new e r d = Some (record { old_size = old; new_size = new; extents = e; recorded = r; dirty = d })

pub same_parsed : (p q : Parsed) → Some p ≡ Some q → p ≡ q
same_parsed p q e = cc

-- the answer, and what was read of each kind
pub record Reading : Type 0 where
  pub parsed : Option Parsed
  pub extents : List ZeroExtent
  pub records : List ZeroExtent
  pub dirty : List ℕ

abbrev pub refused : List ZeroExtent → List ZeroExtent → List ℕ → Reading
refused es rs ds = record { parsed = None; extents = es; records = rs; dirty = ds }

unfoldable pub accepted : Input → Reading
accepted i = record {
  parsed = parsed_as i.old i.new (length i.extents) (length i.records) (length i.dirty);
  extents = i.extents;
  records = i.records;
  dirty = i.dirty;
}

abbrev pub on_section : {A : Type 0} → Section A → (List A → List ℕ → Reading) → (List A → Reading) → Reading
on_section (ended xs r) f g = f xs r
on_section (broken xs) f g = g xs

abbrev pub on_number : Got ℕ → (ℕ → List ℕ → Reading) → Reading → Reading
on_number (got n r) f g = f n r
on_number wrong f g = g

-- nothing is left but the line feed that is read behind the end
unfoldable pub parse_end : Input → List ℕ → Reading
parse_end i l = cond (leb (length l) 1) (accepted i) (refused i.extents i.records i.dirty)

unfoldable pub parse_dirty : ℕ → ℕ → List ZeroExtent → List ZeroExtent → List ℕ → Reading
parse_dirty old new es rs l =
    on_section (tested distinct (section read_number (ascii "dirty=") 1024 l))
    (λ ds r. parse_end (record { old = old; new = new; extents = es; records = rs; dirty = ds }) r)
    (λ ds. refused es rs ds)

unfoldable pub parse_records : ℕ → ℕ → List ZeroExtent → List ℕ → Reading
parse_records old new es l =
    on_section (tested non_empty (section read_run (ascii "record=") 1024 l))
    (λ rs r. parse_dirty old new es rs r)
    (λ rs. refused es rs [])

unfoldable pub parse_extents : ℕ → ℕ → List ℕ → Reading
parse_extents old new l =
    on_section (tested normalized (section read_run (ascii "extent=") 1024 l))
    (λ es r. parse_records old new es r)
    (λ es. refused es [] [])

unfoldable pub parse_sizes : List ℕ → Reading
parse_sizes l =
    on_number (read_field (ascii "old_size=") l)
    (λ old m. on_number (read_field (ascii "new_size=") m) (λ new r. parse_extents old new r) (refused [] [] []))
    (refused [] [] [])

unfoldable pub parse : List ℕ → Reading
parse t = cond (leb (length t) 65536) (parse_sizes (from t 0)) (refused [] [] [])
