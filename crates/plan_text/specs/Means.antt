-- The parser's definition and the grammar agree: what is accepted is well formed and means this, and what is well formed is accepted.
use Rattle.std.specs.Prelude.{◌≡◌, refl, None, Bool, true, false, cond, List, [], ◌∷◌, ◌++◌, ◌⊎◌, ℕ, ◌≤◌, length, get_or, take, leb}
use Rattle.std.proofs.Common.{sym, ap, subst, ◌∙◌, append_assoc, append-nil, inl, inr, ⊎_elim, arith, length-append, take_at, leb-true, le-leb}
use Rattle.meta.specs.declared.ZeroExtent.{ZeroExtent}
use Rattle.meta.specs.Runs.{normalized}
use Rattle.decimal.specs.Text.{Got, got, wrong, from}
use Rattle.decimal.specs.Read.{skip_other}
use Rattle.plan_text.specs.Grammar.{Input, spell, Fits, RunFits, Valid, WellFormed}
use Rattle.plan_line.specs.Values.{ascii, number_value, run_value, lines, non_empty, distinct}
use Rattle.plan_text.specs.Parse.{same_parsed, Section, ended, broken, section, tested, Reading, refused, accepted, on_section, on_number, parse_end, parse_dirty, parse_records, parse_extents, parse_sizes, parse}
use Rattle.plan_line.specs.Readers.{read_number, read_run, read_field}
use Rattle.plan_text.specs.Laws.{never_ended, number_line_means, number_line_spelled, run_line_means, run_line_spelled, field_means, field_spelled, section_means, section_spelled}

abbrev pub input : ℕ → ℕ → List ZeroExtent → List ZeroExtent → List ℕ → Input
input old new es rs ds = record { old = old; new = new; extents = es; records = rs; dirty = ds }

-- the text of an input, and another behind it
spell_behind : (i : Input) (z : List ℕ) → spell i ++ z
    ≡ ascii "old_size=" ++ (number_value i.old ++ (ascii "new_size=" ++ (number_value i.new ++ (lines (ascii "extent=") run_value i.extents
    ++ (lines (ascii "record=") run_value i.records ++ (lines (ascii "dirty=") number_value i.dirty ++ z))))))
unfolding spell
spell_behind i z = simp append_assoc

-- ## What is accepted is well formed

never_accepted {ℓ} : {X : Type ℓ} (x : Reading) (i : Input) → x.parsed ≡ None → x ≡ accepted i → X
unfolding accepted
never_accepted x i m e = let p = ap (λ (y : Reading). y.parsed) e in let z : ◌≡◌ {A = ℕ} 0 1 = cc in absurd (omega arith)

cond_accepted : (b : Bool) (x y : Reading) (i : Input) → y.parsed ≡ None → cond b x y ≡ accepted i → (b ≡ true) × (x ≡ accepted i)
cond_accepted true x y i m e = (refl, e)
cond_accepted false x y i m e = never_accepted y i m e

number_accepted : (g : Got ℕ) (f : ℕ → List ℕ → Reading) (y : Reading) (i : Input) → y.parsed ≡ None → on_number g f y ≡ accepted i
    → (n : ℕ) × (r : List ℕ) × (g ≡ got n r) × (f n r ≡ accepted i)
number_accepted (got n r) f y i m e = (n, r, refl, e)
number_accepted wrong f y i m e = never_accepted y i m e

section_accepted : {A : Type 0} (s : Section A) (f : List A → List ℕ → Reading) (g : List A → Reading) (i : Input)
    → ((xs : List A) → (g xs).parsed ≡ None) → on_section s f g ≡ accepted i
    → (xs : List A) × (r : List ℕ) × (s ≡ ended xs r) × (f xs r ≡ accepted i)
section_accepted (ended xs r) f g i m e = (xs, r, refl, e)
section_accepted (broken xs) f g i m e = never_accepted (g xs) i (m xs) e

tested_means : {A : Type 0} (ok : List A → Bool) (s : Section A) (xs : List A) (r : List ℕ) → tested ok s ≡ ended xs r → (s ≡ ended xs r) × (ok xs ≡ true)
tested_means ok (ended ys m) xs r e = go (ok ys) refl e
  where
    go : (b : Bool) → ok ys ≡ b → cond b (ended ys m) (broken ys) ≡ ended xs r → (ended ys m ≡ ended xs r) × (ok xs ≡ true)
    go true t e = let k : ys ≡ xs = cc in (e, ap ok (sym k) ∙ t)
    go false t e = never_ended e
tested_means ok (broken ys) xs r e = never_ended e

accepted_same : (i j : Input) → accepted i ≡ accepted j → i ≡ j
unfolding accepted
accepted_same i j e =
    let p = same_parsed _ _ (ap (λ (y : Reading). y.parsed) e) in
    λ k. input (p k).old_size (p k).new_size (e k).extents (e k).records (e k).dirty

end_means : (i j : Input) (z : List ℕ) → parse_end i z ≡ accepted j → (length z ≤ 1) × (i ≡ j)
unfolding parse_end
end_means i j z e =
    let g = cond_accepted (leb (length z) 1) (accepted i) (refused i.extents i.records i.dirty) j refl e in
    (leb-true (length z) 1 g.0, accepted_same i j g.1)

-- the parts, one behind the other
parts_mean : (old new : ℕ) (es rs : List ZeroExtent) (ds l l1 l2 l3 l4 z : List ℕ)
    → read_field (ascii "old_size=") l ≡ got old l1 → read_field (ascii "new_size=") l1 ≡ got new l2
    → tested normalized (section read_run (ascii "extent=") 1024 l2) ≡ ended es l3
    → tested non_empty (section read_run (ascii "record=") 1024 l3) ≡ ended rs l4
    → tested distinct (section read_number (ascii "dirty=") 1024 l4) ≡ ended ds z
    → length z ≤ 1 → (z : List ℕ) × (l ≡ spell (input old new es rs ds) ++ z) × (length z ≤ 1) × Valid (input old new es rs ds)
parts_mean old new es rs ds l l1 l2 l3 l4 z a b c d e h =
    let A = field_means (ascii "old_size=") l old l1 a in
    let B = field_means (ascii "new_size=") l1 new l2 b in
    let C = tested_means normalized (section read_run (ascii "extent=") 1024 l2) es l3 c in
    let C' = section_means read_run (ascii "extent=") run_value RunFits run_line_means 1024 l2 es l3 C.0 in
    let D = tested_means non_empty (section read_run (ascii "record=") 1024 l3) rs l4 d in
    let D' = section_means read_run (ascii "record=") run_value RunFits run_line_means 1024 l3 rs l4 D.0 in
    let E = tested_means distinct (section read_number (ascii "dirty=") 1024 l4) ds z e in
    let E' = section_means read_number (ascii "dirty=") number_value Fits number_line_means 1024 l4 ds z E.0 in (
      z,
      A.0 ∙ ap (λ (w : List ℕ). ascii "old_size=" ++ (number_value old ++ w)) (B.0 ∙ ap (λ (w : List ℕ). ascii "new_size=" ++ (number_value new ++ w))
          (C'.0 ∙ ap (λ (w : List ℕ). lines (ascii "extent=") run_value es ++ w) (D'.0 ∙ ap (λ (w : List ℕ). lines (ascii "record=") run_value rs ++ w) E'.0)))
          ∙ sym (spell_behind (input old new es rs ds) z),
      h,
      record {
        old_fits = A.1;
        new_fits = B.1;
        extents_fit = C'.2;
        records_fit = D'.2;
        dirty_fit = E'.2;
        extents_count = C'.1;
        records_count = D'.1;
        dirty_count = E'.1;
        extents_normalized = C.1;
        records-non_empty = D.1;
        dirty_distinct = E.1;
      },
    )

sizes_means : (l : List ℕ) (i : Input) → parse_sizes l ≡ accepted i → (z : List ℕ) × (l ≡ spell i ++ z) × (length z ≤ 1) × Valid i
unfolding parse_sizes parse_extents parse_records parse_dirty
sizes_means l i e =
    let (old, l1, a1, e1) = number_accepted (read_field (ascii "old_size=") l) _ (refused [] [] []) i refl e in
    let (new, l2, a2, e2) = number_accepted (read_field (ascii "new_size=") l1) _ (refused [] [] []) i refl e1 in
    let (es, l3, a3, e3) = section_accepted (tested normalized (section read_run (ascii "extent=") 1024 l2)) _ _ i (λ xs. refl) e2 in
    let (rs, l4, a4, e4) = section_accepted (tested non_empty (section read_run (ascii "record=") 1024 l3)) _ _ i (λ xs. refl) e3 in
    let (ds, z, a5, e5) = section_accepted (tested distinct (section read_number (ascii "dirty=") 1024 l4)) _ _ i (λ xs. refl) e4 in
    let g = end_means (input old new es rs ds) i z e5 in
    subst (λ (j : Input). (z : List ℕ) × (l ≡ spell j ++ z) × (length z ≤ 1) × Valid j) g.1
    (parts_mean old new es rs ds l l1 l2 l3 l4 z a1 a2 a3 a4 a5 g.0)

snoc_same : (a b : List ℕ) (x y : ℕ) → a ++ (x ∷ []) ≡ b ++ (y ∷ []) → a ≡ b
snoc_same a b x y e =
    let n : length b ≡ length a = omega (arith, ap length e, length-append a (x ∷ []), length-append b (y ∷ [])) in
    sym (take_at a (x ∷ []) (length a) refl) ∙ ap (take (length a)) e ∙ take_at b (y ∷ []) (length a) n

behind : (t s z : List ℕ) → t ++ ascii "\n" ≡ s ++ z → length z ≤ 1 → (t ≡ s) ⊎ (t ++ ascii "\n" ≡ s)
behind t s [] e h = inr (e ∙ append-nil s)
behind t s (x ∷ []) e h = inl (snoc_same t s 10 x e)
behind t s (x ∷ y ∷ z) e h = absurd (omega arith)

pub accepted_is_well_formed : (t : List ℕ) (i : Input) → parse t ≡ accepted i → WellFormed t i
unfolding parse from
accepted_is_well_formed t i e =
    let g = cond_accepted (leb (length t) 65536) (parse_sizes (from t 0)) (refused [] [] []) i refl e in
    let (z, s, h, v) = sizes_means (from t 0) i g.1 in
    record { valid = v; size = leb-true (length t) 65536 g.0; text = behind t (spell i) z s h }

-- ## What is well formed is accepted

first_dirty : (ds z : List ℕ) → get_or z 0 0 ≤ 10 → get_or (lines (ascii "dirty=") number_value ds ++ z) 0 0 ≤ 100
first_dirty [] z h = omega arith
first_dirty (d ∷ ds) z h = omega arith

first_record : (rs : List ZeroExtent) (ds z : List ℕ) → get_or z 0 0 ≤ 10
    → get_or (lines (ascii "record=") run_value rs ++ (lines (ascii "dirty=") number_value ds ++ z)) 0 0 ≡ 101 → ⊥
first_record [] ds z h e = omega (arith, first_dirty ds z h)
first_record (x ∷ rs) ds z h e = omega arith

end_spelled : (i : Input) (z : List ℕ) → length z ≤ 1 → parse_end i z ≡ accepted i
unfolding parse_end
end_spelled i z h = rw (le-leb (length z) 1 h)

module _ (i : Input) (z : List ℕ) (v : Valid i) (h : length z ≤ 1) (k : get_or z 0 0 ≤ 10) where
  dirty_spelled : parse_dirty i.old i.new i.extents i.records (lines (ascii "dirty=") number_value i.dirty ++ z) ≡ accepted i
  unfolding parse_dirty
  dirty_spelled =
      rw (
        section_spelled read_number (ascii "dirty=") number_value Fits (λ x r p. number_line_spelled x r p) 1024 i.dirty z v.dirty_count v.dirty_fit
            (skip_other 100 (ascii "irty=") z (omega arith)),
        v.dirty_distinct,
      ) (end_spelled i z h)

  records_spelled : parse_records i.old i.new i.extents (lines (ascii "record=") run_value i.records ++ (lines (ascii "dirty=") number_value i.dirty ++ z)) ≡ accepted i
  unfolding parse_records
  records_spelled =
      rw (
        section_spelled read_run (ascii "record=") run_value RunFits run_line_spelled 1024 i.records (lines (ascii "dirty=") number_value i.dirty ++ z) v.records_count v.records_fit
            (skip_other 114 (ascii "ecord=") _ (omega (arith, first_dirty i.dirty z k))),
        v.records-non_empty,
      ) dirty_spelled

  extents_spelled : parse_extents i.old i.new (lines (ascii "extent=") run_value i.extents
      ++ (lines (ascii "record=") run_value i.records ++ (lines (ascii "dirty=") number_value i.dirty ++ z))) ≡ accepted i
  unfolding parse_extents
  extents_spelled =
      rw (
        section_spelled read_run (ascii "extent=") run_value RunFits run_line_spelled 1024 i.extents
            (lines (ascii "record=") run_value i.records ++ (lines (ascii "dirty=") number_value i.dirty ++ z)) v.extents_count v.extents_fit
            (skip_other 101 (ascii "xtent=") _ (first_record i.records i.dirty z k)),
        v.extents_normalized,
      ) records_spelled

  sizes_spelled : parse_sizes (spell i ++ z) ≡ accepted i
  unfolding parse_sizes
  sizes_spelled = rw (spell_behind i z, field_spelled (ascii "old_size=") i.old _ v.old_fits, field_spelled (ascii "new_size=") i.new _ v.new_fits) extents_spelled

pub well_formed_is_accepted : (t : List ℕ) (i : Input) → WellFormed t i → parse t ≡ accepted i
unfolding parse from
well_formed_is_accepted t i w = rw (le-leb (length t) 65536 w.size)
    (⊎_elim
    (λ e. ap (λ (x : List ℕ). parse_sizes (x ++ ascii "\n")) e ∙ sizes_spelled i (ascii "\n") w.valid (omega arith) (omega arith))
    (λ e. ap parse_sizes (e ∙ sym (append-nil (spell i))) ∙ sizes_spelled i [] w.valid (omega arith) (omega arith))
    w.text)

-- ## Every text is the one or the other

abbrev Decided : Reading → Type 0
Decided x = (x.parsed ≡ None) ⊎ ((i : Input) × (x ≡ accepted i))

cond_decided : (b : Bool) (x y : Reading) → Decided x → Decided y → Decided (cond b x y)
cond_decided true x y p q = p
cond_decided false x y p q = q

number_decided : (g : Got ℕ) (f : ℕ → List ℕ → Reading) (y : Reading) → ((n : ℕ) (r : List ℕ) → Decided (f n r)) → Decided y → Decided (on_number g f y)
number_decided (got n r) f y p q = p n r
number_decided wrong f y p q = q

section_decided : {A : Type 0} (s : Section A) (f : List A → List ℕ → Reading) (g : List A → Reading)
    → ((xs : List A) (r : List ℕ) → Decided (f xs r)) → ((xs : List A) → Decided (g xs)) → Decided (on_section s f g)
section_decided (ended xs r) f g p q = p xs r
section_decided (broken xs) f g p q = q xs

pub malformed_or_accepted : (t : List ℕ) → ((parse t).parsed ≡ None) ⊎ ((i : Input) × (parse t ≡ accepted i))
unfolding parse parse_sizes parse_extents parse_records parse_dirty parse_end
malformed_or_accepted t = cond_decided (leb (length t) 65536) _ _
    (number_decided (read_field (ascii "old_size=") (from t 0)) _ _ (λ old l. number_decided (read_field (ascii "new_size=") l) _ _
    (λ new m. section_decided (tested normalized (section read_run (ascii "extent=") 1024 m)) _ _
    (λ es n. section_decided (tested non_empty (section read_run (ascii "record=") 1024 n)) _ _
    (λ rs o. section_decided (tested distinct (section read_number (ascii "dirty=") 1024 o)) _ _
    (λ ds r. cond_decided (leb (length r) 1) _ _ (inr (input old new es rs ds, refl)) (inl refl))
    (λ ds. inl refl))
    (λ rs. inl refl))
    (λ es. inl refl))
    (inl refl)) (inl refl))
    (inl refl)

pub malformed_is_not_well_formed : (t : List ℕ) → (parse t).parsed ≡ None → (i : Input) → WellFormed t i → ⊥
malformed_is_not_well_formed t m i w = never_accepted (parse t) i m (well_formed_is_accepted t i w)

-- a text means one thing
pub one_meaning : (t : List ℕ) (i j : Input) → WellFormed t i → WellFormed t j → i ≡ j
one_meaning t i j v w = accepted_same i j (sym (well_formed_is_accepted t i v) ∙ well_formed_is_accepted t j w)
