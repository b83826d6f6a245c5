-- The parser's returns: what each part answered, put together, is what the definition says of the whole text.
use Rattle.std.specs.Prelude.{◌≡◌, refl, None, List, [], ◌∷◌, ◌++◌, ℕ, ◌/◌, ◌≤◌, ◌<◌, length}
use Rattle.std.proofs.Common.{ap, ◌∙◌, arith, length-append, length-drop, le-leb}
use Rattle.std.proofs.lemmas.Bool.{lt-leb}
use Rattle.meta.specs.declared.ZeroExtent.{ZeroExtent}
use Rattle.meta.specs.Runs.{numbers_of, normalized}
use Rattle.decimal.specs.Text.{got, wrong, from}
use Rattle.plan_text.specs.Grammar.{Input}
use Rattle.plan_line.specs.Values.{ascii, non_empty, distinct}
use Rattle.plan_text.specs.Parse.{Section, parsed_as, ended, broken, section, tested, refused, accepted, parse_end, parse_dirty, parse_records, parse_extents, parse_sizes, parse}
use Rattle.plan_line.specs.Readers.{read_number, read_run, read_field}
use Rattle.plan_text.specs.Fill.{filled, torn, fill_runs, fill_pages, outcome, filled_by}
use Rattle.plan_text.specs.Entries.{fill}
use Rattle.plan_text.specs.Tested.{runs, pages, ended_means, broken_means}

abbrev pub extents_in : List ℕ → Section ZeroExtent
extents_in l = tested normalized (section read_run (ascii "extent=") 1024 l)

abbrev pub records_in : List ℕ → Section ZeroExtent
records_in l = tested non_empty (section read_run (ascii "record=") 1024 l)

abbrev pub dirty_in : List ℕ → Section ℕ
dirty_in l = tested distinct (section read_number (ascii "dirty=") 1024 l)

module _ (old new : ℕ) where
  extents_go : (l : List ℕ) (es : List ZeroExtent) (m : List ℕ) → extents_in l ≡ ended es m → parse_extents old new l ≡ parse_records old new es m
  unfolding parse_extents
  extents_go l es m e = rw e

  extents_stop : (l : List ℕ) (es : List ZeroExtent) → extents_in l ≡ broken es → parse_extents old new l ≡ refused es [] []
  unfolding parse_extents
  extents_stop l es e = rw e

  module _ (es : List ZeroExtent) where
    records_go : (l : List ℕ) (rs : List ZeroExtent) (m : List ℕ) → records_in l ≡ ended rs m → parse_records old new es l ≡ parse_dirty old new es rs m
    unfolding parse_records
    records_go l rs m e = rw e

    records_stop : (l : List ℕ) (rs : List ZeroExtent) → records_in l ≡ broken rs → parse_records old new es l ≡ refused es rs []
    unfolding parse_records
    records_stop l rs e = rw e

    module _ (rs : List ZeroExtent) where
      dirty_go : (l ds m : List ℕ) → dirty_in l ≡ ended ds m → parse_dirty old new es rs l ≡ parse_end (record { old = old; new = new; extents = es; records = rs; dirty = ds }) m
      unfolding parse_dirty
      dirty_go l ds m e = rw e

      dirty_stop : (l ds : List ℕ) → dirty_in l ≡ broken ds → parse_dirty old new es rs l ≡ refused es rs ds
      unfolding parse_dirty
      dirty_stop l ds e = rw e

end_done : (i : Input) (z : List ℕ) → length z ≤ 1 → parse_end i z ≡ accepted i
unfolding parse_end
end_done i z h = rw (le-leb (length z) 1 h)

end_left : (i : Input) (z : List ℕ) → 1 < length z → parse_end i z ≡ refused i.extents i.records i.dirty
unfolding parse_end
end_left i z h = rw (lt-leb (length z) 1 h)

-- nothing but the line feed behind the end is left, or more
pub left_none : (t : List ℕ) (at : ℕ) → length t ≤ at → length (from t at) ≤ 1
unfolding from
left_none t at h = omega (arith, length-drop at (t ++ (10 ∷ [])), length-append t (10 ∷ []))

pub left_some : (t : List ℕ) (at : ℕ) → at < length t → 1 < length (from t at)
unfolding from
left_some t at h = omega (arith, length-drop at (t ++ (10 ∷ [])), length-append t (10 ∷ []))

-- ## The lists

module _ (old new : ℕ) (l a b c a' : List ℕ) where
  pub extents_broken : torn a' ≡ fill_runs 0 (extents_in l) a → outcome None a' b c ≡ filled_by (parse_extents old new l) a b c
  unfolding filled_by
  extents_broken e =
      let (es, s, x) = broken_means runs a a' (extents_in l) e in
      rw (extents_stop old new l es s) (λ i. outcome None (x i) b c)

  module _ (n : ℕ) (m b' : List ℕ) (e : filled n m a' ≡ fill_runs 0 (extents_in l) a) where
    pub records_broken : torn b' ≡ fill_runs 0 (records_in m) b → outcome None a' b' c ≡ filled_by (parse_extents old new l) a b c
    unfolding filled_by
    records_broken f =
        let (es, s, p, x) = ended_means runs a n m a' (extents_in l) e in
        let (rs, t, y) = broken_means runs b b' (records_in m) f in
        rw (extents_go old new l es m s, records_stop old new es m rs t) (λ i. outcome None (x i) (y i) c)

    module _ (k : ℕ) (o c' : List ℕ) (f : filled k o b' ≡ fill_runs 0 (records_in m) b) where
      pub dirty_broken : torn c' ≡ fill_pages 0 (dirty_in o) c → outcome None a' b' c' ≡ filled_by (parse_extents old new l) a b c
      unfolding filled_by
      dirty_broken g =
          let (es, s, p, x) = ended_means runs a n m a' (extents_in l) e in
          let (rs, t, q, y) = ended_means runs b k o b' (records_in m) f in
          let (ds, u, z) = broken_means pages c c' (dirty_in o) g in
          rw (extents_go old new l es m s, records_go old new es m rs o t, dirty_stop old new es rs o ds u) (λ i. outcome None (x i) (y i) (z i))

      module _ (j : ℕ) (w : List ℕ) (g : filled j w c' ≡ fill_pages 0 (dirty_in o) c) where
        pub text_left : 1 < length w → outcome None a' b' c' ≡ filled_by (parse_extents old new l) a b c
        unfolding filled_by
        text_left h =
            let (es, s, p, x) = ended_means runs a n m a' (extents_in l) e in
            let (rs, t, q, y) = ended_means runs b k o b' (records_in m) f in
            let (ds, u, v, z) = ended_means pages c j w c' (dirty_in o) g in
            rw (extents_go old new l es m s, records_go old new es m rs o t, dirty_go old new es rs o ds w u, end_left _ w h) (λ i. outcome None (x i) (y i) (z i))

        pub all_read : length w ≤ 1 → outcome (parsed_as old new n k j) a' b' c' ≡ filled_by (parse_extents old new l) a b c
        unfolding filled_by accepted
        all_read h =
            let (es, s, p, x) = ended_means runs a n m a' (extents_in l) e in
            let (rs, t, q, y) = ended_means runs b k o b' (records_in m) f in
            let (ds, u, v, z) = ended_means pages c j w c' (dirty_in o) g in
            rw (extents_go old new l es m s, records_go old new es m rs o t, dirty_go old new es rs o ds w u, end_done _ w h)
            (λ i. outcome (parsed_as old new (p i) (q i) (v i)) (x i) (y i) (z i))

-- ## The sizes before them

module _ (t a b c : List ℕ) where
  pub text_long : 65536 < length t → outcome None a b c ≡ filled_by (parse t) a b c
  unfolding parse filled_by
  text_long h = rw (lt-leb (length t) 65536 h)

  module _ (h : length t ≤ 65536) where
    pub no_old : read_field (ascii "old_size=") (from t 0) ≡ wrong → outcome None a b c ≡ filled_by (parse t) a b c
    unfolding parse parse_sizes filled_by
    no_old e = rw (le-leb (length t) 65536 h, e)

    module _ (old : ℕ) (m : List ℕ) (e : read_field (ascii "old_size=") (from t 0) ≡ got old m) where
      pub no_new : read_field (ascii "new_size=") m ≡ wrong → outcome None a b c ≡ filled_by (parse t) a b c
      unfolding parse parse_sizes filled_by
      no_new f = rw (le-leb (length t) 65536 h, e, f)

      pub sizes_read : (new : ℕ) (r : List ℕ) → read_field (ascii "new_size=") m ≡ got new r → filled_by (parse_extents old new r) a b c ≡ filled_by (parse t) a b c
      unfolding parse parse_sizes
      sizes_read new r f = rw (le-leb (length t) 65536 h, e, f)

-- a buffer of 2,048 numbers is for 1,024 runs
pub extents_limit : (l a : List ℕ) → length a ≡ 2048 → fill_runs 0 (tested normalized (section read_run (ascii "extent=") (length a / 2) l)) a ≡ fill_runs 0 (extents_in l) a
extents_limit l a h = ap (λ (k : ℕ). fill_runs 0 (tested normalized (section read_run (ascii "extent=") (k / 2) l)) a) h

pub records_limit : (l a : List ℕ) → length a ≡ 2048 → fill_runs 0 (tested non_empty (section read_run (ascii "record=") (length a / 2) l)) a ≡ fill_runs 0 (records_in l) a
records_limit l a h = ap (λ (k : ℕ). fill_runs 0 (tested non_empty (section read_run (ascii "record=") (k / 2) l)) a) h

pub dirty_limit : (l a : List ℕ) → length a ≡ 1024 → fill_pages 0 (tested distinct (section read_number (ascii "dirty=") (length a) l)) a ≡ fill_pages 0 (dirty_in l) a
dirty_limit l a h = ap (λ (k : ℕ). fill_pages 0 (tested distinct (section read_number (ascii "dirty=") k l)) a) h

-- the same, as the lines of any kind are read
runs_filled : (s : Section ZeroExtent) (out : List ℕ) → fill 2 numbers_of 0 s out ≡ fill_runs 0 s out
runs_filled (ended xs r) out = refl
runs_filled (broken xs) out = refl

pages_filled : (s : Section ℕ) (out : List ℕ) → fill 1 (λ (xs : List ℕ). xs) 0 s out ≡ fill_pages 0 s out
pages_filled (ended xs r) out = refl
pages_filled (broken xs) out = refl

module _ (l a : List ℕ) where
  pub extents_read : length a ≡ 2048 → fill 2 numbers_of 0 (tested normalized (section read_run (ascii "extent=") (length a / 2) l)) a ≡ fill_runs 0 (extents_in l) a
  extents_read h = runs_filled _ a ∙ extents_limit l a h

  pub records_read : length a ≡ 2048 → fill 2 numbers_of 0 (tested non_empty (section read_run (ascii "record=") (length a / 2) l)) a ≡ fill_runs 0 (records_in l) a
  records_read h = runs_filled _ a ∙ records_limit l a h

  pub dirty_read : length a ≡ 1024 → fill 1 (λ (xs : List ℕ). xs) 0 (tested distinct (section read_number (ascii "dirty=") (length a / 1) l)) a ≡ fill_pages 0 (dirty_in l) a
  dirty_read h = let z : length a / 1 ≡ length a = omega arith in rw z (pages_filled _ a ∙ dirty_limit l a h)
