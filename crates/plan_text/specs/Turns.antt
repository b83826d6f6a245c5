-- The turns of the loops that read lines: the meaning of what is left, from the buffer as it is now, stays the meaning at the start.
use Rattle.std.specs.Prelude.{◌≡◌, List, [], length, set}
use Rattle.std.proofs.Common.{sym, add-one, arith}
use Prim.Native.Nat.{ℕ, zero, suc, ◌+◌, ◌-◌, ◌*◌}
use Rattle.std.proofs.lemmas.List.Edits.{sets}
use Rattle.meta.specs.declared.ZeroExtent.{ZeroExtent}
use Rattle.meta.specs.Runs.{run, numbers_of}
use Rattle.decimal.specs.Text.{Got, got, wrong, skip}
use Rattle.plan_text.specs.Parse.{Section, ended, broken, more, section}
use Rattle.plan_line.specs.Readers.{read_number, read_run}
use Rattle.plan_text.specs.Laws.{section_none}
use Rattle.plan_text.specs.Fill.{filled, torn, fill_runs, fill_pages}

-- ## A line more

runs_more : (x : ZeroExtent) (s : Section ZeroExtent) (n : ℕ) (out : List ℕ)
    → fill_runs (n + 1) s (set (set out (n * 2) x.start) (n * 2 + 1) x.end) ≡ fill_runs n (more x s) out
runs_more x (ended xs r) n out =
    let a : n + 1 + length xs ≡ n + suc (length xs) = omega arith in
    let b : (n + 1) * 2 ≡ suc (suc (n * 2)) = omega arith in
    let c : n * 2 + 1 ≡ suc (n * 2) = omega arith in
    λ i. filled (a i) r (sets (set (set out (n * 2) x.start) (c i) x.end) (b i) (numbers_of xs))
runs_more x (broken xs) n out =
    let b : (n + 1) * 2 ≡ suc (suc (n * 2)) = omega arith in
    let c : n * 2 + 1 ≡ suc (n * 2) = omega arith in
    λ i. torn (sets (set (set out (n * 2) x.start) (c i) x.end) (b i) (numbers_of xs))

pages_more : (x : ℕ) (s : Section ℕ) (n : ℕ) (out : List ℕ) → fill_pages (n + 1) s (set out n x) ≡ fill_pages n (more x s) out
pages_more x (ended xs r) n out =
    let a : n + 1 + length xs ≡ n + suc (length xs) = omega arith in
    λ i. filled (a i) r (sets (set out n x) (add-one n i) xs)
pages_more x (broken xs) n out = λ i. torn (sets (set out n x) (add-one n i) xs)

-- ## A section, line by line

module _ {A : Type 0} (value : List ℕ → Got A) (key l : List ℕ) where
  pub section_full : (k : ℕ) (m : List ℕ) (u : Unit {0}) → k ≡ 0 → skip key l ≡ got u m → section value key k l ≡ broken []
  unfolding section
  section_full k m u z e = rw (z, e)

  pub section_bad : (k : ℕ) (m : List ℕ) (u : Unit {0}) → skip key l ≡ got u m → value m ≡ wrong → section value key k l ≡ broken []
  unfolding section
  section_bad zero m u e f = rw e
  section_bad (suc k) m u e f = rw (e, f)

  pub section_more : (k j : ℕ) (m : List ℕ) (u : Unit {0}) (x : A) (r : List ℕ) → k ≡ suc j → skip key l ≡ got u m → value m ≡ got x r
      → section value key k l ≡ more x (section value key j r)
  unfolding section
  section_more k j m u x r z e f = rw (z, e, f)

module _ (key l out : List ℕ) (n k : ℕ) where
  pub runs_end : skip key l ≡ wrong → filled n l out ≡ fill_runs n (section read_run key k l) out
  runs_end e = let z : n + 0 ≡ n = omega arith in rw (section_none read_run key k l e) (λ i. filled (sym z i) l out)

  pub pages_end : skip key l ≡ wrong → filled n l out ≡ fill_pages n (section read_number key k l) out
  pages_end e = let z : n + 0 ≡ n = omega arith in rw (section_none read_number key k l e) (λ i. filled (sym z i) l out)

  module _ (m : List ℕ) (u : Unit {0}) (e : skip key l ≡ got u m) where
    pub runs_full : k ≡ 0 → torn out ≡ fill_runs n (section read_run key k l) out
    runs_full z = rw (section_full read_run key l k m u z e)

    pub pages_full : k ≡ 0 → torn out ≡ fill_pages n (section read_number key k l) out
    pages_full z = rw (section_full read_number key l k m u z e)

    pub runs_bad : read_run m ≡ wrong → torn out ≡ fill_runs n (section read_run key k l) out
    runs_bad f = rw (section_bad read_run key l k m u e f)

    pub pages_bad : read_number m ≡ wrong → torn out ≡ fill_pages n (section read_number key k l) out
    pages_bad f = rw (section_bad read_number key l k m u e f)

    pub runs_go : (j a b : ℕ) (r : List ℕ) → k ≡ suc j → read_run m ≡ got (run a b) r
        → fill_runs (n + 1) (section read_run key j r) (set (set out (n * 2) a) (n * 2 + 1) b) ≡ fill_runs n (section read_run key k l) out
    runs_go j a b r z f = rw (section_more read_run key l k j m u (run a b) r z e f) (runs_more (run a b) (section read_run key j r) n out)

    pub pages_go : (j a : ℕ) (r : List ℕ) → k ≡ suc j → read_number m ≡ got a r
        → fill_pages (n + 1) (section read_number key j r) (set out n a) ≡ fill_pages n (section read_number key k l) out
    pages_go j a r z f = rw (section_more read_number key l k j m u a r z e f) (pages_more a (section read_number key j r) n out)

module _ (key l out : List ℕ) (k : ℕ) where
  pub runs_start : fill_runs 0 (section read_run key (k - 0) l) out ≡ fill_runs 0 (section read_run key k l) out
  runs_start = let z : k - 0 ≡ k = omega arith in rw z

  pub pages_start : fill_pages 0 (section read_number key (k - 0) l) out ≡ fill_pages 0 (section read_number key k l) out
  pages_start = let z : k - 0 ≡ k = omega arith in rw z
