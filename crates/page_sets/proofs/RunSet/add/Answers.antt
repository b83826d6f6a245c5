-- The runs with x added are those before its place, the run that it makes with those it meets, and those behind: over plain values, as the laws of `write` say.
use Rattle.std.proofs.Common.{ℕ, ◌+◌, ◌*◌, ◌≤◌, ◌<◌, ◌≡◌, ◌∙◌, ◌∷◌, List, true, sym, ap, length, arith, leb-true, leb-false}
use Rattle.meta.specs.declared.ZeroExtent.{ZeroExtent}
use Rattle.meta.specs.Runs.{normalized}
use Rattle.runs.specs.Sets.{merge, maximal}
use Rattle.runs.specs.Members.{add_none, add_some}
use Rattle.runs.specs.Flat.{runs_in, Out, out, held, put, upto, write, place}
use Rattle.runs.specs.FlatLaws.{held_add, place_le, find_at, write_same, put_step, open_last, meet_last, add_count, held_normalized}
use Rattle.page_sets.proofs.RunSet.add.Goals as goal
use Rattle.page_sets.proofs.RunSet.add.Goals.{After-write, After-write-then-met-i, After-replace-self}

-- the run r added to the n runs in front of w
module _ (w : List ℕ) (n : ℕ) (h : n * 2 + 1 < length w) (f : normalized (runs_in n w) ≡ true) (r : ZeroExtent) where
  nothing-added : r.end ≤ r.start → out w n ≡ held w (maximal (r ∷ runs_in n w))
  nothing-added k = sym (write_same w 0 n (omega arith)) ∙ ap (write w 0) (sym (add_none r (upto w 0 n) k)) ∙ held_add w n h f r

  -- r goes to place i, and makes the run x with those before j
  run-added : (i j : ℕ) (x : ZeroExtent) (o : Out) → r.start < r.end → i ≡ place r.start (upto w 0 n) → merge r (upto w i n) ≡ x ∷ upto w j n
      → o ≡ write w i (x ∷ upto w j n) → o ≡ held w (maximal (r ∷ runs_in n w))
  run-added i j x o g e m t = t ∙ ap (write w i) (sym m) ∙ sym (find_at w n i r e) ∙ ap (write w 0) (sym (add_some r (upto w 0 n) g)) ∙ held_add w n h f r

  -- r goes behind all others
  run-behind : (i : ℕ) (o : Out) → r.start < r.end → i ≡ place r.start (upto w 0 n) → i ≡ n → o ≡ out (put w i r) (n + 1) → o ≡ held w (maximal (r ∷ runs_in n w))
  run-behind i o g e k q =
      let c : n + 1 ≡ i + 1 = omega (arith, k) in
      run-added i i r o g e (meet_last w i n r (omega (arith, k))) (q ∙ ap (out (put w i r)) c ∙ sym (open_last w i n r (omega (arith, k))))

  -- r goes in the place of one run
  run-in-place : (i j : ℕ) (x : ZeroExtent) (o : Out) → r.start < r.end → i ≡ place r.start (upto w 0 n) → j ≤ n → j ≡ i + 1 → merge r (upto w i n) ≡ x ∷ upto w j n
      → o ≡ out (put w i x) n → o ≡ held w (maximal (r ∷ runs_in n w))
  run-in-place i j x o g e k c m q =
      run-added i j x o g e m (q ∙ sym (write_same (put w i x) j n k) ∙ ap (λ (a : ℕ). write (put w i x) a (upto (put w i x) j n)) c ∙ sym (put_step w i j n x (omega (arith, c))))

pub returns-then-is_empty-clause-runs : goal.returns-then-is_empty-clause-runs
returns-then-is_empty-clause-runs c =
    let s = c.args.self.now in
    nothing-added s.work.now s.count c.requires s.tidy.1 c.args.x (leb-true _ _ (sym c.is_empty.ensures ∙ c.if-is_empty.true))

pub meet-met-requires : goal.meet-met-requires
meet-met-requires c =
    let s = c.args.self.now in
    rw c.find-i.ensures (place_le s.work.now s.count c.args.x.start)

added : (c : After-replace-self) → c.args.x.start < c.args.x.end → out c.replace-self.new.work c.replace-self.result ≡ held c.args.self.now.work.now (maximal (c.args.x ∷ runs_in c.args.self.now.count c.args.self.now.work.now))
added c some =
    let s = c.args.self.now in
    let m = c.meet-met in
    run-added s.work.now s.count c.requires s.tidy.1 c.args.x c.find-i.result m.result.next m.result.run _ some c.find-i.ensures m.ensures.2 c.replace-self.ensures

pub returns-clause-runs : goal.returns-clause-runs
returns-clause-runs c = added (goal.at.returns-clause-runs c).After-replace-self (leb-false _ _ (sym c.is_empty.ensures ∙ c.if-is_empty.false))

-- a list with the runs of a set and one more is that of a set
module _ (w w' : List ℕ) (n m : ℕ) (h : n * 2 + 1 < length w) (f : normalized (runs_in n w) ≡ true) (r : ZeroExtent) (l : length w' ≡ length w) where
  tidy-after : out w' m ≡ held w (maximal (r ∷ runs_in n w)) → (m * 2 ≤ length w') × (normalized (runs_in m w') ≡ true)
  tidy-after e = (omega (arith, h, l, add_count w w' n m (omega (arith, h)) f r e), held_normalized w w' m (r ∷ runs_in n w) e)

behind : (c : After-write) → c.args.x.start < c.args.x.end → out c.write.new.work (c.args.self.now.count + 1) ≡ held c.args.self.now.work.now (maximal (c.args.x ∷ runs_in c.args.self.now.count c.args.self.now.work.now))
behind c some =
    let s = c.args.self.now in
    run-behind s.work.now s.count c.requires s.tidy.1 c.args.x c.find-i.result _ some c.find-i.ensures c.if-i-self.true (ap (λ (v : List ℕ). out v (s.count + 1)) c.write.ensures)

pub invariant_of-self : goal.invariant_of-self
invariant_of-self c =
    let s = c.args.self.now in
    record { tidy = tidy-after s.work.now c.write.new.work s.count _ c.requires s.tidy.1 c.args.x c.write.auto.work (behind (goal.at.invariant_of-self c).After-write (leb-false _ _ (sym c.is_empty.ensures ∙ c.if-is_empty.false))) }

pub returns-then-i-self-clause-runs : goal.returns-then-i-self-clause-runs
returns-then-i-self-clause-runs c = behind (goal.at.returns-then-i-self-clause-runs c).After-write (leb-false _ _ (sym c.is_empty.ensures ∙ c.if-is_empty.false))

in-place : (c : After-write-then-met-i) → c.args.x.start < c.args.x.end → out c.write-then-met-i.new.work c.args.self.now.count ≡ held c.args.self.now.work.now (maximal (c.args.x ∷ runs_in c.args.self.now.count c.args.self.now.work.now))
in-place c some =
    let s = c.args.self.now in
    let m = c.meet-met in
    run-in-place s.work.now s.count c.requires s.tidy.1 c.args.x c.find-i.result m.result.next m.result.run _ some c.find-i.ensures m.ensures.1 c.if-met-i.true m.ensures.2 (ap (λ (v : List ℕ). out v s.count) c.write-then-met-i.ensures)

pub invariant_of-self-then-met-i : goal.invariant_of-self-then-met-i
invariant_of-self-then-met-i c =
    let s = c.args.self.now in
    record { tidy = tidy-after s.work.now c.write-then-met-i.new.work s.count _ c.requires s.tidy.1 c.args.x c.write-then-met-i.auto.work (in-place (goal.at.invariant_of-self-then-met-i c).After-write-then-met-i (leb-false _ _ (sym c.is_empty.ensures ∙ c.if-is_empty.false))) }

pub returns-then-met-i-clause-runs : goal.returns-then-met-i-clause-runs
returns-then-met-i-clause-runs c = in-place (goal.at.returns-then-met-i-clause-runs c).After-write-then-met-i (leb-false _ _ (sym c.is_empty.ensures ∙ c.if-is_empty.false))

pub invariant_of-self-2 : goal.invariant_of-self-2
invariant_of-self-2 c =
    let s = c.args.self.now in
    let d = c.replace-self in
    record { tidy = tidy-after s.work.now d.new.work s.count d.result c.requires s.tidy.1 c.args.x d.auto.work (added (goal.at.invariant_of-self-2 c).After-replace-self (leb-false _ _ (sym c.is_empty.ensures ∙ c.if-is_empty.false))) }
