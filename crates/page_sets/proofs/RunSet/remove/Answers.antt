-- The runs without a page are those before its place, what is left of the run there, and those behind: over plain values, as the laws of `write` say.
use Prim.Native.Nat.{ℕ, ◌+◌, ◌*◌, ◌≤◌, ◌<◌}
use mathlib.Core.Path.{◌≡◌, sym, ap, ◌∙◌}
use mathlib.Core.Bool.{true, false, ◌&&◌}
use mathlib.Core.List.{List}
use native.Mathlib.Omega.{arith}
use lib.ListN.{length}
use Rattle.std.proofs.Common.{ltb, leb, ltb-true, ltb-false, rules, tests}
use Rattle.meta.specs.declared.ZeroExtent.{ZeroExtent}
use Rattle.meta.specs.Runs.{normalized}
use Rattle.runs.specs.Sets.{maximal, without, piece, remove}
use Rattle.runs.specs.SetLaws.{split}
use Rattle.runs.specs.Flat.{runs_in, Out, out, held, at, upto, write, place}
use Rattle.runs.specs.FlatLaws.{walk_normalized, remove_count, held_normalized, held_remove, place_le, page_at, page_none, page_before, page_behind, page_here}
use Rattle.page_sets.proofs.RunSet.remove.Goals as goal
use Rattle.page_sets.proofs.RunSet.remove.Goals.{After-cut-self}

-- page p, whose place among the n runs in front of w is i
module _ (w : List ℕ) (n i p : ℕ) (e : i ≡ place p (upto w 0 n)) where
  -- what stands there is one of the runs
  is-run : (i ≡ n → ⊥) → i < n
  is-run k = omega (arith, k, place_le w n p)

  module _ (h : n * 2 + 1 < length w) (f : normalized (runs_in n w) ≡ true) (o : Out) where
    removed : write w i (remove p (upto w i n)) ≡ o → o ≡ held w (maximal (without p (runs_in n w)))
    removed t = sym t ∙ sym (page_at w n i p e) ∙ held_remove w n h f p

    cut_out : (x : ZeroExtent) → i < n → x ≡ at w i → x.start ≤ p → p < x.end → o ≡ write w i (piece x.start p (piece (p + 1) x.end (upto w (i + 1) n))) → o ≡ held w (maximal (without p (runs_in n w)))
    cut_out x k q a b t = removed (ap (write w i) (page_here w i n p x k q a b) ∙ sym t)

-- the run x, which stands there, does not have the page
absent : (w : List ℕ) (n i p : ℕ) (x : ZeroExtent) → i < n → x ≡ at w i → normalized (upto w 0 n) ≡ true → i ≡ place p (upto w 0 n)
    → (leb x.start p && ltb p x.end) ≡ false → write w i (remove p (upto w i n)) ≡ out w n
absent w n i p x k e f q t = split (ltb p x.end)
    (λ u. page_before w i n p x k e (search (rules, tests)) (ltb-true _ _ u))
    (λ u. page_behind w i n p x k e f q (ltb-false _ _ u))

pub returns-then-i-self-clause-runs : goal.returns-then-i-self-clause-runs
returns-then-i-self-clause-runs c =
    let s = c.args.self.now in
    let i = c.find-i in
    let p = c.args.page in
    removed s.work.now s.count i.result p i.ensures c.requires s.tidy.1 _ (page_none s.work.now i.result s.count p c.if-i-self.true)

pub get-x-requires : goal.get-x-requires
get-x-requires c =
    let s = c.args.self.now in
    is-run s.work.now s.count c.find-i.result c.args.page c.find-i.ensures c.if-i-self.false

pub returns-then-not-contains-clause-runs : goal.returns-then-not-contains-clause-runs
returns-then-not-contains-clause-runs c =
    let i = c.find-i in
    let p = c.args.page in
    let s = c.args.self.now in
    let w = s.work.now in
    let x = c.get-x in
    let k = is-run w s.count i.result p i.ensures c.if-i-self.false in
    let f = walk_normalized w s.count c.requires s.tidy.1 in
    removed w s.count i.result p i.ensures c.requires s.tidy.1 _ (absent w s.count i.result p x.result k x.ensures f i.ensures (sym c.contains.ensures ∙ c.if-not-contains.true))

pub cut-self-requires : goal.cut-self-requires
cut-self-requires c =
    let i = c.find-i in
    let s = c.args.self.now in
    (is-run s.work.now s.count i.result c.args.page i.ensures c.if-i-self.false, c.requires, search (rules, tests), search (rules, tests))

without_page : (c : After-cut-self) → out c.cut-self.new.work c.cut-self.result ≡ held c.args.self.now.work.now (maximal (without c.args.page (runs_in c.args.self.now.count c.args.self.now.work.now)))
without_page c =
    let i = c.find-i in
    let s = c.args.self.now in
    let x = c.get-x in
    cut_out s.work.now s.count i.result c.args.page i.ensures c.requires s.tidy.1 _ x.result (is-run s.work.now s.count i.result c.args.page i.ensures c.if-i-self.false) x.ensures (search (rules, tests)) (search (rules, tests)) c.cut-self.ensures

pub returns-clause-runs : goal.returns-clause-runs
returns-clause-runs c = without_page (goal.at.returns-clause-runs c).After-cut-self

pub invariant_of-self : goal.invariant_of-self
invariant_of-self c =
    let s = c.args.self.now in
    let d = c.cut-self in
    let e = without_page (goal.at.invariant_of-self c).After-cut-self in
    record { tidy = (omega (arith, c.requires, d.auto.work, remove_count s.work.now d.new.work s.count d.result (omega (arith, c.requires)) s.tidy.1 c.args.page e), held_normalized s.work.now d.new.work d.result (without c.args.page (runs_in s.count s.work.now)) e) }
