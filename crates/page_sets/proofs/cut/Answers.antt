-- What is left of a run without a page is two pieces, one of them, or none. Each is stored as the laws of `write` say, over plain values: a fact of the code is handed over by its path.
use Prim.Native.Nat.{ℕ, ◌+◌, ◌≤◌, ◌<◌}
use mathlib.Core.Path.{◌≡◌, sym, ◌∙◌}
use mathlib.Core.List.{List, ◌∷◌}
use native.Mathlib.Omega.{arith}
use borrow.Author.Tests.{leb-true, leb-false}
use Rattle.meta.specs.Runs.{run}
use Rattle.runs.specs.Sets.{piece}
use Rattle.runs.specs.Members.{piece_none, piece_some}
use Rattle.runs.specs.Flat.{Out, out, put, upto, write}
use Rattle.runs.specs.FlatLaws.{write_same, write_cons, put_step, upto_put}
use Rattle.page_sets.proofs.cut.Goals as goal

-- the run s .. e at place i without page p, where w' is the list after a piece was stored there
module _ (w : List ℕ) (i n s p e : ℕ) where
  one-stored : (w' : List ℕ) (a b : ℕ) → i < n → w' ≡ put w i (run a b) → out w' n ≡ write w i (run a b ∷ upto w (i + 1) n)
  one-stored w' a b h q = rw q (sym (put_step w i (i + 1) n (run a b) (omega arith) ∙ write_same (put w i (run a b)) (i + 1) n (omega arith)))

  both_left : (w' : List ℕ) (o : Out) → s < p → p + 1 < e → w' ≡ put w i (run s p) → o ≡ write w' (i + 1) (run (p + 1) e ∷ upto w' (i + 1) n)
      → o ≡ write w i (piece s p (piece (p + 1) e (upto w (i + 1) n)))
  both_left w' o h k q t =
      let u = upto w (i + 1) n in
      t ∙ rw (q, upto_put w i (run s p) (i + 1) n (omega arith), piece_some s p (piece (p + 1) e u) h, piece_some (p + 1) e u k, write_cons w i (run s p) (run (p + 1) e ∷ u))

  first-left : (w' : List ℕ) → i < n → s < p → e ≤ p + 1 → w' ≡ put w i (run s p) → out w' n ≡ write w i (piece s p (piece (p + 1) e (upto w (i + 1) n)))
  first-left w' g h k q =
      let u = upto w (i + 1) n in
      rw (piece_some s p (piece (p + 1) e u) h, piece_none (p + 1) e u k) (one-stored w' s p g q)

  second-left : (w' : List ℕ) → i < n → p ≤ s → p + 1 < e → w' ≡ put w i (run (p + 1) e) → out w' n ≡ write w i (piece s p (piece (p + 1) e (upto w (i + 1) n)))
  second-left w' g h k q =
      let u = upto w (i + 1) n in
      rw (piece_none s p (piece (p + 1) e u) h, piece_some (p + 1) e u k) (one-stored w' (p + 1) e g q)

  none_left : (o : Out) → p ≤ s → e ≤ p + 1 → o ≡ write w i (upto w (i + 1) n) → o ≡ write w i (piece s p (piece (p + 1) e (upto w (i + 1) n)))
  none_left o h k t = let u = upto w (i + 1) n in rw (piece_none s p (piece (p + 1) e u) h, piece_none (p + 1) e u k) t

pub returns-then-not-is_empty-2 : goal.returns-then-not-is_empty-2
returns-then-not-is_empty-2 c =
    let a = c.args in
    let l : a.x.start < a.page = leb-false _ _ (sym c.is_empty.ensures ∙ c.if-not-is_empty.true) in
    let r : a.page + 1 < a.x.end = leb-false _ _ (sym c.is_empty-then-not-is_empty.ensures ∙ c.if-not-is_empty-2.true) in
    both_left a.work.now a.i a.count a.x.start a.page a.x.end _ _ l r c.write.ensures c.«open».ensures

pub returns-then-not-is_empty : goal.returns-then-not-is_empty
returns-then-not-is_empty c =
    let a = c.args in
    let l : a.x.start < a.page = leb-false _ _ (sym c.is_empty.ensures ∙ c.if-not-is_empty.true) in
    let r : a.x.end ≤ a.page + 1 = leb-true _ _ (sym c.is_empty-then-not-is_empty.ensures ∙ c.if-not-is_empty-2.false) in
    first-left a.work.now a.i a.count a.x.start a.page a.x.end _ c.requires.0 l r c.write.ensures

pub returns-then-not-is_empty-3 : goal.returns-then-not-is_empty-3
returns-then-not-is_empty-3 c =
    let a = c.args in
    let l : a.page ≤ a.x.start = leb-true _ _ (sym c.is_empty.ensures ∙ c.if-not-is_empty.false) in
    let r : a.page + 1 < a.x.end = leb-false _ _ (sym c.is_empty-2.ensures ∙ c.if-not-is_empty-3.true) in
    second-left a.work.now a.i a.count a.x.start a.page a.x.end _ c.requires.0 l r c.write-then-not-is_empty-3.ensures

pub returns : goal.returns
returns c =
    let a = c.args in
    let l : a.page ≤ a.x.start = leb-true _ _ (sym c.is_empty.ensures ∙ c.if-not-is_empty.false) in
    let r : a.x.end ≤ a.page + 1 = leb-true _ _ (sym c.is_empty-2.ensures ∙ c.if-not-is_empty-3.false) in
    none_left a.work.now a.i a.count a.x.start a.page a.x.end _ l r c.close.ensures
