use Rattle.std.proofs.Common.{ℕ, ◌+◌, ◌<◌, ◌≡◌, ◌∙◌, ◌∷◌, List, sym}
use Rattle.meta.specs.declared.ZeroExtent.{ZeroExtent}
use Rattle.runs.specs.Flat.{Out, upto, put, write}
use Rattle.runs.specs.FlatLaws.{put_step}
use Rattle.page_sets.proofs.replace.Goals as goal

-- the run x at place i of the list w, where those from j on are not taken up
module _ (w : List ℕ) (i j n : ℕ) (x : ZeroExtent) (o : Out) where
  some-met : (w' : List ℕ) → i < j → w' ≡ put w i x → o ≡ write w' (i + 1) (upto w' j n) → o ≡ write w i (x ∷ upto w j n)
  some-met w' k q t = t ∙ rw q (sym (put_step w i j n x k))

pub returns-then-i-next : goal.returns-then-i-next
returns-then-i-next c =
    let a = c.args in
    some-met a.work.now a.i a.next a.count a.x _ _ c.if-i-next.true c.write.ensures c.close.ensures
