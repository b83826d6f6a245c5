-- `imports::place_chunk` meets its contract.
use Rattle.std.specs.Prelude.{◌≡◌, ℕ, ◌+◌, Bool, true, false, List, length, Result, Ok, Err}
use Rattle.std.proofs.Common.{refl, sym, ap, ◌∙◌, arith}
use Rattle.std.proofs.Math.Bool.{cond}
use Rattle.std.proofs.lemmas.Result.{err_from_is_err_and}
use Rattle.config.specs.declared.refusal.Refusal.{Refusal}
use Rattle.config.specs.declared.StablePages.{StablePages}
use Rattle.memory.specs.Bytes.{overwrite}
use Rattle.memory.specs.Growth.{Growth, outcome, stable, grow_to, grow_none}
use Rattle.config.specs.Pages.{count_le}
use Rattle.store.specs.Store.{onward}
use Rattle.store.specs.Answers.{Done, done}
use Rattle.transfer.specs.Steps.{step, step_out, chunk_reach, chunk_to}
use Rattle.transfer.specs.RefreshLaws.{chunk_refused, chunk_grown}
use Rattle.transfer.specs.StoreCases.{stored_as}
use Rattle.imports.proofs.place_chunk.Goals as goal
use Rattle.imports.proofs.place_chunk.Goals.{After-is_empty, After-restore, then-not-is_empty+in_ok-s, else-not-is_empty}

-- the end in memory that the chunk needs, if it is empty or not
needs : (c : After-is_empty) (t : Bool) → c.is_empty.result ≡ t
    → let a = c.args in let base : ℕ = a.s.now.block.import_base_offset in let end : ℕ = a.offset + length a.bytes.now in
    cond t 0 (base + end) ≡ chunk_reach base end (length a.bytes.now)
needs c t h =
    let a = c.args in
    ap (λ (x : Bool). cond x 0 (a.s.now.block.import_base_offset + (a.offset + length a.bytes.now))) (sym h ∙ c.is_empty.ensures)

pub returns-in_err-s : goal.returns-in_err-s
returns-in_err-s c =
    let a = c.args in
    let p = err_from_is_err_and c.from_residual.result c.from_residual.ensures.1 in
    ap (λ (x : Result (Unit {0}) Refusal). step_out (step a.s.now (done x)) c.grow.new.mem) (p.1 ∙ ap Err p.2)
    ∙ chunk_refused a.s.now a.mem.now a.offset a.bytes.now _ (needs (goal.at.returns-in_err-s c).After-is_empty false c.if-not-is_empty.true) c.grow.result _ c.grow.new.mem c.grow.ensures c.in_err-s.was

-- no end needs no memory
still : (n : ℕ) (m : List ℕ) → outcome (Ok (stable n)) m ≡ grow_to 65536 n 0 m
still n m = sym (grow_none 65536 (omega arith) n 0 m (omega (arith, count_le 65536 (omega arith) 0)))

-- the chunk in memory that grew, or did not need to
placed : (c : After-restore) (reach : ℕ) → let a = c.args in reach ≡ chunk_reach a.s.now.block.import_base_offset (a.offset + length a.bytes.now) (length a.bytes.now)
    → (g : Growth) (k : StablePages) (m : List ℕ) → outcome g m ≡ grow_to 65536 a.s.now.count.0 reach a.mem.now → g ≡ Ok k
    → c.if-not-is_empty.s ≡ onward a.s.now k.0 a.s.now.block → c.if-not-is_empty.mem ≡ m
    → step_out (step c.restore.new.s Done) c.restore.new.mem ≡ chunk_to a.s.now a.mem.now a.offset a.bytes.now
placed c reach is g k m e ok s-is m-is =
    let a = c.args in
    let t = c.if-not-is_empty.s in
    chunk_grown a.s.now a.mem.now a.offset a.bytes.now reach is g k m e ok
    _ t c.write.new.dst c.after_import_chunk.result (stored_as t c.restore.new.s c.write.new.dst c.restore.new.mem _ Done c.restore.ensures) s-is
    (c.write.ensures ∙ ap (overwrite (a.s.now.block.import_base_offset + a.offset) a.bytes.now) m-is) c.after_import_chunk.ensures

pub returns : goal.returns
returns c =
    let a = c.args in
    let x = (goal.at.returns c).After-restore in
    let y = (goal.at.returns c).After-is_empty in
    elim c.if-not-is_empty.branch [
      | then-not-is_empty+in_ok-s w ↦ placed x _ (needs y false w.if-not-is_empty.true) w.grow.result w.in_ok-s.field-0 w.grow.new.mem w.grow.ensures w.in_ok-s.was w.s-is w.mem-is
      | else-not-is_empty w ↦ placed x 0 (needs y true w.if-not-is_empty.false) (Ok a.s.now.count) a.s.now.count a.mem.now (still a.s.now.count.0 a.mem.now) refl w.s-is w.mem-is
    ]
