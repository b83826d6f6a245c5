use mathlib.Core.Path.{◌≡◌, sym, ap, subst, ◌∙◌}
use native.Mathlib.Omega.{arith}
use Rattle.std.proofs.lemmas.Result.{err_from_is_err_and}
use Rattle.std.specs.Prelude.{Ok}
use Rattle.update.specs.Laid.{Laid, laid, bufs, Fits, puts, wrote}
use Rattle.update.specs.LeaveLaws.{told}
use Rattle.update.specs.StepLaws.{wrote_inside, wrote_stop, wrote_next}
use Rattle.update.specs.FitLaws.{grown_fits}
use Rattle.writing.proofs.write.Goals as goal
use Rattle.writing.proofs.write.Goals.{Joined-o-end, then-o-end+in_ok-grow, else-o-end}

pub returns-in_err-grow : goal.returns-in_err-grow
returns-in_err-grow c =
    let p = err_from_is_err_and c.from_residual.result c.from_residual.ensures.1 in
    rw (p.1, p.2) (sym (wrote_stop 16384 8 (omega arith) _ _ c.requires.0 _ _ _ _ _ c.if-o-end.true _ _ _ (told c.grow.ensures c.in_err-grow.was)))

-- grown or not, the bytes are left to write
ready : (c : Joined-o-end) → let a = c.args in let x = c.if-o-end in let l = bufs x.frames x.numbers x.clean x.«record» in
    Fits 16384 8 x.o l × (puts 16384 8 18446744073709551615 a.stored.image a.stored.mem.now x.o l a.offset a.bytes.now
    ≡ wrote 16384 8 18446744073709551615 a.stored.image a.stored.mem.now a.o.now (bufs a.frames.now a.numbers.now a.clean.now a.«record».now) a.offset a.bytes.now)
ready c =
    let a = c.args in
    let x = c.if-o-end in
    elim x.branch [
      | then-o-end+in_ok-grow w ↦
          let e = told w.grow.ensures w.in_ok-grow.was ∙ (λ j. laid (sym w.o-is j) (bufs (sym w.frames-is j) (sym w.numbers-is j) (sym w.clean-is j) (sym w.record-is j)) (Ok tt)) in
          (grown_fits 16384 8 (omega arith) _ _ c.requires.0 _ _ _ _ w.if-o-end.true e, wrote_next 16384 8 (omega arith) _ _ c.requires.0 _ _ _ _ _ w.if-o-end.true _ _ e)
      | else-o-end w ↦
          let e : laid a.o.now (bufs a.frames.now a.numbers.now a.clean.now a.«record».now) (Ok tt) ≡ laid x.o (bufs x.frames x.numbers x.clean x.«record») (Ok tt) =
          λ j. laid (sym w.o-is j) (bufs (sym w.frames-is j) (sym w.numbers-is j) (sym w.clean-is j) (sym w.record-is j)) (Ok tt) in (
            subst (λ (y : Laid). Fits 16384 8 y.overlay y.bufs) e c.requires.0,
            ap (λ (y : Laid). puts 16384 8 18446744073709551615 a.stored.image a.stored.mem.now y.overlay y.bufs a.offset a.bytes.now) (sym e)
                ∙ sym (wrote_inside 16384 8 (omega arith) _ _ c.requires.0 _ _ _ _ _ w.if-o-end.false),
          )
    ]

pub put-requires : goal.put-requires
put-requires c = ((ready (goal.at.put-requires c).Joined-o-end).0, c.requires.1)

pub returns : goal.returns
returns c = c.put.ensures ∙ (ready (goal.at.returns c).Joined-o-end).1
