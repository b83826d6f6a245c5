-- `input::read_full` meets its contract. The loop's invariant: the buffer's first bytes are what the input gave so far.
use Rattle.std.proofs.Common.{List, ℕ, ◌-◌, subst, sym, arith}
use Rattle.std.specs.Io.KnownBytes.{Consumes}
use Rattle.input.specs.Reads.{consumes_more, front_grows}
use Rattle.input.proofs.read_full.Goals as goal

pub loop-n-preserved : goal.loop-n-preserved
loop-n-preserved g c =
    let l = c.loop-n in
    let r = g.R.Read.remaining in
    let e = front_grows l.n c.in_ok-more.more _ l.buffer c.read.new.buf (omega arith) c.in_ok-more.ensures.bound.0 in record {
      bound = omega (arith, c.in_ok-more.ensures.bound.0, c.read.auto.buf);
      bytes = subst (λ (z : List ℕ). Consumes (r c.args.input.now) (r c.read.new.self) z) (sym e)
          (consumes_more (r c.args.input.now) (r l.input) (r c.read.new.self) _ _ l.invariant.bytes c.in_ok-more.ensures.bytes.0);
    }
