-- `Writer::put` meets its contract.
use Rattle.std.proofs.Common.{refl, arith}
use Rattle.decimal.specs.Write.{write_part}
use Rattle.decimal.proofs.write.Writer.put.Goals as goal

pub returns : goal.returns
returns c =
    let w = c.args.self.now in
    (refl, write_part w.at _ c.args.word.now w.out.now _ c.requires (omega arith) c.copy_from_slice.ensures.after)
