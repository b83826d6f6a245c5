use Rattle.std.proofs.Common.{◌/◌, length, arith}
use Rattle.runs.specs.Lists.{length-stored, stored-at, stored_fits}
use Rattle.runs.proofs.work.StoredRunList.get.Goals as goal

pub overflow_mul-i : goal.overflow_mul-i
overflow_mul-i c = omega (arith, stored_fits c.args.i c.args.self.bytes.now c.requires)

pub read_word-requires : goal.read_word-requires
read_word-requires c = omega (arith, stored_fits c.args.i c.args.self.bytes.now c.requires)

pub overflow_mul-i-2 : goal.overflow_mul-i-2
overflow_mul-i-2 c = omega (arith, stored_fits c.args.i c.args.self.bytes.now c.requires)

pub overflow_add-i : goal.overflow_add-i
overflow_add-i c = omega (arith, stored_fits c.args.i c.args.self.bytes.now c.requires)

pub read_word-requires-2 : goal.read_word-requires-2
read_word-requires-2 c = omega (arith, stored_fits c.args.i c.args.self.bytes.now c.requires)

pub returns : goal.returns
returns c =
    let b = c.args.self.bytes.now in
    rw (c.read_word.ensures, c.read_word-2.ensures, stored-at (length b / 16) c.args.i b (omega (arith, length-stored (length b / 16) b, c.requires)))
