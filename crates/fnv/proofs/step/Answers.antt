-- `fnv::step` meets its contract: an octet is below 256.
use Rattle.std.proofs.Common.{ℕ, ◌*◌, ◌%◌, ◌^◌, ap, arith}
use Rattle.fnv.specs.Fnv.{mixed_is, prime, step as taken}
use Rattle.fnv.proofs.step.Goals as goal

pub returns : goal.returns
unfolding taken
returns c = rw c.from.ensures (ap (λ (x : ℕ). (x * prime) % 2 ^ 64) (mixed_is c.args.hash c.args.byte (omega arith)))
