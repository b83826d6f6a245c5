use Rattle.std.proofs.Common.{◌≡◌, ℕ, ◌/◌, ◌%◌, not, eqb, bit_and, arith}
use Rattle.std.proofs.lemmas.Grind.{common_steps}
use Rattle.std.proofs.lemmas.Nat.Bits.{and_pow}
use Rattle.store.specs.Blocks.{stale}
use Rattle.blocks.proofs.is_stale.Goals as goal

is_set : (n : ℕ) → not (eqb (bit_and n 2) 0) ≡ eqb (n / 2 % 2) 1
is_set n = grind (arith, common_steps, and_pow n 1)

pub returns : goal.returns
unfolding stale
returns c = is_set c.args.b.flags
