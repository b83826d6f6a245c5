use Rattle.std.proofs.Common.{◌≡◌, ◌<◌, ◌+◌, ◌*◌, ◌/◌, ◌^◌, ℕ, Bool, true, false, ap, arith, bit_and, bit_or}
use Rattle.std.proofs.lemmas.Nat.{or_shifted}
use Rattle.std.proofs.lemmas.Nat.Bits.{and_high_mask}
use mir.Val.{bool_byte}
use Rattle.store.specs.Blocks.{marks, set_flags}
use Rattle.blocks.proofs.Marks.on.Goals as goal

kept : (f m : ℕ) → f < 2 ^ 64 → m < 8 → bit_or (bit_and f 18446744073709551608) m ≡ f / 8 * 8 + m
kept f m b l = rw (and_high_mask 64 3 (omega arith) f b) (or_shifted (f / 8) 3 m l)

put : (i s r : Bool) (f : ℕ) → f < 2 ^ 64 → bit_or (bit_and f 18446744073709551608) (bit_or (bit_or (1 * bool_byte i) (2 * bool_byte s)) (4 * bool_byte r)) ≡ marks i s r f
unfolding marks
put true true true f b = kept f 7 b (omega arith)
put true true false f b = kept f 3 b (omega arith)
put true false true f b = kept f 5 b (omega arith)
put true false false f b = kept f 1 b (omega arith)
put false true true f b = kept f 6 b (omega arith)
put false true false f b = kept f 2 b (omega arith)
put false false true f b = kept f 4 b (omega arith)
put false false false f b = kept f 0 b (omega arith)

pub returns : goal.returns
returns c = rw (c.from.ensures, c.from-2.ensures, c.from-3.ensures) (ap (λ f. set_flags f c.args.b) (put c.args.self.importing c.args.self.stale c.args.self.refreshing c.args.b.flags (search c)))
