-- `encode` meets its contract.
use mathlib.Core.Path.{ap, ◌∙◌}
use native.Mathlib.Omega.{arith}
use Rattle.encoding.specs.StateBytes.{flag_of, state_in, parts_wide, parts_bytes, state_round}
use Rattle.encoding.proofs.state_bytes.encode.Goals as goal

pub returns : goal.returns
returns c = let s = c.args.s in
    let flagged = flag_of s.updating c.from.ensures in
    let bs = parts_bytes s c.args.state.now _ _ _ _ _ _ _ c.numbers.ensures flagged c.numbers_of.ensures.0 c.put.ensures c.put-2.ensures c.put-3.ensures c.put-4.ensures c.requires in
    let wide = parts_wide s c.args.state.now _ _ _ _ _ _ _ c.numbers.ensures flagged c.numbers_of.ensures.0 c.put.ensures c.put-2.ensures c.put-3.ensures c.put-4.ensures in
    -- what the types of the block's fields tell
    let block = c.well_formed.0.1.1.1.0.1.1 in
    (bs, ap state_in bs ∙ state_round s (omega (arith, block.1.0)) (omega (arith, block.1.1.0)) c.numbers_of.ensures.1 wide)
