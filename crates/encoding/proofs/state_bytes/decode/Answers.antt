-- `decode` meets its contract.
use mathlib.Core.Path.{◌≡◌, ap, ◌∙◌}
use mathlib.Core.Bool.{not}
use native.Mathlib.Omega.{arith}
use lib.Dec.{eqb}
use lib.ListN.{length, get_or, drop, length-drop}
use lib.Seq.{take_all}
use Rattle.words.specs.Words.{length-words_in}
use Rattle.memory.specs.Growth.{stable}
use Rattle.meta.specs.Block.{of_numbers}
use Rattle.encoding.specs.StateBytes.{state_of, state_in, overlay_of}
use Rattle.encoding.proofs.state_bytes.decode.Goals as goal

pub returns : goal.returns
unfolding state_of state_in
returns c = let n = c.read_words-n in
    let long : length n.result ≡ 42 = ap length n.ensures ∙ length-words_in 42 c.args.state.now in
    let b : c.of_numbers.result ≡ of_numbers (drop 1 n.result) =
    c.of_numbers.ensures ∙ ap of_numbers (take_all 41 (drop 1 n.result) (omega (arith, long, length-drop 1 n.result))) in
    let v : c.overlay_of.result ≡ overlay_of (drop 23 n.result) =
    c.overlay_of.ensures ∙ ap overlay_of (take_all 19 (drop 23 n.result) (omega (arith, long, length-drop 23 n.result))) in
    (λ i. record { count = stable (get_or n.result 0 0); block = b i; updating = not (eqb (get_or n.result 22 0) 0); overlay = v i }) ∙ ap state_of n.ensures
