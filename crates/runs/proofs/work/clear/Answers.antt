-- The numbers before the place stay, and those from it on are zeros.
use Rattle.std.proofs.Common.{ℕ, ◌+◌, ◌-◌, ◌≤◌, ◌<◌, ◌≡◌, min, List, [], length, take, drop, replicate, ◌∙◌, ⊎_elim, arith, take_all, append-nil, drop-drop, drop_of_length-le, length-take, length-drop, ap}
use borrow.Rule.Slice.PartMut.{put_mid}
use Rattle.runs.specs.Members.{le_or_lt}
use Rattle.runs.specs.Flat.{padded}
use Rattle.runs.proofs.work.clear.Goals as goal

take-min : (from : ℕ) (w : List ℕ) → take (min from (length w)) w ≡ take from w
take-min from w =
    ⊎_elim
    (λ (h : from ≤ length w). let e : min from (length w) ≡ from = omega arith in rw e)
    (λ (h : length w < from). let e : min from (length w) ≡ length w = omega arith in rw (e, take_all (length w) w (omega arith), take_all from w (omega arith)))
    (le_or_lt from (length w))

cleared : (from : ℕ) (w ys : List ℕ) → ys ≡ replicate (length w - min from (length w)) 0 → put_mid (min from (length w)) (length w - min from (length w)) w ys ≡ padded (length w) (take from w)
unfolding padded
cleared from w ys e =
    let m : ℕ = min from (length w) in
    let n : length (take from w) ≡ m = omega (arith, length-take from w) in
    let d : drop (length w - m) (drop m w) ≡ [] = drop-drop (length w - m) m w ∙ drop_of_length-le w {i = m + (length w - m)} (omega arith) in
    rw (take-min from w, e, d, n, append-nil)

pub returns : goal.returns
returns c =
    let w = c.args.work.now in
    let n = c.min-n in
    let d = c.fill in
    let k : length (take (length w - n.result) (drop n.result w)) ≡ length w - min c.args.from (length w) = omega (arith, n.ensures, length-take (length w - n.result) (drop n.result w), length-drop n.result w) in
    rw n.ensures (cleared c.args.from w d.new.self (d.ensures.after (λ y e. e) ∙ ap (λ (m : ℕ). replicate m 0) k))
