-- `fnv::fold_eight` meets its contract: three bytes and then five, or three and one multiplication for the zeros.
use Rattle.std.proofs.Common.{◌≡◌, ℕ, ◌^◌, ◌<◌, true, length, sym, ap, ◌∙◌, arith, take-append-drop}
use Rattle.fnv.specs.Fnv.{fold, fold_join}
use Rattle.fnv.specs.Zeros.{all_zeros, five_zeros}
use Rattle.fnv.proofs.fold_eight.Goals as goal
use Rattle.fnv.proofs.fold_eight.Goals.{After-fold_each-three}

-- the hash of the five goes on from that of the three
both : (c : After-fold_each-three) → let s = c.split_at.result in
    fold c.fold_each-three.result s.1.now ≡ fold c.args.hash c.args.bytes.now
both c = let s = c.split_at.result in
    ap (λ (h : ℕ). fold h s.1.now) c.fold_each-three.ensures ∙ fold_join c.args.hash s.0.now s.1.now
    ∙ ap (fold c.args.hash) (rw (c.split_at.ensures.front, c.split_at.ensures.back) (take-append-drop 3 c.args.bytes.now))

pub returns-then-are_zeros : goal.returns-then-are_zeros
returns-then-are_zeros c =
    let five = c.split_at.result.1.now in
    let three = c.fold_each-three.result in
    let small : three < 2 ^ 64 = omega arith in
    let n : length five ≡ 5 = omega arith in
    let zeros : all_zeros five ≡ true = sym c.are_zeros.ensures ∙ c.if-are_zeros.true in
    sym (five_zeros five three small n zeros) ∙ both (goal.at.returns-then-are_zeros c).After-fold_each-three

pub returns : goal.returns
returns c = c.fold_each.ensures ∙ both (goal.at.returns c).After-fold_each-three
