-- `pool::cache::make_room` meets its contract.
use mathlib.Core.Path.{◌≡◌, ap, ◌∙◌}
use Prim.Native.Nat.{ℕ}
use native.Mathlib.Omega.{arith}
use mathlib.Core.List.{List, [], ◌∷◌, ◌++◌}
use lib.ListN.{length, take, drop, set, get_or, length-drop, drop_of_length-le}
use lib.Seq.{drop-cons, set_at}
use borrow.Author.Tests.{lt-ltb, le-ltb}
use borrow.Author.Rules.{rules}
use Rattle.std.specs.List.{copy_within}
use Rattle.std.proofs.Common.{take_all}
use Rattle.memory.specs.Bytes.{overwrite}
use Rattle.update.specs.Frames.{cache_out}
use Rattle.pool.specs.Cache.{room_made}
use Rattle.pool.specs.PoolLaws.{moved}
use Rattle.pool.proofs.cache.make_room.Goals as goal

shifted : (p : List ℕ) → length p ≡ 8 → set (copy_within p 1 8 0) 7 0 ≡ drop 1 p ++ 0 ∷ []
shifted p l =
    let n : length (drop 1 p) ≡ 7 = length-drop 1 p ∙ omega arith in
    let t : take 7 (drop 1 p) ≡ drop 1 p = take_all 7 (drop 1 p) (omega arith) in
    let d : drop 7 p ≡ get_or p 7 0 ∷ [] = drop-cons p 7 0 (omega arith) ∙ ap (λ (x : List ℕ). get_or p 7 0 ∷ x) (drop_of_length-le p {i = 8} (omega arith)) in
    rw (t, d) (set_at (drop 1 p) (get_or p 7 0) [] 0 7 n)

pub returns-then-c-lt-CAPACITY : goal.returns-then-c-lt-CAPACITY
unfolding room_made
returns-then-c-lt-CAPACITY c = simp (lt-ltb _ _ c.if-c-lt-CAPACITY.true)

pub returns : goal.returns
unfolding room_made
returns c =
    let l : List ℕ = c.args.clean.now in
    let p : List ℕ = c.args.c.now.pages in
    let long : length p ≡ 8 = search rules in
    let f : c.copy_within.new.self ≡ overwrite 0 (take 114688 (drop 16384 l)) l = c.copy_within.ensures.after ∙ moved 0 16384 114688 l (omega (arith, c.requires.1)) (omega (arith, c.requires.1)) in
    let g : set c.copy_within-2.new.self 7 0 ≡ drop 1 p ++ 0 ∷ [] = ap (λ (x : List ℕ). set x 7 0) c.copy_within-2.ensures.after ∙ shifted p long in
    rw (le-ltb _ _ c.if-c-lt-CAPACITY.false) (λ j. cache_out (record { pages = g j; count = 7 }) (f j))
