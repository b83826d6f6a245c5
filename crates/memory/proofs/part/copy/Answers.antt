-- `memory::copy` meets its contract: before each turn the first `done` bytes of the source stand over the front of the target.
use mathlib.Core.Path.{◌≡◌, refl, sym, ap, ◌∙◌}
use Prim.Native.Nat.{ℕ, ◌+◌, ◌-◌, ◌≤◌, min}
use native.Mathlib.Omega.{arith}
use mathlib.Core.List.{List}
use lib.ListN.{length, take}
use lib.Seq.{take_all}
use borrow.Rule.Slice.PartMut.{put_mid}
use Rattle.memory.specs.Bytes.{overwrite}
use Rattle.memory.specs.Laws.{below, length-overwrite, overwrite_nil, overwrite_cut, part_copied}
use Rattle.memory.proofs.part.copy.Goals as goal
use Rattle.memory.proofs.part.copy.Goals.{After-min}

-- the next part, from `done` to its end, lies whole in both slices
inside : (done n m d s : ℕ) → done ≤ n → n ≡ min s d → m ≡ min 512 (n - done) → (done + (done + m - done) ≤ d) × ((done + (done + m - done) ≤ s) × (done + m - done ≤ 512))
inside done n m d s h e f = omega arith

-- so far as the shorter slice reaches is all that is seen
whole : (done n : ℕ) (src dst : List ℕ) → done ≡ n → n ≡ min (length src) (length dst) → overwrite 0 (take done src) dst ≡ overwrite 0 src dst
whole done n src dst e f = below done (length dst)
    (λ lo. ap (λ (l : List ℕ). overwrite 0 l dst) (take_all done src (omega arith)))
    (λ hi. overwrite_cut 0 done src dst (omega arith))

fits : (c : After-min) → let x = c.loop-done in let a = c.args in
    (x.done + (x.done + c.min.result - x.done) ≤ length a.dst.now)
    × ((x.done + (x.done + c.min.result - x.done) ≤ length a.src.now) × (x.done + c.min.result - x.done ≤ 512))
fits c =
    let x = c.loop-done in
    inside x.done c.min-n.result c.min.result _ _ x.invariant.0 x.invariant.1.0 c.min.ensures

pub loop-done-init : goal.loop-done-init
loop-done-init c = (omega arith, (c.min-n.ensures, (refl, sym (overwrite_nil 0 c.args.dst.now))))

pub loop-done-preserved : goal.loop-done-preserved
loop-done-preserved c =
    let x = c.loop-done in
    let a = c.args in
    let k = x.done + c.min.result - x.done in
    let e : x.done + k ≡ x.done + c.min.result = omega arith in
    let d : put_mid x.done k x.dst c.write.new.dst ≡ overwrite 0 (take (x.done + c.min.result) a.src.now) a.dst.now =
    rw (c.write.ensures, x.invariant.1.1.1)
    (part_copied x.done k a.src.now a.dst.now (fits (goal.at.loop-done-preserved c).After-min).1.0 (fits (goal.at.loop-done-preserved c).After-min).0 ∙ ap (λ (n : ℕ). overwrite 0 (take n a.src.now) a.dst.now) e) in
    (omega (arith, x.invariant.0, c.min.ensures), (x.invariant.1.0, (ap length d ∙ length-overwrite 0 _ _, d)))

pub returns : goal.returns
returns c =
    let x = c.loop-done in
    let a = c.args in
    x.invariant.1.1.1 ∙ whole x.done c.min-n.result a.src.now a.dst.now (omega (arith, x.invariant.0)) x.invariant.1.0
