-- `pool::retain` meets its contract: the walk, and zeros in the places that are left over.
use mathlib.Core.Path.{◌≡◌, ◌∙◌}
use Prim.Native.Nat.{◌-◌, ◌*◌}
use native.Mathlib.Omega.{arith}
use borrow.Rule.Slice.PartMut.{put_mid}
use Rattle.memory.specs.Bytes.{zeros, overwrite}
use Rattle.memory.specs.Laws.{part_filled}
use Rattle.update.specs.Frames.{pool}
use Rattle.pool.specs.WalkLaws.{front_relaid}
use Rattle.pool.proofs.pages.retain.Goals as goal

pub returns : goal.returns
returns g c p says =
    let a = c.args in
    let n = c.retain_front-many.result in
    let ns = c.retain_front-many.new.numbers in
    let fs = c.retain_front-many.new.frames in
    let ns' : put_mid n (a.count - n) ns c.fill.new.dst ≡ overwrite n (zeros (a.count - n)) ns =
    rw c.fill.ensures (part_filled n (a.count - n) ns (omega (arith, c.retain_front-many.ensures.few, c.retain_front-many.auto.numbers, c.requires.room.0))) in
    let fs' : put_mid (n * 16384) (a.count * 16384 - n * 16384) fs c.fill-2.new.dst ≡ overwrite (n * 16384) (zeros (a.count * 16384 - n * 16384)) fs =
    rw c.fill-2.ensures (part_filled (n * 16384) (a.count * 16384 - n * 16384) fs (omega (arith, c.retain_front-many.ensures.few, c.retain_front-many.auto.frames, c.requires.room.1))) in
    (λ j. pool (ns' j) (fs' j) n) ∙ front_relaid 16384 p a.count a.numbers.now a.frames.now (pool ns fs n) c.requires.room.0 c.requires.room.1 (c.retain_front-many.ensures.moved p says)
