-- `pool::cache::insert` meets its contract.
use mathlib.Core.Path.{◌≡◌, sym, ap, ◌∙◌}
use Prim.Native.Nat.{ℕ, ◌+◌, ◌-◌, ◌*◌, ◌≤◌, ◌<◌}
use native.Mathlib.Omega.{arith}
use mathlib.Core.List.{List}
use lib.ListN.{length, take, drop, set}
use borrow.Rule.Slice.PartMut.{put_mid}
use Rattle.memory.specs.Bytes.{overwrite}
use Rattle.memory.specs.Laws.{part_back, length_part}
use Rattle.update.specs.Image.{image_in, image_page, image_part}
use Rattle.update.specs.ImageLaws.{length-image_page, page_is}
use Rattle.update.specs.Frames.{cache_out}
use Rattle.pool.specs.CacheLaws.{room_count, room-length, laid_insert}
use Rattle.pool.proofs.cache.insert.Goals as goal
use Rattle.pool.proofs.cache.insert.Goals.{After-make_room}

-- a frame is free, and the frames are as many as before
few : (c : After-make_room) → (c.make_room.new.c.count < 8) × (131072 ≤ length c.make_room.new.clean)
few c =
    let x = cache_out c.make_room.new.c c.make_room.new.clean in (
      room_count 16384 8 c.args.c.now c.requires.0.0 c.args.clean.now x (omega arith) c.make_room.ensures,
      omega (arith, c.requires.0.1, room-length 16384 8 c.args.c.now c.requires.0.0 c.args.clean.now x (omega arith) c.make_room.ensures),
    )

pub overflow_mul-from : goal.overflow_mul-from
overflow_mul-from c = omega (arith, few (goal.at.overflow_mul-from c).After-make_room)

pub overflow_add-end : goal.overflow_add-end
overflow_add-end c = omega (arith, few (goal.at.overflow_add-end c).After-make_room)

pub slice_bounds-read_image-end : goal.slice_bounds-read_image-end
slice_bounds-read_image-end c = omega (arith, few (goal.at.slice_bounds-read_image-end c).After-make_room)

pub bounds-c-at : goal.bounds-c-at
bounds-c-at c = omega (arith, few (goal.at.bounds-c-at c).After-make_room)

pub returns-clause-taken : goal.returns-clause-taken
returns-clause-taken c =
    let a = c.args in
    let n = c.make_room.new.c.count in
    let l : List ℕ = c.make_room.new.clean in
    let new : List ℕ = c.read_image.new.dst in
    let k : ℕ = n * 16384 + 16384 - n * 16384 in
    let e : k ≡ 16384 = omega arith in
    let fits : n * 16384 + k ≤ length l = omega (arith, few (goal.at.returns-clause-taken c).After-make_room) in
    let long : length (take k (drop (n * 16384) l)) ≡ 16384 = length_part (n * 16384) k l fits ∙ e in
    let image : new ≡ image_page 16384 (image_in 16384 a.stored.image a.stored.mem.now) a.page =
    c.read_image.ensures ∙ ap (image_part 16384 a.stored.image a.stored.mem.now (a.page * 16384)) long ∙ page_is 16384 (omega arith) a.stored.image a.stored.mem.now a.page in
    let back : put_mid (n * 16384) k l new ≡ overwrite (n * 16384) (image_page 16384 (image_in 16384 a.stored.image a.stored.mem.now) a.page) l =
    part_back (n * 16384) k l new (ap length image ∙ length-image_page 16384 (image_in 16384 a.stored.image a.stored.mem.now) a.page ∙ sym e) fits ∙ ap (λ (y : List ℕ). overwrite (n * 16384) y l) image in
    ap (cache_out (record { pages = set c.make_room.new.c.pages n a.page; count = n + 1 })) back
    ∙ laid_insert 16384 8 a.c.now c.requires.0.0 a.clean.now (cache_out c.make_room.new.c l) (omega arith) c.make_room.ensures (image_in 16384 a.stored.image a.stored.mem.now) a.page c.requires.0.1
