-- `pool::cache::load` meets its contract.
use mathlib.Core.Path.{◌≡◌, sym, ap, ◌∙◌}
use Prim.Native.Nat.{ℕ, ◌<◌, ◌+◌, ◌-◌, ◌*◌, ◌≤◌}
use native.Mathlib.Omega.{arith}
use mathlib.Core.List.{List}
use lib.ListN.{length, take, drop, length-drop}
use Rattle.pool.specs.PoolLaws.{found_at, found_none}
use Rattle.memory.specs.Bytes.{zeros, resize, overwrite}
use Rattle.meta.specs.Runs.{runs_of}
use Rattle.runs.specs.Sets.{covers}
use Rattle.update.specs.ListLaws.{copied, resize-take}
use Rattle.update.specs.Pages.{place_of, drop_page}
use Rattle.update.specs.Image.{image_in, image_page}
use Rattle.update.specs.ImageLaws.{page_is}
use Rattle.update.specs.Buffers.{cached, clean_pages}
use Rattle.update.specs.Frames.{cache_out, cache_laid, load_out}
use Rattle.pool.specs.CacheLaws.{settled_count, settled_most, load_covered, load_hit, load_miss}
use Rattle.pool.proofs.cache.load.Goals as goal
use Rattle.pool.proofs.cache.load.Goals.{In-Some}

-- a frame of the cache, copied
frame-copied : (at : ℕ) (l f : List ℕ) → length f ≡ 16384 → at * 16384 + 16384 ≤ length l
    → overwrite 0 (take (length l - at * 16384) (drop (at * 16384) l)) f ≡ resize 16384 (drop (at * 16384) l)
frame-copied at l f e h = copied (at * 16384) l f (omega arith) ∙ ap (λ (n : ℕ). take n (drop (at * 16384) l)) e ∙ sym (resize-take 16384 (drop (at * 16384) l) (omega (arith, length-drop (at * 16384) l)))

pub returns-then-covers_page : goal.returns-then-covers_page
returns-then-covers_page c =
    let a = c.args in
    ap (λ (f : List ℕ). load_out a.c.now f a.clean.now) (c.fill.ensures ∙ ap zeros c.requires.1)
    ∙ load_covered 16384 8 a.c.now c.requires.0.0 a.clean.now (image_in 16384 a.stored.image a.stored.mem.now) (covers (runs_of a.recorded.numbers.now) a.page) a.page (sym c.covers_page.ensures ∙ c.if-covers_page.true)

pub returns-in_default : goal.returns-in_default
returns-in_default c =
    let a = c.args in
    let image : c.read_image.new.dst ≡ image_page 16384 (image_in 16384 a.stored.image a.stored.mem.now) a.page =
    rw c.requires.1 at c.read_image.ensures ∙ page_is 16384 (omega arith) a.stored.image a.stored.mem.now a.page in
    rw image (load_miss 16384 8 a.c.now c.requires.0.0 a.clean.now (image_in 16384 a.stored.image a.stored.mem.now) (covers (runs_of a.recorded.numbers.now) a.page) a.page (sym c.covers_page.ensures ∙ c.if-covers_page.false) (omega arith) c.requires.0.1
    (omega (arith, found_none (cached 16384 8 a.c.now) a.page c.in_default.ensures, settled_count 16384 8 a.c.now c.requires.0.0)))

-- the place found is a frame of the cache
hit : (c : In-Some) → (c.in-Some.at ≡ place_of (cached 16384 8 c.args.c.now) c.args.page) × (c.in-Some.at < c.args.c.now.count) × (c.in-Some.at * 16384 + 16384 ≤ length c.args.clean.now)
hit c =
    let a = c.args in
    let f = found_at (cached 16384 8 a.c.now) a.page c.in-Some.at c.in-Some.ensures in
    let k : c.in-Some.at < a.c.now.count = omega (arith, f.1, settled_count 16384 8 a.c.now c.requires.0.0) in
    (f.0, k, omega (arith, k, settled_most 16384 8 a.c.now c.requires.0.0, c.requires.0.1))

pub overflow_mul-from : goal.overflow_mul-from
overflow_mul-from c = omega (arith, hit c)

pub slice_bounds-copy-count : goal.slice_bounds-copy-count
slice_bounds-copy-count c = omega (arith, hit (goal.at.slice_bounds-copy-count c).In-Some)

pub slice_bounds-copy-start : goal.slice_bounds-copy-start
slice_bounds-copy-start c = omega (arith, hit (goal.at.slice_bounds-copy-start c).In-Some)

pub returns : goal.returns
returns c =
    let a = c.args in
    let l : List ℕ = a.clean.now in
    let h = hit (goal.at.returns c).In-Some in
    let x = cache_out c.retain_clean_others.new.c c.retain_clean_others.new.clean in
    let frame : c.copy.new.dst ≡ resize 16384 (drop (place_of (cached 16384 8 a.c.now) a.page * 16384) l) =
    c.copy.ensures ∙ frame-copied c.in-Some.at l a.frame.now c.requires.1 (omega (arith, h.2))
    ∙ ap (λ (n : ℕ). resize 16384 (drop (n * 16384) l)) h.0 in
    let left : x ≡ cache_laid 16384 8 a.c.now l (drop_page a.page (clean_pages 16384 8 a.c.now l)) =
    c.retain_clean_others.ensures in
    ap (λ (f : List ℕ). load_out x.cache f x.clean) frame
    ∙ load_hit 16384 8 a.c.now c.requires.0.0 l (image_in 16384 a.stored.image a.stored.mem.now) (covers (runs_of a.recorded.numbers.now) a.page) a.page x (sym c.covers_page.ensures ∙ c.if-covers_page.false) (omega arith) (omega (arith, h)) left
