-- `pool::cache::retain_clean` meets its contract.
use mathlib.Core.Path.{◌≡◌}
use Prim.Native.Nat.{◌≤◌}
use native.Mathlib.Omega.{arith}
use mathlib.Core.List.{List}
use lib.ListN.{length}
use Rattle.update.specs.Pages.{Page, pages_in}
use Rattle.update.specs.PageLaws.{length-pages_in}
use Rattle.update.specs.Buffers.{cached}
use Rattle.update.specs.Frames.{pool, relaid}
use Rattle.pool.specs.CacheLaws.{settled-length, settled_most, settled_count, settled_cached, laid_relaid, length_retained_by}
use Rattle.pool.specs.Pool.{retained_by}
use Rattle.pool.proofs.cache.retain_clean.Goals as goal

pub retain-c-requires-clause-room : goal.retain-c-requires-clause-room
retain-c-requires-clause-room g c =
    omega (arith, settled-length 16384 8 c.args.c.now c.requires.fits.0, settled_most 16384 8 c.args.c.now c.requires.fits.0, c.requires.fits.1)

pub returns : goal.returns
returns g c p says =
    let a = c.args in
    let r = c.retain-c in
    let d : List Page = pages_in 16384 (cached 16384 8 a.c.now) a.clean.now in
    let few : length (retained_by p d) ≤ a.c.now.count = omega (arith, length_retained_by p d, length-pages_in 16384 (cached 16384 8 a.c.now) a.clean.now, settled_count 16384 8 a.c.now c.requires.fits.0) in
    let e : pool r.new.numbers r.new.frames r.result ≡ relaid 16384 a.c.now.count (retained_by p d) a.c.now.pages a.clean.now =
    rw (settled_cached 16384 8 a.c.now c.requires.fits.0) (r.ensures p says) in
    laid_relaid 16384 8 a.c.now c.requires.fits.0 a.clean.now (retained_by p d) (pool r.new.numbers r.new.frames r.result) few e
