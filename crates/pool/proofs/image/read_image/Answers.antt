-- `pool::image::read_image` meets its contract: a page that an image run covers is zeros, and any other is what is stored.
use mathlib.Core.Path.{◌≡◌, sym, ap, ◌∙◌}
use Prim.Native.Nat.{◌/◌}
use lib.ListN.{length}
use Rattle.runs.specs.Sets.{covers}
use Rattle.image_runs.specs.Image.{image_runs}
use Rattle.pool.specs.Stored.{part_covered, part_stored}
use Rattle.pool.proofs.image.read_image.Goals as goal
use Rattle.pool.proofs.image.read_image.Goals.{After-image_covers}

-- whether a run covers the offset's page
seen : (c : After-image_covers) → let s = c.args in c.image_covers.result ≡ covers (image_runs s.stored.image.runs s.stored.mem.now) (s.offset / 16384)
seen c =
    let s = c.args in
    c.image_covers.ensures ∙ ap (covers (image_runs s.stored.image.runs s.stored.mem.now)) c.page_no-page.ensures

pub returns-then-image_covers : goal.returns-then-image_covers
returns-then-image_covers c =
    let s = c.args in
    c.fill.ensures ∙ sym (part_covered 16384 s.stored.image s.stored.mem.now s.offset (length s.dst.now) (sym (seen (goal.at.returns-then-image_covers c).After-image_covers) ∙ c.if-image_covers.true))

pub returns : goal.returns
returns c =
    let s = c.args in
    c.read_stored.ensures
    ∙ sym (part_stored 16384 s.stored.image s.stored.mem.now s.offset (length s.dst.now) (sym (seen (goal.at.returns c).After-image_covers) ∙ c.if-image_covers.false))
