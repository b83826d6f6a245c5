-- `image::fold_part` meets its contract: a part of a page that an image run covers is zeros, and of any other what is stored.
use mathlib.Core.Path.{◌≡◌, sym, ap, ◌∙◌}
use Prim.Native.Nat.{◌/◌}
use lib.ListN.{length}
use Rattle.fnv.specs.Fnv.{fold}
use Rattle.runs.specs.Sets.{covers}
use Rattle.image_runs.specs.Image.{image_runs}
use Rattle.pool.specs.Stored.{part_covered, part_stored}
use Rattle.image.proofs.fold_part.Goals as goal
use Rattle.image.proofs.fold_part.Goals.{After-image_covers}

-- whether a run covers the page
seen : (c : After-image_covers) → let a = c.args in c.image_covers.result ≡ covers (image_runs a.stored.image.runs a.stored.mem.now) (a.at / 16384)
seen c =
    let a = c.args in
    c.image_covers.ensures ∙ ap (covers (image_runs a.stored.image.runs a.stored.mem.now)) c.page_no-number.ensures

pub returns-then-image_covers : goal.returns-then-image_covers
returns-then-image_covers c =
    let a = c.args in
    c.fold_zeros.ensures
    ∙ ap (fold a.hash) (sym (part_covered 16384 a.stored.image a.stored.mem.now a.at (length a.page.now) (sym (seen (goal.at.returns-then-image_covers c).After-image_covers) ∙ c.if-image_covers.true)))

pub returns : goal.returns
returns c =
    let a = c.args in
    c.fold_stored.ensures
    ∙ ap (fold a.hash) (sym (part_stored 16384 a.stored.image a.stored.mem.now a.at (length a.page.now) (sym (seen (goal.at.returns c).After-image_covers) ∙ c.if-image_covers.false)))
