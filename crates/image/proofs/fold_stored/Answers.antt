-- `image::fold_stored` meets its contract: bytes that memory holds are hashed there, others as they are read.
use Rattle.std.proofs.Common.{sym, ap, ◌∙◌, length}
use Rattle.std.proofs.Math.Nat.{sub-zero}
use Rattle.fnv.specs.Fnv.{fold}
use Rattle.pool.specs.Stored.{stored_whole}
use Rattle.image.proofs.fold_stored.Goals as goal

pub returns-in-Some : goal.returns-in-Some
returns-in-Some c =
    let a = c.args in
    let n = length a.page.now in
    let part = rw (c.stored_from.ensures, sub-zero n) at c.in-Some.ensures.lookup.0 in
    c.fold_fnv1a64.ensures ∙ ap (fold a.hash) (part.2 ∙ sym (stored_whole a.stored.image a.stored.mem.now a.at n part.1))
