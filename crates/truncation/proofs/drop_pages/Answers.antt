use mathlib.Core.Path.{ap, ◌∙◌}
use Prim.Native.Nat.{ℕ}
use Rattle.update.specs.declared.Overlay.{Overlay}
use Rattle.update.specs.Frames.{Pool, CacheOut, cache_out}
use Rattle.update.specs.Laid.{Dropped, dropped, below_count}
use Rattle.truncation.proofs.drop_pages.Goals as goal

-- the overlay and the slices with these pages in them
abbrev onto : Overlay → ℕ → Pool → CacheOut → Dropped
onto v n x y = dropped (record { base_size = v.base_size; size = n; dirty = x.count; recorded = v.recorded; cache = y.cache; budget = v.budget }) x.frames x.numbers y.clean

pub returns : goal.returns
unfolding below_count
returns c =
    let a = c.args in
    let q = c.retain_clean_below in
    ap (λ (x : Pool). onto a.o.now a.size x (cache_out q.new.c q.new.clean)) c.retain_below-o.ensures ∙ ap (onto a.o.now a.size _) q.ensures
