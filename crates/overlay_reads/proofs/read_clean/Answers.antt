-- `overlay_reads::read_clean` meets its contract.
use mathlib.Core.Path.{◌≡◌, sym, ap, ◌∙◌}
use Prim.Native.Nat.{ℕ, ◌+◌, ◌-◌, ◌*◌, ◌≤◌, ◌<◌}
use native.Mathlib.Omega.{arith}
use mathlib.Core.List.{List}
use lib.ListN.{length, take, drop}
use Rattle.update.specs.Pages.{place_of}
use Rattle.update.specs.Image.{image_in}
use Rattle.update.specs.Buffers.{cached}
use Rattle.update.specs.Laid.{clean_seen, clean_read}
use Rattle.pool.specs.CacheLaws.{settled_count, settled_most}
use Rattle.pool.specs.PoolLaws.{found_at, found_none}
use Rattle.overlay_reads.specs.ReadLaws.{hit_fits, read_hit, miss_shown}
use Rattle.update.specs.ListLaws.{copied}
use Rattle.overlay_reads.proofs.read_clean.Goals as goal
use Rattle.overlay_reads.proofs.read_clean.Goals.{Joined-find_clean, in-Some, in-None}

-- the page lies in frame `at` of the clean frames, and its bytes there are what the read gives
shown : (c : Joined-find_clean) → let a = c.args in let x = c.match-find_clean in
    (x.at < 8) × ((x.at * 16384 + a.within + length a.dst.now ≤ length x.clean)
    × (clean_seen x.c x.clean (take (length a.dst.now) (drop (x.at * 16384 + a.within) x.clean)) ≡ clean_read 16384 8 a.c.now a.clean.now (image_in 16384 a.stored.image a.stored.mem.now) a.page a.within (length a.dst.now)))
shown c =
    let a = c.args in
    let b : ℕ → ℕ = image_in 16384 a.stored.image a.stored.mem.now in
    let n : ℕ = length a.dst.now in
    let ns : List ℕ = cached 16384 8 a.c.now in
    let r = c.requires in
    let many = settled_count 16384 8 a.c.now r.0.0 in
    elim c.match-find_clean.branch [
      | in-Some w ↦
          let f = found_at ns a.page w.in-Some.at (sym w.in-Some.is ∙ c.find_clean.ensures) in
          let few : place_of ns a.page < a.c.now.count = omega (arith, f, many) in
          rw (w.c-is, w.clean-is, w.at-is, f.0) (
            omega (arith, few, settled_most 16384 8 a.c.now r.0.0),
            (
              hit_fits 16384 8 (omega arith) (omega arith) a.c.now a.clean.now r.0.0 r.0.1 b a.page a.within n r.1 few,
              sym (read_hit 16384 8 (omega arith) (omega arith) a.c.now a.clean.now r.0.0 r.0.1 b a.page a.within n r.1 few),
            ),
          )
      | in-None w ↦
          let f : a.c.now.count ≤ place_of ns a.page = omega (arith, found_none ns a.page (sym w.in-None.is ∙ c.find_clean.ensures), many) in
          let i = w.insert-at in
          let last : i.result ≡ i.new.c.count - 1 = omega (arith, i.ensures.last) in
          rw (w.c-is, w.clean-is, w.at-is, last) (miss_shown 16384 8 (omega arith) (omega arith) a.c.now a.clean.now r.0.0 r.0.1 b a.page a.within n r.1 i.new.c i.new.clean i.ensures.taken f)
    ]

pub overflow_mul-from : goal.overflow_mul-from
overflow_mul-from c = omega (arith, shown (goal.at.overflow_mul-from c).Joined-find_clean)

pub overflow_add-from : goal.overflow_add-from
overflow_add-from c = omega (arith, shown (goal.at.overflow_add-from c).Joined-find_clean)

pub slice_bounds-copy-count : goal.slice_bounds-copy-count
slice_bounds-copy-count c = omega (arith, shown (goal.at.slice_bounds-copy-count c).Joined-find_clean)

pub slice_bounds-copy-start : goal.slice_bounds-copy-start
slice_bounds-copy-start c = omega (arith, shown (goal.at.slice_bounds-copy-start c).Joined-find_clean)

pub returns : goal.returns
returns c =
    let x = c.match-find_clean in
    let s = shown (goal.at.returns c).Joined-find_clean in
    ap (clean_seen x.c x.clean) (c.copy.ensures ∙ copied (x.at * 16384 + c.args.within) x.clean c.args.dst.now s.1.0) ∙ s.1.1
