-- What lies behind the fields, or nothing, has the image's runs in front.
use Rattle.std.proofs.Common.{ℕ, ◌+◌, ◌-◌, ◌*◌, ◌/◌, ◌≤◌, ◌<◌, ◌≡◌, ◌⊎◌, Option, None, Some, Bor, List, [], length, take, drop, refl, sym, ◌∙◌, ⊎_elim, arith, length-drop, take_all, drop_of_length-le}
use Prim.Native.Nat.{min}
use Rattle.std.specs.Option.{MatchOption, unwrap_or}
use Rattle.std.specs.List.{slice_range}
use Rattle.meta.specs.Runs.{runs_in as stored_in}
use Rattle.image_runs.specs.Image.{image_count, image_runs, image_few, image_stored}
use Rattle.image_runs.proofs.stored.Goals as goal

module _ (mem : List ℕ) where
  listed : (o : Option (Bor (List ℕ))) (d : Bor (List ℕ))
      → MatchOption o ((length mem < 160) ⊎ (length mem < length mem)) (λ x. (160 ≤ length mem) × (length mem ≤ length mem) × (x.now ≡ slice_range mem 160 (length mem)) × (length x.now + 160 ≡ length mem))
      → d.now ≡ [] → (unwrap_or o d).now ≡ drop 160 mem
  listed None d h e = e ∙ sym (drop_of_length-le mem {i = 160} (⊎_elim (λ a. omega arith) (λ b. omega arith) h))
  listed (Some x) d h e = h.2 ∙ take_all (length mem - 160) (drop 160 mem) (omega (arith, length-drop 160 mem))

  -- k whole runs of them
  cut_off : (n k : ℕ) (l : List ℕ) → l ≡ drop 160 mem → k ≡ min (min n 1024) (length l / 16) → stored_in (length (take (k * 16) l) / 16) (take (k * 16) l) ≡ image_runs n mem
  unfolding image_count
  cut_off n k l e h =
      let s : k ≡ image_count n mem = h ∙ rw e (omega (arith, length-drop 160 mem)) in
      rw (s, e) (image_stored n mem)

pub returns : goal.returns
returns c =
    let mem = c.args.mem.now in
    let l = c.unwrap_or-list in
    let whole : l.result.now ≡ drop 160 mem = rw l.ensures (listed mem c.get.result _ c.get.ensures.lookup.0 refl) in
    let same = cut_off mem c.args.count c.min-n.result l.result.now whole (rw c.min.ensures at c.min-n.ensures) in
    record { runs = same; few = rw same (image_few c.args.count mem) }
