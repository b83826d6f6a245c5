-- The pairs that end before the page come first, and as many as they are is its place.
use Rattle.std.proofs.Common.{ℕ, suc, ◌-◌, ◌*◌, ◌/◌, ◌≤◌, ◌≡◌, ◌∙◌, List, true, length, arith, rules, of_calls, length-take, take}
use Rattle.std.proofs.lemmas.List.Sorted.{IsPartitionPoint-from_clause}
use Rattle.meta.specs.Runs.{normalized}
use Rattle.runs.specs.Flat.{runs_in, upto}
use Rattle.runs.specs.FlatLaws.{runs_in-upto, place_le, place_up, front_normalized, front_place, ends_before, pairs_partitioned, pairs_place}
use Rattle.page_sets.proofs.RunSet.find.Goals as goal

walked : (w : List ℕ) (n : ℕ) → n * 2 ≤ length w → normalized (runs_in n w) ≡ true → normalized (upto w 0 n) ≡ true
walked w n h f = rw (← runs_in-upto w n h) f

pub returns-then-self-eq0 : goal.returns-then-self-eq0
returns-then-self-eq0 c =
    let s = c.args.self.now in
    omega (arith, place_le s.work.now s.count c.args.page, c.if-self-eq0.true)

pub returns-then-get-page : goal.returns-then-get-page
returns-then-get-page c =
    let p = c.args.page in
    let s = c.args.self.now in
    let w = s.work.now in
    let x = c.get in
    omega (arith, place_le w s.count p, place_up w s.count p (s.count - 1) x.result (omega arith) x.ensures (walked w s.count s.tidy.0 s.tidy.1) c.if-get-page.true)

pub returns : goal.returns
returns c =
    let p = c.args.page in
    let s = c.args.self.now in
    let n = s.count - 1 in
    let w = s.work.now in
    let x = c.get in
    let h : n * 2 ≤ length w = omega (arith, s.tidy.0) in
    let next : s.count ≡ suc n = omega (arith, c.if-self-eq0.false) in
    let f = front_normalized w s.count n next (walked w s.count s.tidy.0 s.tidy.1) in
    let d = c.partition_point in
    let half : length (take (n * 2) w) / 2 ≡ n = omega (arith, length-take (n * 2) w, h) in
    let front = rw half at c.as_chunks.ensures.front in
    let parted = pairs_partitioned w n p h f in
    let point = rw front at (IsPartitionPoint-from_clause (ends_before p) _ d.result d.ensures.partitioned (rw front parted) (λ a r q k. search (rules, of_calls))) in
    pairs_place w n p h f d.result (omega (arith, half, c.as_chunks.ensures.front_len, d.ensures.bound)) point
    ∙ front_place w s.count n next p x.result x.ensures (omega (arith, c.if-get-page.false))
