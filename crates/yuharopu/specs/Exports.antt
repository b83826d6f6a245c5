-- What the C functions answer, and what the lent slices hold at the end.
use Rattle.std.specs.Prelude.{◌≡◌, ℕ, ◌+◌, ◌-◌, ◌*◌, ◌/◌, ◌≤◌, Bool, true, false, List, [], ◌∷◌, ◌++◌, ltb, length, take, drop, Ok, Err}
use Rattle.std.proofs.Common.{sym, ap, ◌∙◌, arith, le-ltb, take_all, length-take}
use Rattle.config.specs.Refusals.{numbers_of as numbersOfRefusal}
use Rattle.memory.specs.Growth.{Growth}
use Rattle.memory.specs.Bytes.{zeros, overwrite}
use Rattle.memory.specs.Growth.{Outcome, grow_to}
use Rattle.meta_load.specs.Load.{Loaded}
use Rattle.meta.specs.declared.superblock.Superblock.{Superblock}
use Rattle.meta.specs.Block.{numbers_of, of_numbers, fresh, store_in}
use Rattle.meta_load.specs.Load.{load}
use Rattle.runs.specs.Flat.{runs_in}
use Rattle.runs.specs.FlatLaws.{runs_in-all}
use Rattle.meta.specs.Runs.{runs_of}
use Rattle.extents.specs.Outcome.{Planned, room}
use Rattle.extents.specs.Plan.{plan}
use Rattle.extents.specs.Outcome.{Outcome as Outcome', planned as laid}

-- the number of the answer, and a list
pub record Answer : Type 0 where
  pub number : ℕ
  pub list : List ℕ

abbrev pub answer : ℕ → List ℕ → Answer
answer n l = record { number = n; list = l }

abbrev pub pick : Bool → Answer → Answer → Answer
pick true a b = a
pick false a b = b

-- ## A superblock's fields

abbrev pub shown : Loaded → List ℕ → Answer
shown (Ok b) fields = answer 0 (overwrite 0 (numbers_of b) fields)
shown (Err r) fields = answer (numbersOfRefusal r).number (overwrite 0 ((numbersOfRefusal r).first ∷ zeros 20) fields)

unfoldable pub load_fields : List ℕ → List ℕ → Answer
load_fields block fields =
    pick (ltb (length block) 16544) (answer 35 fields)
    (pick (ltb (length fields) 21) (answer 35 fields)
    (shown (load block) fields))

unfoldable pub fresh_fields : List ℕ → Answer
fresh_fields fields =
    pick (ltb (length fields) 21) (answer 35 fields)
    (answer 0 (overwrite 0 (numbers_of fresh) fields))

-- 31 for too many runs; the list is memory
unfoldable pub store_block : Superblock → List ℕ → List ℕ → Answer
store_block b mem runs =
    let n : ℕ = b.zero_extent_count in
    pick (ltb 1024 n) (answer 31 mem)
    (pick (ltb (length runs) (n * 2)) (answer 35 mem)
    (answer 0 (store_in b (take (n * 2) runs) mem)))

unfoldable pub store_fields : List ℕ → List ℕ → List ℕ → Answer
store_fields mem fields runs =
    pick (ltb (length mem) 16544) (answer 35 mem)
    (pick (ltb (length fields) 21) (answer 35 mem)
    (store_block (of_numbers fields) mem runs))

-- ## Growth

pub record Grew : Type 0 where
  pub number : ℕ
  pub mem : List ℕ
  pub pages : List ℕ

abbrev pub grew : ℕ → List ℕ → List ℕ → Grew
grew n m p = record { number = n; mem = m; pages = p }

abbrev pub pick_grew : Bool → Grew → Grew → Grew
pick_grew true a b = a
pick_grew false a b = b

abbrev pub growth_shown : ℕ → List ℕ → Growth → List ℕ → Grew
growth_shown before mem (Ok after) pages = grew 0 mem (overwrite 0 (before ∷ after.0 ∷ []) pages)
growth_shown before mem (Err r) pages =
    grew (numbersOfRefusal r).number mem (overwrite 0 ((numbersOfRefusal r).first ∷ (numbersOfRefusal r).second ∷ []) pages)

unfoldable pub grow_pages : List ℕ → ℕ → ℕ → List ℕ → Grew
grow_pages mem count end pages =
    pick_grew (ltb (length pages) 2) (grew 35 mem pages)
    (growth_shown count (grow_to 65536 count end mem).mem (grow_to 65536 count end mem).growth pages)

-- ## The plan of a commit

pub record Plans : Type 0 where
  pub number : ℕ
  pub work : List ℕ
  pub list : List ℕ

abbrev pub plans : ℕ → List ℕ → List ℕ → Plans
plans n w l = record { number = n; work = w; list = l }

abbrev pub pick_plans : Bool → Plans → Plans → Plans
pick_plans true a b = a
pick_plans false a b = b

abbrev pub plan_shown : List ℕ → Planned → List ℕ → Plans
plan_shown work (Ok n) list = plans 0 work (overwrite 0 (n ∷ []) list)
plan_shown work (Err r) list = plans (numbersOfRefusal r).number work list

-- whole runs count; the rest of an odd list is no run
unfoldable pub planned : List ℕ → List ℕ → ℕ → ℕ → List ℕ → List ℕ → Outcome'
planned work extents old new recorded dirty =
    laid (length work) (plan 16384 1024 old new (runs_in (length extents / 2) extents) (runs_in (length recorded / 2) recorded) (take (length dirty) dirty))

unfoldable pub plan_runs : List ℕ → List ℕ → ℕ → ℕ → List ℕ → List ℕ → List ℕ → Plans
plan_runs work extents old new recorded dirty list =
    pick_plans (ltb (length list) 1) (plans 35 work list)
    (pick_plans (ltb 1024 (length extents / 2)) (plans 35 work list)
    (pick_plans (ltb (length work) (room (length dirty))) (plans 35 work list)
    (plan_shown (planned work extents old new recorded dirty).work (planned work extents old new recorded dirty).answer list)))

-- ## Laws

-- the first numbers of a list are written
pub in_front : (new xs : List ℕ) → length new ≤ length xs → new ++ drop (length new) xs ≡ overwrite 0 new xs
unfolding overwrite
in_front new xs h =
    let all : take (length xs - 0) new ≡ new = take_all (length xs - 0) new (omega (arith, h)) in
    let past : 0 + length new ≡ length new = omega arith in
    λ i. sym all i ++ drop (sym past i) xs

pub load_shown : (block fields : List ℕ) (x : Loaded) → 16544 ≤ length block → 21 ≤ length fields → x ≡ load block → shown x fields ≡ load_fields block fields
unfolding load_fields
load_shown block fields x a b e = sym (rw (le-ltb (length block) 16544 a, le-ltb (length fields) 21 b) (ap (λ (y : Loaded). shown y fields) (sym e)))

pub grow_shown : (mem : List ℕ) (count end : ℕ) (pages : List ℕ) (o : Outcome) → 2 ≤ length pages → o ≡ grow_to 65536 count end mem
    → growth_shown count o.mem o.growth pages ≡ grow_pages mem count end pages
unfolding grow_pages
grow_shown mem count end pages o a e = sym (rw (le-ltb (length pages) 2 a) (ap (λ (y : Outcome). growth_shown count y.mem y.growth pages) (sym e)))

runs_front : (k : ℕ) (w : List ℕ) → runs_in k (take (k * 2) w) ≡ runs_in k w
unfolding runs_in
runs_front k w = ap runs_of (take_all (k * 2) (take (k * 2) w) (omega (arith, length-take (k * 2) w)))

-- whole runs alone, and all of a list of dirty pages
pub planned_whole : (work extents : List ℕ) (old new : ℕ) (recorded dirty : List ℕ) → let whole : List ℕ = take (length extents / 2 * 2) extents in
    laid (length work) (plan 16384 1024 old new (runs_in (length whole / 2) whole) (runs_in (length recorded / 2) recorded) dirty) ≡ planned work extents old new recorded dirty
unfolding planned
planned_whole work extents old new recorded dirty =
    let k : ℕ = length extents / 2 in
    let half : length (take (k * 2) extents) / 2 ≡ k = omega (arith, length-take (k * 2) extents) in
    let runs : runs_in (length (take (k * 2) extents) / 2) (take (k * 2) extents) ≡ runs_in k extents = ap (λ (n : ℕ). runs_in n (take (k * 2) extents)) half ∙ runs_front k extents in
    let all : dirty ≡ take (length dirty) dirty = sym (take_all (length dirty) dirty (omega arith)) in
    λ i. laid (length work) (plan 16384 1024 old new (runs i) (runs_in (length recorded / 2) recorded) (all i))

-- the same of lists of runs
pub planned_runs : (work extents : List ℕ) (old new : ℕ) (recorded dirty : List ℕ)
    → laid (length work) (plan 16384 1024 old new (runs_of extents) (runs_of recorded) dirty) ≡ planned work extents old new recorded dirty
unfolding planned
planned_runs work extents old new recorded dirty =
    λ i. laid (length work) (plan 16384 1024 old new (sym (runs_in-all extents) i) (sym (runs_in-all recorded) i) (sym (take_all (length dirty) dirty (omega arith)) i))

pub plan_shown_lem : (work extents : List ℕ) (old new : ℕ) (recorded dirty list : List ℕ) (o : Outcome') → 1 ≤ length list → length extents / 2 ≤ 1024 → room (length dirty) ≤ length work
    → o ≡ planned work extents old new recorded dirty → plan_shown o.work o.answer list ≡ plan_runs work extents old new recorded dirty list
unfolding plan_runs
plan_shown_lem work extents old new recorded dirty list o a b c e =
    sym (rw (le-ltb (length list) 1 a, le-ltb 1024 (length extents / 2) b, le-ltb (length work) (room (length dirty)) c)
    (ap (λ (y : Outcome'). plan_shown y.work y.answer list) (sym e)))

pub store_shown : (mem fields runs : List ℕ) (b : Superblock) → 16544 ≤ length mem → 21 ≤ length fields → b ≡ of_numbers fields
    → store_fields mem fields runs ≡ store_block b mem runs
unfolding store_fields
store_shown mem fields runs b x y e = rw (le-ltb (length mem) 16544 x, le-ltb (length fields) 21 y) (ap (λ (z : Superblock). store_block z mem runs) (sym e))
