-- Pages in a pool, as the code walks it, and runs pushed on the record.
use Rattle.std.specs.Prelude.{Option, Some, None, Result, Ok, Err, ℕ, zero, suc, ◌*◌, ◌/◌, Bool, true, false, not, cond, ◌||◌, List, [], ◌∷◌, ltb, leb, eqb, length, take, drop, filter, get_or, set, ◌≡◌, ◌≤◌}
use Rattle.memory.specs.Bytes.{overwrite}
use Rattle.update.specs.Frames.{Pool, pool}
use Rattle.config.specs.declared.refusal.Refusal.{Refusal}
use Rattle.config.specs.declared.refusal.Refusal.TheVariants.{RecordFull}
use Rattle.update.specs.Pages.{Page, place_of}

-- page q is one of the numbers
abbrev pub among : List ℕ → ℕ → Bool
among [] q = false
among (n ∷ ns) q = eqb n q || among ns q

-- the place of page q among the numbers, if it is one of them
abbrev pub place_found : List ℕ → ℕ → Option ℕ
place_found ns q = cond (ltb (place_of ns q) (length ns)) (Some (place_of ns q)) None

-- page size, pages: the lent slices hold that many page numbers and frames
abbrev pub PoolFits : ℕ → ℕ → List ℕ → List ℕ → Type 0
PoolFits P n ns fs = (n ≤ length ns) × (n * P ≤ length fs)

-- the pages below p, or all but p
abbrev pub stays : Bool → ℕ → ℕ → Bool
stays true p q = ltb q p
stays false p q = not (eqb q p)

-- what a test may answer, for each number, is what `keep` says
abbrev pub Answers : (ℕ → Bool → Type 0) → (ℕ → Bool) → Type 0
Answers test keep = (n : ℕ) (r : Bool) → test n r → r ≡ keep n

-- the pages whose numbers `keep` says
abbrev pub retained_by : (ℕ → Bool) → List Page → List Page
retained_by keep d = filter (λ (g : Page). keep g.number) d

-- ## As the code walks it

-- the page at place i goes to place `to`, if it stays
unfoldable pub retained_one : ℕ → (ℕ → Bool) → List ℕ → List ℕ → ℕ → ℕ → Pool
retained_one P keep ns fs i to =
    cond (keep (get_or ns i 0)) (pool (set ns to (get_or ns i 0)) (overwrite (to * P) (take P (drop (i * P) fs)) fs) (suc to)) (pool ns fs to)

-- n pages from place i on
abbrev pub retained_front : ℕ → (ℕ → Bool) → ℕ → List ℕ → List ℕ → ℕ → ℕ → Pool
retained_front P keep zero ns fs i to = pool ns fs to
retained_front P keep (suc n) ns fs i to =
    let x : Pool = retained_one P keep ns fs i to in
    retained_front P keep n x.numbers x.frames (suc i) x.count

-- the same of the pages below p, or of all but p
unfoldable pub kept_one : ℕ → Bool → ℕ → List ℕ → List ℕ → ℕ → ℕ → Pool
kept_one P below p ns fs i to = retained_one P (stays below p) ns fs i to

abbrev pub walked : ℕ → Bool → ℕ → ℕ → List ℕ → List ℕ → ℕ → ℕ → Pool
walked P below p n ns fs i to = retained_front P (stays below p) n ns fs i to

-- ## The record

-- the entries in use after a push, or 34
abbrev pub Pushed : Type 0
Pushed = Result ℕ Refusal

pub record Pushes : Type 0 where
  pub entries : Pushed
  pub recs : List ℕ

abbrev pub pushes : Pushed → List ℕ → Pushes
pushes r w = record { entries = r; recs = w }

-- a run with a page in it is put behind n runs, if the list has a free entry
unfoldable pub pushed : List ℕ → ℕ → ℕ → ℕ → Pushes
pushed w n a e =
    cond (ltb a e)
    (cond (leb (length w / 2) n) (pushes (Err RecordFull) w) (pushes (Ok (suc n)) (overwrite (n * 2) (a ∷ e ∷ []) w)))
    (pushes (Ok n) w)
