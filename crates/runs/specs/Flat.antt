-- Runs in a list of numbers, two numbers a run: start, then end.
use Rattle.std.specs.Prelude.{ℕ, zero, suc, ◌+◌, ◌-◌, ◌*◌, Bool, true, false, List, [], ◌∷◌, ◌++◌, length, get_or, set, take, drop, replicate, ltb}
use Rattle.meta.specs.declared.ZeroExtent.{ZeroExtent}
use Rattle.meta.specs.Runs.{run, runs_of, numbers_of}

-- the first n runs of a list of numbers, or as many as it has
unfoldable pub runs_in : ℕ → List ℕ → List ZeroExtent
runs_in n w = runs_of (take (n * 2) w)

-- a list of numbers, and how many of its runs count
pub record Out : Type 0 where
  pub work : List ℕ
  pub count : ℕ

abbrev pub out : List ℕ → ℕ → Out
out w n = record { work = w; count = n }

-- the list w with the runs l in front, and how many they are; the numbers past them are as they were
unfoldable pub held : List ℕ → List ZeroExtent → Out
held w l = out (numbers_of l ++ drop (length l * 2) w) (length l)

-- n numbers: those of l, and zeros
unfoldable pub padded : ℕ → List ℕ → List ℕ
padded n l = l ++ replicate (n - length l) 0

-- a list of n numbers that holds the runs l in front, then zeros; and how many they are
unfoldable pub laid : ℕ → List ZeroExtent → Out
laid n l = out (padded n (numbers_of l)) (length l)

-- ## As the code walks it

-- run i
unfoldable pub at : List ℕ → ℕ → ZeroExtent
at w i = run (get_or w (i * 2) 0) (get_or w (i * 2 + 1) 0)

-- the list with run i made x
unfoldable pub put : List ℕ → ℕ → ZeroExtent → List ℕ
put w i x = set (set w (i * 2) x.start) (i * 2 + 1) x.end

-- n runs from run i on
unfoldable pub seg : List ℕ → ℕ → ℕ → List ZeroExtent
seg w i zero = []
seg w i (suc n) = at w i ∷ seg w (i + 1) n

-- the runs from i up to n
unfoldable pub upto : List ℕ → ℕ → ℕ → List ZeroExtent
upto w i n = seg w i (n - i)

-- the runs l stored from run i on
unfoldable pub write : List ℕ → ℕ → List ZeroExtent → Out
write w i [] = out w i
write w i (x ∷ l) = write (put w i x) (i + 1) l

-- how many of the first runs end before page p
abbrev pub pick_number : Bool → ℕ → ℕ → ℕ
pick_number true a b = a
pick_number false a b = b

unfoldable pub place : ℕ → List ZeroExtent → ℕ
place p [] = 0
place p (x ∷ l) = let more = suc (place p l) in pick_number (ltb x.end p) more 0
