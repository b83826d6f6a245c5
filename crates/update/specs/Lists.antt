-- Lists of bytes and of numbers: what the definitions of an update are made of.
use Rattle.std.specs.Prelude.{ℕ, zero, suc, ◌+◌, ◌-◌, max, Bool, true, false, ◌&&◌, List, [], ◌∷◌, ◌++◌, ltb, leb, length, drop}
use Rattle.memory.specs.Bytes.{zeros, resize}

-- bs put into l at o. A gap before it is zeros, and l grows to its end
unfoldable pub put : List ℕ → ℕ → List ℕ → List ℕ
put l o bs = resize o l ++ bs ++ drop (o + length bs) l

-- a lent slice whose first k places were in use: now xs stand there, what is left over of the k places becomes zeros, and the places past
-- them stay
unfoldable pub refill : ℕ → List ℕ → List ℕ → List ℕ
refill k xs old = xs ++ (zeros (k - length xs) ++ drop (max k (length xs)) old)

abbrev pub tabulate_from : ℕ → ℕ → (ℕ → ℕ) → List ℕ
tabulate_from k zero f = []
tabulate_from k (suc n) f = f k ∷ tabulate_from (suc k) n f

-- f 0, f 1, .. f (n - 1)
unfoldable pub tabulate : ℕ → (ℕ → ℕ) → List ℕ
tabulate n f = tabulate_from 0 n f

-- x lies from a up to, not including, e
abbrev pub inside : ℕ → ℕ → ℕ → Bool
inside a e x = leb a x && ltb x e

abbrev pub null : {A : Type 0} → List A → Bool
null [] = true
null (x ∷ xs) = false
