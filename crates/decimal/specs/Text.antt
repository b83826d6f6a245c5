-- Reading a text: what a reader gives, and the readers of words and of decimal numbers.
use Rattle.std.specs.Prelude.{Bool, false, cond, ◌&&◌, List, [], ◌∷◌, ◌++◌, ℕ, ◌+◌, ◌-◌, ◌*◌, drop, ltb, leb, eqb}

-- a value, and the text behind it; or the text does not begin so
pub data Got (A : Type 0) : Type 0 where
  got : A → List ℕ → Got A
  wrong : Got A

abbrev pub then : {A B : Type 0} → Got A → (A → List ℕ → Got B) → Got B
then (got a l) f = f a l
then wrong f = wrong

-- the text from a place on, with a line feed more behind its end: the last line may lack its own
unfoldable pub from : List ℕ → ℕ → List ℕ
from t at = drop at (t ++ (10 ∷ []))

unfoldable pub is_at : ℕ → List ℕ → Bool
is_at b [] = false
is_at b (c ∷ l) = eqb c b

-- a word, byte for byte
unfoldable pub skip : List ℕ → List ℕ → Got (Unit {0})
skip [] l = got tt l
skip (b ∷ w) l = cond (is_at b l) (skip w (drop 1 l)) wrong

unfoldable pub is_digit : ℕ → Bool
is_digit c = leb 48 c && leb c 57

-- the digits from here on, behind others whose value is v; a number from 2^64 on is wrong
unfoldable pub digits : ℕ → List ℕ → Got ℕ
digits v [] = got v []
digits v (c ∷ l) =
    cond (is_digit c)
    (cond (ltb (v * 10 + (c - 48)) 18446744073709551616) (digits (v * 10 + (c - 48)) l) wrong)
    (got v (c ∷ l))

-- a number: a 0 stands alone, so no other number begins with it
unfoldable pub number : List ℕ → Got ℕ
number [] = wrong
number (c ∷ l) = cond (is_digit c) (cond (eqb c 48) (got 0 l) (digits (c - 48) l)) wrong
