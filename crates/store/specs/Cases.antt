-- Conditionals and tests by their cases.
use Rattle.std.specs.Prelude.{◌≡◌, refl, Bool, true, false, not, cond, ◌||◌}
use Rattle.update.specs.ListLaws.{clash}

-- a conditional by its test (and not by rw: a test on a field of a record would rewrite the record)
pub by_test : {A : Type 0} (Q : A → Type 0) (b : Bool) (x y : A) → (b ≡ true → Q x) → (b ≡ false → Q y) → Q (cond b x y)
by_test Q true x y f g = f refl
by_test Q false x y f g = g refl

pub not_false : (a : Bool) → not a ≡ false → a ≡ true
not_false true h = refl
not_false false h = clash refl h

pub no_or : (a b : Bool) → (a || b) ≡ false → (a ≡ false) × (b ≡ false)
no_or true b h = clash refl h
no_or false b h = (refl, h)
