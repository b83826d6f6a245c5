-- Bytes of a slice: zeros, a part overwritten, a list brought to a length.
use Rattle.std.specs.Prelude.{ℕ, ◌+◌, ◌-◌, List, ◌++◌, length, take, drop, replicate}

-- n times x. Shut: antt would write the zeros of a page out as a list
unfoldable pub filled : {A : Type 0} → A → ℕ → List A
filled x n = replicate n x

abbrev pub zeros : ℕ → List ℕ
zeros n = filled 0 n

-- xs with new over its elements from the place `at` on, as far as xs reaches
unfoldable pub overwrite : {A : Type 0} → ℕ → List A → List A → List A
overwrite at new xs = take at xs ++ (take (length xs - at) new ++ drop (at + length new) xs)

-- xs cut, or filled up with zeros, to n elements
unfoldable pub resize : ℕ → List ℕ → List ℕ
resize n xs = take n (xs ++ zeros n)
