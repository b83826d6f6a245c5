-- Pages of P bytes, each with its number, and the lent slices that hold them one behind the other.
use Rattle.std.specs.Prelude.{ℕ, zero, suc, ◌+◌, ◌-◌, ◌/◌, ◌%◌, Bool, false, not, cond, ◌&&◌, ◌||◌, List, [], ◌∷◌, ◌++◌, ltb, eqb, drop, get_or}
use Rattle.config.specs.Pages.{count}
use Rattle.memory.specs.Bytes.{resize}

pub record Page : Type 0 where
  pub number : ℕ
  pub bytes : List ℕ

abbrev pub page_numbers : List Page → List ℕ
page_numbers [] = []
page_numbers (g ∷ d) = g.number ∷ page_numbers d

-- the pages' bytes, one page behind the other
abbrev pub flat : List Page → List ℕ
flat [] = []
flat (g ∷ d) = g.bytes ++ flat d

-- page q is one of the pages
abbrev pub holds : List Page → ℕ → Bool
holds [] q = false
holds (g ∷ d) q = eqb g.number q || holds d q

-- the place of page q among page numbers; how many they are where it is not one of them
abbrev pub place_of : List ℕ → ℕ → ℕ
place_of [] q = 0
place_of (n ∷ ns) q = let later = suc (place_of ns q) in cond (eqb n q) 0 later

-- page p gets these bytes where it stands, or comes last
abbrev pub put_page : ℕ → List ℕ → List Page → List Page
put_page p bs [] = record { number = p; bytes = bs } ∷ []
put_page p bs (g ∷ d) = cond (eqb g.number p) (record { number = p; bytes = bs } ∷ d) (g ∷ put_page p bs d)

-- the pages below c
abbrev pub keep_below : ℕ → List Page → List Page
keep_below c [] = []
keep_below c (g ∷ d) = cond (ltb g.number c) (g ∷ keep_below c d) (keep_below c d)

-- the pages but p
abbrev pub drop_page : ℕ → List Page → List Page
drop_page p [] = []
drop_page p (g ∷ d) = cond (eqb g.number p) (drop_page p d) (g ∷ drop_page p d)

-- the same of a list of page numbers
abbrev pub add_number : ℕ → List ℕ → List ℕ
add_number p [] = p ∷ []
add_number p (n ∷ ns) = cond (eqb n p) (p ∷ ns) (n ∷ add_number p ns)

-- pages p, p + 1, .. of n
abbrev pub add_numbers : ℕ → ℕ → List ℕ → List ℕ
add_numbers p zero ns = ns
add_numbers p (suc n) ns = add_numbers (suc p) n (add_number p ns)

unfoldable pub add_number_if : Bool → ℕ → List ℕ → List ℕ
add_number_if t p ns = cond t (add_number p ns) ns

module _ (P : ℕ) where
  -- the byte at offset o, from its page if that is one of the pages, or else the byte given
  abbrev pub page_byte : List Page → ℕ → ℕ → ℕ
  page_byte [] o other = other
  page_byte (g ∷ d) o other = cond (eqb g.number (o / P)) (get_or g.bytes (o % P) 0) (page_byte d o other)

  -- the pages with these numbers in a pool of frames, P bytes each
  abbrev pub pages_in : List ℕ → List ℕ → List Page
  pages_in [] pool = []
  pages_in (n ∷ ns) pool = record { number = n; bytes = resize P pool } ∷ pages_in ns (drop P pool)

  -- a file of n bytes ends within its last page
  abbrev pub partial : ℕ → Bool
  partial n = not (eqb (n % P) 0)

  -- how many pages n bytes from o on have a byte in
  unfoldable pub span : ℕ → ℕ → ℕ
  span o n = cond (eqb n 0) 0 (count P (o + n) - o / P)

  -- 01: growth "makes dirty a partial old last page, then a partial new last page unless the old size, as an offset, lies in it":
  -- the numbers of the dirty pages after growth from z to n bytes
  unfoldable pub grown_numbers : ℕ → ℕ → List ℕ → List ℕ
  grown_numbers z n ns = cond (ltb z n) (add_number_if (partial n && not (eqb (z / P) (n / P))) (n / P) (add_number_if (partial z) (z / P) ns)) ns
