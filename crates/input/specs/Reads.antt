-- Laws of reading part by part: what one read gave, and behind it what the next one gave.
use Rattle.std.specs.Prelude.{◌≡◌, Option, Some, None, List, [], ◌++◌, ℕ, ◌+◌, ◌≤◌, length, take, drop}
use Rattle.std.proofs.Common.{refl, sym, ap, ◌∙◌, append_assoc, take_at, drop_at}
use Rattle.std.proofs.lemmas.List.{take-append-le}
use Rattle.std.proofs.Math.Seq.{take-add}
use lib.Seq.{length-take-le}
use borrow.Rule.Slice.PartMut.{put_mid}
use Rattle.std.specs.Io.KnownBytes.{Consumes}

-- before anything is read
pub consumes_none : (a : Option (List ℕ)) → Consumes a a []
consumes_none None = tt
consumes_none (Some xs) = refl

pub consumes_more : (a b c : Option (List ℕ)) (xs ys : List ℕ) → Consumes a b xs → Consumes b c ys → Consumes a c (xs ++ ys)
consumes_more None b c xs ys h k = tt
consumes_more (Some l) None c xs ys h k = absurd h
consumes_more (Some l) (Some m) None xs ys h k = absurd k
consumes_more (Some l) (Some m) (Some n) xs ys h k = h ∙ ap (λ (z : List ℕ). xs ++ z) k ∙ sym (append_assoc xs ys n)

-- the buffer's front once m bytes were put behind the first n
pub front_grows : (n m k : ℕ) (xs ys : List ℕ) → n ≤ length xs → m ≤ length ys → take (n + m) (put_mid n k xs ys) ≡ take n xs ++ take m ys
front_grows n m k xs ys h j =
    let rest : List ℕ = ys ++ drop k (drop n xs) in
    let e : length (take n xs) ≡ n = length-take-le n xs h in
    take-add n m (take n xs ++ rest) ∙ rw (take_at (take n xs) rest n e, drop_at (take n xs) rest n e) (ap (λ (z : List ℕ). take n xs ++ z) (take-append-le m ys (drop k (drop n xs)) j))
