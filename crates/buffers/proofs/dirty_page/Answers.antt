-- `buffers::dirty_page` meets its contract: the page is found, and its frame is one of those lent.
use Rattle.std.proofs.Common.{◌≡◌, ℕ, zero, suc, ◌+◌, ◌*◌, ◌/◌, ◌<◌, ◌≤◌, Option, None, Some, List, [], length, take, drop, get_or, min, refl, ap, ◌∙◌, arith, rules, of_calls, drop-drop}
use Rattle.std.proofs.Math.Nat.{zero-mul, suc-mul}
use borrow.Author.Tests.{lt-ltb, le-ltb, le-leb, lt-leb}
use Rattle.std.proofs.lemmas.List.{take_min}
use Rattle.std.specs.Option.{MatchOption}
use Rattle.std.specs.Simd.{first_chunks}
use lib.Dec.{ltb}
use Rattle.memory.specs.Laws.{split}
use Rattle.update.specs.declared.Overlay.{Overlay}
use Rattle.update.specs.Pages.{place_of}
use Rattle.update.specs.Buffers.{dirty_page}
use Rattle.pool.specs.Pool.{place_found}
use Rattle.pool.specs.PoolLaws.{found_at, found_none}
use Rattle.buffers.proofs.dirty_page.Goals as goal

-- what is known of an answer, where it is a place and where it is none
by_place : {Q : ℕ → Type 0} {G : Type 0} {A : Type 0} (r p : Option ℕ) (out : Option A) → MatchOption r (out ≡ None) Q → r ≡ p → ((at : ℕ) → Some at ≡ p → Q at → G) → (None ≡ p → out ≡ None → G) → G
by_place None p out m e f g = g e m
by_place (Some at) p out m e f g = f at e m

-- chunk i of n elements
chunk_at : (n i k : ℕ) (l : List ℕ) → i < k → get_or (first_chunks n k l) i [] ≡ take n (drop (i * n) l)
chunk_at n zero (suc k) l h = rw (zero-mul n) refl
chunk_at n (suc i) (suc k) l h = chunk_at n i k (drop n l) (omega arith) ∙ ap (take n) (drop-drop (i * n) n l ∙ ap (λ (x : ℕ). drop x l) {x = n + i * n} {y = suc i * n} (omega (arith, suc-mul i n)))
chunk_at n i zero l h = absurd (omega arith)

module _ (P C : ℕ) (v : Overlay) (f n : List ℕ) (q : ℕ) where
  abbrev ns : List ℕ
  ns = take v.dirty n

  -- it is not dirty
  absent : length ns ≤ place_of ns q → ◌≡◌ {A = List ℕ} [] (dirty_page P C v f n q)
  unfolding dirty_page
  absent h = rw (le-ltb (place_of ns q) (length ns) h)

  -- its frame is not lent
  past : length f < suc (place_of ns q) * P → ◌≡◌ {A = List ℕ} [] (dirty_page P C v f n q)
  unfolding dirty_page
  past h = split (ltb (place_of ns q) (length ns)) (λ u. rw (u, lt-leb (suc (place_of ns q) * P) (length f) h)) (λ u. rw u)

  shown : place_of ns q < length ns → suc (place_of ns q) * P ≤ length f → take P (drop (place_of ns q * P) f) ≡ dirty_page P C v f n q
  unfolding dirty_page
  shown h k = rw (lt-ltb (place_of ns q) (length ns) h, le-leb (suc (place_of ns q) * P) (length f) k)

-- its place, among as many of the numbers as are in use
found : (m : ℕ) (v : Overlay) (n : List ℕ) (q at : ℕ) → m ≡ min v.dirty (length n) → Some at ≡ place_found (take m n) q → (at ≡ place_of (take v.dirty n) q) × (at < length (take v.dirty n))
found m v n q at h e = found_at (take v.dirty n) q at (rw (h, take_min v.dirty n) at e)

pub returns-in-Some : goal.returns-in-Some
returns-in-Some c =
    let a = c.args in
    let pages = c.as_chunks.result.0.now in
    by_place c.find.result _ c.and_then.result c.and_then.ensures c.find.ensures
    (λ at e q.
    let k : (at < length pages) × (c.in-Some.shown.now ≡ get_or pages at []) = search (rules, of_calls) in
    let f = found c.min.result a.o a.numbers.now a.page at c.min.ensures e in
    let l : at < length a.frames.now / 16384 = omega (arith, k.0, c.as_chunks.ensures.front_len) in
    k.1 ∙ ap (λ (x : List (List ℕ)). get_or x at []) c.as_chunks.ensures.front ∙ chunk_at 16384 at (length a.frames.now / 16384) a.frames.now l
    ∙ rw f.0 (shown 16384 8 a.o a.frames.now a.numbers.now a.page (omega (arith, f)) (omega (arith, f, l))))
    (λ e h. cc)

pub returns-in-None : goal.returns-in-None
returns-in-None c =
    let a = c.args in
    let pages = c.as_chunks.result.0.now in
    by_place c.find.result _ c.and_then.result c.and_then.ensures c.find.ensures
    (λ at e q.
    let k : length pages ≤ at = search (rules, of_calls) in
    past 16384 8 a.o a.frames.now a.numbers.now a.page (omega (arith, k, c.as_chunks.ensures.front_len, found c.min.result a.o a.numbers.now a.page at c.min.ensures e)))
    (λ e h. absent 16384 8 a.o a.frames.now a.numbers.now a.page (found_none (take a.o.dirty a.numbers.now) a.page (rw (c.min.ensures, take_min a.o.dirty a.numbers.now) at e)))
