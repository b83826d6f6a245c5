-- Growth of the lent memory, in stable pages of S bytes.
use Rattle.std.specs.Prelude.{◌≡◌, ℕ, ◌+◌, ◌-◌, ◌*◌, ◌/◌, ◌≤◌, ◌<◌, Bool, true, false, List, length, leb, Result, Ok, Err}
use Rattle.std.proofs.Common.{sym, ◌∙◌, le_trans, le_of_lt, mul-le-mul_right}
use borrow.Author.Tests.{le-leb, lt-leb}
use Rattle.config.specs.Pages.{count, count_more, count_lt, count_ge}
use Rattle.config.specs.declared.StablePages.{StablePages}
use Rattle.config.specs.declared.refusal.Refusal.{Refusal}
use Rattle.config.specs.declared.refusal.Refusal.TheVariants.{GrowFailed}
use Rattle.memory.specs.Bytes.{zeros, overwrite}

-- the new count, or 32
abbrev pub Growth : Type 0
Growth = Result StablePages Refusal

-- the answer, and what the lent memory holds at the end
pub record Outcome : Type 0 where
  pub growth : Growth
  pub mem : List ℕ

abbrev pub outcome : Growth → List ℕ → Outcome
outcome g m = record { growth = g; mem = m }

abbrev pub pick : Bool → Outcome → Outcome → Outcome
pick true a b = a
pick false a b = b

abbrev pub stable : ℕ → StablePages
stable n = record { 0 = n }

-- 01: "Growth rounds the missing bytes up to stable pages and zero-fills them": the count with which `n` stable pages reach `end`
unfoldable pub required : ℕ → ℕ → ℕ → ℕ
required S n end = n + count S (end - n * S)

-- 01: "Its length in whole stable pages is the ceiling"; 32: "memory cannot grow, with current and required stable pages", nothing changes
unfoldable pub grow_to : ℕ → ℕ → ℕ → List ℕ → Outcome
grow_to S n end mem =
    pick (leb end (n * S)) (outcome (Ok (stable n)) mem)
    (pick (leb (required S n end) (length mem / S))
    (outcome (Ok (stable (required S n end))) (overwrite (n * S) (zeros ((required S n end - n) * S)) mem))
    (outcome (Err (GrowFailed (stable n) (stable (required S n end)))) mem))

-- ## Laws

module _ (S : ℕ) (pos : 0 < S) (n end : ℕ) (mem : List ℕ) where
  -- the stable pages of the whole are required
  pub required_is : n * S ≤ end → required S n end ≡ count S end
  unfolding required
  required_is h = count_more S pos n end h

  pub grow_none : count S end ≤ n → grow_to S n end mem ≡ outcome (Ok (stable n)) mem
  unfolding grow_to
  grow_none h = rw (le-leb end (n * S) (le_trans (count_ge S pos end) (mul-le-mul_right S h)))

  module _ (r : ℕ) (is : r ≡ count S end) (h : n < r) where
    behind : n * S < end
    behind = count_lt S pos n end (rw is at h)

    needs : required S n end ≡ r
    needs = required_is (le_of_lt behind) ∙ sym is

    pub grow_more : r ≤ length mem / S → grow_to S n end mem ≡ outcome (Ok (stable r)) (overwrite (n * S) (zeros ((r - n) * S)) mem)
    unfolding grow_to
    grow_more fits = rw (lt-leb end (n * S) behind, needs, le-leb r (length mem / S) fits)

    pub grow_refused : length mem / S < r → grow_to S n end mem ≡ outcome (Err (GrowFailed (stable n) (stable r))) mem
    unfolding grow_to
    grow_refused full = rw (lt-leb end (n * S) behind, needs, lt-leb r (length mem / S) full)
