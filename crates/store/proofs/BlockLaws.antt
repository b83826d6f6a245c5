-- Laws: the marks of flags made of them
use Rattle.std.specs.Prelude.{◌≡◌, refl, ℕ, ◌/◌, ◌%◌, ◌≤◌, Bool}
use Rattle.std.proofs.Math.Path.{ap}
use Rattle.std.proofs.Common.{◌∙◌}
use native.Mathlib.Omega.{arith}
use Rattle.std.proofs.Math.Bool.{true, false}
use Rattle.std.proofs.Math.Dec.{eqb}
use borrow.Author.Tests.{eq-eqb, ne_eqb}
use Rattle.meta.specs.declared.superblock.Superblock.{Superblock}
use Rattle.meta.specs.Block.{sealed_by}
use Rattle.store.specs.Blocks.{after_commit, after_import_begin, after_import_cancel, after_import_chunk, after_import_finish, after_refresh, after_refresh_step, bit, importing, marks, refreshing, stale}
use Rattle.store.specs.Blocks.{Keeps, KeepsImport, Commits, ImportBegins, ChunkKeeps, Cancels, Finishes}

module _ (b : Superblock) (s r : Bool) (f : ℕ) where
  parity : (i : Bool) → marks i s r f % 2 ≡ bit i
  unfolding marks
  parity true = omega arith
  parity false = omega arith

  pub marks_importing : (i : Bool) → b.flags ≡ marks i s r f → importing b ≡ i
  unfolding importing
  marks_importing true e = eq-eqb (b.flags % 2) 1 (omega (arith, parity true))
  marks_importing false e = ne_eqb (b.flags % 2) 1 (omega (arith, parity false))

is_bit : (n : ℕ) (t : Bool) → n ≡ bit t → eqb n 1 ≡ t
is_bit n true e = eq-eqb n 1 e
is_bit n false e = ne_eqb n 1 (omega (arith, e))

bit_small : (t : Bool) → bit t ≤ 1
bit_small true = omega arith
bit_small false = omega arith

module _ (b : Superblock) (i s r : Bool) (f : ℕ) (e : b.flags ≡ marks i s r f) where
  pub marks_stale : stale b ≡ s
  unfolding marks stale
  marks_stale = ap (λ (x : ℕ). eqb (x / 2 % 2) 1) e ∙ is_bit (marks i s r f / 2 % 2) s (omega (arith, bit_small i, bit_small s, bit_small r))

  pub marks_refreshing : refreshing b ≡ r
  unfolding marks refreshing
  marks_refreshing = ap (λ (x : ℕ). eqb (x / 4 % 2) 1) e ∙ is_bit (marks i s r f / 4 % 2) r (omega (arith, bit_small i, bit_small s, bit_small r))

  -- the bits that no call knows
  pub marks_unknown : b.flags / 8 ≡ f / 8
  unfolding marks
  marks_unknown = omega (arith, e, bit_small i, bit_small s, bit_small r)

-- marks take the place of others
pub marks_over : (i s r i' s' r' : Bool) (f : ℕ) → marks i s r (marks i' s' r' f) ≡ marks i s r f
unfolding marks
marks_over i s r i' s' r' f = omega (arith, bit_small i', bit_small s', bit_small r')

-- ## Laws: the fields after each call

-- a mark is read from the flags alone
pub same_importing : (a b : Superblock) → a.flags ≡ b.flags → importing a ≡ importing b
unfolding importing
same_importing a b e = ap (λ (f : ℕ). eqb (f % 2) 1) e

pub after_commit_lem : (P M : ℕ) (u : Bool) (n runs : ℕ) (b : Superblock) → Commits n runs b (after_commit P M u n runs b)
unfolding after_commit
after_commit_lem P M true n runs b = record { size = refl; base = refl; count = refl; imports = record { mark = marks_importing _ true false b.flags (importing b) refl; base = refl; written = refl; total = refl } }
after_commit_lem P M false n runs b = record { size = refl; base = refl; count = refl; imports = record { mark = same_importing _ b refl; base = refl; written = refl; total = refl } }

pub after_begin : (total expected base : ℕ) (b : Superblock) → ImportBegins total base (after_import_begin total expected base b)
unfolding after_import_begin
after_begin total expected base b = record { mark = marks_importing _ (stale b) false b.flags true refl; base_is = refl; written = refl; total_is = refl }

pub begin_keeps : (total expected base : ℕ) (b : Superblock) → Keeps b (after_import_begin total expected base b)
unfolding after_import_begin
begin_keeps total expected base b = record { size = refl; base = refl; runs = refl }

pub after_chunk : (written : ℕ) (b : Superblock) → ChunkKeeps written b (after_import_chunk written b)
unfolding after_import_chunk
after_chunk written b = record { keeps = record { size = refl; base = refl; runs = refl }; mark = same_importing _ b refl; base = refl; written_is = refl; total = refl }

pub cancel_keeps : (b : Superblock) → Keeps b (after_import_cancel b)
unfolding after_import_cancel
cancel_keeps b = record { size = refl; base = refl; runs = refl }

pub after_cancel : (b : Superblock) → importing (after_import_cancel b) ≡ false
unfolding after_import_cancel
after_cancel b = marks_importing _ (stale b) (refreshing b) b.flags false refl

pub cancels : (b : Superblock) → Cancels b (after_import_cancel b)
unfolding after_import_cancel
cancels b =
    let b' : Superblock = after_import_cancel b in
    record {
      mark = after_cancel b;
      expected = refl;
      written = refl;
      total = refl;
      base = refl;
      stale_mark = marks_stale b' false (stale b) (refreshing b) b.flags refl;
      refresh_mark = marks_refreshing b' false (stale b) (refreshing b) b.flags refl;
      unknown_bits = marks_unknown b' false (stale b) (refreshing b) b.flags refl;
      rest = refl;
    }

pub after_finish : (P sum : ℕ) (b : Superblock) → Finishes b (after_import_finish P sum b)
unfolding after_import_finish
after_finish P sum b = record { size = refl; base = refl; count = refl; mark = marks_importing _ false false b.flags false refl }

pub refresh_keeps : (sum : ℕ) (b : Superblock) → Keeps b (after_refresh sum b)
unfolding after_refresh
refresh_keeps sum b = record { size = refl; base = refl; runs = refl }

pub refresh_imports : (sum : ℕ) (b : Superblock) → KeepsImport b (after_refresh sum b)
unfolding after_refresh
refresh_imports sum b = record { mark = marks_importing _ false false b.flags (importing b) refl; base = refl; written = refl; total = refl }

pub step_keeps : (offset hash : ℕ) (b : Superblock) → Keeps b (after_refresh_step offset hash b)
unfolding after_refresh_step
step_keeps offset hash b = record { size = refl; base = refl; runs = refl }

pub step_imports : (offset hash : ℕ) (b : Superblock) → KeepsImport b (after_refresh_step offset hash b)
unfolding after_refresh_step
step_imports offset hash b = record { mark = marks_importing _ (stale b) true b.flags (importing b) refl; base = refl; written = refl; total = refl }

-- the store's seal changes none of these
pub seal_importing : (c : ℕ) (b : Superblock) → importing (sealed_by c b) ≡ importing b
seal_importing c b = same_importing (sealed_by c b) b refl
