-- A chunk in its place, and a step of a refresh: each way out, and a refresh that starts anew.
use Rattle.std.specs.Prelude.{◌≡◌, refl, ℕ, ◌+◌, ◌-◌, ◌*◌, ◌/◌, ◌≤◌, max, min, Bool, ◌&&◌, List, [], leb, length, take, drop, Ok, Err}
use Rattle.std.proofs.Math.Path.{sym, ap}
use Rattle.std.proofs.Common.{◌∙◌, arith, true≢false, length-drop, drop_of_length-le, take_all, eq-eqb, ne_eqb}
use Rattle.std.proofs.Math.Bool.{true, false, cond}
use Rattle.std.proofs.Math.Dec.{eqb}
use Rattle.config.specs.declared.StablePages.{StablePages}
use Rattle.config.specs.declared.refusal.Refusal.{Refusal}
use Rattle.config.specs.declared.refusal.Refusal.TheVariants.{GrowFailed}
use Rattle.memory.specs.Bytes.{zeros, overwrite}
use Rattle.memory.specs.Growth.{grow_to, required, stable, pick, outcome, Outcome}
use Rattle.memory.specs.Growth.{Growth}
use Rattle.meta.specs.declared.superblock.Superblock.{Superblock}
use Rattle.fnv.specs.Fnv.{basis, fold}
use Rattle.image.specs.Reading.{image_of}
use Rattle.update.specs.Lists.{tabulate_from}
use Rattle.update.specs.Image.{image_in}
use Rattle.store.specs.declared.State.{State}
use Rattle.store.specs.Answers.{Done, Refreshed, Refused}
use Rattle.store.specs.Blocks.{importing, stale, refreshing, marks, set_flags, set_refresh, set_numbers, after_import_chunk, after_refresh, after_refresh_step}
use Rattle.store.proofs.BlockLaws.{marks_importing, marks_stale, marks_refreshing, marks_over}
use Rattle.store.specs.Store.{onward}
use Rattle.transfer.specs.Steps.{StepOut, step_out, step, restore_to, place_to, chunk_reach, chunk_to, reached, refresh_to, refresh_step_to}

-- ## Bytes as far as memory reaches

pub bytes_none : (at n : ℕ) (m : List ℕ) → length m ≤ at → take 0 m ≡ take n (drop at m)
bytes_none at n m h = sym (ap (take n) (drop_of_length-le m {i = at} h) ∙ take_all n [] (omega arith))

pub bytes_end : (at k n : ℕ) (m : List ℕ) → k ≡ length m - at → length m - at ≤ n → take k (drop at m) ≡ take n (drop at m)
bytes_end at k n m e h = take_all k (drop at m) (omega (arith, length-drop at m)) ∙ sym (take_all n (drop at m) (omega (arith, length-drop at m)))

-- ## A chunk

abbrev is_grown : Growth → Bool
is_grown (Ok c) = true
is_grown (Err r) = false

kept_by : (t u : Bool) (a b : StablePages) (r q : Refusal) (m x : List ℕ)
    → (pick t (outcome (Ok a) m) (pick u (outcome (Ok b) x) (outcome (Err q) m))).growth ≡ Err r
    → (pick t (outcome (Ok a) m) (pick u (outcome (Ok b) x) (outcome (Err q) m))).mem ≡ m
kept_by true u a b r q m x h = refl
kept_by false true a b r q m x h = absurd (true≢false (ap is_grown h))
kept_by false false a b r q m x h = refl

not_grown : (S n end : ℕ) (m : List ℕ) (r : Refusal) → (grow_to S n end m).growth ≡ Err r → (grow_to S n end m).mem ≡ m
unfolding grow_to
not_grown S n end m r h =
    kept_by (leb end (n * S)) (leb (required S n end) (length m / S)) (stable n) (stable (required S n end)) r (GrowFailed (stable n) (stable (required S n end))) m
    (overwrite (n * S) (zeros ((required S n end - n) * S)) m) h

module _ (s : State) (m : List ℕ) (o : ℕ) (bs : List ℕ) (reach : ℕ) (is : reach ≡ chunk_reach s.block.import_base_offset (o + length bs) (length bs)) where
  pub chunk_is : (g : Outcome) → g ≡ grow_to 65536 s.count.0 reach m → place_to s m o bs g.mem g.growth ≡ chunk_to s m o bs
  unfolding chunk_to
  chunk_is g e = ap (λ (x : Outcome). place_to s m o bs x.mem x.growth) (e ∙ ap (λ (x : ℕ). grow_to 65536 s.count.0 x m) is)

  pub chunk_refused : (g : Growth) (r : Refusal) (m' : List ℕ) → outcome g m' ≡ grow_to 65536 s.count.0 reach m → g ≡ Err r → step_out (step s (Refused r)) m' ≡ chunk_to s m o bs
  chunk_refused g r m' e h =
      let back : m' ≡ m = ap (λ (x : Outcome). x.mem) e ∙ not_grown 65536 s.count.0 reach m r (ap (λ (x : Outcome). x.growth) (sym e) ∙ h) in
      ap (step_out (step s (Refused r))) back ∙ chunk_is (outcome (Err r) m') (ap (λ (x : Growth). outcome x m') (sym h) ∙ e)

  pub chunk_grown : (g : Growth) (c : StablePages) (m' : List ℕ) → outcome g m' ≡ grow_to 65536 s.count.0 reach m → g ≡ Ok c
      → (x : StepOut) (t : State) (n : List ℕ) (k : Superblock) → x ≡ restore_to t n k Done → t ≡ onward s c.0 s.block → n ≡ overwrite (s.block.import_base_offset + o) bs m'
      → k ≡ after_import_chunk (o + length bs) s.block → x ≡ chunk_to s m o bs
  chunk_grown g c m' e h x t n k i t-is n-is k-is =
      i ∙ (λ j. restore_to (t-is j) (n-is j) (k-is j) Done) ∙ chunk_is (outcome (Ok c) m') (ap (λ (y : Growth). outcome y m') (sym h) ∙ e)

-- ## A step of a refresh

module _ (s : State) (m : List ℕ) (k : Superblock) (n from x end sum : ℕ) (e : end ≡ max from (min k.db_size (from + n)))
    (f : sum ≡ fold x (tabulate_from from (end - from) (image_in 16384 (image_of k) m))) where
  reached_is : reached s m k end sum ≡ refresh_to s m k n from x
  unfolding refresh_to
  reached_is = ap (reached s m k end) f ∙ ap (λ (y : ℕ). reached s m k y (fold x (tabulate_from from (y - from) (image_in 16384 (image_of k) m)))) e

  pub refresh_full : end ≡ k.db_size
      → restore_to s m (after_refresh sum k) (Refreshed (record { complete = eqb end k.db_size; checksum = sum; scanned_bytes = end; db_size = k.db_size })) ≡ refresh_to s m k n from x
  refresh_full h = sym (ap (λ (t : Bool). cond t
      (restore_to s m (after_refresh sum k) (Refreshed (record { complete = eqb end k.db_size; checksum = sum; scanned_bytes = end; db_size = k.db_size })))
      (restore_to s m (after_refresh_step end sum k) (Refreshed (record { complete = eqb end k.db_size; checksum = sum; scanned_bytes = end; db_size = k.db_size })))) (eq-eqb _ _ h)) ∙ reached_is

  pub refresh_part : (end ≡ k.db_size → ⊥)
      → restore_to s m (after_refresh_step end sum k) (Refreshed (record { complete = eqb end k.db_size; checksum = sum; scanned_bytes = end; db_size = k.db_size })) ≡ refresh_to s m k n from x
  refresh_part h = sym (ap (λ (t : Bool). cond t
      (restore_to s m (after_refresh sum k) (Refreshed (record { complete = eqb end k.db_size; checksum = sum; scanned_bytes = end; db_size = k.db_size })))
      (restore_to s m (after_refresh_step end sum k) (Refreshed (record { complete = eqb end k.db_size; checksum = sum; scanned_bytes = end; db_size = k.db_size })))) (ne_eqb _ _ h)) ∙ reached_is

-- ## A refresh given up

-- progress of an older transaction is still present: 1
unfoldable pub pending : Superblock → ℕ
pending k = cond (refreshing k) (cond (eqb k.checksum_refresh_tx_id k.last_tx_id) 0 1) 0

abbrev pub given_up : Superblock → Superblock
given_up k = set_flags (marks (importing k) (stale k) false k.flags) (set_refresh 0 0 0 k)

module _ (k : Superblock) where
  not_refreshing : refreshing (given_up k) ≡ false
  not_refreshing = marks_refreshing (given_up k) (importing k) (stale k) false k.flags refl

  same_importing : importing (given_up k) ≡ importing k
  same_importing = marks_importing (given_up k) (stale k) false k.flags (importing k) refl

  same_stale : stale (given_up k) ≡ stale k
  same_stale = marks_stale (given_up k) (importing k) (stale k) false k.flags refl

  same_refresh : (sum : ℕ) → after_refresh sum (given_up k) ≡ after_refresh sum k
  unfolding after_refresh
  same_refresh sum =
      ap (λ (f : ℕ). set_numbers k.schema_version k.last_tx_id sum (set_flags f (set_refresh 0 0 0 k)))
      (ap (λ (t : Bool). marks t false false (marks (importing k) (stale k) false k.flags)) same_importing ∙ marks_over (importing k) false false (importing k) (stale k) false k.flags)

  same_step : (end sum : ℕ) → after_refresh_step end sum (given_up k) ≡ after_refresh_step end sum k
  unfolding after_refresh_step
  same_step end sum =
      ap (λ (f : ℕ). set_flags f (set_refresh end sum k.last_tx_id k))
      ((λ j. marks (same_importing j) (same_stale j) true (marks (importing k) (stale k) false k.flags)) ∙ marks_over (importing k) (stale k) true (importing k) (stale k) false k.flags)

  pub pending_none : pending (given_up k) ≡ 0
  unfolding pending
  pending_none = ap (λ (t : Bool). cond t (cond (eqb 0 k.last_tx_id) 0 1) 0) not_refreshing

  module _ (s : State) (m : List ℕ) (n : ℕ) where
    abbrev choice : Bool → StepOut
    choice t = cond t (refresh_to s m k n k.checksum_refresh_offset k.checksum_refresh_hash) (refresh_to s m k n 0 basis)

    pub step_fresh : refreshing k ≡ false → refresh_to s m k n 0 basis ≡ refresh_step_to s m k n
    unfolding refresh_step_to
    step_fresh h = sym (ap (λ (t : Bool). choice (t && eqb k.checksum_refresh_tx_id k.last_tx_id)) h)

    module _ (h : refreshing k ≡ true) where
      pub step_onward : k.checksum_refresh_tx_id ≡ k.last_tx_id → refresh_to s m k n k.checksum_refresh_offset k.checksum_refresh_hash ≡ refresh_step_to s m k n
      unfolding refresh_step_to
      step_onward e = sym (ap (λ (t : Bool). choice (t && eqb k.checksum_refresh_tx_id k.last_tx_id)) h ∙ ap choice (eq-eqb _ _ e))

      module _ (e : k.checksum_refresh_tx_id ≡ k.last_tx_id → ⊥) where
        pub pending_one : pending k ≡ 1
        unfolding pending
        pending_one = ap (λ (t : Bool). cond t (cond (eqb k.checksum_refresh_tx_id k.last_tx_id) 0 1) 0) h ∙ ap (λ (t : Bool). cond t 0 1) (ne_eqb _ _ e)

        step_moved : refresh_to s m k n 0 basis ≡ refresh_step_to s m k n
        unfolding refresh_step_to
        step_moved = sym (ap (λ (t : Bool). choice (t && eqb k.checksum_refresh_tx_id k.last_tx_id)) h ∙ ap choice (ne_eqb _ _ e))

    same_reached : (end sum : ℕ) → reached s m (given_up k) end sum ≡ reached s m k end sum
    same_reached end sum = λ j. cond (eqb end k.db_size)
        (restore_to s m (same_refresh sum j) (Refreshed (record { complete = eqb end k.db_size; checksum = sum; scanned_bytes = end; db_size = k.db_size })))
        (restore_to s m (same_step end sum j) (Refreshed (record { complete = eqb end k.db_size; checksum = sum; scanned_bytes = end; db_size = k.db_size })))

    same_to : (from x : ℕ) → refresh_to s m (given_up k) n from x ≡ refresh_to s m k n from x
    unfolding refresh_to
    same_to from x = same_reached _ _

-- progress of an older transaction does not count
pub step_anew : (k : Superblock) (s : State) (m : List ℕ) (n : ℕ) → refreshing k ≡ true → (k.checksum_refresh_tx_id ≡ k.last_tx_id → ⊥) → refresh_step_to s m (given_up k) n ≡ refresh_step_to s m k n
step_anew k s m n h e = sym (step_fresh (given_up k) s m n (not_refreshing k)) ∙ same_to k s m n 0 basis ∙ step_moved k s m n h e
