-- Reads in an update: the cache changes, and no byte does.
use Rattle.std.specs.Prelude.{◌≡◌, refl, ℕ, zero, suc, ◌+◌, ◌/◌, ◌≤◌, ◌<◌, ◌||◌, List, ◌∷◌, ltb, get_or, drop}
use Rattle.std.proofs.Common.{sym, ap, ◌∙◌, arith, ext_get_or, get_or-drop}
use Rattle.std.proofs.Math.Path.{fun_ext}
use Rattle.std.proofs.Math.Bool.{cond}
use Rattle.std.proofs.Math.ListN.{length, get_or-eq_default}
use borrow.Author.Tests.{ltb-true, ltb-false, lt-ltb, le-ltb}
use Rattle.memory.specs.Bytes.{resize}
use Rattle.memory.specs.Laws.{split, length-resize, resize_in}
use Rattle.runs.specs.Sets.{covers}
use Rattle.update.specs.Lists.{tabulate, tabulate_from}
use Rattle.update.specs.ListLaws.{tests, tabulate_from-at, length-tabulate_from, length-tabulate, tabulate_at}
use Rattle.update.specs.Pages.{holds, page_byte}
use Rattle.update.specs.Update.{Over, raw, over_byte, look_up, read_over, read_bytes}
use Rattle.update.specs.Refused.{all_byte, Weak, look_weak}
use Rattle.update.specs.Changes.{Like}

-- the same update, but for its cache
pub record Seen (P C M : ℕ) (b : ℕ → ℕ) (v w : Over) : Type 0 where
  pub size : w.size ≡ v.size
  pub dirty : w.dirty ≡ v.dirty
  pub recorded : w.recorded ≡ v.recorded
  pub weak : Weak P C M b w

module _ (P C M : ℕ) (pos : 0 < P) (b : ℕ → ℕ) where
  pub raw_weak : (v : Over) (o : ℕ) → Weak P C M b v → raw P b v o ≡ page_byte P v.dirty o (cond (covers v.recorded (o / P)) 0 (b o))
  unfolding raw
  raw_weak v o w = rw (raw, all_byte P b pos v.cache o w.cached)

  pub seen_raw : (v w : Over) (o : ℕ) → Weak P C M b v → Seen P C M b v w → raw P b w o ≡ raw P b v o
  seen_raw v w o a s = raw_weak w o s.weak ∙ rw (s.dirty, s.recorded) (sym (raw_weak v o a))

  pub seen_byte : (v w : Over) (o : ℕ) → Weak P C M b v → Seen P C M b v w → over_byte P b w o ≡ over_byte P b v o
  unfolding over_byte
  seen_byte v w o a s = λ i. cond (ltb o (s.size i)) (seen_raw v w o a s i) 0

  look_seen : (p : ℕ) (v : Over) → Weak P C M b v → Seen P C M b v (look_up P C b p v)
  unfolding look_up
  look_seen p v a = split (holds v.dirty p || (covers v.recorded p || holds v.cache p))
      (λ t. rw (look_up, t) record { size = refl; dirty = refl; recorded = refl; weak = a })
      (λ f. let y : Weak P C M b (look_up P C b p v) = look_weak P C M pos b p v a in
      record { size = rw (look_up, f); dirty = rw (look_up, f); recorded = rw (look_up, f); weak = y })

  one_seen : (o : ℕ) (v : Over) → Weak P C M b v → Seen P C M b v (cond (ltb o v.size) (look_up P C b (o / P) v) v)
  one_seen o v a = split (ltb o v.size) (λ t. rw t (look_seen (o / P) v a)) (λ f. rw f record { size = refl; dirty = refl; recorded = refl; weak = a })

  pub read_seen : (o n : ℕ) (v : Over) → Weak P C M b v → Seen P C M b v (read_over P C b o n v)
  read_seen o zero v a = record { size = refl; dirty = refl; recorded = refl; weak = a }
  read_seen o (suc n) v a =
      let x : Over = cond (ltb o v.size) (look_up P C b (o / P) v) v in
      let s : Seen P C M b v x = one_seen o v a in
      let r : Seen P C M b x (read_over P C b (suc o) n x) = read_seen (suc o) n x s.weak in
      record { size = r.size ∙ s.size; dirty = r.dirty ∙ s.dirty; recorded = r.recorded ∙ s.recorded; weak = r.weak }

  read_all : (o n : ℕ) (v : Over) → Weak P C M b v → read_bytes P C b o n v ≡ tabulate_from o n (over_byte P b v)
  read_all o zero v a = refl
  read_all o (suc n) v a =
      let x : Over = cond (ltb o v.size) (look_up P C b (o / P) v) v in
      let s : Seen P C M b v x = one_seen o v a in
      let e : over_byte P b x ≡ over_byte P b v = fun_ext (λ i. seen_byte v x i a s) in
      ap (λ (l : List ℕ). over_byte P b v o ∷ l) (read_all (suc o) n x s.weak ∙ ap (tabulate_from (suc o) n) e)

  over_at : (z : ℕ) (v : Over) (d : List ℕ) → Like P b z v (length d) d → (o : ℕ) → over_byte P b v o ≡ get_or d o 0
  unfolding over_byte
  over_at z v d r o = split (ltb o (length d))
      (λ t. rw (over_byte, lt-ltb o v.size (omega (arith, tests, r.size_is))) (r.same_as o (ltb-true o (length d) t)))
      (λ e. let h : length d ≤ o = ltb-false o (length d) e in
      rw (over_byte, le-ltb o v.size (omega (arith, r.size_is))) (sym (get_or-eq_default d 0 h)))

-- bytes that agree with a list's are read as the list is
pub tabulate_reads : (g : ℕ → ℕ) (l : List ℕ) → ((o : ℕ) → g o ≡ get_or l o 0) → (o n : ℕ) → tabulate_from o n g ≡ resize n (drop o l)
tabulate_reads g l h o n = ext_get_or 0 _ _ (length-tabulate_from o n g ∙ sym (length-resize n _))
    (λ i k. let j : i < n = omega (arith, length-tabulate_from o n g) in
    tabulate_from-at o n g i j ∙ h (o + i) ∙ sym (resize_in n (drop o l) i j ∙ get_or-drop o l i 0))

module _ (P C M : ℕ) (pos : 0 < P) (b : ℕ → ℕ) where
  pub read_bytes_lem : (z : ℕ) (v : Over) (d : List ℕ) (o n : ℕ) → Weak P C M b v → Like P b z v (length d) d → read_bytes P C b o n v ≡ resize n (drop o d)
  read_bytes_lem z v d o n a r = read_all P C M pos b o n v a ∙ tabulate_reads (over_byte P b v) d (over_at P C M pos b z v d r) o n

  -- what is seen alike is like the same
  pub seen_like : (z m : ℕ) (v w : Over) (d : List ℕ) → Weak P C M b v → Seen P C M b v w → Like P b z v m d → Like P b z w m d
  seen_like z m v w d a s r = record {
    size_is = s.size ∙ r.size_is;
    same_as = λ o h. seen_raw P C M pos b v w o a s ∙ r.same_as o h;
    shape = record { low = λ q k. rw s.dirty (r.shape.low q k); sized = rw s.dirty r.shape.sized };
    masked = λ o h k. rw (s.dirty, s.recorded) (r.masked o h k);
  }

pub reads : (g : ℕ → ℕ) (l : List ℕ) → ((o : ℕ) → g o ≡ get_or l o 0) → (o n : ℕ) → tabulate n (λ i. g (o + i)) ≡ resize n (drop o l)
reads g l h o n = ext_get_or 0 _ _ (length-tabulate n _ ∙ sym (length-resize n _))
    (λ i k. let j : i < n = omega (arith, length-tabulate n (λ i. g (o + i))) in
    tabulate_at n _ i j ∙ h (o + i) ∙ sym (resize_in n (drop o l) i j ∙ get_or-drop o l i 0))
