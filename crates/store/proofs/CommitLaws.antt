-- An accepted commit: the image in the memory that it leaves is in order, and reads as the update did.
use Rattle.std.specs.Prelude.{◌≡◌, refl, Bool, not, ◌&&◌, ◌||◌, List, [], ◌∷◌, length}
use Rattle.std.proofs.Math.Path.{sym}
use Rattle.std.proofs.Common.{ap, ◌∙◌, mul-le-mul_right, arith}
use Prim.Native.Nat.{ℕ, suc, ◌+◌, ◌-◌, ◌*◌, ◌/◌, ◌≤◌, ◌<◌}
use Rattle.std.proofs.Math.Bool.{true, false, cond, or-true, and-true, and-false}
use Rattle.std.proofs.Math.Dec.{ltb}
use Rattle.std.proofs.Math.ListN.{get_or}
use borrow.Author.Tests.{ltb-true, ltb-false, lt-ltb}
use Rattle.config.specs.Pages.{count, count_le}
use Rattle.memory.specs.Laws.{split}
use Rattle.meta.specs.declared.superblock.Superblock.{Superblock}
use Rattle.meta.specs.declared.ZeroExtent.{ZeroExtent}
use Rattle.meta.specs.Runs.{normalized}
use Rattle.runs.specs.Sets.{within, covers}
use Rattle.runs.specs.Members.{From}
use Rattle.runs.specs.SetLaws.{has_within, normalized_from}
use Rattle.extents.specs.Plan.{kept, below, additions, plan}
use Rattle.extents.specs.PlanLaws.{among, additions_rise, additions_fall, additions_same, plan_normalized, plan_most, plan_covers}
use Rattle.update.specs.ListLaws.{clash}
use Rattle.update.specs.Pages.{page_numbers, holds, page_byte}
use Rattle.update.specs.PageLaws.{within_lo, EndsBy, ends_covers, among_below, numbers_has, byte_clean, byte_dirty}
use Rattle.update.specs.Image.{image_byte}
use Rattle.update.specs.Update.{Over, raw}
use Rattle.update.specs.Changes.{Like, in_count}
use Rattle.update.specs.Refused.{Weak}
use Rattle.update.specs.Reading.{raw_weak}
use Rattle.store.specs.Codec.{Codec, sealed, stored}
use Rattle.store.specs.Blocks.{importing, after_commit}
use Rattle.store.proofs.BlockLaws.{after_commit_lem, seal_importing}
use Rattle.store.specs.Blocks.{Commits}
use Rattle.store.specs.Plan.{required}
use Rattle.store.specs.Store.{runs_of, image, write_pages}
use Rattle.store.specs.Lawful.{Fits, Lawful, Good}
use Rattle.store.proofs.MemoryLaws.{pages-length, pages_at, stored_high, stored-length}
use Rattle.store.specs.Facts.{Reaches}

-- ## Ends of runs

from_ends : (M m : ℕ) (l : List ZeroExtent) → From m l → ((p : ℕ) → covers l p ≡ true → p < M) → EndsBy M l
from_ends M m [] f h = tt
from_ends M m (x ∷ l) f h =
    let last : within x (x.end - 1) ≡ true = has_within x (x.end - 1) (omega (arith, f.1), omega (arith, f.1)) in
    let lt : x.end - 1 < M = h (x.end - 1) (rw last) in (
      omega (arith, f.1),
      from_ends M (suc x.end) l f.2 (λ p c. h p (rw (c, or-true))),
    )

-- page size, old size and new size, the record
module _ (P : ℕ) (pos : 0 < P) (old new : ℕ) (rec : List ZeroExtent) where
  pub ends_additions : (M : ℕ) → old ≤ M → new ≤ M → EndsBy M rec → EndsBy M (additions P old new rec)
  ends_additions M h k b = split (ltb old new)
      (λ t. rw (additions_rise P old new rec (ltb-true old new t)) (omega (arith, count_le P pos new), b))
      (λ f. split (ltb new old)
      (λ t. rw (additions_fall P old new rec (ltb-true new old t)) (omega (arith, count_le P pos old), b))
      (λ g. rw (additions_same P old new rec (ltb-false new old g) (ltb-false old new f)) b))

  -- a byte below both sizes is in no addition but the record
  pub not_added : (o : ℕ) → o < old → o < new → covers (additions P old new rec) (o / P) ≡ covers rec (o / P)
  not_added o h k = split (ltb old new)
      (λ t. rw (additions_rise P old new rec (ltb-true old new t), within_lo (count P old) (count P new) (o / P) (in_count P pos (λ i. 0) 0 o old h)))
      (λ f. split (ltb new old)
      (λ t. rw (additions_fall P old new rec (ltb-true new old t), within_lo (count P new) (count P old) (o / P) (in_count P pos (λ i. 0) 0 o new k)))
      (λ g. rw (additions_same P old new rec (ltb-false new old g) (ltb-false old new f))))

  pub added_in : (q : ℕ) → covers rec q ≡ true → covers (additions P old new rec) q ≡ true
  added_in q h = split (ltb old new)
      (λ t. rw (additions_rise P old new rec (ltb-true old new t), h, or-true))
      (λ f. split (ltb new old)
      (λ t. rw (additions_fall P old new rec (ltb-true new old t), h, or-true))
      (λ g. rw (additions_same P old new rec (ltb-false new old g) (ltb-false old new f)) h))

required_base : (P base : ℕ) (ns : List ℕ) (end : ℕ) → end ≤ required P base ns end
required_base P base [] end = omega arith
required_base P base (n ∷ ns) end = omega (arith, required_base P base ns end)

module _ (P S C L M : ℕ) (k : Codec) (pos : 0 < P) (laws : Lawful S L M k) (u : Bool) (c : ℕ) (b : Superblock) (m : List ℕ) (g : Good S L M k c b m) (v : Over)
    (w : Weak P C M (image P S C L M k b m) v) (rs : List ZeroExtent)
    (planned : plan P L b.db_size v.size (runs_of P S C L M k b m) v.recorded (page_numbers v.dirty) ≡ kept rs)
    (range : required P b.db_base_offset (below (count P v.size) (page_numbers v.dirty)) (b.db_base_offset + v.size) ≤ M)
    (r : ℕ) (grown : List ℕ)
    (reaches : Reaches S c (required P b.db_base_offset (below (count P v.size) (page_numbers v.dirty)) (b.db_base_offset + v.size)) m r grown) where
  abbrev base : ℕ
  base = b.db_base_offset

  abbrev runs : List ZeroExtent
  runs = runs_of P S C L M k b m

  abbrev adds : List ZeroExtent
  adds = additions P b.db_size v.size v.recorded

  abbrev outs : List ℕ
  outs = below (count P v.size) (page_numbers v.dirty)

  unfoldable pub new_block : Superblock
  new_block = after_commit P M u v.size (length rs) b

  unfoldable pub flushed : List ℕ
  flushed = write_pages P S C L M k base (count P v.size) v.dirty grown

  unfoldable pub after : List ℕ
  after = stored k new_block rs flushed

  fields : Commits v.size (length rs) b new_block
  unfolding new_block
  fields = after_commit_lem P M u v.size (length rs) b

  covered : (q : ℕ) → covers rs q ≡ ((covers adds q || covers runs q) && not (among outs q))
  covered q = plan_covers P L b.db_size v.size runs v.recorded (page_numbers v.dirty) rs planned q

  sorted : normalized rs ≡ true
  sorted = plan_normalized P L b.db_size v.size runs v.recorded (page_numbers v.dirty) rs planned

  few : length rs ≤ L
  few = plan_most P L b.db_size v.size runs v.recorded (page_numbers v.dirty) rs planned

  and_left : (x y : Bool) → (x && y) ≡ true → x ≡ true
  and_left true y h = refl
  and_left false y h = h

  ends : EndsBy M rs
  ends = from_ends M 0 rs (normalized_from rs sorted) (λ p h. split (covers adds p)
      (λ t. ends_covers M adds p (ends_additions P pos b.db_size v.size v.recorded M (omega (arith, g.range)) w.range w.ends) t)
      (λ f. ends_covers M runs p g.ends (let e : (covers adds p || covers runs p) ≡ true = and_left _ _ (sym (covered p) ∙ h) in rw f at e)))

  end_in : base + v.size ≤ r * S
  end_in = omega (arith, required_base P base outs (base + v.size), reaches.reach)

  end_range : base + v.size ≤ M
  end_range = omega (arith, required_base P base outs (base + v.size), range)

  fit : Fits L M new_block rs
  fit = record { few = few; counted = fields.count; size = omega (arith, end_range, fields.size); base = omega (arith, end_range, fields.base); ends = ends; sorted = sorted }

  flushed-length : length flushed ≡ length m
  unfolding flushed
  flushed-length = pages-length P S C L M k base (count P v.size) v.dirty grown ∙ reaches.same_length

  stable_in : S ≤ length flushed
  stable_in = omega (arith, g.base_low, g.inside, g.lent, flushed-length)

  pub after-length : length after ≡ length m
  unfolding after
  after-length = stored-length S L M k laws new_block rs fit flushed ∙ flushed-length

  pub after_runs : k.runs_in (length rs) after ≡ rs
  unfolding after
  after_runs = laws.runs_is new_block rs flushed fit stable_in

  pub after_size : (k.decode after).db_size ≡ v.size
  unfolding after
  after_size = laws.size_is new_block rs flushed fit stable_in ∙ fields.size

  pub after_base : (k.decode after).db_base_offset ≡ b.db_base_offset
  unfolding after
  after_base = laws.base_is new_block rs flushed fit stable_in ∙ fields.base

  pub after_count : (k.decode after).zero_extent_count ≡ length rs
  unfolding after
  after_count = laws.count_is new_block rs flushed fit stable_in

  runs_now : k.runs_in (sealed k new_block rs).zero_extent_count after ≡ rs
  runs_now = ap (λ (n : ℕ). k.runs_in n after) fields.count ∙ after_runs

  -- any accepted commit
  pub commit_good : Good S L M k r (sealed k new_block rs) after
  commit_good = record {
    size_is = after_size ∙ sym fields.size;
    base_is = after_base ∙ sym fields.base;
    count_is = after_count ∙ sym fields.count;
    counted = ap length runs_now ∙ sym fields.count;
    few = omega (arith, few, fields.count);
    sorted = rw runs_now sorted;
    ends = rw runs_now ends;
    base_low = omega (arith, g.base_low, fields.base);
    inside = omega (arith, end_in, fields.base, fields.size);
    range = omega (arith, end_range, fields.base, fields.size);
    lent = omega (arith, reaches.lent, after-length);
    import_low = λ y. omega (arith, g.import_low (was y), fields.imports.base);
    import_inside = λ y. omega (arith, g.import_inside (was y), fields.imports.base, fields.imports.written, mul-le-mul_right S reaches.more);
    import_range = λ y. omega (arith, g.import_range (was y), fields.imports.base, fields.imports.total);
  }
    where
      was : importing (sealed k new_block rs) ≡ true → importing b ≡ true
      was y = sym fields.imports.mark ∙ sym (seal_importing (k.sum new_block rs) new_block) ∙ y

  -- one whose update shows the bytes d: so does the image that it leaves
  module _ (d : List ℕ) (y : Like P (image P S C L M k b m) b.db_size v (length d) d) where
    mem_at : (o : ℕ) → o < length d → get_or after (base + o) 0 ≡ page_byte P v.dirty o (get_or grown (base + o) 0)
    unfolding after flushed
    mem_at o lt = stored_high S L M k laws new_block rs fit flushed (base + o) (omega (arith, g.base_low))
        ∙ pages_at P S C L M k pos base (count P v.size) v.dirty grown o w.sized w.distinct (in_count P pos (image P S C L M k b m) 0 o v.size (omega (arith, y.size_is)))
        (omega (arith, y.size_is, end_in, reaches.lent, reaches.same_length))

    pub commit_byte : (o : ℕ) → o < length d → cond (covers rs (o / P)) 0 (get_or after (base + o) 0) ≡ get_or d o 0
    unfolding image_byte
    commit_byte o lt =
        let i : ℕ → ℕ = image P S C L M k b m in
        let q : ℕ = o / P in
        let low : q < count P v.size = in_count P pos i 0 o v.size (omega (arith, y.size_is)) in
        let hk : among outs q ≡ holds v.dirty q = among_below (count P v.size) (page_numbers v.dirty) q low ∙ numbers_has v.dirty q in
        let s : raw P i v o ≡ get_or d o 0 = y.same_as o lt in
        let sw : raw P i v o ≡ page_byte P v.dirty o (cond (covers v.recorded q) 0 (i o)) = raw_weak P C M pos i v o w in
        split (holds v.dirty q)
        (λ x. let a : covers rs q ≡ false = covered q ∙ rw (hk, x, and-false) in
        rw a (mem_at o lt ∙ byte_dirty P pos v.dirty o _ _ x ∙ sym sw ∙ s))
        (λ n. let ci : covers rs q ≡ (covers adds q || covers runs q) = covered q ∙ rw (hk, n, and-true) in
        split (covers v.recorded q)
        (λ x. let a : covers rs q ≡ true = ci ∙ rw (added_in P pos b.db_size v.size v.recorded q x) in
        rw a (sym (sym s ∙ sw ∙ byte_clean P pos v.dirty o _ n ∙ rw x)))
        (λ x. split (ltb o b.db_size)
        (λ j. let lz : o < b.db_size = ltb-true o b.db_size j in
        let a : covers rs q ≡ covers runs q = ci ∙ rw (not_added P pos b.db_size v.size v.recorded o lz (omega (arith, y.size_is)), x) in
        let mm : get_or after (base + o) 0 ≡ get_or m (base + o) 0 =
        mem_at o lt ∙ byte_clean P pos v.dirty o _ n ∙ reaches.same (base + o) (omega (arith, g.inside)) in
        let bo : i o ≡ cond (covers runs q) 0 (get_or m (base + o) 0) = rw (image_byte, j) in
        rw (a, mm) (sym bo ∙ sym (sym s ∙ sw ∙ byte_clean P pos v.dirty o _ n ∙ rw x)))
        (λ j. clash (y.masked o (ltb-false o b.db_size j) lt) (rw (n, x)))))

    -- by the block and the memory that it leaves
    pub commit_image : (o : ℕ) → o < length d → image P S C L M k (sealed k new_block rs) after o ≡ get_or d o 0
    unfolding image_byte
    commit_image o lt =
        let inside : ltb o new_block.db_size ≡ true = lt-ltb o _ (omega (arith, lt, y.size_is, fields.size)) in
        rw (inside, runs_now, fields.base) (commit_byte o lt)
