-- The invariant between the store and the plain file, and that it looks at the live parts of the lent slices only.
use Rattle.std.specs.Prelude.{◌≡◌, refl, false, ltb, take}
use Rattle.std.proofs.Common.{sym, ◌∙◌, subst₂, arith, length-drop}
use Rattle.std.proofs.Math.Path.{ap, fun_ext}
use Prim.Native.Nat.{ℕ, ◌+◌, ◌-◌, ◌*◌, ◌/◌, ◌≤◌, ◌<◌}
use Rattle.std.proofs.Math.Bool.{cond}
use mathlib.Core.List.{List}
use Rattle.std.proofs.Math.ListN.{length, get_or, length-append, get_or-append}
use Rattle.std.proofs.Math.Seq.{get_or-drop}
use borrow.Author.Tests.{ltb-true, ltb-false}
use Rattle.memory.specs.Laws.{split, append_at}
use Rattle.meta.specs.declared.superblock.Superblock.{Superblock}
use Rattle.meta.specs.declared.ZeroExtent.{ZeroExtent}
use Rattle.runs.specs.Sets.{covers}
use Rattle.update.specs.declared.Overlay.{Overlay}
use Rattle.update.specs.Lists.{tabulate}
use Rattle.update.specs.ListLaws.{tabulate_alike, take-alike}
use Rattle.update.specs.Pages.{page_numbers}
use Rattle.update.specs.Image.{image_byte}
use Rattle.update.specs.Update.{Over}
use Rattle.update.specs.Buffers.{cached, view}
use Rattle.update.specs.BufferLaws.{view_alike}
use Rattle.update.specs.Changes.{Like}
use Rattle.update.specs.Refused.{Weak}
use Rattle.store.specs.declared.State.{State}
use Rattle.store.specs.Codec.{Codec}
use Rattle.store.specs.Calls.{Lent, Mode, idle, update, mode_of}
use Rattle.store.specs.Store.{image}
use Rattle.store.specs.Lawful.{Lawful, Good}
use Rattle.plain_file.specs.Plain.{Draft, Plain, closed, drafting, file_of}
use Rattle.plain_file.specs.Claim.{AsLeft, dirty_of, record_of, cached_of, Lends, laid, leaves}

-- an update v, on an image of z bytes b, that shows the draft
pub record Draws (P : ℕ) (b : ℕ → ℕ) (z : ℕ) (v : Over) (d : Draft) : Type 0 where
  pub like : Like P b z v (length d.bytes) d.bytes
  pub numbers_is : page_numbers v.dirty ≡ d.dirty
  pub recorded_is : v.recorded ≡ d.recorded

-- spoiled or not
pub record Facts (P C M : ℕ) (b : ℕ → ℕ) (z : ℕ) (v : Over) (d : Draft) : Type 0 where
  pub weak : Weak P C M b v
  pub draws : d.spoiled ≡ false → Draws P b z v d

-- ## What is left behind

module _ (P S C L M : ℕ) (k : Codec) (xs w : List ℕ) where
  pub laid-length : length xs ≤ length (laid P S C L M k xs w)
  unfolding laid
  laid-length = simp length-append (omega arith)

  pub laid_long : length w ≤ length (laid P S C L M k xs w)
  unfolding laid
  laid_long = simp (length-append, length-drop) (omega arith)

  pub laid_in : (i : ℕ) → i < length xs → get_or (laid P S C L M k xs w) i 0 ≡ get_or xs i 0
  unfolding laid
  laid_in i h = get_or-append xs _ 0 i h

  laid_out : (i : ℕ) → length xs ≤ i → get_or (laid P S C L M k xs w) i 0 ≡ get_or w i 0
  unfolding laid
  laid_out i h = append_at xs _ i h ∙ get_or-drop (length xs) w (i - length xs) 0 ∙ ap (λ (j : ℕ). get_or w j 0) (omega arith)

  -- lent as it was left, and given back so: nothing has changed in the live part
  pub laid_back : (live : ℕ) → AsLeft P S C L M k live xs w → (i : ℕ) → i < live → get_or (laid P S C L M k xs w) i 0 ≡ get_or w i 0
  laid_back live h i j = split (ltb i (length xs))
      (λ t. let u : i < length xs = ltb-true i (length xs) t in laid_in i u ∙ h i j u)
      (λ f. laid_out i (ltb-false i (length xs) f))

module _ (P S C L M : ℕ) (k : Codec) where
  pub record Busy (s : State) (v : Overlay) (m : List ℕ) (w : Lent) (d : Draft) : Type 0 where
    pub began : take (s.count.0 * S) w.mem ≡ m
    pub begun : v.base_size ≡ s.block.db_size
    pub numbers : v.dirty ≤ length w.bufs.numbers
    pub frames : v.dirty * P ≤ length w.bufs.frames
    pub recs : v.recorded * 2 ≤ length w.bufs.recs
    pub clean : length (cached P C v.cache) * P ≤ length w.bufs.clean
    pub few : length (cached P C v.cache) ≤ C
    pub facts : Facts P C M (image P S C L M k s.block w.mem) s.block.db_size (view P C v w.bufs) d

  abbrev pub InvMode : Mode → State → Plain → List ℕ → Lent → Type 0
  InvMode idle s (closed f) m w = Good S L M k s.count.0 s.block w.mem × (f ≡ file_of P S L M k w.mem)
  InvMode idle s (drafting f d) m w = ⊥
  InvMode (update v) s (closed f) m w = ⊥
  InvMode (update v) s (drafting f d) m w = Good S L M k s.count.0 s.block w.mem × (f ≡ file_of P S L M k w.mem) × Busy s v m w d

  abbrev pub Inv : State → Plain → List ℕ → Lent → Type 0
  Inv s p m w = InvMode (mode_of s) s p m w

  -- b has all of a's live parts
  pub record Near (s : State) (a b : Lent) : Type 0 where
    pub mem : (i : ℕ) → i < s.count.0 * S → get_or b.mem i 0 ≡ get_or a.mem i 0
    pub frames : (i : ℕ) → i < dirty_of P S C L M k (mode_of s) * P → get_or b.bufs.frames i 0 ≡ get_or a.bufs.frames i 0
    pub numbers : (i : ℕ) → i < dirty_of P S C L M k (mode_of s) → get_or b.bufs.numbers i 0 ≡ get_or a.bufs.numbers i 0
    pub clean : (i : ℕ) → i < cached_of P S C L M k (mode_of s) * P → get_or b.bufs.clean i 0 ≡ get_or a.bufs.clean i 0
    pub recs : (i : ℕ) → i < record_of P S C L M k (mode_of s) * 2 → get_or b.bufs.recs i 0 ≡ get_or a.bufs.recs i 0
    pub mem_long : s.count.0 * S ≤ length b.mem
    pub frames_long : dirty_of P S C L M k (mode_of s) * P ≤ length b.bufs.frames
    pub numbers_long : dirty_of P S C L M k (mode_of s) ≤ length b.bufs.numbers
    pub clean_long : cached_of P S C L M k (mode_of s) * P ≤ length b.bufs.clean
    pub recs_long : record_of P S C L M k (mode_of s) * 2 ≤ length b.bufs.recs

  module _ (laws : Lawful S L M k) where
    -- memory b has memory a's superblock and the bytes of its file
    module _ (c : ℕ) (h : Superblock) (a b : List ℕ) (g : Good S L M k c h a) (first : (i : ℕ) → i < S → get_or b i 0 ≡ get_or a i 0)
        (same : (i : ℕ) → i < h.db_base_offset + h.db_size → get_or b i 0 ≡ get_or a i 0) (long : S ≤ length b) where
      block_near : k.decode b ≡ k.decode a
      block_near = laws.near_block b a first

      runs_near : (n : ℕ) → k.runs_in n b ≡ k.runs_in n a
      runs_near n = laws.near_runs n b a long (omega (arith, g.base_low, g.inside, g.lent)) first

      pub file_alike : file_of P S L M k b ≡ file_of P S L M k a
      unfolding file_of
      file_alike =
          let F : Superblock → List ZeroExtent → List ℕ → ℕ → ℕ = λ x rs m o. cond (covers rs (o / P)) 0 (get_or m (x.db_base_offset + o) 0) in
          let x : Superblock = k.decode a in
          let r : k.runs_in (k.decode b).zero_extent_count b ≡ k.runs_in x.zero_extent_count a = ap (λ (y : Superblock). k.runs_in y.zero_extent_count b) block_near ∙ runs_near x.zero_extent_count in
          let e : tabulate (k.decode b).db_size (F (k.decode b) (k.runs_in (k.decode b).zero_extent_count b) b) ≡ tabulate x.db_size (F x (k.runs_in x.zero_extent_count a) a) =
          (λ i. tabulate (block_near i).db_size (F (block_near i) (r i) b))
          ∙ tabulate_alike x.db_size (F x (k.runs_in x.zero_extent_count a) b) (F x (k.runs_in x.zero_extent_count a) a)
          (λ o j. ap (λ (y : ℕ). cond (covers (k.runs_in x.zero_extent_count a) (o / P)) 0 y) (same (x.db_base_offset + o) (omega (arith, g.size_is, g.base_is)))) in
          λ i. record { bytes = e i; base = (block_near i).db_base_offset; runs = r i }

    -- memory b has memory a's live part
    module _ (c : ℕ) (h : Superblock) (a b : List ℕ) (g : Good S L M k c h a) (same : (i : ℕ) → i < c * S → get_or b i 0 ≡ get_or a i 0) (long : c * S ≤ length b) where
      stable_in : S ≤ c * S
      stable_in = omega (arith, g.base_low, g.inside)

      first : (i : ℕ) → i < S → get_or b i 0 ≡ get_or a i 0
      first i j = same i (omega (arith, stable_in))

      within : (i : ℕ) → i < h.db_base_offset + h.db_size → get_or b i 0 ≡ get_or a i 0
      within i j = same i (omega (arith, g.inside))

      block_same : k.decode b ≡ k.decode a
      block_same = block_near c h a b g first within (omega (arith, stable_in))

      runs_same : (n : ℕ) → k.runs_in n b ≡ k.runs_in n a
      runs_same n = runs_near c h a b g first within (omega (arith, stable_in)) n

      pub good_near : Good S L M k c h b
      good_near = record {
        size_is = ap (λ (x : Superblock). x.db_size) block_same ∙ g.size_is;
        base_is = ap (λ (x : Superblock). x.db_base_offset) block_same ∙ g.base_is;
        count_is = ap (λ (x : Superblock). x.zero_extent_count) block_same ∙ g.count_is;
        counted = ap length (runs_same h.zero_extent_count) ∙ g.counted;
        few = g.few;
        sorted = rw (runs_same h.zero_extent_count) g.sorted;
        ends = rw (runs_same h.zero_extent_count) g.ends;
        base_low = g.base_low;
        inside = g.inside;
        range = g.range;
        lent = long;
        import_low = g.import_low;
        import_inside = g.import_inside;
        import_range = g.import_range;
      }

      pub file_near : file_of P S L M k b ≡ file_of P S L M k a
      file_near = file_alike c h a b g first within (omega (arith, stable_in))

      pub image_near : image P S C L M k h b ≡ image P S C L M k h a
      unfolding image_byte
      image_near = fun_ext (λ o. split (ltb o h.db_size)
          (λ t. let j : o < h.db_size = ltb-true o h.db_size t in
          let y : get_or b (h.db_base_offset + o) 0 ≡ get_or a (h.db_base_offset + o) 0 = same (h.db_base_offset + o) (omega (arith, g.inside)) in
          rw (image_byte, t) (λ i. cond (covers (runs_same h.zero_extent_count i) (o / P)) 0 (y i)))
          (λ f. rw (image_byte, f)))

    pub inv_near : (t : Mode) (s : State) (p : Plain) (m : List ℕ) (a b : Lent) → mode_of s ≡ t → Near s a b → InvMode t s p m a → InvMode t s p m b
    inv_near idle s (closed f) m a b e n v = (
      good_near s.count.0 s.block a.mem b.mem v.0 n.mem n.mem_long,
      v.1 ∙ sym (file_near s.count.0 s.block a.mem b.mem v.0 n.mem n.mem_long),
    )
    inv_near idle s (drafting f d) m a b e n v = absurd v
    inv_near (update o) s (closed f) m a b e n v = absurd v
    inv_near (update o) s (drafting f d) m a b e n v = (
      good_near s.count.0 s.block a.mem b.mem v.0 n.mem n.mem_long,
      v.1 ∙ sym (file_near s.count.0 s.block a.mem b.mem v.0 n.mem n.mem_long),
      record {
        began = take-alike (s.count.0 * S) b.mem a.mem n.mem_long v.0.lent n.mem ∙ v.2.began;
        begun = v.2.begun;
        numbers = rw e at n.numbers_long;
        frames = rw e at n.frames_long;
        recs = rw e at n.recs_long;
        clean = rw e at n.clean_long;
        few = v.2.few;
        facts = subst₂ (λ (x : ℕ → ℕ) (y : Over). Facts P C M x s.block.db_size y d)
            (sym (image_near s.count.0 s.block a.mem b.mem v.0 n.mem n.mem_long))
            (sym (view_alike P C o b.bufs a.bufs (rw e at n.recs_long) v.2.recs (rw e at n.numbers) (rw e at n.frames) (rw e at n.recs) (rw e at n.clean)))
            v.2.facts;
      },
    )

    -- the live parts of what was left are there
    pub record Long (s : State) (w : Lent) : Type 0 where
      pub mem : s.count.0 * S ≤ length w.mem
      pub frames : dirty_of P S C L M k (mode_of s) * P ≤ length w.bufs.frames
      pub numbers : dirty_of P S C L M k (mode_of s) ≤ length w.bufs.numbers
      pub clean : cached_of P S C L M k (mode_of s) * P ≤ length w.bufs.clean
      pub recs : record_of P S C L M k (mode_of s) * 2 ≤ length w.bufs.recs

    pub inv_long : (t : Mode) (s : State) (p : Plain) (m : List ℕ) (w : Lent) → mode_of s ≡ t → InvMode t s p m w → Long s w
    inv_long idle s (closed f) m w e v = record { mem = v.0.lent; frames = rw e (omega arith); numbers = rw e (omega arith); clean = rw e (omega arith); recs = rw e (omega arith) }
    inv_long idle s (drafting f d) m w e v = absurd v
    inv_long (update o) s (closed f) m w e v = absurd v
    inv_long (update o) s (drafting f d) m w e v = record { mem = v.0.lent; frames = rw e v.2.frames; numbers = rw e v.2.numbers; clean = rw e v.2.clean; recs = rw e v.2.recs }

    -- what a call gives back, laid over what was left before
    near_out : (s : State) (x w : Lent) → Long s x → Near s x (leaves P S C L M k x w)
    unfolding leaves
    near_out s x w g = record {
      mem = λ i h. laid_in P S C L M k x.mem w.mem i (omega (arith, g.mem));
      frames = λ i h. laid_in P S C L M k x.bufs.frames w.bufs.frames i (omega (arith, g.frames));
      numbers = λ i h. laid_in P S C L M k x.bufs.numbers w.bufs.numbers i (omega (arith, g.numbers));
      clean = λ i h. laid_in P S C L M k x.bufs.clean w.bufs.clean i (omega (arith, g.clean));
      recs = λ i h. laid_in P S C L M k x.bufs.recs w.bufs.recs i (omega (arith, g.recs));
      mem_long = omega (arith, g.mem, laid-length P S C L M k x.mem w.mem);
      frames_long = omega (arith, g.frames, laid-length P S C L M k x.bufs.frames w.bufs.frames);
      numbers_long = omega (arith, g.numbers, laid-length P S C L M k x.bufs.numbers w.bufs.numbers);
      clean_long = omega (arith, g.clean, laid-length P S C L M k x.bufs.clean w.bufs.clean);
      recs_long = omega (arith, g.recs, laid-length P S C L M k x.bufs.recs w.bufs.recs);
    }

    -- lent as it was left, and given back as it was lent
    near_back : (s : State) (l w : Lent) → Lends P S C L M k s w l → Long s w → Near s w (leaves P S C L M k l w)
    unfolding leaves
    near_back s l w t g = record {
      mem = laid_back P S C L M k l.mem w.mem (s.count.0 * S) t.mem;
      frames = laid_back P S C L M k l.bufs.frames w.bufs.frames (dirty_of P S C L M k (mode_of s) * P) t.frames;
      numbers = laid_back P S C L M k l.bufs.numbers w.bufs.numbers (dirty_of P S C L M k (mode_of s)) t.numbers;
      clean = laid_back P S C L M k l.bufs.clean w.bufs.clean (cached_of P S C L M k (mode_of s) * P) t.clean;
      recs = laid_back P S C L M k l.bufs.recs w.bufs.recs (record_of P S C L M k (mode_of s) * 2) t.recs;
      mem_long = omega (arith, g.mem, laid_long P S C L M k l.mem w.mem);
      frames_long = omega (arith, g.frames, laid_long P S C L M k l.bufs.frames w.bufs.frames);
      numbers_long = omega (arith, g.numbers, laid_long P S C L M k l.bufs.numbers w.bufs.numbers);
      clean_long = omega (arith, g.clean, laid_long P S C L M k l.bufs.clean w.bufs.clean);
      recs_long = omega (arith, g.recs, laid_long P S C L M k l.bufs.recs w.bufs.recs);
    }

    -- nothing changed: the invariant stays
    pub inv_back : (s : State) (p : Plain) (m : List ℕ) (l w : Lent) → Lends P S C L M k s w l → Inv s p m w → Inv s p m (leaves P S C L M k l w)
    inv_back s p m l w t v =
        inv_near (mode_of s) s p m w (leaves P S C L M k l w) refl (near_back s l w t (inv_long (mode_of s) s p m w refl v)) v

    -- what a call leaves in its slices holds in what is left
    pub inv_out : (s : State) (p : Plain) (m : List ℕ) (x w : Lent) → Inv s p m x → Inv s p m (leaves P S C L M k x w)
    inv_out s p m x w v =
        inv_near (mode_of s) s p m x (leaves P S C L M k x w) refl (near_out s x w (inv_long (mode_of s) s p m x refl v)) v
