-- Opening: one law for each way out.
use Rattle.std.specs.Prelude.{◌≡◌, ℕ, ◌*◌, ◌≤◌, ◌<◌, Bool, true, false, not, List, [], length, Result, Ok, Err}
use Rattle.std.proofs.Math.Path.{refl, ap}
use Rattle.std.proofs.Common.{sym, ◌∙◌, arith, true≢false}
use Rattle.std.proofs.Math.Bool.{cond}
use borrow.Author.Tests.{lt-ltb, le-ltb, eq-eqb, ne_eqb}
use Rattle.config.specs.declared.StablePages.{StablePages}
use Rattle.config.specs.declared.refusal.Refusal.{Refusal}
use Rattle.config.specs.declared.refusal.Refusal.TheVariants.{ImageOutOfMemory, BufferTooShort}
use Rattle.memory.specs.Growth.{Outcome, outcome, grow_to}
use Rattle.memory.specs.Growth.{Growth}
use Rattle.meta.specs.declared.superblock.Superblock.{Superblock}
use Rattle.meta_load.specs.Load.{Loaded}
use Rattle.meta.specs.Block.{seal, store_in, fresh}
use Rattle.meta_load.specs.Load.{load}
use Rattle.meta.specs.Stored.{Outcome as Stored, outcome as stores}
use Rattle.update.specs.Laid.{bufs}
use Rattle.store.specs.declared.State.{State}
use Rattle.store.specs.Answers.{Answer}
use Rattle.store.specs.Answers.{Done, Refused}
use Rattle.store.specs.Codec.{real_codec, stored}
use Rattle.store.specs.Store.{ended}
use Rattle.store.proofs.MemoryLaws.{grow_cases}
use Rattle.store.specs.Blocks.{importing}
use Rattle.store.specs.Calls.{import_cancel}
use Rattle.store.specs.Opening.{opened_by, no_block, outside, not_opened, open_fresh, open_loaded, open_image, closing, closing_marked, closing_unmarked, open', open_is}
use Rattle.transfer.specs.OnMemory.{OnMemory}
use Rattle.transfer.specs.StoreCases.{most, not_true, not_false}
use Rattle.opening.specs.Opened.{opened, opened_as, outside_of}

-- ## At count 0

abbrev grew : Growth → Bool
grew (Ok c) = true
grew (Err r) = false

not_grown : (m : List ℕ) (r : Refusal) → (grow_to 65536 0 65536 m).growth ≡ Err r → (grow_to 65536 0 65536 m).mem ≡ m
not_grown m r =
    grow_cases 65536 (omega arith) 0 65536 m (omega arith) (λ (g : Growth) (x : List ℕ). g ≡ Err r → x ≡ m)
    (λ n x to le h. absurd (true≢false (ap grew h))) (λ gt h. refl)

module _ (m : List ℕ) (g : Growth) (m' : List ℕ) (e : outcome g m' ≡ grow_to 65536 0 65536 m) where
  fresh_is : (x : Growth) → g ≡ x
      → open_fresh 16384 65536 8 1024 most real_codec m (grow_to 65536 0 65536 m).mem (grow_to 65536 0 65536 m).growth ≡ open_fresh 16384 65536 8 1024 most real_codec m m' x
  fresh_is x h =
      ap (λ (o : Outcome). open_fresh 16384 65536 8 1024 most real_codec m o.mem o.growth) (sym e) ∙ ap (λ (y : Growth). open_fresh 16384 65536 8 1024 most real_codec m m' y) h

  pub fresh_refused : (r : Refusal) → g ≡ Err r → (x : State) → x ≡ ended 16384 65536 8 1024 most real_codec 0 no_block
      → opened x (Refused r) m' ≡ open_fresh 16384 65536 8 1024 most real_codec m (grow_to 65536 0 65536 m).mem (grow_to 65536 0 65536 m).growth
  fresh_refused r h x is =
      let back : m' ≡ m = ap (λ (o : Outcome). o.mem) e ∙ not_grown m r (ap (λ (o : Outcome). o.growth) (sym e) ∙ h) in
      ap (λ (y : State). opened y (Refused r) m') is ∙ ap (λ (y : List ℕ). not_opened 16384 65536 8 1024 most real_codec 0 y r) back ∙ sym (fresh_is (Err r) h)

  fresh_stored : (n : StablePages)
      → opened (ended 16384 65536 8 1024 most real_codec n.0 (seal fresh [])) Done (store_in fresh [] m') ≡ open_fresh 16384 65536 8 1024 most real_codec m m' (Ok n)
  unfolding real_codec stored seal store_in
  fresh_stored n = refl

  pub fresh_grown : (n : StablePages) → g ≡ Ok n → (b : Superblock) → b ≡ fresh → (t : Stored) → t ≡ stores (seal b []) (store_in b [] m')
      → (s : State) → s ≡ ended 16384 65536 8 1024 most real_codec n.0 t.block
      → opened s Done t.mem ≡ open_fresh 16384 65536 8 1024 most real_codec m (grow_to 65536 0 65536 m).mem (grow_to 65536 0 65536 m).growth
  fresh_grown n h b b-is t t-is s s-is =
      ap (λ (x : State). opened x Done t.mem) s-is
      ∙ ap (λ (x : Stored). opened (ended 16384 65536 8 1024 most real_codec n.0 x.block) Done x.mem) t-is
      ∙ ap (λ (x : Superblock). opened (ended 16384 65536 8 1024 most real_codec n.0 (seal x [])) Done (store_in x [] m')) b-is
      ∙ fresh_stored n ∙ sym (fresh_is (Ok n) h)

-- ## At any count

module _ (n : ℕ) (m : List ℕ) where
  pub open_short : length m < n * 65536 → open_image 16384 65536 8 1024 most real_codec n m ≡ not_opened 16384 65536 8 1024 most real_codec n m BufferTooShort
  unfolding open_image
  open_short h = rw (lt-ltb (length m) (n * 65536) h)

  module _ (h : n * 65536 ≤ length m) where
    pub open_fresh_lem : n ≡ 0 → open_image 16384 65536 8 1024 most real_codec n m ≡ open_fresh 16384 65536 8 1024 most real_codec m (grow_to 65536 0 65536 m).mem (grow_to 65536 0 65536 m).growth
    unfolding open_image
    open_fresh_lem z = rw (le-ltb (length m) (n * 65536) h, eq-eqb n 0 z)

    module _ (nz : n ≡ 0 → ⊥) where
      open_loads : open_image 16384 65536 8 1024 most real_codec n m ≡ open_loaded 16384 65536 8 1024 most real_codec n m (load m)
      unfolding open_image real_codec
      open_loads = rw (le-ltb (length m) (n * 65536) h, ne_eqb n 0 nz)

      opens : (x : Loaded) → x ≡ load m → open_image 16384 65536 8 1024 most real_codec n m ≡ open_loaded 16384 65536 8 1024 most real_codec n m x
      opens x e = open_loads ∙ ap (λ (y : Loaded). open_loaded 16384 65536 8 1024 most real_codec n m y) (sym e)

      pub open_refused : (r : Refusal) → Err r ≡ load m → open_image 16384 65536 8 1024 most real_codec n m ≡ not_opened 16384 65536 8 1024 most real_codec n m r
      open_refused r e = opens (Err r) e

      -- the end of memory as the code has it
      module _ (b : Superblock) (e : Ok b ≡ load m) (end : ℕ) (at : end ≡ n * 65536) where
        opens_if : (t : Bool) → outside_of end b ≡ t → open_image 16384 65536 8 1024 most real_codec n m
            ≡ cond t (not_opened 16384 65536 8 1024 most real_codec n m ImageOutOfMemory) (opened (ended 16384 65536 8 1024 most real_codec n b) Done m)
        unfolding outside
        opens_if t is =
            opens (Ok b) e
            ∙ ap (λ (x : ℕ). cond (outside_of x b) (not_opened 16384 65536 8 1024 most real_codec n m ImageOutOfMemory) (opened (ended 16384 65536 8 1024 most real_codec n b) Done m)) (sym at)
            ∙ ap (λ (u : Bool). cond u (not_opened 16384 65536 8 1024 most real_codec n m ImageOutOfMemory) (opened (ended 16384 65536 8 1024 most real_codec n b) Done m)) is

        pub open_outside : outside_of end b ≡ true → open_image 16384 65536 8 1024 most real_codec n m ≡ not_opened 16384 65536 8 1024 most real_codec n m ImageOutOfMemory
        open_outside is = opens_if true is

        pub open_done : outside_of end b ≡ false → open_image 16384 65536 8 1024 most real_codec n m ≡ opened (ended 16384 65536 8 1024 most real_codec n b) Done m
        open_done is = opens_if false is

-- ## The closing (02, W-202)

module _ (first : State) (answer : Answer) (m : List ℕ) where
  pub close_none : (t : Bool) → t ≡ importing first.block → not t ≡ true → opened first answer m ≡ closing 16384 65536 8 1024 most real_codec (opened first answer m)
  close_none t e h = sym (closing_unmarked 16384 65536 8 1024 most real_codec (opened first answer m) (not_true t _ e h))

  pub close_done : (t : Bool) → t ≡ importing first.block → not t ≡ false → (s : State) (a : Answer) (m' : List ℕ) → OnMemory first m import_cancel s m' a []
      → opened s a m' ≡ closing 16384 65536 8 1024 most real_codec (opened first answer m)
  close_done t e h s a m' is = ap opened_by (is (bufs [] [] [] []) []) ∙ sym (closing_marked 16384 65536 8 1024 most real_codec (opened first answer m) (not_false t _ e h))

  pub open_closed : (n : ℕ) (given : List ℕ) → opened first answer m ≡ open_image 16384 65536 8 1024 most real_codec n given
      → (s : State) (a : Answer) (m' : List ℕ) → opened s a m' ≡ closing 16384 65536 8 1024 most real_codec (opened first answer m) → opened s a m' ≡ open' 16384 65536 8 1024 most real_codec n given
  open_closed n given e s a m' is = is ∙ ap (closing 16384 65536 8 1024 most real_codec) e ∙ sym (open_is 16384 65536 8 1024 most real_codec n given)

-- a refused opening leaves no image, and so no mark
pub refused_closed : (n : ℕ) (given m : List ℕ) (x : Result State Refusal) (r : Refusal) → x ≡ Err r → opened_as n x m ≡ open_image 16384 65536 8 1024 most real_codec n given
    → (s : State) → s ≡ ended 16384 65536 8 1024 most real_codec n no_block → opened s (Refused r) m ≡ open' 16384 65536 8 1024 most real_codec n given
unfolding importing
refused_closed n given m x r h e s is =
    let none : State = ended 16384 65536 8 1024 most real_codec n no_block in
    open_closed none (Refused r) m n given (ap (λ (y : Result State Refusal). opened_as n y m) (sym h) ∙ e) s (Refused r) m
    (ap (λ (y : State). opened y (Refused r) m) is ∙ close_none none (Refused r) m false refl refl)
