-- A block stored anew keeps the plain file, and so does the closing of an import at opening.
use Rattle.std.specs.Prelude.{◌≡◌, ℕ, ◌+◌, ◌/◌, ◌≤◌, ◌<◌, List}
use Rattle.std.proofs.Math.Path.{sym, ap}
use Rattle.std.proofs.Common.{◌∙◌}
use native.Mathlib.Omega.{arith}
use Rattle.std.proofs.Math.Bool.{cond}
use Rattle.std.proofs.Math.ListN.{length, get_or}
use borrow.Author.Tests.{lt-ltb}
use Rattle.memory.specs.Laws.{split}
use Rattle.meta.specs.declared.superblock.Superblock.{Superblock}
use Rattle.meta.specs.declared.ZeroExtent.{ZeroExtent}
use Rattle.words.specs.Words.{Bytes}
use Rattle.runs.specs.Sets.{covers}
use Rattle.update.specs.Image.{image_byte}
use Rattle.store.specs.Codec.{Codec, stored}
use Rattle.store.specs.Blocks.{importing, after_import_cancel}
use Rattle.store.specs.Calls.{number}
use Rattle.store.specs.Store.{runs_of}
use Rattle.store.specs.Opening.{Opened, open_image, open'}
use Rattle.store.specs.Lawful.{Fits, Lawful, Good}
use Rattle.store.proofs.MemoryLaws.{stored_high}
use Rattle.store.proofs.RestoreLaws.{cancel_carries, runs_carried, carried, stable_lent}
use Rattle.store.specs.Facts.{Carries}
use Rattle.store.proofs.OpeningLaws.{Opens, image_mem, image_opens}
use Rattle.store.proofs.ClosingLaws.{open_unmarked, open_answer, open_closes}
use Rattle.plain_file.specs.Plain.{File, file_of}
use Rattle.plain_file.specs.Ends.{file_is, file-length, file_base, file_runs, file_byte}

module _ (P S C L M : ℕ) (k : Codec) (pos : 0 < P) (spos : 0 < S) (laws : Lawful S L M k) where
  module _ (c : ℕ) (h h' : Superblock) (a : List ℕ) (g : Good S L M k c h a) (y : Carries S M c h h') where
    abbrev rs : List ZeroExtent
    rs = runs_of P S C L M k h' a

    abbrev now : List ℕ
    now = stored k h' rs a

    fits : Fits L M h' rs
    fits = carried P S C L M k laws c h h' a g y

    long : S ≤ length a
    long = stable_lent P S C L M k laws c h h' a g y

    pub restore_file : file_of P S L M k now ≡ file_of P S L M k a
    unfolding image_byte
    restore_file =
        let f : File = file_of P S L M k a in
        let z : length f.bytes ≡ h.db_size = file-length P S C L M k pos spos laws c h a g in
        let b : f.base ≡ h.db_base_offset = file_base P S C L M k pos spos laws c h a g in
        let r : f.runs ≡ runs_of P S C L M k h a = file_runs P S C L M k pos spos laws c h a g in
        file_is P S L M k now f
        (laws.size_is h' rs a fits long ∙ y.keeps.size ∙ sym z)
        (laws.base_is h' rs a fits long ∙ y.keeps.base ∙ sym b)
        (ap (λ (n : ℕ). k.runs_in n now) (laws.count_is h' rs a fits long) ∙ laws.runs_is h' rs a fits long ∙ runs_carried P S C L M k laws c h h' a g y ∙ sym r)
        (λ o j. let lt : o < h.db_size = omega arith in
        let e1 : get_or now (f.base + o) 0 ≡ get_or a (h.db_base_offset + o) 0 =
        stored_high S L M k laws h' rs fits a (f.base + o) (omega (arith, g.base_low)) ∙ ap (λ (x : ℕ). get_or a (x + o) 0) b in
        (λ i. cond (covers (r i) (o / P)) 0 (e1 i))
        ∙ sym (file_byte P S C L M k pos spos laws c h a g o lt ∙ rw (image_byte, lt-ltb o h.db_size lt)))

  -- 02, W-202: the plain file that an opening sets is the one of the memory before the closing: size, bytes, base and runs are the same
  pub opened_file : (n : ℕ) (m : List ℕ) → Bytes m → length m ≤ M → number (open' P S C L M k n m).answer ≡ 0
      → file_of P S L M k (open' P S C L M k n m).mem ≡ file_of P S L M k (open_image P S C L M k n m).mem
  opened_file n m bytes most ok =
      let x : Opened = open_image P S C L M k n m in
      let b : Superblock = x.state.block in
      let o : Opens P S C L M k spos laws x = image_opens P S C L M k spos laws n m bytes most (ap number (sym (open_answer P S C L M k spos n m)) ∙ ok) in
      split (importing b)
      (λ t. ap (file_of P S L M k) (open_closes P S C L M k spos n m t).mem
      ∙ restore_file x.state.count.0 b (after_import_cancel b) x.mem o.good (cancel_carries S M x.state.count.0 b))
      (λ f. ap (λ (y : Opened). file_of P S L M k y.mem) (open_unmarked P S C L M k spos n m f))

  -- of an image that was there, the one of the memory that was given
  pub opened_file_given : (n : ℕ) (m : List ℕ) → Bytes m → length m ≤ M → (n ≡ 0 → ⊥) → number (open' P S C L M k n m).answer ≡ 0 → file_of P S L M k (open' P S C L M k n m).mem ≡ file_of P S L M k m
  opened_file_given n m bytes most some ok = opened_file n m bytes most ok ∙ ap (file_of P S L M k) (image_mem P S C L M k spos n m some)
