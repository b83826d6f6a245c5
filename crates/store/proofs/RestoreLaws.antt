-- A block stored anew, with the image's runs as they are: an image that was in order stays so.
use Rattle.std.specs.Prelude.{◌≡◌, ℕ, ◌≤◌, true, List, length}
use Rattle.std.proofs.Common.{sym, ap, ◌∙◌, arith}
use Rattle.meta.specs.declared.superblock.Superblock.{Superblock}
use Rattle.meta.specs.declared.ZeroExtent.{ZeroExtent}
use Rattle.update.specs.ListLaws.{clash}
use Rattle.store.specs.Codec.{Codec, sealed, stored}
use Rattle.store.specs.Blocks.{importing, after_import_cancel}
use Rattle.store.proofs.BlockLaws.{cancel_keeps, after_cancel, seal_importing}
use Rattle.store.specs.Store.{runs_of}
use Rattle.store.specs.Lawful.{Fits, Lawful, Good}
use Rattle.store.proofs.MemoryLaws.{stored-length}
use Rattle.store.specs.Facts.{Carries}

pub cancel_carries : (S M c : ℕ) (h : Superblock) → Carries S M c h (after_import_cancel h)
cancel_carries S M c h = record { keeps = cancel_keeps h; import_low = λ z. clash z (after_cancel h); import_inside = λ z. clash z (after_cancel h); import_range = λ z. clash z (after_cancel h) }

module _ (P S C L M : ℕ) (k : Codec) (laws : Lawful S L M k) (c : ℕ) (h h' : Superblock) (a : List ℕ) (g : Good S L M k c h a) (y : Carries S M c h h') where
  abbrev rs : List ZeroExtent
  rs = runs_of P S C L M k h' a

  pub runs_carried : rs ≡ runs_of P S C L M k h a
  runs_carried = ap (λ (n : ℕ). k.runs_in n a) y.keeps.runs

  counted : length rs ≡ h'.zero_extent_count
  counted = ap length runs_carried ∙ g.counted ∙ sym y.keeps.runs

  pub carried : Fits L M h' rs
  carried = record {
    few = omega (arith, counted, y.keeps.runs, g.few);
    counted = sym counted;
    size = omega (arith, g.range, y.keeps.size);
    base = omega (arith, g.range, y.keeps.base);
    ends = rw runs_carried g.ends;
    sorted = rw runs_carried g.sorted;
  }

  -- memory has the first stable page
  pub stable_lent : S ≤ length a
  stable_lent = omega (arith, g.base_low, g.inside, g.lent)

  abbrev now : List ℕ
  now = stored k h' rs a

  runs_now : runs_of P S C L M k h' now ≡ rs
  runs_now = ap (λ (n : ℕ). k.runs_in n now) (sym counted) ∙ laws.runs_is h' rs a carried stable_lent

  was : importing (sealed k h' rs) ≡ true → importing h' ≡ true
  was z = sym (seal_importing (k.sum h' rs) h') ∙ z

  pub restore_good : Good S L M k c (sealed k h' rs) now
  restore_good = record {
    size_is = laws.size_is h' rs a carried stable_lent;
    base_is = laws.base_is h' rs a carried stable_lent;
    count_is = laws.count_is h' rs a carried stable_lent ∙ counted;
    counted = ap length runs_now ∙ counted;
    few = omega (arith, y.keeps.runs, g.few);
    sorted = rw runs_now carried.sorted;
    ends = rw runs_now carried.ends;
    base_low = omega (arith, g.base_low, y.keeps.base);
    inside = omega (arith, g.inside, y.keeps.base, y.keeps.size);
    range = omega (arith, g.range, y.keeps.base, y.keeps.size);
    lent = omega (arith, g.lent, stored-length S L M k laws h' rs carried a);
    import_low = λ z. y.import_low (was z);
    import_inside = λ z. y.import_inside (was z);
    import_range = λ z. y.import_range (was z);
  }
