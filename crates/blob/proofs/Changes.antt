-- A closure that does to the overlay what its write or its truncation does is a change.
use Rattle.std.specs.Prelude.{◌≡◌, refl, ℕ, Bool, true, ◌&&◌, List}
use Rattle.std.proofs.Common.{sym, ◌∙◌}
use Rattle.update.specs.declared.Overlay.{Overlay}
use Rattle.update.specs.declared.Stored.{Stored}
use Rattle.update.specs.declared.Image.{Image}
use Rattle.update.specs.Buffers.{Buffers}
use Rattle.update.specs.Verdict.{Verdict}
use Rattle.update.specs.Laid.{Laid, laid}
use Rattle.overlay.specs.Calls.{write_at, truncate_to}
use Rattle.store.specs.declared.State.{State}
use Rattle.store.specs.Calls.{Call, write, truncate}
use Rattle.store.specs.Store.{changes, import_bars, barred}
use Rattle.transfer.specs.OnMemory.{lent}
use Rattle.settling.specs.ChangeLaws.{change_short, change_barred, write_leaves, write_is, truncate_leaves, truncate_is}
use Rattle.blob.specs.Change.{Changer, Slices, seen, Makes, IsChange}
use denote.Ref.{MutBor}

abbrev pub written : ℕ → List ℕ → Image → List ℕ → Overlay → Buffers → Laid
written o bs i m v b = write_at 16384 8 18446744073709551615 i m v b o bs

abbrev pub resized : ℕ → Image → List ℕ → Overlay → Buffers → Laid
resized n i m v b = truncate_to 16384 8 18446744073709551615 i m v b n

module _ {F : Type 0} (g : Changer F) (f : F) where
  -- f does what `to` says
  abbrev pub Does : (Image → List ℕ → Overlay → Buffers → Laid) → Type 0
  Does to = (v v' : MutBor Overlay) (i : Stored) (b b' : Slices) (a : Verdict)
      → g.post f (v, (i, b)) (a, (v', b')) → laid v'.now (seen b') a ≡ to i.image i.mem.now v.now (seen b)

  made : (to : Image → List ℕ → Overlay → Buffers → Laid) → Does to → (i : Image) (m : List ℕ) (v : Overlay) (b : Buffers) (x : Laid)
      → Makes g f i m v b x
      → laid x.overlay x.bufs x.verdict ≡ to i m v b
  made to does i m v b x k =
      (λ j. laid (sym k.left.0 j) (sym k.left.1 j) x.verdict)
      ∙ does k.overlay k.overlay' k.stored k.slices k.slices' x.verdict k.met
      ∙ (λ j. to (k.given.0 j) (k.given.1 j) (k.given.2 j) (k.given.3 j))

  module _ (s : State) (m w : List ℕ) (b : Buffers) (changed : Bool) where
    bars : (c : Call) → changed ≡ changes c → (changed && import_bars s) ≡ barred s c
    bars c e = λ i. e i && import_bars s

    pub write_change : (o : ℕ) (bs : List ℕ) → changed ≡ changes (write o bs) → Does (written o bs) → IsChange g f s (lent m b w) changed (write o bs)
    write_change o bs is does = record {
      first = λ h. sym (change_short s (lent m b w) (write o bs) refl h);
      second = λ h t. sym (change_barred s (lent m b w) (write o bs) refl h (sym (bars (write o bs) is) ∙ t));
      after = λ x h t k.
          let e = made (written o bs) does _ _ _ _ x k in
          (write_leaves s m w b h _ _ _ o bs e, write_is s m w b h _ _ _ o bs e (sym (bars (write o bs) is) ∙ t));
    }

    pub truncate_change : (n : ℕ) → changed ≡ true → Does (resized n) → IsChange g f s (lent m b w) changed (truncate n)
    truncate_change n is does = record {
      first = λ h. sym (change_short s (lent m b w) (truncate n) refl h);
      second = λ h t. sym (change_barred s (lent m b w) (truncate n) refl h (sym (bars (truncate n) is) ∙ t));
      after = λ x h t k.
          let e = made (resized n) does _ _ _ _ x k in
          (truncate_leaves s m w b h _ _ _ n e, truncate_is s m w b h _ _ _ n e (sym (bars (truncate n) is) ∙ t));
    }
