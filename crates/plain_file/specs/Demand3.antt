-- DEMAND 3: the store meets the claim.
use Rattle.std.specs.Prelude.{◌≡◌, refl, ℕ, ◌+◌, ◌*◌, ◌≤◌, ◌<◌, Bool, true, false, take}
use Rattle.std.proofs.Common.{sym, subst, arith, ap}
use mathlib.Core.List.{List, [], ◌∷◌}
use Rattle.config.specs.declared.refusal.Refusal.TheVariants.{ImportAlreadyStarted, BufferTooShort}
use Rattle.memory.specs.Laws.{split}
use Rattle.meta.specs.declared.superblock.Superblock.{Superblock}
use Rattle.update.specs.declared.Overlay.{Overlay}
use Rattle.update.specs.ListLaws.{clash}
use Rattle.store.specs.declared.State.{State}
use Rattle.store.specs.Codec.{Codec, real_codec}
use Rattle.store.specs.Calls.{Call, Lent, Out, uses, Mode, idle, update, mode_if, mode_of, short, with_mem}
use Rattle.store.specs.Store.{made, refuse, act, swept, store, barred}
use Rattle.store.proofs.WaysOut.{update_free, store_cases, store_short}
use Rattle.store.specs.Facts.{Apart}
use Rattle.store.proofs.ImportLaws.{apart_after}
use Rattle.store.specs.Opening.{open'}
use Rattle.store.specs.Lawful.{Lawful}
use Rattle.store.proofs.OpeningLaws.{Opens}
use Rattle.store.proofs.ClosingLaws.{opens, no_import}
use Rattle.store.proofs.BufferLengths.{count_lent, buffers_again}
use Rattle.store.specs.RealCodec.{real_lawful}
use Rattle.plain_file.specs.Plain.{Plain, closed, drafting, file_of, plain_step}
use Rattle.plain_file.specs.Claim.{Lends, leaves, Turn, told, at_begin, Word, Promise, Claim}
use Rattle.plain_file.specs.Invariant.{Inv, InvMode, inv_back}
use Rattle.plain_file.specs.Turns.{Turned, update_turn}
use Rattle.plain_file.specs.IdleTurns.{barred_turn, idle_turn}

-- pages and stable pages have a byte, and a stable page is no smaller than a page
module _ (P S C L M : ℕ) (k : Codec) (pos : 0 < P) (spos : 0 < S) (wide : P ≤ S) (laws : Lawful S L M k) where
  abbrev ours : State → Lent → Call → Out
  ours = store P S C L M k

  -- 10 right after 35
  bar : (c : ℕ) (h : Superblock) (u : Bool) (v : Overlay) (p : Plain) (m : List ℕ) (w l : Lent) (b : Call) → InvMode P S C L M k (mode_if u v) (made c h u v) p m w → Lends P S C L M k (made c h u v) w l
      → barred (made c h u v) b ≡ true → Turned P S C L M k p m b l (refuse (made c h u v) l b ImportAlreadyStarted) w
  bar c h false v (closed f) m w l b i t e = barred_turn P S C L M k pos spos wide laws c h v f m w l i t b e
  bar c h false v (drafting f d) m w l b i t e = absurd i
  bar c h true v p m w l b i t e = clash e (update_free (made c h true v) b refl)

  turn : (c : ℕ) (h : Superblock) (u : Bool) (v : Overlay) (p : Plain) (m : List ℕ) (w l : Lent) (b : Call) → InvMode P S C L M k (mode_if u v) (made c h u v) p m w → Apart (made c h u v) → Lends P S C L M k (made c h u v) w l → Word P S C L M k b
      → short P S C L (made c h u v) l b ≡ false → Turned P S C L M k p m b l (swept P S C L M k (uses b).work? (act P S C L M k (made c h u v) l b)) w
  turn c h false v (closed f) m w l b i a t z e = idle_turn P S C L M k pos spos wide laws c h v f m w l i t a b z e
  turn c h false v (drafting f d) m w l b i a t z e = absurd i
  turn c h true v (closed f) m w l b i a t z e = absurd i
  turn c h true v (drafting f d) m w l b i a t z e = update_turn P S C L M k pos spos laws c h v f d m w l i t b z e

  done_turn : (s : State) (p : Plain) (m : List ℕ) (w l : Lent) (b : Call) → Inv P S C L M k s p m w → Apart s → Lends P S C L M k s w l → Word P S C L M k b → short P S C L s l b ≡ false → Turned P S C L M k p m b l (ours s l b) w
  done_turn s p m w l b i a t z e = store_cases P S C L M k s l b (λ x. Turned P S C L M k p m b l x w) (λ y. clash y e)
      (λ f y. bar s.count.0 s.block s.updating s.overlay p m w l b i t y)
      (λ f y. turn s.count.0 s.block s.updating s.overlay p m w l b i a t z e)

  -- the image lies within the count
  inside : (t : Mode) (s : State) (p : Plain) (m : List ℕ) (w : Lent) → InvMode P S C L M k t s p m w → s.block.db_base_offset + s.block.db_size ≤ s.count.0 * S
  inside idle s (closed f) m w i = i.0.inside
  inside idle s (drafting f d) m w i = absurd i
  inside (update v) s (closed f) m w i = absurd i
  inside (update v) s (drafting f d) m w i = i.0.inside

  -- one induction over the list
  keeps : (s : State) (p : Plain) (m : List ℕ) (w : Lent) → Inv P S C L M k s p m w → Apart s → (ts : List (Turn P S C L M k)) → Promise P S C L M k ours s p m w ts
  keeps s p m w i a [] = tt
  keeps s p m w i a (t ∷ ts) = λ lends word. split (short P S C L s t.lent t.call)
      (λ e. rw e (
      let q : ours s t.lent t.call ≡ refuse s t.lent t.call BufferTooShort = store_short P S C L M k s t.lent t.call e in (
        record { answer = ap (λ (x : Out). x.answer) q; state = ap (λ (x : Out). x.state) q; lent = ap (λ (x : Out). x.lent) q; filled = ap (λ (x : Out). x.filled) q },
        keeps s p m (leaves P S C L M k (ours s t.lent t.call).lent w)
            (subst (λ (x : Out). Inv P S C L M k s p m (leaves P S C L M k x.lent w)) (sym q) (inv_back P S C L M k laws s p m t.lent w lends i)) a ts,
      )))
      (λ e. rw e (
      let x : Out = ours s t.lent t.call in
      let p' : Plain = plain_step P S L M k p t.call (told P S C L M k t.lent x) in
      let w' : Lent = leaves P S C L M k x.lent w in
      let r : Turned P S C L M k p m t.call t.lent x w = done_turn s p m w t.lent t.call i a lends word e in (
        r.owed,
        record { memory = λ h. omega (arith, count_lent P S C L M k spos s t.lent h t.call); buffers = λ h. buffers_again P S C L M k pos s t.lent h t.call },
        keeps x.state p' (at_begin P S C L M k p p' m (take (x.state.count.0 * S) w'.mem)) w' r.inv
            (apart_after P S C L M k s t.lent t.call (inside (mode_of s) s p m w i) a) ts,
      )))

  -- every store of this shape, whatever its sizes and its lawful codec
  pub meets : Claim P S C L M k ours
  unfolding Claim
  meets n w bytes most ok ts =
      let x : Opens P S C L M k spos laws (open' P S C L M k n w.mem) = opens P S C L M k spos n w.mem laws bytes most ok in
      keeps (open' P S C L M k n w.mem).state (closed (file_of P S L M k (open' P S C L M k n w.mem).mem)) [] (with_mem (open' P S C L M k n w.mem).mem w)
      (subst (λ (u : Bool). InvMode P S C L M k (mode_if u (open' P S C L M k n w.mem).state.overlay) (open' P S C L M k n w.mem).state (closed (file_of P S L M k (open' P S C L M k n w.mem).mem)) [] (with_mem (open' P S C L M k n w.mem).mem w))
      (sym x.idle) (x.good, refl))
      (λ z. clash z (no_import P S C L M k spos n w.mem))
      ts

-- THE THEOREM: at 01's sizes, with 01's superblock and hash
pub demand3 : Claim 16384 65536 8 1024 18446744073709551615 real_codec (store 16384 65536 8 1024 18446744073709551615 real_codec)
demand3 = meets 16384 65536 8 1024 18446744073709551615 real_codec (omega arith) (omega arith) (omega arith) real_lawful
