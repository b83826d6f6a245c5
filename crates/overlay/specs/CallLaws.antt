-- The calls by their first tests: what is left is said of the settled overlay.
use Rattle.std.specs.Prelude.{◌≡◌, true, false, not, List, Ok, Err}
use Rattle.std.proofs.Math.Path.{sym, ap}
use Rattle.std.proofs.Common.{◌∙◌}
use Prim.Native.Nat.{ℕ, ◌+◌, ◌/◌, ◌≤◌, ◌<◌, max}
use Rattle.std.proofs.Math.ListN.{length}
use borrow.Author.Tests.{lt-ltb, le-ltb, eq-eqb, ne_eqb}
use Rattle.config.specs.declared.refusal.Refusal.{Refusal}
use Rattle.config.specs.declared.refusal.Refusal.TheVariants.{OffsetOverflow, BufferTooShort}
use Rattle.update.specs.declared.Overlay.{Overlay}
use Rattle.update.specs.declared.Image.{Image}
use Rattle.update.specs.Pages.{span}
use Rattle.update.specs.Image.{image_in}
use Rattle.update.specs.Update.{Over, whole_page, copy, Tried, accepted, refused, and_then, keep_size, try_touch_all, try_grow_to, try_truncate, truncate_reach, try_write}
use Rattle.update.specs.Buffers.{Buffers, frame_count, entry_count, short_buffers, view}
use Rattle.update.specs.Laid.{laid, leave, settle, resized, wrote}
use Rattle.update.specs.StepLaws.{with_size, keep_accepted, keep_refused}
use Rattle.update.specs.PushLaws.{accepted_same, refused_same}
use Rattle.update.specs.SettleLaws.{settle_view, settle_leave, settle_fits}
use Rattle.overlay.specs.Calls.{write_at, truncate_to}

module _ (P C : ℕ) (pos : 0 < P) (M : ℕ) (i : Image) (mem : List ℕ) (v : Overlay) (l : Buffers) where
  abbrev F : ℕ
  F = frame_count P l

  abbrev R : ℕ
  R = entry_count l

  abbrev b : ℕ → ℕ
  b = image_in P i mem

  abbrev W : Overlay
  W = settle P C v

  -- a change of the settled overlay
  settle_change : (n : ℕ) (f : Over → Tried) → leave P C W l n (f (view P C W l)) ≡ leave P C v l n (f (view P C v l))
  settle_change n f = settle_leave P C v l n (f (view P C W l)) ∙ ap (λ (x : Over). leave P C v l n (f x)) (settle_view P C v l)

  -- ## Truncation

  pub truncate_short : (n : ℕ) → short_buffers P C v l ≡ true → laid v l (Err BufferTooShort) ≡ truncate_to P C M i mem v l n
  unfolding truncate_to
  truncate_short n t = rw t

  pub truncate_long : (n : ℕ) → short_buffers P C v l ≡ false → resized P C M i mem W l n ≡ truncate_to P C M i mem v l n
  unfolding truncate_to resized settle
  truncate_long n f =
      let r : Over → ℕ = truncate_reach P M F R b n in
      rw f (settle_change (max v.dirty (r (view P C W l))) (try_truncate P M F R b n)
      ∙ ap (λ (x : Over). leave P C v l (max v.dirty (r x)) (try_truncate P M F R b n (view P C v l))) (settle_view P C v l))

  -- ## Writes

  module _ (o : ℕ) (bs : List ℕ) where
    pub write_short : short_buffers P C v l ≡ true → laid v l (Err BufferTooShort) ≡ write_at P C M i mem v l o bs
    unfolding write_at
    write_short t = rw t

    module _ (f : short_buffers P C v l ≡ false) where
      pub write_empty : length bs ≡ 0 → laid W l (Ok tt) ≡ write_at P C M i mem v l o bs
      unfolding write_at try_write settle
      write_empty e = rw (f, eq-eqb (length bs) 0 e) (sym (accepted_same P C pos W l (settle_fits P C v l f) 0) ∙ settle_change v.dirty accepted)

      pub write_over : (length bs ≡ 0 → ⊥) → M < o + length bs → laid W l (Err OffsetOverflow) ≡ write_at P C M i mem v l o bs
      unfolding write_at try_write settle
      write_over n h = rw (f, ne_eqb (length bs) 0 n, lt-ltb M (o + length bs) h) (sym (refused_same P C pos W l (settle_fits P C v l f) 0 OffsetOverflow) ∙ settle_change v.dirty (refused OffsetOverflow))

      abbrev T : Over → Tried
      T x = and_then (try_grow_to P M F R b (o + length bs) x) (try_touch_all P M F R b (not (whole_page P o (length bs))) (copy P o bs) (o / P) (span P o (length bs)))

      write_is : (length bs ≡ 0 → ⊥) → o + length bs ≤ M → leave P C W l v.dirty (keep_size v.size (T (view P C W l))) ≡ write_at P C M i mem v l o bs
      unfolding write_at try_write view
      write_is n h = rw (f, ne_eqb (length bs) 0 n, le-ltb M (o + length bs) h) (settle_change v.dirty (λ x. keep_size v.size (T x)))

      module _ (n : length bs ≡ 0 → ⊥) (h : o + length bs ≤ M) (v1 : Overlay) (l1 : Buffers) where
        pub write_done : wrote P C M i mem W l o bs ≡ laid v1 l1 (Ok tt) → laid v1 l1 (Ok tt) ≡ write_at P C M i mem v l o bs
        unfolding wrote settle
        write_done e = sym (keep_accepted P C pos W l (settle_fits P C v l f) v.size v.dirty (T (view P C W l)) v1 l1 e) ∙ write_is n h

        pub write_refused : (r : Refusal) → wrote P C M i mem W l o bs ≡ laid v1 l1 (Err r) → laid (with_size v.size v1) l1 (Err r) ≡ write_at P C M i mem v l o bs
        unfolding wrote settle
        write_refused r e = sym (keep_refused P C pos W l (settle_fits P C v l f) v.size v.dirty (T (view P C W l)) v1 l1 r e) ∙ write_is n h
