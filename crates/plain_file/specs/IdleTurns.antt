-- One call with no update open: what is owed is paid, and the invariant holds again.
use Rattle.std.specs.Prelude.{◌≡◌, Bool, not, ◌&&◌, ◌||◌, ltb, take, drop, Ok}
use Rattle.std.proofs.Math.Path.{refl, sym, ap}
use Rattle.std.proofs.Common.{◌∙◌, subst, add-mul, one-mul, arith}
use Prim.Native.Nat.{ℕ, ◌+◌, ◌-◌, ◌*◌, ◌/◌, ◌≤◌, ◌<◌, max, min}
use Rattle.std.proofs.Math.Nat.{mul-le-mul_right}
use Rattle.std.proofs.Math.Bool.{true, false, cond}
use mathlib.Core.List.{List, []}
use Rattle.std.proofs.Math.Dec.{leb, eqb}
use Rattle.std.proofs.Math.ListN.{length, get_or, get_or-eq_default}
use borrow.Author.Tests.{ltb-true, ltb-false, eqb-true, eqb-false, ne_eqb}
use Rattle.config.specs.Refusals.{numbers_of}
use Rattle.config.specs.Pages.{page_lo}
use Rattle.config.specs.declared.refusal.Refusal.{Refusal}
use Rattle.config.specs.declared.refusal.Refusal.TheVariants.{ImportAlreadyStarted, ChecksumMismatch}
use Rattle.memory.specs.Bytes.{overwrite}
use Rattle.memory.specs.Laws.{split, length-overwrite, overwrite_lo}
use Rattle.memory.specs.Growth.{stable}
use Rattle.meta.specs.declared.superblock.Superblock.{Superblock}
use Rattle.meta.specs.Runs.{normalized_nil}
use Rattle.update.specs.declared.Overlay.{Overlay}
use Rattle.update.specs.declared.Budget.{Budget}
use Rattle.update.specs.ListLaws.{clash, tests}
use Rattle.update.specs.Image.{image_byte}
use Rattle.update.specs.Update.{Over, raw, truncated, written, fresh, Tried, accepted, refused, try_write, try_truncate}
use Rattle.update.specs.Buffers.{frame_count, entry_count, cached, view, overlay_of}
use Rattle.update.specs.BufferLaws.{cached_put, view_fresh}
use Rattle.update.specs.Refused.{Weak, Outcome, write_out, truncate_out}
use Rattle.update.specs.Reading.{reads}
use Rattle.store.specs.declared.State.{State}
use Rattle.store.specs.Cases.{by_test, not_false}
use Rattle.store.specs.Tries.{RefusedBy, write_by, truncate_by}
use Rattle.store.specs.Answers.{Answer}
use Rattle.store.specs.Answers.{Done, Size, Read, Checksum, Refused}
use Rattle.store.specs.Codec.{Codec, sealed, stored}
use Rattle.store.specs.Blocks.{importing, refreshing, after_import_begin, after_import_chunk, after_import_cancel, after_import_finish, after_refresh, after_refresh_step}
use Rattle.store.proofs.BlockLaws.{after_begin, begin_keeps, after_chunk, after_finish, refresh_keeps, refresh_imports, step_keeps, step_imports, seal_importing}
use Rattle.store.specs.Blocks.{Keeps, KeepsImport, ImportBegins, ChunkKeeps, Finishes}
use Rattle.store.specs.Calls.{Call, begin, read, write, truncate, commit, rollback, file_size, import_begin, import_chunk, import_finish, import_cancel, export, checksum, refresh, refresh_step, Lent, Out, out, number, uses, idle, short, cleared, with_mem}
use Rattle.store.specs.Store.{resting, working, onward, budget_of, image, image_bytes, image_sum, commit_over, direct, do_begin, restore, do_import_begin, place_chunk, do_import_chunk, do_import_finish, do_import_cancel, do_export, do_checksum, do_refresh, progress, refresh_from, do_refresh_step, act, swept, barred, refuse}
use Rattle.store.specs.Lawful.{Fits, Lawful, Good}
use Rattle.store.proofs.MemoryLaws.{grow_cases, stored-length}
use Rattle.store.specs.Facts.{Reaches, Carries, Apart}
use Rattle.store.proofs.RestoreLaws.{cancel_carries, restore_good}
use Rattle.store.proofs.WaysOut.{barred_is, only_changes}
use Rattle.plain_file.specs.Plain.{File, Draft, Plain, closed, drafting, copied, draft_write, draft_truncate, verdict_number, file_ground, file_of, changed}
use Rattle.plain_file.specs.Claim.{Direct, Lends, leaves, at_begin, Word}
use Rattle.plain_file.specs.Invariant.{Draws, Inv, good_near, file_near, inv_back, file_alike}
use Rattle.plain_file.specs.Ends.{file-length, file_byte, Committed, committed}
use Rattle.plain_file.specs.Restored.{restore_file}
use Rattle.plain_file.specs.Turns.{Turned, mem_lent, draws_write, draws_truncate, inv_done, inv_swept, closed_inv}

module _ (P S C L M : ℕ) (k : Codec) (pos : 0 < P) (spos : 0 < S) (wide : P ≤ S) (laws : Lawful S L M k) where
  -- ## An image's bytes, at any offset

  module _ (c : ℕ) (h : Superblock) (a : List ℕ) (f : File) (g : Good S L M k c h a) (e : f ≡ file_of P S L M k a) where
    is-length : length f.bytes ≡ h.db_size
    is-length = ap (λ (x : File). length x.bytes) e ∙ file-length P S C L M k pos spos laws c h a g

    image_all : (o : ℕ) → image P S C L M k h a o ≡ get_or f.bytes o 0
    unfolding image_byte
    image_all o = split (ltb o h.db_size)
        (λ t. sym (ap (λ (x : File). get_or x.bytes o 0) e ∙ file_byte P S C L M k pos spos laws c h a g o (ltb-true o h.db_size t)))
        (λ n. rw (image_byte, n) (sym (get_or-eq_default f.bytes 0 (omega (arith, tests, is-length)))))

    -- an update that has just begun shows the file
    fresh_draws : (b : Budget) → Draws P (image P S C L M k h a) h.db_size (fresh P h.db_size b) (copied f)
    unfolding fresh copied raw
    fresh_draws b = record {
      like = record {
        size_is = sym is-length;
        same_as = λ o j. image_all o;
        shape = record { low = λ q j. refl; sized = tt };
        masked = λ o p q. absurd (omega (arith, is-length));
      };
      numbers_is = refl;
      recorded_is = refl;
    }

  fresh_weak : (x : ℕ → ℕ) (z : ℕ) (b : Budget) → z ≤ M → Weak P C M x (fresh P z b)
  unfolding fresh
  fresh_weak x z b h = record { sized = tt; distinct = tt; cached = tt; few = omega arith; range = h; ends = tt; filled = tt }

  -- ## The turns with no update open

  module _ (c : ℕ) (h : Superblock) (v : Overlay) (f : File) (m : List ℕ) (w l : Lent)
      (i : Inv P S C L M k (resting c h v) (closed f) m w) (t : Lends P S C L M k (resting c h v) w l) where
    abbrev s : State
    s = resting c h v

    same : Inv P S C L M k s (closed f) m (leaves P S C L M k l w)
    same = inv_back P S C L M k laws s (closed f) m l w t i

    module _ (b : Call) (um : (uses b).mem? ≡ true) (e : short P S C L s l b ≡ false) where
      lent_long : c * S ≤ length l.mem
      lent_long = mem_lent P S C L M k s l b um e

      lent_alike : (n : ℕ) → n < c * S → get_or l.mem n 0 ≡ get_or w.mem n 0
      lent_alike n j = t.mem n j (omega (arith, lent_long))

      lent_good : Good S L M k c h l.mem
      lent_good = good_near P S C L M k laws c h w.mem l.mem i.0 lent_alike lent_long

      lent_file : f ≡ file_of P S L M k l.mem
      lent_file = i.1 ∙ sym (file_near P S C L M k laws c h w.mem l.mem i.0 lent_alike lent_long)

    module _ (b : Budget) where
      abbrev u : Over
      u = fresh P h.db_size b

      abbrev o : Overlay
      o = overlay_of P C h.db_size u

      none_cached : length (cached P C o.cache) ≡ 0
      unfolding fresh
      none_cached = ap length (cached_put P C h.db_size u (omega arith))

      fresh_view : view P C o (leaves P S C L M k l w).bufs ≡ u
      unfolding fresh
      fresh_view = view_fresh P C h.db_size u (leaves P S C L M k l w).bufs refl refl refl

      begin_busy : Inv P S C L M k (working c h o) (drafting f (copied f)) (take (c * S) (leaves P S C L M k l w).mem) (leaves P S C L M k l w)
      unfolding overlay_of fresh
      begin_busy = (
        same.0,
        same.1,
        record {
          began = refl;
          begun = refl;
          numbers = omega arith;
          frames = omega arith;
          recs = omega arith;
          clean = rw none_cached (omega arith);
          few = rw none_cached (omega arith);
          facts = rw fresh_view record {
            weak = fresh_weak _ h.db_size b (omega (arith, same.0.range));
            draws = λ z. fresh_draws c h (leaves P S C L M k l w).mem f same.0 same.1 b;
          };
        },
      )

    begin_turn : (g : Bool) (a z : ℕ) (b : Bool) → Turned P S C L M k (closed f) m (begin g a z) l (do_begin P S C L M k s l (budget_of g a z) b idle) w
    begin_turn g a z true = record { owed = tt; inv = same }
    begin_turn g a z false = record { owed = tt; inv = begin_busy (budget_of g a z) }

    read_turn : (o : ℕ) (dst : List ℕ) → short P S C L s l (read o dst) ≡ false → Turned P S C L M k (closed f) m (read o dst) l (act P S C L M k s l (read o dst)) w
    unfolding image_bytes
    read_turn o dst e =
        let g : Good S L M k c h l.mem = lent_good (read o dst) refl e in
        let q : f ≡ file_of P S L M k l.mem = lent_file (read o dst) refl e in
        let n : ℕ = length dst in
        record {
          owed = record {
            full = ap (λ (x : ℕ). Read (eqb n 0 || leb (o + n) x)) (sym (is-length c h l.mem f g q));
            shown = reads (image P S C L M k h l.mem) f.bytes (image_all c h l.mem f g q) o n;
          };
          inv = same;
        }

    size_turn : Turned P S C L M k (closed f) m file_size l (act P S C L M k s l file_size) w
    size_turn = record { owed = ap Size (sym (is-length c h w.mem f i.0 i.1)); inv = same }

    -- ## Direct calls

    abbrev img : ℕ → ℕ
    img = image P S C L M k h l.mem

    -- a refusal other than 20, of a call that itself ends at or below the largest number
    abbrev NotRange : ℕ → Refusal → Type 0
    NotRange end r = end ≤ M → (numbers_of r).number ≡ 20 → ⊥

    -- the old last page ends within the numbers: the image lies behind the first stable page, which is no smaller than a page
    old_end : Good S L M k c h l.mem → (Q : Type 0) → ltb M ((h.db_size / P + 1) * P) ≡ true → Q
    old_end g Q t = absurd (omega (arith, ltb-true M ((h.db_size / P + 1) * P) t, add-mul (h.db_size / P) 1 P, one-mul P, page_lo P pos h.db_size, g.range, g.base_low, wide))

    module _ (G : Draft → Draft) (g : Good S L M k c h l.mem) (q : f ≡ file_of P S L M k l.mem) where
      direct_owed : (end : ℕ) (tr : Tried) (x : Over) → Outcome (Weak P C M img) tr x → Draws P img h.db_size x (G (copied f))
          → RefusedBy (NotRange end) tr → Direct M end (number (direct P S C L M k s l tr).answer) (verdict_number (file_ground P S L M f (G (copied f)) (length l.mem))) l.mem (direct P S C L M k s l tr).lent.mem
      direct_owed end (accepted u) x a y n =
          let cm : Committed P S C L M k pos spos laws c h l.mem u (commit_over P S C L M k false s l h.db_size u) = committed P S C L M k pos spos laws false s l g u a.1 in
          let e : number (commit_over P S C L M k false s l h.db_size u).answer ≡ verdict_number (file_ground P S L M f (G (copied f)) (length l.mem)) =
          cm.ground f (G (copied f)) q (subst (λ (r : Over). Draws P img h.db_size r (G (copied f))) (sym a.0) y) in
          record { accepted = λ z. sym e ∙ z; runs = λ z. sym e ∙ z; range = λ z q. sym e ∙ z; ceiling = λ z. sym e ∙ z; kept = cm.kept }
      direct_owed end (refused r u) x a y n = record { accepted = λ z. absurd (a.0.0 z); runs = λ z. absurd (a.0.1 z); range = λ z q. absurd (n (omega (arith, q)) z); ceiling = λ z. absurd (a.0.2 z); kept = λ z. refl }

      direct_file : (u : Over) (y : Out) (now : List ℕ) (b : Bool) → eqb (number y.answer) 0 ≡ b → Committed P S C L M k pos spos laws c h l.mem u y
          → Draws P img h.db_size u (G (copied f))
          → Inv P S C L M k y.state (changed P S L M k b G (length l.mem) (closed f)) (at_begin P S C L M k (closed f) (changed P S L M k b G (length l.mem) (closed f)) m now) y.lent
      direct_file u y now true e cm r = closed_inv P S C L M k pos spos laws c h l.mem u y [] _ cm (sym (cm.file f (G (copied f)) q r))
      direct_file u y now false e cm r = closed_inv P S C L M k pos spos laws c h l.mem u y [] f cm (q ∙ ap (file_of P S L M k) (sym (cm.kept (eqb-false (number y.answer) 0 e))))

      direct_inv : (tr : Tried) (x : Over) (now : List ℕ) → Outcome (Weak P C M img) tr x → Draws P img h.db_size x (G (copied f))
          → Inv P S C L M k (direct P S C L M k s l tr).state (changed P S L M k (eqb (number (direct P S C L M k s l tr).answer) 0) G (length l.mem) (closed f))
          (at_begin P S C L M k (closed f) (changed P S L M k (eqb (number (direct P S C L M k s l tr).answer) 0) G (length l.mem) (closed f)) m now) (direct P S C L M k s l tr).lent
      direct_inv (accepted u) x now a y =
          direct_file u (commit_over P S C L M k false s l h.db_size u) now _ refl (committed P S C L M k pos spos laws false s l g u a.1)
          (subst (λ (r : Over). Draws P img h.db_size r (G (copied f))) (sym a.0) y)
      direct_inv (refused r u) x now a y = rw (ne_eqb (numbers_of r).number 0 a.0.0) (g, q)

      -- a change that is tried on an update that has just begun
      direct_turn : (b : Call) (tr : Tried) (x : Over) → Outcome (Weak P C M img) tr x → Draws P img h.db_size x (G (copied f))
          → (p : Plain) → p ≡ changed P S L M k (eqb (number (direct P S C L M k s l tr).answer) 0) G (length l.mem) (closed f)
          → (now : List ℕ) → Inv P S C L M k (direct P S C L M k s l tr).state p (at_begin P S C L M k (closed f) p m now) (leaves P S C L M k (cleared (direct P S C L M k s l tr).lent) w)
      direct_turn b tr x a y p e now =
          subst (λ (p : Plain). Inv P S C L M k (direct P S C L M k s l tr).state p (at_begin P S C L M k (closed f) p m now) (leaves P S C L M k (cleared (direct P S C L M k s l tr).lent) w)) (sym e)
          (inv_swept P S C L M k pos spos laws (direct P S C L M k s l tr) _ _ w (direct_inv tr x now a y))

    write_turn : (o : ℕ) (bs : List ℕ) → short P S C L s l (write o bs) ≡ false → Turned P S C L M k (closed f) m (write o bs) l (swept P S C L M k true (act P S C L M k s l (write o bs))) w
    unfolding fresh
    write_turn o bs e =
        let g : Good S L M k c h l.mem = lent_good (write o bs) refl e in
        let q : f ≡ file_of P S L M k l.mem = lent_file (write o bs) refl e in
        let F : ℕ = frame_count P l.bufs in
        let R : ℕ = entry_count l.bufs in
        let u : Over = fresh P h.db_size (budget_of false 0 0) in
        let tr : Tried = try_write P M F R img o bs u in
        let a : Outcome (Weak P C M img) tr (written P img o bs u) = write_out P C M pos img F R o bs u (fresh_weak img h.db_size (budget_of false 0 0) (omega (arith, g.range))) in
        let r : Draws P img h.db_size (written P img o bs u) (draft_write P o bs (copied f)) = draws_write P pos img h.db_size u (copied f) (fresh_draws c h l.mem f g q (budget_of false 0 0)) o bs in
        let near : RefusedBy (NotRange (o + length bs)) tr = write_by (NotRange (o + length bs)) (λ z e. omega arith) (λ z e. omega arith) (λ z e. omega arith) P M F R img u (old_end g _) o bs (λ t z e. omega (arith, ltb-true M (o + length bs) t)) in
        record {
          owed = direct_owed (draft_write P o bs) g q (o + length bs) tr (written P img o bs u) a r near;
          inv = direct_turn (draft_write P o bs) g q (write o bs) tr (written P img o bs u) a r _ refl _;
        }

    truncate_turn : (n : ℕ) → n ≤ M → short P S C L s l (truncate n) ≡ false → Turned P S C L M k (closed f) m (truncate n) l (swept P S C L M k true (act P S C L M k s l (truncate n))) w
    unfolding fresh
    truncate_turn n word e =
        let g : Good S L M k c h l.mem = lent_good (truncate n) refl e in
        let q : f ≡ file_of P S L M k l.mem = lent_file (truncate n) refl e in
        let F : ℕ = frame_count P l.bufs in
        let R : ℕ = entry_count l.bufs in
        let u : Over = fresh P h.db_size (budget_of false 0 0) in
        let tr : Tried = try_truncate P M F R img n u in
        let a : Outcome (Weak P C M img) tr (truncated P img n u) = truncate_out P C M pos img F R n u word (fresh_weak img h.db_size (budget_of false 0 0) (omega (arith, g.range))) in
        let r : Draws P img h.db_size (truncated P img n u) (draft_truncate P n (copied f)) = draws_truncate P pos img h.db_size u (copied f) (fresh_draws c h l.mem f g q (budget_of false 0 0)) n in
        let near : RefusedBy (NotRange n) tr = truncate_by (NotRange n) (λ z e. omega arith) (λ z e. omega arith) (λ z e. omega arith) P M F R img u (old_end g _) n in
        record {
          owed = direct_owed (draft_truncate P n) g q n tr (truncated P img n u) a r near;
          inv = direct_turn (draft_truncate P n) g q (truncate n) tr (truncated P img n u) a r _ refl _;
        }

    commit_turn : Turned P S C L M k (closed f) m commit l (swept P S C L M k true (act P S C L M k s l commit)) w
    unfolding leaves
    commit_turn = record { owed = (refl, refl); inv = same }

    -- ## Imports, export, checksums

    module _ (g : Good S L M k c h l.mem) (q : f ≡ file_of P S L M k l.mem) where
      -- a block stored, the plain file as it was
      kept_inv : (h' : Superblock) (r : Answer) → Carries S M c h h' → Inv P S C L M k (restore P S C L M k s l h' r).state (closed f) m (leaves P S C L M k (restore P S C L M k s l h' r).lent w)
      unfolding restore
      kept_inv h' r y = inv_done P S C L M k pos spos laws (restore P S C L M k s l h' r) (closed f) m w (restore_good P S C L M k laws c h h' l.mem g y, q ∙ sym (restore_file P S C L M k pos spos laws c h h' l.mem g y))

      -- or set from memory
      set_inv : (h' : Superblock) (r : Answer) → Carries S M c h h' → Inv P S C L M k (restore P S C L M k s l h' r).state (closed (file_of P S L M k (restore P S C L M k s l h' r).lent.mem)) [] (leaves P S C L M k (restore P S C L M k s l h' r).lent w)
      unfolding restore
      set_inv h' r y = inv_done P S C L M k pos spos laws (restore P S C L M k s l h' r) (closed (file_of P S L M k (restore P S C L M k s l h' r).lent.mem)) [] w (restore_good P S C L M k laws c h h' l.mem g y, refl)

      -- the image in memory is the file: as it was lent, and with a block stored
      stays : file_of P S L M k l.mem ≡ f
      stays = sym q

      stays_stored : (h' : Superblock) (r : Answer) → Carries S M c h h' → file_of P S L M k (restore P S C L M k s l h' r).lent.mem ≡ f
      unfolding restore
      stays_stored h' r y = restore_file P S C L M k pos spos laws c h h' l.mem g y ∙ stays

      stable_low : S ≤ c * S
      stable_low = omega (arith, g.base_low, g.inside)

      import_carries : (a b : ℕ) → c * S + a ≤ M → Carries S M c h (after_import_begin a b (c * S) h)
      import_carries a b r =
          let n : ImportBegins a (c * S) (after_import_begin a b (c * S) h) = after_begin a b (c * S) h in
          record {
            keeps = begin_keeps a b (c * S) h;
            import_low = λ z. omega (arith, n.base_is, stable_low);
            import_inside = λ z. omega (arith, n.base_is, n.written);
            import_range = λ z. omega (arith, n.base_is, n.total_is);
          }

      -- an import is what it was
      same_carries : (h' : Superblock) → Keeps h h' → KeepsImport h h' → Carries S M c h h'
      same_carries h' a b = record {
        keeps = a;
        import_low = λ z. omega (arith, g.import_low (sym b.mark ∙ z), b.base);
        import_inside = λ z. omega (arith, g.import_inside (sym b.mark ∙ z), b.base, b.written);
        import_range = λ z. omega (arith, g.import_range (sym b.mark ∙ z), b.base, b.total);
      }

      import_begin_lem : (a b : ℕ) → Turned P S C L M k (closed f) m (import_begin a b) l (do_import_begin P S C L M k s l a b) w
      unfolding do_import_begin restore
      import_begin_lem a b =
          let Q : Out → Type 0 = λ z. Turned P S C L M k (closed f) m (import_begin a b) l z w in
          by_test Q (importing h) _ _
          (λ x. record { owed = stays; inv = same })
          (λ n. by_test Q (ltb M (c * S + a)) _ _
          (λ x. record { owed = stays; inv = same })
          (λ x. let y : Carries S M c h (after_import_begin a b (c * S) h) = import_carries a b (ltb-false M (c * S + a) x) in
          record { owed = stays_stored (after_import_begin a b (c * S) h) Done y; inv = set_inv (after_import_begin a b (c * S) h) Done y }))

      import_cancel_lem : Turned P S C L M k (closed f) m import_cancel l (do_import_cancel P S C L M k s l) w
      unfolding do_import_cancel restore
      import_cancel_lem =
          let Q : Out → Type 0 = λ z. Turned P S C L M k (closed f) m import_cancel l z w in
          by_test Q (not (importing h)) _ _
          (λ x. record { owed = stays; inv = same })
          (λ n. record { owed = stays_stored (after_import_cancel h) Done (cancel_carries S M c h); inv = set_inv (after_import_cancel h) Done (cancel_carries S M c h) })

      refresh_turn : Turned P S C L M k (closed f) m refresh l (do_refresh P S C L M k s l) w
      unfolding do_refresh restore
      refresh_turn =
          let x : ℕ = image_sum P S C L M k h l.mem in
          record { owed = tt; inv = kept_inv (after_refresh x h) (Checksum x) (same_carries (after_refresh x h) (refresh_keeps x h) (refresh_imports x h)) }

      from_turn : (n a x : ℕ) → Turned P S C L M k (closed f) m (refresh_step n) l (refresh_from P S C L M k s l n a x) w
      unfolding refresh_from restore
      from_turn n a x =
          let Q : Out → Type 0 = λ z. Turned P S C L M k (closed f) m (refresh_step n) l z w in
          let e : ℕ = max a (min h.db_size (a + n)) in
          let y : ℕ = k.hash x (image_bytes P S C L M k h l.mem a (e - a)) in
          by_test Q (eqb e h.db_size) _ _
          (λ z. record { owed = tt; inv = kept_inv (after_refresh y h) (progress P S C L M k true y e h.db_size) (same_carries (after_refresh y h) (refresh_keeps y h) (refresh_imports y h)) })
          (λ z. record { owed = tt; inv = kept_inv (after_refresh_step e y h) (progress P S C L M k false y e h.db_size) (same_carries (after_refresh_step e y h) (step_keeps e y h) (step_imports e y h)) })

      step_turn : (n : ℕ) → Turned P S C L M k (closed f) m (refresh_step n) l (do_refresh_step P S C L M k s l n) w
      unfolding do_refresh_step
      step_turn n =
          let Q : Out → Type 0 = λ z. Turned P S C L M k (closed f) m (refresh_step n) l z w in
          by_test Q (eqb n 0) _ _
          (λ x. record { owed = tt; inv = same })
          (λ a. by_test Q (importing h) _ _
          (λ x. record { owed = tt; inv = same })
          (λ b. by_test Q (refreshing h && eqb h.checksum_refresh_tx_id h.last_tx_id) _ _
          (λ x. from_turn n h.checksum_refresh_offset h.checksum_refresh_hash)
          (λ x. from_turn n 0 k.seed)))

      -- the end of an import
      finish_good : (x : ℕ) → importing h ≡ true → h.import_written_until ≡ h.import_total_size
          → Good S L M k c (sealed k (after_import_finish P x h) []) (stored k (after_import_finish P x h) [] l.mem)
      finish_good x y z =
          let b : Superblock = after_import_finish P x h in
          let n : Finishes h b = after_finish P x h in
          let fw : Fits L M b [] = record { few = omega arith; counted = n.count; size = omega (arith, g.import_range y, n.size); base = omega (arith, g.import_range y, n.base); ends = tt; sorted = normalized_nil } in
          let long : S ≤ length l.mem = omega (arith, stable_low, g.lent) in
          let rs : k.runs_in b.zero_extent_count (stored k b [] l.mem) ≡ [] = ap (λ (j : ℕ). k.runs_in j (stored k b [] l.mem)) n.count ∙ laws.runs_is b [] l.mem fw long in
          let no : importing (sealed k b []) ≡ false = seal_importing (k.sum b []) b ∙ n.mark in
          record {
            size_is = laws.size_is b [] l.mem fw long;
            base_is = laws.base_is b [] l.mem fw long;
            count_is = laws.count_is b [] l.mem fw long ∙ sym n.count;
            counted = ap length rs ∙ sym n.count;
            few = omega (arith, n.count);
            sorted = rw rs normalized_nil;
            ends = rw rs tt;
            base_low = omega (arith, g.import_low y, n.base);
            inside = omega (arith, g.import_inside y, n.base, n.size);
            range = omega (arith, g.import_range y, n.base, n.size);
            lent = omega (arith, g.lent, stored-length S L M k laws b [] fw l.mem);
            import_low = λ v. clash v no;
            import_inside = λ v. clash v no;
            import_range = λ v. clash v no;
          }

      import_finish_lem : Turned P S C L M k (closed f) m import_finish l (do_import_finish P S C L M k s l) w
      unfolding do_import_finish restore
      import_finish_lem =
          let Q : Out → Type 0 = λ z. Turned P S C L M k (closed f) m import_finish l z w in
          let x : ℕ = k.hash k.seed (take h.import_total_size (drop h.import_base_offset l.mem)) in
          let b : Superblock = after_import_finish P x h in
          by_test Q (not (importing h)) _ _
          (λ a. record { owed = λ z. stays; inv = same })
          (λ a. by_test Q (not (eqb h.import_written_until h.import_total_size)) _ _
          (λ e. record { owed = λ z. stays; inv = same })
          (λ e. by_test Q (not (eqb x h.import_expected_checksum)) _ _
          (λ d. let r : Answer = Refused (ChecksumMismatch h.import_expected_checksum x) in
          record { owed = λ z. stays_stored (after_import_cancel h) r (cancel_carries S M c h); inv = kept_inv (after_import_cancel h) r (cancel_carries S M c h) })
          (λ d. record {
            owed = λ z. absurd (z refl);
            inv = inv_done P S C L M k pos spos laws (out (onward s c (sealed k b [])) (with_mem (stored k b [] l.mem) l) Done []) (closed (file_of P S L M k (stored k b [] l.mem))) [] w
                (finish_good x (not_false _ a) (eqb-true h.import_written_until h.import_total_size (not_false _ e)), refl);
          })))

      -- a chunk: memory grew, and the bytes are put behind what was written
      module _ (reach o : ℕ) (bs : List ℕ) (y : importing h ≡ true) (past : h.db_base_offset + h.db_size ≤ h.import_base_offset) (r : ℕ) (grown : List ℕ) (rc : Reaches S c reach l.mem r grown)
          (end : h.import_base_offset + (o + length bs) ≤ r * S) where
        abbrev put : List ℕ
        put = overwrite (h.import_base_offset + o) bs grown

        first_same : (j : ℕ) → j < S → get_or put j 0 ≡ get_or l.mem j 0
        first_same j lt = overwrite_lo (h.import_base_offset + o) bs grown j (omega (arith, g.import_low y)) ∙ rc.same j (omega (arith, stable_low))

        -- the chunk lies past the file's bytes
        file_same : (j : ℕ) → j < h.db_base_offset + h.db_size → get_or put j 0 ≡ get_or l.mem j 0
        file_same j lt = overwrite_lo (h.import_base_offset + o) bs grown j (omega (arith, past)) ∙ rc.same j (omega (arith, g.inside))

        put-length : length put ≡ length l.mem
        put-length = length-overwrite (h.import_base_offset + o) bs grown ∙ rc.same_length

        block_same : k.decode put ≡ k.decode l.mem
        block_same = laws.near_block put l.mem first_same

        runs_same : (n : ℕ) → k.runs_in n put ≡ k.runs_in n l.mem
        runs_same n = laws.near_runs n put l.mem (omega (arith, put-length, stable_low, g.lent)) (omega (arith, stable_low, g.lent)) first_same

        chunk_good : Good S L M k r h put
        chunk_good = record {
          size_is = ap (λ (x : Superblock). x.db_size) block_same ∙ g.size_is;
          base_is = ap (λ (x : Superblock). x.db_base_offset) block_same ∙ g.base_is;
          count_is = ap (λ (x : Superblock). x.zero_extent_count) block_same ∙ g.count_is;
          counted = ap length (runs_same h.zero_extent_count) ∙ g.counted;
          few = g.few;
          sorted = rw (runs_same h.zero_extent_count) g.sorted;
          ends = rw (runs_same h.zero_extent_count) g.ends;
          base_low = g.base_low;
          inside = omega (arith, g.inside, mul-le-mul_right S rc.more);
          range = g.range;
          lent = omega (arith, rc.lent, put-length);
          import_low = g.import_low;
          import_inside = λ z. omega (arith, g.import_inside z, mul-le-mul_right S rc.more);
          import_range = g.import_range;
        }

        chunk_carries : Carries S M r h (after_import_chunk (o + length bs) h)
        chunk_carries =
            let n : ChunkKeeps (o + length bs) h (after_import_chunk (o + length bs) h) = after_chunk (o + length bs) h in
            record {
              keeps = n.keeps;
              import_low = λ z. omega (arith, g.import_low y, n.base);
              import_inside = λ z. omega (arith, end, n.base, n.written_is);
              import_range = λ z. omega (arith, g.import_range y, n.base, n.total);
            }

        chunk_placed : Turned P S C L M k (closed f) m (import_chunk o bs) l (place_chunk P S C L M k s l o bs grown (Ok (stable r))) w
        unfolding restore
        chunk_placed =
            let x : Out = restore P S C L M k (onward s r h) (with_mem put l) (after_import_chunk (o + length bs) h) Done in
            record {
              owed = restore_file P S C L M k pos spos laws r h (after_import_chunk (o + length bs) h) put chunk_good chunk_carries
                  ∙ file_alike P S C L M k laws c h l.mem put g first_same file_same (omega (arith, put-length, stable_low, g.lent)) ∙ stays;
              inv = inv_done P S C L M k pos spos laws x (closed (file_of P S L M k x.lent.mem)) [] w (restore_good P S C L M k laws r h (after_import_chunk (o + length bs) h) put chunk_good chunk_carries, refl);
            }

      import_chunk_lem : Apart s → (o : ℕ) (bs : List ℕ) → Turned P S C L M k (closed f) m (import_chunk o bs) l (do_import_chunk P S C L M k s l o bs) w
      unfolding do_import_chunk
      import_chunk_lem apart o bs =
          let Q : Out → Type 0 = λ z. Turned P S C L M k (closed f) m (import_chunk o bs) l z w in
          let e : ℕ = o + length bs in
          let n : ℕ = cond (eqb (length bs) 0) 0 (h.import_base_offset + e) in
          by_test Q (not (importing h)) _ _
          (λ a. record { owed = stays; inv = same })
          (λ a. by_test Q (not (eqb o h.import_written_until)) _ _
          (λ b. record { owed = stays; inv = same })
          (λ b. by_test Q (ltb M e) _ _
          (λ d. record { owed = stays; inv = same })
          (λ d. by_test Q (ltb h.import_total_size e) _ _
          (λ u. record { owed = stays; inv = same })
          (λ u. by_test Q (ltb M (h.import_base_offset + e)) _ _
          (λ x. record { owed = stays; inv = same })
          (λ x. grow_cases S spos c n l.mem g.lent (λ gr m'. Q (place_chunk P S C L M k s l o bs m' gr))
          (λ r m' rc reach. chunk_placed n o bs (not_false _ a) (apart (not_false _ a)).past r m' rc
          (split (eqb (length bs) 0)
          (λ z. omega (arith, tests, g.import_inside (not_false _ a), eqb-true o h.import_written_until (not_false _ b), mul-le-mul_right S rc.more))
          (λ z. let k1 : n ≡ h.import_base_offset + e = rw z in omega (arith, rc.reach))))
          (λ full. record { owed = stays; inv = same }))))))

    -- ## A direct call while an import is open

    -- the answer is none of the commit's, and memory is as it was
    barred_owed : (end ground : ℕ) → Direct M end 10 ground l.mem l.mem
    barred_owed end ground = record { accepted = λ z. absurd (omega (arith, z)); runs = λ z. absurd (omega (arith, z)); range = λ z q. absurd (omega (arith, z)); ceiling = λ z. absurd (omega (arith, z)); kept = λ z. refl }

    pub barred_turn : (b : Call) → barred s b ≡ true → Turned P S C L M k (closed f) m b l (refuse s l b ImportAlreadyStarted) w
    barred_turn b e = only_changes (λ x. Turned P S C L M k (closed f) m x l (refuse s l x ImportAlreadyStarted) w)
        (λ o bs. record { owed = barred_owed _ _; inv = same }) (λ n. record { owed = barred_owed _ _; inv = same }) b (barred_is s b e).changes_is

    -- ## Every other call

    pub idle_turn : Apart s → (b : Call) → Word P S C L M k b → short P S C L s l b ≡ false → Turned P S C L M k (closed f) m b l (swept P S C L M k (uses b).work? (act P S C L M k s l b)) w
    unfolding do_export do_checksum
    idle_turn apart (begin g a b) z e = begin_turn g a b (importing h)
    idle_turn apart (read o dst) z e = read_turn o dst e
    idle_turn apart (write o bs) z e = write_turn o bs e
    idle_turn apart (truncate n) z e = truncate_turn n z e
    idle_turn apart commit z e = commit_turn
    idle_turn apart rollback z e = record { owed = (refl, refl); inv = same }
    idle_turn apart file_size z e = size_turn
    idle_turn apart (import_begin a b) z e = import_begin_lem (lent_good (import_begin a b) refl e) (lent_file (import_begin a b) refl e) a b
    idle_turn apart (import_chunk o bs) z e = import_chunk_lem (lent_good (import_chunk o bs) refl e) (lent_file (import_chunk o bs) refl e) apart o bs
    idle_turn apart import_finish z e = import_finish_lem (lent_good import_finish refl e) (lent_file import_finish refl e)
    idle_turn apart import_cancel z e = import_cancel_lem (lent_good import_cancel refl e) (lent_file import_cancel refl e)
    idle_turn apart (export o dst) z e = record { owed = tt; inv = same }
    idle_turn apart checksum z e = record { owed = tt; inv = same }
    idle_turn apart refresh z e = refresh_turn (lent_good refresh refl e) (lent_file refresh refl e)
    idle_turn apart (refresh_step n) z e = step_turn (lent_good (refresh_step n) refl e) (lent_file (refresh_step n) refl e) n
