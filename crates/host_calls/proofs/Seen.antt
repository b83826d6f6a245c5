-- What is seen of a C call is what the store's definition makes of the state that the bytes hold.
use Rattle.std.specs.Prelude.{◌≡◌, ℕ, ◌*◌, ◌≤◌, Bool, true, false, List, eqb, length, take, cond}
use Rattle.std.proofs.Math.Path.{refl}
use Rattle.std.proofs.Common.{sym, ◌∙◌, subst, ne_eqb, ap}
use Rattle.config.specs.declared.refusal.Refusal.TheVariants.{BufferTooShort}
use Rattle.memory.specs.Bytes.{overwrite}
use Rattle.memory.specs.Laws.{split}
use Rattle.update.specs.ListLaws.{clash}
use Rattle.store.specs.declared.State.{State}
use Rattle.store.specs.Answers.{Answer}
use Rattle.store.specs.Cases.{by_test}
use Rattle.store.proofs.Grounds.{only_short}
use Rattle.store.proofs.WaysOut.{store_cases, store_short}
use Rattle.store.specs.Codec.{real_codec}
use Rattle.store.specs.Calls.{Call, begin, read, write, truncate, commit, rollback, file_size, import_begin, import_chunk, import_finish, import_cancel, export, checksum, refresh, refresh_step, Lent, Out, number, uses, Mode, idle, update, mode_of}
use Rattle.store.specs.Store.{do_export, do_checksum, alone, act, swept, refuse}
use Rattle.encoding.specs.StateBytes.{state_bytes, state_in, bytes_long}
use Rattle.encoding.specs.Called.{four, values, Shown, showing, pick, step_shown, answer_shown, Called, called_as, too_short, shown, told, refused_short, out_of, call, ask, call_short, ask_short}
use Rattle.plain_file.specs.Claim.{Reads, Kept, Direct, Unspoiled}
use Rattle.plain_file.specs.Sizes.{short', buffers_short', plain_of, Stays', Owed', Enough'}
use Rattle.plain_file.specs.Plain.{File, Plain, closed, drafting}
use Rattle.host_calls.specs.Made.{Made, looks, promised, gives, ByC}
use Rattle.host_calls.specs.HostClaim.{Untouched, Tells, HostReads, live, HostOwed, HostEnough, HostStays}
use Rattle.host_calls.specs.Seen.{Seen, right}

-- ## Calls that look leave the state

module _ (s : State) (l : Lent) where
  abbrev Stays : Out → Type 0
  Stays x = x.state ≡ s

  alone_stays : (c : Call) (x : Out) (t : Mode) → Stays x → Stays (alone 16384 65536 8 1024 18446744073709551615 real_codec s l c x t)
  alone_stays c x idle h = h
  alone_stays c x (update v) h = refl

  looks_stay : (c : Call) → looks c ≡ true → Stays (swept 16384 65536 8 1024 18446744073709551615 real_codec (uses c).work? (act 16384 65536 8 1024 18446744073709551615 real_codec s l c))
  unfolding do_export do_checksum
  looks_stay (begin g p b) e = clash e refl
  looks_stay (read o d) e = clash e refl
  looks_stay (write o bs) e = clash e refl
  looks_stay (truncate n) e = clash e refl
  looks_stay commit e = clash e refl
  looks_stay rollback e = clash e refl
  looks_stay file_size e = refl
  looks_stay (import_begin t x) e = clash e refl
  looks_stay (import_chunk o bs) e = clash e refl
  looks_stay import_finish e = clash e refl
  looks_stay import_cancel e = clash e refl
  looks_stay (export o d) e = alone_stays (export o d) _ (mode_of s) refl
  looks_stay checksum e = alone_stays checksum _ (mode_of s) refl
  looks_stay refresh e = clash e refl
  looks_stay (refresh_step n) e = clash e refl

  pub stays : (c : Call) → looks c ≡ true → Stays (out_of s l c)
  stays c e = store_cases 16384 65536 8 1024 18446744073709551615 real_codec s l c Stays (λ t. refl) (λ f b. refl) (λ f b. looks_stay c e)

-- ## A call by its cases

module _ (st an : List ℕ) (l : Lent) (c : Call) where
  abbrev x : Out
  x = out_of (state_in st) l c

  promised_short : too_short st an ≡ true → promised st an l c ≡ refused_short st an l c
  promised_short t = by_test (λ (y : Called). y ≡ refused_short st an l c) (looks c) _ _ (λ z. sym (ask_short st an l c t)) (λ z. sym (call_short st an l c t))

  ask_long : too_short st an ≡ false → ask st an l c ≡ told st an x
  unfolding ask
  ask_long f = rw f refl

  call_long : too_short st an ≡ false → call st an l c ≡ shown st an x
  unfolding call
  call_long f = rw f refl

  refuses : short' (state_in st) l c ≡ true → x ≡ refuse (state_in st) l c BufferTooShort
  refuses t = store_short 16384 65536 8 1024 18446744073709551615 real_codec (state_in st) l c t

  told_35 : told st an (refuse (state_in st) l c BufferTooShort) ≡ refused_short st an l c
  unfolding answer_shown
  told_35 = refl

  shown_35 : shown st an (refuse (state_in st) l c BufferTooShort) ≡ refused_short st an l c
  unfolding step_shown
  shown_35 = refl

  promised_35 : too_short st an ≡ false → short' (state_in st) l c ≡ true → promised st an l c ≡ refused_short st an l c
  promised_35 f t = by_test (λ (y : Called). y ≡ refused_short st an l c) (looks c) _ _
      (λ z. ask_long f ∙ ap (told st an) (refuses t) ∙ told_35) (λ z. call_long f ∙ ap (shown st an) (refuses t) ∙ shown_35)

  told_other : (y : Out) → (number y.answer ≡ 35 → ⊥) → told st an y ≡ called_as (showing (number y.answer) st (overwrite 0 (values y.answer) an)) y.lent y.filled
  unfolding answer_shown
  told_other y h = rw (ne_eqb (number y.answer) 35 h) refl

  abbrev stepped : Out → Shown
  stepped y = record { number = number y.answer; state = state_bytes y.state; next = y.state; answer = overwrite 0 (values y.answer) an }

  shown_other : (y : Out) → (number y.answer ≡ 35 → ⊥) → shown st an y ≡ called_as (stepped y) y.lent y.filled
  unfolding step_shown
  shown_other y h = rw (ne_eqb (number y.answer) 35 h) refl

module _ (e : Made) (h : ByC e) where
  abbrev y : Out
  y = out_of (state_in e.state) e.lent e.call

  by_refusal : promised e.state e.answer e.lent e.call ≡ refused_short e.state e.answer e.lent e.call → Untouched e
  by_refusal q =
      let r : gives e ≡ refused_short e.state e.answer e.lent e.call = h ∙ q in
      record {
        returned = ap (λ (z : Called). z.number) r;
        state = ap (λ (z : Called). z.state) r;
        answer = ap (λ (z : Called). z.answer) r;
        lent = ap (λ (z : Called). z.lent) r;
        filled = ap (λ (z : Called). z.filled) r;
      }

  pub untouched_short : too_short e.state e.answer ≡ true → Untouched e
  untouched_short t = by_refusal (promised_short e.state e.answer e.lent e.call t)

  pub untouched_35 : too_short e.state e.answer ≡ false → short' (state_in e.state) e.lent e.call ≡ true → Untouched e
  untouched_35 f t = by_refusal (promised_35 e.state e.answer e.lent e.call f t)

  seen_stepped : too_short e.state e.answer ≡ false → (number y.answer ≡ 35 → ⊥) → looks e.call ≡ false → gives e ≡ called_as (stepped e.state e.answer e.lent e.call y) y.lent y.filled
  seen_stepped f other t =
      h ∙ ap (λ (b : Bool). cond b (ask e.state e.answer e.lent e.call) (call e.state e.answer e.lent e.call)) t
      ∙ call_long e.state e.answer e.lent e.call f ∙ shown_other e.state e.answer e.lent e.call y other

  -- a call that does not only look writes the state that it leaves, in the library's own form
  pub bytes_left : too_short e.state e.answer ≡ false → (number y.answer ≡ 35 → ⊥) → looks e.call ≡ false → e.state' ≡ state_bytes y.state
  bytes_left f other t = ap (λ (z : Called). z.state) (seen_stepped f other t)

  -- THE CALL: what is seen is the definition's on the state in the bytes, and the bytes that are left hold its state
  pub seen : length e.state ≡ 336 → too_short e.state e.answer ≡ false → short' (state_in e.state) e.lent e.call ≡ false → Seen e y
  seen n f g =
      let other : number y.answer ≡ 35 → ⊥ = only_short 16384 65536 8 1024 18446744073709551615 real_codec (state_in e.state) e.lent e.call g in
      split (looks e.call)
      (λ t. let r : gives e ≡ called_as (showing (number y.answer) e.state (overwrite 0 (values y.answer) e.answer)) y.lent y.filled =
      h ∙ ap (λ (b : Bool). cond b (ask e.state e.answer e.lent e.call) (call e.state e.answer e.lent e.call)) t
      ∙ ask_long e.state e.answer e.lent e.call f ∙ told_other e.state e.answer e.lent e.call y other in
      record {
        returned = ap (λ (z : Called). z.number) r;
        answer = ap (λ (z : Called). z.answer) r;
        state = ap (λ (z : Called). z.next) r ∙ sym (stays (state_in e.state) e.lent e.call t);
        long = ap (λ (z : Called). length z.state) r ∙ n;
        lent = ap (λ (z : Called). z.lent) r;
        filled = ap (λ (z : Called). z.filled) r;
      })
      (λ t. let r : gives e ≡ called_as (stepped e.state e.answer e.lent e.call y) y.lent y.filled = seen_stepped f other t in
      record {
        returned = ap (λ (z : Called). z.number) r;
        answer = ap (λ (z : Called). z.answer) r;
        state = ap (λ (z : Called). z.next) r;
        long = ap (λ (z : Called). length z.state) r ∙ bytes_long y.state;
        lent = ap (λ (z : Called). z.lent) r;
        filled = ap (λ (z : Called). z.filled) r;
      })

-- ## What is owed of the definition is owed of the call

module _ (e : Made) (x : Out) (is : Seen e x) where
  mem_is : e.lent'.mem ≡ x.lent.mem
  mem_is = ap (λ (z : Lent). z.mem) is.lent

  tells : (a : Answer) (v : ℕ) → x.answer ≡ a → number a ≡ 0 → values a ≡ four v 0 0 0 → Tells v e
  tells a v q n z = record { returned = is.returned ∙ ap number q ∙ n; answer = is.answer ∙ ap (λ (b : Answer). overwrite 0 (values b) e.answer) q ∙ ap (λ (b : List ℕ). overwrite 0 b e.answer) z }

  reads_seen : (bytes : List ℕ) (o n : ℕ) → Reads bytes o n x → HostReads bytes o n e
  reads_seen bytes o n h = record { full = tells _ _ h.full refl refl; shown = is.filled ∙ h.shown }

  direct_seen : (end g : ℕ) (m : List ℕ) → Direct 18446744073709551615 end (number x.answer) g m x.lent.mem → Direct 18446744073709551615 end e.returned g m e.lent'.mem
  direct_seen end g m h = record {
    accepted = λ q. h.accepted (sym is.returned ∙ q);
    runs = λ q. h.runs (sym is.returned ∙ q);
    range = λ q. h.range (sym is.returned ∙ q);
    ceiling = λ q. h.ceiling (sym is.returned ∙ q);
    kept = λ q. mem_is ∙ h.kept (λ z. q (is.returned ∙ z));
  }

  kept_seen : (m b w : List ℕ) → Kept m b x.lent.mem w (x.state.count.0 * 65536) → Kept m b e.lent'.mem w (live e.state')
  kept_seen m b w h = record { call = mem_is ∙ h.call; began = ap (λ (z : State). take (z.count.0 * 65536) w) is.state ∙ h.began }

  stays_seen : (f : File) → Stays' f x → HostStays f e
  stays_seen f h = ap plain_of mem_is ∙ ap closed h

  pub enough_seen : (st : List ℕ) → Enough' (state_in st) e.lent x → HostEnough st e
  enough_seen st h = record {
    memory = λ q. subst (λ (z : State). z.count.0 * 65536 ≤ length e.lent.mem) (sym is.state) (h.memory q);
    buffers = λ q. subst (λ (z : State). buffers_short' (mode_of z) e.lent.bufs ≡ false) (sym is.state) (h.buffers q);
  }

  where_unspoiled : {A B : Type 0} (b : Bool) → (A → B) → Unspoiled b A → Unspoiled b B
  where_unspoiled true f h = tt
  where_unspoiled false f h = f h

  pub owed_seen : (p : Plain) (m : List ℕ) (c : Call) (w : Lent) → Owed' p m c e.lent x w → HostOwed p m e c w
  owed_seen (closed f) m (begin g a b) w h = tt
  owed_seen (closed f) m (read o d) w h = reads_seen f.bytes o (length d) h
  owed_seen (closed f) m (write o bs) w h = direct_seen _ _ _ h
  owed_seen (closed f) m (truncate n) w h = direct_seen _ _ _ h
  owed_seen (closed f) m commit w h = (is.returned ∙ h.0, mem_is ∙ h.1)
  owed_seen (closed f) m rollback w h = (is.returned ∙ h.0, mem_is ∙ h.1)
  owed_seen (closed f) m file_size w h = tells _ _ h refl refl
  owed_seen (closed f) m (import_begin a y) w h = stays_seen f h
  owed_seen (closed f) m (import_chunk o bs) w h = stays_seen f h
  owed_seen (closed f) m import_finish w h = λ q. stays_seen f (h (λ z. q (is.returned ∙ z)))
  owed_seen (closed f) m import_cancel w h = stays_seen f h
  owed_seen (closed f) m (export o d) w h = tt
  owed_seen (closed f) m checksum w h = tt
  owed_seen (closed f) m refresh w h = tt
  owed_seen (closed f) m (refresh_step n) w h = tt
  owed_seen (drafting f d) m (begin g a b) w h = tt
  owed_seen (drafting f d) m (read o dst) w h = where_unspoiled d.spoiled (reads_seen d.bytes o (length dst)) h
  owed_seen (drafting f d) m (write o bs) w h = tt
  owed_seen (drafting f d) m (truncate n) w h = tt
  owed_seen (drafting f d) m commit w h = (where_unspoiled d.spoiled (λ q. is.returned ∙ q) h.0, λ q. kept_seen m e.lent.mem w.mem (h.1 (λ z. q (is.returned ∙ z))))
  owed_seen (drafting f d) m rollback w h = (is.returned ∙ h.0, kept_seen m e.lent.mem w.mem h.1)
  owed_seen (drafting f d) m file_size w h = where_unspoiled d.spoiled (λ q. tells _ _ q refl refl) h
  owed_seen (drafting f d) m (import_begin a y) w h = tt
  owed_seen (drafting f d) m (import_chunk o bs) w h = tt
  owed_seen (drafting f d) m import_finish w h = tt
  owed_seen (drafting f d) m import_cancel w h = tt
  owed_seen (drafting f d) m (export o dst) w h = tt
  owed_seen (drafting f d) m checksum w h = tt
  owed_seen (drafting f d) m refresh w h = tt
  owed_seen (drafting f d) m (refresh_step n) w h = tt

-- ## The equations can be met

module _ (st an : List ℕ) (l : Lent) (c : Call) (held : state_in (state_bytes (out_of (state_in st) l c).state) ≡ (out_of (state_in st) l c).state) where
  abbrev Held : Called → Type 0
  Held y = state_in y.state ≡ y.next

  step_held : (b : Bool) (n : ℕ) (an' : List ℕ) → state_in (pick b (showing n st an) (record { number = n; state = state_bytes (out_of (state_in st) l c).state; next = (out_of (state_in st) l c).state; answer = an' })).state
      ≡ (pick b (showing n st an) (record { number = n; state = state_bytes (out_of (state_in st) l c).state; next = (out_of (state_in st) l c).state; answer = an' })).next
  step_held true n an' = refl
  step_held false n an' = held

  look_held : (b : Bool) (n : ℕ) (an' : List ℕ) → state_in (pick b (showing n st an) (showing n st an')).state ≡ (pick b (showing n st an) (showing n st an')).next
  look_held true n an' = refl
  look_held false n an' = refl

  promised_held : Held (promised st an l c)
  unfolding call ask step_shown answer_shown
  promised_held = by_test Held (looks c) _ _
      (λ t. by_test Held (too_short st an) _ _ (λ z. refl) (λ z. look_held (eqb (number (out_of (state_in st) l c).answer) 35) _ _))
      (λ t. by_test Held (too_short st an) _ _ (λ z. refl) (λ z. step_held (eqb (number (out_of (state_in st) l c).answer) 35) _ _))

  pub right_by_c : ByC (right st an l c)
  right_by_c = λ i. record { number = (promised st an l c).number; state = (promised st an l c).state; next = promised_held i; lent = (promised st an l c).lent; answer = (promised st an l c).answer; filled = (promised st an l c).filled }
