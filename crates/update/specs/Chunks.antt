-- A read and a write of an update in the steps that the code takes: page by page, each with the bytes that lie in it.
use Rattle.std.specs.Prelude.{◌≡◌, Bool, true, cond, ◌||◌, List, [], ◌∷◌, ◌++◌, ltb, eqb, length, take, drop, get_or}
use Rattle.std.proofs.Math.Path.{refl, sym, ap}
use Rattle.std.proofs.Common.{◌∙◌, mod-lt, div-add-mod', add-zero, zero-add, suc-add, arith, length-take, length-drop, get_or-take, get_or-drop, lt-ltb, le-ltb, eq-eqb, ne_eqb}
use Prim.Native.Nat.{ℕ, zero, suc, ◌+◌, ◌-◌, ◌*◌, ◌/◌, ◌%◌, ◌≤◌, ◌<◌, min}
use Rattle.std.proofs.Math.Bool.{false, or-true}
use Rattle.std.proofs.Math.Seq.{drop-nil}
use Rattle.config.specs.Pages.{count, page_lo, page_at, page_place, count_lt, lt_count}
use Rattle.memory.specs.Bytes.{zeros, filled}
use Rattle.memory.specs.Laws.{split, below}
use Rattle.runs.specs.Sets.{covers}
use Rattle.update.specs.Lists.{tabulate, tabulate_from}
use Rattle.update.specs.ListLaws.{clash, if_lt, if_ge, tabulate_at, tabulate_alike, tabulate_from-alike}
use Rattle.update.specs.Pages.{Page, holds, page_byte, span}
use Rattle.update.specs.PageLaws.{byte_clean}
use Rattle.update.specs.Image.{image_page}
use Rattle.update.specs.Update.{Over, raw, over_byte, touch, blank, copy, look_up, read_over, read_bytes, Tried, and_then, try_touch, try_touch_all}
use Rattle.update.specs.Changes.{copy_in, copy_lo, copy_hi}

-- ## A read

-- of the pages after the first k, the last is still there
last_held : (k : ℕ) (c : List Page) (g : Page) → k ≤ length c → holds (drop k (c ++ g ∷ [])) g.number ≡ true
last_held zero [] g h = rw (eq-eqb g.number g.number refl)
last_held zero (x ∷ c) g h = rw (last_held zero c g (omega arith), or-true)
last_held (suc k) [] g h = absurd (omega arith)
last_held (suc k) (x ∷ c) g h = last_held k c g (omega arith)

or_none : (a b c : Bool) → (a || (b || c)) ≡ false → c ≡ false
or_none true b c h = clash refl h
or_none false true c h = clash refl h
or_none false false c h = h

module _ (P C : ℕ) (pos : 0 < P) (some : 0 < C) (b : ℕ → ℕ) where
  -- a page that is there is not looked up
  pub look_same : (p : ℕ) (v : Over) → (holds v.dirty p || (covers v.recorded p || holds v.cache p)) ≡ true → look_up P C b p v ≡ v
  unfolding look_up
  look_same p v h = rw (look_up, h)

  look_held : (p : ℕ) (v : Over) → (holds (look_up P C b p v).dirty p || (covers (look_up P C b p v).recorded p || holds (look_up P C b p v).cache p)) ≡ true
  unfolding look_up
  look_held p v = split (holds v.dirty p || (covers v.recorded p || holds v.cache p))
      (λ t. rw (look_up, t) t)
      (λ f. rw (look_up, f, last_held (suc (length v.cache) - C) v.cache record { number = p; bytes = image_page P b p } (omega arith), or-true, or-true))

  -- and one that was looked up is there
  pub look_again : (p : ℕ) (v : Over) → look_up P C b p (look_up P C b p v) ≡ look_up P C b p v
  look_again p v = look_same p (look_up P C b p v) (look_held p v)

  pub look_size : (p : ℕ) (v : Over) → (look_up P C b p v).size ≡ v.size
  unfolding look_up
  look_size p v = split (holds v.dirty p || (covers v.recorded p || holds v.cache p)) (λ t. rw (look_up, t)) (λ f. rw (look_up, f))

  image_at : (o : ℕ) → get_or (image_page P b (o / P)) (o % P) 0 ≡ b o
  unfolding image_page
  image_at o = tabulate_at P _ (o % P) (mod-lt o pos) ∙ ap b (div-add-mod' o P)

  image_last : (k : ℕ) (c : List Page) (o : ℕ) → holds c (o / P) ≡ false → page_byte P (drop k (c ++ record { number = o / P; bytes = image_page P b (o / P) } ∷ [])) o (b o) ≡ b o
  image_last zero [] o h = rw (eq-eqb (o / P) (o / P) refl) (image_at o)
  image_last (suc k) [] o h = ap (λ (d : List Page). page_byte P d o (b o)) (drop-nil k)
  image_last zero (g ∷ c) o h = split (eqb g.number (o / P)) (λ t. clash (rw t) h) (λ f. rw f (image_last zero c o (rw f at h)))
  image_last (suc k) (g ∷ c) o h = split (eqb g.number (o / P)) (λ t. clash (rw t) h) (λ f. image_last k c o (rw f at h))

  -- no byte of the page changes
  pub look_raw : (o : ℕ) (v : Over) → raw P b (look_up P C b (o / P) v) o ≡ raw P b v o
  unfolding raw look_up
  look_raw o v = split (holds v.dirty (o / P) || (covers v.recorded (o / P) || holds v.cache (o / P)))
      (λ t. rw (look_up, t))
      (λ f. let e : holds v.cache (o / P) ≡ false = or_none (holds v.dirty (o / P)) (covers v.recorded (o / P)) (holds v.cache (o / P)) f in
      rw (raw, look_up, f, image_last (suc (length v.cache) - C) v.cache o e, byte_clean P pos v.cache o (b o) e))

  -- one byte's step
  abbrev step : ℕ → Over → Over
  step o v = cond (ltb o v.size) (look_up P C b (o / P) v) v

  -- a read of two parts, one behind the other
  pub read_join : (o n m : ℕ) (v : Over) → read_over P C b o (n + m) v ≡ read_over P C b (o + n) m (read_over P C b o n v)
  read_join o zero m v = rw (zero-add m, add-zero o)
  read_join o (suc n) m v =
      let e : suc o + n ≡ o + suc n = omega arith in
      rw (suc-add n m, ← e) (read_join (suc o) n m (step o v))

  pub bytes_join : (o n m : ℕ) (v : Over) → read_bytes P C b o (n + m) v ≡ read_bytes P C b o n v ++ read_bytes P C b (o + n) m (read_over P C b o n v)
  bytes_join o zero m v = rw (zero-add m, add-zero o)
  bytes_join o (suc n) m v =
      let e : suc o + n ≡ o + suc n = omega arith in
      rw (suc-add n m, ← e) (ap (λ (l : List ℕ). over_byte P b v o ∷ l) (bytes_join (suc o) n m (step o v)))

  -- past the size there is nothing to look up
  pub read_past : (o n : ℕ) (v : Over) → v.size ≤ o → read_over P C b o n v ≡ v
  read_past o zero v h = refl
  read_past o (suc n) v h = ap (read_over P C b (suc o) n) (if_ge o v.size _ _ h) ∙ read_past (suc o) n v (omega arith)

  pub bytes_past : (o n : ℕ) (v : Over) → v.size ≤ o → read_bytes P C b o n v ≡ zeros n
  unfolding filled over_byte
  bytes_past o zero v h = refl
  bytes_past o (suc n) v h =
      let r : read_bytes P C b (suc o) n (step o v) ≡ zeros n = ap (read_bytes P C b (suc o) n) (if_ge o v.size _ _ h) ∙ bytes_past (suc o) n v (omega arith) in
      λ j. if_ge o v.size (raw P b v o) 0 h j ∷ r j

  -- within page p, which is there
  read_there : (p o n : ℕ) (v : Over) → p * P ≤ o → o + n ≤ p * P + P → look_up P C b p v ≡ v → read_over P C b o n v ≡ v
  read_there p o zero v lo hi e = refl
  read_there p o (suc n) v lo hi e =
      let q : o / P ≡ p = page_at P pos p o lo (omega arith) in
      let s : step o v ≡ v = split (ltb o v.size) (λ t. rw (t, q) e) (λ f. rw f) in
      ap (read_over P C b (suc o) n) s ∙ read_there p (suc o) n v (omega arith) (omega arith) e

  -- bytes of one page: it is looked up once
  pub read_page : (o n : ℕ) (v : Over) → 0 < n → o % P + n ≤ P → o + n ≤ v.size → read_over P C b o n v ≡ look_up P C b (o / P) v
  read_page o zero v m h k = absurd (omega arith)
  read_page o (suc n) v m h k =
      ap (read_over P C b (suc o) n) (if_lt o v.size _ _ (omega arith))
      ∙ read_there (o / P) (suc o) n (look_up P C b (o / P) v) (omega (arith, div-add-mod' o P)) (omega (arith, div-add-mod' o P)) (look_again (o / P) v)

  bytes_there : (p o n : ℕ) (v : Over) → p * P ≤ o → o + n ≤ p * P + P → o + n ≤ v.size → read_bytes P C b o n v ≡ tabulate_from o n (raw P b v)
  unfolding over_byte
  bytes_there p o zero v lo hi k = refl
  bytes_there p o (suc n) v lo hi k =
      let w : Over = look_up P C b (o / P) v in
      let s : step o v ≡ w = if_lt o v.size _ _ (omega arith) in
      let a : (i : ℕ) → suc o ≤ i → i < suc o + n → raw P b w i ≡ raw P b v i = λ i l m.
      let q : o / P ≡ i / P = page_at P pos p o lo (omega arith) ∙ sym (page_at P pos p i (omega arith) (omega arith)) in rw q (look_raw i v) in
      let r : read_bytes P C b (suc o) n (step o v) ≡ tabulate_from (suc o) n (raw P b v) =
      ap (read_bytes P C b (suc o) n) s ∙ bytes_there p (suc o) n w (omega arith) (omega arith) (omega (arith, look_size (o / P) v))
      ∙ tabulate_from-alike (suc o) n (raw P b w) (raw P b v) a in
      λ j. if_lt o v.size (raw P b v o) 0 (omega arith) j ∷ r j

  pub bytes_page : (o n : ℕ) (v : Over) → o % P + n ≤ P → o + n ≤ v.size → read_bytes P C b o n v ≡ tabulate_from o n (raw P b v)
  bytes_page o n v h k = bytes_there (o / P) o n v (page_lo P pos o) (omega (arith, div-add-mod' o P)) k

-- ## A write

ltb_alike : (y e f : ℕ) → (y < e → y < f) → (y < f → y < e) → ltb y e ≡ ltb y f
ltb_alike y e f g h = below y e (λ lo. lt-ltb y e lo ∙ sym (lt-ltb y f (g lo))) (λ hi. below y f (λ lo. absurd (omega (arith, h lo))) (λ up. le-ltb y e hi ∙ sym (le-ltb y f up)))

module _ (P : ℕ) (pos : 0 < P) where
  -- what is done outside the page does not matter
  pub touch_alike : (b : ℕ → ℕ) (l : Bool) (u w : ℕ → ℕ → ℕ) (p : ℕ) (v : Over) → ((i x : ℕ) → i < P → u (p * P + i) x ≡ w (p * P + i) x) → touch P b l u p v ≡ touch P b l w p v
  unfolding touch
  touch_alike b l u w p v h =
      let e : tabulate P (λ i. u (p * P + i) (raw P b v (p * P + i))) ≡ tabulate P (λ i. w (p * P + i) (raw P b v (p * P + i))) = tabulate_alike P _ _ (λ i k. h i _ k) in
      rw (touch, e)

  -- bytes k to k + n of a write are a write of their own
  pub copy_part : (o : ℕ) (bs : List ℕ) (k n : ℕ) → k + n ≤ length bs → (x y : ℕ) → o + k ≤ x → x < o + k + n → copy P o bs x y ≡ copy P (o + k) (take n (drop k bs)) x y
  copy_part o bs k n h x y lo hi =
      let e : length (take n (drop k bs)) ≡ n = length-take n (drop k bs) ∙ omega (arith, length-drop k bs) in
      copy_in P o bs x y (omega arith) (omega arith)
      ∙ ap (λ (j : ℕ). get_or bs j 0) (omega arith)
      ∙ sym (copy_in P (o + k) (take n (drop k bs)) x y lo (omega arith) ∙ get_or-take n (drop k bs) (x - (o + k)) 0 (omega arith) ∙ get_or-drop k bs (x - (o + k)) 0)

  -- the part of a write that lies in the page of o + k, which no byte before it does
  pub copy_within : (o : ℕ) (bs : List ℕ) (k n : ℕ) → k < length bs → n ≡ min (P - (o + k) % P) (length bs - k) → (0 < k → (o + k) % P ≡ 0)
      → (i x : ℕ) → i < P → copy P o bs ((o + k) / P * P + i) x ≡ copy P (o + k) (take n (drop k bs)) ((o + k) / P * P + i) x
  copy_within o bs k n h m s i x j =
      let q : ℕ = (o + k) / P * P in
      let d : q + (o + k) % P ≡ o + k = page_place P pos (o + k) in
      let e : length (take n (drop k bs)) ≡ n = length-take n (drop k bs) ∙ omega (arith, length-drop k bs) in
      below (q + i) (o + k)
      (λ lo. below 0 k
      (λ some. absurd (omega (arith, s some)))
      (λ none. copy_lo P o bs (q + i) x (omega arith) ∙ sym (copy_lo P (o + k) (take n (drop k bs)) (q + i) x lo)))
      (λ hi. below (q + i) (o + k + n)
      (λ lo. copy_part o bs k n (omega arith) (q + i) x hi lo)
      (λ up. copy_hi P o bs (q + i) x (omega (arith, mod-lt (o + k) pos)) ∙ sym (copy_hi P (o + k) (take n (drop k bs)) (q + i) x (omega arith))))

  -- ## the pages of a write

  pub span_none : (o : ℕ) → span P o 0 ≡ 0
  unfolding span
  span_none o = refl

  span_some : (o n : ℕ) → 0 < n → span P o n ≡ count P (o + n) - o / P
  unfolding span
  span_some o n h = rw (ne_eqb n 0 (omega arith))

  -- where more bytes follow, they start the next page
  pub next_page : (o k n len : ℕ) → n ≡ min (P - (o + k) % P) (len - k) → k + n < len → ((o + k + n) / P ≡ suc ((o + k) / P)) × ((o + k + n) % P ≡ 0)
  next_page o k n len m h =
      let q : ℕ = (o + k) / P in
      let d : q * P + (o + k) % P ≡ o + k = page_place P pos (o + k) in
      let r : suc q * P ≡ o + k + n = omega (arith, mod-lt (o + k) pos) in
      let a : (o + k + n) / P ≡ suc q = page_at P pos (suc q) (o + k + n) (omega arith) (omega arith) in
      (a, omega (arith, page_place P pos (o + k + n), ap (λ (x : ℕ). x * P) a))

  pub span_step : (o k n len : ℕ) → k < len → n ≡ min (P - (o + k) % P) (len - k) → span P (o + k) (len - k) ≡ suc (span P (o + k + n) (len - (k + n)))
  span_step o k n len h m =
      let q : ℕ = (o + k) / P in
      let d : q * P + (o + k) % P ≡ o + k = page_place P pos (o + k) in
      let c : ℕ = count P (o + len) in
      let s : o + k + (len - k) ≡ o + len = omega arith in
      let lo : q < c = lt_count P pos q (o + len) (omega arith) in
      let e : span P (o + k) (len - k) ≡ c - q = span_some (o + k) (len - k) (omega arith) ∙ ap (λ (x : ℕ). count P x - q) s in
      below (k + n) len
      (λ more.
      let t : o + k + n + (len - (k + n)) ≡ o + len = omega arith in
      let f : span P (o + k + n) (len - (k + n)) ≡ c - suc q = span_some (o + k + n) (len - (k + n)) (omega arith) ∙ rw (t, (next_page o k n len m more).0) in
      omega arith)
      (λ done.
      let z : len - (k + n) ≡ 0 = omega arith in
      let f : span P (o + k + n) (len - (k + n)) ≡ 0 = rw z (span_none (o + k + n)) in
      let hi : c ≤ suc q = below (suc q) c (λ u. absurd (omega (arith, count_lt P pos (suc q) (o + len) u, mod-lt (o + k) pos))) (λ u. u) in
      omega arith)

  -- ## ends of blanks

  blank_ends : (a e f y x : ℕ) → (y < e → y < f) → (y < f → y < e) → blank P a e y x ≡ blank P a f y x
  unfolding blank
  blank_ends a e f y x g h = rw (ltb_alike y e f g h)

  pub blank_end : (z n : ℕ) → z < n → (i x : ℕ) → i < P → blank P z n (z / P * P + i) x ≡ blank P z (z / P * P + min P (n - z / P * P)) (z / P * P + i) x
  blank_end z n h i x k =
      let lo : z / P * P ≤ z = page_lo P pos z in
      blank_ends z n (z / P * P + min P (n - z / P * P)) (z / P * P + i) x (λ a. omega arith) (λ a. omega arith)

  pub blank_tail : (n i x : ℕ) → i < P → blank P n (n + P) (n / P * P + i) x ≡ blank P n (n / P * P + P) (n / P * P + i) x
  blank_tail n i x k = blank_ends n (n + P) (n / P * P + P) (n / P * P + i) x (λ a. omega arith) (λ a. omega (arith, page_lo P pos n))

module _ (P M F R : ℕ) (pos : 0 < P) where
  pub try_touch-alike : (b : ℕ → ℕ) (l : Bool) (u w : ℕ → ℕ → ℕ) (p : ℕ) (v : Over) → ((i x : ℕ) → i < P → u (p * P + i) x ≡ w (p * P + i) x) → try_touch P M F R b l u p v ≡ try_touch P M F R b l w p v
  unfolding try_touch
  try_touch-alike b l u w p v h = rw (try_touch, touch_alike P pos b l u w p v h)

  pub copy_page : (b : ℕ → ℕ) (l : Bool) (o : ℕ) (bs : List ℕ) (k n : ℕ) (v : Over) → k < length bs → n ≡ min (P - (o + k) % P) (length bs - k) → (0 < k → (o + k) % P ≡ 0)
      → try_touch P M F R b l (copy P o bs) ((o + k) / P) v ≡ try_touch P M F R b l (copy P (o + k) (take n (drop k bs))) ((o + k) / P) v
  copy_page b l o bs k n v h m s = try_touch-alike b l (copy P o bs) (copy P (o + k) (take n (drop k bs))) ((o + k) / P) v (copy_within P pos o bs k n h m s)

  -- the pages of a write from byte k on: one, and those of the bytes behind it
  pub copy_step : (b : ℕ → ℕ) (l : Bool) (o : ℕ) (bs : List ℕ) (k n : ℕ) (v : Over) → k < length bs → n ≡ min (P - (o + k) % P) (length bs - k) → (0 < k → (o + k) % P ≡ 0)
      → try_touch_all P M F R b l (copy P o bs) ((o + k) / P) (span P (o + k) (length bs - k)) v
      ≡ and_then (try_touch P M F R b l (copy P (o + k) (take n (drop k bs))) ((o + k) / P) v) (try_touch_all P M F R b l (copy P o bs) ((o + k + n) / P) (span P (o + k + n) (length bs - (k + n))))
  copy_step b l o bs k n v h m s =
      let q : ℕ = (o + k) / P in
      let c : ℕ = span P (o + k + n) (length bs - (k + n)) in
      let all : ℕ → ℕ → Over → Tried = try_touch_all P M F R b l (copy P o bs) in
      let e : all (suc q) c ≡ all ((o + k + n) / P) c = below (k + n) (length bs)
      (λ more. ap (λ (p : ℕ). all p c) (sym (next_page P pos o k n (length bs) m more).0))
      (λ done.
      let z : length bs - (k + n) ≡ 0 = omega arith in
      let f : c ≡ 0 = ap (span P (o + k + n)) z ∙ span_none P pos (o + k + n) in
      ap (all (suc q)) f ∙ ap (all ((o + k + n) / P)) (sym f)) in
      ap (λ (j : ℕ). all q j v) (span_step P pos o k n (length bs) h m)
      ∙ (λ j. and_then (copy_page b l o bs k n v h m s j) (e j))
