-- An update as a value: its size, its dirty pages, its record, its clean cache, its budget; and what its calls make of it. First what is done
-- when nothing is refused, then the same with 01's refusals, each with what it leaves. The image below is a function b: its byte at each offset.
use Rattle.std.specs.Prelude.{ℕ, zero, suc, ◌+◌, ◌-◌, ◌*◌, ◌/◌, ◌%◌, max, min, Bool, true, not, cond, ◌&&◌, ◌||◌, List, [], ◌∷◌, ◌++◌, ltb, leb, eqb, length, drop, get_or}
use Rattle.config.specs.Pages.{count}
use Rattle.config.specs.declared.refusal.Refusal.{Refusal}
use Rattle.config.specs.declared.refusal.Refusal.TheVariants.{OffsetOverflow, BudgetExceeded, FramesFull, RecordFull}
use Rattle.meta.specs.declared.ZeroExtent.{ZeroExtent}
use Rattle.meta.specs.Runs.{run}
use Rattle.runs.specs.Sets.{covers}
use Rattle.update.specs.declared.Budget.{Budget}
use Rattle.update.specs.Lists.{tabulate, inside}
use Rattle.update.specs.Pages.{Page, holds, put_page, keep_below, drop_page, page_byte, partial, span}
use Rattle.update.specs.Image.{image_page}

-- 01: "begin size, size, dirty pages in order of first touch, a *record* of zero runs in order of push (not merged), a clean cache of 8 pages
-- that drops the oldest inserted, an optional budget of pages and bytes". The size when it began does not change and stays with the numbers
pub record Over : Type 0 where
  pub size : ℕ
  pub dirty : List Page
  pub recorded : List ZeroExtent
  -- the oldest first
  pub cache : List Page
  pub budget : Budget

-- a run with a page in it is pushed on the record
unfoldable pub push_run : ℕ → ℕ → List ZeroExtent → List ZeroExtent
push_run a e rs = cond (ltb a e) (rs ++ run a e ∷ []) rs

-- 2^64 − 1, at which the bytes of a budget stop
abbrev pub largest : ℕ
largest = 18446744073709551615

module _ (P : ℕ) where
  -- 01: "A read takes a page from dirty, else zero if the record covers it, else the cache, else the image."
  -- The byte at offset o, with no regard to the update's size
  unfoldable pub raw : (ℕ → ℕ) → Over → ℕ → ℕ
  raw b v o = page_byte P v.dirty o (cond (covers v.recorded (o / P)) 0 (page_byte P v.cache o (b o)))

  -- 01: "bytes past the size are zeros"
  unfoldable pub over_byte : (ℕ → ℕ) → Over → ℕ → ℕ
  over_byte b v o = cond (ltb o v.size) (raw b v o) 0

  -- ## What is done

  unfoldable pub budget_bytes : ℕ → ℕ
  budget_bytes n = min largest (n * P)

  -- 01, 30: "one more dirty page would pass its pages or bytes, or it was passed before in this update". With n dirty pages:
  -- 0 not passed, 1 by pages, 2 by bytes
  unfoldable pub passing : ℕ → Budget → ℕ
  passing n g =
      cond g.limited
      (cond (eqb g.passed 0) (cond (ltb g.max_pages n) 1 (cond (ltb g.max_bytes (budget_bytes n)) 2 0)) g.passed)
      0

  -- a limited budget keeps the most dirty pages that there were
  unfoldable pub raised : ℕ → Budget → Budget
  raised n g = record {
    limited = g.limited;
    max_pages = g.max_pages;
    max_bytes = g.max_bytes;
    passed = g.passed;
    peak_pages = cond g.limited (max g.peak_pages n) g.peak_pages;
    peak_bytes = cond g.limited (max g.peak_bytes (budget_bytes n)) g.peak_bytes;
  }

  -- 01: "A new dirty page starts as zeros if covered, else as the image's page." Page p is made dirty, and each byte x at offset o in it
  -- becomes u o x. A page that is loaded is taken out of the clean cache
  unfoldable pub touch : (ℕ → ℕ) → Bool → (ℕ → ℕ → ℕ) → ℕ → Over → Over
  touch b loaded u p v = record {
    size = v.size;
    dirty = put_page p (tabulate P (λ i. u (p * P + i) (raw b v (p * P + i)))) v.dirty;
    recorded = v.recorded;
    cache = cond (holds v.dirty p) v.cache (cond (loaded && not (covers v.recorded p)) (drop_page p v.cache) v.cache);
    budget = cond (holds v.dirty p) v.budget (raised (suc (length v.dirty)) v.budget);
  }

  -- pages p, p + 1, .. of n
  abbrev pub touch_all : (ℕ → ℕ) → Bool → (ℕ → ℕ → ℕ) → ℕ → ℕ → Over → Over
  touch_all b l u p zero v = v
  touch_all b l u p (suc n) v = touch_all b l u (suc p) n (touch b l u p v)

  -- bytes from a up to e become zeros
  unfoldable pub blank : ℕ → ℕ → ℕ → ℕ → ℕ
  blank a e o x = cond (inside a e o) 0 x

  -- bytes from a on become bs
  unfoldable pub copy : ℕ → List ℕ → ℕ → ℕ → ℕ
  copy a bs o x = cond (inside a (a + length bs) o) (get_or bs (o - a) 0) x

  -- 01: "Growth records the pages from the old count to the new one". The size becomes n, which is not less than it is
  unfoldable pub stretch : ℕ → Over → Over
  stretch n v = record { size = n; dirty = v.dirty; recorded = push_run (count P v.size) (count P n) v.recorded; cache = v.cache; budget = v.budget }

  -- 01: "and makes dirty a partial old last page". From the old size z to the new size n or the page's end its bytes become zeros
  unfoldable pub patch : (ℕ → ℕ) → ℕ → ℕ → Over → Over
  patch b z n v = cond (partial P z) (touch b true (blank z n) (z / P) v) v

  -- 01: "then a partial new last page unless the old size, as an offset, lies in it". Up to n its bytes become zeros
  unfoldable pub finish : (ℕ → ℕ) → ℕ → ℕ → Over → Over
  finish b z n v = cond (partial P n && not (eqb (z / P) (n / P))) (touch b true (blank (n / P * P) n) (n / P) v) v

  unfoldable pub grow : (ℕ → ℕ) → ℕ → Over → Over
  grow b n v = finish b v.size n (patch b v.size n (stretch n v))

  unfoldable pub grow_to : (ℕ → ℕ) → ℕ → Over → Over
  grow_to b n v = cond (ltb v.size n) (grow b n v) v

  -- 01: "A cut records from the new count to the old and drops pages, dirty and cached, from the new count up." Every truncation "then sets the
  -- size" and drops
  unfoldable pub chop : ℕ → Over → Over
  chop n v = record {
    size = n;
    dirty = keep_below (count P n) v.dirty;
    recorded = push_run (count P n) (count P v.size) v.recorded;
    cache = keep_below (count P n) v.cache;
    budget = v.budget;
  }

  -- 01: "and ends by making a partial last page dirty and zeroing its tail"
  unfoldable pub tail : (ℕ → ℕ) → ℕ → Over → Over
  tail b n v = cond (partial P n) (touch b true (blank n (n + P)) (n / P) v) v

  -- a truncation to n bytes, be it growth, a cut or neither
  unfoldable pub truncated : (ℕ → ℕ) → ℕ → Over → Over
  truncated b n v = tail b n (chop n (grow_to b n v))

  -- 01: "A full aligned page is written without loading": the whole write is exactly one aligned page
  unfoldable pub whole_page : ℕ → ℕ → Bool
  whole_page o n = eqb n P && eqb (o % P) 0

  -- growth, then the pages that the write has a byte in, from the first
  unfoldable pub over_write : (ℕ → ℕ) → ℕ → List ℕ → Over → Over
  over_write b o bs v = touch_all b (not (whole_page o (length bs))) (copy o bs) (o / P) (span P o (length bs)) (grow_to b (o + length bs) v)

  -- 01: "an empty one does nothing"
  unfoldable pub written : (ℕ → ℕ) → ℕ → List ℕ → Over → Over
  written b o bs v = cond (eqb (length bs) 0) v (over_write b o bs v)

  -- an update of an image of z bytes that has just begun
  unfoldable pub fresh : ℕ → Budget → Over
  fresh z g = record { size = z; dirty = []; recorded = []; cache = []; budget = g }

  -- ## A read

  -- a page that a read takes from the image goes into the clean cache of C pages, whose oldest goes out if it is full
  unfoldable pub look_up : ℕ → (ℕ → ℕ) → ℕ → Over → Over
  look_up C b p v = cond (holds v.dirty p || (covers v.recorded p || holds v.cache p)) v record {
    size = v.size;
    dirty = v.dirty;
    recorded = v.recorded;
    cache = drop (suc (length v.cache) - C) (v.cache ++ record { number = p; bytes = image_page P b p } ∷ []);
    budget = v.budget;
  }

  -- byte by byte below the size: a page that was looked up once is there the next time
  abbrev pub read_over : ℕ → (ℕ → ℕ) → ℕ → ℕ → Over → Over
  read_over C b o zero v = v
  read_over C b o (suc n) v = read_over C b (suc o) n (cond (ltb o v.size) (look_up C b (o / P) v) v)

  abbrev pub read_bytes : ℕ → (ℕ → ℕ) → ℕ → ℕ → Over → List ℕ
  read_bytes C b o zero v = []
  read_bytes C b o (suc n) v = over_byte b v o ∷ read_bytes C b (suc o) n (cond (ltb o v.size) (look_up C b (o / P) v) v)

-- ## With refusals

-- what a call made of the update, or what it left when it was refused
pub data Tried : Type 0 where
  accepted : Over → Tried
  refused : Refusal → Over → Tried

abbrev pub and_then : Tried → (Over → Tried) → Tried
and_then (accepted v) k = k v
and_then (refused r v) k = refused r v

-- what is left in either case
abbrev pub left : Tried → Over
left (accepted v) = v
left (refused r v) = v

unfoldable pub sized : ℕ → Over → Over
sized n v = record { size = n; dirty = v.dirty; recorded = v.recorded; cache = v.cache; budget = v.budget }

-- 01: "and otherwise the size stays"
abbrev pub keep_size : ℕ → Tried → Tried
keep_size z (accepted v) = accepted v
keep_size z (refused r v) = refused r (sized z v)

-- page size, largest number, frames lent, record entries lent
module _ (P M F R : ℕ) where
  -- the mark stays in the update
  unfoldable pub marked : Over → Over
  marked v = record {
    size = v.size;
    dirty = v.dirty;
    recorded = v.recorded;
    cache = v.cache;
    budget = record {
      limited = v.budget.limited;
      max_pages = v.budget.max_pages;
      max_bytes = v.budget.max_bytes;
      passed = passing P (suc (length v.dirty)) v.budget;
      peak_pages = v.budget.peak_pages;
      peak_bytes = v.budget.peak_bytes;
    };
  }

  -- 01: "page by page 30 and 33"; 33 "one more page would be dirty, and all page frames hold dirty pages", "before a peak rises"
  unfoldable pub try_touch : (ℕ → ℕ) → Bool → (ℕ → ℕ → ℕ) → ℕ → Over → Tried
  try_touch b l u p v =
      cond (holds v.dirty p) (accepted (touch P b l u p v))
      (cond (not (eqb (passing P (suc (length v.dirty)) v.budget) 0)) (refused BudgetExceeded (marked v))
      (cond (leb F (length v.dirty)) (refused FramesFull v)
      (accepted (touch P b l u p v))))

  abbrev pub try_touch_all : (ℕ → ℕ) → Bool → (ℕ → ℕ → ℕ) → ℕ → ℕ → Over → Tried
  try_touch_all b l u p zero v = accepted v
  try_touch_all b l u p (suc n) v = and_then (try_touch b l u p v) (try_touch_all b l u (suc p) n)

  -- 01, 34: "a run with a page in it is to be recorded and the record has no free entry"
  abbrev pub room : ℕ → ℕ → Over → (Over → Tried) → Tried
  room a e v k = cond (ltb a e && leb R (length v.recorded)) (refused RecordFull v) (k v)

  -- 01: "20 for the old last page's end"
  unfoldable pub try_patch : (ℕ → ℕ) → ℕ → ℕ → Over → Tried
  try_patch b z n v =
      cond (partial P z)
      (cond (ltb M ((z / P + 1) * P)) (refused OffsetOverflow v) (try_touch b true (blank P z n) (z / P) v))
      (accepted v)

  unfoldable pub try_finish : (ℕ → ℕ) → ℕ → ℕ → Over → Tried
  try_finish b z n v = cond (partial P n && not (eqb (z / P) (n / P))) (try_touch b true (blank P (n / P * P) n) (n / P) v) (accepted v)

  unfoldable pub try_grow : (ℕ → ℕ) → ℕ → Over → Tried
  try_grow b n v = room (count P v.size) (count P n) v (λ w.
      and_then (try_patch b v.size n (stretch P n w)) (try_finish b v.size n))

  unfoldable pub try_grow_to : (ℕ → ℕ) → ℕ → Over → Tried
  try_grow_to b n v = cond (ltb v.size n) (try_grow b n v) (accepted v)

  unfoldable pub try_tail : (ℕ → ℕ) → ℕ → Over → Tried
  try_tail b n v = cond (partial P n) (try_touch b true (blank P n (n + P)) (n / P) v) (accepted v)

  unfoldable pub try_chop : ℕ → Over → Tried
  try_chop n v = room (count P n) (count P v.size) v (λ w. accepted (chop P n w))

  -- 01: "a truncation refused at its last step, the tail, keeps its new size, and otherwise the size stays"
  unfoldable pub try_truncate : (ℕ → ℕ) → ℕ → Over → Tried
  try_truncate b n v = and_then (keep_size v.size (try_grow_to b n v)) (λ w. and_then (try_chop n w) (try_tail b n))

  -- a truncation loads pages first, then drops those past its end: the frames that it has in use in between
  abbrev pub truncate_reach : (ℕ → ℕ) → ℕ → Over → ℕ
  truncate_reach b n v = length (left (try_grow_to b n v)).dirty

  -- 01: "A write tests 20 for its end, 34, 20 for the old last page's end, then page by page 30 and 33 .. record, pages loaded and bytes copied stay"
  unfoldable pub try_write : (ℕ → ℕ) → ℕ → List ℕ → Over → Tried
  try_write b o bs v =
      cond (eqb (length bs) 0) (accepted v)
      (cond (ltb M (o + length bs)) (refused OffsetOverflow v)
      (keep_size v.size (and_then (try_grow_to b (o + length bs) v) (try_touch_all b (not (whole_page P o (length bs))) (copy P o bs) (o / P) (span P o (length bs))))))
