-- `meta::load` meets its contract: the tests in their order, on the block as decoded.
use mathlib.Core.Path.{◌≡◌, sym, ap, ◌∙◌}
use mathlib.Core.List.{List, []}
use Prim.Native.Nat.{ℕ, ◌/◌, ◌≤◌}
use native.Mathlib.Omega.{arith}
use lib.ListN.{length, take, length-take}
use Rattle.config.specs.declared.refusal.Refusal.TheVariants.{MetaChecksumMismatch}
use Rattle.std.specs.Prelude.{Ok, Err}
use Rattle.std.proofs.lemmas.List.{take_rest}
use Rattle.memory.specs.Laws.{drop-take}
use Rattle.meta.specs.Runs.{runs_in, normalized as isNormalized}
use Rattle.meta.specs.BlockLaws.{encoded_len-lo, encoded_len-hi}
use Rattle.meta_load.specs.Load.{load as loaded, pick, block_runs, checksum_in}
use Rattle.meta_load.specs.LoadLaws.{judge_foreign, judge_version, judge_layout, judge_count, judge_sum, judge_runs, load_is, sum_is, runs_are}
use Rattle.meta_load.proofs.load.Goals as goal
use Rattle.meta_load.proofs.load.Goals.{After-checksum_of, After-encoded_len, After-normalized, Else-block-checksum_of}

-- the bytes that are hashed are those of a block, and in the slice
module _ (c : After-encoded_len) where
  whole : c.encoded_len.result ≡ length (take c.encoded_len.result c.args.bytes.now)
  whole = omega (arith, length-take c.encoded_len.result c.args.bytes.now, c.encoded_len.ensures, encoded_len-hi c.decode-block.result [], c.requires)

  long : 160 ≤ length (take c.encoded_len.result c.args.bytes.now)
  long = omega (arith, whole, c.encoded_len.ensures, encoded_len-lo c.decode-block.result [])

-- the hash that was computed is the one that the definition speaks of
sum : (c : After-checksum_of) → c.checksum_of.result ≡ checksum_in c.args.bytes.now
sum c =
    c.checksum_of.ensures ∙ sum_is c.args.bytes.now c.decode-block.result c.decode-block.ensures c.encoded_len.result c.encoded_len.ensures

-- past the tests before the last, the runs decide
runs : (c : Else-block-checksum_of) → let s = c.args.bytes.now in
    c.checksum_of.result ≡ checksum_in s → loaded s ≡ pick (isNormalized (block_runs s)) (Ok c.decode-block.result) (Err MetaChecksumMismatch)
runs c is =
    let d = c.decode-block in
    let s = c.args.bytes.now in
    load_is s d.result d.ensures
    ∙ judge_runs d.result (checksum_in s) (isNormalized (block_runs s)) c.if-block-ne-MAGIC.false c.if-block-ne-VERSION.false c.if-block-ne-LAYOUT_VERSION.false c.if-block-gt-MAX_ZERO_EXTENTS.false
    (c.if-block-checksum_of.false ∙ is)

-- and they were read
sorted : (c : After-normalized) → c.normalized.result ≡ isNormalized (block_runs c.args.bytes.now)
sorted c =
    let s = c.args.bytes.now in
    let n = c.encoded_len.result in
    c.normalized.ensures ∙ ap (λ (l : List ℕ). isNormalized (runs_in (length l / 16) l)) (take_rest (take n s) 160 ∙ drop-take 160 n s)
    ∙ ap isNormalized (runs_are s c.decode-block.result c.decode-block.ensures n c.encoded_len.ensures c.requires c.if-block-gt-MAX_ZERO_EXTENTS.false)

pub returns-then-block-ne-MAGIC : goal.returns-then-block-ne-MAGIC
returns-then-block-ne-MAGIC c = let s = c.args.bytes.now in
    let d = c.decode-block in
    sym (load_is s d.result d.ensures ∙ judge_foreign d.result _ _ c.if-block-ne-MAGIC.true)

pub returns-then-block-ne-VERSION : goal.returns-then-block-ne-VERSION
returns-then-block-ne-VERSION c = let s = c.args.bytes.now in
    let d = c.decode-block in
    rw c.from.ensures (sym (load_is s d.result d.ensures ∙ judge_version d.result _ _ c.if-block-ne-MAGIC.false c.if-block-ne-VERSION.true))

pub returns-then-block-ne-LAYOUT_VERSION : goal.returns-then-block-ne-LAYOUT_VERSION
returns-then-block-ne-LAYOUT_VERSION c = let s = c.args.bytes.now in
    let d = c.decode-block in
    sym (load_is s d.result d.ensures ∙ judge_layout d.result _ _ c.if-block-ne-MAGIC.false c.if-block-ne-VERSION.false c.if-block-ne-LAYOUT_VERSION.true)

pub returns-then-block-gt-MAX_ZERO_EXTENTS : goal.returns-then-block-gt-MAX_ZERO_EXTENTS
returns-then-block-gt-MAX_ZERO_EXTENTS c = let s = c.args.bytes.now in
    let d = c.decode-block in
    sym (load_is s d.result d.ensures ∙ judge_count d.result _ _ c.if-block-ne-MAGIC.false c.if-block-ne-VERSION.false c.if-block-ne-LAYOUT_VERSION.false c.if-block-gt-MAX_ZERO_EXTENTS.true)

pub slice_bounds-encoded-end : goal.slice_bounds-encoded-end
slice_bounds-encoded-end c = whole (goal.at.slice_bounds-encoded-end c).After-encoded_len

pub checksum_of-requires : goal.checksum_of-requires
checksum_of-requires c = long (goal.at.checksum_of-requires c).After-encoded_len

pub returns-then-block-checksum_of : goal.returns-then-block-checksum_of
returns-then-block-checksum_of c = let d = c.decode-block in
    let s = c.args.bytes.now in
    sym (load_is s d.result d.ensures
    ∙ judge_sum d.result (checksum_in s) (isNormalized (block_runs s)) c.if-block-ne-MAGIC.false c.if-block-ne-VERSION.false c.if-block-ne-LAYOUT_VERSION.false c.if-block-gt-MAX_ZERO_EXTENTS.false
    (λ e. c.if-block-checksum_of.true (e ∙ sym (sum (goal.at.returns-then-block-checksum_of c).After-checksum_of))))

pub slice_bounds-normalized-count : goal.slice_bounds-normalized-count
slice_bounds-normalized-count c = long (goal.at.slice_bounds-normalized-count c).After-encoded_len

pub slice_bounds-normalized-start : goal.slice_bounds-normalized-start
slice_bounds-normalized-start c = long (goal.at.slice_bounds-normalized-start c).After-encoded_len

pub returns-then-not-normalized : goal.returns-then-not-normalized
returns-then-not-normalized c = sym (runs (goal.at.returns-then-not-normalized c).Else-block-checksum_of (sum (goal.at.returns-then-not-normalized c).After-checksum_of) ∙ rw (sym (sorted (goal.at.returns-then-not-normalized c).After-normalized) ∙ c.if-not-normalized.true))

pub returns : goal.returns
returns c = sym (runs (goal.at.returns c).Else-block-checksum_of (sum (goal.at.returns c).After-checksum_of) ∙ rw (sym (sorted (goal.at.returns c).After-normalized) ∙ c.if-not-normalized.false))
