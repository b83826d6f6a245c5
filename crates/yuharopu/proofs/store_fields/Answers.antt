-- `store_fields` meets its contract.
use Rattle.std.proofs.Common.{ℕ, List, ◌≡◌, ◌<◌, ◌≤◌, ◌*◌, length, take, Err, rules, sym, ap, ◌∙◌}
use borrow.Author.Tests.{lt-ltb, le-ltb}
use Rattle.config.specs.declared.refusal.Refusal.TheVariants.{BufferTooShort}
use Rattle.meta.specs.Stored.{Outcome}
use Rattle.meta.specs.Block.{store_in}
use Rattle.yuharopu.specs.Exports.{answer, store_fields, store_block, store_shown}
use Rattle.yuharopu.proofs.store_fields.Goals as goal
use Rattle.yuharopu.proofs.store_fields.Goals.{After-of_numbers-block}

-- the block decides
decides : (c : After-of_numbers-block) → let s = c.args in
    store_fields s.mem.now s.fields.now s.runs.now ≡ store_block c.of_numbers-block.result s.mem.now s.runs.now
decides c =
    let s = c.args in
    store_shown s.mem.now s.fields.now s.runs.now c.of_numbers-block.result c.if-mem-lt-ENCODED_LEN.false c.if-fields-lt-NUMBERS.false c.of_numbers-block.ensures

pub returns-then-mem-lt-ENCODED_LEN : goal.returns-then-mem-lt-ENCODED_LEN
unfolding store_fields
returns-then-mem-lt-ENCODED_LEN c = simp (lt-ltb _ _ c.if-mem-lt-ENCODED_LEN.true)

pub returns-then-fields-lt-NUMBERS : goal.returns-then-fields-lt-NUMBERS
unfolding store_fields
returns-then-fields-lt-NUMBERS c = simp (le-ltb _ _ c.if-mem-lt-ENCODED_LEN.false, lt-ltb _ _ c.if-fields-lt-NUMBERS.true)

pub returns-then-count-gt-MAX_ZERO_EXTENTS : goal.returns-then-count-gt-MAX_ZERO_EXTENTS
unfolding store_block
returns-then-count-gt-MAX_ZERO_EXTENTS c = sym (decides (goal.at.returns-then-count-gt-MAX_ZERO_EXTENTS c).After-of_numbers-block ∙ rw (lt-ltb _ _ c.if-count-gt-MAX_ZERO_EXTENTS.true))

pub returns-in_err-runs : goal.returns-in_err-runs
unfolding store_block
returns-in_err-runs c =
    let refused : c.from_residual.result ≡ Err BufferTooShort = search rules in
    let few : length c.args.runs.now < c.of_numbers-block.result.zero_extent_count * 2 = search rules in
    rw refused (sym (decides (goal.at.returns-in_err-runs c).After-of_numbers-block ∙ rw (le-ltb _ _ c.if-count-gt-MAX_ZERO_EXTENTS.false, lt-ltb _ _ few)))

pub returns : goal.returns
unfolding store_block
returns c =
    let b = c.of_numbers-block.result in
    let room : b.zero_extent_count * 2 ≤ length c.args.runs.now = search rules in
    let front : c.in_ok-runs.runs.now ≡ take (b.zero_extent_count * 2) c.args.runs.now = search rules in
    ap (answer 0) (ap (λ (o : Outcome). o.mem) c.store.ensures ∙ ap (λ (x : List ℕ). store_in b x c.args.mem.now) front)
    ∙ sym (decides (goal.at.returns c).After-of_numbers-block ∙ rw (le-ltb _ _ c.if-count-gt-MAX_ZERO_EXTENTS.false, le-ltb _ _ room))
