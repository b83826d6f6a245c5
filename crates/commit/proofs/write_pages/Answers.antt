-- `commit::write_pages` meets its contract: a turn writes a page, or leaves memory.
use Rattle.std.proofs.Common.{◌∙◌}
use Rattle.store.specs.Codec.{real_codec}
use Rattle.commit.specs.CommitSteps.{fewer, first_skip, first_page}
use Rattle.commit.proofs.write_pages.Goals as goal

pub loop-page-preserved-then-page-count : goal.loop-page-preserved-then-page-count
loop-page-preserved-then-page-count c =
    let a = c.args in
    let i = c.loop-page.invariant in
    let ns = c.in-Some.ensures.steps.0 in
    let fs = c.in-Some.ensures.steps.1 in
    let whole = fs.1.1 ∙ i.0 in (
      fs.0 ∙ i.0,
      fewer 16384 65536 8 1024 18446744073709551615 real_codec a.base a.count _ _ _ _ whole _ _ ns fs.1.0 i.1,
      first_page 16384 65536 8 1024 18446744073709551615 real_codec a.base a.count _ _ _ _ whole _ _ ns fs.1.0 _ _ _ c.if-page-count.true c.page_start-at.ensures c.write.ensures ∙ i.2,
    )

pub loop-page-preserved : goal.loop-page-preserved
loop-page-preserved c =
    let a = c.args in
    let i = c.loop-page.invariant in
    let ns = c.in-Some.ensures.steps.0 in
    let fs = c.in-Some.ensures.steps.1 in
    let whole = fs.1.1 ∙ i.0 in (
      fs.0 ∙ i.0,
      fewer 16384 65536 8 1024 18446744073709551615 real_codec a.base a.count _ _ _ _ whole _ _ ns fs.1.0 i.1,
      first_skip 16384 65536 8 1024 18446744073709551615 real_codec a.base a.count _ _ _ _ whole _ _ ns fs.1.0 _ c.if-page-count.false ∙ i.2,
    )
