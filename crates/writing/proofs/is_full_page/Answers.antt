use borrow.Author.Tests.{eq-eqb, ne_eqb}
use Rattle.update.specs.Update.{whole_page}
use Rattle.writing.proofs.is_full_page.Goals as goal

pub returns-then-n-eq-PAGE_LEN : goal.returns-then-n-eq-PAGE_LEN
unfolding whole_page
returns-then-n-eq-PAGE_LEN c = simp (eq-eqb _ _ c.if-n-eq-PAGE_LEN.true, c.page_offset.ensures)

pub returns-else-n-eq-PAGE_LEN : goal.returns-else-n-eq-PAGE_LEN
unfolding whole_page
returns-else-n-eq-PAGE_LEN c = simp (ne_eqb _ _ c.if-n-eq-PAGE_LEN.false)
