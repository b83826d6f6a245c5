-- `pool::find` meets its contract: the place among the numbers behind the blocks that have not the page.
use Rattle.std.proofs.lemmas.Iterator.{YieldsList-from_slice}
use Rattle.std.proofs.lemmas.Iterator.Search.{position_from_yields_List}
use Prim.Native.Nat.{◌/◌}
use Rattle.std.specs.Prelude.{length}
use Rattle.std.specs.Simd.{first_chunks}
use borrow.Author.Rules.{rules}
use borrow.Author.Tests.{tests}
use Rattle.pool.specs.PoolLaws.{has, found_behind, missed_behind}
use Rattle.pool.proofs.pages.find.Goals as goal

pub returns-in_err-at : goal.returns-in_err-at
returns-in_err-at c =
    rw c.from_residual.ensures (missed_behind c.args.numbers.now c.args.page c.position.result c.unwrap_or-whole.result
    (position_from_yields_List (has c.args.page) _ _ c.position.result c.position.ensures.ran
    (YieldsList-from_slice (first_chunks 8 (length c.args.numbers.now / 8) c.args.numbers.now) cc) (λ x b q k. search (rules, tests)))
    (search rules)
    c.in_err-at.ensures)

pub returns : goal.returns
returns c =
    found_behind c.args.numbers.now c.args.page c.position.result c.unwrap_or-whole.result
    (position_from_yields_List (has c.args.page) _ _ c.position.result c.position.ensures.ran
    (YieldsList-from_slice (first_chunks 8 (length c.args.numbers.now / 8) c.args.numbers.now) cc) (λ x b q k. search (rules, tests)))
    (search rules)
    c.in_ok-at.at
    c.in_ok-at.ensures
