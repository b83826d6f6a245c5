-- `fnv::fold_zero_page` meets its contract: the constant is the power of the prime for a page.
use Rattle.std.proofs.Common.{sym}
use Rattle.fnv.specs.Zeros.{page_zeros}
use Rattle.fnv.proofs.fold_zero_page.Goals as goal

pub returns : goal.returns
returns c = sym (page_zeros c.args.hash c.ranges.hash.fits)
