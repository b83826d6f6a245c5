-- `Writer::put_digit` meets its contract.
use Rattle.std.proofs.Common.{refl}
use Rattle.decimal.specs.Write.{write_one}
use Rattle.decimal.proofs.write.Writer.put_digit.Goals as goal

pub returns : goal.returns
returns c = (refl, write_one _ _ _)
