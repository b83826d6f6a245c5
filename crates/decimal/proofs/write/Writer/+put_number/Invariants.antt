-- `n`: a number from 10 on is its tenth's digits, and one more.
use Rattle.decimal.proofs.write.Writer.+put_number.Given as goal

abbrev pub decreases-put_number : goal.decreases-put_number
decreases-put_number l = l.n
