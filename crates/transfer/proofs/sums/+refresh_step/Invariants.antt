use Rattle.transfer.specs.RefreshLaws.{pending}
use Rattle.transfer.proofs.sums.+refresh_step.Given as goal

-- whether progress of an older transaction is still present
abbrev pub decreases-refresh_step : goal.decreases-refresh_step
decreases-refresh_step l = pending l.block
