use mathlib.Core.Path.{◌∙◌}
use mathlib.Core.Bool.{or-false}
use Rattle.runs.specs.Flat.{runs_in}
use Rattle.zero_pages.proofs.in_run.Goals as goal

pub returns : goal.returns
unfolding runs_in
returns c = c.covered.ensures ∙ or-false _
