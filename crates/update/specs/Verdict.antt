-- What a change of an update answers: accepted, or refused on one of 01's grounds.
use Rattle.std.specs.Prelude.{Result}
use Rattle.config.specs.declared.refusal.Refusal.{Refusal}

abbrev pub Verdict : Type 0
Verdict = Result (Unit {0}) Refusal
