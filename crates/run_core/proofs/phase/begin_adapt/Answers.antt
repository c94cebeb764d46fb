-- A leaf that wishes past the finest level.
use Rattle.std.proofs.Common.{inr}
use Rattle.run_core.proofs.phase.begin_adapt.Goals as goal

pub returns-in-Some-clause-ended : goal.returns-in-Some-clause-ended
returns-in-Some-clause-ended g c = inr c.in-Some.ensures.found
