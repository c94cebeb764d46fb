-- The runs agree phase by phase, and so does what ends them.
use Rattle.run_core.proofs.OneRun.{RunEnds-state, RunEnds-limit}
use Rattle.run_core.proofs.laws.one_run.Goals as goal

pub returns : goal.returns
returns c = record { state = RunEnds-state; limit = RunEnds-limit }
