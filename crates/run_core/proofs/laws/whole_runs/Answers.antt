-- The initial state and its ledger.
use Rattle.run_core.proofs.RunTotals.{whole-IsCourse}
use Rattle.run_core.proofs.laws.whole_runs.Goals as goal

pub returns : goal.returns
returns c = record { course = whole-IsCourse }
