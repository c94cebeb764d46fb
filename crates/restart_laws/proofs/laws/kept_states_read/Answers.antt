-- Each part is sound.
use Rattle.run_report.specs.Actions.{kept_state}
use Rattle.restart_laws.proofs.KeptCheckpoints.{kept-IsCheckpoint}
use Rattle.restart_laws.proofs.ShortFiles.{kept-stands}
use Rattle.restart_laws.proofs.laws.kept_states_read.Goals as goal

pub returns-clause-kept : goal.returns-clause-kept
returns-clause-kept c = kept-IsCheckpoint

pub returns-clause-reads : goal.returns-clause-reads
returns-clause-reads c =
    λ p cycle here a within runs. kept-stands (kept_state p cycle here.state here.ledger) (kept-IsCheckpoint p cycle here a within runs)
