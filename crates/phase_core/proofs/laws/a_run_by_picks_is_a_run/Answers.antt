-- A run by picks, event by event.
use Rattle.phase_core.proofs.Picking.{picked_run}
use Rattle.phase_core.proofs.laws.a_run_by_picks_is_a_run.Goals as goal

pub returns : goal.returns
returns g c = record { runs = λ p s t picks r. picked_run (g.P.Phase.react p) s t picks r }
