-- The state that the type names.
use Rattle.std.proofs.Common.{[]}
use Rattle.run_core.specs.Courses.{run_state}
use Rattle.run_core.specs.Runs.{blocks_state}
use Rattle.cello_top.proofs.resumption.resume_state.Given as goal

abbrev pub ghosts-go_on : goal.ghosts-go_on
ghosts-go_on g a = record { from = run_state (blocks_state a.state.params a.state.blocks.items) a.state.ledger [] }
