use Rattle.std.proofs.Common.{ap}
use Rattle.std.specs.Prelude.{slice_get}
use Rattle.quiet_table.proofs.tests.one_shard.Goals as goal

pub returns-clause-first : goal.returns-clause-first
returns-clause-first c = c.in_ok-board.ensures.seats 0 _ (ap (λ l. slice_get l 0) c.two_seats-first.ensures)

pub returns-clause-second : goal.returns-clause-second
returns-clause-second c = c.in_ok-board.ensures.seats 1 _ (ap (λ l. slice_get l 1) c.two_seats-first.ensures)
