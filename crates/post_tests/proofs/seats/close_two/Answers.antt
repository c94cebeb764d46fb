use Rattle.std.proofs.Common.{ap}
use Rattle.std.specs.Prelude.{slice_get}
use Rattle.post_tests.proofs.seats.close_two.Goals as goal

pub close-requires-clause-seen : goal.close-requires-clause-seen
close-requires-clause-seen g c = (1, c.args.second, ap (λ xs. slice_get xs 1) c.in_ok-seats.ensures, c.requires.seen)
