-- The places that are left.
use Rattle.std.proofs.Common.{◌+◌, ◌*◌, length}
use Rattle.thread_runs.proofs.runs.+runs.Given as goal

abbrev pub decreases-side_by_side : goal.decreases-side_by_side
decreases-side_by_side g l = 3 * length l.elements.now

abbrev pub decreases-first_and_rest : goal.decreases-first_and_rest
decreases-first_and_rest g l = 3 * length l.rest.now + 2

abbrev pub decreases-first_and_rest-others : goal.decreases-first_and_rest-others
decreases-first_and_rest-others g l = 3 * length l.rest.now + 1
