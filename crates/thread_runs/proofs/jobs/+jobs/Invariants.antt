-- The jobs that are left.
use Rattle.std.proofs.Common.{◌+◌, ◌*◌}
use Rattle.thread_runs.proofs.jobs.+jobs.Given as goal

abbrev pub decreases-all_at_once : goal.decreases-all_at_once
decreases-all_at_once g l = 2 * l.jobs.len

abbrev pub decreases-others : goal.decreases-others
decreases-others g l = 2 * l.jobs.len + 1
