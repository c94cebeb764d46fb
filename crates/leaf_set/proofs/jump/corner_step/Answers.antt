-- What is left of the proof of this function.
use Rattle.std.proofs.Common.{sym, arith}
use Rattle.leaf_set.proofs.StepMeetings.{corner_step-none, corner_step-out}
use Rattle.leaf_set.proofs.jump.corner_step.Goals as goal

pub returns-then-k-eq0-clause-step : goal.returns-then-k-eq0-clause-step
returns-then-k-eq0-clause-step c = sym (corner_step-none c.args.x c.args.k (omega arith))

pub returns-then-x-eq0-clause-step : goal.returns-then-x-eq0-clause-step
returns-then-x-eq0-clause-step c = sym (corner_step-out c.args.x c.args.k 0 (omega arith) (omega arith))

pub returns-else-x-eq0-clause-step : goal.returns-else-x-eq0-clause-step
returns-else-x-eq0-clause-step c = sym (corner_step-out c.args.x c.args.k 1 (omega arith) (omega arith))
