-- The start messages so far.
use Rattle.std.proofs.Common.{◌≡◌}
use Rattle.phase_core.specs.Machine.{start_flight}
use Rattle.phase_core.proofs.picked.start_list.Given as goal

abbrev pub invariant-loop-to : goal.invariant-loop-to
invariant-loop-to g l = l.sent.items ≡ start_flight g.P.Phase.start l.to
