-- The start messages so far, and room for the others.
use Rattle.std.proofs.Common.{◌≡◌, ◌+◌, ◌≤◌}
use Rattle.phase_core.specs.Machine.{start_flight}
use Rattle.phase_core.proofs.delivery.start_messages.Given as goal

abbrev pub invariant-loop-to : goal.invariant-loop-to
invariant-loop-to g l = record {
  sent : l.sent.items ≡ start_flight g.P.Phase.start l.to;
  room : l.count ≤ l.to + l.sent.spare;
}
