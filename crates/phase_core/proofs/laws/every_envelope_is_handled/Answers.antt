-- From the laws of a phase, at one problem.
use Rattle.std.proofs.Common.{arith}
use Rattle.phase_core.proofs.Events.{Laws, Handles-next}
use Rattle.phase_core.proofs.Deliveries.{flight_within}
use Rattle.phase_core.proofs.laws.every_envelope_is_handled.Given.{Over}
use Rattle.phase_core.proofs.laws.every_envelope_is_handled.Goals as goal

laws : (g : Over) (p : g.row.P-Problem.Denot) → Laws (g.P.Phase.react p) (g.P.Phase.holds p) (g.P.Phase.weight p)
laws g p = record { keeps = g.met.P.Phase.keeps p; lowers = g.met.P.Phase.lowers p; holds_in_any_order = g.met.P.Phase.holds_in_any_order p; weighs_in_any_order = g.met.P.Phase.weighs_in_any_order p; addressed = g.met.P.Phase.addressed p }

pub returns-clause-next : goal.returns-clause-next
returns-clause-next g c p s i valid within =
    Handles-next (laws g p) s i valid within

pub returns-clause-weight : goal.returns-clause-weight
returns-clause-weight g c p s valid =
    flight_within (laws g p) (g.P.Phase.weight p s.cells s.flight) s valid (omega arith)
