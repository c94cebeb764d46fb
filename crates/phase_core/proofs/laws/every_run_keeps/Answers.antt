-- From the laws of a phase, at one problem.
use Rattle.phase_core.proofs.Events.{Laws}
use Rattle.phase_core.proofs.Deliveries.{Delivers-holds, Delivers-weight, Delivers-same, Delivers-places, Delivers-flight}
use Rattle.phase_core.proofs.laws.every_run_keeps.Given.{Over}
use Rattle.phase_core.proofs.laws.every_run_keeps.Goals as goal

laws : (g : Over) (p : g.row.P-Problem.Denot) → Laws (g.P.Phase.react p) (g.P.Phase.holds p) (g.P.Phase.weight p)
laws g p = record { keeps = g.met.P.Phase.keeps p; lowers = g.met.P.Phase.lowers p; holds_in_any_order = g.met.P.Phase.holds_in_any_order p; weighs_in_any_order = g.met.P.Phase.weighs_in_any_order p; addressed = g.met.P.Phase.addressed p }

pub returns-clause-holds : goal.returns-clause-holds
returns-clause-holds g c p s t events valid r =
    Delivers-holds (laws g p) events s t valid r

pub returns-clause-weight : goal.returns-clause-weight
returns-clause-weight g c p s t events valid r =
    Delivers-weight (laws g p) events s t valid r

pub returns-clause-problem : goal.returns-clause-problem
returns-clause-problem g c phase p s t events r =
    Delivers-same (g.P.Phase.react p) (g.P.Phase.problem phase) (g.met.P.Phase.same_problem phase p) events s t r

pub returns-clause-places : goal.returns-clause-places
returns-clause-places g c p s t events r = Delivers-places (g.P.Phase.react p) events s t r

pub returns-clause-flight : goal.returns-clause-flight
returns-clause-flight g c p s t events r = Delivers-flight (g.P.Phase.react p) events s t r
