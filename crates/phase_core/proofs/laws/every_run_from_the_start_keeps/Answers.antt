-- From the laws of a phase, at one problem.
use Rattle.std.proofs.Common.{◌≡◌, ◌+◌, ◌≤◌, length, arith}
use Rattle.phase_core.specs.Machine.{start_state}
use Rattle.phase_core.proofs.Events.{Laws}
use Rattle.phase_core.proofs.Deliveries.{Delivers-holds, Delivers-weight}
use Rattle.phase_core.proofs.laws.every_run_from_the_start_keeps.Given.{Over}
use Rattle.phase_core.proofs.laws.every_run_from_the_start_keeps.Goals as goal

laws : (g : Over) (p : g.row.P-Problem.Denot) → Laws (g.P.Phase.react p) (g.P.Phase.holds p) (g.P.Phase.weight p)
laws g p = record { keeps = g.met.P.Phase.keeps p; lowers = g.met.P.Phase.lowers p; holds_in_any_order = g.met.P.Phase.holds_in_any_order p; weighs_in_any_order = g.met.P.Phase.weighs_in_any_order p; addressed = g.met.P.Phase.addressed p }

pub returns-clause-holds : goal.returns-clause-holds
returns-clause-holds g c p cells t events first r =
    Delivers-holds (laws g p) events (start_state g.P.Phase.start cells) t (g.met.P.Phase.start_holds p cells first) r

pub returns-clause-weight : goal.returns-clause-weight
returns-clause-weight g c p cells t events first r =
    let s = start_state g.P.Phase.start cells in
    let below : length events + g.P.Phase.weight p t.cells t.flight ≤ g.P.Phase.weight p s.cells s.flight = Delivers-weight (laws g p) events s t (g.met.P.Phase.start_holds p cells first) r in
    let start : g.P.Phase.weight p s.cells s.flight ≡ g.P.Phase.start_weight p = g.met.P.Phase.start_weighs p cells first in
    omega (arith, below, start)
