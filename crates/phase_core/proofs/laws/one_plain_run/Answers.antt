-- From the laws of a phase, at one problem.
use Rattle.std.proofs.Common.{◌≡◌, ◌≤◌, ap, arith}
use Rattle.phase_core.specs.Machine.{start_state}
use Rattle.phase_core.proofs.Events.{Laws}
use Rattle.phase_core.proofs.Deliveries.{RunsPlainly-once, RunsPlainly-reached}
use Rattle.phase_core.proofs.laws.one_plain_run.Given.{Over}
use Rattle.phase_core.proofs.laws.one_plain_run.Goals as goal

laws : (g : Over) (p : g.row.P-Problem.Denot) → Laws (g.P.Phase.react p) (g.P.Phase.holds p) (g.P.Phase.weight p)
laws g p = record { keeps = g.met.P.Phase.keeps p; lowers = g.met.P.Phase.lowers p; holds_in_any_order = g.met.P.Phase.holds_in_any_order p; weighs_in_any_order = g.met.P.Phase.weighs_in_any_order p; addressed = g.met.P.Phase.addressed p }

pub returns-clause-reached : goal.returns-clause-reached
returns-clause-reached g c p s valid =
    RunsPlainly-reached (laws g p) (g.P.Phase.weight p s.cells s.flight) s valid (omega arith)

pub returns-clause-reached_from_the_start : goal.returns-clause-reached_from_the_start
returns-clause-reached_from_the_start g c p cells first =
    let s = start_state g.P.Phase.start cells in
    let start : g.P.Phase.weight p s.cells s.flight ≡ g.P.Phase.start_weight p = g.met.P.Phase.start_weighs p cells first in
    let end = RunsPlainly-reached (laws g p) (g.P.Phase.weight p s.cells s.flight) s (g.met.P.Phase.start_holds p cells first) (omega arith) in
    let few : end.0 ≤ g.P.Phase.weight p s.cells s.flight = end.3 in
    (end.0, end.1, end.2, omega (arith, few, start))

pub returns-clause-count : goal.returns-clause-count
returns-clause-count g c p s t u m n a b = (RunsPlainly-once m n s t u a b).0

pub returns-clause-cells : goal.returns-clause-cells
returns-clause-cells g c p s t u m n a b = ap (λ x. x.cells) (RunsPlainly-once m n s t u a b).1
