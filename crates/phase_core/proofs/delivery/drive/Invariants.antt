-- After each turn `drive` stands in the plain run, and what is left weighs less.
use Rattle.std.proofs.Common.{replicate}
use Rattle.phase_core.specs.Machine.{Handle, Delivers, start_state}
use Rattle.phase_core.proofs.Driving.{Reached}
use Rattle.phase_core.proofs.delivery.drive.Given as goal

abbrev pub invariant-loop-envelope : goal.invariant-loop-envelope
invariant-loop-envelope g l =
    let p = g.P.Phase.problem l.fn.phase l.fn.cells.items in
    record {
      runs : Delivers (g.P.Phase.react p) (start_state g.P.Phase.start l.fn.cells.items) (replicate l.handled (Handle 0)) (record { cells = l.cells.items; flight = l.flight });
      at : Reached (g.P.Phase.holds p) (g.P.Phase.weight p) (g.P.Phase.problem l.fn.phase) p (g.P.Phase.start_weight p) l.handled l.cells.items l.flight;
    }

abbrev pub decreases-loop-envelope : goal.decreases-loop-envelope
decreases-loop-envelope g l = g.P.Phase.weight (g.P.Phase.problem l.fn.phase l.fn.cells.items) l.cells.items l.flight
