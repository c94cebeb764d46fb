-- Whatever the picks that are left lead to, all picks lead to from the start.
use Rattle.std.proofs.Common.{◌≡◌, drop}
use Rattle.phase_core.specs.Machine.{CoreState, start_state}
use Rattle.phase_core.specs.Picks.{RunsByPicks}
use Rattle.phase_core.proofs.picked.deliver.Given as goal

abbrev pub invariant-loop-k : goal.invariant-loop-k
invariant-loop-k g l =
    let p = g.P.Phase.problem l.fn.phase l.fn.cells.items in
    record {
      runs : (u : CoreState _ _) → RunsByPicks (g.P.Phase.react p) (record { cells = l.cells.items; flight = l.flight.items }) (drop l.k l.picks) u → RunsByPicks (g.P.Phase.react p) (start_state g.P.Phase.start l.fn.cells.items) l.picks u;
      valid : g.P.Phase.holds p l.cells.items l.flight.items;
      same : g.P.Phase.problem l.fn.phase l.cells.items ≡ p;
    }
