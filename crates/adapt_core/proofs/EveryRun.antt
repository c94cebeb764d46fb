-- Every list of events from the start.
use Rattle.std.proofs.Common.{◌+◌, ◌≤◌, List, length, arith}
use Rattle.phase_core.specs.Machine.{CoreState, Event, Delivers, start_state, start_flight}
use Rattle.phase_core.proofs.Events.{Laws}
use Rattle.phase_core.proofs.Deliveries.{Delivers-holds, Delivers-weight}
use Rattle.adapt_core.specs.declared.adapt_msg.AdaptMsg.{AdaptMsg}
use Rattle.adapt_core.specs.Cells.{LeafState, AdaptProblem}
use Rattle.adapt_core.specs.React.{adapt_react, adapt_start}
use Rattle.adapt_core.specs.Problem.{AdaptBegins}
use Rattle.adapt_core.specs.Holds.{AdaptHolds, adapt_weight, adapt_start_weight}
use Rattle.adapt_core.specs.Lemmas.AdaptLaws.{keeps, lowers, holds_in_any_order, weighs_in_any_order, addressed, start_holds, start_weighs}

pub adapt_laws : (p : AdaptProblem) → Laws (adapt_react p) (AdaptHolds p) (adapt_weight p)
adapt_laws p = record { keeps = keeps p; lowers = lowers p; holds_in_any_order = holds_in_any_order p; weighs_in_any_order = weighs_in_any_order p; addressed = addressed p }

module _ (p : AdaptProblem) (cells : List LeafState) (t : CoreState LeafState AdaptMsg) (events : List Event) (begins : AdaptBegins p cells) (runs : Delivers (adapt_react p) (start_state adapt_start cells) events t) where
  pub run_holds : AdaptHolds p t.cells t.flight
  run_holds = Delivers-holds (adapt_laws p) events (start_state adapt_start cells) t (start_holds p cells begins) runs

  pub run_handles : length events ≤ adapt_start_weight p
  run_handles =
      let most : length events + adapt_weight p t.cells t.flight ≤ adapt_weight p cells (start_flight adapt_start (length cells)) = Delivers-weight (adapt_laws p) events (start_state adapt_start cells) t (start_holds p cells begins) runs in
      omega (arith, most, start_weighs p cells begins)
