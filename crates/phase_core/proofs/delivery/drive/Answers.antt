-- `drive` goes through the plain run: what each turn and the end owe.
use Rattle.std.proofs.Common.{◌≡◌, ◌≤◌, ◌<◌, ◌^◌, ◌+◌, ◌∷◌, [], ◌∙◌, ℕ, List, ap, sym, subst, length, arith, replicate}
use Rattle.phase_core.specs.declared.envelope.Envelope.{Envelope}
use Rattle.phase_core.specs.Machine.{Handle, Delivers, start_state}
use Rattle.phase_core.specs.Lemmas.Starts.{length-start_flight}
use Rattle.phase_core.proofs.Events.{Laws, Handles-weight}
use Rattle.phase_core.proofs.Driving.{Reached, begun, reached, valid_at, Handles-at, plain_more, plain_end, plain_least}
use Rattle.phase_core.proofs.delivery.drive.Given.{Over}
use Rattle.phase_core.proofs.delivery.drive.Goals as goal

laws : (g : Over) (p : g.row.P-Problem.Denot) → Laws (g.P.Phase.react p) (g.P.Phase.holds p) (g.P.Phase.weight p)
laws g p = record { keeps = g.met.P.Phase.keeps p; lowers = g.met.P.Phase.lowers p; holds_in_any_order = g.met.P.Phase.holds_in_any_order p; weighs_in_any_order = g.met.P.Phase.weighs_in_any_order p; addressed = g.met.P.Phase.addressed p }

-- where n events from the start lead
known : (g : Over) (phase : g.row.P.Denot) (first cells : List g.row.P-Cell.Denot) (flight : List (Envelope g.row.P-Msg.Denot)) (n : ℕ) → g.P.Phase.begins (g.P.Phase.problem phase first) first → Delivers (g.P.Phase.react (g.P.Phase.problem phase first)) (start_state g.P.Phase.start first) (replicate n (Handle 0)) (record { cells = cells; flight = flight }) → Reached (g.P.Phase.holds (g.P.Phase.problem phase first)) (g.P.Phase.weight (g.P.Phase.problem phase first)) (g.P.Phase.problem phase) (g.P.Phase.problem phase first) (g.P.Phase.start_weight (g.P.Phase.problem phase first)) n cells flight
known g phase first cells flight n begins runs =
    let p = g.P.Phase.problem phase first in
    reached (laws g p) (g.P.Phase.problem phase) (g.met.P.Phase.same_problem phase p) (g.P.Phase.start_weight p) n (start_state g.P.Phase.start first) cells flight (g.met.P.Phase.start_holds p first begins) (g.met.P.Phase.start_weighs p first begins) runs

pub loop-envelope-init : goal.loop-envelope-init
loop-envelope-init g c =
    let first = c.args.cells.items in
    let count : c.len.result ≡ length first = omega (arith, c.len.ensures, c.args.cells.ok.0) in
    let runs = begun g.P.Phase.start first c.in_ok-flight.flight c.len.result c.in_ok-flight.ensures count in
    record { runs = runs; at = known g c.args.phase first first c.in_ok-flight.flight 0 c.requires.begins runs }

pub handle_next-requires : goal.handle_next-requires
handle_next-requires g c =
    let first = c.args.cells.items in
    let cells = c.loop-envelope.cells.items in
    let at = c.loop-envelope.invariant.at in
    valid_at g.P.Phase.holds (g.P.Phase.problem c.args.phase first) (g.P.Phase.problem c.args.phase cells) cells c.loop-envelope.flight (c.in-Some.envelope ∷ c.pop_front.new.self) at.same c.in-Some.ensures.first at.valid

pub overflow_add-handled : goal.overflow_add-handled
overflow_add-handled g c =
    let at = c.loop-envelope.invariant.at in
    let fits : g.P.Phase.start_weight (g.P.Phase.problem c.args.phase c.args.cells.items) < 2 ^ 62 = g.met.P.Phase.start_weight_fits (g.P.Phase.problem c.args.phase c.args.cells.items) c.loop-envelope.cells.items c.loop-envelope.flight at.valid in
    omega (arith, fits, at.light)

pub loop-envelope-smaller : goal.loop-envelope-smaller
loop-envelope-smaller g c =
    let p = g.P.Phase.problem c.args.phase c.args.cells.items in
    let cells = c.loop-envelope.cells.items in
    let at = c.loop-envelope.invariant.at in
    let event = Handles-at g.P.Phase.react p (g.P.Phase.problem c.args.phase cells) cells c.loop-envelope.flight (c.in-Some.envelope ∷ c.pop_front.new.self) (record { cells = c.handle_next.new.cells.items; flight = c.handle_next.new.flight }) at.same c.in-Some.ensures.first c.in_ok-handle_next.ensures in
    Handles-weight (laws g p) event at.valid

pub loop-envelope-preserved : goal.loop-envelope-preserved
loop-envelope-preserved g c =
    let first = c.args.cells.items in
    let p = g.P.Phase.problem c.args.phase first in
    let cells = c.loop-envelope.cells.items in
    let flight = c.loop-envelope.flight in
    let event = Handles-at g.P.Phase.react p (g.P.Phase.problem c.args.phase cells) cells flight (c.in-Some.envelope ∷ c.pop_front.new.self) (record { cells = c.handle_next.new.cells.items; flight = c.handle_next.new.flight }) c.loop-envelope.invariant.at.same c.in-Some.ensures.first c.in_ok-handle_next.ensures in
    let runs = plain_more (g.P.Phase.react p) c.loop-envelope.handled (start_state g.P.Phase.start first) (record { cells = cells; flight = flight }) (record { cells = c.handle_next.new.cells.items; flight = c.handle_next.new.flight }) c.loop-envelope.invariant.runs event in
    record { runs = runs; at = known g c.args.phase first c.handle_next.new.cells.items c.handle_next.new.flight (c.loop-envelope.handled + 1) c.requires.begins runs }

pub settled-requires-clause-holds : goal.settled-requires-clause-holds
settled-requires-clause-holds g c =
    let cells = c.loop-envelope.cells.items in
    let at = c.loop-envelope.invariant.at in
    valid_at g.P.Phase.holds (g.P.Phase.problem c.args.phase c.args.cells.items) (g.P.Phase.problem c.args.phase cells) cells c.loop-envelope.flight [] at.same c.in_default.ensures.none at.valid

pub settled-requires-clause-bounded : goal.settled-requires-clause-bounded
settled-requires-clause-bounded g c =
    let at = c.loop-envelope.invariant.at in
    let same : g.P.Phase.start_weight (g.P.Phase.problem c.args.phase c.loop-envelope.cells.items) ≡ g.P.Phase.start_weight (g.P.Phase.problem c.args.phase c.args.cells.items) = ap g.P.Phase.start_weight at.same in
    omega (arith, same, at.light)

pub returns-clause-problem : goal.returns-clause-problem
returns-clause-problem g c = ◌∙◌ {b = g.P.Phase.problem c.args.phase c.loop-envelope.cells.items} c.settled.ensures.problem c.loop-envelope.invariant.at.same

pub returns-clause-plain_run : goal.returns-clause-plain_run
returns-clause-plain_run g c =
    let first = c.args.cells.items in
    plain_end (g.P.Phase.react (g.P.Phase.problem c.args.phase first)) c.loop-envelope.handled c.settled.result.handled (start_state g.P.Phase.start first) c.loop-envelope.cells.items c.settled.result.cells c.loop-envelope.flight c.loop-envelope.invariant.runs c.in_default.ensures.none c.settled.ensures.handled c.settled.ensures.cells

pub returns-clause-holds : goal.returns-clause-holds
returns-clause-holds g c =
    let p = g.P.Phase.problem c.args.phase c.args.cells.items in
    let here = subst (λ xs. g.P.Phase.holds p c.loop-envelope.cells.items xs) c.in_default.ensures.none c.loop-envelope.invariant.at.valid in
    subst (λ xs. g.P.Phase.holds p xs []) (sym c.settled.ensures.cells) here

pub returns-clause-handles_each : goal.returns-clause-handles_each
returns-clause-handles_each g c =
    let first = c.args.cells.items in
    let start = start_state g.P.Phase.start first in
    let least : length start.flight ≤ c.settled.result.handled = plain_least (g.P.Phase.react (g.P.Phase.problem c.args.phase first)) c.loop-envelope.handled c.settled.result.handled start (record { cells = c.loop-envelope.cells.items; flight = c.loop-envelope.flight }) c.loop-envelope.invariant.runs c.in_default.ensures.none c.settled.ensures.handled in
    omega (arith, least, length-start_flight g.P.Phase.start (length first))

pub returns-clause-bounded : goal.returns-clause-bounded
returns-clause-bounded g c = omega (arith, c.settled.ensures.handled, c.loop-envelope.invariant.at.light)
