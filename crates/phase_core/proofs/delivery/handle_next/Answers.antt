-- Handling the first envelope is an event of the core machine.
use Rattle.std.proofs.Common.{arith, ◌≡◌, ◌<◌, ◌∷◌, ◌++◌, reverse, length, refl}
use Rattle.std.specs.Prelude.{Some, slice_get}
use Rattle.std.proofs.lemmas.Option.{slice_get_read}
use Rattle.phase_core.proofs.Events.{first_within, Stands-first, Handles-first}
use Rattle.phase_core.proofs.Flights.{sent_behind}
use Rattle.phase_core.proofs.delivery.handle_next.Goals as goal

pub index_mut-cell-requires : goal.index_mut-cell-requires
index_mut-cell-requires g c =
    let cells = c.args.cells.now in
    let p = g.P.Phase.problem c.args.phase.now cells.items in
    let within : c.args.envelope.to < length cells.items = first_within (g.met.P.Phase.addressed p) cells.items c.args.envelope c.args.flight.now c.requires in
    omega (arith, within, cells.ok.0)

pub handle-requires : goal.handle-requires
handle-requires g c =
    let cells = c.args.cells.now.items in
    let e = c.args.envelope in
    let rest = c.args.flight.now in
    let within : e.to < length cells = first_within (g.met.P.Phase.addressed (g.P.Phase.problem c.args.phase.now cells)) cells e rest c.requires in
    let here : slice_get cells e.to ≡ Some c.index_mut-cell.result.now = slice_get_read cells (length cells) e.to c.index_mut-cell.result.now refl within c.index_mut-cell.ensures.value in
    record { stands = (cells, e ∷ rest, Stands-first cells e rest c.index_mut-cell.result.now here c.requires) }

pub returns : goal.returns
returns g c =
    let cells = c.args.cells.now.items in
    let e = c.args.envelope in
    let rest = c.args.flight.now in
    let cell = c.index_mut-cell.result.now in
    let p = g.P.Phase.problem c.args.phase.now cells in
    let within : e.to < length cells = first_within (g.met.P.Phase.addressed p) cells e rest c.requires in
    let here : slice_get cells e.to ≡ Some cell = slice_get_read cells (length cells) e.to cell refl within c.index_mut-cell.ensures.value in
    let stands = Stands-first cells e rest cell here c.requires in
    let behind = sent_behind c.args.flight.now (reverse c.flight.inside.next.items) c.flight.inside.out.items (g.P.Phase.react p e.to cell e.msg).sent c.handle.new.out.items c.flight.view_is (c.in_ok-handle.ensures.sent cells (e ∷ rest) stands) in
    Handles-first (g.P.Phase.react p) cells e rest cell c.handle.new.cell (reverse c.flight.inside.next.items ++ c.handle.new.out.items) here (c.in_ok-handle.ensures.cell cells (e ∷ rest) stands) behind
