-- Handling the envelope at a place of the flight is an event of the core machine.
use Rattle.std.proofs.Common.{◌≡◌, ◌<◌, ◌++◌, ◌∙◌, ap, length, refl}
use Rattle.std.specs.Prelude.{Some, slice_get, slice_set, remove}
use Rattle.std.proofs.lemmas.Option.{slice_get_read}
use Rattle.phase_core.specs.Stands.{Stands}
use Rattle.phase_core.specs.Lemmas.Lookups.{Contains-at}
use Rattle.phase_core.proofs.Picking.{to_within}
use Rattle.phase_core.proofs.picked.handle_at.Goals as goal

pub returns : goal.returns
returns g c =
    let cells = c.args.cells.now.items in
    let flight = c.args.flight.now.items in
    let e = c.remove-envelope.result in
    let cell = c.index_mut-cell.result.now in
    let p = g.P.Phase.problem c.args.phase.now cells in
    let taken : slice_get flight c.args.at ≡ Some e = slice_get_read flight (length flight) c.args.at e refl c.requires.within c.remove-envelope.ensures.value in
    let within : e.to < length cells = to_within cells flight c.args.at e (g.met.P.Phase.addressed p cells flight c.requires.holds) taken in
    let here : slice_get cells e.to ≡ Some cell = slice_get_read cells (length cells) e.to cell refl within c.index_mut-cell.ensures.value in
    let stands : Stands g.P.Phase.holds (g.P.Phase.problem c.args.phase.now) e.to cell e.msg cells flight = record { here = here; waits = Contains-at flight c.args.at e taken; valid = c.requires.holds } in
    let sent = c.into_items-sent.ensures.items ∙ (c.in_ok-handle.ensures.sent cells flight stands ∙ ap (λ l. l ++ (g.P.Phase.react p e.to cell e.msg).sent) c.new-out.ensures.empty) in
    record {
      envelope = e;
      cell = cell;
      taken = taken;
      stands = here;
      cells = ap (λ x. slice_set cells e.to x) (c.in_ok-handle.ensures.cell cells flight stands);
      flight = c.in_ok-append.ensures.items ∙ (ap (λ l. l ++ c.into_items-sent.result.items) c.remove-envelope.ensures.items ∙ ap (λ l. remove flight c.args.at ++ l) sent);
    }
