-- One pick more, and the end where nothing is in flight.
use Rattle.std.proofs.Common.{rules, arith, ◌≡◌, ◌<◌, ◌%◌, ◌∙◌, [], ap, subst, length, get_or}
use Rattle.std.proofs.lemmas.Grind.{common_steps}
use Rattle.std.proofs.lemmas.List.{nil_from_length}
use Rattle.phase_core.specs.Machine.{CoreState, Handles}
use Rattle.phase_core.proofs.Events.{Laws, Handles-holds}
use Rattle.phase_core.proofs.Picking.{quiet_ends, one_pick}
use Rattle.phase_core.proofs.picked.deliver.Goals as goal

pub returns-then-is_empty-clause-run : goal.returns-then-is_empty-clause-run
returns-then-is_empty-clause-run g c =
    let p = g.P.Phase.problem c.args.phase c.args.cells.items in
    let t : CoreState g.row.P-Cell.Denot g.row.P-Msg.Denot = record { cells = c.loop-k.cells.items; flight = c.loop-k.flight.items } in
    let none : c.loop-k.flight.items ≡ [] = nil_from_length c.loop-k.flight.items (first_of (search rules, grind (arith, common_steps))) in
    c.loop-k.invariant.runs t (quiet_ends (g.P.Phase.react p) t _ none)

pub loop-k-preserved : goal.loop-k-preserved
loop-k-preserved g c =
    let phase = c.args.phase in
    let p = g.P.Phase.problem phase c.args.cells.items in
    let i = c.loop-k.invariant in
    let flight = c.loop-k.flight.items in
    let t : CoreState g.row.P-Cell.Denot g.row.P-Msg.Denot = record { cells = c.loop-k.cells.items; flight = flight } in
    let next : CoreState g.row.P-Cell.Denot g.row.P-Msg.Denot = record { cells = c.handle_at.new.cells.items; flight = c.handle_at.new.flight.items } in
    let pick = get_or c.args.picks.now c.loop-k.k 0 in
    let at = pick % c.len-in-loop-k.result in
    let count : c.len-in-loop-k.result ≡ length flight = omega (arith, c.len-in-loop-k.ensures, c.loop-k.flight.ok.0) in
    let event : Handles (g.P.Phase.react p) t at next = subst (λ q. Handles (g.P.Phase.react q) t at next) i.same c.in_ok-handle_at.ensures in
    let low : c.loop-k.k < length c.args.picks.now = first_of (search rules, grind (arith, common_steps)) in
    let some : 0 < length flight = first_of (search rules, grind (arith, common_steps)) in
    let laws : Laws (g.P.Phase.react p) (g.P.Phase.holds p) (g.P.Phase.weight p) = record { keeps = g.met.P.Phase.keeps p; lowers = g.met.P.Phase.lowers p; holds_in_any_order = g.met.P.Phase.holds_in_any_order p; weighs_in_any_order = g.met.P.Phase.weighs_in_any_order p; addressed = g.met.P.Phase.addressed p } in
    record {
      runs = λ u r. i.runs u (one_pick (g.P.Phase.react p) t next u c.args.picks.now c.loop-k.k at low some (ap (λ n. pick % n) count) event r);
      valid = Handles-holds laws event i.valid;
      same = ap (g.P.Phase.problem phase) event.cells ∙ (g.met.P.Phase.same_problem phase p t.cells event.envelope.to event.cell event.envelope.msg event.stands ∙ i.same);
    }
