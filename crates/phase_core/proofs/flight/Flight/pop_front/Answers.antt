-- What is taken is the first envelope of the flight.
use Rattle.std.proofs.Common.{◌≡◌, [], ◌++◌, reverse, arith, sym, ◌∙◌}
use Rattle.std.proofs.lemmas.Bool.{eqb-true}
use Rattle.std.proofs.lemmas.List.{nil_from_length}
use Rattle.phase_core.proofs.Flights.{popped, turned}
use Rattle.phase_core.proofs.flight.Flight.pop_front.Goals.{then-is_empty, else-is_empty}
use Rattle.phase_core.proofs.flight.Flight.pop_front.Goals as goal

pub returns-clause-first : goal.returns-clause-first
returns-clause-first g c =
    let next = c.self.inside.next.items in
    let out = c.self.inside.out.items in
    let was : c.args.self.now ≡ reverse next ++ out = sym c.self.view_is in
    let same : c.args.self.now ≡ reverse c.if-is_empty.self-inside.next.items ++ c.if-is_empty.self-inside.out.items =
    elim c.if-is_empty.branch [
      | then-is_empty w ↦
          let none : next ≡ [] = nil_from_length next (omega (arith, eqb-true _ 0 (sym c.is_empty.ensures ∙ w.if-is_empty.true), c.self.inside.next.ok.0)) in
          rw w.self-inside-is (turned c.args.self.now next out w.swap_reversed.new.other.items w.swap_reversed.new.self.items was none w.swap_reversed.ensures.other w.swap_reversed.ensures.items)
      | else-is_empty w ↦ rw w.self-inside-is was
    ] in
    popped c.args.self.now c.if-is_empty.self-inside.next.items c.pop.new.self.items c.if-is_empty.self-inside.out.items c.pop.result same c.pop.ensures.items
