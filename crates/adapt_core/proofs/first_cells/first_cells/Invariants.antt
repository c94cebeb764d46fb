-- The first cells of the leaves so far.
use Rattle.phase_core.specs.Lemmas.ListsByPlaces.{Has}
use Rattle.adapt_core.specs.Lemmas.FirstCells.{IsFirstCell}
use Rattle.adapt_core.proofs.first_cells.first_cells.Given as goal

abbrev pub invariant-loop-at : goal.invariant-loop-at
invariant-loop-at l = Has (IsFirstCell l.set.grid l.set.places l.wishes l.openings.items) l.at l.cells.items
