-- One more first cell, and at the end all of them.
use Rattle.std.proofs.Common.{List, ℕ, subst}
use Rattle.phase_core.specs.Lemmas.ListsByPlaces.{Has-push}
use Rattle.adapt_core.specs.Lemmas.FirstCells.{IsFirstCell}
use Rattle.adapt_core.proofs.first_cells.first_cells.Goals as goal

pub loop-at-preserved : goal.loop-at-preserved
loop-at-preserved c =
    let set = c.args.set.now in
    let wishes = c.args.wishes.now in
    let cell = c.in_ok-first_cell.field-0 in
    let is = subst (λ (openings : List ℕ). IsFirstCell set.grid set.places wishes openings c.loop-at.at cell) c.deref.ensures.value c.in_ok-first_cell.ensures in
    Has-push (IsFirstCell set.grid set.places wishes c.in_ok-openings.openings.items) c.loop-at.at c.loop-at.cells.items c.push.new.self.items cell c.loop-at.invariant c.in_ok-push.ensures.items is
