-- A first cell for each leaf.
use Rattle.std.proofs.Common.{◌≡◌, ℕ, List, Option, Some, length, ap, ◌∙◌, subst}
use Rattle.std.specs.Prelude.{slice_get, IfSome}
use Rattle.phase_core.specs.Lemmas.ListsByPlaces.{written_back}
use Rattle.adapt_core.specs.Cells.{LeafState}
use Rattle.adapt_core.specs.Lemmas.FirstCells.{IsFirstCell}
use Rattle.adapt_core.proofs.MadeCells.{Has-taken}
use Rattle.adapt_core.proofs.making.cells_in_threads.Goals as goal

pub returns : goal.returns
returns g c =
    let set = c.args.set.now in
    let wishes = c.args.wishes.now in
    let openings = c.in_ok-openings.openings.items in
    let old = c.in_ok-slots.slots in
    let filled = c.make_each.new.slots in
    let same = c.as_mut_slice.ensures.value in
    let long : length filled ≡ length old.items = c.make_each.ensures.one_each ∙ ap length same in
    let back = written_back old.len old.items filled old.ok.0 long in
    record {
      openings = openings;
      opening = c.in_ok-openings.ensures.opening;
      cells_are = Has-taken (IsFirstCell set.grid set.places wishes openings) (length set.places) filled c.in_ok-cells.cells.items
          (long ∙ (c.in_ok-slots.ensures ∙ c.len.ensures.len))
          (subst (λ (os : List ℕ). (i : ℕ) (slot : Option LeafState) → slice_get filled i ≡ Some slot → IfSome slot (λ cell. IsFirstCell set.grid set.places wishes os i cell))
          c.deref.ensures.value c.in_ok-make_each.ensures.each)
          (c.in_ok-cells.ensures ∙ back);
    }
