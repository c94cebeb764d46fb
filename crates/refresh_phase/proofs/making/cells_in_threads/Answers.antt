-- Bare cells of all blocks, each of which has its pieces then.
use Rattle.std.proofs.Common.{◌≡◌, length, ap, ◌∙◌, sym, subst}
use Rattle.phase_core.specs.Lemmas.ListsByPlaces.{written_back}
use Rattle.refresh_phase.specs.Lemmas.FirstCells.{AreFirstCells}
use Rattle.refresh_phase.proofs.MadeCells.{all-first, bare-each}
use Rattle.refresh_phase.proofs.making.cells_in_threads.Goals as goal

pub take_each-requires-clause-each : goal.take_each-requires-clause-each
take_each-requires-clause-each g c κs within =
    let set = c.args.set.now in
    let sized = c.requires.blocks in
    bare-each set.grid set.places c.len-leaves.ensures.tiles c.args.blocks.items sized.0 sized.1 sized.2 sized.3 c.as_mut_slice.result.now
    (c.as_mut_slice.ensures.value ∙ c.in_ok-cells.ensures)

pub returns : goal.returns
returns g c =
    let set = c.args.set.now in
    let old = c.in_ok-cells.cells in
    let made = c.take_each.new.cells in
    let same = c.as_mut_slice.ensures.value in
    let long : length made ≡ length old.items = c.take_each.ensures.many ∙ ap length same in
    subst (AreFirstCells set.grid set.places c.args.blocks.items) (sym (written_back old.len old.items made old.ok.0 long))
    (all-first set.grid set.places c.args.blocks.items c.as_mut_slice.result.now made (same ∙ c.in_ok-cells.ensures) c.take_each.ensures.many c.in_ok-take_each.ensures.each)
