-- Bare cells of all blocks, each of which has its pieces then.
use Rattle.std.proofs.Common.{◌≡◌, length, ap, ◌∙◌, sym, subst}
use Rattle.phase_core.specs.Lemmas.ListsByPlaces.{written_back}
use Rattle.flux_register.specs.Lemmas.FirstCells.{AreFirstCells}
use Rattle.flux_register.proofs.MadeCells.{all-first, bare-each}
use Rattle.flux_register.proofs.making.cells_in_threads.Goals as goal

pub take_each-requires-clause-each : goal.take_each-requires-clause-each
take_each-requires-clause-each g c κs within =
    let set = c.args.set.now in
    let sized = c.requires.blocks in
    bare-each c.args.blocks.items c.args.faces.items c.requires.one_each c.as_mut_slice.result.now (c.as_mut_slice.ensures.value ∙ c.in_ok-cells.ensures)
    set.grid set.places c.len-leaves.ensures.tiles sized.0 sized.1 sized.2 sized.3

pub returns : goal.returns
returns g c =
    let set = c.args.set.now in
    let old = c.in_ok-cells.cells in
    let made = c.take_each.new.cells in
    let same = c.as_mut_slice.ensures.value in
    let long : length made ≡ length old.items = c.take_each.ensures.many ∙ ap length same in
    subst (AreFirstCells set.grid set.places c.args.blocks.items c.args.faces.items) (sym (written_back old.len old.items made old.ok.0 long))
    (all-first c.args.blocks.items c.args.faces.items c.requires.one_each c.as_mut_slice.result.now (same ∙ c.in_ok-cells.ensures)
    set.grid set.places made c.take_each.ensures.many c.in_ok-take_each.ensures.each)
