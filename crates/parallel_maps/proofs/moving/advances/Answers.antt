-- The blocks can be advanced, and all of them are.
use Rattle.std.proofs.Common.{◌≡◌, Option, map, length, ap, ◌∙◌}
use Rattle.phase_core.specs.Lemmas.ListsByPlaces.{written_back}
use Rattle.block_fields.specs.Blocks.{BlockState}
use Rattle.advect.specs.FaceFluxes.{FaceFluxState}
use Rattle.parallel_maps.specs.declared.moving.Moving.{Moving}
use Rattle.parallel_maps.proofs.Moved.{all-moved, can-each}
use Rattle.parallel_maps.proofs.moving.advances.Goals as goal

pub advance_each-requires-clause-can : goal.advance_each-requires-clause-can
advance_each-requires-clause-can g c κs within =
    can-each c.args.params.now c.args.blocks.now.items c.as_mut_slice.result.now
    (ap (map (λ (m : Moving). m.block)) c.as_mut_slice.ensures.value ∙ (c.in_ok-moving.ensures.blocks ∙ ap (λ v. v.items) c.replace-still.ensures.value))
    c.requires.can

pub returns : goal.returns
returns g c =
    let old = c.in_ok-moving.moving in
    let moved = c.advance_each.new.moving in
    let block : Moving → BlockState = λ m. m.block in
    let fluxes : Moving → Option FaceFluxState = λ m. m.faces in
    let same = c.as_mut_slice.ensures.value in
    let long : length moved ≡ length old.items = c.advance_each.ensures.one_each ∙ ap length same in
    let back = written_back old.len old.items moved old.ok.0 long in
    record {
      advanced = all-moved c.args.params.now c.args.blocks.now.items c.take_apart.new.blocks.items c.in_ok-faces.faces.items c.as_mut_slice.result.now moved
          (ap (map block) same ∙ (c.in_ok-moving.ensures.blocks ∙ ap (λ v. v.items) c.replace-still.ensures.value))
          (c.in_ok-faces.ensures.blocks ∙ ap (map block) back) (c.in_ok-faces.ensures.faces ∙ ap (map fluxes) back)
          c.advance_each.ensures.one_each c.in_ok-advance_each.ensures.each;
    }
