-- A root more, and all roots.
use Rattle.std.proofs.Common.{◌≡◌, [], ◌∷◌, ◌++◌, ◌<◌, ◌≤◌, Some, length, map, take, slice_get, refl, sym, ap, ◌∙◌, subst, arith}
use Rattle.std.proofs.lemmas.List.{map_more, take_all}
use Rattle.std.proofs.lemmas.Option.{slice_get_read, get_or_from_slice_get}
use Rattle.leaf_set.specs.RootMesh.{root_mesh}
use Rattle.block_fields.specs.BlockStates.{AreBlocksOf, state_of}
use Rattle.initial_fill.specs.RootBlocks.{root_block, root_depth}
use Rattle.initial_fill.proofs.RootBlocks.{AreBlocksOf-root_blocks, state_of-root_blocks}
use Rattle.initial_fill.proofs.filling.fill.Goals as goal

pub loop-place-preserved : goal.loop-place-preserved
loop-place-preserved c =
    let block = root_block c.args.params.now in
    let roots = c.places-place-items.result.now in
    let k = c.loop-place.place-index in
    let place = c.place-item.result in
    let within : k < length roots = omega arith in
    let here : slice_get roots k ≡ Some place = slice_get_read roots (length roots) k place refl within c.place-item.is in
    c.in_ok-push.ensures.items
    ∙ (λ i. c.loop-place.invariant i ++ (c.in_ok-root_block.ensures i ∷ []))
    ∙ ap (λ q. map block (take k roots) ++ (block q ∷ [])) (sym (get_or_from_slice_get roots k place place here))
    ∙ sym (map_more block roots k place within)

pub returns-clause-each : goal.returns-clause-each
returns-clause-each c =
    let block = root_block c.args.params.now in
    let roots = c.places-place-items.result.now in
    let past : length roots ≤ c.loop-place.place-index = omega arith in
    c.loop-place.invariant
    ∙ ap (map block) (take_all c.loop-place.place-index roots past ∙ c.places-place-items.ensures.places ∙ c.in_ok-roots.ensures.places)
    ∙ ap (λ grid. map block (root_mesh grid)) c.domain.ensures.domain

pub returns-clause-blocks : goal.returns-clause-blocks
returns-clause-blocks c =
    let p = c.args.params.now in
    subst (AreBlocksOf (root_mesh p.grid) p.block (length p.fields) root_depth) (sym (returns-clause-each c))
    (AreBlocksOf-root_blocks p c.domain.ensures.limits (root_mesh p.grid))

pub returns-clause-state : goal.returns-clause-state
returns-clause-state c =
    let p = c.args.params.now in
    ap (state_of p.grid p.block (length p.fields)) (returns-clause-each c) ∙ state_of-root_blocks p
