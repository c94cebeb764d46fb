-- The blocks of the cells at rest.
use Rattle.std.proofs.Common.{◌≡◌, List, Some, map, sym, ap, ◌∙◌, subst}
use Rattle.std.specs.Prelude.{slice_get}
use Rattle.block_fields.specs.Blocks.{BlockState}
use Rattle.block_fields.specs.BlockStates.{AreBlocksOf}
use Rattle.refresh_phase.specs.Cells.{LeafState, own_cells, state_in}
use Rattle.refresh_phase.proofs.Settled.{settled-amounts, settled-samples, settled-sizes}
use Rattle.refresh_phase.proofs.refresh.settled_blocks.Goals as goal

pub returns-clause-amounts : goal.returns-clause-amounts
returns-clause-amounts c =
    let p = c.args.quiet.problem in
    let is : c.in_ok-blocks.blocks.items ≡ map (λ (x : LeafState). x.block) c.args.quiet.cells = c.in_ok-blocks.ensures ∙ ap (map (λ (x : LeafState). x.block)) c.into_cells.ensures.cells in
    ap (map own_cells) is ∙ settled-amounts p c.args.quiet.cells c.into_cells.ensures.holds

pub returns-clause-samples : goal.returns-clause-samples
returns-clause-samples c i b here =
    let p = c.args.quiet.problem in
    let is : c.in_ok-blocks.blocks.items ≡ map (λ (x : LeafState). x.block) c.args.quiet.cells = c.in_ok-blocks.ensures ∙ ap (map (λ (x : LeafState). x.block)) c.into_cells.ensures.cells in
    settled-samples p c.args.quiet.cells c.into_cells.ensures.holds i b (subst (λ (l : List BlockState). slice_get l i ≡ Some b) is here)

pub returns-clause-sizes : goal.returns-clause-sizes
returns-clause-sizes c =
    let p = c.args.quiet.problem in
    let is : c.in_ok-blocks.blocks.items ≡ map (λ (x : LeafState). x.block) c.args.quiet.cells = c.in_ok-blocks.ensures ∙ ap (map (λ (x : LeafState). x.block)) c.into_cells.ensures.cells in
    subst (AreBlocksOf (state_in p).leaves p.setting.edge p.setting.fields p.setting.depth) (sym is) (settled-sizes p c.args.quiet.cells c.into_cells.ensures.holds)
