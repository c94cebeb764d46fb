-- The blocks of the cells at rest.
use Rattle.std.proofs.Common.{◌≡◌, List, Some, map, ap, ◌∙◌, subst}
use Rattle.std.specs.Prelude.{slice_get}
use Rattle.block_fields.specs.Blocks.{BlockState}
use Rattle.block_fields.specs.BlockStates.{state_of}
use Rattle.flux_register.specs.Cells.{FluxState, unadvanced}
use Rattle.flux_register.proofs.Rest.{rest_advanced}
use Rattle.flux_register.proofs.SettledBlocks.{settled-before, settled-sizes}
use Rattle.flux_register.proofs.settled.settled_blocks.Goals as goal

pub returns-clause-advanced : goal.returns-clause-advanced
returns-clause-advanced c fluxes made =
    let p = c.args.quiet.problem in
    let is : c.in_ok-blocks.blocks.items ≡ map (λ (x : FluxState). x.block) c.args.quiet.cells = c.in_ok-blocks.ensures ∙ ap (map (λ (x : FluxState). x.block)) c.into_cells.ensures.cells in
    ap (state_of p.setting.grid p.setting.edge p.setting.fields) is ∙ rest_advanced p c.args.quiet.cells c.into_cells.ensures.holds fluxes made

pub returns-clause-before : goal.returns-clause-before
returns-clause-before c =
    let p = c.args.quiet.problem in
    let is : c.in_ok-blocks.blocks.items ≡ map (λ (x : FluxState). x.block) c.args.quiet.cells = c.in_ok-blocks.ensures ∙ ap (map (λ (x : FluxState). x.block)) c.into_cells.ensures.cells in
    ap (map unadvanced) is ∙ settled-before p c.args.quiet.cells c.into_cells.ensures.holds

pub returns-clause-sizes : goal.returns-clause-sizes
returns-clause-sizes c i b here =
    let p = c.args.quiet.problem in
    let is : c.in_ok-blocks.blocks.items ≡ map (λ (x : FluxState). x.block) c.args.quiet.cells = c.in_ok-blocks.ensures ∙ ap (map (λ (x : FluxState). x.block)) c.into_cells.ensures.cells in
    settled-sizes p c.args.quiet.cells c.into_cells.ensures.holds i b (subst (λ (l : List BlockState). slice_get l i ≡ Some b) is here)
