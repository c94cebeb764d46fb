-- The blocks are what an advance by the upwind fluxes makes of their state.
use Rattle.std.proofs.Common.{length}
use Rattle.initial_fill.specs.RootBlocks.{root_depth}
use Rattle.flux_register.specs.Cells.{problem_of}
use Rattle.run_core.proofs.Advancing.{advanced-set, advanced-sizes, depths-advanced, fluxes, made-advanced, setting-advanced, state-advanced}
use Rattle.run_core.proofs.flux.begin_flux.Goals as goal

pub begin_flux-requires-clause-made : goal.begin_flux-requires-clause-made
begin_flux-requires-clause-made g c =
    let p = c.args.params.now in
    (p.block, length p.fields, root_depth, fluxes c.args.params.now c.requires.limits c.args.set.now c.args.blocks.items c.args.faces.items c.requires.grid c.requires.advanced, advanced-set c.args.params.now c.requires.limits c.args.set.now c.args.blocks.items c.args.faces.items c.requires.grid c.requires.advanced)

pub returns-clause-setting : goal.returns-clause-setting
returns-clause-setting g c =
    let p = c.args.params.now in
    setting-advanced c.args.params.now c.requires.limits c.args.set.now c.args.blocks.items c.args.faces.items c.requires.grid c.requires.advanced c.in_ok-begun.begun.0 (c.in_ok-begun.ensures.sizes p.block (length p.fields) root_depth (advanced-sizes c.args.params.now c.requires.limits c.args.set.now c.args.blocks.items c.args.faces.items c.requires.grid c.requires.advanced))

pub returns-clause-state : goal.returns-clause-state
returns-clause-state g c =
    let p = c.args.params.now in
    λ befores made. state-advanced c.args.params.now c.requires.limits c.args.set.now c.args.blocks.items c.args.faces.items c.requires.grid c.requires.advanced (problem_of c.in_ok-begun.begun.0 c.in_ok-begun.begun.1.items) (c.in_ok-begun.ensures.state p.block (length p.fields) root_depth (advanced-sizes c.args.params.now c.requires.limits c.args.set.now c.args.blocks.items c.args.faces.items c.requires.grid c.requires.advanced)) befores made

pub returns-clause-depths : goal.returns-clause-depths
returns-clause-depths g c = depths-advanced c.args.params.now c.requires.limits c.args.set.now c.args.blocks.items c.args.faces.items c.requires.grid c.requires.advanced (problem_of c.in_ok-begun.begun.0 c.in_ok-begun.begun.1.items) c.in_ok-begun.ensures.parts

pub returns-clause-made : goal.returns-clause-made
returns-clause-made g c =
    let p = c.args.params.now in
    made-advanced c.args.params.now c.requires.limits c.args.set.now c.args.blocks.items c.args.faces.items c.requires.grid c.requires.advanced (problem_of c.in_ok-begun.begun.0 c.in_ok-begun.begun.1.items) (c.in_ok-begun.ensures.state p.block (length p.fields) root_depth (advanced-sizes c.args.params.now c.requires.limits c.args.set.now c.args.blocks.items c.args.faces.items c.requires.grid c.requires.advanced))
    (c.in_ok-begun.ensures.made p.block (length p.fields) root_depth (fluxes c.args.params.now c.requires.limits c.args.set.now c.args.blocks.items c.args.faces.items c.requires.grid c.requires.advanced) (advanced-set c.args.params.now c.requires.limits c.args.set.now c.args.blocks.items c.args.faces.items c.requires.grid c.requires.advanced))
