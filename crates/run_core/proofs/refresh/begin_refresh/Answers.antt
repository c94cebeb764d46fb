-- The refresh over the blocks of the state.
use Rattle.std.proofs.Common.{length}
use Rattle.initial_fill.specs.RootBlocks.{root_depth}
use Rattle.refresh_phase.specs.Cells.{problem_of}
use Rattle.run_core.proofs.Refreshing.{few-each, setting-begun, state-begun}
use Rattle.run_core.proofs.refresh.begin_refresh.Goals as goal

pub begin_refresh-requires-clause-few : goal.begin_refresh-requires-clause-few
begin_refresh-requires-clause-few g c = few-each c.args.params.now c.args.set.now.places c.args.blocks.items c.requires.blocks c.requires.few

pub returns-clause-setting : goal.returns-clause-setting
returns-clause-setting g c =
    let p = c.args.params.now in
    setting-begun p c.args.set.now c.in_ok-begun.begun.0 c.requires.grid (c.in_ok-begun.ensures.sizes p.block (length p.fields) root_depth c.requires.blocks)

pub returns-clause-state : goal.returns-clause-state
returns-clause-state g c =
    let p = c.args.params.now in
    state-begun p c.args.set.now c.args.blocks.items (problem_of c.in_ok-begun.begun.0 c.in_ok-begun.begun.1.items) c.requires.grid
    (c.in_ok-begun.ensures.state p.block (length p.fields) root_depth c.requires.blocks)
