-- The blocks at rest hold the state and its samples.
use Rattle.run_core.proofs.Refreshing.{AreBlocksFor-refreshed, HoldAround-refreshed, state-refreshed}
use Rattle.run_core.proofs.refresh.refreshed.Goals as goal

pub returns-clause-blocks : goal.returns-clause-blocks
returns-clause-blocks c =
    AreBlocksFor-refreshed c.args.params.now c.args.quiet.problem c.requires.setting c.in_ok-blocks.blocks.items c.in_ok-blocks.ensures.amounts
    c.in_ok-blocks.ensures.sizes

pub returns-clause-state : goal.returns-clause-state
returns-clause-state c =
    state-refreshed c.args.params.now c.args.quiet.problem c.requires.setting c.in_ok-blocks.blocks.items c.in_ok-blocks.ensures.amounts

pub returns-clause-around : goal.returns-clause-around
returns-clause-around c =
    HoldAround-refreshed c.args.params.now c.args.quiet.problem c.requires.setting c.in_ok-blocks.blocks.items c.in_ok-blocks.ensures.amounts
    c.in_ok-blocks.ensures.samples
