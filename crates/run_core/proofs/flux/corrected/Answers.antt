-- The blocks at rest hold the state after the advance.
use Rattle.run_core.proofs.Advancing.{AreBlocksFor-corrected, state-corrected}
use Rattle.run_core.proofs.flux.corrected.Goals as goal

pub returns-clause-blocks : goal.returns-clause-blocks
returns-clause-blocks c =
    AreBlocksFor-corrected c.args.params.now c.args.quiet.problem c.requires.setting c.in_ok-blocks.blocks.items c.requires.depths c.in_ok-blocks.ensures.before
    c.in_ok-blocks.ensures.sizes (c.in_ok-blocks.ensures.advanced _ c.requires.made)

pub returns-clause-state : goal.returns-clause-state
returns-clause-state c =
    state-corrected c.args.params.now c.args.quiet.problem c.requires.setting c.in_ok-blocks.blocks.items c.requires.depths c.in_ok-blocks.ensures.before
    c.in_ok-blocks.ensures.sizes (c.in_ok-blocks.ensures.advanced _ c.requires.made)
