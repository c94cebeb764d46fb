-- The blocks can be advanced.
use Rattle.cello_top.proofs.BlockAdvances.{can-advance}
use Rattle.cello_top.proofs.works.give_advanced.Goals as goal

pub advance-requires-clause-can : goal.advance-requires-clause-can
advance-requires-clause-can g c = can-advance c.args.run.now c.params.result.now c.args.blocks.items c.params.ensures.params c.requires.work
