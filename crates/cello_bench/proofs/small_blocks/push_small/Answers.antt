use Rattle.std.proofs.Common.{refl, sym, subst}
use Rattle.cello_bench.specs.Inputs.{AllSmall}
use Rattle.cello_bench.proofs.SmallFields.{AllSmall-push}
use Rattle.cello_bench.proofs.small_blocks.push_small.Goals as goal

pub returns : goal.returns
returns c =
    record { small = subst AllSmall (sym c.in_ok-push.ensures.items) (AllSmall-push c.args.blocks.now.items c.args.block c.requires.small (c.if-not-is_small.ensures.small refl)) }
