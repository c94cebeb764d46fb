use Rattle.std.proofs.Common.{arith}
use Rattle.cello_bench.proofs.Fitting.{read_at}
use Rattle.cello_bench.proofs.ghosts.file_all.Goals as goal

pub file_one-requires : goal.file_one-requires
file_one-requires c =
    record { fits = c.requires.fit c.loop-k.k c.index-pieces-k.result (read_at c.args.pieces.now c.loop-k.k c.index-pieces-k.result (omega (arith, c.loop-k-test.true)) c.index-pieces-k.is) }
