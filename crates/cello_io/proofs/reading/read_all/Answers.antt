-- What is left of the proof of this function.
use Rattle.std.proofs.Common.{arith, length-take}
use Rattle.std.proofs.lemmas.Result.{err_from_is_err_and}
use Rattle.cello_io.proofs.ReadLemmas.{lost_then}
use Rattle.cello_io.proofs.reading.read_all.Goals as goal

pub returns-in_err-read_more-clause-lost : goal.returns-in_err-read_more-clause-lost
returns-in_err-read_more-clause-lost g c =
    let error = err_from_is_err_and c.from_residual.result c.from_residual.ensures.1 in
    rw error.1 (lost_then c.args.limit _ _ _ _ c.loop-chunk.bytes.items c.loop-chunk.invariant.read c.in_err-read_more.ensures.lost (omega (arith, length-take c.min-room.result c.loop-chunk.chunk)))
