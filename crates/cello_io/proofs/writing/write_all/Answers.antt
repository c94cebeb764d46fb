-- What is left of the proof of this function.
use Rattle.std.proofs.Common.{◌++◌, length, take, ap, ◌∙◌, arith, length-append}
use Rattle.cello_io.proofs.WriteLemmas.{written_then, front_moves}
use Rattle.cello_io.proofs.writing.write_all.Goals as goal

pub loop-left-preserved : goal.loop-left-preserved
loop-left-preserved g c =
    let (done, full, wrote, same_rest, no_fall, unmoved) = c.loop-left.invariant in
    let left = c.loop-left.left.now in
    let count = c.in_ok-count.count in (
      done ++ take count left,
      front_moves _ done left count full,
      written_then _ _ _ done (take count left) wrote c.in_ok-count.ensures.appended,
      c.write_piece.ensures.same_rest ∙ same_rest,
      omega (arith, no_fall, c.write_piece.ensures.cause.no_fall),
      λ empty. absurd (omega (arith, length-append done left, ap length (full ∙ empty), c.in_ok-count.ensures.within)),
    )
