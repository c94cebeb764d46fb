use Rattle.std.proofs.Common.{length, sym, subst}
use Rattle.cello_bench.specs.Inputs.{Fits}
use Rattle.cello_bench.proofs.Fitting.{Fits-filled, Fits-size}
use Rattle.cello_bench.proofs.ghosts.fill_from.Goals as goal

pub returns-then-is_at : goal.returns-then-is_at
returns-then-is_at c =
    let b = c.args.block.now in
    let t = c.args.set.now in
    let s = c.args.size in
    let y = c.if-is_at.true in
    let is = c.is_at.ensures in
    let old = Fits-size t s.edge b.edge s.depth b.depth s.fields (length b.amounts) (sym (is.edge y)) (sym (is.depth y)) (sym (is.fields y)) c.args.piece.now c.requires.fits in
    let new = Fits-filled t c.domain.result.now b c.args.piece.now old in
    record {
      fits = subst (Fits t s.edge s.depth s.fields) (sym c.fill_piece.ensures.filled)
          (Fits-size t b.edge s.edge b.depth s.depth (length b.amounts) s.fields (is.edge y) (is.depth y) (is.fields y) _ new);
    }
