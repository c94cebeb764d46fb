use Rattle.std.proofs.Common.{◌<◌, length, arith, ◌∙◌}
use Rattle.std.proofs.lemmas.List.{length-set}
use Rattle.cello_bench.proofs.Fitting.{AllFit-set, read_at}
use Rattle.cello_bench.proofs.ghosts.fill_all.Goals as goal

pub fill_one-requires-clause-fits : goal.fill_one-requires-clause-fits
fill_one-requires-clause-fits c =
    let ps = c.loop-k.pieces.items in
    let within : c.loop-k.k < length ps = omega (arith, c.loop-k-test.true, c.loop-k.invariant.long, c.len-k-end.ensures) in
    c.loop-k.invariant.fit c.loop-k.k c.index_mut.result.now (read_at ps c.loop-k.k c.index_mut.result.now within c.index_mut.ensures.value)

pub loop-k-preserved : goal.loop-k-preserved
loop-k-preserved c =
    let s = c.args.size in
    let ps = c.loop-k.pieces.items in
    let within : c.loop-k.k < length ps = omega (arith, c.loop-k-test.true, c.loop-k.invariant.long, c.len-k-end.ensures) in
    let at = read_at ps c.loop-k.k c.index_mut.result.now within c.index_mut.ensures.value in
    record {
      fit = AllFit-set c.args.grid.now.set s.edge s.depth s.fields ps c.loop-k.k c.index_mut.result.now c.fill_one.new.piece c.loop-k.invariant.fit at c.fill_one.ensures.fits;
      long = length-set ps c.loop-k.k c.fill_one.new.piece ∙ c.loop-k.invariant.long;
    }
