use Rattle.std.proofs.Common.{◌≡◌, ◌%◌, ◌<◌, ◌≤◌, ◌∷◌, List, length, refl, sym, ap, subst, arith}
use Rattle.std.specs.Vec.Iter.{into_iter_items}
use Rattle.ghost_pieces.specs.Pieces.{PieceState}
use Rattle.cello_bench.specs.Inputs.{AllFit}
use Rattle.cello_bench.proofs.Fitting.{AllFit-owed, AllFit-push, AllFit-rest}
use Rattle.cello_bench.proofs.ghosts.add_owed.Goals as goal

pub loop-piece-init : goal.loop-piece-init
loop-piece-init c =
    let b = c.args.block.now in
    let s = c.args.set.now in
    let l = c.requires.limits in
    let gives = c.into_iter-piece-iterator.ensures.into_iter_gives in
    let owed = AllFit-owed s b.edge b.depth (length b.amounts) c.args.at c.in_ok-owed.owed.items c.requires.tiles l.even (omega (arith, l.least, l.deepest)) (omega (arith, l.least)) c.in_ok-owed.ensures.owed in
    record {
      fit = c.requires.fit;
      rest = subst (AllFit s b.edge b.depth (length b.amounts)) (sym gives.0) owed;
      long = (let v = c.in_ok-owed.owed.ok in let l = ap length gives.0 in omega (arith, gives.1, v.0));
    }

pub loop-piece-preserved : goal.loop-piece-preserved
loop-piece-preserved c =
    let b = c.args.block.now in
    let s = c.args.set.now in
    let at = c.loop-piece in
    let steps = c.in-Some.ensures.steps in
    let rest : List PieceState = into_iter_items c.next.new.self in
    let first : into_iter_items at.piece-iterator ≡ c.in-Some.piece ∷ rest = steps.0 in
    let all = subst (AllFit s b.edge b.depth (length b.amounts)) first at.invariant.rest in
    record {
      fit = subst (AllFit s b.edge b.depth (length b.amounts)) (sym c.in_ok-push.ensures.items) (AllFit-push s b.edge b.depth (length b.amounts) at.found.items c.in-Some.piece at.invariant.fit (all 0 c.in-Some.piece refl));
      rest = AllFit-rest s b.edge b.depth (length b.amounts) c.in-Some.piece rest all;
      long = (let long = at.invariant.long in let gone = steps.1 in let short = ap length first in omega arith);
    }
