use Rattle.std.proofs.Common.{◌≡◌, ◌∷◌, List, length, refl, sym, ap, subst, arith}
use Rattle.std.specs.Vec.Iter.{into_iter_items}
use Rattle.ghost_pieces.specs.Pieces.{PieceState}
use Rattle.ghost_tests.specs.Delivering.{AllFit}
use Rattle.ghost_tests.proofs.FittingPieces.{AllFit-rest}
use Rattle.ghost_tests.proofs.delivering.deliver_all.Goals as goal

pub loop-piece-init : goal.loop-piece-init
loop-piece-init c =
    let s = c.args.size in
    let gives = c.into_iter-piece-iterator.ensures.into_iter_gives in
    record {
      rest = subst (AllFit c.args.domain.now s.edge s.depth) (sym gives.0) c.requires.fit;
      long = (let v = c.args.pieces.ok in let l = ap length gives.0 in omega (arith, gives.1, v.0));
    }

pub deliver-requires : goal.deliver-requires
deliver-requires c =
    let s = c.args.size in
    let steps = c.in-Some.ensures.steps in
    let first : into_iter_items c.loop-piece.piece-iterator ≡ c.in-Some.piece ∷ into_iter_items c.next.new.self = steps.0 in
    let all = subst (AllFit c.args.domain.now s.edge s.depth) first c.loop-piece.invariant.rest in
    record { fits = all 0 c.in-Some.piece refl }

pub loop-piece-preserved : goal.loop-piece-preserved
loop-piece-preserved c =
    let s = c.args.size in
    let at = c.loop-piece in
    let steps = c.in-Some.ensures.steps in
    let rest : List PieceState = into_iter_items c.next.new.self in
    let first : into_iter_items at.piece-iterator ≡ c.in-Some.piece ∷ rest = steps.0 in
    record {
      rest = AllFit-rest c.args.domain.now s.edge s.depth c.in-Some.piece rest (subst (AllFit c.args.domain.now s.edge s.depth) first at.invariant.rest);
      long = (let long = at.invariant.long in let gone = steps.1 in let short = ap length first in omega arith);
    }
