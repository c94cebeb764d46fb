-- All that was owed is sent, in order.
use Rattle.std.proofs.Common.{◌≡◌, ◌++◌, ◌∷◌, List, length, sym, ap, ◌∙◌, subst, arith}
use Rattle.std.specs.Prelude.{Contains, slice_get}
use Rattle.std.specs.Vec.Iter.{into_iter_items}
use Rattle.phase_core.specs.declared.envelope.Envelope.{Envelope}
use Rattle.phase_core.specs.Lemmas.Lookups.{Contains-at}
use Rattle.owed_phase.specs.Lemmas.Moves.{Contains-cons_more}
use Rattle.advect.specs.FluxPieces.{FluxPieceState}
use Rattle.flux_register.specs.declared.flux_msg.FluxMsg.{FluxMsg}
use Rattle.flux_register.specs.Cells.{FluxState}
use Rattle.flux_register.specs.React.{sent_pieces}
use Rattle.flux_register.specs.Lemmas.Sending.{CanReduce}
use Rattle.flux_register.proofs.Sends.{one_sent}
use Rattle.flux_register.proofs.cell.FluxCell.send.Goals as goal

pub loop-piece-init : goal.loop-piece-init
loop-piece-init c =
    let gives = c.into_iter-piece-iterator.ensures.into_iter_gives in
    let out : List (Envelope FluxMsg) = c.args.out.now.items in
    let rest : List FluxPieceState = into_iter_items c.into_iter-piece-iterator.result in
    let inside : FluxState = record { block = c.self.inside.block; faces = c.self.inside.faces; owes = c.self.inside.owes.items; owed = c.self.inside.owed.items; started = c.self.inside.started } in
    let view : inside ≡ c.args.self.now = c.self.view_is in
    let items : rest ≡ inside.owed = gives.0 ∙ ap (λ v. v.items) c.replace-owed.ensures.value in
    let all : rest ≡ c.args.self.now.owed = items ∙ ap (λ (x : FluxState). x.owed) view in
    record {
      sent = ap (λ (l : List FluxPieceState). out ++ sent_pieces inside.faces l) items
          ∙ ap (λ (x : FluxState). out ++ sent_pieces x.faces x.owed) view;
      room = omega (arith, ap length all, c.requires.room);
      pieces = subst (λ (l : List FluxPieceState). CanReduce inside.faces l) (sym items) (subst (λ (x : FluxState). CanReduce x.faces x.owed) (sym view) c.requires.pieces);
      long = (let v = c.replace-owed.result.ok in let l = ap length gives.0 in omega (arith, gives.1, v.0));
    }

pub send_piece-requires-clause-edge : goal.send_piece-requires-clause-edge
send_piece-requires-clause-edge c =
    let at = c.loop-piece in
    let first : into_iter_items at.piece-iterator ≡ c.in-Some.piece ∷ into_iter_items c.next.new.self = c.in-Some.ensures.steps.0 in
    at.invariant.pieces.edge c.in-Some.piece (Contains-at (into_iter_items at.piece-iterator) 0 c.in-Some.piece (ap (λ (l : List FluxPieceState). slice_get l 0) first))

pub send_piece-requires-clause-fields : goal.send_piece-requires-clause-fields
send_piece-requires-clause-fields c =
    let at = c.loop-piece in
    let first : into_iter_items at.piece-iterator ≡ c.in-Some.piece ∷ into_iter_items c.next.new.self = c.in-Some.ensures.steps.0 in
    at.invariant.pieces.fields c.in-Some.piece (Contains-at (into_iter_items at.piece-iterator) 0 c.in-Some.piece (ap (λ (l : List FluxPieceState). slice_get l 0) first))

pub loop-piece-preserved : goal.loop-piece-preserved
loop-piece-preserved c =
    let at = c.loop-piece in
    let steps = c.in-Some.ensures.steps in
    let rest : List FluxPieceState = into_iter_items c.next.new.self in
    let was : List FluxPieceState = into_iter_items at.piece-iterator in
    let first : was ≡ c.in-Some.piece ∷ rest = steps.0 in
    let out : List (Envelope FluxMsg) = at.out.items in
    let now : List (Envelope FluxMsg) = c.send_piece.new.out.items in
    let all : List (Envelope FluxMsg) = c.args.out.now.items ++ sent_pieces c.args.self.now.faces c.args.self.now.owed in
    record {
      sent = one_sent c.self.inside.faces c.in-Some.piece was rest out now all first c.send_piece.ensures.sent at.invariant.sent;
      room = omega (arith, ap length first, at.invariant.room, c.send_piece.ensures.spare);
      pieces = record {
        edge = λ q h. at.invariant.pieces.edge q (subst (λ (l : List FluxPieceState). Contains l q) (sym first) (Contains-cons_more c.in-Some.piece rest q h));
        fields = λ q h. at.invariant.pieces.fields q (subst (λ (l : List FluxPieceState). Contains l q) (sym first) (Contains-cons_more c.in-Some.piece rest q h));
      };
      long = (let long = at.invariant.long in let gone = steps.1 in let short = ap length first in omega arith);
    }
