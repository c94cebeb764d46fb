-- All that was owed is sent, in order.
use Rattle.std.proofs.Common.{◌≡◌, ◌++◌, ◌∷◌, List, length, sym, ap, ◌∙◌, subst, arith}
use Rattle.std.specs.Prelude.{Contains}
use Rattle.std.specs.Vec.Iter.{into_iter_items}
use Rattle.phase_core.specs.declared.envelope.Envelope.{Envelope}
use Rattle.owed_phase.specs.Lemmas.Moves.{Contains-cons_more}
use Rattle.ghost_pieces.specs.Pieces.{PieceState}
use Rattle.refresh_phase.specs.declared.refresh_msg.RefreshMsg.{RefreshMsg}
use Rattle.refresh_phase.specs.Cells.{LeafState, own_cells}
use Rattle.refresh_phase.specs.React.{sent_pieces}
use Rattle.refresh_phase.specs.Lemmas.Sending.{CanFill}
use Rattle.refresh_phase.proofs.Sends.{one_sent}
use Rattle.refresh_phase.proofs.cell.RefreshCell.send.Goals as goal

pub loop-piece-init : goal.loop-piece-init
loop-piece-init c =
    let gives = c.into_iter-piece-iterator.ensures.into_iter_gives in
    let out : List (Envelope RefreshMsg) = c.args.out.now.items in
    let rest : List PieceState = into_iter_items c.into_iter-piece-iterator.result in
    let inside : LeafState = record { block = c.self.inside.block; owes = c.self.inside.owes.items; filed = c.self.inside.filed; owed = c.self.inside.owed.items; started = c.self.inside.started } in
    let view : inside ≡ c.args.self.now = c.self.view_is in
    let items : rest ≡ inside.owed = gives.0 ∙ ap (λ v. v.items) c.replace-owed.ensures.value in
    let all : rest ≡ c.args.self.now.owed = items ∙ ap (λ (x : LeafState). x.owed) view in
    record {
      sent = ap (λ (l : List PieceState). out ++ sent_pieces c.args.domain.now (own_cells inside.block) l) items
          ∙ ap (λ (x : LeafState). out ++ sent_pieces c.args.domain.now (own_cells x.block) x.owed) view;
      room = omega (arith, ap length all, c.requires.room);
      each = λ q h. subst (λ (x : LeafState). CanFill c.args.domain.now x.block q) (sym view) (c.requires.pieces.each q (subst (λ (l : List PieceState). Contains l q) all h));
      long = (let v = c.replace-owed.result.ok in let l = ap length gives.0 in omega (arith, gives.1, v.0));
    }

pub loop-piece-preserved : goal.loop-piece-preserved
loop-piece-preserved c =
    let at = c.loop-piece in
    let steps = c.in-Some.ensures.steps in
    let rest : List PieceState = into_iter_items c.next.new.self in
    let was : List PieceState = into_iter_items at.piece-iterator in
    let first : was ≡ c.in-Some.piece ∷ rest = steps.0 in
    let out : List (Envelope RefreshMsg) = at.out.items in
    let now : List (Envelope RefreshMsg) = c.send_piece.new.out.items in
    let all : List (Envelope RefreshMsg) = c.args.out.now.items ++ sent_pieces c.args.domain.now (own_cells c.args.self.now.block) c.args.self.now.owed in
    record {
      sent = one_sent c.args.domain.now (own_cells c.self.inside.block) c.in-Some.piece was rest out now all first c.send_piece.ensures.sent at.invariant.sent;
      room = omega (arith, ap length first, at.invariant.room, c.send_piece.ensures.spare);
      each = λ q h. at.invariant.each q (subst (λ (l : List PieceState). Contains l q) (sym first) (Contains-cons_more c.in-Some.piece rest q h));
      long = (let long = at.invariant.long in let gone = steps.1 in let short = ap length first in omega arith);
    }
