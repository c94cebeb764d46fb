-- Sending the pieces that a cell owes, one after another.
use Rattle.std.proofs.Common.{◌≡◌, List, [], ◌∷◌, ◌++◌, sym, ap, ◌∙◌, append_assoc}
use Rattle.phase_core.specs.declared.envelope.Envelope.{Envelope}
use Rattle.block_index.specs.Places.{Grid}
use Rattle.block_fields.specs.Blocks.{BlockState}
use Rattle.ghost_pieces.specs.Pieces.{PieceState}
use Rattle.refresh_phase.specs.declared.refresh_msg.RefreshMsg.{RefreshMsg}
use Rattle.refresh_phase.specs.React.{sent_piece, sent_pieces}

-- one more is sent
pub one_sent : (grid : Grid) (b : BlockState) (q : PieceState) (before rest : List PieceState) (out now all : List (Envelope RefreshMsg)) → before ≡ q ∷ rest → now ≡ out ++ sent_piece grid b q ∷ [] → out ++ sent_pieces grid b before ≡ all → now ++ sent_pieces grid b rest ≡ all
one_sent grid b q before rest out now all first is known =
    ap (λ (l : List (Envelope RefreshMsg)). l ++ sent_pieces grid b rest) is
    ∙ (append_assoc out (sent_piece grid b q ∷ []) (sent_pieces grid b rest)
    ∙ (ap (λ (l : List PieceState). out ++ sent_pieces grid b l) (sym first) ∙ known))
