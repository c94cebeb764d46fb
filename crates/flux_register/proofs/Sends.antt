-- Sending the pieces that a cell owes, one after another.
use Rattle.std.proofs.Common.{◌≡◌, List, [], ◌∷◌, ◌++◌, sym, ap, ◌∙◌, append_assoc}
use Rattle.phase_core.specs.declared.envelope.Envelope.{Envelope}
use Rattle.advect.specs.FaceFluxes.{FaceFluxState}
use Rattle.advect.specs.FluxPieces.{FluxPieceState}
use Rattle.flux_register.specs.declared.flux_msg.FluxMsg.{FluxMsg}
use Rattle.flux_register.specs.React.{sent_piece, sent_pieces}

-- one more is sent
pub one_sent : (faces : FaceFluxState) (q : FluxPieceState) (before rest : List FluxPieceState) (out now all : List (Envelope FluxMsg)) → before ≡ q ∷ rest → now ≡ out ++ sent_piece faces q ∷ [] → out ++ sent_pieces faces before ≡ all → now ++ sent_pieces faces rest ≡ all
one_sent faces q before rest out now all first is known =
    ap (λ (l : List (Envelope FluxMsg)). l ++ sent_pieces faces rest) is
    ∙ (append_assoc out (sent_piece faces q ∷ []) (sent_pieces faces rest)
    ∙ (ap (λ (l : List FluxPieceState). out ++ sent_pieces faces l) (sym first) ∙ known))
