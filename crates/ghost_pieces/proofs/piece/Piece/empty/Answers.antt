use Rattle.std.proofs.Common.{ℕ, List, replicate, ap, ◌∙◌}
use Rattle.block_fields.specs.Layout.{cut}
use Rattle.ghost_pieces.proofs.FlatLists.{zeros-alike}
use Rattle.ghost_pieces.proofs.piece.Piece.empty.Goals as goal

pub returns : goal.returns
returns c =
    let a = c.args in
    record {
      zeros = ap (λ (l : List (List ℕ)). record { region = record { receiver = a.to; sender = a.from; direction = a.direction }; receiver = a.receiver; sender = a.sender; amounts = l })
          (ap (cut (replicate a.fields a.size)) c.in_ok-zeros.ensures.zeros ∙ zeros-alike a.fields a.size);
    }
