-- What the messages of the flux correction do.
use Rattle.std.specs.Prelude.{ℕ, ◌%◌, Bool, true, false, cond, List, [], length, map}
use Rattle.std.specs.List.{range_with_len}
use Rattle.phase_core.specs.declared.envelope.Envelope.{Envelope}
use Rattle.phase_core.specs.Machine.{Reaction}
use Rattle.block_index.specs.Places.{Cube}
use Rattle.block_fields.specs.Blocks.{BlockState, amount_at}
use Rattle.block_fields.specs.Cells.{cells_of}
use Rattle.advect.specs.FaceFluxes.{FaceFluxState}
use Rattle.advect.specs.FluxPieces.{FluxPieceState, corrected, is_behind, reduced}
use Rattle.flux_register.specs.declared.flux_msg.FluxMsg.{FluxMsg}
use Rattle.flux_register.specs.declared.flux_msg.FluxMsg.TheVariants.{Start, Piece}
use Rattle.flux_register.specs.Faces.{opposite}
use Rattle.flux_register.specs.Cells.{FluxState, FluxProblem}

abbrev pub flux_start : ℕ → FluxMsg
flux_start to = Start

abbrev pub is_start : FluxMsg → Bool
is_start Start = true
is_start (Piece q) = false

-- the piece with the sums of a block's fluxes, on its way to its receiver
abbrev pub sent_piece : FaceFluxState → FluxPieceState → Envelope FluxMsg
sent_piece faces q = record { to = q.to; msg = Piece (reduced faces (opposite q.side) q) }

abbrev pub sent_pieces : FaceFluxState → List FluxPieceState → List (Envelope FluxMsg)
sent_pieces faces qs = map (sent_piece faces) qs

-- the amount of a cell of a block after a correction: with the flux replaced where it lies behind the piece
abbrev pub corrected_amount : FaceFluxState → FluxPieceState → BlockState → ℕ → Cube → ℕ
corrected_amount faces q b f c =
    let x = c.x % b.edge in let y = c.y % b.edge in let z = c.z % b.edge in
    cond (is_behind q x y z) (corrected faces q f x y z (amount_at b f x y z)) (amount_at b f x y z)

abbrev pub corrected_block : FaceFluxState → FluxPieceState → BlockState → BlockState
corrected_block faces q b =
    record b { amounts = map (λ f. map (corrected_amount faces q b f) (cells_of b.edge b.place)) (range_with_len 0 (length b.amounts)) }

-- At its start a cell sends the pieces that it owes, reduced from its fluxes. By a piece that comes it is corrected.
abbrev pub flux_react : FluxProblem → ℕ → FluxState → FluxMsg → Reaction FluxState FluxMsg
flux_react p at c Start = record {
  cell = record c { owed = []; started = true };
  sent = sent_pieces c.faces c.owed;
}
flux_react p at c (Piece q) = record {
  cell = record c { block = corrected_block c.faces q c.block };
  sent = [];
}
