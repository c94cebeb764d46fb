-- What the messages of the refresh phase do.
use Rattle.std.specs.Prelude.{ℕ, Bool, true, false, List, [], map}
use Rattle.phase_core.specs.declared.envelope.Envelope.{Envelope}
use Rattle.phase_core.specs.Machine.{Reaction}
use Rattle.block_index.specs.Places.{Grid}
use Rattle.block_fields.specs.Blocks.{BlockState}
use Rattle.ghost_pieces.specs.Filing.{after_filing, with_filed}
use Rattle.ghost_pieces.specs.Pieces.{PieceState, filled}
use Rattle.refresh_phase.specs.declared.refresh_msg.RefreshMsg.{RefreshMsg}
use Rattle.refresh_phase.specs.declared.refresh_msg.RefreshMsg.TheVariants.{Start, Piece}
use Rattle.refresh_phase.specs.Cells.{LeafState, RefreshProblem, own_cells}

abbrev pub refresh_start : ℕ → RefreshMsg
refresh_start to = Start

abbrev pub is_start : RefreshMsg → Bool
is_start Start = true
is_start (Piece q) = false

-- the piece with the samples that a block gives, on its way to its receiver
abbrev pub sent_piece : Grid → BlockState → PieceState → Envelope RefreshMsg
sent_piece grid b q = record { to = q.region.receiver; msg = Piece (filled grid b q) }

abbrev pub sent_pieces : Grid → BlockState → List PieceState → List (Envelope RefreshMsg)
sent_pieces grid b qs = map (sent_piece grid b) qs

-- At its start a cell sends the pieces that it owes, filled from its block. A piece that comes is filed.
abbrev pub refresh_react : RefreshProblem → ℕ → LeafState → RefreshMsg → Reaction LeafState RefreshMsg
refresh_react p at c Start = record {
  cell = record c { owed = []; started = true };
  sent = sent_pieces p.setting.grid (own_cells c.block) c.owed;
}
refresh_react p at c (Piece q) = record {
  cell = record c { block = after_filing c.filed q c.block; filed = with_filed c.filed q.region };
  sent = [];
}
