-- What the invariant of the flux correction says of each cell, each face and each message.
use Rattle.std.specs.Prelude.{◌≡◌, ℕ, ◌+◌, ◌*◌, ◌%◌, ◌<◌, ◌==◌, ◌&&◌, Bool, false, cond, List, [], ◌∷◌, Some, All, Contains, length, slice_get, slice_index, sum_by}
use Rattle.std.specs.List.{list_any}
use Rattle.phase_core.specs.declared.envelope.Envelope.{Envelope}
use Rattle.owed_phase.specs.States.{StartsInFlight}
use Rattle.block_index.specs.Places.{Cube}
use Rattle.block_fields.specs.Blocks.{amounts_of}
use Rattle.block_fields.specs.Cells.{block_of, cell_number, is_same}
use Rattle.block_fields.specs.States.{held}
use Rattle.grid_fluxes.specs.Axes.{Axis}
use Rattle.grid_fluxes.specs.Fluxes.{Across, Fluxes, advanced, advanced_by}
use Rattle.advect.specs.Flows.{axis_number}
use Rattle.advect.specs.FluxPieces.{FluxPieceState, is_behind, no_sums, reduced}
use Rattle.flux_register.specs.declared.flux_msg.FluxMsg.{FluxMsg}
use Rattle.flux_register.specs.declared.flux_msg.FluxMsg.TheVariants.{Start, Piece}
use Rattle.flux_register.specs.Faces.{FluxFace, IsFluxFace, opposite, side_number}
use Rattle.flux_register.specs.Cells.{FluxPart, FluxState, FluxProblem, blank, kept, state_in, state_now}
use Rattle.flux_register.specs.Made.{IsMadeBy}
use Rattle.flux_register.specs.Problem.{flux_plan}

-- ---- faces that carry the sums of used pieces

-- a piece replaces the flux through the face of cell c at its end along an axis, or at its beginning
abbrev pub replaces : ℕ → ℕ → Cube → FluxPieceState → Bool
replaces n side c q = (side_number q.side == side) && is_behind q (c.x % n) (c.y % n) (c.z % n)

abbrev pub low_side : Axis → ℕ
low_side a = 2 * axis_number a + 0

abbrev pub high_side : Axis → ℕ
high_side a = 2 * axis_number a + 1

-- of a leaf that has used these pieces, the faces that carry sums
abbrev pub used_across : ℕ → Cube → List FluxPieceState → Across
used_across n place used = record {
  below = λ a c. is_same place (block_of n c) && list_any (replaces n (low_side a) c) used;
  above = λ a c. is_same place (block_of n c) && list_any (replaces n (high_side a) c) used;
}

-- ---- pieces and their faces

-- one for a piece of this face
abbrev pub is_of : FluxFace → FluxPieceState → ℕ
is_of face q = cond ((q.to == face.to) && ((q.from == face.from) && (side_number q.side == side_number face.side))) 1 0

abbrev pub piece_of : FluxFace → FluxMsg → ℕ
piece_of face Start = 0
piece_of face (Piece q) = is_of face q

-- the pieces among messages, in their order
abbrev pub pieces_in : List FluxMsg → List FluxPieceState
pieces_in [] = []
pieces_in (Start ∷ ms) = pieces_in ms
pieces_in (Piece q ∷ ms) = q ∷ pieces_in ms

-- a piece carries the sums of its sender's fluxes, and is for a side of its receiver on which the sender lies
pub record CarriesSums (p : FluxProblem) (to : ℕ) (q : FluxPieceState) : Type 0 where
  pub face : FluxFace
  pub is_face : IsFluxFace p.setting.grid (state_in p).leaves face
  pub sender : FluxPart
  pub sends : slice_get p.parts face.from ≡ Some sender
  pub receives : face.to ≡ to
  pub sums : q ≡ reduced sender.faces (opposite face.side) (blank p.setting face)

-- a message in flight is addressed to a cell, and a piece is right
abbrev pub IsRightMsg : FluxProblem → ℕ → FluxMsg → Type 0
IsRightMsg p to Start = to < length p.parts
IsRightMsg p to (Piece q) = CarriesSums p to q

-- What stands for each cell that has used these pieces: each of them was right; the amounts are the provisional ones
-- with the fluxes through the faces of these pieces replaced, whichever scheme's fluxes they are; and what it still owes
-- holds only 0 and is for faces of its own, and for none once it has started.
pub record IsRightCell (p : FluxProblem) (i : ℕ) (k : FluxPart) (c : FluxState) (used : List FluxPieceState) : Type 0 where
  pub part : kept c ≡ k
  pub right : (q : FluxPieceState) → Contains used q → CarriesSums p i q
  pub amounts : (fluxes : Fluxes) (f : ℕ) (v : Cube) → IsMadeBy p fluxes → f < p.setting.fields → block_of p.setting.edge v ≡ k.before.place →
      slice_index (amounts_of c.block f) (cell_number p.setting.edge v)
      ≡ held (advanced_by (state_in p) (used_across p.setting.edge k.before.place used) fluxes) f v
  pub waits : (q : FluxPieceState) → Contains c.owed q → c.started ≡ false
  pub own : (q : FluxPieceState) → Contains c.owed q → q.from ≡ i
  pub zeros : (q : FluxPieceState) → Contains c.owed q → q.sums ≡ no_sums p.setting.edge p.setting.fields

-- What the invariant says: every cell is right; the piece of every face with finer leaves across is used, or owed, or
-- in flight; exactly one start is in flight to a cell that hasn't started, and none to one that has; and nothing else
-- is in flight than starts and right pieces.
pub record IsFluxFixState (p : FluxProblem) (cells : List FluxState) (flight : List (Envelope FluxMsg)) : Type 0 where
  pub used : ℕ → List FluxPieceState
  pub each : (i : ℕ) (k : FluxPart) (c : FluxState) → slice_get p.parts i ≡ Some k → slice_get cells i ≡ Some c → IsRightCell p i k c (used i)
  pub faces : (face : FluxFace) → IsFluxFace p.setting.grid (state_in p).leaves face →
      sum_by (is_of face) (used face.to) + sum_by (λ c. sum_by (is_of face) c.owed) cells + sum_by (λ e. piece_of face e.msg) flight ≡ 1
  pub starts : StartsInFlight (flux_plan p) cells flight
  pub messages : All (λ e. IsRightMsg p e.to e.msg) flight

-- at rest: the cells hold the state after an advance of the composite grid, by whichever scheme's fluxes they were made
abbrev pub AreAdvanced : FluxProblem → List FluxState → Type 0
AreAdvanced p cells = (fluxes : Fluxes) → IsMadeBy p fluxes → state_now p cells ≡ advanced (state_in p) fluxes
