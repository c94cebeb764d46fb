-- What the invariant of the refresh phase says of each cell, each region and each message.
use Rattle.std.specs.Prelude.{◌≡◌, ℕ, ◌+◌, ◌<◌, ◌==◌, ◌&&◌, false, cond, List, Some, All, Contains, length, slice_get, sum_by}
use Rattle.phase_core.specs.declared.envelope.Envelope.{Envelope}
use Rattle.owed_phase.specs.States.{StartsInFlight}
use Rattle.block_fields.specs.BlockStates.{HoldsSamples}
use Rattle.ghost_pieces.specs.Filing.{is_filed, is_same_source, source_of}
use Rattle.ghost_pieces.specs.Pieces.{PieceState, CarriesSamples, zero_amounts}
use Rattle.ghost_pieces.specs.Regions.{Region, IsRegion}
use Rattle.ghost_pieces.specs.Shells.{HoldsFiled}
use Rattle.refresh_phase.specs.declared.refresh_msg.RefreshMsg.{RefreshMsg}
use Rattle.refresh_phase.specs.declared.refresh_msg.RefreshMsg.TheVariants.{Start, Piece}
use Rattle.refresh_phase.specs.Cells.{LeafPart, LeafState, RefreshProblem, own_cells, state_in}
use Rattle.refresh_phase.specs.Problem.{refresh_plan}

-- one for a region of the same receiver, sender and direction
abbrev pub same_region : Region → Region → ℕ
same_region r q = cond ((r.receiver == q.receiver) && is_same_source (source_of r) (source_of q)) 1 0

-- one for a piece of region r
abbrev pub piece_of : Region → RefreshMsg → ℕ
piece_of r Start = 0
piece_of r (Piece q) = same_region r q.region

-- one where region r is filed in a cell
abbrev pub filed_in : LeafState → Region → ℕ
filed_in c r = cond (is_filed c.filed r) 1 0

-- how many pieces of region r the cells still owe, and how many are in flight
abbrev pub owed_pieces_of : Region → List LeafState → ℕ
owed_pieces_of r cells = sum_by (λ c. sum_by (λ q. same_region r q.region) c.owed) cells

abbrev pub flying_pieces_of : Region → List (Envelope RefreshMsg) → ℕ
flying_pieces_of r flight = sum_by (λ e. piece_of r e.msg) flight

-- a message in flight is addressed to a cell; a piece to its receiver, and it carries the samples of its region
abbrev pub IsRightMsg : RefreshProblem → ℕ → RefreshMsg → Type 0
IsRightMsg p to Start = to < length p.parts
IsRightMsg p to (Piece q) = (q.region.receiver ≡ to) × (to < length p.parts) × CarriesSamples (state_in p) p.setting.depth q

-- what stands for each cell: its amounts are those of the start; its shell holds the samples of the regions that are
-- filed; and what it still owes holds only 0 and is of regions whose samples it holds
pub record IsRightCell (p : RefreshProblem) (i : ℕ) (k : LeafPart) (c : LeafState) : Type 0 where
  pub own : own_cells c.block ≡ k.own
  pub filed : HoldsFiled (state_in p) i c.filed c.block
  pub waits : (q : PieceState) → Contains c.owed q → c.started ≡ false
  pub source : (q : PieceState) → Contains c.owed q → q.region.sender ≡ i
  pub zeros : (q : PieceState) → Contains c.owed q → q.amounts ≡ zero_amounts p.setting.edge p.setting.depth p.setting.fields q

-- What the invariant says: every cell is right; every region is filed, or one piece of it is owed, or one is in flight;
-- exactly one start is in flight to a cell that hasn't started, and none to one that has; and nothing else is in flight
-- than starts and right pieces.
pub record IsRefreshState (p : RefreshProblem) (cells : List LeafState) (flight : List (Envelope RefreshMsg)) : Type 0 where
  pub each : (i : ℕ) (k : LeafPart) (c : LeafState) → slice_get p.parts i ≡ Some k → slice_get cells i ≡ Some c → IsRightCell p i k c
  pub regions : (r : Region) (c : LeafState) → IsRegion p.setting.grid p.setting.edge p.setting.depth (state_in p).leaves r →
      slice_get cells r.receiver ≡ Some c → filed_in c r + owed_pieces_of r cells + flying_pieces_of r flight ≡ 1
  pub starts : StartsInFlight (refresh_plan p) cells flight
  pub messages : All (λ e. IsRightMsg p e.to e.msg) flight

-- all blocks hold the amounts of the start, and samples of these around them
abbrev pub AreRefreshed : RefreshProblem → List LeafState → Type 0
AreRefreshed p cells =
    (i : ℕ) (k : LeafPart) (c : LeafState) → slice_get p.parts i ≡ Some k → slice_get cells i ≡ Some c →
    (own_cells c.block ≡ k.own) × HoldsSamples (state_in p) c.block
