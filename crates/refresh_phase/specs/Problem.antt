-- The refresh phase as one whose cells owe messages: its plan, its problem, and what stands in every state.
use Rattle.std.specs.Prelude.{◌≡◌, ℕ, ◌%◌, ◌≤◌, ◌^◌, false, List, [], Some, map, slice_get, sum}
use Rattle.phase_core.specs.declared.envelope.Envelope.{Envelope}
use Rattle.owed_phase.specs.Plans.{Plan}
use Rattle.owed_phase.specs.Holds.{OwingBegins, OwingHolds, owing_weight, owing_start_weight}
use Rattle.block_fields.specs.Blocks.{IsBlock, amounts_of}
use Rattle.block_fields.specs.States.{IsState}
use Rattle.ghost_pieces.specs.Pieces.{AreOwedPieces}
use Rattle.refresh_phase.specs.declared.refresh_msg.RefreshMsg.{RefreshMsg}
use Rattle.refresh_phase.specs.Cells.{Setting, LeafPart, LeafState, RefreshProblem, own_cells, blank, kept, state_in}
use Rattle.refresh_phase.specs.React.{refresh_start, is_start, sent_pieces, refresh_react}

-- a cell before anything was handled: no region is filed, and the pieces that it owes hold only 0
pub record IsFresh (s : Setting) (c : LeafState) : Type 0 where
  pub limits : IsBlock c.block
  pub filed : c.filed ≡ []
  pub owed : c.owed ≡ map (blank s) c.owes
  pub started : c.started ≡ false

abbrev pub refresh_plan : RefreshProblem → Plan LeafPart LeafState RefreshMsg
refresh_plan p = record {
  start = refresh_start;
  is_start = is_start;
  part = kept;
  Fresh = IsFresh p.setting;
  tells = λ i k. sent_pieces p.setting.grid k.own (map (blank p.setting) k.owes);
  started = λ c. c.started;
  owed = λ i c. sent_pieces p.setting.grid (own_cells c.block) c.owed;
  react = refresh_react p;
}

-- leaf i of the problem: its block is of the setting's size, no field adds up to more than 2 ^ 42, and what it owes is
-- a piece for each region whose samples it holds
pub record IsLeafPart (p : RefreshProblem) (i : ℕ) (k : LeafPart) : Type 0 where
  pub same_edge : k.own.edge ≡ p.setting.edge
  pub same_depth : k.own.depth ≡ p.setting.depth
  pub few : (f : ℕ) → sum (amounts_of k.own f) ≤ 2 ^ 42
  pub owes : AreOwedPieces p.setting.grid p.setting.edge p.setting.depth p.setting.fields (state_in p).leaves i (map (blank p.setting) k.owes)

-- a well-formed problem: the blocks are those of a balanced mesh, all of one size
pub record IsRefreshProblem (p : RefreshProblem) : Type 0 where
  pub state : IsState (state_in p)
  pub even : p.setting.edge % 2 ≡ 0
  pub least : 4 ≤ p.setting.edge
  pub most : p.setting.edge ≤ 16
  pub shallowest : 1 ≤ p.setting.depth
  pub deepest : p.setting.depth ≤ 2
  pub leaves : (i : ℕ) (k : LeafPart) → slice_get p.parts i ≡ Some k → IsLeafPart p i k

abbrev pub RefreshBegins : RefreshProblem → List LeafState → Type 0
RefreshBegins p = OwingBegins (IsRefreshProblem p) (refresh_plan p) p.parts

abbrev pub RefreshHolds : RefreshProblem → List LeafState → List (Envelope RefreshMsg) → Type 0
RefreshHolds p = OwingHolds (IsRefreshProblem p) (refresh_plan p) p.parts

-- The cells that haven't started and the pieces that these owe, and the pieces in flight.
abbrev pub refresh_weight : RefreshProblem → List LeafState → List (Envelope RefreshMsg) → ℕ
refresh_weight p = owing_weight (refresh_plan p)

-- one for each message that there will be
abbrev pub refresh_start_weight : RefreshProblem → ℕ
refresh_start_weight p = owing_start_weight (refresh_plan p) p.parts
