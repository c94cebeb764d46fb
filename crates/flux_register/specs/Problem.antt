-- The flux correction as a phase whose cells owe messages: its plan, its problem, its invariant and its weight.
use Rattle.std.specs.Prelude.{◌≡◌, ℕ, ◌%◌, ◌≤◌, false, List, Some, map, slice_get}
use Rattle.phase_core.specs.declared.envelope.Envelope.{Envelope}
use Rattle.owed_phase.specs.Plans.{Plan}
use Rattle.owed_phase.specs.Holds.{OwingBegins, OwingHolds, owing_weight, owing_start_weight}
use Rattle.block_fields.specs.Blocks.{IsBlock}
use Rattle.block_fields.specs.States.{IsState}
use Rattle.grid_fluxes.specs.Fluxes.{Fluxes}
use Rattle.advect.specs.FaceFluxes.{IsFaceFluxes}
use Rattle.advect.specs.Flows.{goes_up_by}
use Rattle.advect.specs.OwnFluxes.{IsProvisional}
use Rattle.flux_register.specs.declared.flux_msg.FluxMsg.{FluxMsg}
use Rattle.flux_register.specs.Faces.{AreOwedFaces}
use Rattle.flux_register.specs.Cells.{Setting, FluxPart, FluxState, FluxProblem, blank, kept, state_in, unadvanced}
use Rattle.flux_register.specs.React.{flux_start, is_start, sent_pieces, flux_react}
use Rattle.flux_register.specs.Made.{IsMadeBy, kept_flux}

-- a cell before anything was handled: its amounts are the provisional ones, and the pieces that it owes hold only 0
pub record IsFresh (s : Setting) (c : FluxState) : Type 0 where
  pub limits : IsBlock c.block
  pub provisional : IsProvisional (kept_flux (unadvanced c.block) c.faces) (goes_up_by c.faces.velocity) (unadvanced c.block) c.block
  pub owed : c.owed ≡ map (blank s) c.owes
  pub started : c.started ≡ false

abbrev pub flux_plan : FluxProblem → Plan FluxPart FluxState FluxMsg
flux_plan p = record {
  start = flux_start;
  is_start = is_start;
  part = kept;
  Fresh = IsFresh p.setting;
  tells = λ i k. sent_pieces k.faces (map (blank p.setting) k.owes);
  started = λ c. c.started;
  owed = λ i c. sent_pieces c.faces c.owed;
  react = flux_react p;
}

-- leaf i of the problem: its block and its fluxes are of the setting's size, and it owes a piece for each of its faces
-- with a coarser leaf across
pub record IsFluxPart (p : FluxProblem) (i : ℕ) (k : FluxPart) : Type 0 where
  pub limits : IsBlock k.before
  pub same_edge : k.before.edge ≡ p.setting.edge
  pub faces : IsFaceFluxes k.faces
  pub faces_edge : k.faces.edge ≡ p.setting.edge
  pub faces_fields : k.faces.fields ≡ p.setting.fields
  pub owes : AreOwedFaces p.setting.grid (state_in p).leaves i k.owes

-- a well-formed problem: the blocks are those of a balanced mesh, all of one size, and their fluxes are those of a scheme
pub record IsFluxProblem (p : FluxProblem) : Type 0 where
  pub state : IsState (state_in p)
  pub even : p.setting.edge % 2 ≡ 0
  pub least : 4 ≤ p.setting.edge
  pub most : p.setting.edge ≤ 16
  pub few : p.setting.fields ≤ 4
  pub leaves : (i : ℕ) (k : FluxPart) → slice_get p.parts i ≡ Some k → IsFluxPart p i k
  pub fluxes : Fluxes
  pub made : IsMadeBy p fluxes

abbrev pub FluxFixBegins : FluxProblem → List FluxState → Type 0
FluxFixBegins p = OwingBegins (IsFluxProblem p) (flux_plan p) p.parts

abbrev pub FluxFixHolds : FluxProblem → List FluxState → List (Envelope FluxMsg) → Type 0
FluxFixHolds p = OwingHolds (IsFluxProblem p) (flux_plan p) p.parts

-- The cells that haven't started and the pieces that these owe, and the pieces in flight.
abbrev pub flux_weight : FluxProblem → List FluxState → List (Envelope FluxMsg) → ℕ
flux_weight p = owing_weight (flux_plan p)

-- one for each message that there will be
abbrev pub flux_start_weight : FluxProblem → ℕ
flux_start_weight p = owing_start_weight (flux_plan p) p.parts
