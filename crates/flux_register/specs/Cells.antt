-- The cells of the flux correction: blocks after an advance by their own fluxes, with the pieces that they owe.
use Rattle.std.specs.Prelude.{ℕ, Bool, List, map}
use Rattle.block_index.specs.Places.{Grid}
use Rattle.block_fields.specs.Blocks.{BlockState}
use Rattle.block_fields.specs.BlockStates.{state_of}
use Rattle.block_fields.specs.States.{State}
use Rattle.advect.specs.FaceFluxes.{FaceFluxState}
use Rattle.advect.specs.FluxPieces.{FluxPieceState, flux_piece, no_sums}
use Rattle.flux_register.specs.Faces.{FluxFace}

-- what all blocks have in common: the domain, how many cells stand along an edge, and how many fields there are
pub record Setting : Type 0 where
  pub grid : Grid
  pub edge : ℕ
  pub fields : ℕ

-- the piece for a face, whose sums are all 0
abbrev pub blank : Setting → FluxFace → FluxPieceState
blank s face = flux_piece face.to face.from face.place face.side s.edge (no_sums s.edge s.fields)

-- the block as it was before the advance
abbrev pub unadvanced : BlockState → BlockState
unadvanced b = record b { amounts = b.before }

-- What a cell keeps: its block as it was before the advance, the fluxes through its outermost faces, and those of its
-- faces that have a coarser leaf across.
pub record FluxPart : Type 0 where
  pub before : BlockState
  pub faces : FaceFluxState
  pub owes : List FluxFace

-- A cell: its block, its fluxes, its faces with a coarser leaf across, the pieces that it still owes, and whether it has
-- started.
pub record FluxState : Type 0 where
  pub block : BlockState
  pub faces : FaceFluxState
  pub owes : List FluxFace
  pub owed : List FluxPieceState
  pub started : Bool

pub record FluxProblem : Type 0 where
  pub setting : Setting
  pub parts : List FluxPart

abbrev pub kept : FluxState → FluxPart
kept c = record { before = unadvanced c.block; faces = c.faces; owes = c.owes }

-- what a phase of this setting and its cells work on
abbrev pub problem_of : Setting → List FluxState → FluxProblem
problem_of s cells = record { setting = s; parts = map kept cells }

-- the state before the advance
abbrev pub state_in : FluxProblem → State
state_in p = state_of p.setting.grid p.setting.edge p.setting.fields (map (λ k. k.before) p.parts)

-- the state that cells hold now
abbrev pub state_now : FluxProblem → List FluxState → State
state_now p cells = state_of p.setting.grid p.setting.edge p.setting.fields (map (λ c. c.block) cells)
