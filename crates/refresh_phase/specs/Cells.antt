-- The cells of the refresh phase: blocks with the pieces that they owe, and with the regions that are filed.
use Rattle.std.specs.Prelude.{ℕ, Bool, List, [], map}
use Rattle.block_index.specs.Places.{Grid}
use Rattle.block_fields.specs.Blocks.{BlockState}
use Rattle.block_fields.specs.BlockStates.{state_of}
use Rattle.block_fields.specs.States.{State}
use Rattle.ghost_pieces.specs.Filing.{Source}
use Rattle.ghost_pieces.specs.Pieces.{PieceState, zero_amounts}

-- what all blocks have in common: the domain, how many cells stand along an edge, how many fields there are, and how
-- many cells deep the shells are
pub record Setting : Type 0 where
  pub grid : Grid
  pub edge : ℕ
  pub fields : ℕ
  pub depth : ℕ

-- a piece without its amounts, and with amounts that are all 0
abbrev pub header : PieceState → PieceState
header p = record p { amounts = [] }

abbrev pub blank : Setting → PieceState → PieceState
blank s p = record p { amounts = zero_amounts s.edge s.depth s.fields p }

-- a block without its ghosts
abbrev pub own_cells : BlockState → BlockState
own_cells b = record b { ghosts = [] }

-- What a cell keeps: its block but for the ghosts, and the headers of all pieces that it owes at the start.
pub record LeafPart : Type 0 where
  pub own : BlockState
  pub owes : List PieceState

-- A cell: its block, what it owes at the start, which regions of its shell are filed, the pieces that it still owes,
-- and whether it has started.
pub record LeafState : Type 0 where
  pub block : BlockState
  pub owes : List PieceState
  pub filed : List Source
  pub owed : List PieceState
  pub started : Bool

pub record RefreshProblem : Type 0 where
  pub setting : Setting
  pub parts : List LeafPart

abbrev pub kept : LeafState → LeafPart
kept c = record { own = own_cells c.block; owes = c.owes }

-- what a phase of this setting and its cells work on
abbrev pub problem_of : Setting → List LeafState → RefreshProblem
problem_of s cells = record { setting = s; parts = map kept cells }

-- the state that the blocks hold
abbrev pub state_in : RefreshProblem → State
state_in p = state_of p.setting.grid p.setting.edge p.setting.fields (map (λ k. k.own) p.parts)
