-- A piece that is filed field by field.
use Rattle.std.specs.Prelude.{◌≡◌, ℕ, ◌<◌, ◌≤◌, length, slice_set}
use Rattle.block_fields.specs.Blocks.{BlockState, shell_of}
use Rattle.ghost_pieces.specs.Pieces.{PieceState}
use Rattle.ghost_pieces.specs.Filing.{filed_ghosts, number_of}

-- the block b is the block a with the piece filed in its first k fields
pub record HasFields (a : BlockState) (p : PieceState) (k : ℕ) (b : BlockState) : Type 0 where
  pub same : b ≡ record a { ghosts = b.ghosts }
  pub long : length b.ghosts ≡ length a.ghosts
  pub filed : (f : ℕ) → f < k → shell_of b f ≡ slice_set (shell_of a f) (number_of p.region.direction) (filed_ghosts a p f)
  pub rest : (f : ℕ) → k ≤ f → shell_of b f ≡ shell_of a f
