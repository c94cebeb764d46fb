-- Corrections of some of the cells behind a piece.
use Rattle.std.specs.Prelude.{◌≡◌, ℕ, ◌+◌, ◌*◌, ◌/◌, ◌%◌, ◌<◌, ◌≤◌, true, length}
use Rattle.block_fields.specs.Blocks.{BlockState, amount_at}
use Rattle.advect.specs.Coordinates.{across_first, across_second}
use Rattle.advect.specs.FaceFluxes.{FaceFluxState, axis_of}
use Rattle.advect.specs.FluxPieces.{FluxPieceState, corrected, is_behind}

-- the number of a cell behind a piece, over all fields
abbrev pub rank : FluxPieceState → ℕ → ℕ → ℕ → ℕ → ℕ
rank piece f x y z =
    let a = axis_of piece.side in
    let h = piece.edge / 2 in
    (f * h + across_second a x y z % h) * h + across_first a x y z % h

-- the cells behind the piece with numbers from r to below t are corrected, and nothing else changes
pub record CorrectsBetween (faces : FaceFluxState) (piece : FluxPieceState) (r t : ℕ) (b new : BlockState) : Type 0 where
  pub place : new.place ≡ b.place
  pub edge : new.edge ≡ b.edge
  pub depth : new.depth ≡ b.depth
  pub ghosts : new.ghosts ≡ b.ghosts
  pub before : new.before ≡ b.before
  pub fields : length new.amounts ≡ length b.amounts
  pub behind : (f x y z : ℕ) → f < length b.amounts → x < b.edge → y < b.edge → z < b.edge → is_behind piece x y z ≡ true →
      r ≤ rank piece f x y z → rank piece f x y z < t → amount_at new f x y z ≡ corrected faces piece f x y z (amount_at b f x y z)
  pub elsewhere : (f x y z : ℕ) → f < length b.amounts → x < b.edge → y < b.edge → z < b.edge →
      (is_behind piece x y z ≡ true → r ≤ rank piece f x y z → rank piece f x y z < t → ⊥) → amount_at new f x y z ≡ amount_at b f x y z
