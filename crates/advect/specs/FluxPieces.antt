-- Flux pieces, as plain data: the sums of fine fluxes that take the place of a coarse block's own ones.
use Rattle.std.specs.Prelude.{◌≡◌, ℕ, ◌+◌, ◌-◌, ◌*◌, ◌/◌, ◌%◌, ◌^◌, ◌<◌, ◌≤◌, Bool, true, ◌&&◌, ◌==◌, cond, List, [], Some, length, map, replicate, slice_get, slice_index, slice_index_or, pos, ◌+ℤ◌}
use Rattle.std.specs.List.{range_with_len}
use Rattle.block_index.specs.Places.{Cube}
use Rattle.block_index.specs.Beyond.{Offset}
use Rattle.block_fields.specs.Blocks.{BlockState, amount_at}
use Rattle.advect.specs.Coordinates.{along, across_first, across_second, face_number}
use Rattle.advect.specs.FaceFluxes.{FaceFluxState, IsSide, axis_of, fluxes_on, is_end, flows_out}

-- A piece: the receiver's and the sender's position among the leaves, the sender's place, the side of the receiver on
-- which the sender lies, the edge of both blocks, and for each field the sums, one for each face of the receiver that
-- the sender's faces make up.
pub record FluxPieceState : Type 0 where
  pub to : ℕ
  pub from : ℕ
  pub place : Cube
  pub side : Offset
  pub edge : ℕ
  pub sums : List (List ℕ)

abbrev pub flux_piece : ℕ → ℕ → Cube → Offset → ℕ → List (List ℕ) → FluxPieceState
flux_piece to from place side edge sums =
    record { to = to; from = from; place = place; side = side; edge = edge; sums = sums }

-- the most that four faces carry
abbrev pub greatest_sum : ℕ
greatest_sum = 2 ^ 44

-- the limits of all pieces
pub record IsFluxPiece (piece : FluxPieceState) : Type 0 where
  pub side : IsSide piece.side
  pub even : piece.edge % 2 ≡ 0
  pub least : 4 ≤ piece.edge
  pub most : piece.edge ≤ 16
  pub few : length piece.sums ≤ 4
  pub each : (f : ℕ) (q : List ℕ) → slice_get piece.sums f ≡ Some q →
      (length q ≡ piece.edge / 2 * (piece.edge / 2)) × ((k : ℕ) → slice_index q k ≤ greatest_sum)

-- one whose sums are all 0
abbrev pub no_sums : ℕ → ℕ → List (List ℕ)
no_sums n fields = replicate fields (replicate (n / 2 * (n / 2)) 0)

abbrev pub sums_in : FluxPieceState → ℕ → List ℕ
sums_in piece f = slice_index_or piece.sums f []

-- ---- reducing

-- of the fluxes of n * n faces, the sum over the four that make up face k of the coarser faces
abbrev pub sum_of_four : ℕ → List ℕ → ℕ → ℕ
sum_of_four n q k =
    let i = k % (n / 2) in let j = k / (n / 2) in
    slice_index q (face_number n (2 * i) (2 * j)) + slice_index q (face_number n (2 * i + 1) (2 * j))
    + slice_index q (face_number n (2 * i) (2 * j + 1)) + slice_index q (face_number n (2 * i + 1) (2 * j + 1))

abbrev pub sums_of_four : ℕ → List ℕ → List ℕ
sums_of_four n q = map (sum_of_four n q) (range_with_len 0 (n / 2 * (n / 2)))

-- two opposite directions
pub record IsOpposite (d e : Offset) : Type 0 where
  pub x : d.x +ℤ e.x ≡ pos 0
  pub y : d.y +ℤ e.y ≡ pos 0
  pub z : d.z +ℤ e.z ≡ pos 0

-- the piece with the sums of the fluxes on a side
abbrev pub reduced : FaceFluxState → Offset → FluxPieceState → FluxPieceState
reduced faces d piece =
    record piece { sums = map (λ f. sums_of_four faces.edge (fluxes_on faces f d)) (range_with_len 0 faces.fields) }

-- ---- correcting

-- the cell at three coordinates is one of those behind the piece: in the outermost layer on its side, and in the quarter
-- of it that the sender covers
abbrev pub is_behind : FluxPieceState → ℕ → ℕ → ℕ → Bool
is_behind piece x y z =
    let a = axis_of piece.side in
    let p = piece.place in
    (along a x y z == cond (is_end piece.side) (piece.edge - 1) 0)
    && (across_first a x y z / (piece.edge / 2) == across_first a p.x p.y p.z % 2)
    && (across_second a x y z / (piece.edge / 2) == across_second a p.x p.y p.z % 2)

-- the provisional flux through the outermost face of such a cell, and the sum that takes its place
abbrev pub replaced_flux : FaceFluxState → FluxPieceState → ℕ → ℕ → ℕ → ℕ → ℕ
replaced_flux faces piece f x y z =
    let a = axis_of piece.side in
    slice_index (fluxes_on faces f piece.side) (face_number piece.edge (across_first a x y z) (across_second a x y z))

abbrev pub replacing_sum : FluxPieceState → ℕ → ℕ → ℕ → ℕ → ℕ
replacing_sum piece f x y z =
    let a = axis_of piece.side in
    let h = piece.edge / 2 in
    slice_index (sums_in piece f) (face_number h (across_first a x y z % h) (across_second a x y z % h))

-- its amount q with the flux replaced: it takes back what it gave and gives the sum, or the other way round
abbrev pub corrected : FaceFluxState → FluxPieceState → ℕ → ℕ → ℕ → ℕ → ℕ → ℕ
corrected faces piece f x y z q =
    let flux = replaced_flux faces piece f x y z in
    let sum = replacing_sum piece f x y z in
    cond (flows_out faces piece.side) (q + flux - sum) (q - flux + sum)

-- there is enough to take, and the amount stays small
pub record StaysWithin (faces : FaceFluxState) (piece : FluxPieceState) (f x y z q : ℕ) : Type 0 where
  pub enough : cond (flows_out faces piece.side) (replacing_sum piece f x y z) (replaced_flux faces piece f x y z)
      ≤ cond (flows_out faces piece.side) (q + replaced_flux faces piece f x y z) q
  pub most : corrected faces piece f x y z q ≤ 2 ^ 44

-- the block after a correction: other amounts behind the piece, and nothing else changed
pub record IsCorrected (faces : FaceFluxState) (piece : FluxPieceState) (b new : BlockState) : Type 0 where
  pub place : new.place ≡ b.place
  pub edge : new.edge ≡ b.edge
  pub depth : new.depth ≡ b.depth
  pub ghosts : new.ghosts ≡ b.ghosts
  pub before : new.before ≡ b.before
  pub fields : length new.amounts ≡ length b.amounts
  pub behind : (f x y z : ℕ) → f < length b.amounts → x < b.edge → y < b.edge → z < b.edge → is_behind piece x y z ≡ true →
      amount_at new f x y z ≡ corrected faces piece f x y z (amount_at b f x y z)
  pub elsewhere : (f x y z : ℕ) → f < length b.amounts → x < b.edge → y < b.edge → z < b.edge → (is_behind piece x y z ≡ true → ⊥) →
      amount_at new f x y z ≡ amount_at b f x y z
