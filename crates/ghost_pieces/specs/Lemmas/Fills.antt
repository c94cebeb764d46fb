-- Lists filled row by row, and pieces field by field.
use Rattle.std.specs.Prelude.{◌≡◌, ℕ, ◌+◌, ◌*◌, ◌<◌, ◌≤◌, Bool, List, [], length, slice_index, slice_index_or}
use Rattle.block_index.specs.Places.{Grid}
use Rattle.block_fields.specs.Blocks.{BlockState, amounts_of}
use Rattle.ghost_pieces.specs.Sent.{piece_amounts, sent}
use Rattle.ghost_pieces.specs.Pieces.{PieceState}
use Rattle.ghost_pieces.specs.Lemmas.Parts.{further}

-- the sample of the cell i, j, k of a box, by its parts along the axes: where they start and whether they go on
abbrev pub box_sample : ℕ → ℕ → ℕ → List ℕ → ℕ → Bool → ℕ → Bool → ℕ → Bool → ℕ → ℕ → ℕ → ℕ
box_sample n l m q x rx y ry z rz i j k = sent n l m q (record { x = further x rx i; y = further y ry j; z = further z rz k })

-- Rows of a plane were filled from `at` on by the function g; what stands before is as it was.
pub record FillsPlane (g : ℕ → ℕ → ℕ) (at count rows : ℕ) (before after : List ℕ) : Type 0 where
  pub long : length after ≡ length before
  pub cells : (i j : ℕ) → i < count → j < rows → slice_index after (at + j * count + i) ≡ g i j
  pub earlier : (i : ℕ) → i < at → slice_index after i ≡ slice_index before i

-- the first planes of a box were filled by the function g
pub record FillsPlanes (g : ℕ → ℕ → ℕ → ℕ) (count rows planes : ℕ) (before after : List ℕ) : Type 0 where
  pub long : length after ≡ length before
  pub cells : (i j k : ℕ) → i < count → j < rows → k < planes → slice_index after ((k * rows + j) * count + i) ≡ g i j k

-- the piece p with the samples that the block b gives in its first k fields
pub record HasSamples (grid : Grid) (b : BlockState) (p : PieceState) (k : ℕ) (q : PieceState) : Type 0 where
  pub same : q ≡ record p { amounts = q.amounts }
  pub long : length q.amounts ≡ length p.amounts
  pub filled : (f : ℕ) → f < k → slice_index_or q.amounts f [] ≡ piece_amounts grid b.edge b.depth p.receiver p.region.direction p.sender (amounts_of b f)
  pub rest : (f : ℕ) → k ≤ f → slice_index_or q.amounts f [] ≡ slice_index_or p.amounts f []
