-- Filing a piece: its amounts become the ghosts of its region, once. A block's ghosts of a direction are a list, in
-- which a region is a box.
use Rattle.std.specs.Prelude.{ℕ, zero, suc, ◌+◌, ◌-◌, ◌*◌, ◌/◌, ◌%◌, Bool, cond, ◌&&◌, nat_le, nat_lt, ◌==◌, ℤ, pos, negsuc, List, [], ◌∷◌, ◌++◌, length, map, slice_index, slice_index_or, slice_set}
use Rattle.std.specs.List.{range_with_len, list_any}
use Rattle.block_index.specs.Beyond.{Offset}
use Rattle.block_index.specs.Places.{Cube}
use Rattle.block_fields.specs.Blocks.{BlockState, ghosts_of, shell_of}
use Rattle.block_fields.specs.Shells.{direction, side_length}
use Rattle.ghost_pieces.specs.Boxes.{Stretch, Box, part_of, span, stretch_of}
use Rattle.ghost_pieces.specs.Regions.{Region}
use Rattle.ghost_pieces.specs.Pieces.{PieceState}

-- the side of a block, 0, 1 or 2, to which a step along an axis leads
abbrev pub side_of_step : ℤ → ℕ
side_of_step (pos zero) = 1
side_of_step (pos (suc k)) = 2
side_of_step (negsuc k) = 0

-- the number of a direction among the 27 lists of a block's ghosts
abbrev pub number_of : Offset → ℕ
number_of dir = direction (side_of_step dir.x) (side_of_step dir.y) (side_of_step dir.z)

-- ---- which regions of a block are filed

-- A region of a block by the number of its direction and the position of its sender.
pub record Source : Type 0 where
  pub direction : ℕ
  pub sender : ℕ

abbrev pub source_of : Region → Source
source_of r = record { direction = number_of r.direction; sender = r.sender }

abbrev pub is_same_source : Source → Source → Bool
is_same_source a c = (a.direction == c.direction) && (a.sender == c.sender)

-- whether a region stands in a list of filed ones
abbrev pub is_filed : List Source → Region → Bool
is_filed filed r = list_any (is_same_source (source_of r)) filed

-- the list after the piece of a region was filed
abbrev pub with_filed : List Source → Region → List Source
with_filed filed r = cond (is_filed filed r) filed (filed ++ source_of r ∷ [])

-- ---- what a block holds after a piece was filed

-- the part of a region along an axis, counted from the first cell of its direction's list
abbrev pub listed_part : ℕ → ℕ → ℕ → ℕ → ℕ → ℤ → Stretch
listed_part n d a c b s = record {
  first = (part_of n d a c b s).first - (stretch_of n d s).first;
  count = (part_of n d a c b s).count;
}

abbrev pub listed_box : ℕ → ℕ → Cube → Offset → Cube → Box
listed_box n d b dir s = record {
  x = listed_part n d b.x (span n b.level s.level) s.x dir.x;
  y = listed_part n d b.y (span n b.level s.level) s.y dir.y;
  z = listed_part n d b.z (span n b.level s.level) s.z dir.z;
}

abbrev pub is_within : Stretch → ℕ → Bool
is_within p g = nat_le p.first g && nat_lt g (p.first + p.count)

-- What stands at x, y, z after a box of a list, of rows of mx cells and planes of my rows, was written: the amount of
-- the box's cell, or what stood there.
abbrev pub pasted_at : ℕ → ℕ → Box → List ℕ → List ℕ → ℕ → ℕ → ℕ → ℕ
pasted_at mx my p amounts old x y z =
    cond (is_within p.x x && is_within p.y y && is_within p.z z)
    (slice_index amounts (((z - p.z.first) * p.y.count + (y - p.y.first)) * p.x.count + (x - p.x.first)))
    (slice_index old ((z * my + y) * mx + x))

-- the list after a box of it was written
abbrev pub pasted : ℕ → ℕ → Box → List ℕ → List ℕ → List ℕ
pasted mx my p amounts old =
    map (λ i. pasted_at mx my p amounts old (i % mx) (i / mx % my) (i / mx / my)) (range_with_len 0 (length old))

-- the ghosts of a field in the piece's direction, after the piece was filed
abbrev pub filed_ghosts : BlockState → PieceState → ℕ → List ℕ
filed_ghosts b p f =
    let dir = p.region.direction in
    pasted (side_length b.edge b.depth (side_of_step dir.x)) (side_length b.edge b.depth (side_of_step dir.y))
    (listed_box b.edge b.depth p.receiver dir p.sender) (slice_index_or p.amounts f []) (ghosts_of b f (number_of dir))

-- the block with the piece's amounts as the ghosts of its region, for every field
abbrev pub with_piece : BlockState → PieceState → BlockState
with_piece b p =
    record b { ghosts = map (λ f. slice_set (shell_of b f) (number_of p.region.direction) (filed_ghosts b p f)) (range_with_len 0 (length b.ghosts)) }

-- the block after a piece was filed where these regions are filed already
abbrev pub after_filing : List Source → PieceState → BlockState → BlockState
after_filing filed p b = cond (is_filed filed p.region) b (with_piece b p)
