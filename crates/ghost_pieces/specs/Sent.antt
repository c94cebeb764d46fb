-- The samples of a region out of the sender's own amounts, by coordinates in the sender's block.
use Rattle.std.specs.Prelude.{ℕ, ◌+◌, ◌-◌, ◌*◌, ◌^◌, Bool, cond, nat_lt, ◌==◌, List, map, slice_index, sum_by, pos, ◌-ℤ◌}
use Rattle.std.specs.List.{range_with_len}
use Rattle.cello_num.specs.Parts.{part}
use Rattle.block_index.specs.Beyond.{Offset}
use Rattle.block_index.specs.Places.{Cube, Grid, parent_of, child_number}
use Rattle.leaf_set.specs.NextMesh.{children_of}
use Rattle.block_fields.specs.Samples.{moved}
use Rattle.ghost_pieces.specs.Ghosts.{Local}
use Rattle.ghost_pieces.specs.Boxes.{span, box_size, cell_in, region_box}

-- Along an axis, where a local coordinate of the receiver lies in the sender's block b of c cells, both of the
-- receiver's level.
abbrev pub offset_of : ℕ → ℕ → ℕ → Bool → ℕ → ℕ → ℕ → ℕ → ℕ
offset_of n d t w a c b g = moved w (t * n) (pos (a * n + g) -ℤ pos d) - b * c

abbrev pub offset : Grid → ℕ → ℕ → Cube → Cube → Local → Local
offset grid n d b s g = record {
  x = offset_of n d (grid.trees_x * 2 ^ b.level) grid.wraps_x b.x (span n b.level s.level) s.x g.x;
  y = offset_of n d (grid.trees_y * 2 ^ b.level) grid.wraps_y b.y (span n b.level s.level) s.y g.y;
  z = offset_of n d (grid.trees_z * 2 ^ b.level) grid.wraps_z b.z (span n b.level s.level) s.z g.z;
}

-- the offset as a cell of the receiver's level, counted from the sender's corner
abbrev pub cell_from : ℕ → Local → Cube
cell_from l o = record { level = l; x = o.x; y = o.y; z = o.z }

-- the number of a cell that is counted from the corner of a block of edge n
abbrev pub number_from : ℕ → Cube → ℕ
number_from n c = (c.z * n + c.y) * n + c.x

-- The sample of level l at an offset o into a block of level m with the amounts q: the amount, its part, or the sum of
-- the eight finer ones.
abbrev pub sent : ℕ → ℕ → ℕ → List ℕ → Local → ℕ
sent n l m q o =
    cond (l == m) (slice_index q (number_from n (cell_from l o)))
    (cond (nat_lt m l) (part (slice_index q (number_from n (parent_of (cell_from l o)))) (child_number (cell_from l o)))
    (sum_by (λ e. slice_index q (number_from n e)) (children_of (cell_from l o))))

-- what the piece of a region carries of a field: for its cells in order, what the sender's amounts q give
abbrev pub piece_amounts : Grid → ℕ → ℕ → Cube → Offset → Cube → List ℕ → List ℕ
piece_amounts grid n d b dir s q =
    map (λ i. sent n b.level s.level q (offset grid n d b s (cell_in (region_box n d b dir s) i))) (range_with_len 0 (box_size (region_box n d b dir s)))
