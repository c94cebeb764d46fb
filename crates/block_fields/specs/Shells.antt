-- Where the cells around a block lie. Along an axis a coordinate, counted from the block's first cell, lies on side 0,
-- before the block, on side 1, in it, or on side 2, past it. The sides along x, y and z give one of 27 directions, of
-- which number 13 is the block itself. The cells of a direction are a box, whose cells are numbered x fastest.
use Rattle.std.specs.Prelude.{ℕ, suc, ◌+◌, ◌-◌, ◌*◌, ◌/◌, ◌%◌, ◌<◌, ◌==◌, cond, nat_lt, List, map, sum, take, ℤ, pos, negsuc}
use Rattle.std.specs.List.{range_with_len}

-- the coordinate is that of a cell of a block of edge n, or of one at most `depth` cells beside it
abbrev pub IsAround : ℕ → ℕ → ℤ → Type 0
IsAround n depth (pos u) = u < n + depth
IsAround n depth (negsuc u) = u < depth

-- the side of a coordinate, and its position among the cells of that side
abbrev pub side_of : ℕ → ℤ → ℕ
side_of n (pos u) = cond (nat_lt u n) 1 2
side_of n (negsuc u) = 0

abbrev pub position_of : ℕ → ℕ → ℤ → ℕ
position_of n depth (pos u) = cond (nat_lt u n) u (u - n)
position_of n depth (negsuc u) = depth - suc u

-- how many cells stand on a side
abbrev pub side_length : ℕ → ℕ → ℕ → ℕ
side_length n depth side = cond (side == 1) n depth

-- the number of the direction with three sides
abbrev pub direction : ℕ → ℕ → ℕ → ℕ
direction x y z = x + 3 * y + 9 * z

-- the direction of a cell, and its number in the box of that direction
abbrev pub direction_of : ℕ → ℤ → ℤ → ℤ → ℕ
direction_of n x y z = direction (side_of n x) (side_of n y) (side_of n z)

abbrev pub number_around : ℕ → ℕ → ℤ → ℤ → ℤ → ℕ
number_around n depth x y z =
    (position_of n depth z * side_length n depth (side_of n y) + position_of n depth y) * side_length n depth (side_of n x) + position_of n depth x

-- how many ghosts a direction has; the block itself has none
abbrev pub ghost_size : ℕ → ℕ → ℕ → ℕ
ghost_size n depth d =
    cond (d == 13) 0 (side_length n depth (d % 3) * side_length n depth (d / 3 % 3) * side_length n depth (d / 9))

-- the sizes of all directions, how many ghosts come before those of a direction, and how many there are in all
unfoldable pub ghost_sizes : ℕ → ℕ → List ℕ
ghost_sizes n depth = map (ghost_size n depth) (range_with_len 0 27)

abbrev pub ghost_start : ℕ → ℕ → ℕ → ℕ
ghost_start n depth d = sum (take d (ghost_sizes n depth))

abbrev pub ghost_count : ℕ → ℕ → ℕ
ghost_count n depth = sum (ghost_sizes n depth)
