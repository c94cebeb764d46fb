-- Regions and samples worked out by hand: blocks of edge 4 on two trees along x, closed at all ends.
use Rattle.std.specs.Prelude.{◌≡◌, true, false, pos, negsuc, refl, replicate}
use Rattle.block_index.specs.Places.{Cube, Grid}
use Rattle.ghost_pieces.specs.Boxes.{region_box, has_region}
use Rattle.ghost_pieces.specs.Sent.{sent}

two_trees : Grid
two_trees = record { trees_x = 2; trees_y = 1; trees_z = 1; wraps_x = false; wraps_y = false; wraps_z = false; finest = 1 }

root : Cube
root = record { level = 0; x = 1; y = 0; z = 0 }

child : Cube
child = record { level = 1; x = 1; y = 0; z = 1 }

-- of the root's ghosts to the left, one deep, the child holds the samples of a box of 1 by 2 by 2, in the upper half
-- along z
left_box : region_box 4 1 root (record { x = negsuc 0; y = pos 0; z = pos 0 }) child ≡ record { x = record { first = 0; count = 1 }; y = record { first = 1; count = 2 }; z = record { first = 3; count = 2 } }
unfolding root child
left_box = refl

left_there : has_region two_trees 4 1 root (record { x = negsuc 0; y = pos 0; z = pos 0 }) child ≡ true
unfolding two_trees root child
left_there = refl

-- in the other direction along x the child holds none of them
right_none : has_region two_trees 4 1 root (record { x = pos 1; y = pos 0; z = pos 0 }) child ≡ false
unfolding two_trees root child
right_none = refl

-- past the closed end at the right the root holds its own samples
own_past_the_end : has_region two_trees 4 2 root (record { x = pos 1; y = pos 0; z = pos 0 }) root ≡ true
unfolding two_trees root
own_past_the_end = refl

-- eight cells of 1 add up to 8; of 11 in a coarser cell its first child has 2 and its last 1
eight : sent 4 0 1 (replicate 64 1) (record { x = 1; y = 0; z = 1 }) ≡ 8
eight = refl

first_part : sent 4 1 0 (replicate 64 11) (record { x = 2; y = 4; z = 6 }) ≡ 2
first_part = refl

last_part : sent 4 1 0 (replicate 64 11) (record { x = 3; y = 5; z = 7 }) ≡ 1
last_part = refl
