-- The order of places: by tree (z, then y, then x), then by the path of child numbers from the root, an
-- ancestor before its descendants.
use Rattle.std.specs.Prelude.{ℕ, zero, suc, ◌+◌, ◌-◌, ◌*◌, ◌/◌, ◌%◌, ◌^◌, ◌<◌}
use Rattle.std.specs.Ordering.{nat_cmp, ordering_then}
use Rattle.std.specs.declared.cmp.Ordering.{Ordering}
use Rattle.block_index.specs.Places.{Cube, deepest, most_trees}

-- the child numbers from the root as octal digits, for a place of the given level and coordinates
abbrev pub path_digits : ℕ → ℕ → ℕ → ℕ → ℕ
path_digits zero x y z = 0
path_digits (suc l) x y z = 8 * path_digits l (x / 2) (y / 2) (z / 2) + (x % 2 + 2 * (y % 2) + 4 * (z % 2))

unfoldable pub path_of : Cube → ℕ
path_of c = path_digits c.level c.x c.y c.z

-- the tree that a coordinate of a level lies in
abbrev pub tree_of : ℕ → ℕ → ℕ
tree_of level x = x / 2 ^ level

-- the number of a place's tree, by z, then y, then x
abbrev pub tree_number : Cube → ℕ
tree_number c = (tree_of c.level c.z * most_trees + tree_of c.level c.y) * most_trees + tree_of c.level c.x

-- the path filled up with zeros to as many digits as there are levels below a root
abbrev pub filled_path : Cube → ℕ
filled_path c = path_of c * 8 ^ (deepest - c.level)

-- how many places of the deepest level lie in a tree
abbrev pub deepest_in_tree : ℕ
deepest_in_tree = 8 ^ deepest

-- where a place begins on the line of all places of the deepest level, tree by tree: at the first one that it covers
abbrev pub first_finest : Cube → ℕ
first_finest c = tree_number c * deepest_in_tree + filled_path c

-- how many levels there are
abbrev pub level_count : ℕ
level_count = deepest + 1

-- The place in the order as one number: places stand as they begin, and of those that begin at one spot the coarser
-- ones first.
unfoldable pub rank : Cube → ℕ
rank c = first_finest c * level_count + c.level

-- a stands before c
abbrev pub IsBefore : Cube → Cube → Type 0
IsBefore a c = rank a < rank c

-- two places compared step by step: by tree along z, then y, then x, then by filled-up path, then by level
abbrev pub compared_in_steps : Cube → Cube → Ordering
compared_in_steps a c =
    ordering_then (nat_cmp (tree_of a.level a.z) (tree_of c.level c.z))
    (ordering_then (nat_cmp (tree_of a.level a.y) (tree_of c.level c.y))
    (ordering_then (nat_cmp (tree_of a.level a.x) (tree_of c.level c.x))
    (ordering_then (nat_cmp (filled_path a) (filled_path c)) (nat_cmp a.level c.level))))
