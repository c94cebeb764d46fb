-- The limits of values, by name.
use Rattle.std.specs.Prelude.{ℕ, ◌^◌}

-- trees along an axis
abbrev pub most_trees : ℕ
most_trees = 16

-- the finest level that there may be
abbrev pub finest_level : ℕ
finest_level = 6

-- cells along the edge of a block
abbrev pub least_edge : ℕ
least_edge = 4

abbrev pub greatest_edge : ℕ
greatest_edge = 16

abbrev pub most_blocks : ℕ
most_blocks = 8192

-- cells that all blocks hold, once for each field
abbrev pub most_cells : ℕ
most_cells = 2 ^ 26

-- adapt phases before cycle 0
abbrev pub most_rounds : ℕ
most_rounds = 12

-- the last phase in which a criterion can be active
abbrev pub last_phase : ℕ
last_phase = 8192

abbrev pub most_cycles : ℕ
most_cycles = 4096

abbrev pub most_fields : ℕ
most_fields = 4

-- bytes of the name of a field
abbrev pub longest_field : ℕ
longest_field = 16

-- subs of a group: shapes, or criteria
abbrev pub most_subs : ℕ
most_subs = 16

-- a coordinate or a radius, in root cells
abbrev pub farthest : ℕ
farthest = 256

-- the amount of a cell, a threshold of amounts, and the initial total of a field
abbrev pub greatest_amount : ℕ
greatest_amount = 2 ^ 40

-- a threshold of slopes, in hundredths
abbrev pub greatest_slope : ℕ
greatest_slope = 1000000

-- a velocity along an axis, in either direction
abbrev pub fastest : ℕ
fastest = 2 ^ 20

-- what a velocity is divided by
abbrev pub greatest_den : ℕ
greatest_den = 2 ^ 20
