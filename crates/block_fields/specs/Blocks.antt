-- A block as plain data.
use Rattle.std.specs.Prelude.{◌≡◌, ℕ, ◌+◌, ◌*◌, ◌%◌, ◌≤◌, ◌==◌, cond, List, [], Some, length, map, replicate, slice_get, slice_index, slice_index_or, slice_set, ℤ}
use Rattle.std.specs.List.{range_with_len}
use Rattle.block_index.specs.Places.{Cube}
use Rattle.block_fields.specs.Shells.{direction_of, number_around, ghost_size}

-- A block: its place, how many cells stand along an edge, how many deep its shell is, and for each field the amounts of
-- its cells, x fastest, their second copy, and for each direction the ghosts.
pub record BlockState : Type 0 where
  pub place : Cube
  pub edge : ℕ
  pub depth : ℕ
  pub amounts : List (List ℕ)
  pub before : List (List ℕ)
  pub ghosts : List (List (List ℕ))

-- the limits of every block
pub record IsBlock (b : BlockState) : Type 0 where
  pub even : b.edge % 2 ≡ 0
  pub least : 4 ≤ b.edge
  pub most : b.edge ≤ 16
  pub shallowest : 1 ≤ b.depth
  pub deepest : b.depth ≤ 2
  pub few : length b.amounts ≤ 4
  pub one_before_each : length b.before ≡ length b.amounts
  pub one_shell_each : length b.ghosts ≡ length b.amounts
  pub all_cells : (f : ℕ) (q : List ℕ) → slice_get b.amounts f ≡ Some q → length q ≡ b.edge * b.edge * b.edge
  pub all_before : (f : ℕ) (q : List ℕ) → slice_get b.before f ≡ Some q → length q ≡ b.edge * b.edge * b.edge
  pub all_directions : (f : ℕ) (shell : List (List ℕ)) → slice_get b.ghosts f ≡ Some shell → length shell ≡ 27
  pub all_ghosts : (f d : ℕ) (shell : List (List ℕ)) (q : List ℕ) → slice_get b.ghosts f ≡ Some shell →
      slice_get shell d ≡ Some q → length q ≡ ghost_size b.edge b.depth d

-- the number of the cell at three coordinates in a block: x fastest, then y, then z
abbrev pub number_at : ℕ → ℕ → ℕ → ℕ → ℕ
number_at n x y z = (z * n + y) * n + x

-- a field's amounts, their second copy, and its ghosts in a direction
abbrev pub amounts_of : BlockState → ℕ → List ℕ
amounts_of b f = slice_index_or b.amounts f []

abbrev pub before_of : BlockState → ℕ → List ℕ
before_of b f = slice_index_or b.before f []

abbrev pub shell_of : BlockState → ℕ → List (List ℕ)
shell_of b f = slice_index_or b.ghosts f []

abbrev pub ghosts_of : BlockState → ℕ → ℕ → List ℕ
ghosts_of b f d = slice_index_or (shell_of b f) d []

-- the amount of a cell
abbrev pub amount_at : BlockState → ℕ → ℕ → ℕ → ℕ → ℕ
amount_at b f x y z = slice_index (amounts_of b f) (number_at b.edge x y z)

-- what a block holds at coordinates in it or around it: the amount of its own cell, or the ghost
abbrev pub seen_at : BlockState → ℕ → ℤ → ℤ → ℤ → ℕ
seen_at b f x y z =
    let d = direction_of b.edge x y z in
    slice_index (cond (d == 13) (amounts_of b f) (ghosts_of b f d)) (number_around b.edge b.depth x y z)

-- the block with another amount at one cell
abbrev pub with_amount : BlockState → ℕ → ℕ → ℕ → ℕ → ℕ → BlockState
with_amount b f x y z q =
    record b { amounts = slice_set b.amounts f (slice_set (amounts_of b f) (number_at b.edge x y z) q) }

-- the block with other ghosts of a field in a direction
abbrev pub with_ghosts : BlockState → ℕ → ℕ → List ℕ → BlockState
with_ghosts b f d q = record b { ghosts = slice_set b.ghosts f (slice_set (shell_of b f) d q) }

-- the block with another ghost at one cell around it
abbrev pub with_ghost : BlockState → ℕ → ℤ → ℤ → ℤ → ℕ → BlockState
with_ghost b f x y z q =
    let d = direction_of b.edge x y z in
    with_ghosts b f d (slice_set (ghosts_of b f d) (number_around b.edge b.depth x y z) q)

-- the block with a field's amounts and their second copy exchanged
abbrev pub exchanged : BlockState → ℕ → BlockState
exchanged b f = record b { amounts = slice_set b.amounts f (before_of b f); before = slice_set b.before f (amounts_of b f) }

-- the block of which all amounts and ghosts are 0
abbrev pub zero_block : Cube → ℕ → ℕ → ℕ → BlockState
zero_block place n fields depth = record {
  place = place;
  edge = n;
  depth = depth;
  amounts = replicate fields (replicate (n * n * n) 0);
  before = replicate fields (replicate (n * n * n) 0);
  ghosts = replicate fields (map (λ d. replicate (ghost_size n depth d) 0) (range_with_len 0 27));
}
