-- What a block holds after a list of it was lent for writing and written over.
use Rattle.std.specs.Prelude.{ℕ, List, ◌++◌, length, take, drop, slice_set}
use Rattle.std.specs.List.{flat_map}
use Rattle.std.specs.Borrow.{Lends, MutBor, Fml, Array, u64}
use Rattle.block_fields.specs.Blocks.{BlockState, amounts_of, before_of, shell_of}
use Rattle.block_fields.specs.Layout.{cut}
use Rattle.block_fields.specs.Shells.{ghost_sizes, ghost_start}
use Rattle.block_fields.specs.contracts.block.Block.{the_row}

-- a list with another written over it from its beginning; one of its own length takes its place
abbrev pub refilled : List ℕ → List ℕ → List ℕ
refilled q w = take (length q) (w ++ drop (length w) q)

-- the block with a field's amounts written over
abbrev pub with_field : BlockState → ℕ → List ℕ → BlockState
with_field b f w = record b { amounts = slice_set b.amounts f (refilled (amounts_of b f) w) }

-- the ghosts of a field, direction after direction, with a list written over them from those of a direction on; one of
-- as many elements as the direction has ghosts takes their place
abbrev pub written_over : ℕ → ℕ → List (List ℕ) → ℕ → List ℕ → List (List ℕ)
written_over n depth shell d w =
    let all = flat_map (λ q. q) shell in
    let start = ghost_start n depth d in
    cut (ghost_sizes n depth) (refilled all (take start all ++ (w ++ drop (length w) (drop start all))))

-- the block with a field's ghosts written over from a direction on
abbrev pub with_direction : BlockState → ℕ → ℕ → List ℕ → BlockState
with_direction b f d w =
    record b { ghosts = slice_set b.ghosts f (written_over b.edge b.depth (shell_of b f) d w) }

abbrev pub LendsField : MutBor BlockState → ℕ → MutBor (List ℕ) → Fml
LendsField b f r = Lends the_row (Array u64 0) b r (with_field b.now f)

abbrev pub LendsGhosts : MutBor BlockState → ℕ → ℕ → MutBor (List ℕ) → Fml
LendsGhosts b f d r = Lends the_row (Array u64 0) b r (with_direction b.now f d)

-- the block with the second copy of a field's amounts written over
abbrev pub with_before : BlockState → ℕ → List ℕ → BlockState
with_before b f w = record b { before = slice_set b.before f (refilled (before_of b f) w) }

abbrev pub LendsBefore : MutBor BlockState → ℕ → MutBor (List ℕ) → Fml
LendsBefore b f r = Lends the_row (Array u64 0) b r (with_before b.now f)
