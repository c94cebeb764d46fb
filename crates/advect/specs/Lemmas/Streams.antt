-- The fluxes of a stream through the faces of a field's cells.
use Rattle.std.specs.Prelude.{ℕ, ◌+◌, Bool, ◌&&◌, ◌||◌, ◌==◌, cond, List, [], slice_index, slice_index_or, ℤ, pos}
use Rattle.block_fields.specs.Layout.{cut}
use Rattle.block_fields.specs.Shells.{direction_of, number_around, ghost_sizes}
use Rattle.grid_fluxes.specs.Axes.{Axis, along_x, along_y, along_z}
use Rattle.advect.specs.OwnFluxes.{upwind_side}
use Rattle.advect.specs.declared.stream.Stream.{Stream}
use Rattle.advect.specs.declared.stream.Streams.{Streams}
use Rattle.advect.specs.Lemmas.Shares.{carried}

-- a field's cells and the ghosts around them, as lists
pub record Field : Type 0 where
  pub edge : ℕ
  pub depth : ℕ
  pub amounts : List ℕ
  pub shell : List (List ℕ)

-- the field with ghosts in one list
abbrev pub field_of : ℕ → ℕ → List ℕ → List ℕ → Field
field_of n depth amounts ghosts = record { edge = n; depth = depth; amounts = amounts; shell = cut (ghost_sizes n depth) ghosts }

abbrev pub seen_in : Field → ℤ → ℤ → ℤ → ℕ
seen_in q x y z =
    let d = direction_of q.edge x y z in
    slice_index (cond (d == 13) q.amounts (slice_index_or q.shell d [])) (number_around q.edge q.depth x y z)

abbrev pub seen_along : Field → Axis → ℤ → ℕ → ℕ → ℕ
seen_along q along_x u i j = seen_in q u (pos i) (pos j)
seen_along q along_y u i j = seen_in q (pos i) u (pos j)
seen_along q along_z u i j = seen_in q (pos i) (pos j) u

-- nothing passes the faces at this coordinate
abbrev pub bars : Stream → ℕ → ℕ → Bool
bars stream n u = ((u == 0) && stream.low_barred) || ((u == n) && stream.high_barred)

-- the flux through the face at which the cell begins that has these coordinates along and across
abbrev pub stream_flux : Stream → Field → Axis → ℕ → ℕ → ℕ → ℕ
stream_flux stream q a u i j =
    cond (bars stream q.edge u) 0 (carried stream.share (seen_along q a (upwind_side stream.up u) i j))

-- what goes out of the cell, and what comes in
abbrev pub goes : Stream → Field → Axis → ℕ → ℕ → ℕ → ℕ
goes stream q a u i j = cond stream.up (stream_flux stream q a (u + 1) i j) (stream_flux stream q a u i j)

abbrev pub enters : Stream → Field → Axis → ℕ → ℕ → ℕ → ℕ
enters stream q a u i j = cond stream.up (stream_flux stream q a u i j) (stream_flux stream q a (u + 1) i j)

-- the stream along an axis
abbrev pub stream_on : Streams → Axis → Stream
stream_on streams along_x = streams.x
stream_on streams along_y = streams.y
stream_on streams along_z = streams.z
