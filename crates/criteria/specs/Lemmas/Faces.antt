-- The lists that hold a block's own cells and those next to its six sides, and the rows in them.
use Rattle.std.specs.Prelude.{◌≡◌, ℕ, ◌+◌, pos}
use Rattle.block_fields.specs.Blocks.{BlockState, seen_at}
use Rattle.criteria.specs.declared.faces.Faces.{Faces}
use Rattle.criteria.specs.declared.slope.Rows.{Rows}
use Rattle.criteria.specs.Lemmas.Rows.{HoldsCells, HoldsMiddle}
use Rattle.criteria.specs.Samples.{before}

-- the lists of a field, each by the number of its direction
pub record AreFaces (b : BlockState) (f : ℕ) (faces : Faces) : Type 0 where
  pub own : HoldsCells b f 13 faces.own.now
  pub low_x : HoldsCells b f 12 faces.low_x.now
  pub high_x : HoldsCells b f 14 faces.high_x.now
  pub low_y : HoldsCells b f 10 faces.low_y.now
  pub high_y : HoldsCells b f 16 faces.high_y.now
  pub low_z : HoldsCells b f 4 faces.low_z.now
  pub high_z : HoldsCells b f 22 faces.high_z.now

-- the row of cells at two coordinates, what stands at its ends, and the rows next to it
pub record AreRows (b : BlockState) (f y z : ℕ) (rows : Rows) : Type 0 where
  pub low : rows.low ≡ seen_at b f (before 0) (before (y + 1)) (before (z + 1))
  pub high : rows.high ≡ seen_at b f (pos b.edge) (before (y + 1)) (before (z + 1))
  pub here : HoldsMiddle b f (y + 1) (z + 1) rows.here.now
  pub low_y : HoldsMiddle b f y (z + 1) rows.low_y.now
  pub high_y : HoldsMiddle b f (y + 2) (z + 1) rows.high_y.now
  pub low_z : HoldsMiddle b f (y + 1) z rows.low_z.now
  pub high_z : HoldsMiddle b f (y + 1) (z + 2) rows.high_z.now
