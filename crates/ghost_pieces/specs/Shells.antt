-- What a block's shell holds while its regions are filed one after another.
use Rattle.std.specs.Prelude.{◌≡◌, ℕ, ◌+◌, ◌*◌, ◌<◌, true, List}
use Rattle.block_index.specs.Places.{Cube, Grid}
use Rattle.block_fields.specs.Blocks.{BlockState, seen_at}
use Rattle.block_fields.specs.Samples.{sample}
use Rattle.block_fields.specs.States.{State}
use Rattle.ghost_pieces.specs.Ghosts.{Local, counted, ghost_cell}
use Rattle.ghost_pieces.specs.Regions.{Region, IsRegion, IsRegionCell}
use Rattle.ghost_pieces.specs.Filing.{Source, is_filed, source_of}

-- what the block holds at local coordinates in it or around it
abbrev pub seen_local : BlockState → ℕ → Local → ℕ
seen_local b f g = seen_at b f (counted b.depth g.x) (counted b.depth g.y) (counted b.depth g.z)

-- local coordinates in a block of edge n or in its shell, d cells deep
pub record IsLocal (n d : ℕ) (g : Local) : Type 0 where
  pub x : g.x < n + 2 * d
  pub y : g.y < n + 2 * d
  pub z : g.z < n + 2 * d

-- it is some region of leaf j
abbrev pub IsSourceOf : Grid → ℕ → ℕ → List Cube → ℕ → Source → Type 0
IsSourceOf grid n d mesh j k = (r : Region) × (r.receiver ≡ j) × IsRegion grid n d mesh r × (source_of r ≡ k)

-- The block, leaf j of the state, holds the samples at the ghost cells of all regions that are filed.
abbrev pub HoldsFiled : State → ℕ → List Source → BlockState → Type 0
HoldsFiled s j filed b =
    (r : Region) (g : Local) (f : ℕ) → r.receiver ≡ j → is_filed filed r ≡ true → f < s.fields →
    IsRegionCell s.grid s.edge b.depth s.leaves r g → seen_local b f g ≡ sample s f (ghost_cell s.grid s.edge b.depth b.place g)

-- all regions of leaf j are filed
abbrev pub AreAllFiled : State → ℕ → ℕ → List Source → Type 0
AreAllFiled s d j filed = (r : Region) → r.receiver ≡ j → IsRegion s.grid s.edge d s.leaves r → is_filed filed r ≡ true
