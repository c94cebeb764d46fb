-- How a balanced mesh stands at the cells beside a leaf's cell along an axis.
use Rattle.std.proofs.Common.{◌≡◌, ℕ, ◌*◌, ◌/◌, ◌%◌, ◌^◌, ◌<◌, ◌≤◌, refl, arith, List, Some, slice_get}
use Rattle.block_index.specs.Places.{Cube, Grid, IsDomain, IsInside}
use Rattle.leaf_set.specs.Meshes.{IsMesh, IsBalanced}
use Rattle.leaf_set.proofs.Spots.{finest_limit}
use Rattle.block_fields.specs.Cells.{block_of}
use Rattle.block_fields.proofs.MeetingLeaves.{stands_beside}
use Rattle.block_fields.proofs.Standings.{Standing}
use Rattle.grid_fluxes.specs.Axes.{Axis, along_x, along_y, along_z, next_cell, previous_cell}
use Rattle.grid_fluxes.proofs.BesideBlocks.{LiesBeside, same-LiesBeside, next-LiesBeside, previous-LiesBeside}
use Rattle.grid_fluxes.proofs.Coordinates.{inside_cell}
use Rattle.grid_fluxes.proofs.Steps.{IsAlong}

-- cells of a leaf lie inside the domain
pub leaf_cell-inside : (a : Axis) (grid : Grid) (n : ℕ) (c : Cube) → 0 < n → IsInside grid (block_of n c) → IsAlong a grid n c
leaf_cell-inside along_x grid n c some w = inside_cell (grid.trees_x * 2 ^ c.level) n c.x some w.x
leaf_cell-inside along_y grid n c some w = inside_cell (grid.trees_y * 2 ^ c.level) n c.y some w.y
leaf_cell-inside along_z grid n c some w = inside_cell (grid.trees_z * 2 ^ c.level) n c.z some w.z

module _ (grid : Grid) (mesh : List Cube) (g : IsDomain grid) (m : IsMesh grid mesh) (balanced : IsBalanced grid mesh) (n : ℕ) (some : 2 ≤ n) where
  module _ (c : Cube) (i : ℕ) (at : slice_get mesh i ≡ Some (block_of n c)) where
    leaf_inside : IsInside grid (block_of n c)
    leaf_inside = m.inside i (block_of n c) at

    shallow : c.level ≤ 6
    shallow = finest_limit grid (block_of n c) g leaf_inside

    beside : (x y z : ℕ) → LiesBeside grid.trees_x grid.wraps_x c.level n c.x x → LiesBeside grid.trees_y grid.wraps_y c.level n c.y y → LiesBeside grid.trees_z grid.wraps_z c.level n c.z z → Standing n mesh (record { level = c.level; x = x; y = y; z = z })
    beside x y z on_x on_y on_z =
        let v : Cube = record { level = c.level; x = x; y = y; z = z } in
        stands_beside grid mesh g m balanced n v (block_of n c) i at refl
        (record { level = leaf_inside.level; x = on_x.inside; y = on_y.inside; z = on_z.inside })
        (record { on_x = on_x.own; on_y = on_y.own; on_z = on_z.own })
        (λ k h room. record {
          on_x = on_x.finer (k % 2) (omega arith) room;
          on_y = on_y.finer (k / 2 % 2) (omega arith) room;
          on_z = on_z.finer (k / 4) (omega arith) room;
        })

    stays_x : LiesBeside grid.trees_x grid.wraps_x c.level n c.x c.x
    stays_x = same-LiesBeside grid.trees_x grid.wraps_x c.level n c.x c.x shallow leaf_inside.x refl

    stays_y : LiesBeside grid.trees_y grid.wraps_y c.level n c.y c.y
    stays_y = same-LiesBeside grid.trees_y grid.wraps_y c.level n c.y c.y shallow leaf_inside.y refl

    stays_z : LiesBeside grid.trees_z grid.wraps_z c.level n c.z c.z
    stays_z = same-LiesBeside grid.trees_z grid.wraps_z c.level n c.z c.z shallow leaf_inside.z refl

  pub stands_next : (a : Axis) (c : Cube) (i : ℕ) → slice_get mesh i ≡ Some (block_of n c) → IsAlong a grid n (next_cell a grid n c) → Standing n mesh (next_cell a grid n c)
  stands_next along_x c i at h =
      let v = next_cell along_x grid n c in
      beside c i at v.x c.y c.z (next-LiesBeside grid.trees_x grid.wraps_x c.level n c.x some (shallow c i at) (leaf_inside c i at).x h) (stays_y c i at) (stays_z c i at)
  stands_next along_y c i at h =
      let v = next_cell along_y grid n c in
      beside c i at c.x v.y c.z (stays_x c i at) (next-LiesBeside grid.trees_y grid.wraps_y c.level n c.y some (shallow c i at) (leaf_inside c i at).y h) (stays_z c i at)
  stands_next along_z c i at h =
      let v = next_cell along_z grid n c in
      beside c i at c.x c.y v.z (stays_x c i at) (stays_y c i at) (next-LiesBeside grid.trees_z grid.wraps_z c.level n c.z some (shallow c i at) (leaf_inside c i at).z h)

  pub stands_previous : (a : Axis) (c : Cube) (i : ℕ) → slice_get mesh i ≡ Some (block_of n c) → IsAlong a grid n (previous_cell a grid n c) → Standing n mesh (previous_cell a grid n c)
  stands_previous along_x c i at h =
      let v = previous_cell along_x grid n c in
      beside c i at v.x c.y c.z (previous-LiesBeside grid.trees_x grid.wraps_x c.level n c.x some (shallow c i at) (leaf_inside c i at).x h) (stays_y c i at) (stays_z c i at)
  stands_previous along_y c i at h =
      let v = previous_cell along_y grid n c in
      beside c i at c.x v.y c.z (stays_x c i at) (previous-LiesBeside grid.trees_y grid.wraps_y c.level n c.y some (shallow c i at) (leaf_inside c i at).y h) (stays_z c i at)
  stands_previous along_z c i at h =
      let v = previous_cell along_z grid n c in
      beside c i at c.x c.y v.z (stays_x c i at) (stays_y c i at) (previous-LiesBeside grid.trees_z grid.wraps_z c.level n c.z some (shallow c i at) (leaf_inside c i at).z h)
