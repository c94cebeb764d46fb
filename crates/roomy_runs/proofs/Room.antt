-- With room for all leaves no phase passes a limit.
use Rattle.std.proofs.Common.{◌≡◌, ℕ, suc, ◌+◌, ◌*◌, ◌^◌, ◌≤◌, Bool, true, false, List, Option, None, length, sym, ◌∙◌, subst, arith}
use Rattle.block_index.specs.Places.{Cube, Grid, IsDomain}
use Rattle.block_index.specs.declared.wish.Wish.{Wish}
use Rattle.leaf_set.specs.LevelRules.{IsSolution}
use Rattle.leaf_set.specs.Meshes.{IsMesh}
use Rattle.leaf_set.specs.NextMesh.{next_mesh}
use Rattle.leaf_set.specs.RootMesh.{tree_count}
use Rattle.leaf_set.specs.Tiling.{IsTiling}
use Rattle.params_check.specs.Parameters.{Parameters}
use Rattle.run_core.specs.declared.fault.RunFault.{RunFault}
use Rattle.run_core.specs.Courses.{Course, RunState, whole}
use Rattle.run_core.specs.Runs.{MeetsNoLimit, PassesLimit, RunEnds, Runs, after_all, at_limit, of_blocks, of_level, phase_wishes}
use Rattle.roomy_runs.specs.RoomyRuns.{HasRoom}

-- a mesh has no more leaves than the domain has places of the finest level
abbrev pub FewLeaves : Type 0
FewLeaves = (grid : Grid) (mesh : List Cube) → IsDomain grid → IsMesh grid mesh → length mesh ≤ tree_count grid * 8 ^ grid.finest

-- the next mesh is a mesh
abbrev pub NextMeshes : Type 0
NextMeshes = (grid : Grid) (mesh : List Cube) (wishes : List Wish) (levels : List ℕ) → IsDomain grid → IsMesh grid mesh
    → IsSolution grid mesh wishes levels → IsMesh grid (next_mesh mesh levels)

-- each mesh of a run is one
abbrev pub RunMeshes : Type 0
RunMeshes = (p : Parameters) (phases : ℕ) (run : RunState) → IsDomain p.grid → Runs (whole p) phases run
    → IsTiling (record { grid = p.grid; places = run.state.leaves })

one_answer : (b : Bool) → b ≡ false → b ≡ true → ⊥
one_answer b is_no is_yes = let e : false ≡ true = sym is_no ∙ is_yes in cc

module _ (few : FewLeaves) (next : NextMeshes) (p : Parameters) (loose : p.strict ≡ false) (room : HasRoom p) where
  -- no wishes on a mesh lead past a limit
  passes_none : (phase : ℕ) (mesh : List Cube) (wishes : List Wish) (fault : RunFault) → IsDomain p.grid → IsMesh p.grid mesh
      → PassesLimit p phase mesh wishes fault → ⊥
  passes_none phase mesh wishes fault domain is (of_level i place strict too none e) = one_answer p.strict loose strict
  passes_none phase mesh wishes fault domain is (of_blocks levels keeps least many e) =
      let after : IsMesh p.grid (next_mesh mesh levels) = next p.grid mesh wishes levels domain is least.solves in
      let count : length (next_mesh mesh levels) ≤ tree_count p.grid * 8 ^ p.grid.finest = few p.grid (next_mesh mesh levels) domain after in
      omega (arith, count, room, many)

  pub whole-MeetsNoLimit : RunMeshes → IsDomain p.grid → MeetsNoLimit (whole p)
  whole-MeetsNoLimit meshes domain phases s fault below runs passes =
      passes_none (0 + suc phases) s.state.leaves (phase_wishes p (0 + suc phases) s.state) fault domain (meshes p phases s domain runs).mesh passes

-- where no phase passes a limit, a run ends by none
pub RunEnds-none : (c : Course) (s : RunState) (limit : Option RunFault) → MeetsNoLimit c → RunEnds c s limit → limit ≡ None
RunEnds-none c s limit meets (after_all runs is) = is
RunEnds-none c s limit meets (at_limit phases fault below runs passes is) = absurd (meets phases s fault below runs passes)

-- and there is one
pub ends_by_none : (c : Course) → MeetsNoLimit c → (s : RunState) × (limit : Option RunFault) × RunEnds c s limit → (s : RunState) × RunEnds c s None
ends_by_none c meets h = (h.0, subst (λ (limit : Option RunFault). RunEnds c h.0 limit) (RunEnds-none c h.0 h.1 meets h.2) h.2)
