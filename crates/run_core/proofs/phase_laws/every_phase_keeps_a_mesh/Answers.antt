-- The meshes of a run, from its start on.
use Rattle.run_core.specs.Courses.{whole}
use Rattle.run_core.proofs.PhaseMeshes.{Adapts-levels, Runs-Tiles, whole-Tiles}
use Rattle.run_core.proofs.phase_laws.every_phase_keeps_a_mesh.Goals as goal

pub returns : goal.returns
returns c = record {
  mesh = Runs-Tiles;
  whole = λ p phases run is runs. Runs-Tiles (whole p) phases run (whole-Tiles p is) runs;
  levels = Adapts-levels;
}
