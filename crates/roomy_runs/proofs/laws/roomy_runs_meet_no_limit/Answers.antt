-- No phase of a run with room passes a limit.
use Rattle.std.proofs.Common.{◌≡◌, false}
use Rattle.params_check.specs.Parameters.{IsParameters, Parameters}
use Rattle.run_core.specs.Courses.{whole}
use Rattle.run_core.specs.Runs.{MeetsNoLimit}
use Rattle.roomy_runs.specs.RoomyRuns.{HasRoom}
use Rattle.roomy_runs.proofs.Room.{RunEnds-none, ends_by_none, whole-MeetsNoLimit}
use Rattle.roomy_runs.proofs.laws.roomy_runs_meet_no_limit.Goals as goal

pub returns : goal.returns
returns c =
    let meets : (p : Parameters) → IsParameters p → p.strict ≡ false → HasRoom p → MeetsNoLimit (whole p) = λ p w loose room.
    whole-MeetsNoLimit c.leaves_of_a_mesh.ensures.count c.next_mesh_is_a_mesh.ensures.mesh p loose room c.every_phase_keeps_a_mesh.ensures.whole w.domain in
    record {
      no_limit = meets;
      ends = λ p w loose room. ends_by_none (whole p) (meets p w loose room) (c.run_exists.ensures.exists (whole p) (c.whole_runs.ensures.course p w));
      no_other_end = λ p s limit w loose room ends. RunEnds-none (whole p) s limit (meets p w loose room) ends;
    }
