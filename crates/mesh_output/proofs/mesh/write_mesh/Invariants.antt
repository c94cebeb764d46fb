-- The loop over the leaves of a mesh.
use Rattle.std.proofs.Common.{◌≡◌, ◌≤◌}
use Rattle.mesh_output.specs.Pages.{Holds}
use Rattle.mesh_output.proofs.Pages.{mesh_front}
use Rattle.mesh_output.proofs.mesh.write_mesh.Given as goal

abbrev pub invariant-loop-place : goal.invariant-loop-place
invariant-loop-place g l = record {
  holds : Holds (g.K.Sink.written l.fn.sink) (g.K.Sink.written l.sink) (mesh_front l.set.places l.place-index) l.page;
  same_rest : g.K.Sink.rest l.sink ≡ g.K.Sink.rest l.fn.sink;
  no_fall : g.K.Sink.write_faults l.fn.sink ≤ g.K.Sink.write_faults l.sink;
}
