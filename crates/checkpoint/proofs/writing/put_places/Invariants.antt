-- The loop over the places.
use Rattle.std.proofs.Common.{◌≡◌, ◌≤◌, ◌++◌, drop}
use Rattle.mesh_output.specs.Pages.{Holds}
use Rattle.checkpoint.proofs.Amounts.{places_bytes}
use Rattle.checkpoint.proofs.writing.put_places.Given as goal

abbrev pub invariant-loop-place : goal.invariant-loop-place
invariant-loop-place g l = record {
  holds : Holds (g.K.Sink.written l.fn.sink) (g.K.Sink.written l.sink) (l.fn.page ++ places_bytes l.fn.places) (l.page ++ places_bytes (drop l.place-index l.fn.places));
  same_rest : g.K.Sink.rest l.sink ≡ g.K.Sink.rest l.fn.sink;
  no_fall : g.K.Sink.write_faults l.fn.sink ≤ g.K.Sink.write_faults l.sink;
}
