-- The loop over the numbers that are left.
use Rattle.std.proofs.Common.{◌≡◌, ◌≤◌, ◌++◌, length}
use Rattle.mesh_output.specs.Pages.{Holds}
use Rattle.mesh_output.proofs.FieldFiles.{numbers_bytes}
use Rattle.mesh_output.proofs.numbers.put_numbers.Given as goal

abbrev pub invariant-loop-left : goal.invariant-loop-left
invariant-loop-left g l = record {
  holds : Holds (g.K.Sink.written l.fn.sink) (g.K.Sink.written l.sink) (l.fn.page ++ numbers_bytes l.fn.numbers) (l.page ++ numbers_bytes l.left);
  same_rest : g.K.Sink.rest l.sink ≡ g.K.Sink.rest l.fn.sink;
  no_fall : g.K.Sink.write_faults l.fn.sink ≤ g.K.Sink.write_faults l.sink;
}

abbrev pub decreases-loop-left : goal.decreases-loop-left
decreases-loop-left g l = length l.left
