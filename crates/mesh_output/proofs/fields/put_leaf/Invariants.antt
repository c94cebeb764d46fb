-- The loop over the fields of a leaf.
use Rattle.std.proofs.Common.{◌≡◌, ◌≤◌, ◌++◌, drop}
use Rattle.mesh_output.specs.Pages.{Holds}
use Rattle.mesh_output.proofs.FieldFiles.{block_bytes, fields_bytes}
use Rattle.mesh_output.proofs.fields.put_leaf.Given as goal

abbrev pub invariant-loop-field : goal.invariant-loop-field
invariant-loop-field g l = record {
  holds : Holds (g.K.Sink.written l.fn.sink) (g.K.Sink.written l.sink) (l.fn.page ++ block_bytes l.block) (l.page ++ fields_bytes (drop l.field l.block.amounts));
  same_rest : g.K.Sink.rest l.sink ≡ g.K.Sink.rest l.fn.sink;
  no_fall : g.K.Sink.write_faults l.fn.sink ≤ g.K.Sink.write_faults l.sink;
}
