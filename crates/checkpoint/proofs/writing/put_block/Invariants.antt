-- The loop over the fields of a block.
use Rattle.std.proofs.Common.{◌≡◌, ◌≤◌, ◌++◌, drop}
use Rattle.mesh_output.specs.Pages.{Holds}
use Rattle.checkpoint.proofs.Amounts.{fields_bytes}
use Rattle.checkpoint.proofs.writing.put_block.Given as goal

abbrev pub invariant-loop-field : goal.invariant-loop-field
invariant-loop-field g l = record {
  holds : Holds (g.K.Sink.written l.fn.sink) (g.K.Sink.written l.sink) (l.fn.page ++ fields_bytes l.fn.block.amounts) (l.page ++ fields_bytes (drop l.field l.fn.block.amounts));
  same_rest : g.K.Sink.rest l.sink ≡ g.K.Sink.rest l.fn.sink;
  no_fall : g.K.Sink.write_faults l.fn.sink ≤ g.K.Sink.write_faults l.sink;
}
