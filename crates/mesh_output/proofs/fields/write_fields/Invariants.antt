-- The loop over the blocks.
use Rattle.std.proofs.Common.{◌≡◌, ◌≤◌, ◌++◌, drop}
use Rattle.mesh_output.specs.Pages.{Holds}
use Rattle.mesh_output.proofs.FieldFiles.{blocks_bytes}
use Rattle.mesh_output.proofs.fields.write_fields.Given as goal

abbrev pub invariant-loop-block : goal.invariant-loop-block
invariant-loop-block g l = record {
  holds : Holds (g.K.Sink.written l.fn.sink) (g.K.Sink.written l.sink) (l.initial.page ++ blocks_bytes l.blocks) (l.page ++ blocks_bytes (drop l.block-index l.blocks));
  same_rest : g.K.Sink.rest l.sink ≡ g.K.Sink.rest l.fn.sink;
  no_fall : g.K.Sink.write_faults l.fn.sink ≤ g.K.Sink.write_faults l.sink;
}
