-- The loop over the parts.
use Rattle.std.proofs.Common.{◌≡◌, ◌≤◌, ◌++◌, drop}
use Rattle.mesh_output.specs.Pages.{Holds}
use Rattle.std.specs.List.{flat_map}
use Rattle.checkpoint.specs.SavedStates.{saved}
use Rattle.checkpoint.specs.Spelling.{part_bytes}
use Rattle.checkpoint.proofs.writing.put_parts.Given as goal

abbrev pub invariant-loop-i : goal.invariant-loop-i
invariant-loop-i g l =
    let s = saved l.fn.state.params.now l.fn.state.cycle l.fn.state.set.now.places l.fn.state.blocks.now l.fn.state.ledger.now in
    record {
      holds : Holds (g.K.Sink.written l.fn.sink) (g.K.Sink.written l.sink) (l.fn.page ++ flat_map (part_bytes s) l.fn.parts) (l.page ++ flat_map (part_bytes s) (drop l.i l.fn.parts));
      same_rest : g.K.Sink.rest l.sink ≡ g.K.Sink.rest l.fn.sink;
      no_fall : g.K.Sink.write_faults l.fn.sink ≤ g.K.Sink.write_faults l.sink;
    }
