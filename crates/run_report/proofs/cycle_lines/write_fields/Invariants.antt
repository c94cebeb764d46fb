-- The lines so far.
use Rattle.std.proofs.Common.{◌≡◌, ◌≤◌, take, Option, List}
use Rattle.cello_io.specs.Files.{MadeFile}
use Rattle.run_report.specs.Actions.{numbered_pieces}
use Rattle.run_report.specs.Lemmas.LedgerLines.{ledger_line}
use Rattle.run_report.specs.Outputs.{output, with_actions}
use Rattle.run_report.proofs.cycle_lines.write_fields.Given as goal

abbrev pub invariant-loop-name : goal.invariant-loop-name
invariant-loop-name g l = record {
  number : l.field ≡ l.name-index;
  acted : (files : Option (List MadeFile)) → output (g.K.Sink.written l.sink) files
      ≡ with_actions (output (g.K.Sink.written l.fn.sink) files) (numbered_pieces (ledger_line l.ledger) 0 (take l.name-index l.name-items));
  same_rest : g.K.Sink.rest l.sink ≡ g.K.Sink.rest l.fn.sink;
  no_fall : g.K.Sink.write_faults l.fn.sink ≤ g.K.Sink.write_faults l.sink;
}
