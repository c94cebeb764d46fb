-- The line of the cycle, and then those of the fields.
use Rattle.run_report.specs.Actions.{cycle_pieces}
use Rattle.run_report.specs.Outputs.{output}
use Rattle.run_report.proofs.CycleLines.{cycle-then, cycle-less}
use Rattle.run_report.proofs.Prefixes.{acted-err}
use Rattle.run_report.proofs.cycle_lines.write_cycle.Goals as goal

pub returns-in_err-write_cycle_line-clause-acted : goal.returns-in_err-write_cycle_line-clause-acted
returns-in_err-write_cycle_line-clause-acted g c = λ s files leaves fields totals.
    let p = c.args.params.now in
    let old = g.K.Sink.written c.args.sink.now in
    let new = g.K.Sink.written c.write_cycle_line.new.sink in
    acted-err _ (cycle_pieces p c.args.cycle s c.args.ledger.now) (output old files) (output new files) c.from_residual.result c.from_residual.ensures.1
    (cycle-less p c.args.cycle c.len.result s c.args.set.now.places c.args.ledger.now files old new leaves c.len.ensures.len c.in_err-write_cycle_line.ensures.wrote)

pub returns-clause-acted : goal.returns-clause-acted
returns-clause-acted g c = λ s files leaves fields totals.
    cycle-then c.args.params.now c.args.cycle c.len.result s c.args.set.now.places c.args.ledger.now files
    (g.K.Sink.written c.args.sink.now) (g.K.Sink.written c.write_cycle_line.new.sink) (g.K.Sink.written c.write_fields.new.sink) c.write_fields.result
    leaves fields totals c.write_fields.ensures.few c.len.ensures.len c.in_ok-write_cycle_line.ensures.wrote (c.write_fields.ensures.acted files)
