-- The first line, and then the second.
use Rattle.std.proofs.Common.{[], ◌∷◌}
use Rattle.mesh_output.specs.Lines.{header_line, restart_line}
use Rattle.run_report.specs.Actions.{piece, restart_pieces}
use Rattle.run_report.specs.Outputs.{output}
use Rattle.run_report.proofs.Prefixes.{acted-err, acted-then, within-more}
use Rattle.cello_top.proofs.opening.write_first_lines.Goals as goal

pub returns-in_err-write_first_line-clause-acted : goal.returns-in_err-write_first_line-clause-acted
returns-in_err-write_first_line-clause-acted g c = λ files.
    let old = output (g.K.Sink.written c.args.sink.now) files in
    let new = output (g.K.Sink.written c.write_first_line.new.sink) files in
    acted-err _ (restart_pieces c.args.cycle c.args.leaves) old new c.from_residual.result c.from_residual.ensures.1
    (within-more (piece header_line ∷ []) (piece (restart_line c.args.cycle c.args.leaves) ∷ []) old new (c.in_err-write_first_line.ensures.acted files))

pub returns-clause-acted : goal.returns-clause-acted
returns-clause-acted g c = λ files.
    acted-then (piece header_line ∷ []) (piece (restart_line c.args.cycle c.args.leaves) ∷ []) (output (g.K.Sink.written c.args.sink.now) files)
    (output (g.K.Sink.written c.write_first_line.new.sink) files) (output (g.K.Sink.written c.write_second_line.new.sink) files) c.write_second_line.result
    (c.in_ok-write_first_line.ensures.acted files) (c.write_second_line.ensures.acted files)
