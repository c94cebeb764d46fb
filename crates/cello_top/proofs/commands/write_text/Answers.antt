-- A part of the text.
use Rattle.std.proofs.Common.{ℕ, List, refl, subst}
use Rattle.cello_io.specs.Writes.{GrewByPart}
use Rattle.run_report.specs.Actions.{piece}
use Rattle.run_report.specs.Outputs.{output}
use Rattle.run_report.proofs.Prefixes.{within-part}
use Rattle.cello_top.proofs.commands.write_text.Goals as goal

pub returns-in-Err-clause-acted : goal.returns-in-Err-clause-acted
returns-in-Err-clause-acted g c = λ files.
    within-part (piece c.args.params.now.text) (output (g.K.Sink.written c.args.sink.now) files) (output (g.K.Sink.written c.write_all.new.sink) files)
    (subst (λ (bytes : List ℕ). GrewByPart (g.K.Sink.written c.args.sink.now) (g.K.Sink.written c.write_all.new.sink) bytes) c.text.ensures.text c.in-Err.ensures.wrote, refl)
