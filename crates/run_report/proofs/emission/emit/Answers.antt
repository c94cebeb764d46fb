-- The lines of the cycle, and then its files.
use Rattle.std.proofs.Common.{refl, subst}
use Rattle.run_core.specs.Courses.{cycle_ended}
use Rattle.run_core.specs.Runs.{blocks_state}
use Rattle.run_report.specs.declared.due.Due.{Due}
use Rattle.run_report.specs.Actions.{actions_of, cycle_pieces, cycle_files, due_at}
use Rattle.run_report.specs.Outputs.{Acted, output}
use Rattle.run_report.proofs.Prefixes.{acted-err, acted-then, within-more}
use Rattle.run_report.proofs.emission.emit.Goals as goal

pub returns-in_err-write_cycle-clause-acted : goal.returns-in_err-write_cycle-clause-acted
returns-in_err-write_cycle-clause-acted g c =
    let p = c.args.params.now in
    let cycle = c.args.cycle in
    let ledger = c.args.ledger.now in
    let s = blocks_state p c.args.blocks.now in
    let files = (g.H.Shelf.tells c.args.shelf.now).written in
    let old = output (g.K.Sink.written c.args.sink.now) files in
    let new = output (g.K.Sink.written c.write_cycle.new.sink) files in
    acted-err _ (actions_of p (cycle_ended cycle s ledger)) old new c.from_residual.result c.from_residual.ensures.1
    (within-more (cycle_pieces p cycle s ledger) (cycle_files p (due_at p cycle) cycle s ledger) old new
    (c.in_err-write_cycle.ensures.acted s files c.requires.blocks.places refl c.requires.totals))

pub returns-clause-acted : goal.returns-clause-acted
returns-clause-acted g c =
    let p = c.args.params.now in
    let cycle = c.args.cycle in
    let ledger = c.args.ledger.now in
    let s = blocks_state p c.args.blocks.now in
    let bytes = g.K.Sink.written c.write_cycle.new.sink in
    let files = (g.H.Shelf.tells c.args.shelf.now).written in
    let made = (g.H.Shelf.tells c.make_files.new.shelf).written in
    acted-then (cycle_pieces p cycle s ledger) (cycle_files p (due_at p cycle) cycle s ledger) (output (g.K.Sink.written c.args.sink.now) files) (output bytes files) (output bytes made) c.make_files.result
    (c.in_ok-write_cycle.ensures.acted s files c.requires.blocks.places refl c.requires.totals)
    (subst (λ (due : Due). Acted (cycle_files p due cycle s ledger) (output bytes files) (output bytes made) c.make_files.result) c.requires.due (c.make_files.ensures.made.acted bytes))
