-- A run that is cut off, a summary that was written, and one that wasn't.
use Rattle.std.proofs.Common.{Ok, refl, ap, subst, ◌∙◌, ◌≤◌, length}
use Rattle.amount_ledger.specs.Ledgers.{LedgerState}
use Rattle.leaf_set.specs.Tiling.{Tiling}
use Rattle.params_check.specs.Parameters.{Parameters}
use Rattle.run_core.specs.Courses.{Course}
use Rattle.run_report.specs.Actions.{piece}
use Rattle.run_report.specs.Outputs.{output}
use Rattle.run_report.proofs.Prefixes.{acted-piece, within-part}
use Rattle.cello_top.specs.Lemmas.Demonstrating.{demo_failed, ledger_summary}
use Rattle.cello_top.proofs.Demonstrated.{cut-memory, demo-done, is-summary}
use Rattle.cello_top.proofs.demonstration.demonstrate_run.Goals as goal

pub returns-in-Err-run_quietly-clause-ended : goal.returns-in-Err-run_quietly-clause-ended
returns-in-Err-run_quietly-clause-ended g c = λ files.
    cut-memory c.args.seed c.args.size c.args.params c.requires.has
    (λ groups q s limit spells accepted ends.
    c.demo_runs_meet_no_limit.ensures.no_other_end c.args.seed c.args.size groups q s limit c.requires.seed c.requires.some c.requires.few spells accepted ends)
    c.in-Ok.run'.course c.in-Ok.ensures.course c.in-Err-run_quietly.fault c.from.result c.from.ensures c.in-Err-run_quietly.ensures.cut _

pub returns-in-Ok-write_all-clause-done : goal.returns-in-Ok-write_all-clause-done
returns-in-Ok-write_all-clause-done g c = λ files.
    let s = c.run_quietly.new.run in
    let course = c.in-Ok-run_quietly.ensures.same ∙ c.in-Ok.ensures.course in
    let params = c.params.ensures.params ∙ ap (λ (k : Course). k.parameters) course in
    let ended = c.in-Ok-run_quietly.ensures.ended in
    demo-done c.args.seed c.args.size c.args.params c.requires.has s course ended.shown c.len-leaves.result c.set.result.now.places c.len-leaves.ensures.len
    (ap (λ (x : Tiling). x.places) c.set.ensures.set) (subst (λ (p : Parameters). length p.fields ≤ 4) params c.summary-text.ensures.few) c.bytes.result.now
    (c.bytes.ensures.bytes ∙ c.summary-text.ensures.summary
    ∙ ap (λ (p : Parameters). ledger_summary c.args.seed c.args.size p c.len-leaves.result c.ledger.result.now) params
    ∙ ap (λ (l : LedgerState). ledger_summary c.args.seed c.args.size c.args.params c.len-leaves.result l) c.ledger.ensures.ledger)
    g.C.Crew.counts c.in-Ok-run_quietly.handled ended.counted (output (g.K.Sink.written c.args.sink.now) files) (output (g.K.Sink.written c.write_all.new.sink) files)
    (acted-piece {T = Unit {0}} {E = Unit {0}} c.bytes.result.now (g.K.Sink.written c.args.sink.now) (g.K.Sink.written c.write_all.new.sink) files (Ok tt) c.in-Ok-write_all.ensures.wrote)

pub returns-clause-ended : goal.returns-clause-ended
returns-clause-ended g c = λ files.
    let s = c.run_quietly.new.run in
    let course = c.in-Ok-run_quietly.ensures.same ∙ c.in-Ok.ensures.course in
    let params = c.params.ensures.params ∙ ap (λ (k : Course). k.parameters) course in
    let ended = c.in-Ok-run_quietly.ensures.ended in
    demo_failed c.bytes.result.now refl
    (is-summary c.args.seed c.args.size c.args.params c.requires.has s course ended.shown c.len-leaves.result c.set.result.now.places c.len-leaves.ensures.len
    (ap (λ (x : Tiling). x.places) c.set.ensures.set) (subst (λ (p : Parameters). length p.fields ≤ 4) params c.summary-text.ensures.few) c.bytes.result.now
    (c.bytes.ensures.bytes ∙ c.summary-text.ensures.summary
    ∙ ap (λ (p : Parameters). ledger_summary c.args.seed c.args.size p c.len-leaves.result c.ledger.result.now) params
    ∙ ap (λ (l : LedgerState). ledger_summary c.args.seed c.args.size c.args.params c.len-leaves.result l) c.ledger.ensures.ledger))
    (within-part (piece c.bytes.result.now) (output (g.K.Sink.written c.args.sink.now) files) (output (g.K.Sink.written c.write_all.new.sink) files)
    (c.in-Err-write_all.ensures.wrote, refl))
