-- One line more, and a line that fails.
use Rattle.std.proofs.Common.{ℕ, List, ap, ◌∙◌, arith}
use Rattle.std.proofs.lemmas.List.{take_all}
use Rattle.run_report.specs.Actions.{numbered_pieces}
use Rattle.run_report.specs.Lemmas.LedgerLines.{ledger_line}
use Rattle.run_report.specs.Outputs.{output, with_actions}
use Rattle.run_report.proofs.NumberedPieces.{numbered-within, numbered-more}
use Rattle.run_report.proofs.Prefixes.{acted-err}
use Rattle.run_report.proofs.cycle_lines.write_fields.Goals as goal

pub returns-in_err-write_field-clause-acted : goal.returns-in_err-write_field-clause-acted
returns-in_err-write_field-clause-acted g c = λ files.
    let fields = c.args.params.now.fields in
    let names = c.items-name-items.result.now in
    let line = ledger_line c.args.ledger.now in
    let old = g.K.Sink.written c.args.sink.now in
    let mid = g.K.Sink.written c.loop-name.sink in
    let new = g.K.Sink.written c.write_field.new.sink in
    acted-err _ (numbered_pieces line 0 fields) (output old files) (output new files) c.from_residual.result c.from_residual.ensures.1
    (numbered-within line fields names c.loop-name.name-index c.loop-name.field c.name-item.result old mid new files
    (c.items-name-items.ensures.items ∙ c.fields.ensures.fields) c.loop-name-test.true c.name-item.is c.loop-name.invariant.number
    (c.loop-name.invariant.acted files) c.in_err-write_field.ensures.wrote)

pub loop-name-preserved : goal.loop-name-preserved
loop-name-preserved g c =
    let fields = c.args.params.now.fields in
    let names = c.items-name-items.result.now in
    let line = ledger_line c.args.ledger.now in
    let old = g.K.Sink.written c.args.sink.now in
    let mid = g.K.Sink.written c.loop-name.sink in
    let new = g.K.Sink.written c.write_field.new.sink in
    record {
      number = omega arith;
      acted = λ files. numbered-more line fields names c.loop-name.name-index c.loop-name.field c.name-item.result old mid new files
          (c.items-name-items.ensures.items ∙ c.fields.ensures.fields) c.loop-name-test.true c.name-item.is c.loop-name.invariant.number
          (c.loop-name.invariant.acted files) c.in_ok-write_field.ensures.wrote;
      same_rest = c.write_field.ensures.same_rest ∙ c.loop-name.invariant.same_rest;
      no_fall = omega (arith, c.write_field.ensures.cause.no_fall);
    }

pub returns-clause-acted : goal.returns-clause-acted
returns-clause-acted g c = λ files.
    let old = g.K.Sink.written c.args.sink.now in
    let all_of = λ (names : List (List ℕ)). with_actions (output old files) (numbered_pieces (ledger_line c.args.ledger.now) 0 names) in
    c.loop-name.invariant.acted files
    ∙ ap all_of (take_all c.loop-name.name-index c.items-name-items.result.now c.loop-name-test.false)
    ∙ ap all_of (c.items-name-items.ensures.items ∙ c.fields.ensures.fields)
