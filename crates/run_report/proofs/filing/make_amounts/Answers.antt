-- The file of the fields, and then the checkpoint.
use Rattle.std.proofs.Common.{subst}
use Rattle.run_core.specs.Runs.{blocks_state}
use Rattle.run_report.specs.Actions.{Action, where_due, fields_file, state_file}
use Rattle.run_report.specs.Outputs.{MakesFiles}
use Rattle.run_report.proofs.KeptStates.{state_file-saved}
use Rattle.run_report.proofs.MadeActions.{makes-err, makes-then}
use Rattle.run_report.proofs.filing.make_amounts.Goals as goal

pub returns-in_err-make_fields : goal.returns-in_err-make_fields
returns-in_err-make_fields g c =
    let state = c.args.state.now in
    let p = state.params.now in
    let s = blocks_state p state.blocks.now in
    record {
      made = makes-err _ (where_due c.args.due.fields (fields_file state.cycle s)) (where_due c.args.due.checkpoint (state_file p state.cycle s state.ledger.now)) _ _ _ c.from_residual.result c.from_residual.ensures.1
          c.in_err-make_fields.ensures.made;
    }

pub returns : goal.returns
returns g c =
    let state = c.args.state.now in
    let p = state.params.now in
    let s = blocks_state p state.blocks.now in
    let mid = g.H.Shelf.tells c.make_fields.new.shelf in
    let new = g.H.Shelf.tells c.make_checkpoint.new.shelf in
    record {
      made = makes-then (where_due c.args.due.fields (fields_file state.cycle s)) (where_due c.args.due.checkpoint (state_file p state.cycle s state.ledger.now)) _ mid new _ c.make_checkpoint.result c.in_ok-make_fields.ensures.made
          (subst (λ (a : Action). MakesFiles (where_due c.args.due.checkpoint a) mid new c.make_checkpoint.result)
          (state_file-saved p state.cycle state.set.now.places state.blocks.now state.ledger.now c.requires.blocks.places c.requires.totals) c.make_checkpoint.ensures.made);
    }
