-- The file that is due.
use Rattle.checkpoint.specs.SavedStates.{saved}
use Rattle.checkpoint.specs.Spelling.{bytes_of}
use Rattle.run_report.specs.FileNames.{state_name}
use Rattle.run_report.proofs.MadeActions.{makes-due}
use Rattle.run_report.proofs.filing.make_checkpoint.Goals as goal

pub returns : goal.returns
returns g c =
    let state = c.args.state.now in
    record {
      made = makes-due c.args.due c.state_name.result (state_name state.cycle) (bytes_of (saved state.params.now state.cycle state.set.now.places state.blocks.now state.ledger.now)) _ _ c.write_state_file.result c.if-not-due.false
          c.state_name.ensures.name c.write_state_file.ensures.filed;
    }
