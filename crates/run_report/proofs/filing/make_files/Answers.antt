-- The file of the mesh, and then those of the amounts.
use Rattle.std.proofs.Common.{◌++◌}
use Rattle.run_core.specs.Runs.{blocks_state}
use Rattle.run_report.specs.Actions.{where_due, mesh_file, fields_file, state_file}
use Rattle.run_report.proofs.MadeActions.{makes-err, makes-then}
use Rattle.run_report.proofs.filing.make_files.Goals as goal

pub returns-in_err-make_mesh : goal.returns-in_err-make_mesh
returns-in_err-make_mesh g c =
    let state = c.args.state.now in
    let p = state.params.now in
    let s = blocks_state p state.blocks.now in
    record {
      made = makes-err _ (where_due c.args.due.mesh (mesh_file state.cycle s))
          (where_due c.args.due.fields (fields_file state.cycle s) ++ where_due c.args.due.checkpoint (state_file p state.cycle s state.ledger.now))
          _ _ _ c.from_residual.result c.from_residual.ensures.1 c.in_err-make_mesh.ensures.made;
    }

pub returns : goal.returns
returns g c =
    let state = c.args.state.now in
    let p = state.params.now in
    let s = blocks_state p state.blocks.now in
    record {
      made = makes-then (where_due c.args.due.mesh (mesh_file state.cycle s))
          (where_due c.args.due.fields (fields_file state.cycle s) ++ where_due c.args.due.checkpoint (state_file p state.cycle s state.ledger.now))
          _ _ _ _ c.make_amounts.result c.in_ok-make_mesh.ensures.made c.make_amounts.ensures.made;
    }
