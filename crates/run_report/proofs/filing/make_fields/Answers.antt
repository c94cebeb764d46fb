-- The file that is due.
use Rattle.std.proofs.Common.{length}
use Rattle.mesh_output.specs.FieldFiles.{field_bytes}
use Rattle.run_core.specs.Runs.{blocks_state}
use Rattle.run_report.specs.FileNames.{fields_name}
use Rattle.run_report.proofs.MadeActions.{makes-due}
use Rattle.run_report.proofs.filing.make_fields.Goals as goal

pub returns : goal.returns
returns g c =
    let state = c.args.state.now in
    let p = state.params.now in
    record {
      made = makes-due c.args.due c.fields_name.result (fields_name state.cycle) (field_bytes state.cycle (blocks_state p state.blocks.now)) _ _ c.write_fields_file.result c.if-not-due.false c.fields_name.ensures.name
          (c.write_fields_file.ensures.filed p.block (length p.fields) _ c.requires.blocks);
    }
