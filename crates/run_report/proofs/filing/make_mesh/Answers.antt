-- The file that is due.
use Rattle.std.proofs.Common.{List, sym, subst}
use Rattle.block_index.specs.Places.{Cube}
use Rattle.mesh_output.specs.Lines.{mesh_text}
use Rattle.run_report.specs.Actions.{file, where_due}
use Rattle.run_report.specs.FileNames.{mesh_name}
use Rattle.run_report.specs.Outputs.{MakesFiles}
use Rattle.run_report.proofs.MadeActions.{makes-due}
use Rattle.run_report.proofs.filing.make_mesh.Goals as goal

pub returns : goal.returns
returns g c =
    let state = c.args.state.now in
    let old = g.H.Shelf.tells c.args.shelf.now in
    let new = g.H.Shelf.tells c.write_mesh_file.new.shelf in
    record {
      made = subst (λ (leaves : List Cube). MakesFiles (where_due c.args.due (file (mesh_name state.cycle) (mesh_text leaves))) old new c.write_mesh_file.result) (sym c.requires.blocks.places)
          (makes-due c.args.due c.mesh_name.result (mesh_name state.cycle) (mesh_text state.set.now.places) old new c.write_mesh_file.result c.if-not-due.false c.mesh_name.ensures.name c.write_mesh_file.ensures.filed);
    }
