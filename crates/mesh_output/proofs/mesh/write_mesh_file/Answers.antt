-- Where the writing ends: at the creation, in the bytes, or at the sealing.
use Rattle.std.proofs.Common.{◌≡◌, ◌∙◌, ap, rules}
use Rattle.mesh_output.specs.Lines.{mesh_text}
use Rattle.mesh_output.specs.Pens.{PenRest}
use Rattle.mesh_output.proofs.Filing.{WritesFile-create, WritesFile-pen, WritesFile-seal}
use Rattle.mesh_output.proofs.mesh.write_mesh_file.Goals as goal

pub returns-in_err-create : goal.returns-in_err-create
returns-in_err-create g c = record {
  filed = WritesFile-create _ c.args.name (mesh_text c.args.set.now.places) _ _ _ c.from_residual.result c.from_residual.ensures.1 c.in_err-create.ensures.creates;
}

pub returns-in_err-write_mesh : goal.returns-in_err-write_mesh
returns-in_err-write_mesh g c =
    let same : c.shelf-1.given.0 ≡ c.write_mesh.new.sink.shelf.now = search rules in
    record {
      filed = rw same (WritesFile-pen _ c.args.name (mesh_text c.args.set.now.places) (g.H.Shelf.tells c.args.shelf.now) (g.H.Shelf.tells c.create.new.self) (g.H.Shelf.tells c.write_mesh.new.sink.shelf.now)
          _ _ c.from_residual-in_err-write_mesh.result c.from_residual-in_err-write_mesh.ensures.1 c.in_ok-create.ensures.creates
          (ap (λ (r : PenRest). r.around) (c.in_err-write_mesh.ensures.same_rest ∙ c.on.ensures.rest))
          (rw c.on.ensures.written at c.in_err-write_mesh.ensures.wrote)
          (rw c.on.ensures.write_faults at c.in_err-write_mesh.ensures.cause));
    }

pub returns : goal.returns
returns g c =
    let same : c.shelf-1.given.0 ≡ c.write_mesh.new.sink.shelf.now = search rules in
    record {
      filed = WritesFile-seal c.args.name (mesh_text c.args.set.now.places) (g.H.Shelf.tells c.args.shelf.now) (g.H.Shelf.tells c.create.new.self) (g.H.Shelf.tells c.write_mesh.new.sink.shelf.now) (g.H.Shelf.tells c.seal.new.self)
          _ c.seal.result c.in_ok-create.ensures.creates
          (ap (λ (r : PenRest). r.around) (c.in_ok-write_mesh.ensures.same_rest ∙ c.on.ensures.rest))
          (rw c.on.ensures.written at c.in_ok-write_mesh.ensures.wrote)
          (rw c.on.ensures.write_faults at c.in_ok-write_mesh.ensures.cause)
          (rw same at c.seal.ensures.seals);
    }
