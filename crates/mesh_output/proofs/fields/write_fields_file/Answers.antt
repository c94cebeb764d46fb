-- Where the writing ends: at the creation, in the bytes, or at the sealing.
use Rattle.std.proofs.Common.{◌≡◌, ◌∙◌, ap, rules}
use Rattle.block_fields.specs.BlockStates.{state_of}
use Rattle.mesh_output.specs.FieldFiles.{field_bytes}
use Rattle.mesh_output.specs.Pens.{PenRest}
use Rattle.mesh_output.proofs.Filing.{WritesFile-create, WritesFile-pen, WritesFile-seal}
use Rattle.mesh_output.proofs.fields.write_fields_file.Goals as goal

pub returns-in_err-create : goal.returns-in_err-create
returns-in_err-create g c = record {
  filed = λ n fields depth are. WritesFile-create _ c.args.name (field_bytes c.args.cycle (state_of c.args.set.now.grid n fields c.args.blocks.now)) _ _ _ c.from_residual.result c.from_residual.ensures.1 c.in_err-create.ensures.creates;
}

pub returns-in_err-write_fields : goal.returns-in_err-write_fields
returns-in_err-write_fields g c =
    let same : c.shelf-1.given.0 ≡ c.write_fields.new.sink.shelf.now = search rules in
    record {
      filed = λ n fields depth are. rw same (WritesFile-pen _ c.args.name (field_bytes c.args.cycle (state_of c.args.set.now.grid n fields c.args.blocks.now)) (g.H.Shelf.tells c.args.shelf.now) (g.H.Shelf.tells c.create.new.self) (g.H.Shelf.tells c.write_fields.new.sink.shelf.now)
          _ _ c.from_residual-in_err-write_fields.result c.from_residual-in_err-write_fields.ensures.1 c.in_ok-create.ensures.creates
          (ap (λ (r : PenRest). r.around) (c.in_err-write_fields.ensures.same_rest ∙ c.on.ensures.rest))
          (rw c.on.ensures.written at (c.in_err-write_fields.ensures.wrote n fields depth are))
          (rw c.on.ensures.write_faults at c.in_err-write_fields.ensures.cause));
    }

pub returns : goal.returns
returns g c =
    let same : c.shelf-1.given.0 ≡ c.write_fields.new.sink.shelf.now = search rules in
    record {
      filed = λ n fields depth are. WritesFile-seal c.args.name (field_bytes c.args.cycle (state_of c.args.set.now.grid n fields c.args.blocks.now)) (g.H.Shelf.tells c.args.shelf.now) (g.H.Shelf.tells c.create.new.self) (g.H.Shelf.tells c.write_fields.new.sink.shelf.now) (g.H.Shelf.tells c.seal.new.self)
          _ c.seal.result c.in_ok-create.ensures.creates
          (ap (λ (r : PenRest). r.around) (c.in_ok-write_fields.ensures.same_rest ∙ c.on.ensures.rest))
          (rw c.on.ensures.written at (c.in_ok-write_fields.ensures.wrote n fields depth are))
          (rw c.on.ensures.write_faults at c.in_ok-write_fields.ensures.cause)
          (rw same at c.seal.ensures.seals);
    }
