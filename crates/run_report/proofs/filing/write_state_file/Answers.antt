-- Where the writing ends: at the creation, in the bytes, or at the sealing.
use Rattle.std.proofs.Common.{◌≡◌, ◌∙◌, ap, rules}
use Rattle.checkpoint.specs.SavedStates.{saved}
use Rattle.checkpoint.specs.Spelling.{bytes_of}
use Rattle.mesh_output.specs.Pens.{PenRest}
use Rattle.mesh_output.proofs.Filing.{WritesFile-create, WritesFile-pen, WritesFile-seal}
use Rattle.run_report.proofs.filing.write_state_file.Goals as goal

pub returns-in_err-create : goal.returns-in_err-create
returns-in_err-create g c = record {
  filed = WritesFile-create _ c.args.name (bytes_of (saved c.args.state.now.params.now c.args.state.now.cycle c.args.state.now.set.now.places c.args.state.now.blocks.now c.args.state.now.ledger.now)) _ _ _ c.from_residual.result c.from_residual.ensures.1 c.in_err-create.ensures.creates;
}

pub returns-in_err-write : goal.returns-in_err-write
returns-in_err-write g c =
    let same : c.shelf-1.given.0 ≡ c.write.new.sink.shelf.now = search rules in
    record {
      filed = rw same (WritesFile-pen _ c.args.name (bytes_of (saved c.args.state.now.params.now c.args.state.now.cycle c.args.state.now.set.now.places c.args.state.now.blocks.now c.args.state.now.ledger.now)) (g.H.Shelf.tells c.args.shelf.now) (g.H.Shelf.tells c.create.new.self) (g.H.Shelf.tells c.write.new.sink.shelf.now)
          _ _ c.from_residual-in_err-write.result c.from_residual-in_err-write.ensures.1 c.in_ok-create.ensures.creates
          (ap (λ (r : PenRest). r.around) (c.in_err-write.ensures.same_rest ∙ c.on.ensures.rest))
          (rw c.on.ensures.written at c.in_err-write.ensures.wrote)
          (rw c.on.ensures.write_faults at c.in_err-write.ensures.cause));
    }

pub returns : goal.returns
returns g c =
    let same : c.shelf-1.given.0 ≡ c.write.new.sink.shelf.now = search rules in
    record {
      filed = WritesFile-seal c.args.name (bytes_of (saved c.args.state.now.params.now c.args.state.now.cycle c.args.state.now.set.now.places c.args.state.now.blocks.now c.args.state.now.ledger.now)) (g.H.Shelf.tells c.args.shelf.now) (g.H.Shelf.tells c.create.new.self) (g.H.Shelf.tells c.write.new.sink.shelf.now) (g.H.Shelf.tells c.seal.new.self)
          _ c.seal.result c.in_ok-create.ensures.creates
          (ap (λ (r : PenRest). r.around) (c.in_ok-write.ensures.same_rest ∙ c.on.ensures.rest))
          (rw c.on.ensures.written at c.in_ok-write.ensures.wrote)
          (rw c.on.ensures.write_faults at c.in_ok-write.ensures.cause)
          (rw same at c.seal.ensures.seals);
    }
