-- The page is empty at first, and what it holds in the end is written.
use Rattle.std.proofs.Common.{ℕ, List, ◌++◌, ap, subst}
use Rattle.cello_io.specs.Writes.{GrewByPart, Wrote}
use Rattle.mesh_output.specs.Pages.{Holds}
use Rattle.mesh_output.proofs.Pages.{Wrote-from_err, Holds-wrote}
use Rattle.checkpoint.specs.SavedStates.{saved}
use Rattle.checkpoint.specs.Spelling.{bytes_of}
use Rattle.checkpoint.proofs.writing.write.Goals as goal

pub returns-in_err-put_state-clause-wrote : goal.returns-in_err-put_state-clause-wrote
returns-in_err-put_state-clause-wrote g c =
    let bytes = bytes_of (saved c.args.state.now.params.now c.args.state.now.cycle c.args.state.now.set.now.places c.args.state.now.blocks.now c.args.state.now.ledger.now) in
    Wrote-from_err _ _ _ bytes c.from_residual.result c.from_residual.ensures.1
    (subst (GrewByPart (g.K.Sink.written c.args.sink.now) (g.K.Sink.written c.put_state.new.sink)) (ap (λ (l : List ℕ). l ++ bytes) c.new-page.ensures.empty) c.in_err-put_state.ensures.puts)

pub returns-clause-wrote : goal.returns-clause-wrote
returns-clause-wrote g c =
    let bytes = bytes_of (saved c.args.state.now.params.now c.args.state.now.cycle c.args.state.now.set.now.places c.args.state.now.blocks.now c.args.state.now.ledger.now) in
    let old = g.K.Sink.written c.args.sink.now in
    let mid = g.K.Sink.written c.put_state.new.sink in
    let new = g.K.Sink.written c.write_all.new.sink in
    let page = c.put_state.new.page in
    Holds-wrote old mid new bytes page c.write_all.result
    (subst (λ (l : List ℕ). Holds old mid l page) (ap (λ (l : List ℕ). l ++ bytes) c.new-page.ensures.empty) c.in_ok-put_state.ensures.puts)
    (subst (Wrote mid new c.write_all.result) c.bytes.ensures.bytes c.write_all.ensures.wrote)
