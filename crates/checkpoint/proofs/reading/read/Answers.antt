-- What was read, in the words of the file.
use Rattle.std.proofs.Common.{append-nil, ◌∙◌}
use Rattle.std.proofs.lemmas.Result.{IfErr-weaker, IfOk-weaker}
use Rattle.checkpoint.specs.Spelling.{bytes_of}
use Rattle.checkpoint.specs.SavedStates.{saved}
use Rattle.checkpoint.proofs.FaultKinds.{known-fault}
use Rattle.checkpoint.proofs.reading.read.Goals as goal

pub returns-clause-read : goal.returns-clause-read
returns-clause-read c =
    IfOk-weaker c.from_magic.result _ _ (λ s h. (h.kept, h.bytes_are ∙ append-nil (bytes_of (saved s.params s.cycle s.set.places s.blocks.items s.ledger)))) c.from_magic.ensures.state

pub returns-clause-grid : goal.returns-clause-grid
returns-clause-grid c = IfOk-weaker c.from_magic.result _ _ (λ s h. h.grid) c.from_magic.ensures.state

pub returns-clause-blocks : goal.returns-clause-blocks
returns-clause-blocks c = IfOk-weaker c.from_magic.result _ _ (λ s h. h.blocks) c.from_magic.ensures.state

pub returns-clause-ledger : goal.returns-clause-ledger
returns-clause-ledger c = IfOk-weaker c.from_magic.result _ _ (λ s h. h.ledger) c.from_magic.ensures.state

pub returns-clause-zero : goal.returns-clause-zero
returns-clause-zero c = IfOk-weaker c.from_magic.result _ _ (λ s h. (h.no_total, h.no_gone)) c.from_magic.ensures.state

pub returns-clause-fault : goal.returns-clause-fault
returns-clause-fault c = IfErr-weaker c.from_magic.result _ _ (λ f h. known-fault c.args.bytes.now f h) c.from_magic.ensures.fault
