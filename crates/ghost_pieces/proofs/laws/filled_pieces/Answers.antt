use Rattle.std.proofs.Common.{refl, sym, subst}
use Rattle.block_fields.specs.BlockStates.{IsLeafOf}
use Rattle.ghost_pieces.proofs.PieceFacts.{carried_size, filled_size, owed_between, samples_sent}
use Rattle.ghost_pieces.proofs.laws.filled_pieces.Goals as goal

pub returns-clause-fits : goal.returns-clause-fits
returns-clause-fits c grid fields b p l h = filled_size grid fields b p l h

pub returns-clause-samples : goal.returns-clause-samples
returns-clause-samples c s i k b ps p w even deep leaf owed at =
    let o = owed_between s.grid s.leaves s.edge b.depth s.fields i k ps p owed at in
    samples_sent s w even b.depth deep b p refl (subst (λ i. IsLeafOf s i b) (sym o.0) leaf) o.2 o.1

pub returns-clause-carried : goal.returns-clause-carried
returns-clause-carried c s d p w even deep h = carried_size s w even d deep p h
