-- The law, from its lemma.
use Rattle.block_fields.proofs.StatesOfBlocks.{HaveCells-before, IsState-state_by, held-state_by, total-state_by}
use Rattle.block_fields.proofs.block_laws.second_copies_of_a_mesh.Goals as goal

pub returns-clause-state : goal.returns-clause-state
returns-clause-state c grid leaves n fields depth blocks g m balanced edge w =
    IsState-state_by (λ b. b.before) grid leaves n fields blocks w.places (HaveCells-before leaves n fields depth blocks w) g m balanced edge

pub returns-clause-total : goal.returns-clause-total
returns-clause-total c grid n fields blocks f = total-state_by (λ b. b.before) grid n fields blocks f

pub returns-clause-held : goal.returns-clause-held
returns-clause-held c grid leaves n fields depth blocks i f b d g m w at e =
    held-state_by (λ b. b.before) grid leaves n fields blocks w.places (HaveCells-before leaves n fields depth blocks w) g m i f b d at e
