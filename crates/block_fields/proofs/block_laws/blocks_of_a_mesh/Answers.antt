-- The law, from its lemma.
use Rattle.std.proofs.Common.{◌*◌, ◌∙◌, ap, arith}
use Rattle.block_fields.proofs.StatesOfBlocks.{HaveCells-amounts, IsState-state_by, filled-state_by, held-state_by, lists-filled, total-state_by}
use Rattle.block_fields.proofs.block_laws.blocks_of_a_mesh.Goals as goal

pub returns-clause-state : goal.returns-clause-state
returns-clause-state c grid leaves n fields depth blocks g m balanced edge w =
    IsState-state_by (λ b. b.amounts) grid leaves n fields blocks w.places (HaveCells-amounts leaves n fields depth blocks w) g m balanced edge

pub returns-clause-total : goal.returns-clause-total
returns-clause-total c grid n fields blocks f = total-state_by (λ b. b.amounts) grid n fields blocks f

pub returns-clause-held : goal.returns-clause-held
returns-clause-held c grid leaves n fields depth blocks i f b d g m w at e =
    held-state_by (λ b. b.amounts) grid leaves n fields blocks w.places (HaveCells-amounts leaves n fields depth blocks w) g m i f b d at e

pub returns-clause-filled : goal.returns-clause-filled
returns-clause-filled c grid leaves n fields depth blocks given w same =
    filled-state_by (λ b. b.amounts) grid leaves n fields blocks given w.places same

pub returns-clause-by_cells : goal.returns-clause-by_cells
returns-clause-by_cells c n fields depth b given w same =
    let e = w.same_edge in
    let least = w.limits.least in
    lists-filled b.amounts n fields b.place given (omega arith) w.same_fields (λ f p t. w.limits.all_cells f p t ∙ ap (λ k. k * k * k) e) same
