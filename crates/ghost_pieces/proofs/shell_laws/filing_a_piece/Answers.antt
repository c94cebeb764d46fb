use Rattle.ghost_pieces.proofs.Pastes.{cell-filed, cell-kept, limits-filed}
use Rattle.ghost_pieces.proofs.shell_laws.filing_a_piece.Goals as goal

pub returns-clause-cells : goal.returns-clause-cells
returns-clause-cells c b p f i k fits dir hf h = cell-filed b k p fits dir f hf i h

pub returns-clause-others : goal.returns-clause-others
returns-clause-others c b p f g k fits dir hf inside out = cell-kept b k p fits dir f hf g inside out

pub returns-clause-limits : goal.returns-clause-limits
returns-clause-limits c b p k fits dir = limits-filed b k p fits dir
