-- The laws, from their lemmas.
use Rattle.advect.proofs.CorrectedBlocks.{corrected-cell, corrected-leaf, corrected-stays}
use Rattle.advect.proofs.laws.corrected_blocks.Goals as goal

pub returns-clause-cell : goal.returns-clause-cell
returns-clause-cell d s fluxes one other i b new faces piece f c w k r hf within_one within_other step e =
    corrected-cell s w fluxes one other i b k faces piece r f hf within_one within_other c e new step

pub returns-clause-leaf : goal.returns-clause-leaf
returns-clause-leaf d s fluxes one other i b new faces piece w k r within_one within_other limits step =
    corrected-leaf s w fluxes one other i b k faces piece r within_one within_other new limits step

pub returns-clause-stays : goal.returns-clause-stays
returns-clause-stays d s fluxes one other i b faces piece f c w k r hf within_one within_other e behind most =
    corrected-stays s w fluxes one other i b k faces piece r f hf within_one within_other c e behind most
