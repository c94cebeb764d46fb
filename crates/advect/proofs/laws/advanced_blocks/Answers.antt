-- The laws, from their lemmas.
use Rattle.advect.proofs.AdvancedBlocks.{advanced-cell, leaf-advanced, mesh-advanced}
use Rattle.advect.proofs.laws.advanced_blocks.Goals as goal

pub returns-clause-cell : goal.returns-clause-cell
returns-clause-cell d s flow i b new f c w limits k samples step hf e = advanced-cell s w flow i b new limits k samples step f c hf e

pub returns-clause-leaf : goal.returns-clause-leaf
returns-clause-leaf d s flow i b new w limits new_limits k samples step = leaf-advanced s w flow i b new limits new_limits k samples step

pub returns-clause-mesh : goal.returns-clause-mesh
returns-clause-mesh d flow grid leaves n fields depth blocks news g m balanced edge w samples advanced = mesh-advanced flow grid leaves n fields depth blocks news g m balanced edge w samples advanced
