use Rattle.std.proofs.Common.{arith}
use Rattle.ghost_pieces.specs.Ghosts.{ghost_cell}
use Rattle.ghost_pieces.proofs.Sources.{ghost_near, has_source, one_source}
use Rattle.ghost_pieces.proofs.laws.one_source_each.Goals as goal

pub returns-clause-some : goal.returns-clause-some
returns-clause-some c grid leaves n d j b g dom mesh balanced even deep at ghost =
    has_source grid leaves dom mesh balanced n even (omega arith) b (ghost_cell grid n d b g) j at (ghost_near grid n d b g (mesh.inside j b at) deep ghost)

pub returns-clause-one : goal.returns-clause-one
returns-clause-one c grid leaves n i j a b v dom mesh s t p q = one_source grid leaves dom mesh n i j a b v s t p q
