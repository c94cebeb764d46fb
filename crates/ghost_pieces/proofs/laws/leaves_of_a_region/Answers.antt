use Rattle.ghost_pieces.proofs.BoxLaw.{leaves_level, region_found}
use Rattle.ghost_pieces.proofs.laws.leaves_of_a_region.Goals as goal

pub returns-clause-found : goal.returns-clause-found
returns-clause-found c grid leaves n d r b s dom mesh balanced even deep some there at x = region_found grid leaves n d r b s dom mesh balanced even deep there at some x

pub returns-clause-near : goal.returns-clause-near
returns-clause-near c grid leaves n d r b s dom mesh balanced even deep there at x =
    let o = leaves_level grid leaves n d r b s dom mesh balanced even deep there at x in (o.1, o.0)
