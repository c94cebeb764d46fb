use Rattle.ghost_pieces.proofs.BoxLaw.{region_is_box}
use Rattle.ghost_pieces.proofs.Few.{regions_few, regions_room}
use Rattle.ghost_pieces.proofs.Owed.{region_over, one_region, region_touches}
use Rattle.ghost_pieces.proofs.laws.regions_cover.Goals as goal

pub returns-clause-over : goal.returns-clause-over
returns-clause-over c grid leaves n d j b g dom mesh balanced even deep at gh = region_over grid leaves dom mesh balanced n d even deep j b g at gh

pub returns-clause-one : goal.returns-clause-one
returns-clause-one c grid leaves n d r q g dom mesh balanced e x y = one_region grid leaves dom mesh balanced n d r q g e x y

pub returns-clause-touch : goal.returns-clause-touch
returns-clause-touch c grid leaves n d r g dom mesh balanced even deep x = region_touches grid leaves dom mesh balanced n d even deep r g x

pub returns-clause-as_box : goal.returns-clause-as_box
returns-clause-as_box c grid leaves n d r b s g dom mesh balanced even deep some there at x = region_is_box grid leaves n d r b s dom mesh balanced even deep there at some g x

pub returns-clause-few : goal.returns-clause-few
returns-clause-few c grid leaves n d j rs dom mesh even deep some o each = regions_few grid leaves n d j dom mesh even deep some rs o each

pub returns-clause-room : goal.returns-clause-room
returns-clause-room c grid leaves n d j rs q dom mesh even deep some o each e x none = regions_room grid leaves n d j dom mesh even deep some rs q o each e x none
