-- Notes of the directions in which some region is filed.
use Rattle.std.specs.Prelude.{◌≡◌, Bool, true, false, List, length, slice_index_or}
use Rattle.ghost_pieces.specs.Filing.{Source}
use Rattle.ghost_pieces.specs.Regions.{Member}

-- of each of the 27 directions it is noted whether a region of it stands in the list
pub record AreNoted (noted : List Bool) (filed : List Source) : Type 0 where
  pub long : length noted ≡ 27
  pub all : (k : Source) → Member filed k → slice_index_or noted k.direction false ≡ true
