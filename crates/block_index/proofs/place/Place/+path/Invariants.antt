-- What holds at each turn of the loop.
use Rattle.block_index.proofs.place.Place.+path.Given as goal

abbrev pub decreases-path : goal.decreases-path
decreases-path l = l.self.level
