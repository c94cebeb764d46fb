use Rattle.ghost_pieces.proofs.AllOwed.{all_owed}
use Rattle.ghost_pieces.proofs.laws.regions_owed.Goals as goal

pub returns : goal.returns
returns c = record { all = λ grid leaves n d lists l each. all_owed grid leaves n d lists l each }
