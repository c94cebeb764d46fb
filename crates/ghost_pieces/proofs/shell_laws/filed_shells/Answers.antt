use Rattle.std.proofs.lemmas.Bool.{false≢true}
use Rattle.ghost_pieces.proofs.FiledShells.{holds_all, holds_more}
use Rattle.ghost_pieces.proofs.shell_laws.filed_shells.Goals as goal

pub returns-clause-none : goal.returns-clause-none
returns-clause-none c s j b r g f e t hf x = absurd (false≢true t)

pub returns-clause-more : goal.returns-clause-more
returns-clause-more c s j filed b p w k leaf to carries holds = holds_more s w j b k leaf p to carries filed holds

pub returns-clause-all : goal.returns-clause-all
returns-clause-all c s j filed b w k leaf all holds = holds_all s w j b k leaf filed all holds
