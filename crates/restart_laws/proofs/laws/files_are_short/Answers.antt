-- Few amounts, few places, and a short text.
use Rattle.restart_laws.proofs.ShortFiles.{kept-short, kept-stands}
use Rattle.restart_laws.proofs.laws.files_are_short.Goals as goal

pub returns-clause-short : goal.returns-clause-short
returns-clause-short c = kept-short

pub returns-clause-stands : goal.returns-clause-stands
returns-clause-stands c = kept-stands
