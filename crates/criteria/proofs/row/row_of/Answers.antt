-- A row lies within the box of its side.
use Rattle.criteria.proofs.RowNumbers.{row-within}
use Rattle.criteria.proofs.row.row_of.Goals as goal

pub returns-clause-within : goal.returns-clause-within
returns-clause-within c = row-within c.args.n c.args.depth c.args.y c.args.z c.requires.shallowest c.requires.y c.requires.z
