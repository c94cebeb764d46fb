use Rattle.prolong_restrict.proofs.JoinNumbers.{row_below-within}
use Rattle.prolong_restrict.proofs.join.row_below.Goals as goal

pub returns-clause-within : goal.returns-clause-within
returns-clause-within c = row_below-within c.args.n c.args.r c.requires.even c.requires.least
