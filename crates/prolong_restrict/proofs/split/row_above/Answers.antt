use Rattle.prolong_restrict.proofs.SplitNumbers.{row_above-within}
use Rattle.prolong_restrict.proofs.split.row_above.Goals as goal

pub returns-clause-within : goal.returns-clause-within
returns-clause-within c =
    row_above-within c.args.n c.args.k c.args.r c.requires.even c.requires.least c.requires.k c.requires.r
