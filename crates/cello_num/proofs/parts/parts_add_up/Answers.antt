-- The law, from its lemma.
use Rattle.cello_num.proofs.PartSums.{parts_add, part-zero, part-most}
use Rattle.cello_num.proofs.parts.parts_add_up.Goals as goal

pub returns-clause-adds : goal.returns-clause-adds
returns-clause-adds c q = parts_add q

pub returns-clause-none : goal.returns-clause-none
returns-clause-none c k = part-zero k

pub returns-clause-most : goal.returns-clause-most
returns-clause-most c q k = part-most q k
