-- What is left of the proof of this function.
use Rattle.std.proofs.Common.{refl}
use Rattle.params_check.specs.Examples.{drop_text}
use Rattle.params_check.specs.Parameters.{values_of}
use Rattle.params_check.proofs.OneAccepted.{drop_tree, drop_tree-limits, drop_tree-text, drop_tree-accepted, drop_tree-total}
use Rattle.params_check.proofs.parameter_laws.a_short_text_is_accepted.Goals as goal

pub returns-clause-length : goal.returns-clause-length
unfolding drop_text
returns-clause-length c = refl

pub returns-clause-accepted : goal.returns-clause-accepted
returns-clause-accepted c = (drop_tree, values_of drop_tree, drop_tree-limits, drop_tree-text, drop_tree-accepted, drop_tree-total)
