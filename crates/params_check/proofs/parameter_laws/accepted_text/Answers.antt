-- What is left of the proof of this function.
use Rattle.params_syntax.proofs.CanonicalTokens.{canonical_text-spells}
use Rattle.params_check.proofs.NoFaults.{accepted-text, accepted-again}
use Rattle.params_check.proofs.parameter_laws.accepted_text.Goals as goal

pub returns-clause-text : goal.returns-clause-text
returns-clause-text c = accepted-text

pub returns-clause-again : goal.returns-clause-again
returns-clause-again c = accepted-again canonical_text-spells
