-- The law, from its lemma.
use Rattle.params_syntax.proofs.CanonicalTokens.{canonical_text-spells}
use Rattle.params_syntax.proofs.writing_laws.canonical_text_reads_again.Goals as goal

pub returns : goal.returns
returns c = record { spells = canonical_text-spells }
