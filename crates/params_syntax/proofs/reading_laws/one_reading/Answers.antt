-- The law, from its lemma.
use Rattle.params_syntax.proofs.OneReading.{same_reading}
use Rattle.params_syntax.proofs.reading_laws.one_reading.Goals as goal

pub returns : goal.returns
returns c = record { one = same_reading }
