-- The law, from its lemma.
use Rattle.params_syntax.proofs.EachReads.{each_reads}
use Rattle.params_syntax.proofs.reading_laws.each_text_reads.Goals as goal

pub returns : goal.returns
returns c = record { some = each_reads }
