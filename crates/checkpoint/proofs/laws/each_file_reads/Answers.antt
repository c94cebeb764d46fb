-- Each file reads.
use Rattle.checkpoint.proofs.EachReads.{each-reads}
use Rattle.checkpoint.proofs.laws.each_file_reads.Goals as goal

pub returns : goal.returns
returns c = record { exists = each-reads }
