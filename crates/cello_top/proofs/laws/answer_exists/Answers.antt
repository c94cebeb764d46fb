-- There is one.
use Rattle.cello_top.proofs.AnswerExists.{answer_exists}
use Rattle.cello_top.proofs.laws.answer_exists.Goals as goal

pub returns : goal.returns
returns c = record { exists = answer_exists c.each_file_reads.ensures.exists c.each_demo_has_a_summary.ensures.exists }
