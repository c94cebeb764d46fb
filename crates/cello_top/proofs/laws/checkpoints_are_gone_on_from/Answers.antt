-- By the run that goes on.
use Rattle.cello_top.proofs.GoneOnFrom.{goes_on}
use Rattle.cello_top.proofs.laws.checkpoints_are_gone_on_from.Goals as goal

pub returns : goal.returns
returns c = record {
  goes_on = λ p all limit cycle file before later accepted ends few acted words name bytes past answer is at answers.
      goes_on c.one_reading.ensures.one c.each_demo_has_a_summary.ensures.one p cycle file all limit later
      (c.written_checkpoints_resume.ensures.goes_on p all limit cycle file before later accepted ends few acted) words name bytes past answer is at answers;
}
