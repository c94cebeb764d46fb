-- There is no other.
use Rattle.cello_top.proofs.OneAnswer.{IsAnswer-one}
use Rattle.cello_top.proofs.laws.one_answer.Goals as goal

pub returns : goal.returns
returns c = record { one = IsAnswer-one c.one_reading.ensures.one c.each_demo_has_a_summary.ensures.one }
