-- A checkpoint's name tells the cycle of which it is the last file.
use Rattle.restart_laws.proofs.WrittenCheckpoints.{written-goes-on}
use Rattle.restart_laws.proofs.laws.written_checkpoints_resume.Goals as goal

pub returns : goal.returns
returns c = record {
  goes_on = λ p all limit cycle bytes before later a ends few wrote.
      written-goes-on c.names_of_their_own.ensures.kinds c.names_of_their_own.ensures.state p cycle bytes few a all limit ends before later wrote;
}
