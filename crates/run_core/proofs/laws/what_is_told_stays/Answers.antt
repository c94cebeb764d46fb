-- Each step tells more.
use Rattle.run_core.proofs.RunPrefixes.{told-grew}
use Rattle.run_core.proofs.laws.what_is_told_stays.Goals as goal

pub returns : goal.returns
returns c = record {
  grows = λ s told run limit at is ends.
      (let grew = told-grew s.course s.set s.ledger s.phase s.stage told run limit ends s.step at is in
      (grew.more, grew.is));
}
