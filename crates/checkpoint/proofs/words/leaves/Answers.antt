-- Places that are refused.
use Rattle.std.proofs.Common.{rules}
use Rattle.checkpoint.proofs.PlaceWords.{no-mesh-here}
use Rattle.checkpoint.proofs.words.leaves.Goals as goal

pub returns-in-Err-clause-fault : goal.returns-in-Err-clause-fault
returns-in-Err-clause-fault c = c.in-Err.ensures.fault c.args.domain

pub returns-in-Err-from_places : goal.returns-in-Err-from_places
returns-in-Err-from_places c = record {
  sound = tt;
  grid = tt;
  places = tt;
  fault = no-mesh-here c.args.domain c.args.bytes.now c.in-Ok.places.items c.in-Err-from_places.fault c.in-Ok.ensures.limits c.in-Ok.ensures.places
      c.in-Err-from_places.ensures.fault (λ e. search (rules, e, c.in-Err-from_places.fault-is));
}
