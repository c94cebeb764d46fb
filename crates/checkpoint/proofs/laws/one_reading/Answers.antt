-- One reading.
use Rattle.checkpoint.proofs.OneReading.{one-reading}
use Rattle.checkpoint.proofs.laws.one_reading.Goals as goal

pub returns : goal.returns
returns c = record { one = one-reading c.packing_is_one_to_one.ensures.one_place }
