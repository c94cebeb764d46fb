-- The law, from its lemma.
use Rattle.block_index.proofs.Moved.{moved-inside, moved-stays, moved-step, moved-around, nearest-before, nearest-after}
use Rattle.block_index.proofs.axis_laws.coordinates_moved_inside.Goals as goal

pub returns : goal.returns
returns c = record {
  inside = moved-inside;
  stays = moved-stays;
  step = moved-step;
  around = moved-around;
  nearest_before = nearest-before;
  nearest_after = nearest-after;
}
